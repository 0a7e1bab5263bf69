use Rattle.std.proofs.Common.{◌+◌, arith}
use Rattle.trail_book.specs.Trail.{oldest}
use Rattle.trail_book.proofs.TrailLemmas.{trail_vars}
use Rattle.cdcl_core.proofs.UnitLemmas.{literal_in}
use Rattle.cdcl_core.proofs.restart.is_later.Goals as goal

-- what stands on the trail is a literal over the variables
pub urgency-requires : goal.urgency-requires
urgency-requires c =
    let t = c.args.trail.now in
    let on = literal_in (c.args.place + 1) t.entries c.entry-entry.result (oldest c.args.place t.entries) c.entry-entry.ensures in
    let literal = trail_vars t.vars t.entries c.vars-vars.ensures.trail c.entry-entry.result.lit on in
    omega (arith, literal.in_range, literal.not_zero, c.var.ensures.same)
