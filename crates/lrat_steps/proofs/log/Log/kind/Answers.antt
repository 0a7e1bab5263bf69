use Rattle.std.proofs.Common.{[], sym, ◌∙◌, ap, arith}
use Rattle.sat_base.specs.Blocks.{no_step}
use Rattle.lrat_steps.specs.Log.{kind_of}
use Rattle.lrat_steps.proofs.MarkLemmas.{place_at_id, read_at, read_shown}
use Rattle.lrat_steps.proofs.log.Log.kind.Goals as goal

-- what is shown is an input
pub returns-then-id-shown : goal.returns-then-id-shown
returns-then-id-shown c = sym (ap kind_of ((read_shown c.self.inside c.args.self.now c.args.id c.self.view_is c.requires.from_one (omega arith)).step []))

-- the others have a record
pub index-requires : goal.index-requires
index-requires c =
    let lt = (place_at_id c.self.inside c.args.self.now c.args.id c.from-shown.result c.self.invariant c.self.view_is (c.from-shown.ensures ∙ c.len.ensures) (omega arith) c.requires.within).0 in
    omega arith

pub returns : goal.returns
returns c =
    ap (λ r. r.kind) c.index.ensures
    ∙ (read_at c.self.inside c.args.self.now c.args.id c.from-shown.result c.index.result.now no_step c.self.invariant c.self.view_is (c.from-shown.ensures ∙ c.len.ensures) (omega arith) c.requires.within).kind
