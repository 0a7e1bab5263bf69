use Rattle.std.proofs.Common.{ℕ, arith, subst, sym}
use Rattle.std.specs.Prelude.{pos}
use Rattle.sat_base.specs.Literals.{var_of}
use Rattle.sat_base.specs.Units.{HasValue}
use Rattle.trail_book.specs.Trail.{trues, IsPlace}
use Rattle.trail_book.proofs.PlaceLemmas.{place_of_var}
use Rattle.cdcl_core.proofs.EntranceLemmas.{has_value, level_high, level_low}
use Rattle.cdcl_core.proofs.entrance.is_latest.Goals as goal

pub level-requires : goal.level-requires
level-requires c = subst (λ (v : ℕ). HasValue (trues c.args.trail.now.entries) (pos v)) (sym c.var.ensures.same) (has_value (trues c.args.trail.now.entries) c.args.lit c.requires.is_false)

-- what is of the top level was not false before the last decision
pub returns-clause-yes : goal.returns-clause-yes
returns-clause-yes c = λ is.
    let t = c.args.trail.now in
    let x = place_of_var t.entries (var_of c.args.lit) (has_value (trues t.entries) c.args.lit c.requires.is_false) in
    let place = subst (λ (v : ℕ). IsPlace t.entries v x.0) (sym c.var.ensures.same) x.1 in
    let level = c.level.ensures x.0 place in
    level_high t.vars t.entries c.args.lit x.0 c.vars-vars.ensures.trail x.1 c.requires.is_false c.requires.level (grind (arith, level))

-- and what is of a lower one was
pub returns-clause-no : goal.returns-clause-no
returns-clause-no c = λ is.
    let t = c.args.trail.now in
    let x = place_of_var t.entries (var_of c.args.lit) (has_value (trues t.entries) c.args.lit c.requires.is_false) in
    let place = subst (λ (v : ℕ). IsPlace t.entries v x.0) (sym c.var.ensures.same) x.1 in
    let level = c.level.ensures x.0 place in
    level_low t.vars t.entries c.args.lit x.0 c.vars-vars.ensures.trail x.1 c.requires.is_false (grind (arith, level))
