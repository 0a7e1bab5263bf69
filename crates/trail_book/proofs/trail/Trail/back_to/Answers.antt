use Rattle.std.proofs.Common.{◌≤◌, ◌∙◌, refl, sym, arith}
use Rattle.trail_book.specs.Trail.{top}
use Rattle.trail_book.proofs.TrailLemmas.{keep-whole}
use Rattle.trail_book.proofs.trail.Trail.back_to.Goals as goal

-- at first nothing is taken back
pub loop-self-init : goal.loop-self-init
loop-self-init c = (refl, refl, c.vars-vars.ensures.trail, refl, refl, refl, refl)

-- where nothing is above the level, all is kept
pub returns-clause-entries : goal.returns-clause-entries
returns-clause-entries c =
    let es = c.loop-self.self.entries in
    let within : top es ≤ c.args.level = omega (arith, c.top.ensures, c.loop-self-test.false) in
    c.cut_done.ensures.entries ∙ sym (keep-whole c.args.level es within) ∙ c.loop-self.invariant.0
