use Rattle.std.proofs.Common.{◌≡◌, ◌∙◌, ◌++◌, ◌-◌, ◌+◌, ◌<◌, ◌^◌, w32, List, [], ◌∷◌, ap, arith}
use Rattle.std.specs.Prelude.{ℤ, pos}
use Rattle.std.proofs.lemmas.Int.{to_z_pos}
use Rattle.trail_book.specs.Trail.{positive_from}
use Rattle.trail_book.proofs.WaitLemmas.{positive_step}
use Rattle.trail_book.proofs.trail.positive.Goals as goal

-- one more
pub loop-var-preserved : goal.loop-var-preserved
loop-var-preserved c =
    let var = c.loop-var.var in
    let vars = c.args.vars in
    let items = c.in_ok-push.ensures.items in
    let small : var + 1 < 2 ^ 31 = omega (arith, c.loop-var-test.true, c.requires) in
    let lit : c.new.result ≡ pos (var + 1) = c.new.ensures ∙ to_z_pos w32 (var + 1) small in
    ap (λ (lits : List ℤ). lits ++ positive_from (var + 1 + 1) (vars - (var + 1))) (items ∙ ap (λ (l : ℤ). c.loop-var.lits.items ++ l ∷ []) lit)
    ∙ positive_step c.loop-var.lits.items (positive_from 1 vars) var vars c.loop-var-test.true c.loop-var.invariant
