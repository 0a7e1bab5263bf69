use Rattle.std.proofs.Common.{◌≡◌, ◌↔◌, ◌∙◌, suc, true, false, refl, sym, inr}
use Rattle.std.specs.Prelude.{ℤ, Bool, pos, negsuc, IsTrue}
use Rattle.std.proofs.lemmas.Bool.{false_from_ne_true}
use mathlib.Core.Bool.{beq}
use Rattle.sat_base.specs.Literals.{var_of}
use Rattle.cdcl_core.specs.State.{IsTrueBy}
use Rattle.cdcl_core.proofs.solver.touch_against.Goals as goal

-- a literal is true by the value that it asks for
true_by : (value positive : Bool) (lit : ℤ) → positive ≡ value → (IsTrue positive ↔ (lit ≡ pos (var_of lit))) → IsTrueBy value lit
true_by value positive (pos v) same is = sym same ∙ is.1 refl
true_by value positive (negsuc v) same is = sym same ∙ false_from_ne_true positive (λ t. (let e : negsuc v ≡ pos (suc v) = is.0 t in cc))

same_bit : (a b : Bool) → beq a b ≡ true → a ≡ b
same_bit true true e = refl
same_bit true false e = sym e
same_bit false true e = e
same_bit false false e = refl

pub returns-then-is_positive-default-clause-touched : goal.returns-then-is_positive-default-clause-touched
returns-then-is_positive-default-clause-touched c =
    let same = same_bit c.is_positive.result c.args.default c.if-is_positive-default.true in
    inr (true_by c.args.default c.is_positive.result c.args.lit same c.is_positive.ensures)
