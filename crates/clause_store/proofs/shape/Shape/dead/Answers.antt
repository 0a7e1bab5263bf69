use Rattle.std.proofs.Common.{◌≡◌, ℕ, ◌*◌, ◌/◌, ◌%◌, ap, arith}
use Rattle.std.specs.Prelude.{◌==◌}
use Rattle.clause_store.proofs.shape.Shape.dead.Goals as goal

-- the lowest bit is cleared
pub returns-clause-dead : goal.returns-clause-dead
returns-clause-dead c =
    let even : c.args.self.bits / 2 * 2 % 2 ≡ 0 = omega arith in
    ap (λ (n : ℕ). n == 1) even
