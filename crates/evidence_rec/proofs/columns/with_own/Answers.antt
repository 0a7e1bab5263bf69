use Rattle.std.proofs.Common.{◌==◌, ◌-◌, ap, arith, w64}
use Rattle.std.proofs.lemmas.Nat.Bits.{bit_at_set_other}
use Rattle.evidence_rec.proofs.columns.with_own.Goals as goal

-- another bit stays
pub returns-then-at-from-lt-WIDTH : goal.returns-then-at-from-lt-WIDTH
returns-then-at-from-lt-WIDTH c = λ k within other.
    ap (λ b. b == 1) (bit_at_set_other w64 c.args.column (c.args.at - c.args.from) (omega arith) k (λ same. other (omega (arith, same))))
