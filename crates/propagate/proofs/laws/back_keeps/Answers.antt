use Rattle.std.proofs.Common.{ℕ, inr, subst, sym}
use Rattle.sat_base.specs.Literals.{IsLiteral}
use Rattle.trail_book.proofs.TrailLemmas.{trail_vars}
use Rattle.propagate.proofs.KeptLemmas.{kept_back}
use Rattle.propagate.proofs.laws.back_keeps.Goals as goal

-- under what is taken back nothing is parked, as under nothing else
pub returns : goal.returns
returns c = λ s old new level unparked trail entries vars done k.
    kept_back s old new 0 level entries vars done trail (λ lit i. inr (unparked.empty lit (subst (λ (v : ℕ). IsLiteral v lit) (sym k.vars) (trail_vars old.vars old.entries trail lit i)))) k
