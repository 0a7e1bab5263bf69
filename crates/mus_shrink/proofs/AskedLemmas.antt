-- What questions about several groups add up to.
use Rattle.std.proofs.Common.{◌≡◌, ℕ, ◌+◌, ◌≤◌, not, List, length, refl, sym, ◌∙◌, ap, subst, arith}
use Rattle.std.specs.List.{filter}
use Rattle.std.proofs.lemmas.List.Filters.{length-filter_both}
use Rattle.gm_base.specs.Sets.{has}
use Rattle.gm_base.specs.Problem.{Problem}
use Rattle.evidence_rec.specs.Asking.{OracleState, IsSpent, IsHonestOver}
use Rattle.evidence_rec.proofs.AskingLemmas.{IsSpent-same, IsSpent-then}

-- the oracle was asked at most so many questions
pub record IsAfter (p : Problem) (old new : OracleState) (before left asked : ℕ) : Type 0 where
  pub asks : new.asks ≤ old.asks + asked
  pub honest : IsHonestOver p old.log → IsHonestOver p new.log
  pub spent : IsSpent old new before left

pub after_none : (p : Problem) (o : OracleState) (left : ℕ) → IsAfter p o o left left 0
after_none p o left = record { asks = omega arith; honest = λ was. was; spent = IsSpent-same o left }

pub after_more : (p : Problem) (old mid new : OracleState) (before between left asked more : ℕ) → p ≡ old.problem
    → IsAfter p old mid before between asked → new.asks ≤ mid.asks + more → (IsHonestOver mid.problem mid.log → IsHonestOver new.problem new.log)
    → IsSpent mid new between left → IsAfter p old new before left (asked + more)
after_more p old mid new before between left asked more is h asks honest spent =
    let first = h.asks in
    record {
      asks = omega arith;
      honest = λ was.
          subst (λ (q : Problem). IsHonestOver q new.log) (spent.problem ∙ h.spent.problem ∙ sym is)
          (honest (subst (λ (q : Problem). IsHonestOver q mid.log) (is ∙ sym h.spent.problem) (h.honest was)));
      spent = IsSpent-then old mid new before between left h.spent spent;
    }

-- each group of the set is in one of its two parts
pub parts_count : (set last others lasts : List ℕ) → others ≡ filter (λ g. not (has last g)) set → lasts ≡ filter (has last) set
    → length others + length lasts ≡ length set
parts_count set last others lasts is_others is_lasts =
    let both = length-filter_both (has last) (λ g. not (has last g)) (λ g. refl) set in
    let one = ap length is_others in
    let two = ap length is_lasts in
    omega arith
