-- A status that is one of a list.
use Rattle.std.proofs.Common.{ℕ, List, [], ◌∷◌, ◌==◌, inl, inr, sym, subst}
use Rattle.std.specs.List.{AllByRecursion, list_any}
use Rattle.std.proofs.lemmas.Bool.{false≢true, eqb-true, or_cases}
use Rattle.gm_tool.specs.Statuses.{IsAmong}

-- what holds of each of them holds of it
pub among-by : (P : ℕ → Type 0) (statuses : List ℕ) (status : ℕ) → IsAmong statuses status → AllByRecursion P statuses → P status
among-by P [] status among each = absurd (false≢true among)
among-by P (s ∷ rest) status among each =
    elim (or_cases (status == s) (list_any (λ t. status == t) rest) among) [
      | inl here ↦ subst P (sym (eqb-true status s here)) each.0
      | inr there ↦ among-by P rest status there each.1
    ]
