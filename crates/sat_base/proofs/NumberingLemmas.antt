-- Lemmas on numbers without gaps.
use Rattle.std.proofs.Common.{◌≡◌, ℕ, zero, suc, ◌+◌, ◌≤◌, List, [], ◌∷◌, map, All, inl, inr, arith}
use Rattle.std.specs.Prelude.{nat_le}
use Rattle.std.proofs.lemmas.Bool.{cases_Bool, cond-true, cond-false, leb-true}
use Rattle.sat_base.specs.Derivation.{Step, max_id, HasIds}
use Rattle.sat_base.specs.Numbering.{Numbering, IsNumbering, place_in, number_by, renumbered}
use Rattle.sat_base.proofs.PlaceLemmas.{place_at_most}

-- all numbers are small
pub number_small : (by : Numbering) (id : ℕ) → IsNumbering by → number_by by id ≤ max_id
number_small by id is =
    let most = place_at_most by.ids id in
    let few = is.few in
    let inputs = is.inputs in
    elim (cases_Bool (nat_le id by.inputs)) [
      | inl low ↦
          let same : number_by by id ≡ id = cond-true (nat_le id by.inputs) id (by.inputs + 1 + place_in by.ids id) low in
          let within : id ≤ by.inputs = leb-true id by.inputs low in
          omega arith
      | inr high ↦
          let same : number_by by id ≡ by.inputs + 1 + place_in by.ids id = cond-false (nat_le id by.inputs) id (by.inputs + 1 + place_in by.ids id) high in
          omega arith
    ]

number_small_all : (by : Numbering) (ids : List ℕ) → ((id : ℕ) → number_by by id ≤ max_id) → All (λ h. h ≤ max_id) (map (number_by by) ids)
number_small_all by [] small k d lt = absurd (omega arith)
number_small_all by (x ∷ ids) small zero d lt = small x
number_small_all by (x ∷ ids) small (suc k) d lt = number_small_all by ids small k d (omega arith)

ids_small : (by : Numbering) (steps : List Step) → ((id : ℕ) → number_by by id ≤ max_id) → All (λ (s : Step). s.id ≤ max_id) (map (renumbered by) steps)
ids_small by [] small k d lt = absurd (omega arith)
ids_small by (s ∷ steps) small zero d lt = small s.id
ids_small by (s ∷ steps) small (suc k) d lt = ids_small by steps small k d (omega arith)

hints_small : (by : Numbering) (steps : List Step) → ((id : ℕ) → number_by by id ≤ max_id) → All (λ (s : Step). All (λ h. h ≤ max_id) s.hints) (map (renumbered by) steps)
hints_small by [] small k d lt = absurd (omega arith)
hints_small by (s ∷ steps) small zero d lt = number_small_all by s.hints small
hints_small by (s ∷ steps) small (suc k) d lt = hints_small by steps small k d (omega arith)

-- the numbers are what an evidence text can hold
pub renumbered_fit : (by : Numbering) (steps : List Step) (goal : ℕ) → ((id : ℕ) → number_by by id ≤ max_id) → goal ≤ max_id → HasIds (record { steps = map (renumbered by) steps; goal = goal })
renumbered_fit by steps goal small least = record { ids = ids_small by steps small; hints = hints_small by steps small; goal = least }
