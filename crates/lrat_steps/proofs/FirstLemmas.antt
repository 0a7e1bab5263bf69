-- Lemmas on logs whose inputs come first: their numbers are those that a derivation gives to what it takes from the log.
use Rattle.std.proofs.Common.{◌≡◌, ℕ, zero, suc, ◌+◌, ◌-◌, ◌<◌, ◌≤◌, true, false, List, [], ◌∷◌, map, length, get_or, take, All, refl, sym, ◌∙◌, ap, ap₂, subst, inl, inr, arith}
use Rattle.std.specs.Prelude.{nat_le}
use Rattle.std.proofs.lemmas.Bool.{cases_Bool, cond-true, cond-false, leb-true, leb-false}
use Rattle.sat_base.specs.Members.{In}
use Rattle.sat_base.specs.Derivation.{Step}
use Rattle.sat_base.specs.Numbering.{Numbering, place_in, number_by, renumbered}
use Rattle.sat_base.proofs.DatabaseLemmas.{get_in}
use Rattle.lrat_steps.specs.Log.{LogStep, Input, Learned, Core, Forgot, inputs_of}
use Rattle.lrat_steps.specs.Cone.{is_input, is_input_at, lits_at, hints_at, inputs_up_to, IsBackward, InputsComeFirst, AreDerivedIds, number_in, trimmed_step, kept_at}

-- no more inputs than steps
inputs_most : (steps : List LogStep) (n : ℕ) → length (inputs_of (take n steps)) ≤ n
inputs_most [] zero = omega arith
inputs_most [] (suc n) = omega arith
inputs_most (s ∷ steps) zero = omega arith
inputs_most (Input c ∷ steps) (suc n) = let rest = inputs_most steps n in omega arith
inputs_most (Learned c h ∷ steps) (suc n) = let rest = inputs_most steps n in omega arith
inputs_most (Core c h ∷ steps) (suc n) = let rest = inputs_most steps n in omega arith
inputs_most (Forgot id ∷ steps) (suc n) = let rest = inputs_most steps n in omega arith

pub inputs_within : (steps : List LogStep) → length (inputs_of steps) ≤ length steps
inputs_within [] = omega arith
inputs_within (Input c ∷ steps) = let rest = inputs_within steps in omega arith
inputs_within (Learned c h ∷ steps) = let rest = inputs_within steps in omega arith
inputs_within (Core c h ∷ steps) = let rest = inputs_within steps in omega arith
inputs_within (Forgot id ∷ steps) = let rest = inputs_within steps in omega arith

-- where so many steps have so many inputs, each is one
all_first : (steps : List LogStep) (n at : ℕ) → length (inputs_of (take n steps)) ≡ n → at < n
    → (is_input (get_or steps at (Input [])) ≡ true) × (length (inputs_of (take (suc at) steps)) ≡ suc at)
all_first [] zero at e lt = absurd (omega arith)
all_first [] (suc n) at e lt = absurd (omega arith)
all_first (s ∷ steps) zero at e lt = absurd (omega arith)
all_first (Input c ∷ steps) (suc n) zero e lt = (refl, refl)
all_first (Input c ∷ steps) (suc n) (suc at) e lt = let rest = all_first steps n at (omega arith) (omega arith) in (rest.0, (let count = rest.1 in omega arith))
all_first (Learned c h ∷ steps) (suc n) at e lt = absurd (let most = inputs_most steps n in omega arith)
all_first (Core c h ∷ steps) (suc n) at e lt = absurd (let most = inputs_most steps n in omega arith)
all_first (Forgot id ∷ steps) (suc n) at e lt = absurd (let most = inputs_most steps n in omega arith)

-- and where these are all inputs, no later step is one
none_later : (steps : List LogStep) (n at : ℕ) → length (inputs_of (take n steps)) ≡ length (inputs_of steps) → n ≤ at → at < length steps
    → is_input (get_or steps at (Input [])) ≡ false
none_later [] n at e le lt = absurd (omega arith)
none_later (Input c ∷ steps) zero at e le lt = absurd (omega arith)
none_later (Learned c h ∷ steps) zero zero e le lt = refl
none_later (Core c h ∷ steps) zero zero e le lt = refl
none_later (Forgot id ∷ steps) zero zero e le lt = refl
none_later (Learned c h ∷ steps) zero (suc at) e le lt = none_later steps zero at e (omega arith) (omega arith)
none_later (Core c h ∷ steps) zero (suc at) e le lt = none_later steps zero at e (omega arith) (omega arith)
none_later (Forgot id ∷ steps) zero (suc at) e le lt = none_later steps zero at e (omega arith) (omega arith)
none_later (s ∷ steps) (suc n) zero e le lt = absurd (omega arith)
none_later (Input c ∷ steps) (suc n) (suc at) e le lt = none_later steps n at (omega arith) (omega arith) (omega arith)
none_later (Learned c h ∷ steps) (suc n) (suc at) e le lt = none_later steps n at e (omega arith) (omega arith)
none_later (Core c h ∷ steps) (suc n) (suc at) e le lt = none_later steps n at e (omega arith) (omega arith)
none_later (Forgot id ∷ steps) (suc n) (suc at) e le lt = none_later steps n at e (omega arith) (omega arith)

abbrev pub numbering : List LogStep → List ℕ → Numbering
numbering steps ids = record { inputs = length (inputs_of steps); ids = ids }

same_number : (steps : List LogStep) (ids : List ℕ) (id : ℕ) → InputsComeFirst steps → 0 < id → id ≤ length steps → number_in steps ids id ≡ number_by (numbering steps ids) id
same_number steps ids id first low high =
    let inputs = length (inputs_of steps) in
    let later = inputs + 1 + place_in ids id in
    elim (cases_Bool (nat_le id inputs)) [
      | inl le ↦
          let within : id ≤ inputs = leb-true id inputs le in
          let (is, count) = all_first steps inputs (id - 1) first (omega arith) in
          let place : suc (id - 1) ≡ id = omega arith in
          cond-true (is_input_at steps id) (inputs_up_to steps id) later is
          ∙ sym (ap (inputs_up_to steps) place)
          ∙ count
          ∙ place
          ∙ sym (cond-true (nat_le id inputs) id later le)
      | inr gt ↦
          let above : inputs < id = leb-false id inputs gt in
          let none = none_later steps inputs (id - 1) first (omega arith) (omega arith) in
          cond-false (is_input_at steps id) (inputs_up_to steps id) later none ∙ sym (cond-false (nat_le id inputs) id later gt)
    ]

same_numbers : (steps : List LogStep) (ids hints : List ℕ) → InputsComeFirst steps → ((h : ℕ) → In h hints → (0 < h) × (h ≤ length steps))
    → map (number_in steps ids) hints ≡ map (number_by (numbering steps ids)) hints
same_numbers steps ids [] first range = refl
same_numbers steps ids (h ∷ hints) first range =
    let here = range h (inl refl) in
    ap₂ (λ (n : ℕ) (rest : List ℕ). n ∷ rest) (same_number steps ids h first here.0 here.1) (same_numbers steps ids hints first (λ k i. range k (inr i)))

same_steps : (steps : List LogStep) (ids some : List ℕ) → InputsComeFirst steps → IsBackward steps → ((id : ℕ) → In id some → (0 < id) × (id ≤ length steps))
    → map (trimmed_step steps ids) some ≡ map (renumbered (numbering steps ids)) (map (kept_at steps) some)
same_steps steps ids [] first backward range = refl
same_steps steps ids (id ∷ some) first backward range =
    let (low, high) = range id (inl refl) in
    ap₂ (λ (s : Step) (rest : List Step). s ∷ rest)
    (ap₂ (λ (n : ℕ) (hints : List ℕ). record { id = n; lits = lits_at steps id; hints = hints })
    (same_number steps ids id first low high)
    (same_numbers steps ids (hints_at steps id) first (λ h i. let (from, below) = backward id low high h i in (from, omega arith))))
    (same_steps steps ids some first backward (λ k i. range k (inr i)))

-- so the steps of a cone are those of the log under the numbers of the cone
pub shared_is : (steps : List LogStep) (ids : List ℕ) → InputsComeFirst steps → IsBackward steps → AreDerivedIds steps ids
    → map (renumbered (numbering steps ids)) (map (kept_at steps) ids) ≡ map (trimmed_step steps ids) ids
shared_is steps ids first backward derived = sym (same_steps steps ids ids first backward (λ id i. let d = derived.derived id i in (d.from_one, d.within)))

pub small_ids : (steps : List LogStep) (ids : List ℕ) (bound : ℕ) → AreDerivedIds steps ids → length steps < bound → All (λ n. n < bound) ids
small_ids steps ids bound derived few k d lt =
    let high = (derived.derived (get_or ids k d) (get_in ids k d lt)).within in omega arith

-- where there are none, they come first
pub first_none : (steps : List LogStep) → length (inputs_of steps) ≡ 0 → InputsComeFirst steps
first_none steps none = let most = inputs_most steps 0 in subst (λ n. inputs_up_to steps n ≡ n) (sym none) (omega arith)
