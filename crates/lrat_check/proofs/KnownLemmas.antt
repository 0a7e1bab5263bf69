-- The clauses under their ids, for callers too: those given, and the greatest id after a clause was added.
use Rattle.std.proofs.Common.{◌≡◌, ℕ, zero, suc, ◌+◌, ◌-◌, ◌<◌, ◌≤◌, Bool, true, false, ◌&&◌, List, [], ◌∷◌, ◌++◌, length, get_or, take, refl, ◌∙◌, ap, arith, length-append}
use Rattle.std.specs.Prelude.{ℤ}
use Rattle.std.specs.Prelude.{nat_lt}
use Rattle.std.proofs.lemmas.Bool.{and_from, lt-ltb, ltb-true}
use Rattle.sat_base.specs.Derivation.{Step, numbered, is_step_clause, follows, steps_follow}
use Rattle.lrat_check.specs.Refusal.{last_id, IsStep}

pub length-numbered : (i from : ℕ) (cs : List (List ℤ)) → i ≤ length cs → length (numbered from (take i cs)) ≡ i
length-numbered zero from cs le = refl
length-numbered (suc i) from [] le = absurd (omega arith)
length-numbered (suc i) from (c ∷ cs) le = ap suc (length-numbered i (from + 1) cs (omega arith))

-- one more clause has the next number
pub numbered_next : (i from : ℕ) (cs : List (List ℤ)) (d : List ℤ) → i < length cs
    → numbered from (take (i + 1) cs) ≡ numbered from (take i cs) ++ (i + from, get_or cs i d) ∷ []
numbered_next zero from [] d lt = absurd (omega arith)
numbered_next zero from (c ∷ cs) d lt = let same : from ≡ 0 + from = omega arith in ap (λ (n : ℕ). (n, c) ∷ []) same
numbered_next (suc i) from [] d lt = absurd (omega arith)
numbered_next (suc i) from (c ∷ cs) d lt =
    let up : i + (from + 1) ≡ suc i + from = omega arith in
    let next : suc i + 1 ≡ suc (i + 1) = omega arith in
    ap (λ (k : ℕ). numbered from (take k (c ∷ cs))) next
    ∙ ap (λ (rest : List (ℕ × List ℤ)). (from, c) ∷ rest)
    (numbered_next i (from + 1) cs d (omega arith) ∙ ap (λ (n : ℕ). numbered (from + 1) (take i cs) ++ (n, get_or cs i d) ∷ []) up)

pub last_id-push : (known : List (ℕ × List ℤ)) (id : ℕ) (lits : List ℤ) → last_id (known ++ (id, lits) ∷ []) ≡ id
last_id-push known id lits = at known (length (known ++ (id, lits) ∷ []) - 1) (omega (arith, length-append known ((id, lits) ∷ [])))
  where
    at : (xs : List (ℕ × List ℤ)) (n : ℕ) → n ≡ length xs → (get_or (xs ++ (id, lits) ∷ []) n (0, [])).0 ≡ id
    at [] zero is = refl
    at [] (suc n) is = absurd (omega arith)
    at (x ∷ xs) zero is = absurd (omega arith)
    at (x ∷ xs) (suc n) is = at xs n (omega arith)

pub last_id-numbered : (cs : List (List ℤ)) → last_id (numbered 1 cs) ≡ length cs
last_id-numbered [] = refl
last_id-numbered (c ∷ cs) =
    let len = length_all 2 cs in
    let place : length (numbered 1 (c ∷ cs)) - 1 ≡ length cs = omega arith in
    let last = at 1 c cs in
    ap (λ (n : ℕ). (get_or (numbered 1 (c ∷ cs)) n (0, [])).0) place ∙ last ∙ (let same : 1 + length cs ≡ suc (length cs) = omega arith in same)
  where
    length_all : (from : ℕ) (ds : List (List ℤ)) → length (numbered from ds) ≡ length ds
    length_all from [] = refl
    length_all from (d ∷ ds) = ap suc (length_all (from + 1) ds)

    at : (from : ℕ) (d : List ℤ) (ds : List (List ℤ)) → (get_or (numbered from (d ∷ ds)) (length ds) (0, [])).0 ≡ from + length ds
    at from d [] = let same : from ≡ from + 0 = omega arith in same
    at from d (e ∷ ds) = let next = at (from + 1) e ds in omega arith

-- the steps are forgotten
pub take-numbered : (from : ℕ) (cs : List (List ℤ)) (more : List (ℕ × List ℤ)) → take (length cs) (numbered from cs ++ more) ≡ numbered from cs
take-numbered from [] more = refl
take-numbered from (c ∷ cs) more = ap (λ (rest : List (ℕ × List ℤ)). (from, c) ∷ rest) (take-numbered (from + 1) cs more)

-- an accepted step, and one that is refused, before more steps
pub steps-accepted : (vars : ℕ) (known : List (ℕ × List ℤ)) (s : Step) (ss : List Step) → IsStep vars known s.id s.lits s.hints
    → steps_follow vars (last_id known) known (s ∷ ss) ≡ steps_follow vars s.id (known ++ (s.id, s.lits) ∷ []) ss
steps-accepted vars known s ss step =
    ap (λ (b : Bool). b && rest)
    (and_from (nat_lt (last_id known) s.id && is_step_clause vars s.lits) (follows known s.lits s.hints)
    (and_from (nat_lt (last_id known) s.id) (is_step_clause vars s.lits) (lt-ltb (last_id known) s.id step.rises) step.is_clause)
    step.follow)
  where
    rest : Bool
    rest = steps_follow vars s.id (known ++ (s.id, s.lits) ∷ []) ss

pub steps-refused : (vars : ℕ) (known : List (ℕ × List ℤ)) (s : Step) (ss : List Step) → ¬ IsStep vars known s.id s.lits s.hints
    → steps_follow vars (last_id known) known (s ∷ ss) ≡ false
steps-refused vars known s ss refused =
    by (nat_lt (last_id known) s.id) (is_step_clause vars s.lits) (follows known s.lits s.hints) (steps_follow vars s.id (known ++ (s.id, s.lits) ∷ []) ss)
    (λ up clause goes. refused (record { rises = ltb-true (last_id known) s.id up; is_clause = clause; follow = goes }))
  where
    by : (a b c d : Bool) → (a ≡ true → b ≡ true → c ≡ true → ⊥) → (a && b && c && d) ≡ false
    by true true true d none = absurd (none refl refl refl)
    by true true false d none = refl
    by true false c d none = refl
    by false b c d none = refl
