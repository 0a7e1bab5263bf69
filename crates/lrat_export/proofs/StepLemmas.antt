-- What is left of steps that follow follows, and the last step is the empty clause.
use Rattle.std.proofs.Common.{◌≡◌, ℕ, ◌+◌, ◌<◌, ◌≤◌, Bool, true, false, not, ◌&&◌, cond, List, [], ◌∷◌, ◌++◌, map, length, Option, Some, refl, sym, ◌∙◌, ap, subst, eqb, ltb, leb, arith, append_assoc, length-append}
use Rattle.std.specs.Prelude.{ℤ, neg_ℤ}
use Rattle.std.specs.List.{find}
use Rattle.std.specs.Option.{option_map}
use Rattle.std.proofs.lemmas.Bool.{true≢false, and_parts, and_from, ltb-false, lt-ltb, le-leb}
use Rattle.sat_base.specs.Literals.{var_of}
use Rattle.sat_base.specs.Derivation.{Step, clause_of, contains_lit, follows, is_step_clause, steps_follow}
use Rattle.sat_base.specs.Members.{In}
use Rattle.sat_base.proofs.Members.{all_at, all_from}
use Rattle.lrat_export.specs.Export.{Numbered, is_settled, bared, renumbered, stays, hints_of, steps_of, up_to}
use Rattle.lrat_export.proofs.BaredLemmas.{In-bared, bared-contains, unsettled-at, selector-negated}
use Rattle.lrat_export.proofs.NumberLemmas.{Becomes, becomes, stays-longer, kept, kept-settled, kept-stays, next_number}
use Rattle.lrat_export.proofs.HintLemmas.{AreAlike, AllBecome, hints-follow}

-- the clauses of steps
abbrev pub clauses_in : List Step → List (ℕ × List ℤ)
clauses_in ss = map (λ (s : Step). (s.id, s.lits)) ss

-- what is left of the clause of a step is one
bared-clause : (vars more : ℕ) (lits : List ℤ) → is_step_clause (vars + more) lits ≡ true → is_step_clause vars (bared vars lits) ≡ true
bared-clause vars more lits h = all_from (λ l. ltb 0 (var_of l) && leb (var_of l) vars && not (contains_lit (bared vars lits) (neg_ℤ l))) (bared vars lits) each
  where
    each : (l : ℤ) → In l (bared vars lits) → (ltb 0 (var_of l) && leb (var_of l) vars && not (contains_lit (bared vars lits) (neg_ℤ l))) ≡ true
    each l i =
        let found = In-bared vars lits l i in
        let outer = and_parts (ltb 0 (var_of l) && leb (var_of l) (vars + more)) (not (contains_lit lits (neg_ℤ l))) (all_at (λ l. ltb 0 (var_of l) && leb (var_of l) (vars + more) && not (contains_lit lits (neg_ℤ l))) lits l h found.0) in
        let inner = and_parts (ltb 0 (var_of l)) (leb (var_of l) (vars + more)) outer.0 in
        let within : var_of l ≤ vars = low (ltb vars (var_of l)) refl found.1 in
        and_from (ltb 0 (var_of l) && leb (var_of l) vars) (not (contains_lit (bared vars lits) (neg_ℤ l)))
        (and_from (ltb 0 (var_of l)) (leb (var_of l) vars) inner.0 (le-leb (var_of l) vars within))
        (ap not (sym (bared-contains vars lits (neg_ℤ l) (selector-negated vars l ∙ found.1))) ∙ outer.1)
      where
        low : (b : Bool) → ltb vars (var_of l) ≡ b → b ≡ false → var_of l ≤ vars
        low true is h = absurd (true≢false h)
        low false is h = ltb-false vars (var_of l) is

-- no step is true under the selectors, so the false literals are alike here and there
alike-start : (vars : ℕ) (set : List ℕ) (lits : List ℤ) → is_settled vars set lits ≡ false → AreAlike vars set lits (bared vars lits)
alike-start vars set lits loose = record { none_true = λ l i. unsettled-at vars set lits l loose i; same = bared-contains vars lits }

module _ (vars groups : ℕ) (set : List ℕ) (whole : List (ℕ × List ℤ)) where
  abbrev renewed : List (ℕ × Option Numbered)
  renewed = renumbered vars set 1 whole

  abbrev news : List (ℕ × List ℤ) → List (ℕ × List ℤ)
  news known = kept (renumbered vars set 1 known)

  all_become : (known rest : List (ℕ × List ℤ)) → whole ≡ known ++ rest → AllBecome vars set known renewed (news known)
  all_become known rest is id c found =
      subst (Becomes vars set 1 (news known) c)
      (sym (ap (λ all. stays (renumbered vars set 1 all) id) is ∙ stays-longer vars set 1 known rest id c found))
      (becomes vars set 1 known id c found)

  -- the steps that are left, up to that of the goal, behind what is left of the clauses before
  pub steps-follow : (goal last low : ℕ) (known : List (ℕ × List ℤ)) (ss : List Step) → whole ≡ known ++ clauses_in ss → low < next_number vars set known
      → steps_follow (vars + groups) last known ss ≡ true
      → steps_follow vars low (news known) (steps_of vars set renewed (next_number vars set known) (up_to goal ss)) ≡ true
  steps-follow goal last low known [] is up h = refl
  steps-follow goal last low known (s ∷ ss) is up h =
      by (is_settled vars set s.lits) refl (λ low up. steps-follow goal s.id low (known ++ (s.id, s.lits) ∷ []) ss (longer) up outer.1)
    where
      outer : (ltb last s.id && is_step_clause (vars + groups) s.lits && follows known s.lits s.hints ≡ true) × (steps_follow (vars + groups) s.id (known ++ (s.id, s.lits) ∷ []) ss ≡ true)
      outer = and_parts (ltb last s.id && is_step_clause (vars + groups) s.lits && follows known s.lits s.hints) (steps_follow (vars + groups) s.id (known ++ (s.id, s.lits) ∷ []) ss) h

      inner : (ltb last s.id && is_step_clause (vars + groups) s.lits ≡ true) × (follows known s.lits s.hints ≡ true)
      inner = and_parts (ltb last s.id && is_step_clause (vars + groups) s.lits) (follows known s.lits s.hints) outer.0

      shape : is_step_clause (vars + groups) s.lits ≡ true
      shape = (and_parts (ltb last s.id) (is_step_clause (vars + groups) s.lits) inner.0).1

      longer : whole ≡ (known ++ (s.id, s.lits) ∷ []) ++ clauses_in ss
      longer = is ∙ sym (append_assoc known ((s.id, s.lits) ∷ []) (clauses_in ss))

      -- behind the goal nothing is left
      later : ((low : ℕ) → low < next_number vars set (known ++ (s.id, s.lits) ∷ [])
          → steps_follow vars low (news (known ++ (s.id, s.lits) ∷ [])) (steps_of vars set renewed (next_number vars set (known ++ (s.id, s.lits) ∷ [])) (up_to goal ss)) ≡ true)
          → (b : Bool) (low : ℕ) → low < next_number vars set (known ++ (s.id, s.lits) ∷ [])
          → steps_follow vars low (news (known ++ (s.id, s.lits) ∷ [])) (steps_of vars set renewed (next_number vars set (known ++ (s.id, s.lits) ∷ [])) (cond b [] (up_to goal ss))) ≡ true
      later rest true low up = refl
      later rest false low up = rest low up

      by : (settled : Bool) → is_settled vars set s.lits ≡ settled
          → ((low : ℕ) → low < next_number vars set (known ++ (s.id, s.lits) ∷ [])
          → steps_follow vars low (news (known ++ (s.id, s.lits) ∷ [])) (steps_of vars set renewed (next_number vars set (known ++ (s.id, s.lits) ∷ [])) (up_to goal ss)) ≡ true)
          → steps_follow vars low (news known)
          (cond settled
          (steps_of vars set renewed (next_number vars set known) (cond (eqb s.id goal) [] (up_to goal ss)))
          (record { id = next_number vars set known; lits = bared vars s.lits; hints = hints_of renewed (bared vars s.lits) s.hints }
          ∷ steps_of vars set renewed (next_number vars set known + 1) (cond (eqb s.id goal) [] (up_to goal ss))))
          ≡ true
      by true settled rest =
          let same : news (known ++ (s.id, s.lits) ∷ []) ≡ news known = kept-settled vars set known (s.id, s.lits) settled in
          subst (λ (ns : List (ℕ × List ℤ)). steps_follow vars low ns (steps_of vars set renewed (1 + length ns) (cond (eqb s.id goal) [] (up_to goal ss))) ≡ true) same
          (later rest (eqb s.id goal) low (subst (λ (ns : List (ℕ × List ℤ)). low < 1 + length ns) (sym same) up))
      by false loose rest =
          let n : ℕ = next_number vars set known in
          let same : news (known ++ (s.id, s.lits) ∷ []) ≡ news known ++ (n, bared vars s.lits) ∷ [] = kept-stays vars set known (s.id, s.lits) loose in
          let count : next_number vars set (known ++ (s.id, s.lits) ∷ []) ≡ n + 1 = ap (λ (ns : List (ℕ × List ℤ)). 1 + length ns) same ∙ (let len = length-append (news known) ((n, bared vars s.lits) ∷ []) in omega arith) in
          and_from
          (ltb low n && is_step_clause vars (bared vars s.lits) && follows (news known) (bared vars s.lits) (hints_of renewed (bared vars s.lits) s.hints))
          (steps_follow vars n (news known ++ (n, bared vars s.lits) ∷ []) (steps_of vars set renewed (n + 1) (cond (eqb s.id goal) [] (up_to goal ss))))
          (and_from (ltb low n && is_step_clause vars (bared vars s.lits)) (follows (news known) (bared vars s.lits) (hints_of renewed (bared vars s.lits) s.hints))
          (and_from (ltb low n) (is_step_clause vars (bared vars s.lits)) (lt-ltb low n up) (bared-clause vars groups s.lits shape))
          (hints-follow vars set known renewed (news known) (all_become known ((s.id, s.lits) ∷ clauses_in ss) is) s.hints s.lits (bared vars s.lits) (alike-start vars set s.lits loose) inner.1))
          (subst (λ (m : ℕ). steps_follow vars n (news known ++ (n, bared vars s.lits) ∷ []) (steps_of vars set renewed m (cond (eqb s.id goal) [] (up_to goal ss))) ≡ true) count
          (subst (λ (ns : List (ℕ × List ℤ)). steps_follow vars n ns (steps_of vars set renewed (next_number vars set (known ++ (s.id, s.lits) ∷ [])) (cond (eqb s.id goal) [] (up_to goal ss))) ≡ true) same
          (later rest (eqb s.id goal) n (omega (arith, count)))))

-- the last of the steps that are left is what is left of the goal
pub ends-with_goal : (vars : ℕ) (set : List ℕ) (renewed : List (ℕ × Option Numbered)) (number goal : ℕ) (ss : List Step) (c : List ℤ)
    → clause_of (clauses_in ss) goal ≡ Some c → is_settled vars set c ≡ false
    → (before : List Step) × (last : Step) × (steps_of vars set renewed number (up_to goal ss) ≡ before ++ last ∷ []) × (last.lits ≡ bared vars c)
ends-with_goal vars set renewed number goal [] c is loose = cc
ends-with_goal vars set renewed number goal (s ∷ ss) c is loose =
    by (eqb s.id goal) is (is_settled vars set s.lits) refl (λ number found. ends-with_goal vars set renewed number goal ss c found loose)
  where
    left : Step
    left = record { id = number; lits = bared vars s.lits; hints = hints_of renewed (bared vars s.lits) s.hints }

    by : (b : Bool) → option_map (λ (e : ℕ × List ℤ). e.1) (cond b (Some (s.id, s.lits)) (find (λ (e : ℕ × List ℤ). eqb e.0 goal) (clauses_in ss))) ≡ Some c
        → (settled : Bool) → is_settled vars set s.lits ≡ settled
        → ((number : ℕ) → clause_of (clauses_in ss) goal ≡ Some c
        → (before : List Step) × (last : Step) × (steps_of vars set renewed number (up_to goal ss) ≡ before ++ last ∷ []) × (last.lits ≡ bared vars c))
        → (before : List Step) × (last : Step)
        × (cond settled (steps_of vars set renewed number (cond b [] (up_to goal ss))) (left ∷ steps_of vars set renewed (number + 1) (cond b [] (up_to goal ss))) ≡ before ++ last ∷ [])
        × (last.lits ≡ bared vars c)
    by true found true settled rest = let same : s.lits ≡ c = cc in absurd (true≢false (sym settled ∙ ap (is_settled vars set) same ∙ loose))
    by true found false settled rest = let same : s.lits ≡ c = cc in ([], left, refl, ap (bared vars) same)
    by false found true settled rest = rest number found
    by false found false settled rest =
        let (before, last, is, lits) = rest (number + 1) found in
        (left ∷ before, last, ap (λ (xs : List Step). left ∷ xs) is, lits)
