-- The export of a proof that refutes a set is a refutation of its clauses.
use Rattle.std.proofs.Common.{◌≡◌, ℕ, ◌+◌, ◌<◌, ◌≤◌, Bool, true, false, not, ◌&&◌, cond, List, [], ◌∷◌, ◌++◌, length, Option, Some, None, refl, sym, ◌∙◌, ap, subst, inl, inr, eqb, ltb, leb, arith}
use Rattle.std.specs.Prelude.{ℤ}
use Rattle.std.specs.Ordering.{int_eq}
use Rattle.std.specs.List.{list_all, list_any, find}
use Rattle.std.specs.Option.{option_map, option_map_or}
use Rattle.std.proofs.lemmas.Bool.{false≢true, true≢false, cases_Bool, and_parts, and_from, ltb-true, lt-ltb, leb-true, leb-false, eqb-true, eq-eqb}
use Rattle.std.proofs.lemmas.List.{length-map}
use Rattle.gm_base.specs.Sets.{AscendsAbove, IsGroupSet, has}
use Rattle.gm_base.specs.Problem.{Problem}
use Rattle.gm_base.specs.Evidence.{left_out, with_selector, selector_form}
use Rattle.sat_base.specs.Derivation.{Step, numbered, clause_of, open_lits, is_nil, follows, is_step_clause, steps_follow, is_derivation, all_known}
use Rattle.sat_base.specs.Members.{In}
use Rattle.sat_base.proofs.Members.{all_at, any_at, any_from}
use Rattle.lrat_export.specs.Cnf.{clauses_of}
use Rattle.lrat_export.specs.Export.{Numbered, is_selector, is_true, is_settled, bared, renumbered, stays, steps_of, up_to, known_of, first_number, empty_step}
use Rattle.lrat_export.specs.Laws.{IsRefutation, ExportedRefutes}
use Rattle.lrat_export.proofs.BaredLemmas.{int_eq-from, In-bared}
use Rattle.lrat_export.proofs.NumberLemmas.{Becomes, becomes, stays-longer, kept, next_number}
use Rattle.lrat_export.proofs.StepLemmas.{clauses_in, steps-follow, ends-with_goal}
use Rattle.lrat_export.proofs.CnfLemmas.{length-numbered, kept-inputs, left_out-selector, left_out-true}

-- ---- where the goal stands

-- the ids of clauses that are given are below the next one
given-below : (from : ℕ) (cs : List (List ℤ)) (id : ℕ) (c : List ℤ) → clause_of (numbered from cs) id ≡ Some c → id < from + length cs
given-below from [] id c is = cc
given-below from (d ∷ cs) id c is = by (eqb from id) refl is (given-below (from + 1) cs id c)
  where
    by : (b : Bool) → eqb from id ≡ b → option_map (λ (e : ℕ × List ℤ). e.1) (cond b (Some (from, d)) (find (λ (e : ℕ × List ℤ). eqb e.0 id) (numbered (from + 1) cs))) ≡ Some c
        → (clause_of (numbered (from + 1) cs) id ≡ Some c → id < from + 1 + length cs) → id < from + length (d ∷ cs)
    by true here found later = let same = eqb-true from id here in omega arith
    by false here found later = let below = later found in omega arith

-- those of steps are above the last
steps-above : (vars last : ℕ) (known : List (ℕ × List ℤ)) (ss : List Step) (id : ℕ) (c : List ℤ) → steps_follow vars last known ss ≡ true → clause_of (clauses_in ss) id ≡ Some c → last < id
steps-above vars last known [] id c h is = cc
steps-above vars last known (s ∷ ss) id c h is =
    let outer = and_parts (ltb last s.id && is_step_clause vars s.lits && follows known s.lits s.hints) (steps_follow vars s.id (known ++ (s.id, s.lits) ∷ []) ss) h in
    let inner = and_parts (ltb last s.id && is_step_clause vars s.lits) (follows known s.lits s.hints) outer.0 in
    let up = ltb-true last s.id (and_parts (ltb last s.id) (is_step_clause vars s.lits) inner.0).0 in
    by (eqb s.id id) refl is (λ found. let later = steps-above vars s.id (known ++ (s.id, s.lits) ∷ []) ss id c outer.1 found in omega arith) up
  where
    by : (b : Bool) → eqb s.id id ≡ b → option_map (λ (e : ℕ × List ℤ). e.1) (cond b (Some (s.id, s.lits)) (find (λ (e : ℕ × List ℤ). eqb e.0 id) (clauses_in ss))) ≡ Some c
        → (clause_of (clauses_in ss) id ≡ Some c → last < id) → last < s.id → last < id
    by true here found later up = let same = eqb-true s.id id here in omega arith
    by false here found later up = later found

-- an id is looked for among the first, and then among the others
clause_of-append : (xs ys : List (ℕ × List ℤ)) (id : ℕ) → (clause_of xs id ≡ None → clause_of (xs ++ ys) id ≡ clause_of ys id) × ((c : List ℤ) → clause_of xs id ≡ Some c → clause_of (xs ++ ys) id ≡ Some c)
clause_of-append [] ys id = (λ none. refl, λ c is. cc)
clause_of-append (x ∷ xs) ys id = by (eqb x.0 id) (clause_of-append xs ys id)
  where
    by : (b : Bool)
        → (clause_of xs id ≡ None → clause_of (xs ++ ys) id ≡ clause_of ys id) × ((c : List ℤ) → clause_of xs id ≡ Some c → clause_of (xs ++ ys) id ≡ Some c)
        → (option_map (λ (e : ℕ × List ℤ). e.1) (cond b (Some x) (find (λ (e : ℕ × List ℤ). eqb e.0 id) xs)) ≡ None
        → option_map (λ (e : ℕ × List ℤ). e.1) (cond b (Some x) (find (λ (e : ℕ × List ℤ). eqb e.0 id) (xs ++ ys))) ≡ clause_of ys id)
        × ((c : List ℤ) → option_map (λ (e : ℕ × List ℤ). e.1) (cond b (Some x) (find (λ (e : ℕ × List ℤ). eqb e.0 id) xs)) ≡ Some c
        → option_map (λ (e : ℕ × List ℤ). e.1) (cond b (Some x) (find (λ (e : ℕ × List ℤ). eqb e.0 id) (xs ++ ys))) ≡ Some c)
    by true later = (λ none. cc, λ c is. is)
    by false later = later

-- ---- the goal's clause

abbrev IsGoal : Problem → List ℕ → List ℤ → Type 0
IsGoal p set c = list_all (λ l. list_any (λ g. int_eq (left_out p g) l) set) c ≡ true

goal-literal : (p : Problem) (set : List ℕ) (c : List ℤ) (l : ℤ) → IsGroupSet set → IsGoal p set c → In l c → (is_selector p.vars l ≡ true) × (is_true p.vars set l ≡ false)
goal-literal p set c l ascends within i =
    let (g, j, e) = any_from (λ g. int_eq (left_out p g) l) set (all_at (λ l. list_any (λ g. int_eq (left_out p g) l) set) c l within i) in
    let some : 0 < g = above 0 set g ascends j in
    let same : left_out p g ≡ l = int_eq-from (left_out p g) l e in (
      sym (ap (is_selector p.vars) same) ∙ left_out-selector p g some,
      sym (ap (is_true p.vars set) same) ∙ left_out-true p set g some ∙ ap not (there set g j),
    )
  where
    there : (set : List ℕ) (g : ℕ) → In g set → has set g ≡ true
    there set g j = any_at (λ h. eqb h g) set g j (eq-eqb g g refl)

    above : (low : ℕ) (set : List ℕ) (g : ℕ) → AscendsAbove low set → In g set → low < g
    above low [] g h j = absurd j
    above low (x ∷ xs) g h (inl here) = subst (λ k. low < k) (sym here) h.0
    above low (x ∷ xs) g h (inr later) = let up = above x xs g h.1 later in let first = h.0 in omega arith

goal-bared : (p : Problem) (set : List ℕ) (c : List ℤ) → IsGroupSet set → IsGoal p set c → bared p.vars c ≡ []
goal-bared p set c ascends within = by (bared p.vars c) (λ l i. let found = In-bared p.vars c l i in true≢false (sym (goal-literal p set c l ascends within found.0).0 ∙ found.1))
  where
    by : (xs : List ℤ) → ((l : ℤ) → In l xs → ⊥) → xs ≡ []
    by [] none = refl
    by (x ∷ xs) none = absurd (none x (inl refl))

goal-unsettled : (p : Problem) (set : List ℕ) (c : List ℤ) → IsGroupSet set → IsGoal p set c → is_settled p.vars set c ≡ false
goal-unsettled p set c ascends within = elim (cases_Bool (is_settled p.vars set c)) [
  | inl held ↦ let (l, i, on) = any_from (is_true p.vars set) c held in absurd (true≢false (sym on ∙ (goal-literal p set c l ascends within i).1))
  | inr plain ↦ plain
]

-- ---- the refutation

pub exported-refutes : ExportedRefutes
exported-refutes p set d ok ascends h = by (leb d.goal (length p.clauses)) refl
  where
    inputs : List (ℕ × List ℤ)
    inputs = numbered 1 (selector_form p)

    m : ℕ
    m = length (clauses_of p set)

    given : length (selector_form p) ≡ length p.clauses
    given = length-map p.clauses (with_selector p)

    derives : is_derivation (p.vars + p.groups) (selector_form p) d ≡ true
    derives = (and_parts (is_derivation (p.vars + p.groups) (selector_form p) d) (option_map_or (λ c. list_all (λ l. list_any (λ g. int_eq (left_out p g) l) set) c) (clause_of (all_known (selector_form p) d.steps) d.goal) false) h).0

    goal : (c : List ℤ) × (clause_of (inputs ++ clauses_in d.steps) d.goal ≡ Some c) × IsGoal p set c
    goal = found (clause_of (inputs ++ clauses_in d.steps) d.goal) refl (and_parts (is_derivation (p.vars + p.groups) (selector_form p) d) (option_map_or (λ c. list_all (λ l. list_any (λ g. int_eq (left_out p g) l) set) c) (clause_of (all_known (selector_form p) d.steps) d.goal) false) h).1
      where
        found : (o : Option (List ℤ)) → clause_of (inputs ++ clauses_in d.steps) d.goal ≡ o → option_map_or (λ c. list_all (λ l. list_any (λ g. int_eq (left_out p g) l) set) c) o false ≡ true
            → (c : List ℤ) × (clause_of (inputs ++ clauses_in d.steps) d.goal ≡ Some c) × IsGoal p set c
        found None is t = absurd (false≢true t)
        found (Some c) is t = (c, is, t)

    news : kept (renumbered p.vars set 1 inputs) ≡ numbered 1 (clauses_of p set)
    news = kept-inputs p set ok

    number : next_number p.vars set inputs ≡ first_number p set
    number = ap (λ (ns : List (ℕ × List ℤ)). 1 + length ns) news ∙ (let len = length-numbered 1 (clauses_of p set) in omega arith)

    -- the goal is a clause of the problem
    by_input : (c : List ℤ) → clause_of inputs d.goal ≡ Some c → IsGoal p set c
        → (o : Option Numbered) → stays (known_of p set d) d.goal ≡ o → Becomes p.vars set 1 (kept (renumbered p.vars set 1 inputs)) c o
        → IsRefutation p.vars (clauses_of p set) (empty_step (first_number p set) o ∷ [])
    by_input c is within None is_none settled = absurd (true≢false (sym settled ∙ goal-unsettled p set c ascends within))
    by_input c is within (Some k) is_some b =
        record {
          derives =
              and_from (ltb m (m + 1) && is_step_clause p.vars [] && follows (numbered 1 (clauses_of p set)) [] (k.0 ∷ [])) true
              (and_from (ltb m (m + 1) && is_step_clause p.vars []) (follows (numbered 1 (clauses_of p set)) [] (k.0 ∷ []))
              (and_from (ltb m (m + 1)) true (lt-ltb m (m + 1) (omega arith)) refl)
              (ap (λ o. option_map_or (λ c. is_nil (open_lits [] c)) o false)
              (ap (λ ns. clause_of ns k.0) (sym news) ∙ b.3 ∙ ap Some (goal-bared p set c ascends within))))
              refl;
          last_is_empty = ([], empty_step (first_number p set) (Some k), refl, refl);
        }

    by : (b : Bool) → leb d.goal (length p.clauses) ≡ b
        → IsRefutation p.vars (clauses_of p set)
        (cond b (empty_step (first_number p set) (stays (known_of p set d) d.goal) ∷ []) (steps_of p.vars set (known_of p set d) (first_number p set) (up_to d.goal d.steps)))
    by true low =
        let (c, is, within) = goal in
        let at_most = leb-true d.goal (length p.clauses) low in
        among (clause_of inputs d.goal) refl c is within at_most
      where
        among : (o : Option (List ℤ)) → clause_of inputs d.goal ≡ o → (c : List ℤ) → clause_of (inputs ++ clauses_in d.steps) d.goal ≡ Some c → IsGoal p set c → d.goal ≤ length p.clauses
            → IsRefutation p.vars (clauses_of p set) (empty_step (first_number p set) (stays (known_of p set d) d.goal) ∷ [])
        among None none c is within at_most =
            let above = steps-above (p.vars + p.groups) (length (selector_form p)) inputs d.steps d.goal c derives (sym ((clause_of-append inputs (clauses_in d.steps) d.goal).0 none) ∙ is) in
            absurd (omega (arith, given))
        among (Some e) found c is within at_most =
            let same : e ≡ c = let both = sym ((clause_of-append inputs (clauses_in d.steps) d.goal).1 e found) ∙ is in cc in
            let here : clause_of inputs d.goal ≡ Some c = found ∙ ap Some same in
            by_input c here within (stays (known_of p set d) d.goal) refl
            (subst (Becomes p.vars set 1 (kept (renumbered p.vars set 1 inputs)) c) (sym (stays-longer p.vars set 1 inputs (clauses_in d.steps) d.goal c here)) (becomes p.vars set 1 inputs d.goal c here))
    by false high =
        let (c, is, within) = goal in
        let behind : clause_of inputs d.goal ≡ None = none_given (clause_of inputs d.goal) refl in
        let in_steps : clause_of (clauses_in d.steps) d.goal ≡ Some c = sym ((clause_of-append inputs (clauses_in d.steps) d.goal).0 behind) ∙ is in
        let (before, last, parts, lits) = ends-with_goal p.vars set (known_of p set d) (first_number p set) d.goal d.steps c in_steps (goal-unsettled p set c ascends within) in
        record {
          derives =
              subst (λ (ns : List (ℕ × List ℤ)). steps_follow p.vars m ns (steps_of p.vars set (known_of p set d) (first_number p set) (up_to d.goal d.steps)) ≡ true) news
              (subst (λ (n : ℕ). steps_follow p.vars m (kept (renumbered p.vars set 1 inputs)) (steps_of p.vars set (known_of p set d) n (up_to d.goal d.steps)) ≡ true) number
              (steps-follow p.vars p.groups set (inputs ++ clauses_in d.steps) d.goal (length (selector_form p)) m inputs d.steps refl (omega (arith, number)) derives));
          last_is_empty = (before, last, parts, lits ∙ goal-bared p set c ascends within);
        }
      where
        none_given : (o : Option (List ℤ)) → clause_of inputs d.goal ≡ o → o ≡ None
        none_given None is = refl
        none_given (Some c) is =
            let below = given-below 1 (selector_form p) d.goal c is in
            let above : length p.clauses < d.goal = over (leb d.goal (length p.clauses)) refl high in
            absurd (omega (arith, given))
          where
            over : (b : Bool) → leb d.goal (length p.clauses) ≡ b → b ≡ false → length p.clauses < d.goal
            over true is h = absurd (true≢false h)
            over false is h = leb-false d.goal (length p.clauses) is
