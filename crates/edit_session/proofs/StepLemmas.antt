-- A derivation that is carried over is one over the new clauses, and refutes what it refuted.
use Rattle.std.proofs.Common.{◌≡◌, ◌≢◌, ℕ, ◌+◌, ◌<◌, ◌≤◌, Bool, true, false, not, cond, List, [], ◌∷◌, ◌++◌, map, length, get_or, Option, Some, None, refl, sym, ◌∙◌, ap, ap₂, subst, inl, inr, eqb, ltb, leb, arith, append_assoc, append-nil}
use Rattle.std.specs.Prelude.{ℤ, neg_ℤ, ◌&&◌}
use Rattle.std.specs.Ordering.{int_eq}
use Rattle.std.specs.List.{find, list_all, list_any}
use Rattle.std.specs.Option.{option_map, option_map_or}
use Rattle.std.proofs.lemmas.Bool.{and_parts, and_from, cond-true, cond-false, eqb-true, eq-eqb, ne_eqb, ltb-true, lt-ltb, le-leb, lt-leb, leb-true, cases_lt}
use Rattle.std.proofs.lemmas.List.{length-map, length-append, get_or-append-add}
use Rattle.sat_base.specs.Literals.{var_of}
use Rattle.sat_base.specs.Derivation.{Step, Derivation, numbered, clause_of, contains_lit, follows, is_step_clause, steps_follow, is_derivation, all_known}
use Rattle.sat_base.specs.Members.{In}
use Rattle.gm_base.specs.Sets.{IsGroupSet}
use Rattle.gm_base.specs.Problem.{Problem, IsProblem}
use Rattle.gm_base.specs.Evidence.{left_out, with_selector, selector_form, refutes}
use Rattle.sat_base.specs.Numbering.{Ascends, place_in}
use Rattle.sat_base.proofs.PlaceLemmas.{place_at}
use Rattle.edit_session.specs.Extends.{Extends}
use Rattle.edit_session.specs.Carried.{carried_var, carried_lit, ids_in, carried_id, carried_step, carried_proof}
use Rattle.edit_session.proofs.NumberLemmas.{var-low, var-high, var-some, var_of-carried, carried-renaming, form-carried, within-carried}
use Rattle.edit_session.proofs.RenamedLemmas.{Carries, IsRenaming, contains-renamed, follows-renamed, some_of}

-- ---- clauses under ids

abbrev pub clauses_in : List Step → List (ℕ × List ℤ)
clauses_in ss = map (λ (s : Step). (s.id, s.lits)) ss

clause_of-later : (e : ℕ × List ℤ) (es : List (ℕ × List ℤ)) (id : ℕ) → e.0 ≢ id → clause_of (e ∷ es) id ≡ clause_of es id
clause_of-later e es id other = ap (λ b. option_map (λ (x : ℕ × List ℤ). x.1) (cond b (Some e) (find (λ (x : ℕ × List ℤ). eqb x.0 id) es))) (ne_eqb e.0 id other)

clause_of-here : (e : ℕ × List ℤ) (es : List (ℕ × List ℤ)) (id : ℕ) → e.0 ≡ id → clause_of (e ∷ es) id ≡ Some e.1
clause_of-here e es id same = ap (λ b. option_map (λ (x : ℕ × List ℤ). x.1) (cond b (Some e) (find (λ (x : ℕ × List ℤ). eqb x.0 id) es))) (eq-eqb e.0 id same)

-- an id is looked for among the first, and then among the others
found_first : (xs ys : List (ℕ × List ℤ)) (id : ℕ) (c : List ℤ) → clause_of xs id ≡ Some c → clause_of (xs ++ ys) id ≡ Some c
found_first [] ys id c is = cc
found_first (x ∷ xs) ys id c is = by (eqb x.0 id) is (found_first xs ys id c)
  where
    by : (b : Bool) → option_map (λ (e : ℕ × List ℤ). e.1) (cond b (Some x) (find (λ (e : ℕ × List ℤ). eqb e.0 id) xs)) ≡ Some c
        → (clause_of xs id ≡ Some c → clause_of (xs ++ ys) id ≡ Some c)
        → option_map (λ (e : ℕ × List ℤ). e.1) (cond b (Some x) (find (λ (e : ℕ × List ℤ). eqb e.0 id) (xs ++ ys))) ≡ Some c
    by true is later = is
    by false is later = later is

found_later : (xs ys : List (ℕ × List ℤ)) (id : ℕ) → clause_of xs id ≡ None → clause_of (xs ++ ys) id ≡ clause_of ys id
found_later [] ys id none = refl
found_later (x ∷ xs) ys id none = by (eqb x.0 id) none (found_later xs ys id)
  where
    by : (b : Bool) → option_map (λ (e : ℕ × List ℤ). e.1) (cond b (Some x) (find (λ (e : ℕ × List ℤ). eqb e.0 id) xs)) ≡ None
        → (clause_of xs id ≡ None → clause_of (xs ++ ys) id ≡ clause_of ys id)
        → option_map (λ (e : ℕ × List ℤ). e.1) (cond b (Some x) (find (λ (e : ℕ × List ℤ). eqb e.0 id) (xs ++ ys))) ≡ clause_of ys id
    by true none later = cc
    by false none later = later none

found_last : (e : ℕ × List ℤ) (id : ℕ) (c : List ℤ) → clause_of (e ∷ []) id ≡ Some c → (e.0 ≡ id) × (e.1 ≡ c)
found_last e id c is = by (eqb e.0 id) refl is
  where
    by : (b : Bool) → eqb e.0 id ≡ b → option_map (λ (x : ℕ × List ℤ). x.1) (cond b (Some e) None) ≡ Some c → (e.0 ≡ id) × (e.1 ≡ c)
    by true here is = (eqb-true e.0 id here, cc)
    by false here is = cc

-- no clause has an id above this one
abbrev AtMost : ℕ → List (ℕ × List ℤ) → Type 0
AtMost last known = (id : ℕ) (c : List ℤ) → clause_of known id ≡ Some c → id ≤ last

none_above : (last : ℕ) (known : List (ℕ × List ℤ)) (id : ℕ) → AtMost last known → last < id → clause_of known id ≡ None
none_above last known id most above = by (clause_of known id) refl
  where
    by : (o : Option (List ℤ)) → clause_of known id ≡ o → o ≡ None
    by None is = refl
    by (Some c) is = let le = most id c is in absurd (omega arith)

at_most_more : (last id : ℕ) (known : List (ℕ × List ℤ)) (lits : List ℤ) → AtMost last known → last < id → AtMost id (known ++ (id, lits) ∷ [])
at_most_more last id known lits most above k c is = by (clause_of known k) refl
  where
    by : (o : Option (List ℤ)) → clause_of known k ≡ o → k ≤ id
    by None none = let found = found_last (id, lits) k c (sym (found_later known ((id, lits) ∷ []) k none) ∙ is) in let same = found.0 in omega arith
    by (Some d) some = let le = most k d some in omega arith

at_most_inputs : (from : ℕ) (cs : List (List ℤ)) (id : ℕ) (c : List ℤ) → clause_of (numbered from cs) id ≡ Some c → (from ≤ id) × (id < from + length cs)
at_most_inputs from [] id c is = cc
at_most_inputs from (d ∷ cs) id c is = by (eqb from id) refl is (at_most_inputs (from + 1) cs id c)
  where
    by : (b : Bool) → eqb from id ≡ b → option_map (λ (e : ℕ × List ℤ). e.1) (cond b (Some (from, d)) (find (λ (e : ℕ × List ℤ). eqb e.0 id) (numbered (from + 1) cs))) ≡ Some c
        → (clause_of (numbered (from + 1) cs) id ≡ Some c → (from + 1 ≤ id) × (id < from + 1 + length cs)) → (from ≤ id) × (id < from + length (d ∷ cs))
    by true here is later = let same = eqb-true from id here in (omega arith, omega arith)
    by false here is later = let rest = later is in let low = rest.0 in let high = rest.1 in (omega arith, omega arith)

-- input clauses by other names, and more behind them
inputs-carried : (name : ℤ → ℤ) (from : ℕ) (cs more : List (List ℤ)) (id : ℕ) (c : List ℤ) → clause_of (numbered from cs) id ≡ Some c
    → clause_of (numbered from (map (map name) cs ++ more)) id ≡ Some (map name c)
inputs-carried name from [] more id c is = cc
inputs-carried name from (d ∷ cs) more id c is = by (eqb from id) is (inputs-carried name (from + 1) cs more id c)
  where
    by : (b : Bool) → option_map (λ (e : ℕ × List ℤ). e.1) (cond b (Some (from, d)) (find (λ (e : ℕ × List ℤ). eqb e.0 id) (numbered (from + 1) cs))) ≡ Some c
        → (clause_of (numbered (from + 1) cs) id ≡ Some c → clause_of (numbered (from + 1) (map (map name) cs ++ more)) id ≡ Some (map name c))
        → option_map (λ (e : ℕ × List ℤ). e.1) (cond b (Some (from, map name d)) (find (λ (e : ℕ × List ℤ). eqb e.0 id) (numbered (from + 1) (map (map name) cs ++ more)))) ≡ Some (map name c)
    by true is later = let same : d ≡ c = cc in ap (λ e. Some (map name e)) same
    by false is later = later is

-- ---- what it takes that a step follows

pub record IsStepBehind (vars last : ℕ) (known : List (ℕ × List ℤ)) (s : Step) (ss : List Step) : Type 0 where
  pub above : last < s.id
  pub clause : is_step_clause vars s.lits ≡ true
  pub follows : follows known s.lits s.hints ≡ true
  pub rest : steps_follow vars s.id (known ++ (s.id, s.lits) ∷ []) ss ≡ true

pub step_of : (vars last : ℕ) (known : List (ℕ × List ℤ)) (s : Step) (ss : List Step) → steps_follow vars last known (s ∷ ss) ≡ true → IsStepBehind vars last known s ss
step_of vars last known s ss h =
    let outer = and_parts (ltb last s.id && is_step_clause vars s.lits && follows known s.lits s.hints) (steps_follow vars s.id (known ++ (s.id, s.lits) ∷ []) ss) h in
    let inner = and_parts (ltb last s.id && is_step_clause vars s.lits) (follows known s.lits s.hints) outer.0 in
    let first = and_parts (ltb last s.id) (is_step_clause vars s.lits) inner.0 in
    record { above = ltb-true last s.id first.0; clause = first.1; follows = inner.1; rest = outer.1 }

step_from : (vars last : ℕ) (known : List (ℕ × List ℤ)) (s : Step) (ss : List Step) → IsStepBehind vars last known s ss → steps_follow vars last known (s ∷ ss) ≡ true
step_from vars last known s ss h =
    and_from (ltb last s.id && is_step_clause vars s.lits && follows known s.lits s.hints) (steps_follow vars s.id (known ++ (s.id, s.lits) ∷ []) ss)
    (and_from (ltb last s.id && is_step_clause vars s.lits) (follows known s.lits s.hints)
    (and_from (ltb last s.id) (is_step_clause vars s.lits) (lt-ltb last s.id h.above) h.clause)
    h.follows)
    h.rest

-- ids of steps that follow rise above the last one
pub ids-above : (vars last : ℕ) (known : List (ℕ × List ℤ)) (ss : List Step) (id : ℕ) → steps_follow vars last known ss ≡ true → In id (ids_in ss) → last < id
ids-above vars last known [] id h i = absurd i
ids-above vars last known (s ∷ ss) id h (inl same) = let up = (step_of vars last known s ss h).above in omega arith
ids-above vars last known (s ∷ ss) id h (inr later) =
    let step = step_of vars last known s ss h in
    let up = step.above in
    let rest = ids-above vars s.id (known ++ (s.id, s.lits) ∷ []) ss id step.rest later in
    omega arith

pub ids-ascend : (vars last : ℕ) (known : List (ℕ × List ℤ)) (ss : List Step) → steps_follow vars last known ss ≡ true → Ascends (ids_in ss)
ids-ascend vars last known [] h = tt
ids-ascend vars last known (s ∷ ss) h =
    let step = step_of vars last known s ss h in
    (λ id i. ids-above vars s.id (known ++ (s.id, s.lits) ∷ []) ss id step.rest i, ids-ascend vars s.id (known ++ (s.id, s.lits) ∷ []) ss step.rest)

-- ---- a step's clause, carried over

module _ (old new : Problem) (ok : IsProblem old) (e : Extends old new) where
  abbrev name : ℤ → ℤ
  name = carried_lit old new

  renaming : IsRenaming (carried_lit old new)
  renaming = carried-renaming old new e.vars

  lit-carried : (whole : List ℤ) (l : ℤ) → (ltb 0 (var_of l) && leb (var_of l) (old.vars + old.groups) && not (contains_lit whole (neg_ℤ l))) ≡ true
      → (ltb 0 (var_of (carried_lit old new l)) && leb (var_of (carried_lit old new l)) (new.vars + new.groups) && not (contains_lit (map (carried_lit old new) whole) (neg_ℤ (carried_lit old new l)))) ≡ true
  lit-carried whole l h =
      let outer = and_parts (ltb 0 (var_of l) && leb (var_of l) (old.vars + old.groups)) (not (contains_lit whole (neg_ℤ l))) h in
      let inner = and_parts (ltb 0 (var_of l)) (leb (var_of l) (old.vars + old.groups)) outer.0 in
      let low = ltb-true 0 (var_of l) inner.0 in
      let high = leb-true (var_of l) (old.vars + old.groups) inner.1 in
      let is = var_of-carried old new l e.vars in
      let some = var-some old new (var_of l) e.vars low in
      let m = carried_lit old new l in
      let within : carried_var old new (var_of l) ≤ new.vars + new.groups = bound (var_of l) high in
      and_from (ltb 0 (var_of m) && leb (var_of m) (new.vars + new.groups)) (not (contains_lit (map (carried_lit old new) whole) (neg_ℤ m)))
      (and_from (ltb 0 (var_of m)) (leb (var_of m) (new.vars + new.groups)) (lt-ltb 0 (var_of m) (omega arith)) (le-leb (var_of m) (new.vars + new.groups) (omega arith)))
      (ap (λ k. not (contains_lit (map (carried_lit old new) whole) k)) (sym (renaming.negated l)) ∙ ap not (contains-renamed (carried_lit old new) renaming whole (neg_ℤ l)) ∙ outer.1)
    where
      bound : (v : ℕ) → v ≤ old.vars + old.groups → carried_var old new v ≤ new.vars + new.groups
      bound v high =
          let more = e.vars in
          let groups = e.groups in
          elim (cases_lt old.vars v) [
            | inl behind ↦ let here = var-high old new v behind in omega arith
            | inr among ↦ let here = var-low old new v among in omega arith
          ]

  lits-carried : (whole lits : List ℤ) → list_all (λ l. ltb 0 (var_of l) && leb (var_of l) (old.vars + old.groups) && not (contains_lit whole (neg_ℤ l))) lits ≡ true
      → list_all (λ l. ltb 0 (var_of l) && leb (var_of l) (new.vars + new.groups) && not (contains_lit (map (carried_lit old new) whole) (neg_ℤ l))) (map (carried_lit old new) lits) ≡ true
  lits-carried whole [] h = refl
  lits-carried whole (l ∷ ls) h =
      let parts = and_parts (ltb 0 (var_of l) && leb (var_of l) (old.vars + old.groups) && not (contains_lit whole (neg_ℤ l)))
      (list_all (λ l. ltb 0 (var_of l) && leb (var_of l) (old.vars + old.groups) && not (contains_lit whole (neg_ℤ l))) ls) h in
      let m = carried_lit old new l in
      and_from (ltb 0 (var_of m) && leb (var_of m) (new.vars + new.groups) && not (contains_lit (map (carried_lit old new) whole) (neg_ℤ m)))
      (list_all (λ l. ltb 0 (var_of l) && leb (var_of l) (new.vars + new.groups) && not (contains_lit (map (carried_lit old new) whole) (neg_ℤ l))) (map (carried_lit old new) ls))
      (lit-carried whole l parts.0) (lits-carried whole ls parts.1)

  -- ---- the steps

  -- the ids of an accepted derivation's steps
  record AreIds (ids : List ℕ) : Type 0 where
    ascend : Ascends ids
    above : (id : ℕ) → In id ids → length old.clauses < id

  id-input : (ids : List ℕ) (id : ℕ) → id ≤ length old.clauses → carried_id old new ids id ≡ id
  id-input ids id le = cond-true (leb id (length old.clauses)) id (length new.clauses + 1 + place_in ids id) (le-leb id (length old.clauses) le)

  id-step : (ids before after : List ℕ) (id : ℕ) → AreIds ids → ids ≡ before ++ id ∷ after → length old.clauses < id
      → carried_id old new ids id ≡ length new.clauses + 1 + length before
  id-step ids before after id are is above =
      let lt : length before < length ids = let n = ap length is ∙ length-append before (id ∷ after) in omega arith in
      let zero_more : length before ≡ length before + 0 = omega arith in
      let here : get_or ids (length before) 0 ≡ id =
      ap (λ xs. get_or xs (length before) 0) is ∙ ap (λ k. get_or (before ++ id ∷ after) k 0) zero_more ∙ get_or-append-add before (id ∷ after) 0 0 in
      cond-false (leb id (length old.clauses)) id (length new.clauses + 1 + place_in ids id) (lt-leb id (length old.clauses) above)
      ∙ ap (λ k. length new.clauses + 1 + k) (sym (ap (place_in ids) here) ∙ place_at ids (length before) 0 are.ascend lt)

  carries-more : (ids : List ℕ) (known news : List (ℕ × List ℤ)) (s : Step) (last : ℕ) → Carries name (carried_id old new ids) known news → AtMost last news
      → last < carried_id old new ids s.id
      → Carries name (carried_id old new ids) (known ++ (s.id, s.lits) ∷ []) (news ++ (carried_id old new ids s.id, map (carried_lit old new) s.lits) ∷ [])
  carries-more ids known news s last carries most above id c is = by (clause_of known id) refl
    where
      here : ℕ × List ℤ
      here = (carried_id old new ids s.id, map (carried_lit old new) s.lits)

      by : (o : Option (List ℤ)) → clause_of known id ≡ o → clause_of (news ++ here ∷ []) (carried_id old new ids id) ≡ Some (map (carried_lit old new) c)
      by (Some d) some =
          let both : Some d ≡ Some c = sym (found_first known ((s.id, s.lits) ∷ []) id d some) ∙ is in
          let same : d ≡ c = cc in
          found_first news (here ∷ []) (carried_id old new ids id) (map (carried_lit old new) c) (carries id c (some ∙ ap Some same))
      by None none =
          let last_one = found_last (s.id, s.lits) id c (sym (found_later known ((s.id, s.lits) ∷ []) id none) ∙ is) in
          let number : carried_id old new ids s.id ≡ carried_id old new ids id = ap (carried_id old new ids) last_one.0 in
          let behind : clause_of news (carried_id old new ids id) ≡ None = none_above last news (carried_id old new ids id) most (omega arith) in
          found_later news (here ∷ []) (carried_id old new ids id) behind
          ∙ clause_of-here here [] (carried_id old new ids id) number ∙ ap (λ d. Some (map (carried_lit old new) d)) last_one.1

  -- what is known before and what is known at the end are carried
  record AreCarried (ids : List ℕ) (known news : List (ℕ × List ℤ)) (last : ℕ) (ss : List Step) : Type 0 where
    follow : steps_follow (new.vars + new.groups) last news (map (carried_step old new ids) ss) ≡ true
    known_all : Carries name (carried_id old new ids) (known ++ clauses_in ss) (news ++ clauses_in (map (carried_step old new ids) ss))

  steps-carried : (ids before : List ℕ) (known news : List (ℕ × List ℤ)) (old_last last : ℕ) (ss : List Step) → AreIds ids → ids ≡ before ++ ids_in ss → last ≡ length new.clauses + length before
      → Carries name (carried_id old new ids) known news → AtMost last news
      → steps_follow (old.vars + old.groups) old_last known ss ≡ true → AreCarried ids known news last ss
  steps-carried ids before known news old_last last [] are is at carries most h =
      record { follow = refl; known_all = subst (λ ns. Carries name (carried_id old new ids) ns (news ++ [])) (sym (append-nil known)) (subst (Carries name (carried_id old new ids) known) (sym (append-nil news)) carries) }
  steps-carried ids before known news old_last last (s ∷ ss) are is at carries most h =
      let step = step_of (old.vars + old.groups) old_last known s ss h in
      let among : In s.id ids = subst (In s.id) (sym is) (here before) in
      let number : carried_id old new ids s.id ≡ length new.clauses + 1 + length before = id-step ids before (ids_in ss) s.id are is (are.above s.id among) in
      let next = carried_id old new ids s.id in
      let above : last < next = omega arith in
      let lits = map (carried_lit old new) s.lits in
      let longer : ids ≡ (before ++ s.id ∷ []) ++ ids_in ss = is ∙ sym (append_assoc before (s.id ∷ []) (ids_in ss)) in
      let count = length-append before (s.id ∷ []) in
      let rest =
      steps-carried ids (before ++ s.id ∷ []) (known ++ (s.id, s.lits) ∷ []) (news ++ (next, lits) ∷ []) s.id next ss are longer (omega arith) (carries-more ids known news s last carries most above)
      (at_most_more last next news lits most above) step.rest in
      record {
        follow =
            step_from (new.vars + new.groups) last news (carried_step old new ids s) (map (carried_step old new ids) ss)
            (record {
              above = above;
              clause = lits-carried s.lits s.lits step.clause;
              follows = follows-renamed (carried_lit old new) renaming (carried_id old new ids) known news carries s.lits s.hints step.follows;
              rest = rest.follow;
            });
        known_all =
            subst (λ ns. Carries name (carried_id old new ids) ns (news ++ clauses_in (map (carried_step old new ids) (s ∷ ss)))) (append_assoc known ((s.id, s.lits) ∷ []) (clauses_in ss))
            (subst (Carries name (carried_id old new ids) ((known ++ (s.id, s.lits) ∷ []) ++ clauses_in ss)) (append_assoc news ((next, lits) ∷ []) (clauses_in (map (carried_step old new ids) ss))) rest.known_all);
      }
    where
      here : (xs : List ℕ) → In s.id (xs ++ s.id ∷ ids_in ss)
      here [] = inl refl
      here (x ∷ xs) = inr (here xs)

  length-form : (p : Problem) → length (selector_form p) ≡ length p.clauses
  length-form p = length-map p.clauses (with_selector p)

  -- what refutes a set still does
  pub refutes-carried : (set : List ℕ) (d : Derivation) → IsGroupSet set → refutes old set d ≡ true → refutes new set (carried_proof old new d) ≡ true
  refutes-carried set d is_set h =
      let ids = ids_in d.steps in
      let inputs = selector_form old in
      let within : ℤ → Bool = λ l. list_any (λ g. int_eq (left_out old g) l) set in
      let now_within : ℤ → Bool = λ l. list_any (λ g. int_eq (left_out new g) l) set in
      let parts = and_parts (is_derivation (old.vars + old.groups) inputs d) (option_map_or (λ c. list_all within c) (clause_of (all_known inputs d.steps) d.goal) false) h in
      let old_count = length-form old in
      let new_count = length-form new in
      let are : AreIds ids = record {
        ascend = ids-ascend (old.vars + old.groups) (length inputs) (numbered 1 inputs) d.steps parts.0;
        above = λ id i. (let up = ids-above (old.vars + old.groups) (length inputs) (numbered 1 inputs) d.steps id parts.0 i in omega arith);
      } in
      let form = form-carried old new ok e in
      let carries : Carries name (carried_id old new ids) (numbered 1 inputs) (numbered 1 (selector_form new)) = λ id c is.
      (let range = at_most_inputs 1 inputs id c is in
      let high = range.1 in
      ap (clause_of (numbered 1 (selector_form new))) (id-input ids id (omega arith))
      ∙ ap (λ cs. clause_of (numbered 1 cs) id) form ∙ inputs-carried name 1 inputs (map (with_selector new) e.more) id c is) in
      let most : AtMost (length (selector_form new)) (numbered 1 (selector_form new)) = λ id c is. (let range = at_most_inputs 1 (selector_form new) id c is in let high = range.1 in omega arith) in
      let all = steps-carried ids [] (numbered 1 inputs) (numbered 1 (selector_form new)) (length inputs) (length (selector_form new)) d.steps are refl (omega arith) carries most parts.0 in
      let (c, is, good) = some_of (clause_of (all_known inputs d.steps) d.goal) (λ (c : List ℤ). list_all within c) parts.1 in
      and_from (is_derivation (new.vars + new.groups) (selector_form new) (carried_proof old new d)) (option_map_or (λ c. list_all now_within c) (clause_of (all_known (selector_form new) (carried_proof old new d).steps) (carried_proof old new d).goal) false)
      all.follow
      (ap (λ (o : Option (List ℤ)). option_map_or (λ c. list_all now_within c) o false) (all.known_all d.goal c is) ∙ each c ∙ good)
    where
      each : (c : List ℤ) → list_all (λ l. list_any (λ g. int_eq (left_out new g) l) set) (map (carried_lit old new) c) ≡ list_all (λ l. list_any (λ g. int_eq (left_out old g) l) set) c
      each [] = refl
      each (l ∷ ls) = ap₂ (λ a b. a && b) (within-carried old new 0 set l e.vars is_set) (each ls)
