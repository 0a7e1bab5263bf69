-- Lemmas on trimmed derivations: of an honest log without its marks, the steps of a cone derive the clause of its goal.
use Rattle.std.proofs.Common.{◌≡◌, ℕ, zero, suc, ◌+◌, ◌-◌, ◌<◌, ◌≤◌, true, false, not, ◌&&◌, List, [], ◌∷◌, ◌++◌, map, length, get_or, take, drop, Some, refl, sym, ◌∙◌, ap, ap₂, subst, inl, inr, arith, append_assoc}
use Rattle.std.specs.Prelude.{ℤ, neg_ℤ, nat_lt, nat_le}
use Rattle.std.specs.List.{range_with_len}
use Rattle.std.specs.Ordering.{int_eq}
use Rattle.std.proofs.lemmas.Bool.{cond-true, cond-false, false≢true, and_from, lt-ltb, le-leb, false_from_ne_true}
use Rattle.std.proofs.lemmas.Bool.Decides.{Decides-int_eq}
use Rattle.std.proofs.lemmas.List.{append-nil, length-map, length-append, get_or-map, get_or_append_left, get_or-append-add, get_or_at, take-append-drop, map_push}
use Rattle.sat_base.specs.Members.{In}
use Rattle.sat_base.specs.Literals.{var_of, IsLiteral, AreLiterals}
use Rattle.sat_base.specs.Derivation.{Step, Derivation, is_derivation, numbered, clause_of, contains_lit, follows, is_step_clause, steps_follow, all_known}
use Rattle.sat_base.specs.Numbering.{Ascends, place_in}
use Rattle.sat_base.specs.Database.{StoredClause, known_of}
use Rattle.sat_base.proofs.Members.{In-map, In-append_right, all_from, any_from}
use Rattle.sat_base.proofs.DatabaseLemmas.{named_at, named_is, named_more, named_range}
use Rattle.lrat_steps.specs.Log.{LogStep, Input, Learned, Core, Forgot, lits_of, stored, inputs_of}
use Rattle.lrat_steps.specs.Honest.{IsProper}
use Rattle.lrat_steps.specs.Trimmed.{AreNeeded, IsTrimmed}
use Rattle.lrat_steps.specs.Cone.{is_input, lits_at, hints_at, is_input_at, inputs_up_to, IsReached, AreDerivedIds, AreNeededIds, IsCone, number_in, trimmed_step, trimmed}
use Rattle.lrat_steps.proofs.FollowLemmas.{AreDerived, hint_known, follows_renamed, backward_of}
use Rattle.sat_base.proofs.PlaceLemmas.{place_has, place_at, place-append, In-before}

-- the clause of an id

lits_named : (steps : List LogStep) (id : ℕ) (c : List ℤ) → clause_of (known_of (map stored steps)) id ≡ Some c → lits_at steps id ≡ c
lits_named steps id c named =
    let range = named_range (map stored steps) id c named in
    let first = range.0 in
    let last = range.1 in
    let len = length-map steps stored in
    let at = get_or-map stored steps (id - 1) (Input []) (stored (Input [])) (omega arith) in
    sym (ap (λ (k : StoredClause). k.lits) at) ∙ named_is (map stored steps) id (stored (Input [])) c named

earlier_named : (db : List StoredClause) (at h : ℕ) (c : List ℤ) → clause_of (known_of (take at db)) h ≡ Some c → clause_of (known_of db) h ≡ Some c
earlier_named db at h c named = subst (λ (all : List StoredClause). clause_of (known_of all) h ≡ Some c) (take-append-drop at db) (named_more (take at db) (drop at db) h c named)

abbrev as_stored : List ℤ → StoredClause
as_stored c = record { lits = c; live = true }

stored_back : (cs : List (List ℤ)) → map (λ (k : StoredClause). k.lits) (map as_stored cs) ≡ cs
stored_back [] = refl
stored_back (c ∷ cs) = ap (λ (rest : List (List ℤ)). c ∷ rest) (stored_back cs)

clause_at_number : (cs : List (List ℤ)) (n : ℕ) → n < length cs → clause_of (numbered 1 cs) (n + 1) ≡ Some (get_or cs n [])
clause_at_number cs n lt =
    let len = length-map cs as_stored in
    let back : n + 1 - 1 ≡ n = omega arith in
    ap (λ (all : List (List ℤ)). clause_of (numbered 1 all) (n + 1)) (sym (stored_back cs))
    ∙ named_at (map as_stored cs) (n + 1) (as_stored []) (omega arith) (omega arith)
    ∙ ap (λ k. Some (get_or (map as_stored cs) k (as_stored [])).lits) back
    ∙ ap (λ (k : StoredClause). Some k.lits) (get_or-map as_stored cs n [] (as_stored []) lt)

numbered-append : (from : ℕ) (cs more : List (List ℤ)) → numbered from (cs ++ more) ≡ numbered from cs ++ numbered (from + length cs) more
numbered-append from [] more = let same : from ≡ from + 0 = omega arith in ap (λ n. numbered n more) same
numbered-append from (c ∷ cs) more =
    let same : from + 1 + length cs ≡ from + suc (length cs) = omega arith in
    ap (λ (rest : List (ℕ × List ℤ)). (from, c) ∷ rest) (numbered-append (from + 1) cs more ∙ ap (λ n. numbered (from + 1) cs ++ numbered n more) same)

-- an input has its number among the inputs

input_number : (steps : List LogStep) (at : ℕ) (d : LogStep) → at < length steps → is_input (get_or steps at d) ≡ true
    → (n : ℕ) × (length (inputs_of (take (suc at) steps)) ≡ n + 1) × (n < length (inputs_of steps)) × (get_or (inputs_of steps) n [] ≡ lits_of (get_or steps at d))
input_number [] at d lt e = absurd (omega arith)
input_number (Input lits ∷ steps) zero d lt e = (0, refl, omega arith, refl)
input_number (Learned lits hints ∷ steps) zero d lt e = absurd (false≢true e)
input_number (Core lits hints ∷ steps) zero d lt e = absurd (false≢true e)
input_number (Forgot id ∷ steps) zero d lt e = absurd (false≢true e)
input_number (Input lits ∷ steps) (suc at) d lt e =
    let (n, counts, within, is) = input_number steps at d (omega arith) e in (suc n, omega arith, omega arith, is)
input_number (Learned lits hints ∷ steps) (suc at) d lt e = input_number steps at d (omega arith) e
input_number (Core lits hints ∷ steps) (suc at) d lt e = input_number steps at d (omega arith) e
input_number (Forgot id ∷ steps) (suc at) d lt e = input_number steps at d (omega arith) e

-- the clauses that are known after some of the steps
abbrev clauses_with : List LogStep → List ℕ → List (List ℤ)
clauses_with steps done = inputs_of steps ++ map (lits_at steps) done

input_known : (steps : List LogStep) (done ids : List ℕ) (id : ℕ) → 0 < id → id ≤ length steps → is_input_at steps id ≡ true
    → clause_of (numbered 1 (clauses_with steps done)) (number_in steps ids id) ≡ Some (lits_at steps id)
input_known steps done ids id low high input =
    let (n, counts, within, is) = input_number steps (id - 1) (Input []) (omega arith) input in
    let place : suc (id - 1) ≡ id = omega arith in
    let len = length-append (inputs_of steps) (map (lits_at steps) done) in
    let is_number : number_in steps ids id ≡ n + 1 =
    cond-true (is_input_at steps id) (inputs_up_to steps id) (length (inputs_of steps) + 1 + place_in ids id) input ∙ ap (inputs_up_to steps) (sym place) ∙ counts in
    ap (clause_of (numbered 1 (clauses_with steps done))) is_number
    ∙ clause_at_number (clauses_with steps done) n (omega arith)
    ∙ ap Some (get_or_append_left (inputs_of steps) (map (lits_at steps) done) [] n within ∙ is)

derived_known : (steps : List LogStep) (done rest : List ℕ) (id : ℕ) → is_input_at steps id ≡ false → In id done
    → clause_of (numbered 1 (clauses_with steps done)) (number_in steps (done ++ rest) id) ≡ Some (lits_at steps id)
derived_known steps done rest id derived i =
    let (within, there) = place_has done id i in
    let len = length-append (inputs_of steps) (map (lits_at steps) done) in
    let same_len = length-map done (lits_at steps) in
    let place = place-append done rest id i in
    let is_number : number_in steps (done ++ rest) id ≡ length (inputs_of steps) + place_in done id + 1 =
    cond-false (is_input_at steps id) (inputs_up_to steps id) (length (inputs_of steps) + 1 + place_in (done ++ rest) id) derived ∙ omega arith in
    ap (clause_of (numbered 1 (clauses_with steps done))) is_number
    ∙ clause_at_number (clauses_with steps done) (length (inputs_of steps) + place_in done id) (omega arith)
    ∙ ap Some
    (get_or-append-add (inputs_of steps) (map (lits_at steps) done) (place_in done id) []
    ∙ get_or-map (lits_at steps) done (place_in done id) 0 [] within
    ∙ ap (lits_at steps) (there 0))

-- a step's clause is over the variables of the inputs and holds no literal with its negation

literal_at : (vars : ℕ) (lits : List ℤ) (l : ℤ) → AreLiterals vars lits → In l lits → IsLiteral vars l
literal_at vars [] l h i = absurd i
literal_at vars (m ∷ lits) l h (inl same) = subst (IsLiteral vars) (sym same) h.0
literal_at vars (m ∷ lits) l h (inr i) = literal_at vars lits l h.1 i

step_clause : (steps : List LogStep) (vars : ℕ) (lits : List ℤ) → ((c : List ℤ) → In c (inputs_of steps) → AreLiterals vars c) → IsProper (inputs_of steps) lits → is_step_clause vars lits ≡ true
step_clause steps vars lits inputs proper =
    all_from (λ l. nat_lt 0 (var_of l) && nat_le (var_of l) vars && not (contains_lit lits (neg_ℤ l))) lits
    (λ l i.
    let (c, m, in_inputs, in_clause, same) = proper.vars l i in
    let lit = literal_at vars c m (inputs c in_inputs) in_clause in
    let low : 0 < var_of l = subst (λ v. 0 < v) same lit.not_zero in
    let high : var_of l ≤ vars = subst (λ v. v ≤ vars) same lit.in_range in
    and_from (nat_lt 0 (var_of l) && nat_le (var_of l) vars) (not (contains_lit lits (neg_ℤ l)))
    (and_from (nat_lt 0 (var_of l)) (nat_le (var_of l) vars) (lt-ltb 0 (var_of l) low) (le-leb (var_of l) vars high))
    (ap not
    (false_from_ne_true (contains_lit lits (neg_ℤ l))
    (λ t.
    let (k, j, e) = any_from (λ k. int_eq k (neg_ℤ l)) lits t in
    let is : k ≡ neg_ℤ l = (Decides-int_eq k (neg_ℤ l)).0 e in
    proper.consistent l i (subst (λ z. In z lits) is j)))))

-- the steps, one after another

number_next : (steps : List LogStep) (done rest ids : List ℕ) (id : ℕ) → AreDerivedIds steps ids → done ++ id ∷ rest ≡ ids → number_in steps ids id ≡ length (inputs_of steps) + 1 + length done
number_next steps done rest ids id cone whole =
    let there : In id ids = subst (In id) whole (In-last done rest) in
    let len = length-append done (id ∷ rest) in
    let short : length done < length ids = subst (λ (xs : List ℕ). length done < length xs) whole (omega arith) in
    let at : get_or ids (length done) 0 ≡ id = ap (λ (xs : List ℕ). get_or xs (length done) 0) (sym whole) ∙ get_or_at done id rest 0 (length done) refl in
    let place : place_in ids id ≡ length done = ap (place_in ids) (sym at) ∙ place_at ids (length done) 0 cone.ascends short in
    cond-false (is_input_at steps id) (inputs_up_to steps id) (length (inputs_of steps) + 1 + place_in ids id) (cone.derived id there).derived ∙ ap (λ k. length (inputs_of steps) + 1 + k) place
  where
    In-last : (xs ys : List ℕ) → In id (xs ++ id ∷ ys)
    In-last [] ys = inl refl
    In-last (x ∷ xs) ys = inr (In-last xs ys)

abbrev numbered_step : Step → ℕ × List ℤ
numbered_step s = (s.id, s.lits)

more_whole : (done rest ids : List ℕ) (id : ℕ) → done ++ id ∷ rest ≡ ids → (done ++ id ∷ []) ++ rest ≡ ids
more_whole done rest ids id whole = append_assoc done (id ∷ []) rest ∙ whole

-- the steps under their numbers go on from the inputs
named_steps : (steps : List LogStep) (done rest ids : List ℕ) → AreDerivedIds steps ids → done ++ rest ≡ ids
    → map numbered_step (map (trimmed_step steps ids) rest) ≡ numbered (1 + length (inputs_of steps) + length done) (map (lits_at steps) rest)
named_steps steps done [] ids cone whole = refl
named_steps steps done (id ∷ rest) ids cone whole =
    let number : number_in steps ids id ≡ 1 + length (inputs_of steps) + length done = number_next steps done rest ids id cone whole ∙ omega arith in
    let len = length-append done (id ∷ []) in
    let next : 1 + length (inputs_of steps) + length (done ++ id ∷ []) ≡ 1 + length (inputs_of steps) + length done + 1 = omega arith in
    ap₂ (λ (n : ℕ) (others : List (ℕ × List ℤ)). (n, lits_at steps id) ∷ others) number
    (named_steps steps (done ++ id ∷ []) rest ids cone (more_whole done rest ids id whole) ∙ ap (λ n. numbered n (map (lits_at steps) rest)) next)

known_whole : (steps : List LogStep) (ids : List ℕ) → AreDerivedIds steps ids → all_known (inputs_of steps) (map (trimmed_step steps ids) ids) ≡ numbered 1 (clauses_with steps ids)
known_whole steps ids cone =
    let none : 1 + length (inputs_of steps) + 0 ≡ 1 + length (inputs_of steps) = omega arith in
    ap (λ (named : List (ℕ × List ℤ)). numbered 1 (inputs_of steps) ++ named) (named_steps steps [] ids ids cone refl ∙ ap (λ n. numbered n (map (lits_at steps) ids)) none)
    ∙ sym (numbered-append 1 (inputs_of steps) (map (lits_at steps) ids))

numbers_rise : (steps : List LogStep) (done rest ids : List ℕ) → AreDerivedIds steps ids → done ++ rest ≡ ids
    → map (λ (s : Step). s.id) (map (trimmed_step steps ids) rest) ≡ range_with_len (length (inputs_of steps) + 1 + length done) (length (map (trimmed_step steps ids) rest))
numbers_rise steps done [] ids cone whole = refl
numbers_rise steps done (id ∷ rest) ids cone whole =
    let len = length-append done (id ∷ []) in
    let next : length (inputs_of steps) + 1 + length (done ++ id ∷ []) ≡ length (inputs_of steps) + 1 + length done + 1 = omega arith in
    ap₂ (λ (n : ℕ) (others : List ℕ). n ∷ others) (number_next steps done rest ids id cone whole)
    (numbers_rise steps (done ++ id ∷ []) rest ids cone (more_whole done rest ids id whole)
    ∙ ap (λ n. range_with_len n (length (map (trimmed_step steps ids) rest))) next)

-- each clause that a step needs is known before it under its new number
hint_renamed : (steps : List LogStep) (goal : ℕ) (done rest ids : List ℕ) (id h : ℕ) → AreDerived (inputs_of steps) steps → IsCone steps goal ids → done ++ id ∷ rest ≡ ids → In id ids → In h (hints_at steps id)
    → clause_of (numbered 1 (clauses_with steps done)) (number_in steps ids h) ≡ clause_of (known_of (take (id - 1) (map stored steps))) h
hint_renamed steps goal done rest ids id h derived_by cone whole there i =
    let step = cone.derived.derived id there in
    let d = derived_by id step in
    let (c, named) = hint_known (known_of (take (id - 1) (map stored steps))) (lits_at steps id) (hints_at steps id) h d.follows i in
    let in_log = earlier_named (map stored steps) (id - 1) h c named in
    let is = lits_named steps h c in_log in
    let range = backward_of (inputs_of steps) steps derived_by id step.from_one step.within h i in
    let low = range.0 in
    let earlier = range.1 in
    let last = step.within in
    let high : h ≤ length steps = omega arith in
    known (cone.hints_reached id there h i) low high earlier ∙ ap Some is ∙ sym named
  where
    known : IsReached steps ids h → 0 < h → h ≤ length steps → h < id → clause_of (numbered 1 (clauses_with steps done)) (number_in steps ids h) ≡ Some (lits_at steps h)
    known (inl input) low high earlier = input_known steps done ids h low high input
    known (inr of_cone) low high earlier =
        let before : In h done =
        In-before done rest id h (subst Ascends (sym whole) cone.derived.ascends) earlier (subst (In h) (sym whole) of_cone) in
        subst (λ (all : List ℕ). clause_of (numbered 1 (clauses_with steps done)) (number_in steps all h) ≡ Some (lits_at steps h)) whole
        (derived_known steps done (id ∷ rest) h (cone.derived.derived h of_cone).derived before)

steps_follow_from : (steps : List LogStep) (goal vars : ℕ) (done rest ids : List ℕ) → AreDerived (inputs_of steps) steps → IsCone steps goal ids → ((c : List ℤ) → In c (inputs_of steps) → AreLiterals vars c) → done ++ rest ≡ ids
    → steps_follow vars (length (inputs_of steps) + length done) (numbered 1 (clauses_with steps done)) (map (trimmed_step steps ids) rest) ≡ true
steps_follow_from steps goal vars done [] ids derived_by cone inputs whole = refl
steps_follow_from steps goal vars done (id ∷ rest) ids derived_by cone inputs whole =
    let there : In id ids = subst (In id) whole (In-append_right id done (id ∷ rest) (inl refl)) in
    let d = derived_by id (cone.derived.derived id there) in
    let s = trimmed_step steps ids id in
    let known = numbered 1 (clauses_with steps done) in
    let number = number_next steps done rest ids id cone.derived whole in
    let above : length (inputs_of steps) + length done < number_in steps ids id = omega arith in
    let len = length-append done (id ∷ []) in
    let last : length (inputs_of steps) + length (done ++ id ∷ []) ≡ number_in steps ids id = omega arith in
    let clauses : clauses_with steps (done ++ id ∷ []) ≡ clauses_with steps done ++ lits_at steps id ∷ [] =
    ap (λ (cs : List (List ℤ)). inputs_of steps ++ cs) (map_push (lits_at steps) done id) ∙ sym (append_assoc (inputs_of steps) (map (lits_at steps) done) (lits_at steps id ∷ [])) in
    let clauses_len = length-append (inputs_of steps) (map (lits_at steps) done) in
    let done_len = length-map done (lits_at steps) in
    let place : 1 + length (clauses_with steps done) ≡ number_in steps ids id = omega arith in
    let next_known : numbered 1 (clauses_with steps (done ++ id ∷ [])) ≡ known ++ (number_in steps ids id, lits_at steps id) ∷ [] =
    ap (numbered 1) clauses ∙ numbered-append 1 (clauses_with steps done) (lits_at steps id ∷ []) ∙ ap (λ n. known ++ (n, lits_at steps id) ∷ []) place in
    let rest_follows : steps_follow vars (number_in steps ids id) (known ++ (number_in steps ids id, lits_at steps id) ∷ []) (map (trimmed_step steps ids) rest) ≡ true =
    subst (λ (named : List (ℕ × List ℤ)). steps_follow vars (number_in steps ids id) named (map (trimmed_step steps ids) rest) ≡ true) next_known
    (subst (λ n. steps_follow vars n (numbered 1 (clauses_with steps (done ++ id ∷ []))) (map (trimmed_step steps ids) rest) ≡ true) last
    (steps_follow_from steps goal vars (done ++ id ∷ []) rest ids derived_by cone inputs (more_whole done rest ids id whole))) in
    and_from (nat_lt (length (inputs_of steps) + length done) s.id && is_step_clause vars s.lits && follows known s.lits s.hints)
    (steps_follow vars s.id (known ++ (s.id, s.lits) ∷ []) (map (trimmed_step steps ids) rest))
    (and_from (nat_lt (length (inputs_of steps) + length done) s.id && is_step_clause vars s.lits) (follows known s.lits s.hints)
    (and_from (nat_lt (length (inputs_of steps) + length done) s.id) (is_step_clause vars s.lits) (lt-ltb (length (inputs_of steps) + length done) (number_in steps ids id) above)
    (step_clause steps vars (lits_at steps id) inputs d.proper))
    (follows_renamed (known_of (take (id - 1) (map stored steps))) known (number_in steps ids) (lits_at steps id) (hints_at steps id)
    (λ h i. hint_renamed steps goal done rest ids id h derived_by cone whole there i) d.follows))
    rest_follows

-- each step is needed

needed_steps : (steps : List LogStep) (goal : ℕ) (ids rest : List ℕ) → AreNeededIds steps goal rest → AreNeeded (number_in steps ids goal) (map (trimmed_step steps ids) rest)
needed_steps steps goal ids [] h = tt
needed_steps steps goal ids (id ∷ rest) (here, others) = (
  elim here [
    | inl same ↦ inl (ap (number_in steps ids) same)
    | inr (y, later, hint) ↦
        inr (trimmed_step steps ids y, In-map (trimmed_step steps ids) y rest later, In-map (number_in steps ids) id (hints_at steps y) hint)
  ],
  needed_steps steps goal ids rest others,
)

goal_known : (steps : List LogStep) (goal : ℕ) (ids : List ℕ) → 0 < goal → goal ≤ length steps → IsCone steps goal ids
    → clause_of (numbered 1 (clauses_with steps ids)) (number_in steps ids goal) ≡ Some (lits_at steps goal)
goal_known steps goal ids low high cone = known cone.goal_reached
  where
    known : IsReached steps ids goal → clause_of (numbered 1 (clauses_with steps ids)) (number_in steps ids goal) ≡ Some (lits_at steps goal)
    known (inl input) = input_known steps ids ids goal low high input
    known (inr of_cone) =
        subst (λ (all : List ℕ). clause_of (numbered 1 (clauses_with steps ids)) (number_in steps all goal) ≡ Some (lits_at steps goal)) (append-nil ids)
        (derived_known steps ids [] goal (cone.derived.derived goal of_cone).derived of_cone)

-- the steps of a goal's cone, under new numbers, derive its clause
pub trimmed_is : (steps : List LogStep) (goal : ℕ) (ids : List ℕ) (lits : List ℤ) → AreDerived (inputs_of steps) steps → 0 < goal → goal ≤ length steps → IsCone steps goal ids
    → clause_of (known_of (map stored steps)) goal ≡ Some lits → IsTrimmed steps lits (trimmed steps goal ids)
trimmed_is steps goal ids lits derived_by low high cone named =
    let none : length (inputs_of steps) + 0 ≡ length (inputs_of steps) = omega arith in
    let no_more : length (inputs_of steps) + 1 + 0 ≡ length (inputs_of steps) + 1 = omega arith in
    record {
      derives = λ vars inputs.
          subst (λ (known : List (ℕ × List ℤ)). steps_follow vars (length (inputs_of steps)) known (map (trimmed_step steps ids) ids) ≡ true) (ap (numbered 1) (append-nil (inputs_of steps)))
          (subst (λ n. steps_follow vars n (numbered 1 (clauses_with steps [])) (map (trimmed_step steps ids) ids) ≡ true) none
          (steps_follow_from steps goal vars [] ids ids derived_by cone inputs refl));
      goal = ap (λ (known : List (ℕ × List ℤ)). clause_of known (number_in steps ids goal)) (known_whole steps ids cone.derived)
          ∙ goal_known steps goal ids low high cone
          ∙ ap Some (lits_named steps goal lits named);
      needed = needed_steps steps goal ids ids cone.needed;
      numbers = numbers_rise steps [] ids ids cone.derived refl ∙ ap (λ n. range_with_len n (length (map (trimmed_step steps ids) ids))) no_more;
    }

-- the inputs are all that it says of the log
pub trimmed_same : (steps log : List LogStep) (lits : List ℤ) (d : Derivation) → inputs_of steps ≡ inputs_of log → IsTrimmed steps lits d → IsTrimmed log lits d
trimmed_same steps log lits d same t =
    record {
      derives = λ vars inputs.
          subst (λ (cs : List (List ℤ)). is_derivation vars cs d ≡ true) same (t.derives vars (λ c i. inputs c (subst (λ (cs : List (List ℤ)). In c cs) same i)));
      goal = subst (λ (cs : List (List ℤ)). clause_of (all_known cs d.steps) d.goal ≡ Some lits) same t.goal;
      needed = t.needed;
      numbers = subst (λ (cs : List (List ℤ)). map (λ (s : Step). s.id) d.steps ≡ range_with_len (length cs + 1) (length d.steps)) same t.numbers;
    }
