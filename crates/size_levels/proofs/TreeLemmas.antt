-- Where each assignment of some variables makes an input false, the inputs have a derivation: a step for each assignment of the
-- first variables, those of all of them from an input, and each other from the two that have one variable more.
use Rattle.std.proofs.Common.{◌≡◌, ◌⊎◌, ℕ, zero, suc, ◌+◌, ◌-◌, ◌<◌, ◌≤◌, Bool, true, false, not, ◌&&◌, cond, Some, None, List, [], ◌∷◌, ◌++◌, map, length, get_or, refl, sym, ◌∙◌, ap, subst, inl, inr, arith, eqb, ltb, leb, length-append, append_assoc, append-nil}
use Rattle.std.specs.Prelude.{ℤ, pos, negsuc, neg_ℤ}
use Rattle.std.specs.Ordering.{int_eq}
use Rattle.std.specs.List.{list_all, find}
use Rattle.std.specs.Option.{option_map, option_map_or}
use Rattle.std.proofs.lemmas.Bool.{false≢true, cases_Bool, cases_lt, and_from, eq-eqb, ne_eqb, lt-ltb, le-leb, cond-true, cond-false, false_from_ne_true, not-false}
use Rattle.std.proofs.lemmas.Bool.Decides.{Decides-int_eq}
use Rattle.std.proofs.lemmas.List.{get_or_append_left, get_or-append_right, get_or_past}
use Rattle.sat_base.specs.Members.{In}
use Rattle.sat_base.specs.Literals.{var_of, IsLiteral, literal_true, clause_true}
use Rattle.sat_base.specs.Derivation.{Step, Derivation, numbered, clause_of, contains_lit, open_lits, only_lit, is_nil, follows, is_step_clause, steps_follow, is_derivation, all_known, derives_within}
use Rattle.sat_base.proofs.Members.{all_from, any_at, any_from}
use Rattle.sat_base.proofs.FollowsLemmas.{literal_true-neg}

-- clauses, each with its id
abbrev Known : Type 0
Known = List (ℕ × List ℤ)

-- what is under an id stays there where more comes behind
clause_of-kept : (known more : Known) (id : ℕ) (c : List ℤ) → clause_of known id ≡ Some c → clause_of (known ++ more) id ≡ Some c
clause_of-kept [] more id c h = cc
clause_of-kept (e ∷ es) more id c h =
    elim (cases_Bool (eqb e.0 id)) [
      | inl here ↦
          ap (option_map (λ (x : ℕ × List ℤ). x.1)) (cond-true (eqb e.0 id) (Some e) (find (λ (x : ℕ × List ℤ). eqb x.0 id) (es ++ more)) here)
          ∙ sym (ap (option_map (λ (x : ℕ × List ℤ). x.1)) (cond-true (eqb e.0 id) (Some e) (find (λ (x : ℕ × List ℤ). eqb x.0 id) es) here)) ∙ h
      | inr other ↦
          ap (option_map (λ (x : ℕ × List ℤ). x.1)) (cond-false (eqb e.0 id) (Some e) (find (λ (x : ℕ × List ℤ). eqb x.0 id) (es ++ more)) other)
          ∙ clause_of-kept es more id c
          (sym (ap (option_map (λ (x : ℕ × List ℤ). x.1)) (cond-false (eqb e.0 id) (Some e) (find (λ (x : ℕ × List ℤ). eqb x.0 id) es) other)) ∙ h)
    ]

-- and where nothing was, what comes first counts
clause_of-behind : (known more : Known) (id : ℕ) → clause_of known id ≡ None → clause_of (known ++ more) id ≡ clause_of more id
clause_of-behind [] more id h = refl
clause_of-behind (e ∷ es) more id h =
    elim (cases_Bool (eqb e.0 id)) [
      | inl here ↦
          absurd (some_none e.1 (sym (ap (option_map (λ (x : ℕ × List ℤ). x.1)) (cond-true (eqb e.0 id) (Some e) (find (λ (x : ℕ × List ℤ). eqb x.0 id) es) here)) ∙ h))
      | inr other ↦
          ap (option_map (λ (x : ℕ × List ℤ). x.1)) (cond-false (eqb e.0 id) (Some e) (find (λ (x : ℕ × List ℤ). eqb x.0 id) (es ++ more)) other)
          ∙ clause_of-behind es more id
          (sym (ap (option_map (λ (x : ℕ × List ℤ). x.1)) (cond-false (eqb e.0 id) (Some e) (find (λ (x : ℕ × List ℤ). eqb x.0 id) es) other)) ∙ h)
    ]
  where
    some_none : (c : List ℤ) → Some c ≡ None → ⊥
    some_none c e = cc

-- a single clause is under its own id alone
clause_of-one : (id at : ℕ) (c : List ℤ) → clause_of ((at, c) ∷ []) id ≡ cond (eqb at id) (Some c) None
clause_of-one id at c = by (eqb at id)
  where
    by : (b : Bool) → option_map (λ (x : ℕ × List ℤ). x.1) (cond b (Some (at, c)) None) ≡ cond b (Some c) None
    by true = refl
    by false = refl

-- an input is under its number
numbered-in : (cs : List (List ℤ)) (from : ℕ) (c : List ℤ) → In c cs → (id : ℕ) × (from ≤ id) × (clause_of (numbered from cs) id ≡ Some c)
numbered-in [] from c i = absurd i
numbered-in (x ∷ xs) from c (inl e) =
    (from, omega arith, ap (option_map (λ (y : ℕ × List ℤ). y.1)) (cond-true (eqb from from) (Some (from, x)) (find (λ (y : ℕ × List ℤ). eqb y.0 from) (numbered (from + 1) xs)) (eq-eqb from from refl)) ∙ ap Some (sym e))
numbered-in (x ∷ xs) from c (inr i) =
    let (id, le, is) = numbered-in xs (from + 1) c i in
    (id, omega arith, ap (option_map (λ (y : ℕ × List ℤ). y.1)) (cond-false (eqb from id) (Some (from, x)) (find (λ (y : ℕ × List ℤ). eqb y.0 id) (numbered (from + 1) xs)) (ne_eqb from id (λ e. absurd (omega arith)))) ∙ is)

-- and there is none above the last
numbered-above : (cs : List (List ℤ)) (from id : ℕ) → from + length cs ≤ id → clause_of (numbered from cs) id ≡ None
numbered-above [] from id le = refl
numbered-above (x ∷ xs) from id le =
    ap (option_map (λ (y : ℕ × List ℤ). y.1)) (cond-false (eqb from id) (Some (from, x)) (find (λ (y : ℕ × List ℤ). eqb y.0 id) (numbered (from + 1) xs)) (ne_eqb from id (λ e. absurd (omega arith))))
    ∙ numbered-above xs (from + 1) id (omega arith)

-- what a list of literals contains
contains-in : (lits : List ℤ) (l : ℤ) → In l lits → contains_lit lits l ≡ true
contains-in lits l i = any_at (λ m. int_eq m l) lits l i ((Decides-int_eq l l).1 refl)

-- and what the test finds is a member
in-contains : (lits : List ℤ) (l : ℤ) → contains_lit lits l ≡ true → In l lits
in-contains lits l h =
    let (m, i, e) = any_from (λ m. int_eq m l) lits h in
    subst (λ k. In k lits) ((Decides-int_eq m l).0 e) i

-- no literal is open where each is false
open-none : (falses clause : List ℤ) → ((l : ℤ) → In l clause → contains_lit falses l ≡ true) → open_lits falses clause ≡ []
open-none falses [] all = refl
open-none falses (l ∷ ls) all =
    cond-false (not (contains_lit falses l)) (l ∷ open_lits falses ls) (open_lits falses ls) (ap not (all l (inl refl)))
    ∙ open-none falses ls (λ m i. all m (inr i))

-- a list of which none passes has one that fails
fails-one : {X : Type 0} (p : X → Bool) (xs : List X) → list_all p xs ≡ false → (x : X) × In x xs × (p x ≡ false)
fails-one p [] h = absurd (false≢true (sym h))
fails-one p (x ∷ xs) h =
    elim (cases_Bool (p x)) [
      | inr fails ↦ (x, inl refl, fails)
      | inl passes ↦
          let (y, i, e) = fails-one p xs (sym (ap (λ b. b && list_all p xs) passes) ∙ h) in
          (y, inr i, e)
    ]

-- the clauses of steps under their ids
abbrev pairs : List Step → Known
pairs steps = map {B = ℕ × List ℤ} (λ (s : Step). (s.id, s.lits)) steps

-- steps so far, what is known by them, and that whatever follows behind them makes a derivation
pub record Made (vars : ℕ) (inputs : List (List ℤ)) : Type 0 where
  steps : List Step
  known : List (ℕ × List ℤ)
  top : ℕ
  all : known ≡ all_known inputs steps
  fresh : (id : ℕ) → top < id → clause_of known id ≡ None
  goes_on : (more : List Step) → steps_follow vars top known more ≡ true → steps_follow vars (length inputs) (numbered 1 inputs) (steps ++ more) ≡ true

module _ (vars : ℕ) (inputs : List (List ℤ)) where
  none-made : Made vars inputs
  none-made =
      record {
        steps = [];
        known = numbered 1 inputs;
        top = length inputs;
        all = sym (append-nil (numbered 1 inputs));
        fresh = λ id lt. numbered-above inputs 1 id (omega arith);
        goes_on = λ more h. h;
      }

  abbrev Keeps : Made vars inputs → Made vars inputs → Type 0
  Keeps old new = (id : ℕ) (c : List ℤ) → clause_of old.known id ≡ Some c → clause_of new.known id ≡ Some c

  pairs-push : (steps : List Step) (s : Step) → pairs (steps ++ s ∷ []) ≡ pairs steps ++ (s.id, s.lits) ∷ []
  pairs-push [] s = refl
  pairs-push (t ∷ ts) s = ap (λ (xs : Known). (t.id, t.lits) ∷ xs) (pairs-push ts s)

  -- one step more
  step-made : (m : Made vars inputs) (lits : List ℤ) (hints : List ℕ) → is_step_clause vars lits ≡ true → follows m.known lits hints ≡ true
      → (n : Made vars inputs) × Keeps m n × (clause_of n.known n.top ≡ Some lits)
  step-made m lits hints is_clause follow = (
    record {
      steps = m.steps ++ made ∷ [];
      known = m.known ++ (m.top + 1, lits) ∷ [];
      top = m.top + 1;
      all =
          ap (λ (k : Known). k ++ (m.top + 1, lits) ∷ []) m.all
          ∙ append_assoc (numbered 1 inputs) (pairs m.steps) ((m.top + 1, lits) ∷ [])
          ∙ ap (λ (k : Known). numbered 1 inputs ++ k) (sym (pairs-push m.steps made));
      fresh = λ id lt.
          clause_of-behind m.known ((m.top + 1, lits) ∷ []) id (m.fresh id (omega arith))
          ∙ clause_of-one id (m.top + 1) lits ∙ ap (λ b. cond b (Some lits) None) (ne_eqb (m.top + 1) id (λ e. absurd (omega arith)));
      goes_on = λ more h.
          ap (steps_follow vars (length inputs) (numbered 1 inputs)) (append_assoc m.steps (made ∷ []) more)
          ∙ m.goes_on (made ∷ more)
          (and_from (ltb m.top (m.top + 1) && is_step_clause vars lits && follows m.known lits hints) _
          (and_from (ltb m.top (m.top + 1) && is_step_clause vars lits) (follows m.known lits hints)
          (and_from (ltb m.top (m.top + 1)) (is_step_clause vars lits) (lt-ltb m.top (m.top + 1) (omega arith)) is_clause) follow) h);
    },
    λ id c h. clause_of-kept m.known ((m.top + 1, lits) ∷ []) id c h,
    clause_of-behind m.known ((m.top + 1, lits) ∷ []) (m.top + 1) (m.fresh (m.top + 1) (omega arith))
        ∙ clause_of-one (m.top + 1) (m.top + 1) lits ∙ ap (λ b. cond b (Some lits) None) (eq-eqb (m.top + 1) (m.top + 1) refl),
  )
    where
      made : Step
      made = record { id = m.top + 1; lits = lits; hints = hints }

  -- each input is known
  input-made : (m : Made vars inputs) (c : List ℤ) → In c inputs → (id : ℕ) × (clause_of m.known id ≡ Some c)
  input-made m c i =
      let (id, le, is) = numbered-in inputs 1 c i in
      (id, ap (λ (k : Known). clause_of k id) m.all ∙ clause_of-kept (numbered 1 inputs) (pairs m.steps) id c is)

-- the literal of a variable that is false where the variable has this value
abbrev off : ℕ → Bool → ℤ
off v true = neg_ℤ (pos v)
off v false = pos v

-- the values of the first variables, the last one first: as an assignment, and the literals that it makes false, behind some
abbrev values_at : List Bool → List Bool
values_at [] = []
values_at (b ∷ bs) = values_at bs ++ b ∷ []

abbrev clause_at : List ℤ → List Bool → List ℤ
clause_at base [] = base
clause_at base (b ∷ bs) = off (suc (length bs)) b ∷ clause_at base bs

-- the assignment has a value for each of these variables
length-values_at : (bs : List Bool) → length (values_at bs) ≡ length bs
length-values_at [] = refl
length-values_at (b ∷ bs) = let rest = length-values_at bs in length-append (values_at bs) (b ∷ []) ∙ (omega arith)

-- literals that are false whatever the first variables are, and all others behind these are not
pub record IsBase (vars first : ℕ) (base : List ℤ) : Type 0 where
  pub fits : first ≤ vars
  pub over : (l : ℤ) → In l base → IsLiteral vars l
  pub low : (values : List Bool) (l : ℤ) → length values ≤ first → In l base → literal_true values l ≡ false
  pub high : (values : List Bool) (l : ℤ) → length values ≤ first → first < var_of l → IsLiteral vars l → literal_true values l ≡ false → In l base

-- a value that comes behind changes no literal before it
literal-push : (values : List Bool) (b : Bool) (l : ℤ) → 0 < var_of l → var_of l ≤ length values
    → literal_true (values ++ b ∷ []) l ≡ literal_true values l
literal-push values b (pos v) low high = get_or_append_left values (b ∷ []) false (v - 1) (omega arith)
literal-push values b (negsuc v) low high = ap not (get_or_append_left values (b ∷ []) false v (omega arith))

-- and it is the value at the end
literal-last : (values : List Bool) (b : Bool) → get_or (values ++ b ∷ []) (length values) false ≡ b
literal-last values b = get_or-append_right values (b ∷ []) (length values) (length values) false refl (omega arith) ∙ here (length values - length values) (omega arith)
  where
    here : (n : ℕ) → n ≡ 0 → get_or (b ∷ []) n false ≡ b
    here n e = subst (λ m. get_or (b ∷ []) m false ≡ b) (sym e) refl

module _ (vars first : ℕ) (base : List ℤ) (is_base : IsBase vars first base) where
  -- each literal of the clause is over the variables, and false under the values
  record IsOff (bs : List Bool) (l : ℤ) : Type 0 where
    var : (0 < var_of l) × (var_of l ≤ length bs)
    off_there : literal_true (values_at bs) l ≡ false

  clause-off : (bs : List Bool) (l : ℤ) → In l (clause_at base bs) → In l base ⊎ IsOff bs l
  clause-off [] l i = inl i
  clause-off (b ∷ bs) l (inl e) =
      inr (record {
        var = subst (λ m. (0 < var_of m) × (var_of m ≤ suc (length bs))) (sym e) (of_var b);
        off_there = subst (λ m. literal_true (values_at bs ++ b ∷ []) m ≡ false) (sym e) (is_off b);
      })
    where
      len : length (values_at bs) ≡ length bs
      len = length-values_at bs

      of_var : (c : Bool) → (0 < var_of (off (suc (length bs)) c)) × (var_of (off (suc (length bs)) c) ≤ suc (length bs))
      of_var true = (omega arith, omega arith)
      of_var false = (omega arith, omega arith)

      last : (c : Bool) → get_or (values_at bs ++ c ∷ []) (length bs) false ≡ c
      last c = subst (λ n. get_or (values_at bs ++ c ∷ []) n false ≡ c) len (literal-last (values_at bs) c)

      is_off : (c : Bool) → literal_true (values_at bs ++ c ∷ []) (off (suc (length bs)) c) ≡ false
      is_off true = ap not (last true)
      is_off false = ap (λ n. get_or (values_at bs ++ false ∷ []) n false) (before (length bs)) ∙ last false
        where
          before : (n : ℕ) → suc n - 1 ≡ n
          before n = omega arith
  clause-off (b ∷ bs) l (inr i) =
      elim (clause-off bs l i) [
        | inl there ↦ inl there
        | inr h ↦
            let v = h.var in
            let len = length-values_at bs in
            inr (record {
              var = (v.0, let high = v.1 in omega arith);
              off_there = literal-push (values_at bs) b l v.0 (let high = v.1 in omega arith) ∙ h.off_there;
            })
      ]

  clause-false : (bs : List Bool) (l : ℤ) → length bs ≤ first → In l (clause_at base bs) → literal_true (values_at bs) l ≡ false
  clause-false bs l le i =
      let len = length-values_at bs in
      elim (clause-off bs l i) [ inl there ↦ is_base.low (values_at bs) l (omega arith) there | inr h ↦ h.off_there ]

  clause-over : (bs : List Bool) (l : ℤ) → length bs ≤ first → In l (clause_at base bs) → IsLiteral vars l
  clause-over bs l le i =
      elim (clause-off bs l i) [
        | inl there ↦ is_base.over l there
        | inr h ↦ let v = h.var in let fits = is_base.fits in record { not_zero = v.0; in_range = let high = v.1 in omega arith }
      ]

  -- what is false under the values of some of the first variables is in their clause
  off-clause : (bs : List Bool) (l : ℤ) → 0 < var_of l → var_of l ≤ length bs → literal_true (values_at bs) l ≡ false → In l (clause_at base bs)
  off-clause [] l low high f = absurd (omega arith)
  off-clause (b ∷ bs) l low high f =
      let len = length-values_at bs in
      elim (cases_lt (length bs) (var_of l)) [
        | inr before ↦ inr (off-clause bs l low before (sym (literal-push (values_at bs) b l low (omega arith)) ∙ f))
        | inl last ↦ inl (by l (omega arith) f)
      ]
    where
      value : get_or (values_at bs ++ b ∷ []) (length bs) false ≡ b
      value = subst (λ n. get_or (values_at bs ++ b ∷ []) n false ≡ b) (length-values_at bs) (literal-last (values_at bs) b)

      by : (m : ℤ) → var_of m ≡ suc (length bs) → literal_true (values_at bs ++ b ∷ []) m ≡ false → m ≡ off (suc (length bs)) b
      by (pos v) is h =
          let at : v - 1 ≡ length bs = omega arith in
          let no : b ≡ false = sym value ∙ (sym (ap (λ n. get_or (values_at bs ++ b ∷ []) n false) at) ∙ h) in
          ap pos is ∙ sym (ap (off (suc (length bs))) no)
      by (negsuc v) is h =
          let at : v ≡ length bs = omega arith in
          let yes : b ≡ true = sym value ∙ (sym (ap (λ n. get_or (values_at bs ++ b ∷ []) n false) at) ∙ not-false (get_or (values_at bs ++ b ∷ []) v false) h) in
          ap negsuc at ∙ sym (ap (off (suc (length bs))) yes)

  -- no literal stands beside its negation
  clause-stands : (bs : List Bool) → length bs ≤ first → is_step_clause vars (clause_at base bs) ≡ true
  clause-stands bs le =
      all_from (λ l. ltb 0 (var_of l) && leb (var_of l) vars && not (contains_lit (clause_at base bs) (neg_ℤ l))) (clause_at base bs)
      (λ l i.
      let o = clause-over bs l le i in
      and_from (ltb 0 (var_of l) && leb (var_of l) vars) (not (contains_lit (clause_at base bs) (neg_ℤ l)))
      (and_from (ltb 0 (var_of l)) (leb (var_of l) vars) (lt-ltb 0 (var_of l) o.not_zero) (le-leb (var_of l) vars o.in_range)) (ap not (alone l i o)))
    where
      alone : (l : ℤ) → In l (clause_at base bs) → IsLiteral vars l → contains_lit (clause_at base bs) (neg_ℤ l) ≡ false
      alone l i o =
          false_from_ne_true (contains_lit (clause_at base bs) (neg_ℤ l))
          (λ h.
          let off_too = clause-false bs (neg_ℤ l) le (in-contains (clause_at base bs) (neg_ℤ l) h) in
          let on = literal_true-neg (values_at bs) l o.not_zero ∙ ap not (clause-false bs l le i) in
          absurd (false≢true (sym off_too ∙ on)))

  module _ (inputs : List (List ℤ)) (over : (c : List ℤ) (l : ℤ) → In c inputs → In l c → IsLiteral vars l)
      (none : (values : List Bool) → length values ≡ first → list_all (clause_true values) inputs ≡ false) where
    record Reaches (m : Made vars inputs) (bs : List Bool) : Type 0 where
      made : Made vars inputs
      keeps : Keeps vars inputs m made
      id : ℕ
      is : clause_of made.known id ≡ Some (clause_at base bs)

    -- of all of the first variables: an input is false
    leaf : (bs : List Bool) → length bs ≡ first → (m : Made vars inputs) → Reaches m bs
    leaf bs len m =
        let size = length-values_at bs in
        let (c, i, f) = fails-one (clause_true (values_at bs)) inputs (none (values_at bs) (size ∙ len)) in
        let (at, is) = input-made vars inputs m c i in
        let each = λ (l : ℤ) (j : In l c). contains-in (clause_at base bs) l (inside c i f l j) in
        let nothing = open-none (clause_at base bs) c each in
        let (n, keeps, there) =
        step-made vars inputs m (clause_at base bs) (at ∷ []) (clause-stands bs (omega arith))
        (ap (λ o. option_map_or (λ k. is_nil (open_lits (clause_at base bs) k)) o false) is ∙ ap is_nil nothing) in
        record { made = n; keeps = keeps; id = n.top; is = there }
      where
        inside : (c : List ℤ) → In c inputs → clause_true (values_at bs) c ≡ false → (l : ℤ) → In l c → In l (clause_at base bs)
        inside c i f l j =
            let o = over c l i j in
            let off_there : literal_true (values_at bs) l ≡ false =
            false_from_ne_true (literal_true (values_at bs) l) (λ t. absurd (false≢true (sym f ∙ any_at (literal_true (values_at bs)) c l j t))) in
            let size = length-values_at bs in
            elim (cases_lt first (var_of l)) [
              | inr within ↦ off-clause bs l o.not_zero (omega arith) off_there
              | inl behind ↦ base-clause bs l (is_base.high (values_at bs) l (omega arith) behind o off_there)
            ]
          where
            base-clause : (cs : List Bool) (k : ℤ) → In k base → In k (clause_at base cs)
            base-clause [] k h = h
            base-clause (d ∷ ds) k h = inr (base-clause ds k h)

    -- of fewer: from those with one variable more
    branch : (bs : List Bool) → length bs < first → (m : Made vars inputs) (id id' : ℕ)
        → clause_of m.known id ≡ Some (clause_at base (true ∷ bs)) → clause_of m.known id' ≡ Some (clause_at base (false ∷ bs))
        → follows m.known (clause_at base bs) (id ∷ id' ∷ []) ≡ true
    branch bs lt m id id' is is' =
        ap (λ o. option_map_or (λ c. option_map_or (λ l. follows m.known (neg_ℤ l ∷ falses) (id' ∷ [])) (only_lit (open_lits falses c)) false) o false) is
        ∙ ap (λ ls. option_map_or (λ l. follows m.known (neg_ℤ l ∷ falses) (id' ∷ [])) (only_lit ls) false) one_open
        ∙ ap (λ o. option_map_or (λ c. is_nil (open_lits (x' ∷ falses) c)) o false) is'
        ∙ ap is_nil (open-none (x' ∷ falses) (clause_at base (false ∷ bs)) (λ l i. contains-in (x' ∷ falses) l i))
      where
        falses : List ℤ
        falses = clause_at base bs

        x : ℤ
        x = neg_ℤ (pos (suc (length bs)))

        x' : ℤ
        x' = pos (suc (length bs))

        new : contains_lit (clause_at base bs) (neg_ℤ (pos (suc (length bs)))) ≡ false
        new =
            false_from_ne_true (contains_lit (clause_at base bs) (neg_ℤ (pos (suc (length bs)))))
            (λ h.
            let off_there = clause-false bs x (omega arith) (in-contains (clause_at base bs) x h) in
            let size = length-values_at bs in
            let on = ap not (get_or_past (values_at bs) (length bs) false (omega arith)) in
            absurd (false≢true (sym off_there ∙ on)))

        one_open : open_lits (clause_at base bs) (clause_at base (true ∷ bs)) ≡ neg_ℤ (pos (suc (length bs))) ∷ []
        one_open =
            cond-true (not (contains_lit falses x)) (x ∷ open_lits falses falses) (open_lits falses falses) (ap not new)
            ∙ ap (λ ls. x ∷ ls) (open-none falses falses (λ l i. contains-in falses l i))

    tree : (more : ℕ) (bs : List Bool) → length bs + more ≡ first → (m : Made vars inputs) → Reaches m bs
    tree zero bs len m = leaf bs (omega arith) m
    tree (suc r) bs len m =
        let one = tree r (true ∷ bs) (omega arith) m in
        let two = tree r (false ∷ bs) (omega arith) one.made in
        let (n, keeps, there) =
        step-made vars inputs two.made (clause_at base bs) (one.id ∷ two.id ∷ []) (clause-stands bs (omega arith))
        (branch bs (omega arith) two.made one.id two.id (two.keeps one.id (clause_at base (true ∷ bs)) one.is) two.is) in
        record {
          made = n;
          keeps = λ id c h. keeps id c (two.keeps id c (one.keeps id c h));
          id = n.top;
          is = there;
        }

    -- so there is a derivation of what is false whatever the first variables are
    pub derivation : (d : Derivation)
        × ((allowed : ℤ → Bool) → ((l : ℤ) → In l base → allowed l ≡ true) → derives_within vars inputs d allowed ≡ true)
    derivation =
        let top = tree first [] (omega arith) (none-made vars inputs) in
        let made = top.made in (
          record { steps = made.steps; goal = top.id },
          λ allowed each.
              and_from (is_derivation vars inputs (record { steps = made.steps; goal = top.id })) _
              (ap (steps_follow vars (length inputs) (numbered 1 inputs)) (sym (append-nil made.steps)) ∙ made.goes_on [] refl)
              (ap (λ (k : Known). option_map_or (λ c. list_all allowed c) (clause_of k top.id) false) (sym made.all)
              ∙ ap (λ o. option_map_or (λ c. list_all allowed c) o false) top.is
              ∙ all_from allowed base each),
        )
