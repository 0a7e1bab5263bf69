-- Lemmas on the rotation of models.
use Rattle.std.proofs.Common.{◌≡◌, ◌≢◌, ◌⊎◌, ◌∙◌, ℕ, zero, suc, ◌+◌, ◌-◌, ◌<◌, ℤ, pos, negsuc, Bool, true, false, not, ◌||◌, List, [], ◌∷◌, ◌++◌, Some, length, set, refl, sym, ap, subst, inl, inr, arith, eqb, ltb, length-set}
use Rattle.std.specs.Prelude.{slice_get, slice_set}
use Rattle.std.specs.List.{AllByRecursion, filter}
use Rattle.std.proofs.lemmas.Bool.{cases_lt, cases_eq, cases_Bool, lt-ltb, eqb-true, eq-eqb, false≢true, or_left, or_right, or_cases, and_parts, and_from}
use Rattle.std.proofs.lemmas.List.{get_or-set_same, get_or-set_other}
use Rattle.std.proofs.lemmas.List.Folds.{list_any-append}
use Rattle.sat_base.specs.Literals.{IsLiteral, literal_true, clause_true, var_of}
use Rattle.sat_base.specs.Members.{In}
use Rattle.sat_base.proofs.Members.{In-append_left, In-append_right, In-append_cases, all_at, all_from, any_at, any_from}
use Rattle.gm_base.specs.declared.clause.Clause.{Clause}
use Rattle.gm_base.specs.Sets.{IsGroupSet, has, with_group, all_groups, complement}
use Rattle.gm_base.specs.Problem.{Problem, IsClause, IsProblem, satisfies, is_present}
use Rattle.gm_base.specs.Index.{group_true}
use Rattle.gm_base.proofs.SetLemmas.{has-filter, has-complement-parts, has-complement-from, has-head, not_has-bound}
use Rattle.model_flips.specs.Rotation.{IsListing, listed, HasLost, Satisfies}

-- a place that is added under a variable is listed there
pub listed-pushed : (lists : List (List ℕ)) (var place : ℕ) → var < length lists → In place (listed (slice_set lists var (listed lists var ++ place ∷ [])) var)
listed-pushed lists var place lt =
    subst (In place) (sym (get_or-set_same lists var (listed lists var ++ place ∷ []) [] lt)) (In-append_right place (listed lists var) (place ∷ []) (inl refl))

-- and what was listed under any variable stays
pub listed-kept : (lists : List (List ℕ)) (var place v at : ℕ) → var < length lists → In at (listed lists v) → In at (listed (slice_set lists var (listed lists var ++ place ∷ [])) v)
listed-kept lists var place v at lt h =
    elim (cases_eq v var) [
      | inl same ↦
          subst (λ k. In at (listed (slice_set lists var (listed lists var ++ place ∷ [])) k)) (sym same)
          (subst (In at) (sym (get_or-set_same lists var (listed lists var ++ place ∷ []) [] lt)) (In-append_left at (listed lists var) (place ∷ []) (subst (λ k. In at (listed lists k)) same h)))
      | inr other ↦ subst (In at) (sym (get_or-set_other lists var v (listed lists var ++ place ∷ []) [] other)) h
    ]

-- the literals so far are listed with a place, and what was listed before is still
pub record IsListed (before now : List (List ℕ)) (vars place : ℕ) (lits : List ℤ) : Type 0 where
  pub rows : length now ≡ vars + 1
  pub keeps : (var at : ℕ) → In at (listed before var) → In at (listed now var)
  pub lists : (lit : ℤ) → In lit lits → In place (listed now (var_of lit))

-- the clauses so far are listed
pub record AreListed (clauses : List Clause) (count vars : ℕ) (lists : List (List ℕ)) : Type 0 where
  pub rows : length lists ≡ vars + 1
  pub each : (at : ℕ) (c : Clause) (lit : ℤ) → at < count → slice_get clauses at ≡ Some c → In lit c.lits → In at (listed lists (var_of lit))

-- one clause more
pub AreListed-next : (clauses : List Clause) (count vars : ℕ) (old new : List (List ℕ)) (c : Clause) → AreListed clauses count vars old → slice_get clauses count ≡ Some c → length new ≡ vars + 1
    → ((var at : ℕ) → In at (listed old var) → In at (listed new var)) → ((lit : ℤ) → In lit c.lits → In count (listed new (var_of lit))) → AreListed clauses (count + 1) vars new
AreListed-next clauses count vars old new c h is rows keeps lists =
    record {
      rows = rows;
      each = λ at other lit below there i.
          elim (cases_lt at count) [
            | inl before ↦ keeps (var_of lit) at (h.each at other lit before there i)
            | inr past ↦
                let here : at ≡ count = omega arith in
                let same : other ≡ c = some_same other c (sym there ∙ ap (slice_get clauses) here ∙ is) in
                subst (λ k. In k (listed new (var_of lit))) (sym here) (lists lit (subst (λ (e : Clause). In lit e.lits) same i))
          ];
    }
  where
    some_same : (a b : Clause) → Some a ≡ Some b → a ≡ b
    some_same a b e = cc

-- one literal more
pub IsListed-next : (before old new : List (List ℕ)) (vars place : ℕ) (lits : List ℤ) (lit : ℤ) → IsListed before old vars place lits → length new ≡ length old
    → ((var at : ℕ) → In at (listed old var) → In at (listed new var)) → In place (listed new (var_of lit)) → IsListed before new vars place (lits ++ lit ∷ [])
IsListed-next before old new vars place lits lit h rows keeps lists =
    record {
      rows = rows ∙ h.rows;
      keeps = λ var at i. keeps var at (h.keeps var at i);
      lists = λ other i.
          elim (In-append_cases other lits (lit ∷ []) i) [
            | inl earlier ↦ keeps (var_of other) place (h.lists other earlier)
            | inr (inl same) ↦ subst (λ l. In place (listed new (var_of l))) (sym same) lists
            | inr (inr none) ↦ absurd none
          ];
    }

-- one place more
pub HasLost-next : (p : Problem) (values : List Bool) (left old new places : List ℕ) (place : ℕ) → HasLost p values left old places → ((g : ℕ) → has old g ≡ true → has new g ≡ true)
    → ((c : Clause) → slice_get p.clauses place ≡ Some c → (clause_true values c.lits ≡ true) ⊎ (has new c.group ≡ true)) → HasLost p values left new (places ++ place ∷ [])
HasLost-next p values left old new places place h keeps lost =
    record {
      keeps = λ g i. keeps g (h.keeps g i);
      lost = λ at c i there.
          elim (In-append_cases at places (place ∷ []) i) [
            | inl earlier ↦ kept c (h.lost at c earlier there)
            | inr (inl same) ↦ lost c (subst (λ k. slice_get p.clauses k ≡ Some c) same there)
            | inr (inr none) ↦ absurd none
          ];
    }
  where
    kept : (c : Clause) → (clause_true values c.lits ≡ true) ⊎ (has old c.group ≡ true) → (clause_true values c.lits ≡ true) ⊎ (has new c.group ≡ true)
    kept c (inl t) = inl t
    kept c (inr l) = inr (keeps c.group l)

-- a set with a group has it
pub has-with : (set : List ℕ) (g : ℕ) → has (with_group set g) g ≡ true
has-with set g =
    let low = filter (λ h. ltb h g) set in
    let high = filter (λ h. ltb g h) set in
    list_any-append (λ h. eqb h g) low (g ∷ high) ∙ or_right (has low g) (has (g ∷ high) g) (has-head g high)

-- and what it had before
pub has-with-kept : (set : List ℕ) (g h : ℕ) → has set h ≡ true → has (with_group set g) h ≡ true
has-with-kept set g h there =
    let low = filter (λ k. ltb k g) set in
    let high = filter (λ k. ltb g k) set in
    elim (cases_lt h g) [
      | inl below ↦ list_any-append (λ k. eqb k h) low (g ∷ high) ∙ or_left (has low h) (has (g ∷ high) h) (has-filter (λ k. ltb k g) set h ∙ and_from (ltb h g) (has set h) (lt-ltb h g below) there)
      | inr past ↦ elim (cases_eq h g) [
        | inl same ↦ subst (λ k. has (with_group set g) k ≡ true) (sym same) (has-with set g)
        | inr other ↦
            list_any-append (λ k. eqb k h) low (g ∷ high)
            ∙ or_right (has low h) (has (g ∷ high) h)
            (or_right (eqb g h) (has high h) (has-filter (λ k. ltb g k) set h ∙ and_from (ltb g h) (has set h) (lt-ltb g h (omega (arith, past, λ (e : g ≡ h). other (sym e)))) there))
      ]
    ]

pub In-slice_get : (clauses : List Clause) (c : Clause) → In c clauses → (at : ℕ) × (slice_get clauses at ≡ Some c)
In-slice_get [] c h = absurd h
In-slice_get (x ∷ xs) c (inl e) = (zero, ap Some (sym e))
In-slice_get (x ∷ xs) c (inr h) = let (at, is) = In-slice_get xs c h in (suc at, is)

pub recursion_at : {X : Type 0} (P : X → Type 0) (xs : List X) (x : X) → AllByRecursion P xs → In x xs → P x
recursion_at P [] x h i = absurd i
recursion_at P (y ∷ ys) x h (inl e) = subst P (sym e) h.0
recursion_at P (y ∷ ys) x h (inr i) = recursion_at P ys x h.1 i

-- a value that is written leaves the literals of the other variables
pub literal_true-other : (w : List Bool) (at : ℕ) (b : Bool) (lit : ℤ) → 0 < var_of lit → var_of lit ≢ at + 1 → literal_true (set w at b) lit ≡ literal_true w lit
literal_true-other w at b (pos v) positive other = get_or-set_other w at (v - 1) b false (λ (e : v - 1 ≡ at). other (omega (arith, positive, e)))
literal_true-other w at b (negsuc v) positive other = ap not (get_or-set_other w at v b false (λ (e : v ≡ at). other (omega (arith, e))))

-- a clause that is present where some groups are left out is of none of these
pub not_left_out : (p : Problem) (left : List ℕ) (c : Clause) → IsGroupSet left → is_present (complement p.groups left) c ≡ true → has left c.group ≡ false
not_left_out p left c ascends present =
    elim (or_cases (eqb c.group 0) (has (complement p.groups left) c.group) present) [
      | inl background ↦ not_has-bound 0 c.group left (omega (arith, eqb-true c.group 0 background)) ascends
      | inr outside ↦ (has-complement-parts p.groups left c.group outside).0
    ]

-- what the flip of a variable of an assignment leaves satisfied: the clauses that have it were looked at, and the groups
-- that were left out before are so still or were tested
pub Satisfies-turned : (p : Problem) (lists : List (List ℕ)) (out left : List ℕ) (w v : List Bool) (var : ℕ) (b : Bool) → IsProblem p → 0 < var → v ≡ set w (var - 1) b → IsGroupSet left
    → ((g : ℕ) → has out g ≡ true → (has left g ≡ true) ⊎ (group_true p.clauses v g ≡ true))
    → ((at : ℕ) (c : Clause) → In at (listed lists var) → slice_get p.clauses at ≡ Some c → (clause_true v c.lits ≡ true) ⊎ (has left c.group ≡ true))
    → IsListing p.clauses lists → Satisfies p out w → Satisfies p left v
Satisfies-turned p lists out left w v var b well_formed positive is ascends regained lost listing before =
    let parts = and_parts (eqb (length w) p.vars) (satisfies p (complement p.groups out) w) before in
    let len : length v ≡ length w = ap length is ∙ length-set w (var - 1) b in
    and_from (eqb (length v) p.vars) (satisfies p (complement p.groups left) v) (ap (λ n. eqb n p.vars) len ∙ parts.0)
    (all_from (λ (c : Clause). not (is_present (complement p.groups left) c) || clause_true v c.lits) p.clauses
    (λ c inside.
    elim (cases_Bool (is_present (complement p.groups left) c)) [
      | inr absent ↦ or_left (not (is_present (complement p.groups left) c)) (clause_true v c.lits) (ap not absent)
      | inl present ↦ or_right (not (is_present (complement p.groups left) c)) (clause_true v c.lits) (made parts.1 c inside (not_left_out p left c ascends present) (in_range c present))
    ]))
  where
    in_range : (c : Clause) → is_present (complement p.groups left) c ≡ true → (c.group ≡ 0) ⊎ (has (all_groups p.groups) c.group ≡ true)
    in_range c present =
        elim (or_cases (eqb c.group 0) (has (complement p.groups left) c.group) present) [
          | inl background ↦ inl (eqb-true c.group 0 background)
          | inr outside ↦ inr (has-complement-parts p.groups left c.group outside).1
        ]

    -- a clause that was true stays so, or was looked at
    kept : (c : Clause) → In c p.clauses → has left c.group ≡ false → clause_true w c.lits ≡ true → clause_true v c.lits ≡ true
    kept c inside out_of true_before =
        let (lit, i, e) = any_from (literal_true w) c.lits true_before in
        elim (cases_eq (var_of lit) var) [
          | inl same ↦
              let (at, there) = In-slice_get p.clauses c inside in
              elim (lost at c (subst (λ k. In at (listed lists k)) same (listing at c lit there i)) there) [
                | inl t ↦ t
                | inr l ↦ absurd (false≢true (sym out_of ∙ l))
              ]
          | inr other ↦
              let lits = (recursion_at (IsClause p.vars p.groups) p.clauses c well_formed inside).lits in
              let literal = recursion_at (IsLiteral p.vars) c.lits lit lits i in
              any_at (literal_true v) c.lits lit i
              (ap (λ a. literal_true a lit) is
              ∙ literal_true-other w (var - 1) b lit literal.not_zero (λ (s : var_of lit ≡ var - 1 + 1). other (omega (arith, positive, s)))
              ∙ e)
        ]

    made : satisfies p (complement p.groups out) w ≡ true → (c : Clause) → In c p.clauses → has left c.group ≡ false → (c.group ≡ 0) ⊎ (has (all_groups p.groups) c.group ≡ true) → clause_true v c.lits ≡ true
    made all c inside out_of range =
        elim (cases_Bool (has out c.group)) [
          | inl was_out ↦ elim (regained c.group was_out) [
            | inl l ↦ absurd (false≢true (sym out_of ∙ l))
            | inr held ↦ elim (or_cases (not (eqb c.group c.group)) (clause_true v c.lits) (all_at (λ (e : Clause). not (eqb e.group c.group) || clause_true v e.lits) p.clauses c held inside)) [
              | inl clash ↦ absurd (false≢true (sym (ap not (eq-eqb c.group c.group refl)) ∙ clash))
              | inr it ↦ it
            ]
          ]
          | inr was_in ↦
              let present : is_present (complement p.groups out) c ≡ true =
              elim range [
                | inl background ↦ or_left (eqb c.group 0) (has (complement p.groups out) c.group) (eq-eqb c.group 0 background)
                | inr within ↦ or_right (eqb c.group 0) (has (complement p.groups out) c.group) (has-complement-from p.groups out c.group within was_in)
              ] in
              kept c inside out_of
              (elim (or_cases (not (is_present (complement p.groups out) c)) (clause_true w c.lits) (all_at (λ (e : Clause). not (is_present (complement p.groups out) e) || clause_true w e.lits) p.clauses c all inside)) [
                | inl clash ↦ absurd (false≢true (sym (ap not present) ∙ clash))
                | inr it ↦ it
              ])
        ]
