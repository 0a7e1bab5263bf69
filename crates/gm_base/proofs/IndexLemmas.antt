-- Lemmas on the index of clauses by group.
use Rattle.std.proofs.Common.{◌≡◌, ◌⊎◌, ℕ, zero, suc, ◌+◌, ◌-◌, ◌<◌, ◌≤◌, Bool, true, false, not, ◌||◌, List, [], ◌∷◌, ◌++◌, length, get_or, take, drop, refl, sym, ◌∙◌, ap, subst, inl, inr, arith, eqb, length-drop, length-append}
use Rattle.std.specs.Prelude.{Some, slice_get, IsSomeAnd, All, Contains}
use Rattle.std.specs.List.{AllWithin, list_all}
use Rattle.std.proofs.lemmas.Bool.{cases_lt, eqb-true, eq-eqb, false≢true, or_left, or_right, or_cases, cases_Bool, false_from_ne_true}
use Rattle.std.proofs.lemmas.List.{get_or_default, get_or-take, get_or-drop, get_or_append_left, get_or_push, length-take}
use Rattle.std.specs.List.Sorted.{IsPermutation, IsNonDecreasingBy}
use Rattle.std.proofs.lemmas.List.Sorted.{All-permutation, Contains-permutation}
use Rattle.std.proofs.lemmas.List.Elements.{All-push, All-contains, Contains-append_left, Contains-push, Contains-get_or}
use Rattle.gm_base.specs.declared.clause.Clause.{Clause}
use Rattle.gm_base.specs.declared.index.Placed.{Placed}
use Rattle.gm_base.specs.Index.{IsOfGroup, IsIndex, ArePlaces, Begins, AreStarts, group_true}
use Rattle.std.proofs.lemmas.List.{take_all}
use Rattle.gm_base.specs.Sets.{has}
use Rattle.sat_base.specs.Literals.{clause_true}
use Rattle.gm_base.specs.Problem.{Problem, satisfies, is_present}
use Rattle.sat_base.specs.Members.{In}
use Rattle.sat_base.proofs.Members.{all_at, all_from, any_from}

-- a group's stretch ends where the next one's begins
pub Begins-order : (index : List Placed) (group from to : ℕ) → Begins index group from → Begins index (group + 1) to → from ≤ to
Begins-order index group from to here next =
    let none : Placed = record { group = 0; at = 0 } in
    elim (cases_lt to from) [
      | inl back ↦
          let within = here.within in
          let low = here.below to none (omega arith) back in
          let high = next.from to none (omega arith) (omega arith) in
          absurd (omega arith)
      | inr order ↦ order
    ]

-- what stands between the two is of the group
pub stretch-of_group : (index : List Placed) (group from to : ℕ) → Begins index group from → Begins index (group + 1) to
    → All (λ p. p.group ≡ group) (take (to - from) (drop from index))
stretch-of_group index group from to here next k d lt =
    let short = length-take (to - from) (drop from index) in
    let rest = length-drop from index in
    let within = next.within in
    let there = get_or-take (to - from) (drop from index) k d (omega arith) ∙ get_or-drop from index k d in
    let at_least = here.from (from + k) d (omega arith) (omega arith) in
    let at_most = next.below (from + k) d (omega arith) (omega arith) in
    ap (λ p. p.group) there ∙ omega arith

-- and each of the group stands there
pub stretch-each : (index : List Placed) (group from to : ℕ) → Begins index group from → Begins index (group + 1) to
    → All (λ p. p.group ≡ group → Contains (take (to - from) (drop from index)) p) index
stretch-each index group from to here next k d lt same =
    elim (cases_lt k from) [
      | inl before ↦ absurd (let low = here.below k d (omega arith) before in omega arith)
      | inr past ↦
          let rest = length-drop from index in
          let short = length-take (to - from) (drop from index) in
          let within = next.within in
          let place : from + (k - from) ≡ k = omega arith in
          let there = λ (e : Placed). get_or-drop from index (k - from) e ∙ ap (λ n. get_or index n e) place in
          elim (cases_lt k to) [
            | inl inside ↦ (
              k - from,
              omega arith,
              get_or-take (to - from) (drop from index) (k - from) (get_or index k d) (omega arith) ∙ there (get_or index k d)
                  ∙ get_or_default index k (get_or index k d) d lt,
            )
            | inr beyond ↦ absurd (let high = next.from k d beyond lt in omega arith)
          ]
    ]

-- of a group that is above all there is none
pub stretch-none : (index : List Placed) (starts : List ℕ) (group : ℕ) (part : List Placed) → AreStarts index starts → length starts ≤ group + 1
    → All (λ p. p.group ≡ group → Contains part p) index
stretch-none index starts group part h past k d lt same = absurd (let high = h.high k d lt in omega arith)

-- where the groups below this one begin; what stands before the last of these places is of groups below
pub record StartsUpTo (index : List Placed) (group at : ℕ) (starts : List ℕ) : Type 0 where
  pub count : length starts ≡ group
  pub within : at ≤ length index
  pub below : AllWithin (λ p. p.group < group) index 0 at
  pub each : (g d : ℕ) → g < group → Begins index g (get_or starts g d)

pub StartsUpTo-start : (index : List Placed) (starts : List ℕ) → starts ≡ [] → StartsUpTo index 0 0 starts
StartsUpTo-start index starts none =
    record {
      count = ap length none;
      within = omega arith;
      below = λ k d low high. absurd (omega arith);
      each = λ g d lt. absurd (omega arith);
    }

pub StartsUpTo-next : (index : List Placed) (group at next : ℕ) (old new : List ℕ) → StartsUpTo index group at old → Begins index group next
    → new ≡ old ++ next ∷ [] → StartsUpTo index (group + 1) next new
StartsUpTo-next index group at next old new h begins push =
    let count = h.count in
    let longer : length new ≡ length old + 1 = ap length push ∙ length-append old (next ∷ []) in
    record {
      count = omega arith;
      within = begins.within;
      below = λ k d low high. let less = begins.below k d low high in omega arith;
      each = λ g d lt.
          elim (cases_lt g group) [
            | inl before ↦
                subst (Begins index g) (sym (ap (λ xs. get_or xs g d) push ∙ get_or_append_left old (next ∷ []) d g (omega arith))) (h.each g d before)
            | inr here ↦
                let same : length old ≡ g = omega arith in
                let last : get_or new g d ≡ next = ap (λ xs. get_or xs g d) push ∙ get_or_push old next d g same in
                subst (Begins index g) (sym last) (subst (λ i. Begins index i next) (sym count ∙ same) begins)
          ];
    }

pub AreStarts-from_all : (index : List Placed) (greatest count at : ℕ) (starts : List ℕ) → StartsUpTo index count at starts
    → All (λ p. p.group ≤ greatest) index → count ≡ greatest + 2 → AreStarts index starts
AreStarts-from_all index greatest count at starts h high is =
    let len = h.count in
    record {
      high = λ k d lt. let most = high k d lt in omega arith;
      each = λ g d lt. h.each g d (omega arith);
    }

-- and what stands there is of the index
pub stretch-inside : (index : List Placed) (from count : ℕ) → All (Contains index) (take count (drop from index))
stretch-inside index from count k d lt =
    let short = length-take count (drop from index) in
    let rest = length-drop from index in
    subst (Contains index) (sym (get_or-take count (drop from index) k d (omega arith) ∙ get_or-drop from index k d)) (Contains-get_or index (from + k) d (omega arith))

-- the clause at a place
pub at-IsOfGroup : (clauses : List Clause) (group at : ℕ) (d : Clause) → IsOfGroup clauses group at → (at < length clauses) × ((get_or clauses at d).group ≡ group)
at-IsOfGroup [] group at d h = absurd h
at-IsOfGroup (c ∷ cs) group zero d h = (omega arith, h)
at-IsOfGroup (c ∷ cs) group (suc at) d h = let (lt, is) = at-IsOfGroup cs group at d h in (omega arith, is)

pub IsOfGroup-from_at : (clauses : List Clause) (at : ℕ) (d : Clause) → at < length clauses → IsOfGroup clauses (get_or clauses at d).group at
IsOfGroup-from_at [] at d lt = absurd (omega arith)
IsOfGroup-from_at (c ∷ cs) zero d lt = refl
IsOfGroup-from_at (c ∷ cs) (suc at) d lt = IsOfGroup-from_at cs at d (omega arith)

-- the index of the clauses up to a place
pub record IsIndexUpTo (clauses : List Clause) (count : ℕ) (index : List Placed) : Type 0 where
  pub len : length index ≡ count
  pub of_group : All (λ placed. IsOfGroup clauses placed.group placed.at) index
  pub each : (at group : ℕ) → at < count → IsOfGroup clauses group at → Contains index (record { group = group; at = at })

pub IsIndexUpTo-start : (clauses : List Clause) (index : List Placed) → index ≡ [] → IsIndexUpTo clauses 0 index
IsIndexUpTo-start clauses index none =
    record {
      len = ap length none;
      of_group = λ k d lt. absurd (let empty = ap length none in omega arith);
      each = λ at group lt is. absurd (omega arith);
    }

pub IsIndexUpTo-next : (clauses : List Clause) (count : ℕ) (old new : List Placed) (c : Clause) → IsIndexUpTo clauses count old → count < length clauses → c ≡ get_or clauses count c
    → new ≡ old ++ record { group = c.group; at = count } ∷ [] → IsIndexUpTo clauses (count + 1) new
IsIndexUpTo-next clauses count old new c h lt is push =
    let last : Placed = record { group = c.group; at = count } in
    let of_last : IsOfGroup clauses c.group count = subst (λ g. IsOfGroup clauses g count) (sym (ap (λ (e : Clause). e.group) is)) (IsOfGroup-from_at clauses count c lt) in
    let longer : length new ≡ length old + 1 = ap length push ∙ length-append old (last ∷ []) in
    let len = h.len in
    record {
      len = omega arith;
      of_group = subst (All (λ placed. IsOfGroup clauses placed.group placed.at)) (sym push) (All-push (λ placed. IsOfGroup clauses placed.group placed.at) old last h.of_group of_last);
      each = λ at group below of.
          subst (λ xs. Contains xs (record { group = group; at = at })) (sym push)
          (elim (cases_lt at count) [
            | inl before ↦ Contains-append_left old (last ∷ []) (record { group = group; at = at }) (h.each at group before of)
            | inr here ↦
                let same : at ≡ count = omega arith in
                let group_is : c.group ≡ group =
                ap (λ (e : Clause). e.group) is ∙ (at-IsOfGroup clauses group count c (subst (IsOfGroup clauses group) same of)).1 in
                subst (Contains (old ++ last ∷ [])) (placed_same c.group group count at group_is (sym same)) (Contains-push old last)
          ]);
    }
  where
    placed_same : (g h a b : ℕ) → g ≡ h → a ≡ b → (let x : Placed = record { group = g; at = a } in x) ≡ record { group = h; at = b }
    placed_same g h a b e f = cc

-- sorted by group, the index of all clauses is what it is to be
pub IsIndex-sorted : (clauses : List Clause) (count : ℕ) (made sorted : List Placed) → IsIndexUpTo clauses count made → length clauses ≤ count → IsPermutation made sorted
    → IsNonDecreasingBy (λ p. p.group) sorted → IsIndex clauses sorted
IsIndex-sorted clauses count made sorted h all moved ascends =
    record {
      ascends = ascends;
      of_group = All-permutation (λ placed. IsOfGroup clauses placed.group placed.at) made sorted moved h.of_group;
      each = λ at group of.
          let within = (at-IsOfGroup clauses group at (record { group = group; lits = [] }) of).0 in
          Contains-permutation made sorted (record { group = group; at = at }) moved (h.each at group (omega arith) of);
    }

-- the places of a group
pub ArePlaces-from_stretch : (clauses : List Clause) (index part : List Placed) (group : ℕ) → IsIndex clauses index
    → All (λ p. p.group ≡ group) part → All (λ p. p.group ≡ group → Contains part p) index
    → All (Contains index) part → ArePlaces clauses group part
ArePlaces-from_stretch clauses index part group h of each inside =
    record {
      of_group = λ k d lt.
          subst (λ g. IsOfGroup clauses g (get_or part k d).at) (of k d lt)
          (All-contains (λ placed. IsOfGroup clauses placed.group placed.at) index (get_or part k d) h.of_group (inside k d lt));
      each = λ at is. All-contains (λ p. p.group ≡ group → Contains part p) index (record { group = group; at = at }) each (h.each at group is) refl;
    }

-- the clause at this place is true
abbrev pub IsTrueAt : List Clause → List Bool → Placed → Type 0
IsTrueAt clauses assign placed = (c : Clause) → slice_get clauses placed.at ≡ Some c → clause_true assign c.lits ≡ true

pub IsTrueAt-from_one : (clauses : List Clause) (assign : List Bool) (placed : Placed) (c : Clause) → slice_get clauses placed.at ≡ Some c → clause_true assign c.lits ≡ true → IsTrueAt clauses assign placed
IsTrueAt-from_one clauses assign placed c is made other there = let same : c ≡ other = cc in subst (λ (e : Clause). clause_true assign e.lits ≡ true) same made

In-slice_get : (clauses : List Clause) (c : Clause) → In c clauses → (at : ℕ) × (slice_get clauses at ≡ Some c)
In-slice_get [] c h = absurd h
In-slice_get (x ∷ xs) c (inl e) = (zero, ap Some (sym e))
In-slice_get (x ∷ xs) c (inr h) = let (at, is) = In-slice_get xs c h in (suc at, is)

In-from_slice_get : (clauses : List Clause) (at : ℕ) (c : Clause) → slice_get clauses at ≡ Some c → In c clauses
In-from_slice_get [] at c h = absurd (let clash : Bool = true in cc)
In-from_slice_get (x ∷ xs) zero c h = inl (let same : x ≡ c = cc in sym same)
In-from_slice_get (x ∷ xs) (suc at) c h = inr (In-from_slice_get xs at c h)

-- a group holds where the clauses at its places do
pub group_true-from_places : (clauses : List Clause) (assign : List Bool) (group : ℕ) (places : List Placed) → ArePlaces clauses group places → All (IsTrueAt clauses assign) places
    → group_true clauses assign group ≡ true
group_true-from_places clauses assign group places h made =
    all_from (λ c. not (eqb c.group group) || clause_true assign c.lits) clauses
    (λ c inside.
    elim (cases_Bool (eqb c.group group)) [
      | inr other ↦ or_left (not (eqb c.group group)) (clause_true assign c.lits) (ap not other)
      | inl of_it ↦
          let (at, is) = In-slice_get clauses c inside in
          let of_group : IsOfGroup clauses group at = subst (λ o. IsSomeAnd o (λ (e : Clause). e.group ≡ group)) (sym is) (eqb-true c.group group of_it) in
          or_right (not (eqb c.group group)) (clause_true assign c.lits)
          (All-contains (IsTrueAt clauses assign) places (record { group = group; at = at }) made (h.each at of_group) c is)
    ])

-- and it does not where one of them is false
pub group_true-not : (clauses : List Clause) (assign : List Bool) (group : ℕ) (places : List Placed) (k : ℕ) (d : Placed) (c : Clause) → ArePlaces clauses group places → k < length places
    → slice_get clauses (get_or places k d).at ≡ Some c → clause_true assign c.lits ≡ false → group_true clauses assign group ≡ false
group_true-not clauses assign group places k d c h lt is failed =
    false_from_ne_true (group_true clauses assign group)
    (λ t.
    let of_group : c.group ≡ group = subst (λ o. IsSomeAnd o (λ (e : Clause). e.group ≡ group)) is (h.of_group k d lt) in
    elim (or_cases (not (eqb c.group group)) (clause_true assign c.lits) (all_at (λ (e : Clause). not (eqb e.group group) || clause_true assign e.lits) clauses c t (In-from_slice_get clauses (get_or places k d).at c is))) [
      | inl other ↦ false≢true (sym (ap not (eq-eqb c.group group of_group)) ∙ other)
      | inr made ↦ false≢true (sym failed ∙ made)
    ])

-- a problem is satisfied where the background and each group of the set hold
group_true-of_satisfied : (p : Problem) (set : List ℕ) (assign : List Bool) (group : ℕ) → ((group ≡ 0) ⊎ (has set group ≡ true)) → satisfies p set assign ≡ true → group_true p.clauses assign group ≡ true
group_true-of_satisfied p set assign group there t =
    all_from (λ (c : Clause). not (eqb c.group group) || clause_true assign c.lits) p.clauses
    (λ c inside.
    elim (cases_Bool (eqb c.group group)) [
      | inr other ↦ or_left (not (eqb c.group group)) (clause_true assign c.lits) (ap not other)
      | inl of_it ↦
          or_right (not (eqb c.group group)) (clause_true assign c.lits)
          (elim (or_cases (not (is_present set c)) (clause_true assign c.lits) (all_at (λ (e : Clause). not (is_present set e) || clause_true assign e.lits) p.clauses c t inside)) [
            | inl absent ↦ absurd (false≢true (sym (ap not (present c (eqb-true c.group group of_it))) ∙ absent))
            | inr made ↦ made
          ])
    ])
  where
    present : (c : Clause) → c.group ≡ group → is_present set c ≡ true
    present c same =
        elim there [
          | inl background ↦ or_left (eqb c.group 0) (has set c.group) (eq-eqb c.group 0 (same ∙ background))
          | inr inside ↦ or_right (eqb c.group 0) (has set c.group) (ap (has set) same ∙ inside)
        ]

pub satisfies-from_groups : (p : Problem) (set items : List ℕ) (assign : List Bool) (i : ℕ) → items ≡ set → length items ≤ i → group_true p.clauses assign 0 ≡ true
    → list_all (group_true p.clauses assign) (take i items) ≡ true → satisfies p set assign ≡ true
satisfies-from_groups p set items assign i same past background groups =
    all_from (λ (c : Clause). not (is_present set c) || clause_true assign c.lits) p.clauses
    (λ c inside.
    elim (cases_Bool (is_present set c)) [
      | inr absent ↦ or_left (not (is_present set c)) (clause_true assign c.lits) (ap not absent)
      | inl present ↦
          or_right (not (is_present set c)) (clause_true assign c.lits)
          (elim (or_cases (eqb c.group 0) (has set c.group) present) [
            | inl of_background ↦ made c 0 inside (eqb-true c.group 0 of_background) background
            | inr of_set ↦
                let (g, i, e) = any_from (λ h. eqb h c.group) set of_set in
                made c g inside (sym (eqb-true g c.group e)) (all_at (group_true p.clauses assign) set g (ap (list_all (group_true p.clauses assign)) (sym whole) ∙ groups) i)
          ])
    ])
  where
    whole : take i items ≡ set
    whole = take_all i items past ∙ same

    made : (c : Clause) (g : ℕ) → In c p.clauses → c.group ≡ g → group_true p.clauses assign g ≡ true → clause_true assign c.lits ≡ true
    made c g inside same t =
        elim (or_cases (not (eqb c.group g)) (clause_true assign c.lits) (all_at (λ (e : Clause). not (eqb e.group g) || clause_true assign e.lits) p.clauses c t inside)) [
          | inl other ↦ absurd (false≢true (sym (ap not (eq-eqb c.group g same)) ∙ other))
          | inr it ↦ it
        ]

pub satisfies-not : (p : Problem) (set : List ℕ) (assign : List Bool) (group : ℕ) → ((group ≡ 0) ⊎ (has set group ≡ true)) → group_true p.clauses assign group ≡ false → satisfies p set assign ≡ false
satisfies-not p set assign group there failed = false_from_ne_true (satisfies p set assign) (λ t. false≢true (sym failed ∙ group_true-of_satisfied p set assign group there t))
