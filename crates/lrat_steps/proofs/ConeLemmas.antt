-- Lemmas on the walk back from a goal to the derived steps that it needs.
use Rattle.std.proofs.Common.{◌≡◌, ◌⊎◌, ℕ, ◌+◌, ◌<◌, ◌≤◌, max, Bool, true, false, List, [], ◌∷◌, ◌++◌, length, get_or, take, refl, sym, ◌∙◌, ap, subst, inl, inr, arith}
use Rattle.std.proofs.Math.Nat.{le-max_left, le-max_right, max-le}
use Rattle.std.proofs.lemmas.Bool.{cases_eq, cases_Bool, false≢true}
use Rattle.std.proofs.lemmas.List.{take_more}
use Rattle.sat_base.specs.Members.{In}
use Rattle.sat_base.specs.Work.{HasMore, IsGreatest, LosesCopies}
use Rattle.sat_base.proofs.Members.{In-append_cases, In-append_left, In-append_right}
use Rattle.sat_base.proofs.DatabaseLemmas.{get_in}
use Rattle.lrat_steps.specs.Log.{LogStep}
use Rattle.lrat_steps.specs.Cone.{is_input_at, hints_at, IsBackward, IsDerivedId, PutsDerived, IsReached, AreNeededIds, AreDerivedIds, IsCone}

-- an input is not put in
pub puts_input : (steps : List LogStep) (work : List ℕ) (id : ℕ) → is_input_at steps id ≡ true → PutsDerived steps work (id ∷ []) work
puts_input steps work id input m = (
  λ i. inl i,
  λ h. elim h [
    | inl i ↦ i
    | inr (inl same, derived) ↦ absurd (false≢true (sym derived ∙ ap (is_input_at steps) same ∙ input))
    | inr (inr none, derived) ↦ absurd none
  ],
)

pub puts_derived : (steps : List LogStep) (old new : List ℕ) (id : ℕ) → is_input_at steps id ≡ false → HasMore old new id → PutsDerived steps old (id ∷ []) new
puts_derived steps old new id derived more m = (
  λ i. elim ((more m).0 i) [ inl same ↦ inr (inl same, ap (is_input_at steps) same ∙ derived) | inr was ↦ inl was ],
  λ h. elim h [
    | inl i ↦ (more m).1 (inr i)
    | inr (inl same, d) ↦ (more m).1 (inl same)
    | inr (inr none, d) ↦ absurd none
  ],
)

pub puts_none : (steps : List LogStep) (work : List ℕ) → PutsDerived steps work [] work
puts_none steps work m = (λ i. inl i, λ h. elim h [ inl i ↦ i | inr (none, d) ↦ absurd none ])

-- one more id
pub puts_more : (steps : List LogStep) (old now new ids : List ℕ) (id : ℕ) → PutsDerived steps old ids now → PutsDerived steps now (id ∷ []) new → PutsDerived steps old (ids ++ id ∷ []) new
puts_more steps old now new ids id before last m = (
  λ i. elim ((last m).0 i) [
    | inl was ↦ elim ((before m).0 was) [ inl older ↦ inl older | inr (among, d) ↦ inr (In-append_left m ids (id ∷ []) among, d) ]
    | inr (same, d) ↦ inr (In-append_right m ids (id ∷ []) same, d)
  ],
  λ h. elim h [
    | inl older ↦ (last m).1 (inl ((before m).1 (inl older)))
    | inr (among, d) ↦ elim (In-append_cases m ids (id ∷ []) among) [
      | inl earlier ↦ (last m).1 (inl ((before m).1 (inr (earlier, d))))
      | inr same ↦ (last m).1 (inr (same, d))
    ]
  ],
)

-- an input, among the ids that were handled, or among those that wait
abbrev pub IsReachedOrWaits : List LogStep → List ℕ → List ℕ → ℕ → Type 0
IsReachedOrWaits steps ids work id = (is_input_at steps id ≡ true) ⊎ (In id ids ⊎ In id work)

-- what holds while ids are handled from the greatest down
pub record IsConeSoFar (steps : List LogStep) (goal : ℕ) (work ids : List ℕ) : Type 0 where
  pub derived : AreDerivedIds steps ids
  pub waiting : (w : ℕ) → In w work → IsDerivedId steps w
  pub below : (w id : ℕ) → In w work → In id ids → w < id
  pub goal_reached : IsReachedOrWaits steps ids work goal
  pub hints_reached : (id : ℕ) → In id ids → (h : ℕ) → In h (hints_at steps id) → IsReachedOrWaits steps ids work h
  pub needed : AreNeededIds steps goal ids
  pub wanted : (w : ℕ) → In w work → (w ≡ goal) ⊎ ((y : ℕ) × In y ids × In w (hints_at steps y))

pub cone_start : (steps : List LogStep) (goal : ℕ) (work : List ℕ) → 0 < goal → goal ≤ length steps → PutsDerived steps [] (goal ∷ []) work → IsConeSoFar steps goal work []
cone_start steps goal work low high puts =
    record {
      derived = record { ascends = tt; derived = λ id i. absurd i };
      waiting = λ w i. let (same, d) = only w i in record { from_one = subst (λ k. 0 < k) (sym same) low; within = subst (λ k. k ≤ length steps) (sym same) high; derived = d };
      below = λ w id i j. absurd j;
      goal_reached = elim (cases_Bool (is_input_at steps goal)) [ inl input ↦ inl input | inr d ↦ inr (inr ((puts goal).1 (inr (inl refl, d)))) ];
      hints_reached = λ id i h j. absurd i;
      needed = tt;
      wanted = λ w i. inl (only w i).0;
    }
  where
    only : (w : ℕ) → In w work → (w ≡ goal) × (is_input_at steps w ≡ false)
    only w i =
        elim ((puts w).0 i) [
          | inl none ↦ absurd none
          | inr (inl same, d) ↦ (same, d)
          | inr (inr none, d) ↦ absurd none
        ]

-- the greatest id that waits is handled, and its hints wait
pub cone_more : (steps : List LogStep) (goal w : ℕ) (work rest new ids : List ℕ) → IsBackward steps → IsConeSoFar steps goal work ids → IsGreatest work w → LosesCopies work rest w
    → PutsDerived steps rest (hints_at steps w) new → IsConeSoFar steps goal new (w ∷ ids)
cone_more steps goal w work rest new ids backward so_far greatest lost puts =
    record {
      derived = record { ascends = (λ y i. so_far.below w y greatest.has i, so_far.derived.ascends); derived = derived };
      waiting = waiting;
      below = below;
      goal_reached = still goal so_far.goal_reached;
      hints_reached = hints;
      needed = (so_far.wanted w greatest.has, so_far.needed);
      wanted = wanted;
    }
  where
    here : IsDerivedId steps w
    here = so_far.waiting w greatest.has

    derived : (id : ℕ) → In id (w ∷ ids) → IsDerivedId steps id
    derived id (inl same) = subst (IsDerivedId steps) (sym same) here
    derived id (inr i) = so_far.derived.derived id i

    waiting : (m : ℕ) → In m new → IsDerivedId steps m
    waiting m i =
        elim ((puts m).0 i) [
          | inl was ↦ so_far.waiting m ((lost m).0 was).0
          | inr (hint, d) ↦
              let range = backward w here.from_one here.within m hint in
              let high = here.within in
              record { from_one = range.0; within = omega arith; derived = d }
        ]

    under : (m : ℕ) → In m new → m < w
    under m i =
        elim ((puts m).0 i) [
          | inl was ↦ let (older, other) = (lost m).0 was in let at_most = greatest.above m older in omega arith
          | inr (hint, d) ↦ (backward w here.from_one here.within m hint).1
        ]

    below : (m id : ℕ) → In m new → In id (w ∷ ids) → m < id
    below m id i (inl same) = subst (λ k. m < k) (sym same) (under m i)
    below m id i (inr j) = let lower = under m i in let higher = so_far.below w id greatest.has j in omega arith

    still : (h : ℕ) → IsReachedOrWaits steps ids work h → IsReachedOrWaits steps (w ∷ ids) new h
    still h (inl input) = inl input
    still h (inr (inl done)) = inr (inl (inr done))
    still h (inr (inr waits)) =
        elim (cases_eq h w) [
          | inl same ↦ inr (inl (inl same))
          | inr other ↦ inr (inr ((puts h).1 (inl ((lost h).1 (waits, other)))))
        ]

    hints : (id : ℕ) → In id (w ∷ ids) → (h : ℕ) → In h (hints_at steps id) → IsReachedOrWaits steps (w ∷ ids) new h
    hints id (inr i) h j = still h (so_far.hints_reached id i h j)
    hints id (inl same) h j =
        elim (cases_Bool (is_input_at steps h)) [
          | inl input ↦ inl input
          | inr d ↦ inr (inr ((puts h).1 (inr (subst (λ k. In h (hints_at steps k)) same j, d))))
        ]

    wanted : (m : ℕ) → In m new → (m ≡ goal) ⊎ ((y : ℕ) × In y (w ∷ ids) × In m (hints_at steps y))
    wanted m i =
        elim ((puts m).0 i) [
          | inl was ↦ elim (so_far.wanted m ((lost m).0 was).0) [ inl is ↦ inl is | inr (y, j, hint) ↦ inr (y, inr j, hint) ]
          | inr (hint, d) ↦ inr (w, inl refl, hint)
        ]

-- nothing waits any more
pub cone_end : (steps : List LogStep) (goal : ℕ) (work ids : List ℕ) → IsConeSoFar steps goal work ids → work ≡ [] → IsCone steps goal ids
cone_end steps goal work ids so_far empty =
    record {
      derived = so_far.derived;
      goal_reached = reached goal so_far.goal_reached;
      hints_reached = λ id i h j. reached h (so_far.hints_reached id i h j);
      needed = so_far.needed;
    }
  where
    reached : (h : ℕ) → IsReachedOrWaits steps ids work h → IsReached steps ids h
    reached h (inl input) = inl input
    reached h (inr (inl done)) = inr done
    reached h (inr (inr waits)) = absurd (subst (In h) empty waits)

-- a bound that falls from one number to the next
abbrev pub limit_of : List ℕ → ℕ
limit_of [] = 0
limit_of (x ∷ xs) = max (x + 1) (limit_of xs)

limit_above : (xs : List ℕ) (n : ℕ) → In n xs → n < limit_of xs
limit_above [] n i = absurd i
limit_above (x ∷ xs) n (inl same) = let first = le-max_left (x + 1) (limit_of xs) in omega arith
limit_above (x ∷ xs) n (inr i) = let rest = le-max_right (x + 1) (limit_of xs) in let rec = limit_above xs n i in omega arith

limit_below : (xs : List ℕ) (n : ℕ) → ((m : ℕ) → In m xs → m < n) → limit_of xs ≤ n
limit_below [] n h = omega arith
limit_below (x ∷ xs) n h = let first : x < n = h x (inl refl) in max-le (omega arith) (limit_below xs n (λ m i. h m (inr i)))

pub limit_falls : (steps : List LogStep) (goal w : ℕ) (work new ids : List ℕ) → IsGreatest work w → IsConeSoFar steps goal new (w ∷ ids) → limit_of new < limit_of work
limit_falls steps goal w work new ids greatest next =
    let high = limit_above work w greatest.has in
    let low = limit_below new w (λ m i. next.below m w i (inl refl)) in
    omega arith

-- the hint at a place
pub hint_at : (steps : List LogStep) (id at h : ℕ) (items : List ℕ) → items ≡ hints_at steps id → at < length items → h ≡ get_or items at 0 → In h (hints_at steps id)
hint_at steps id at h items same lt is = subst (λ hints. In h hints) same (subst (λ k. In k items) (sym is) (get_in items at 0 lt))

pub hint_range : (steps : List LogStep) (id at h : ℕ) (items : List ℕ) → IsBackward steps → 0 < id → id ≤ length steps → items ≡ hints_at steps id → at < length items → h ≡ get_or items at 0 → (0 < h) × (h ≤ length steps)
hint_range steps id at h items backward low high same lt is =
    let range = backward id low high h (hint_at steps id at h items same lt is) in
    let above = range.0 in
    let below = range.1 in
    (above, omega arith)

-- one more hint was put in
pub puts_next : (steps : List LogStep) (old now new : List ℕ) (id at h : ℕ) (items : List ℕ) → items ≡ hints_at steps id → at < length items → h ≡ get_or items at 0
    → PutsDerived steps old (take at (hints_at steps id)) now → PutsDerived steps now (h ∷ []) new → PutsDerived steps old (take (at + 1) (hints_at steps id)) new
puts_next steps old now new id at h items same lt is before last =
    let within : at < length (hints_at steps id) = subst (λ (xs : List ℕ). at < length xs) same lt in
    let more : take (at + 1) (hints_at steps id) ≡ take at (hints_at steps id) ++ h ∷ [] = take_more (hints_at steps id) at 0 within
    ∙ ap (λ n. take at (hints_at steps id) ++ n ∷ []) (sym (is ∙ ap (λ (xs : List ℕ). get_or xs at 0) same)) in
    subst (λ ids. PutsDerived steps old ids new) (sym more) (puts_more steps old now new (take at (hints_at steps id)) h before last)

-- what is reached and no input is handled
pub reached_derived : (steps : List LogStep) (ids : List ℕ) (id : ℕ) (b : Bool) → IsReached steps ids id → b ≡ false → b ≡ is_input_at steps id → In id ids
reached_derived steps ids id b (inl input) none is = absurd (false≢true (sym none ∙ is ∙ input))
reached_derived steps ids id b (inr i) none is = i

-- the id at a place of a cone
pub cone_at : (steps : List LogStep) (goal at : ℕ) (ids : List ℕ) → IsCone steps goal ids → at < length ids → IsDerivedId steps (get_or ids at 0)
cone_at steps goal at ids cone lt = cone.derived.derived (get_or ids at 0) (get_in ids at 0 lt)
