-- Heaps, by the keys at their places, and tables of places.
use Rattle.std.proofs.Common.{◌≡◌, ◌≢◌, ◌⊎◌, ℕ, zero, suc, ◌+◌, ◌-◌, ◌*◌, ◌/◌, ◌<◌, ◌≤◌, List, length, set, get_or, refl, sym, ◌∙◌, ap, subst, inl, inr, arith, length-set, get_or-set_same, get_or-set_other}
use Rattle.std.specs.Prelude.{slice_index}
use Rattle.std.proofs.lemmas.Bool.{cases_eq}
use Rattle.trail_book.specs.Heap.{Heap, Holds, AdmitsSame, IsBelow, AreOrdered, MayRise, Keeps, IsSwapped, IsRaised, ArePlaces, key, IsHeap}

-- the keys of two places changed
pub record AreExchanged (old new : ℕ → ℕ) (one other : ℕ) : Type 0 where
  pub here : new one ≡ old other
  pub there : new other ≡ old one
  pub others : (place : ℕ) → place ≢ one → place ≢ other → new place ≡ old place

pub keys_exchanged : (rank : ℕ → ℕ) (old new : List ℕ) (one other : ℕ) → IsSwapped old new one other
    → AreExchanged (λ p. rank (slice_index old p)) (λ p. rank (slice_index new p)) one other
keys_exchanged rank old new one other s =
    record { here = ap rank s.here; there = ap rank s.there; others = λ p a b. ap rank (s.others p a b) }

one_above : (low high other : ℕ) → IsBelow low high → IsBelow low other → high ≡ other
one_above low high other b c = omega (arith, b.0, b.1, c.0, c.1)

-- an item that ranks above the one over it changes places with it
pub rise_step : (k k' : ℕ → ℕ) (count at high : ℕ) → IsBelow at high → at < count → MayRise k count at → k high < k at → AreExchanged k k' at high
    → MayRise k' count high
rise_step k k' count at high b within m lt x = record {
  others = λ h l c in_heap not_high. elim (cases_eq l at) [
    | inl same ↦
        let over : h ≡ high = one_above at h high (subst (λ (n : ℕ). IsBelow n h) same c) b in
        omega (arith, ap k' same, ap k' over, x.here, x.there, lt)
    | inr other ↦
        let kept : k' l ≡ k l = x.others l other not_high in
        elim (cases_eq h at) [
          | inl under ↦
              let low : k l ≤ k high = m.around high l b (subst (λ (n : ℕ). IsBelow l n) under c) in_heap in
              omega (arith, kept, ap k' under, x.here, low)
          | inr beside ↦
              let low : k l ≤ k h = m.others h l c in_heap other in
              elim (cases_eq h high) [
                | inl over ↦ omega (arith, kept, low, ap k over, ap k' over, x.there, lt)
                | inr away ↦ omega (arith, kept, low, x.others h beside away)
              ]
        ]
  ];
  around = λ h l c d in_heap.
      let not_at : h ≢ at = λ e. absurd (omega (arith, e, b.0, c.0)) in
      let not_high : h ≢ high = λ e. absurd (omega (arith, e, c.0)) in
      let over : k high ≤ k h = m.others h high c (omega (arith, b.0, within)) (λ e. absurd (omega (arith, e, b.0))) in
      let kept : k' h ≡ k h = x.others h not_at not_high in
      elim (cases_eq l at) [
        | inl same ↦ omega (arith, ap k' same, x.here, over, kept)
        | inr other ↦
            let low : k l ≤ k high = m.others high l d in_heap other in
            omega (arith, low, over, kept, x.others l other (λ e. absurd (omega (arith, e, d.0))))
      ];
}

pub rise_done : (k : ℕ → ℕ) (count at high : ℕ) → IsBelow at high → MayRise k count at → k at ≤ k high → AreOrdered 0 k count
rise_done k count at high b m le = λ h l z c in_heap. elim (cases_eq l at) [
  | inl same ↦
      let over : h ≡ high = one_above at h high (subst (λ (n : ℕ). IsBelow n h) same c) b in
      omega (arith, ap k same, ap k over, le)
  | inr other ↦ m.others h l c in_heap other
]

pub rise_top : (k : ℕ → ℕ) (count : ℕ) → MayRise k count 0 → AreOrdered 0 k count
rise_top k count m = λ h l z c in_heap. m.others h l c in_heap (λ e. absurd (omega (arith, e, c.0)))

-- From a place on, only the item at a place may rank below those under it, while it moves down.
pub record MaySink (from : ℕ) (k : ℕ → ℕ) (count at : ℕ) : Type 0 where
  pub others : (high low : ℕ) → from ≤ high → IsBelow low high → low < count → high ≢ at → k low ≤ k high
  pub around : (high low : ℕ) → from ≤ high → IsBelow at high → IsBelow low at → low < count → k low ≤ k high

-- it begins at the place itself, and nothing over that counts
pub sink_start : (k : ℕ → ℕ) (count at : ℕ) → AreOrdered (at + 1) k count → MaySink at k count at
sink_start k count at m = record {
  others = λ h l f c in_heap apart. m h l (omega (arith, f, apart)) c in_heap;
  around = λ h l f c d in_heap. absurd (omega (arith, f, c.0));
}

-- an item changes places with the greater one of those below it
pub sink_step : (from : ℕ) (k k' : ℕ → ℕ) (count at low : ℕ) → IsBelow low at → low < count → MaySink from k count at → k at < k low
    → ((other : ℕ) → IsBelow other at → other < count → k other ≤ k low) → AreExchanged k k' low at → MaySink from k' count low
sink_step from k k' count at low b within m lt greater x = record {
  others = λ h l f c in_heap not_low. elim (cases_eq h at) [
    | inl same ↦ elim (cases_eq l low) [
      | inl is ↦ omega (arith, ap k' same, ap k' is, x.here, x.there, lt)
      | inr other ↦
          let kept : k' l ≡ k l = x.others l other (λ e. absurd (omega (arith, e, same, c.0))) in
          let le : k l ≤ k low = greater l (subst (λ (n : ℕ). IsBelow l n) same c) in_heap in
          omega (arith, ap k' same, x.there, kept, le)
    ]
    | inr beside ↦
        let kept : k' h ≡ k h = x.others h not_low beside in
        elim (cases_eq l at) [
          | inl is ↦
              let le : k low ≤ k h = m.around h low f (subst (λ (n : ℕ). IsBelow n h) is c) b within in
              omega (arith, ap k' is, x.there, le, kept)
          | inr other ↦
              let le : k l ≤ k h = m.others h l f c in_heap beside in
              let apart : l ≢ low = λ e. beside (one_above low h at (subst (λ (n : ℕ). IsBelow n h) e c) b) in
              omega (arith, kept, le, x.others l apart other)
        ]
  ];
  around = λ h l f c d in_heap.
      let over : h ≡ at = one_above low h at c b in
      let le : k l ≤ k low = m.others low l (omega (arith, f, c.0)) d in_heap (λ e. absurd (omega (arith, e, b.0))) in
      let kept : k' l ≡ k l = x.others l (λ e. absurd (omega (arith, e, d.0))) (λ e. absurd (omega (arith, e, d.0, b.0))) in
      omega (arith, ap k' over, x.there, kept, le);
}

pub sink_done : (from : ℕ) (k : ℕ → ℕ) (count at low : ℕ) → MaySink from k count at → ((other : ℕ) → IsBelow other at → other < count → k other ≤ k low) → k low ≤ k at
    → AreOrdered from k count
sink_done from k count at low m greater le = λ h l f c in_heap. elim (cases_eq h at) [
  | inl same ↦
      let below : k l ≤ k low = greater l (subst (λ (n : ℕ). IsBelow l n) same c) in_heap in
      omega (arith, ap k same, below, le)
  | inr other ↦ m.others h l f c in_heap other
]

pub sink_end : (from : ℕ) (k : ℕ → ℕ) (count at : ℕ) → MaySink from k count at → count ≤ 2 * at + 1 → AreOrdered from k count
sink_end from k count at m none = λ h l f c in_heap. m.others h l f c in_heap (λ e. absurd (omega (arith, e, c.0, in_heap, none)))

-- none ranks above the first
pub top_is_greatest : (k : ℕ → ℕ) (count : ℕ) → AreOrdered 0 k count → (place : ℕ) → place < count → k place ≤ k 0
top_is_greatest k count m place = down place place (omega arith)
  where
    down : (n p : ℕ) → p ≤ n → p < count → k p ≤ k 0
    down zero p le in_heap = let none : p ≡ 0 = omega (arith, le) in omega (arith, ap k none)
    down (suc n) p le in_heap = elim (cases_eq p 0) [
      | inl none ↦ omega (arith, ap k none)
      | inr some ↦
          let low : 2 * ((p - 1) / 2) + 1 ≤ p = omega (arith, some) in
          let high : p ≤ 2 * ((p - 1) / 2) + 2 = omega (arith, some) in
          let rest : k ((p - 1) / 2) ≤ k 0 = down n ((p - 1) / 2) (omega (arith, low, le)) (omega (arith, low, in_heap)) in
          let here : k p ≤ k ((p - 1) / 2) = m ((p - 1) / 2) p (omega arith) (low, high) in_heap in
          omega (arith, rest, here)
    ]

pub first_is_greatest : (rank : ℕ → ℕ) (heap : Heap) → IsHeap rank heap → heap.sorted ≡ heap.count → (item : ℕ) → Holds heap item
    → rank item ≤ rank (slice_index heap.items 0)
first_is_greatest rank heap m all item h =
    subst (λ (n : ℕ). rank n ≤ rank (slice_index heap.items 0)) h.2 (top_is_greatest (key rank heap) heap.sorted m h.0 (omega (arith, h.1, all)))

-- an item stands before a place
abbrev pub StandsBefore : ℕ → List ℕ → ℕ → Type 0
StandsBefore bound items item = (place : ℕ) × (place < bound) × (slice_index items place ≡ item)

-- it still does where two places before it change their items
swap_before : (bound : ℕ) (old new : List ℕ) (one other : ℕ) → one < bound → other < bound → IsSwapped old new one other
    → (item : ℕ) → StandsBefore bound old item → StandsBefore bound new item
swap_before bound old new one other a b s item h = elim (cases_eq h.0 one) [
  | inl e ↦ (other, b, s.there ∙ ap (slice_index old) (sym e) ∙ h.2)
  | inr not_one ↦ elim (cases_eq h.0 other) [
    | inl e ↦ (one, a, s.here ∙ ap (slice_index old) (sym e) ∙ h.2)
    | inr not_other ↦ (h.0, h.1, s.others h.0 not_one not_other ∙ h.2)
  ]
]

swap_back : (old new : List ℕ) (one other : ℕ) → IsSwapped old new one other → IsSwapped new old one other
swap_back old new one other s = record { here = sym s.there; there = sym s.here; others = λ place c d. sym (s.others place c d) }

-- it does where its place says so, and the other way round
pub stands_before : (items places : List ℕ) (bound item : ℕ) → ArePlaces items places → item < length items → slice_index places item < bound
    → StandsBefore bound items item
stands_before items places bound item t within low = (slice_index places item, low, t.item_at item within)

pub place_before : (items places : List ℕ) (bound item : ℕ) → ArePlaces items places → bound ≤ length items → StandsBefore bound items item
    → slice_index places item < bound
place_before items places bound item t most h =
    let back : slice_index places item ≡ h.0 = ap (slice_index places) (sym h.2) ∙ t.place_of h.0 (omega (arith, h.1, most)) in
    omega (arith, back, h.1)

-- an item that stands at a place or behind it changes places with the one there: it and no other stands before besides
module _ (bound : ℕ) (old new : List ℕ) (one item : ℕ) (behind : bound ≤ one) (s : IsSwapped old new one bound) where
  pub more_before : (other : ℕ) → StandsBefore bound old other → StandsBefore (bound + 1) new other
  more_before other h =
      (h.0, omega (arith, h.1), s.others h.0 (λ e. absurd (omega (arith, e, h.1, behind))) (λ e. absurd (omega (arith, e, h.1))) ∙ h.2)

  pub item_before : slice_index old one ≡ item → StandsBefore (bound + 1) new item
  item_before is = (bound, omega arith, s.there ∙ is)

  pub only_before : slice_index old one ≡ item → (other : ℕ) → StandsBefore (bound + 1) new other → (other ≡ item) ⊎ StandsBefore bound old other
  only_before is other h = elim (cases_eq h.0 bound) [
    | inl e ↦ inl (sym h.2 ∙ ap (slice_index new) e ∙ s.there ∙ is)
    | inr less ↦ inr (h.0, omega (arith, h.1, less), sym (s.others h.0 (λ e. absurd (omega (arith, e, behind, h.1, less))) less) ∙ h.2)
  ]

-- what is in order stays so where both places are behind it
pub order_behind : (rank : ℕ → ℕ) (sorted : ℕ) (old new : List ℕ) (one other : ℕ) → sorted ≤ one → sorted ≤ other → IsSwapped old new one other
    → AreOrdered 0 (λ p. rank (slice_index old p)) sorted → AreOrdered 0 (λ p. rank (slice_index new p)) sorted
order_behind rank sorted old new one other a b s m = λ h l z c within.
    omega (
      arith,
      m h l z c within,
      ap rank (s.others l (λ e. absurd (omega (arith, e, within, a))) (λ e. absurd (omega (arith, e, within, b)))),
      ap rank (s.others h (λ e. absurd (omega (arith, e, within, a, c.0))) (λ e. absurd (omega (arith, e, within, b, c.0)))),
    )

-- what may be held stays so where two places of it change their items
pub swap_admits : (old new : Heap) (one other : ℕ) → one < old.admitted → other < old.admitted → new.admitted ≡ old.admitted
    → IsSwapped old.items new.items one other → AdmitsSame old new
swap_admits old new one other a b same s = λ item. (
  λ h. swap_before old.admitted new.items old.items one other a b (swap_back old.items new.items one other s) item
      (subst (λ (n : ℕ). StandsBefore n new.items item) same h),
  λ h. subst (λ (n : ℕ). StandsBefore n new.items item) (sym same) (swap_before old.admitted old.items new.items one other a b s item h),
)

-- and what is held, where both are within the heap
pub swap_keeps : (old new : Heap) (one other : ℕ) → one < old.count → other < old.count → old.count ≤ old.admitted → new.count ≡ old.count
    → new.admitted ≡ old.admitted → length new.items ≡ length old.items → IsSwapped old.items new.items one other → Keeps old new
swap_keeps old new one other a b within same may size s = record {
  count = same;
  size = size;
  holds = λ item h. subst (λ (n : ℕ). StandsBefore n new.items item) (sym same) (swap_before old.count old.items new.items one other a b s item h);
  admits = swap_admits old new one other (omega (arith, a, within)) (omega (arith, b, within)) may s;
}

pub admits_all : (heap : Heap) → AdmitsSame heap heap
admits_all heap = λ item. (λ h. h, λ h. h)

pub admits_join : (a b c : Heap) → AdmitsSame a b → AdmitsSame b c → AdmitsSame a c
admits_join a b c m n = λ item. (λ h. (m item).0 ((n item).0 h), λ h. (n item).1 ((m item).1 h))

pub keeps_all : (heap : Heap) → Keeps heap heap
keeps_all heap = record { count = refl; size = refl; holds = λ item h. h; admits = admits_all heap }

pub keeps_more : (a b c : Heap) → Keeps a b → Keeps b c → Keeps a c
keeps_more a b c m n = record {
  count = n.count ∙ m.count;
  size = n.size ∙ m.size;
  holds = λ item h. n.holds item (m.holds item h);
  admits = admits_join a b c m.admits n.admits;
}

-- Two items of a table change places.
abbrev pub exchange : List ℕ → ℕ → ℕ → List ℕ
exchange items one other = set (set items one (get_or items other 0)) other (get_or items one 0)

pub exchanged : (items : List ℕ) (one other : ℕ) → one < length items → other < length items → IsSwapped items (exchange items one other) one other
exchanged items one other a b = record {
  here = elim (cases_eq one other) [
    | inl e ↦
        subst (λ (n : ℕ). get_or (exchange items one other) n 0 ≡ get_or items other 0) (sym e)
        (get_or-set_same (set items one (get_or items other 0)) other (get_or items one 0) 0 (omega (arith, b, length-set items one (get_or items other 0)))
        ∙ ap (λ (n : ℕ). get_or items n 0) e)
    | inr e ↦
        get_or-set_other (set items one (get_or items other 0)) other one (get_or items one 0) 0 e
        ∙ get_or-set_same items one (get_or items other 0) 0 a
  ];
  there = get_or-set_same (set items one (get_or items other 0)) other (get_or items one 0) 0 (omega (arith, b, length-set items one (get_or items other 0)));
  others = λ place c d.
      get_or-set_other (set items one (get_or items other 0)) other place (get_or items one 0) 0 d
      ∙ get_or-set_other items one place (get_or items other 0) 0 c;
}

pub places_exchanged : (items places : List ℕ) (one other : ℕ) → one < length items → other < length items → ArePlaces items places
    → ArePlaces (exchange items one other) (set (set places (get_or items other 0) one) (get_or items one 0) other)
places_exchanged items places one other a b t =
    let s = exchanged items one other a b in
    let item = get_or items one 0 in
    let next = get_or items other 0 in
    let mid = set places next one in
    let new = set mid item other in
    let is : length (exchange items one other) ≡ length items =
    length-set (set items one next) other item ∙ length-set items one next in
    let len : length mid ≡ length items = length-set places next one ∙ t.same in
    let at_item : get_or new item 0 ≡ other = get_or-set_same mid item other 0 (omega (arith, len, t.item one a)) in
    let at_next : next ≢ item → get_or new next 0 ≡ one =
    λ e. get_or-set_other mid item next other 0 e ∙ get_or-set_same places next one 0 (omega (arith, t.same, t.item other b)) in
    let at_else : (i : ℕ) → i ≢ item → i ≢ next → get_or new i 0 ≡ get_or places i 0 =
    λ i c d. get_or-set_other mid item i other 0 c ∙ get_or-set_other places next i one 0 d in
    record {
      same = length-set mid item other ∙ len ∙ sym is;
      item = λ p h. elim (cases_eq p one) [
        | inl e ↦ omega (arith, is, t.item other b, s.here, ap (slice_index (exchange items one other)) e)
        | inr c ↦ elim (cases_eq p other) [
          | inl e ↦ omega (arith, is, t.item one a, s.there, ap (slice_index (exchange items one other)) e)
          | inr d ↦ omega (arith, is, t.item p (omega (arith, is, h)), s.others p c d)
        ]
      ];
      place_of = λ p h. elim (cases_eq p other) [
        | inl e ↦ ap (λ (n : ℕ). get_or new (get_or (exchange items one other) n 0) 0) e ∙ ap (λ (n : ℕ). get_or new n 0) s.there ∙ at_item ∙ sym e
        | inr d ↦ elim (cases_eq p one) [
          | inl e ↦
              let apart : next ≢ item =
              λ same. d (e ∙ sym (t.place_of one a) ∙ ap (λ (n : ℕ). get_or places n 0) (sym same) ∙ t.place_of other b) in
              ap (λ (n : ℕ). get_or new (get_or (exchange items one other) n 0) 0) e ∙ ap (λ (n : ℕ). get_or new n 0) s.here ∙ at_next apart ∙ sym e
          | inr c ↦
              let within : p < length items = omega (arith, is, h) in
              let back = t.place_of p within in
              let not_item : get_or items p 0 ≢ item = λ same. c (sym back ∙ ap (λ (n : ℕ). get_or places n 0) same ∙ t.place_of one a) in
              let not_next : get_or items p 0 ≢ next = λ same. d (sym back ∙ ap (λ (n : ℕ). get_or places n 0) same ∙ t.place_of other b) in
              ap (λ (n : ℕ). get_or new n 0) (s.others p c d) ∙ at_else (get_or items p 0) not_item not_next ∙ back
        ]
      ];
      place = λ i h. elim (cases_eq i item) [
        | inl e ↦ omega (arith, is, b, at_item, ap (slice_index new) e)
        | inr c ↦ elim (cases_eq i next) [
          | inl e ↦ omega (arith, is, a, at_next (λ same. c (e ∙ same)), ap (slice_index new) e)
          | inr d ↦ omega (arith, is, t.place i (omega (arith, is, h)), at_else i c d)
        ]
      ];
      item_at = λ i h. elim (cases_eq i item) [
        | inl e ↦ ap (λ (n : ℕ). get_or (exchange items one other) (get_or new n 0) 0) e ∙ ap (λ (n : ℕ). get_or (exchange items one other) n 0) at_item ∙ s.there ∙ sym e
        | inr c ↦ elim (cases_eq i next) [
          | inl e ↦
              ap (λ (n : ℕ). get_or (exchange items one other) (get_or new n 0) 0) e
              ∙ ap (λ (n : ℕ). get_or (exchange items one other) n 0) (at_next (λ same. c (e ∙ same)))
              ∙ s.here ∙ sym e
          | inr d ↦
              let back = t.item_at i (omega (arith, is, h)) in
              ap (λ (n : ℕ). get_or (exchange items one other) n 0) (at_else i c d)
              ∙ s.others (get_or places i 0) (λ e. c (sym back ∙ ap (λ (n : ℕ). get_or items n 0) e)) (λ e. d (sym back ∙ ap (λ (n : ℕ). get_or items n 0) e))
              ∙ back
        ]
      ];
    }

-- in a table where each item stands at its own number
pub places_of_numbers : (items places : List ℕ) (size : ℕ) → length items ≡ size → length places ≡ size
    → ((place : ℕ) → place < size → slice_index items place ≡ place) → ((place : ℕ) → place < size → slice_index places place ≡ place) → ArePlaces items places
places_of_numbers items places size a b f g = record {
  same = b ∙ sym a;
  item = λ p h. omega (arith, h, f p (omega (arith, a, h)));
  place_of = λ p h. ap (slice_index places) (f p (omega (arith, a, h))) ∙ g p (omega (arith, a, h));
  place = λ i h. omega (arith, h, g i (omega (arith, a, h)));
  item_at = λ i h. ap (slice_index items) (g i (omega (arith, a, h))) ∙ f i (omega (arith, a, h));
}

-- only what is above the raised item in the heap may be out of order
pub raised : (rank rank' : ℕ → ℕ) (items places : List ℕ) (count item : ℕ) → ArePlaces items places → count ≤ length items → item < length items
    → AreOrdered 0 (λ p. rank (slice_index items p)) count → IsRaised rank rank' item → MayRise (λ p. rank' (slice_index items p)) count (slice_index places item)
raised rank rank' items places count item t le within m r = record {
  others = λ h l c in_heap apart. omega (arith, m h l (omega arith) c in_heap, lifted h, stays l (omega (arith, in_heap, le)) apart);
  around = λ h l c d in_heap.
      let mid = slice_index places item in
      let over = m h mid (omega arith) c (omega (arith, d.0, in_heap)) in
      let under = m mid l (omega arith) d in_heap in
      omega (arith, over, under, lifted h, stays l (omega (arith, in_heap, le)) (λ e. absurd (omega (arith, e, d.0))));
}
  where
    lifted : (p : ℕ) → rank (slice_index items p) ≤ rank' (slice_index items p)
    lifted p = elim (cases_eq (slice_index items p) item) [
      | inl e ↦ omega (arith, r.higher, ap rank e, ap rank' e)
      | inr other ↦ omega (arith, r.others (slice_index items p) other)
    ]

    stays : (p : ℕ) → p < length items → p ≢ slice_index places item → rank' (slice_index items p) ≡ rank (slice_index items p)
    stays p h apart = r.others (slice_index items p) (λ e. apart (sym (t.place_of p h) ∙ ap (slice_index places) e))

-- an item that the heap does not hold is at no place of it
pub raised_outside : (rank rank' : ℕ → ℕ) (items places : List ℕ) (count item : ℕ) → ArePlaces items places → count ≤ length items
    → count ≤ slice_index places item → AreOrdered 0 (λ p. rank (slice_index items p)) count → IsRaised rank rank' item
    → AreOrdered 0 (λ p. rank' (slice_index items p)) count
raised_outside rank rank' items places count item t le out m r = λ h l z c in_heap.
    omega (arith, m h l z c in_heap, stays h (omega (arith, in_heap, c.0)), stays l in_heap)
  where
    stays : (p : ℕ) → p < count → rank' (slice_index items p) ≡ rank (slice_index items p)
    stays p h =
        r.others (slice_index items p)
        (λ e. let back : p ≡ slice_index places item = sym (t.place_of p (omega (arith, h, le))) ∙ ap (slice_index places) e in absurd (omega (arith, back, h, out)))
