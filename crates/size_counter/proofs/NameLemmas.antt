-- The groups that sets name, one set or one group more.
use Rattle.std.proofs.Common.{◌≡◌, ℕ, ◌+◌, ◌<◌, ◌≤◌, true, false, not, ◌&&◌, ◌||◌, cond, List, [], ◌∷◌, ◌++◌, length, take, get_or, refl, sym, ◌∙◌, ap, inl, inr, eqb, append_assoc, append-nil, length-append, arith}
use Rattle.std.specs.List.{flat_map}
use Rattle.std.proofs.lemmas.Bool.{cases_Bool, or_left, or_right, or_from, or_parts, eq-eqb, ne_eqb, eqb-true, eqb-false, cond-true, cond-false}
use Rattle.std.proofs.lemmas.List.{take_more, take_at, take_all}
use Rattle.std.proofs.lemmas.List.Folds.{list_any-append}
use Rattle.std.proofs.lemmas.List.Elements.{filter-append}
use Rattle.gm_base.specs.Sets.{has, without}
use Rattle.gm_base.specs.declared.kind.Kind.{Kind}
use Rattle.gm_base.specs.declared.kind.Kind.TheVariants.{Conflict, Correction}
use Rattle.gm_base.specs.Explored.{Found}
use Rattle.gm_base.proofs.SetLemmas.{has-without}
use Rattle.size_counter.specs.Sizes.{AreDistinct}
use Rattle.size_counter.specs.Names.{Naming, first_named, against, alone_in, also, names_of}
use Rattle.size_counter.proofs.SizeLemmas.{distinct-filter}

-- a list with a number at the end has that one and those that it had
pub has-push : (xs : List ℕ) (g h : ℕ) → has (xs ++ g ∷ []) h ≡ (has xs h || (eqb g h || false))
has-push xs g h = list_any-append (λ k. eqb k h) xs (g ∷ [])

-- a list that lacks a number is the same without it
without-absent : (xs : List ℕ) (g : ℕ) → has xs g ≡ false → without xs g ≡ xs
without-absent [] g h = refl
without-absent (x ∷ xs) g h =
    let parts = or_parts (eqb x g) (has xs g) h in
    cond-true (not (eqb x g)) (x ∷ without xs g) (without xs g) (ap not parts.0) ∙ ap (λ ys. x ∷ ys) (without-absent xs g parts.1)

-- each number is there that was
pub has-first_named : (xs : List ℕ) (g : ℕ) → has (first_named xs) g ≡ has xs g
has-first_named [] g = refl
has-first_named (x ∷ xs) g =
    ap (λ b. eqb x g || b) (has-without (first_named xs) x g ∙ ap (λ b. not (eqb g x) && b) (has-first_named xs g))
    ∙ elim (cases_Bool (eqb x g)) [
      | inl here ↦ ap (λ b. b || (not (eqb g x) && has xs g)) here ∙ sym (ap (λ b. b || has xs g) here)
      | inr other ↦
          let turned : eqb g x ≡ false = ne_eqb g x (λ e. eqb-false x g other (sym e)) in
          ap (λ b. eqb x g || (not b && has xs g)) turned
    ]

-- and none twice
pub distinct-first_named : (xs : List ℕ) → AreDistinct (first_named xs)
distinct-first_named [] = tt
distinct-first_named (x ∷ xs) = (
  has-without (first_named xs) x x ∙ ap (λ b. not b && has (first_named xs) x) (eq-eqb x x refl),
  distinct-filter (λ h. not (eqb h x)) (first_named xs) (distinct-first_named xs),
)

-- where no number stands twice, nothing is dropped
pub first_named-same : (xs : List ℕ) → AreDistinct xs → first_named xs ≡ xs
first_named-same [] d = refl
first_named-same (x ∷ xs) d = ap (λ ys. x ∷ without ys x) (first_named-same xs d.1) ∙ ap (λ ys. x ∷ ys) (without-absent xs x d.0)

-- one number more
pub first_named-push : (xs : List ℕ) (g : ℕ) → first_named (xs ++ g ∷ []) ≡ cond (has xs g) (first_named xs) (first_named xs ++ g ∷ [])
first_named-push [] g = refl
first_named-push (x ∷ xs) g =
    let rest = first_named-push xs g in
    elim (cases_Bool (has xs g)) [
      | inl known ↦
          ap (λ ys. x ∷ without ys x) (rest ∙ cond-true (has xs g) (first_named xs) (first_named xs ++ g ∷ []) known)
          ∙ sym (cond-true (has (x ∷ xs) g) (first_named (x ∷ xs)) (first_named (x ∷ xs) ++ g ∷ []) (or_right (eqb x g) (has xs g) known))
      | inr new ↦
          ap (λ ys. x ∷ without ys x) (rest ∙ cond-false (has xs g) (first_named xs) (first_named xs ++ g ∷ []) new)
          ∙ ap (λ ys. x ∷ ys) (filter-append (λ h. not (eqb h x)) (first_named xs) (g ∷ []))
          ∙ elim (cases_Bool (eqb x g)) [
            | inl here ↦
                let same : eqb g x ≡ true = eq-eqb g x (sym (eqb-true x g here)) in
                ap (λ ys. x ∷ (without (first_named xs) x ++ ys)) (cond-false (not (eqb g x)) (g ∷ []) [] (ap not same))
                ∙ ap (λ ys. x ∷ ys) (append-nil (without (first_named xs) x))
                ∙ sym (cond-true (has (x ∷ xs) g) (first_named (x ∷ xs)) (first_named (x ∷ xs) ++ g ∷ []) (or_left (eqb x g) (has xs g) here))
            | inr other ↦
                let turned : eqb g x ≡ false = ne_eqb g x (λ e. eqb-false x g other (sym e)) in
                ap (λ ys. x ∷ (without (first_named xs) x ++ ys)) (cond-true (not (eqb g x)) (g ∷ []) [] (ap not turned))
                ∙ sym (cond-false (has (x ∷ xs) g) (first_named (x ∷ xs)) (first_named (x ∷ xs) ++ g ∷ []) (or_from (eqb x g) (has xs g) other new))
          ]
    ]

-- what comes behind does not ask how often a number stood before
first_named-behind : (xs ys zs : List ℕ) → first_named xs ≡ first_named ys → first_named (xs ++ zs) ≡ first_named (ys ++ zs)
first_named-behind xs ys [] e = ap first_named (append-nil xs) ∙ e ∙ sym (ap first_named (append-nil ys))
first_named-behind xs ys (z ∷ zs) e =
    let known : has xs z ≡ has ys z = sym (has-first_named xs z) ∙ (ap (λ l. has l z) e ∙ has-first_named ys z) in
    let one : first_named (xs ++ z ∷ []) ≡ first_named (ys ++ z ∷ []) =
    first_named-push xs z ∙ ap (λ b. cond b (first_named xs) (first_named xs ++ z ∷ [])) known
    ∙ ap (λ l. cond (has ys z) l (l ++ z ∷ [])) e ∙ sym (first_named-push ys z) in
    ap first_named (sym (append_assoc xs (z ∷ []) zs)) ∙ first_named-behind (xs ++ z ∷ []) (ys ++ z ∷ []) zs one
    ∙ ap first_named (append_assoc ys (z ∷ []) zs)

-- to drop in front beforehand what stands there twice changes nothing
pub first_named-twice : (xs ys : List ℕ) → first_named (first_named xs ++ ys) ≡ first_named (xs ++ ys)
first_named-twice xs ys = first_named-behind (first_named xs) xs ys (first_named-same (first_named xs) (distinct-first_named xs))

-- what an element at the end gives stands behind all else
flat_map-push : (f : Found → List ℕ) (found : List Found) (g : Found) → flat_map f (found ++ g ∷ []) ≡ flat_map f found ++ f g
flat_map-push f [] g = append-nil (f g)
flat_map-push f (e ∷ fs) g = ap (λ ys. f e ++ ys) (flat_map-push f fs g) ∙ sym (append_assoc (f e) (flat_map f fs) (f g))

-- one set more
pub names_of-grows : (kind : Kind) (found : List Found) (f : Found) → names_of kind (found ++ f ∷ []) ≡ also (names_of kind found) f.kind f.set
names_of-grows kind found f =
    let names = λ (e : Found). against kind e.kind e.set in
    let alone = λ (e : Found). alone_in (against kind e.kind e.set) in
    ap (λ (xs : List ℕ). made xs (flat_map alone (found ++ f ∷ []))) (ap first_named (flat_map-push names found f) ∙ sym (first_named-twice (flat_map names found) (names f)))
    ∙ ap (λ (ys : List ℕ). made (first_named (first_named (flat_map names found) ++ names f)) ys) (flat_map-push alone found f)
  where
    made : List ℕ → List ℕ → Naming
    made xs ys = record { kind = kind; named = xs; alone = ys }

-- what was named so far, with the group at a place
pub named-more : (named set : List ℕ) (i : ℕ) → i < length set
    → first_named (named ++ take (i + 1) set)
    ≡ cond (has (named ++ take i set) (get_or set i 0)) (first_named (named ++ take i set)) (first_named (named ++ take i set) ++ get_or set i 0 ∷ [])
named-more named set i lt =
    ap (λ xs. first_named (named ++ xs)) (take_more set i 0 lt)
    ∙ ap first_named (sym (append_assoc named (take i set) (get_or set i 0 ∷ [])))
    ∙ first_named-push (named ++ take i set) (get_or set i 0)

-- a set of the kind names nothing
pub also-same : (n : Naming) (kind : Kind) (set : List ℕ) → AreDistinct n.named → n.kind ≡ kind → n ≡ also n kind set
also-same n kind set distinct same =
    ap (λ (xs : List ℕ). made xs n.alone) (sym (first_named-same n.named distinct) ∙ ap first_named (sym (append-nil n.named) ∙ ap (λ ys. n.named ++ ys) (sym none)))
    ∙ ap (λ (ys : List ℕ). made (first_named (n.named ++ against n.kind kind set)) ys) (sym (append-nil n.alone) ∙ ap (λ ys. n.alone ++ alone_in ys) (sym none))
  where
    made : List ℕ → List ℕ → Naming
    made xs ys = record { kind = n.kind; named = xs; alone = ys }

    none : against n.kind kind set ≡ []
    none = ap (λ k. against k kind set) same ∙ by kind
      where
        by : (k : Kind) → against k k set ≡ []
        by Conflict = refl
        by Correction = refl

-- and one of the other kind names its groups
pub against-other : (kind other : Kind) (set : List ℕ) → (kind ≡ other → ⊥) → against kind other set ≡ set
against-other Conflict Conflict set f = absurd (f refl)
against-other Conflict Correction set f = refl
against-other Correction Conflict set f = refl
against-other Correction Correction set f = absurd (f refl)

-- what comes behind takes nothing away
first_named-front : (xs ys : List ℕ) → (more : List ℕ) × (first_named (xs ++ ys) ≡ first_named xs ++ more)
first_named-front xs [] = ([], ap first_named (append-nil xs) ∙ sym (append-nil (first_named xs)))
first_named-front xs (y ∷ ys) =
    let (more, is) = first_named-front (xs ++ y ∷ []) ys in
    let all = ap first_named (sym (append_assoc xs (y ∷ []) ys)) ∙ is in
    elim (cases_Bool (has xs y)) [
      | inl known ↦
          (more, all ∙ ap (λ zs. zs ++ more) (first_named-push xs y ∙ cond-true (has xs y) (first_named xs) (first_named xs ++ y ∷ []) known))
      | inr new ↦ (
        y ∷ more,
        all ∙ ap (λ zs. zs ++ more) (first_named-push xs y ∙ cond-false (has xs y) (first_named xs) (first_named xs ++ y ∷ []) new)
            ∙ append_assoc (first_named xs) (y ∷ []) more,
      )
    ]

-- numbers of which each is there once, and what was added behind them
pub record AddedTo (before numbers : List ℕ) (i : ℕ) (now : List ℕ) : Type 0 where
  pub are : now ≡ first_named (before ++ take i numbers)
  pub differ : AreDistinct before

-- before the first number the list is as it was
pub AddedTo-start : (before numbers : List ℕ) → AreDistinct before → AddedTo before numbers 0 before
AddedTo-start before numbers d =
    record { are = sym (first_named-same before d) ∙ sym (ap first_named (append-nil before)); differ = d }

-- the next number goes to the end if it is not there
pub AddedTo-more : (before numbers : List ℕ) (i : ℕ) (now new : List ℕ) → i < length numbers → AddedTo before numbers i now
    → new ≡ cond (has now (get_or numbers i 0)) now (now ++ get_or numbers i 0 ∷ []) → AddedTo before numbers (i + 1) new
AddedTo-more before numbers i now new lt a is =
    let g = get_or numbers i 0 in
    let so_far = before ++ take i numbers in
    let known : has now g ≡ has so_far g = ap (λ xs. has xs g) a.are ∙ has-first_named so_far g in
    record {
      are =
          is ∙ ap (λ b. cond b now (now ++ g ∷ [])) known ∙ ap (λ xs. cond (has so_far g) xs (xs ++ g ∷ [])) a.are
          ∙ sym (named-more before numbers i lt);
      differ = a.differ;
    }

-- what was there stands in front
pub AddedTo-front : (before numbers : List ℕ) (i : ℕ) (now : List ℕ) → AddedTo before numbers i now
    → (length before ≤ length now) × (take (length before) now ≡ before)
AddedTo-front before numbers i now a =
    let (more, is) = first_named-front before (take i numbers) in
    let all : now ≡ before ++ more = a.are ∙ is ∙ ap (λ xs. xs ++ more) (first_named-same before a.differ) in
    let sizes = ap length all ∙ length-append before more in
    (omega arith, ap (take (length before)) all ∙ take_at before more (length before) refl)

-- so after all of them what was there still stands in front
pub all-front : (before more now : List ℕ) → AreDistinct before → now ≡ first_named (before ++ more)
    → (length before ≤ length now) × (take (length before) now ≡ before)
all-front before more now d is =
    AddedTo-front before more (length more) now
    (record { are = is ∙ ap (λ xs. first_named (before ++ xs)) (sym (take_all (length more) more (omega arith))); differ = d })
