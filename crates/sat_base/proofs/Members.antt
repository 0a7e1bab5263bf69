-- Membership by cases on the list, against tests of all or some elements.
use Rattle.std.proofs.Common.{◌≡◌, ◌⊎◌, Bool, true, List, [], ◌∷◌, ◌++◌, map, refl, sym, ◌∙◌, ap, inl, inr}
use Rattle.std.specs.List.{list_any, list_all}
use Rattle.std.proofs.lemmas.Bool.{and_parts, and_from, or_cases, or_left, or_right, false≢true}
use Rattle.sat_base.specs.Members.{In}

pub In-append_left : {X : Type 0} (x : X) (xs ys : List X) → In x xs → In x (xs ++ ys)
In-append_left x [] ys h = absurd h
In-append_left x (z ∷ zs) ys (inl e) = inl e
In-append_left x (z ∷ zs) ys (inr h) = inr (In-append_left x zs ys h)

pub In-append_right : {X : Type 0} (x : X) (xs ys : List X) → In x ys → In x (xs ++ ys)
In-append_right x [] ys h = h
In-append_right x (z ∷ zs) ys h = inr (In-append_right x zs ys h)

pub In-append_cases : {X : Type 0} (x : X) (xs ys : List X) → In x (xs ++ ys) → In x xs ⊎ In x ys
In-append_cases x [] ys h = inr h
In-append_cases x (z ∷ zs) ys (inl e) = inl (inl e)
In-append_cases x (z ∷ zs) ys (inr h) = elim (In-append_cases x zs ys h) [ inl l ↦ inl (inr l) | inr r ↦ inr r ]

pub In-map : {X Y : Type 0} (f : X → Y) (x : X) (xs : List X) → In x xs → In (f x) (map f xs)
In-map f x [] h = absurd h
In-map f x (z ∷ zs) (inl e) = inl (ap f e)
In-map f x (z ∷ zs) (inr h) = inr (In-map f x zs h)

pub In-from_map : {X Y : Type 0} (f : X → Y) (y : Y) (xs : List X) → In y (map f xs) → (x : X) × In x xs × (y ≡ f x)
In-from_map f y [] h = absurd h
In-from_map f y (z ∷ zs) (inl e) = (z, inl refl, e)
In-from_map f y (z ∷ zs) (inr h) = let (x, i, e) = In-from_map f y zs h in (x, inr i, e)

pub all_at : {X : Type 0} (p : X → Bool) (xs : List X) (x : X) → list_all p xs ≡ true → In x xs → p x ≡ true
all_at p [] x a h = absurd h
all_at p (z ∷ zs) x a (inl e) = ap p e ∙ (and_parts (p z) (list_all p zs) a).0
all_at p (z ∷ zs) x a (inr h) = all_at p zs x (and_parts (p z) (list_all p zs) a).1 h

pub all_from : {X : Type 0} (p : X → Bool) (xs : List X) → ((x : X) → In x xs → p x ≡ true) → list_all p xs ≡ true
all_from p [] f = refl
all_from p (z ∷ zs) f = and_from (p z) (list_all p zs) (f z (inl refl)) (all_from p zs (λ x i. f x (inr i)))

pub any_at : {X : Type 0} (p : X → Bool) (xs : List X) (x : X) → In x xs → p x ≡ true → list_any p xs ≡ true
any_at p [] x h t = absurd h
any_at p (z ∷ zs) x (inl e) t = or_left (p z) (list_any p zs) (sym (ap p e) ∙ t)
any_at p (z ∷ zs) x (inr h) t = or_right (p z) (list_any p zs) (any_at p zs x h t)

pub any_from : {X : Type 0} (p : X → Bool) (xs : List X) → list_any p xs ≡ true → (x : X) × In x xs × (p x ≡ true)
any_from p [] t = absurd (false≢true t)
any_from p (z ∷ zs) t =
    elim (or_cases (p z) (list_any p zs) t) [
      | inl l ↦ (z, inl refl, l)
      | inr r ↦ let (x, i, e) = any_from p zs r in (x, inr i, e)
    ]
