-- Where a clause follows along hints, what is left of it follows along what is left of them.
use Rattle.std.proofs.Common.{◌≡◌, ℕ, Bool, true, false, ◌||◌, cond, List, [], ◌∷◌, Option, Some, None, refl, sym, ◌∙◌, ap, inl, inr}
use Rattle.std.specs.Prelude.{ℤ, neg_ℤ}
use Rattle.std.specs.Ordering.{int_eq}
use Rattle.std.specs.Option.{option_map_or}
use Rattle.std.proofs.lemmas.Bool.{false≢true, true≢false, cases_Bool}
use Rattle.sat_base.specs.Derivation.{clause_of, contains_lit, open_lits, only_lit, is_nil, follows}
use Rattle.sat_base.specs.Members.{In}
use Rattle.sat_base.proofs.Members.{any_from}
use Rattle.lrat_export.specs.Export.{Numbered, is_selector, is_true, is_settled, bared, stays, hints_of}
use Rattle.lrat_export.proofs.BaredLemmas.{In-contains, none_open, all_false, IsOnly, only-parts, only-made, int_eq-from, true-is_selector, selector-negated, negated-not_true, not_selector-not_true, bared-In, In-bared}
use Rattle.lrat_export.proofs.NumberLemmas.{Becomes}

-- the false literals here and there: none of a selector that is true, and of the others the same
pub record AreAlike (vars : ℕ) (set : List ℕ) (f g : List ℤ) : Type 0 where
  pub none_true : (l : ℤ) → In l f → is_true vars set l ≡ false
  pub same : (l : ℤ) → is_selector vars l ≡ false → contains_lit f l ≡ contains_lit g l

-- each clause of an id becomes what the new ones have of it
abbrev pub AllBecome : ℕ → List ℕ → List (ℕ × List ℤ) → List (ℕ × Option Numbered) → List (ℕ × List ℤ) → Type 0
AllBecome vars set known renewed news = (id : ℕ) (c : List ℤ) → clause_of known id ≡ Some c → Becomes vars set 1 news c (stays renewed id)

-- ---- one more false literal

alike-true : (vars : ℕ) (set : List ℕ) (f g : List ℤ) (l : ℤ) → AreAlike vars set f g → is_true vars set l ≡ true → AreAlike vars set (neg_ℤ l ∷ f) g
alike-true vars set f g l alike on =
    let off = negated-not_true vars set l on in
    record {
      none_true = λ m i. elim i [ inl here ↦ ap (is_true vars set) here ∙ off | inr later ↦ alike.none_true m later ];
      same = λ m plain. ap (λ b. b || contains_lit f m) (differs m plain) ∙ alike.same m plain;
    }
  where
    differs : (m : ℤ) → is_selector vars m ≡ false → int_eq (neg_ℤ l) m ≡ false
    differs m plain = elim (cases_Bool (int_eq (neg_ℤ l) m)) [
      | inl held ↦ absurd (true≢false (sym (true-is_selector vars set l on) ∙ sym (selector-negated vars l) ∙ ap (is_selector vars) (int_eq-from (neg_ℤ l) m held) ∙ plain))
      | inr off ↦ off
    ]

alike-none_true : (vars : ℕ) (set : List ℕ) (f : List ℤ) (l : ℤ) → ((m : ℤ) → In m f → is_true vars set m ≡ false) → is_selector vars l ≡ false
    → (m : ℤ) → In m (neg_ℤ l ∷ f) → is_true vars set m ≡ false
alike-none_true vars set f l none plain m (inl here) = ap (is_true vars set) here ∙ not_selector-not_true vars set (neg_ℤ l) (selector-negated vars l ∙ plain)
alike-none_true vars set f l none plain m (inr later) = none m later

-- it was false there already
alike-again : (vars : ℕ) (set : List ℕ) (f g : List ℤ) (l : ℤ) → AreAlike vars set f g → is_selector vars l ≡ false → contains_lit g (neg_ℤ l) ≡ true → AreAlike vars set (neg_ℤ l ∷ f) g
alike-again vars set f g l alike plain there = record { none_true = alike-none_true vars set f l alike.none_true plain; same = also }
  where
    also : (m : ℤ) → is_selector vars m ≡ false → contains_lit (neg_ℤ l ∷ f) m ≡ contains_lit g m
    also m bare = elim (cases_Bool (int_eq (neg_ℤ l) m)) [
      | inl held ↦ ap (λ b. b || contains_lit f m) held ∙ sym (sym (ap (contains_lit g) (int_eq-from (neg_ℤ l) m held)) ∙ there)
      | inr off ↦ ap (λ b. b || contains_lit f m) off ∙ alike.same m bare
    ]

alike-both : (vars : ℕ) (set : List ℕ) (f g : List ℤ) (l : ℤ) → AreAlike vars set f g → is_selector vars l ≡ false → AreAlike vars set (neg_ℤ l ∷ f) (neg_ℤ l ∷ g)
alike-both vars set f g l alike plain =
    record { none_true = alike-none_true vars set f l alike.none_true plain; same = λ m bare. ap (λ b. int_eq (neg_ℤ l) m || b) (alike.same m bare) }

-- ---- what hints say

follow-last : (news : List (ℕ × List ℤ)) (g : List ℤ) (n : ℕ) (c : List ℤ) → clause_of news n ≡ Some c → open_lits g c ≡ [] → follows news g (n ∷ []) ≡ true
follow-last news g n c is none = ap (λ o. option_map_or (λ d. is_nil (open_lits g d)) o false) is ∙ ap is_nil none

follow-more : (news : List (ℕ × List ℤ)) (g : List ℤ) (n : ℕ) (c : List ℤ) (l : ℤ) (rest : List ℕ) → clause_of news n ≡ Some c → only_lit (open_lits g c) ≡ Some l
    → follows news (neg_ℤ l ∷ g) rest ≡ true → follows news g (n ∷ rest) ≡ true
follow-more news g n c l [] is one h = absurd (false≢true h)
follow-more news g n c l (r ∷ rest) is one h =
    ap (λ o. option_map_or (λ d. option_map_or (λ k. follows news (neg_ℤ k ∷ g) (r ∷ rest)) (only_lit (open_lits g d)) false) o false) is
    ∙ ap (λ o. option_map_or (λ k. follows news (neg_ℤ k ∷ g) (r ∷ rest)) o false) one ∙ h

-- what is left of a clause that is wholly false but, maybe, for a selector that is false
bared-false : (vars : ℕ) (set : List ℕ) (f g c : List ℤ) → AreAlike vars set f g → ((m : ℤ) → In m c → is_selector vars m ≡ false → contains_lit f m ≡ true) → open_lits g (bared vars c) ≡ []
bared-false vars set f g c alike all =
    none_open g (bared vars c) (λ m i. let found = In-bared vars c m i in sym (alike.same m found.1) ∙ all m found.0 found.1)

bared-only : (vars : ℕ) (set : List ℕ) (f g c : List ℤ) (l : ℤ) → AreAlike vars set f g → is_selector vars l ≡ false → IsOnly f c l → only_lit (open_lits g (bared vars c)) ≡ Some l
bared-only vars set f g c l alike plain only =
    only-made g (bared vars c) l
    (record {
      of_it = bared-In vars c l only.of_it plain;
      not_false = sym (alike.same l plain) ∙ only.not_false;
      others = λ m i.
          let found = In-bared vars c m i in
          elim (only.others m found.0) [ inl held ↦ inl (sym (alike.same m found.1) ∙ held) | inr here ↦ inr here ];
    })

-- a clause with one literal that is not false, where the selectors make it true: they do by that literal
true_one : (vars : ℕ) (set : List ℕ) (f g c : List ℤ) (l : ℤ) → AreAlike vars set f g → IsOnly f c l → is_settled vars set c ≡ true → is_true vars set l ≡ true
true_one vars set f g c l alike only settled =
    let (t, i, on) = any_from (is_true vars set) c settled in
    elim (only.others t i) [
      | inl there ↦ absurd (true≢false (sym on ∙ alike.none_true t (In-contains f t there)))
      | inr same ↦ ap (is_true vars set) (sym same) ∙ on
    ]

module _ (vars : ℕ) (set : List ℕ) (known : List (ℕ × List ℤ)) (renewed : List (ℕ × Option Numbered)) (news : List (ℕ × List ℤ)) (all : AllBecome vars set known renewed news) where
  -- what the hints from this one on become
  abbrev goes : List ℤ → List ℕ → Option Numbered → List ℕ
  goes g hs o =
      option_map_or
      (λ (c : Numbered).
      cond (is_nil (open_lits g c.1)) (c.0 ∷ [])
      (option_map_or
      (λ l. cond (contains_lit g (neg_ℤ l)) (hints_of renewed g hs) (c.0 ∷ hints_of renewed (neg_ℤ l ∷ g) hs))
      (only_lit (open_lits g c.1))
      (hints_of renewed g hs)))
      o
      (hints_of renewed g hs)

  -- the last hint
  last : (f g : List ℤ) (hs : List ℕ) (c : List ℤ) (o : Option Numbered) → AreAlike vars set f g → is_nil (open_lits f c) ≡ true → Becomes vars set 1 news c o
      → follows news g (goes g hs o) ≡ true
  last f g hs c None alike nil settled =
      let (t, i, on) = any_from (is_true vars set) c settled in
      absurd (true≢false (sym on ∙ alike.none_true t (In-contains f t (all_false f c t nil i))))
  last f g hs c (Some k) alike nil b =
      let none : open_lits g k.1 ≡ [] = ap (open_lits g) b.1 ∙ bared-false vars set f g c alike (λ m i plain. all_false f c m nil i) in
      ap (follows news g) (ended k none)
      ∙ follow-last news g k.0 (bared vars c) b.3 (ap (open_lits g) (sym b.1) ∙ none)
    where
      ended : (k : Numbered) → open_lits g k.1 ≡ [] → goes g hs (Some k) ≡ k.0 ∷ []
      ended k none = ap (λ ls. cond (is_nil ls) (k.0 ∷ []) (option_map_or (λ l. cond (contains_lit g (neg_ℤ l)) (hints_of renewed g hs) (k.0 ∷ hints_of renewed (neg_ℤ l ∷ g) hs)) (only_lit ls) (hints_of renewed g hs))) none

  -- a hint with more behind it, whose clause has one literal that is not false
  more : (f g : List ℤ) (hs : List ℕ) (c : List ℤ) (l : ℤ) (o : Option Numbered) → AreAlike vars set f g → IsOnly f c l → Becomes vars set 1 news c o
      → ((g : List ℤ) → AreAlike vars set (neg_ℤ l ∷ f) g → follows news g (hints_of renewed g hs) ≡ true)
      → follows news g (goes g hs o) ≡ true
  more f g hs c l None alike only settled later = later g (alike-true vars set f g l alike (true_one vars set f g c l alike only settled))
  more f g hs c l (Some k) alike only b later = by (is_selector vars l) refl
    where
      by : (s : Bool) → is_selector vars l ≡ s → follows news g (goes g hs (Some k)) ≡ true
      by true selector =
          let none : open_lits g k.1 ≡ [] =
          ap (open_lits g) b.1
          ∙ bared-false vars set f g c alike
          (λ m i plain. elim (only.others m i) [ inl held ↦ held | inr here ↦ absurd (true≢false (sym selector ∙ sym (ap (is_selector vars) here) ∙ plain)) ]) in
          ap (λ ls. follows news g (cond (is_nil ls) (k.0 ∷ []) (option_map_or (λ l. cond (contains_lit g (neg_ℤ l)) (hints_of renewed g hs) (k.0 ∷ hints_of renewed (neg_ℤ l ∷ g) hs)) (only_lit ls) (hints_of renewed g hs)))) none
          ∙ follow-last news g k.0 (bared vars c) b.3 (ap (open_lits g) (sym b.1) ∙ none)
      by false bare = next (contains_lit g (neg_ℤ l)) refl
        where
          one : only_lit (open_lits g (bared vars c)) ≡ Some l
          one = bared-only vars set f g c l alike bare only

          some : (ls : List ℤ) → only_lit ls ≡ Some l → is_nil ls ≡ false
          some [] is = cc
          some (x ∷ xs) is = refl

          one_there : only_lit (open_lits g k.1) ≡ Some l
          one_there = ap (λ d. only_lit (open_lits g d)) b.1 ∙ one

          step : goes g hs (Some k) ≡ cond (contains_lit g (neg_ℤ l)) (hints_of renewed g hs) (k.0 ∷ hints_of renewed (neg_ℤ l ∷ g) hs)
          step =
              ap (λ nil. cond nil (k.0 ∷ []) (option_map_or (λ l. cond (contains_lit g (neg_ℤ l)) (hints_of renewed g hs) (k.0 ∷ hints_of renewed (neg_ℤ l ∷ g) hs)) (only_lit (open_lits g k.1)) (hints_of renewed g hs))) (some (open_lits g k.1) one_there)
              ∙ ap (λ o. option_map_or (λ l. cond (contains_lit g (neg_ℤ l)) (hints_of renewed g hs) (k.0 ∷ hints_of renewed (neg_ℤ l ∷ g) hs)) o (hints_of renewed g hs)) one_there

          next : (again : Bool) → contains_lit g (neg_ℤ l) ≡ again → follows news g (goes g hs (Some k)) ≡ true
          next true there =
              ap (follows news g) (step ∙ ap (λ b. cond b (hints_of renewed g hs) (k.0 ∷ hints_of renewed (neg_ℤ l ∷ g) hs)) there)
              ∙ later g (alike-again vars set f g l alike bare there)
          next false new =
              ap (follows news g) (step ∙ ap (λ b. cond b (hints_of renewed g hs) (k.0 ∷ hints_of renewed (neg_ℤ l ∷ g) hs)) new)
              ∙ follow-more news g k.0 (bared vars c) l (hints_of renewed (neg_ℤ l ∷ g) hs) b.3 one (later (neg_ℤ l ∷ g) (alike-both vars set f g l alike bare))

  -- what follows along hints follows along what is left of them
  pub hints-follow : (hints : List ℕ) (f g : List ℤ) → AreAlike vars set f g → follows known f hints ≡ true → follows news g (hints_of renewed g hints) ≡ true
  hints-follow [] f g alike h = absurd (false≢true h)
  hints-follow (id ∷ []) f g alike h = by (clause_of known id) refl h
    where
      by : (o : Option (List ℤ)) → clause_of known id ≡ o → option_map_or (λ c. is_nil (open_lits f c)) o false ≡ true → follows news g (hints_of renewed g (id ∷ [])) ≡ true
      by None is t = absurd (false≢true t)
      by (Some c) is t = last f g [] c (stays renewed id) alike t (all id c is)
  hints-follow (id ∷ id' ∷ hs) f g alike h = by (clause_of known id) refl h (hints-follow (id' ∷ hs))
    where
      unit : (c : List ℤ) → clause_of known id ≡ Some c → (o : Option ℤ) → only_lit (open_lits f c) ≡ o
          → option_map_or (λ l. follows known (neg_ℤ l ∷ f) (id' ∷ hs)) o false ≡ true
          → ((f g : List ℤ) → AreAlike vars set f g → follows known f (id' ∷ hs) ≡ true → follows news g (hints_of renewed g (id' ∷ hs)) ≡ true)
          → follows news g (hints_of renewed g (id ∷ id' ∷ hs)) ≡ true
      unit c is None one t rest = absurd (false≢true t)
      unit c is (Some l) one t rest =
          more f g (id' ∷ hs) c l (stays renewed id) alike (only-parts f c l one) (all id c is) (λ g also. rest (neg_ℤ l ∷ f) g also t)

      by : (o : Option (List ℤ)) → clause_of known id ≡ o
          → option_map_or (λ c. option_map_or (λ l. follows known (neg_ℤ l ∷ f) (id' ∷ hs)) (only_lit (open_lits f c)) false) o false ≡ true
          → ((f g : List ℤ) → AreAlike vars set f g → follows known f (id' ∷ hs) ≡ true → follows news g (hints_of renewed g (id' ∷ hs)) ≡ true)
          → follows news g (hints_of renewed g (id ∷ id' ∷ hs)) ≡ true
      by None is t rest = absurd (false≢true t)
      by (Some c) is t rest = unit c is (only_lit (open_lits f c)) refl t rest
