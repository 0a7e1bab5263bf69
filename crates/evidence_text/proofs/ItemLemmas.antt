-- What is read of the next word: a number, an item of a list, or the 0 behind the items.
use Rattle.std.proofs.Common.{◌≡◌, ◌≢◌, ℕ, suc, ◌+◌, ◌-◌, ◌^◌, ◌<◌, ◌≤◌, Bool, true, false, ◌&&◌, cond, eqb, List, [], ◌∷◌, length, get_or, drop, refl, sym, ◌∙◌, ap, subst, arith, inl, inr, Option, Some, None, Result, Ok, Err}
use Rattle.std.proofs.lemmas.Bool.{ne_eqb, and_right, cases_lt}
use Rattle.std.proofs.lemmas.List.{get_or_past}
use Rattle.evidence_text.specs.Lines.{is_blank}
use Rattle.std.specs.Prelude.{ℤ, pos, neg_ℤ, nat_lt, nat_le}
use Rattle.std.specs.Option.{option_map, option_map_or}
use Rattle.lrat_check.specs.declared.why.Why.{Why}
use Rattle.lrat_check.specs.declared.why.Why.TheVariants.{BadNumber}
use Rattle.evidence_text.specs.Text.{Word}
use Rattle.evidence_text.specs.Scan.{word_from}
use Rattle.evidence_text.specs.Items.{within, item_of, literal_item_of}
use Rattle.evidence_text.specs.Reading.{number_in, literal_in, number_at, items_at, ascending_at}
use Rattle.evidence_text.specs.Cursors.{words_behind, with_item, ReadsItem, ReadsAscending}
use Rattle.evidence_text.proofs.NumberLemmas.{number_in-within, word-zero, word-none}
use Rattle.evidence_text.proofs.WordLemmas.{words_behind-first, word_from-inner, word_from-head}

abbrev pub most : ℕ
most = 2 ^ 64 - 1

-- the next word and those behind it, where it ends here
pub words-next : (rest : List ℕ) (end : ℕ) → 0 < length rest → end ≡ 1 + length (word_from rest 1)
    → words_behind rest ≡ word_from rest 1 ∷ words_behind (drop end rest)
words-next rest end h ends = words_behind-first rest h ∙ ap (λ n. word_from rest 1 ∷ words_behind (drop n rest)) (sym ends)

-- a number is read
pub number-read : (rest : List ℕ) (low high end : ℕ) (number o : Option ℕ) → 0 < length rest → high ≤ most → end ≡ 1 + length (word_from rest 1)
    → number ≡ number_in 0 most (word_from rest 1) → o ≡ within low high number
    → number_at low high (words_behind rest) ≡ option_map_or (λ n. Ok (n, words_behind (drop end rest))) o (Err BadNumber)
number-read rest low high end number o h small ends is narrowed =
    ap (number_at low high) (words-next rest end h ends)
    ∙ ap (λ (p : Option ℕ). option_map_or (λ n. Ok (n, words_behind (drop end rest))) p (Err BadNumber))
    (sym (number_in-within low high most (word_from rest 1) small) ∙ ap (within low high) (sym is) ∙ sym narrowed)

-- where the next word writes no number, and where it does
ascending-none : (w : Word) (ws : List Word) (last high : ℕ) → high ≤ most → number_in 0 most w ≡ None → ascending_at last high (w ∷ ws) ≡ Err BadNumber
ascending-none w ws last high small is =
    ap (λ t. cond t (Ok ([], ws)) (option_map_or (λ n. with_item n (ascending_at n high ws)) (number_in (last + 1) high w) (Err BadNumber))) (word-none w most is)
    ∙ ap (λ (p : Option ℕ). option_map_or (λ n. with_item n (ascending_at n high ws)) p (Err BadNumber))
    (sym (number_in-within (last + 1) high most w small) ∙ ap (within (last + 1) high) is)

ascending-some : (w : Word) (ws : List Word) (last high n : ℕ) → high ≤ most → number_in 0 most w ≡ Some n
    → ascending_at last high (w ∷ ws)
    ≡ cond (eqb n 0) (Ok ([], ws)) (option_map_or (λ n. with_item n (ascending_at n high ws)) (cond (nat_lt last n && nat_le n high) (Some n) None) (Err BadNumber))
ascending-some w ws last high n small is =
    let above : last + 1 ≡ suc last = omega arith in
    let strict : nat_le (last + 1) n ≡ nat_lt last n = ap (λ k. nat_le k n) above in
    ap (λ t. cond t (Ok ([], ws)) (option_map_or (λ n. with_item n (ascending_at n high ws)) (number_in (last + 1) high w) (Err BadNumber))) (word-zero w most n is)
    ∙ ap (λ (p : Option ℕ). cond (eqb n 0) (Ok ([], ws)) (option_map_or (λ n. with_item n (ascending_at n high ws)) p (Err BadNumber)))
    (sym (number_in-within (last + 1) high most w small) ∙ ap (within (last + 1) high) is ∙ ap (λ t. cond (t && nat_le n high) (Some n) None) strict)

ascending-told : (w : Word) (ws : List Word) (last high n : ℕ) (z t : Bool)
    → ascending_at last high (w ∷ ws) ≡ cond z (Ok ([], ws)) (option_map_or (λ n. with_item n (ascending_at n high ws)) (cond t (Some n) None) (Err BadNumber))
    → ReadsAscending (cond z (Ok None) (cond t (Ok (Some n)) (Err BadNumber))) last high (w ∷ ws) ws
ascending-told w ws last high n true t e = e
ascending-told w ws last high n false true e = e
ascending-told w ws last high n false false e = e

ascending-step : (w : Word) (ws : List Word) (last high : ℕ) (number : Option ℕ) → high ≤ most → number_in 0 most w ≡ number
    → ReadsAscending (item_of last high number) last high (w ∷ ws) ws
ascending-step w ws last high None small is = ascending-none w ws last high small is
ascending-step w ws last high (Some n) small is =
    ascending-told w ws last high n (eqb n 0) (nat_lt last n && nat_le n high) (ascending-some w ws last high n small is)

pub ascending-read : (rest : List ℕ) (last high end : ℕ) (number : Option ℕ) (r : Result (Option ℕ) Why) → 0 < length rest → high ≤ most
    → end ≡ 1 + length (word_from rest 1) → number ≡ number_in 0 most (word_from rest 1) → r ≡ item_of last high number
    → ReadsAscending r last high (words_behind rest) (words_behind (drop end rest))
ascending-read rest last high end number r h small ends is told =
    let P : List Word → Type 0 = λ ws. ReadsAscending r last high ws (words_behind (drop end rest)) in
    let Q : Result (Option ℕ) Why → Type 0 = λ q. ReadsAscending q last high (word_from rest 1 ∷ words_behind (drop end rest)) (words_behind (drop end rest)) in
    subst P (sym (words-next rest end h ends))
    (subst Q (sym told) (ascending-step (word_from rest 1) (words_behind (drop end rest)) last high number small (sym is)))

-- ---- items

items-told : {Y : Type 0} (view : ℕ → Y) (item : Word → Option Y) (w : Word) (ws : List Word) (n : ℕ) (z t : Bool)
    → items_at item (w ∷ ws) ≡ cond z (Ok ([], ws)) (option_map_or (λ y. with_item y (items_at item ws)) (cond t (Some (view n)) None) (Err BadNumber))
    → ReadsItem view (cond z (Ok None) (cond t (Ok (Some n)) (Err BadNumber))) item (w ∷ ws) ws
items-told view item w ws n true t e = e
items-told view item w ws n false true e = e
items-told view item w ws n false false e = e

items-step : (w : Word) (ws : List Word) (high : ℕ) (number : Option ℕ) → high ≤ most → number_in 0 most w ≡ number
    → ReadsItem (λ n. n) (item_of 0 high number) (number_in 1 high) (w ∷ ws) ws
items-step w ws high None small is =
    ap (λ t. cond t (Ok ([], ws)) (option_map_or (λ n. with_item n (items_at (number_in 1 high) ws)) (number_in 1 high w) (Err BadNumber))) (word-none w most is)
    ∙ ap (λ (p : Option ℕ). option_map_or (λ n. with_item n (items_at (number_in 1 high) ws)) p (Err BadNumber))
    (sym (number_in-within 1 high most w small) ∙ ap (within 1 high) is)
items-step w ws high (Some n) small is =
    items-told (λ n. n) (number_in 1 high) w ws n (eqb n 0) (nat_lt 0 n && nat_le n high)
    (ap (λ t. cond t (Ok ([], ws)) (option_map_or (λ n. with_item n (items_at (number_in 1 high) ws)) (number_in 1 high w) (Err BadNumber))) (word-zero w most n is)
    ∙ ap (λ (p : Option ℕ). cond (eqb n 0) (Ok ([], ws)) (option_map_or (λ n. with_item n (items_at (number_in 1 high) ws)) p (Err BadNumber)))
    (sym (number_in-within 1 high most w small) ∙ ap (within 1 high) is))

pub items-read : (rest : List ℕ) (last high end : ℕ) (number : Option ℕ) (r : Result (Option ℕ) Why) → 0 < length rest → high ≤ most
    → end ≡ 1 + length (word_from rest 1) → number ≡ number_in 0 most (word_from rest 1) → r ≡ item_of last high number → last ≡ 0
    → ReadsItem (λ n. n) r (number_in 1 high) (words_behind rest) (words_behind (drop end rest))
items-read rest last high end number r h small ends is told first =
    let P : List Word → Type 0 = λ ws. ReadsItem (λ n. n) r (number_in 1 high) ws (words_behind (drop end rest)) in
    let Q : Result (Option ℕ) Why → Type 0 = λ q. ReadsItem (λ n. n) q (number_in 1 high) (word_from rest 1 ∷ words_behind (drop end rest)) (words_behind (drop end rest)) in
    subst P (sym (words-next rest end h ends))
    (subst Q (sym (told ∙ ap (λ k. item_of k high number) first)) (items-step (word_from rest 1) (words_behind (drop end rest)) high number small (sym is)))

-- ---- literals

literal-told : (vars : ℕ) (w : Word) (ws : List Word) (l : ℤ) (z t : Bool)
    → items_at (literal_in vars) (w ∷ ws) ≡ cond z (Ok ([], ws)) (option_map_or (λ y. with_item y (items_at (literal_in vars) ws)) (cond t (Some l) None) (Err BadNumber))
    → ReadsItem (λ l. l) (cond z (Ok None) (cond t (Ok (Some l)) (Err BadNumber))) (literal_in vars) (w ∷ ws) ws
literal-told vars w ws l true t e = e
literal-told vars w ws l false true e = e
literal-told vars w ws l false false e = e

-- a mapped number, where it is in the range
map-cond : (f : ℕ → ℤ) (t : Bool) (n : ℕ) → option_map f (cond t (Some n) None) ≡ cond t (Some (f n)) None
map-cond f true n = refl
map-cond f false n = refl

negated-step : (vars : ℕ) (v : Word) (ws : List Word) (number : Option ℕ) → vars ≤ most → number_in 0 most v ≡ number
    → ReadsItem (λ l. l) (literal_item_of true vars number) (literal_in vars) ((45 ∷ v) ∷ ws) ws
negated-step vars v ws None small is =
    ap (λ (p : Option ℕ). option_map_or (λ y. with_item y (items_at (literal_in vars) ws)) (option_map (λ v. neg_ℤ (pos v)) p) (Err BadNumber))
    (sym (number_in-within 1 vars most v small) ∙ ap (within 1 vars) is)
negated-step vars v ws (Some n) small is =
    let read = ap (λ (p : Option ℤ). option_map_or (λ y. with_item y (items_at (literal_in vars) ws)) p (Err BadNumber))
    (ap (option_map (λ v. neg_ℤ (pos v))) (sym (number_in-within 1 vars most v small) ∙ ap (within 1 vars) is) ∙ map-cond (λ v. neg_ℤ (pos v)) (nat_lt 0 n && nat_le n vars) n) in
    rw (and_right (eqb n 0) false refl) (literal-told vars (45 ∷ v) ws (neg_ℤ (pos n)) false (nat_lt 0 n && nat_le n vars) read)

-- a word that does not begin with `-`
plain-literal : (vars : ℕ) (w : Word) → get_or w 0 0 ≢ 45 → literal_in vars w ≡ option_map (λ v. pos v) (number_in 1 vars w)
plain-literal vars [] h = refl
plain-literal vars (b ∷ bs) h =
    ap (λ t. cond t (option_map (λ v. neg_ℤ (pos v)) (number_in 1 vars bs)) (option_map (λ v. pos v) (number_in 1 vars (b ∷ bs)))) (ne_eqb b 45 h)

plain-step : (vars : ℕ) (w : Word) (ws : List Word) (number : Option ℕ) → get_or w 0 0 ≢ 45 → vars ≤ most → number_in 0 most w ≡ number
    → ReadsItem (λ l. l) (literal_item_of false vars number) (literal_in vars) (w ∷ ws) ws
plain-step vars w ws None h small is =
    ap (λ t. cond t (Ok ([], ws)) (option_map_or (λ y. with_item y (items_at (literal_in vars) ws)) (literal_in vars w) (Err BadNumber))) (word-none w most is)
    ∙ ap (λ (p : Option ℤ). option_map_or (λ y. with_item y (items_at (literal_in vars) ws)) p (Err BadNumber))
    (plain-literal vars w h ∙ ap (option_map (λ v. pos v)) (sym (number_in-within 1 vars most w small) ∙ ap (within 1 vars) is))
plain-step vars w ws (Some n) h small is =
    let read = ap (λ t. cond t (Ok ([], ws)) (option_map_or (λ y. with_item y (items_at (literal_in vars) ws)) (literal_in vars w) (Err BadNumber))) (word-zero w most n is)
    ∙ ap (λ (p : Option ℤ). cond (eqb n 0) (Ok ([], ws)) (option_map_or (λ y. with_item y (items_at (literal_in vars) ws)) p (Err BadNumber)))
    (plain-literal vars w h ∙ ap (option_map (λ v. pos v)) (sym (number_in-within 1 vars most w small) ∙ ap (within 1 vars) is)
    ∙ map-cond (λ v. pos v) (nat_lt 0 n && nat_le n vars) n) in
    rw (and_true_right (eqb n 0)) (literal-told vars w ws (pos n) (eqb n 0) (nat_lt 0 n && nat_le n vars) read)
  where
    and_true_right : (t : Bool) → (t && true) ≡ t
    and_true_right true = refl
    and_true_right false = refl

-- a literal is read, behind `-`
pub negated-read : (rest : List ℕ) (vars end : ℕ) (number : Option ℕ) (r : Result (Option ℤ) Why) → vars ≤ most → 1 < length rest → get_or rest 1 0 ≡ 45
    → end ≡ 2 + length (word_from rest 2) → number ≡ number_in 0 most (word_from rest 2) → r ≡ literal_item_of true vars number
    → ReadsItem (λ l. l) r (literal_in vars) (words_behind rest) (words_behind (drop end rest))
negated-read rest vars end number r small h minus ends is told =
    let word : word_from rest 1 ≡ 45 ∷ word_from rest 2 =
    word_from-inner rest 1 h (ap is_blank minus) ∙ ap (λ b. b ∷ word_from rest 2) minus in
    let P : List Word → Type 0 = λ ws. ReadsItem (λ l. l) r (literal_in vars) ws (words_behind (drop end rest)) in
    let Q : Result (Option ℤ) Why → Type 0 = λ q. ReadsItem (λ l. l) q (literal_in vars) ((45 ∷ word_from rest 2) ∷ words_behind (drop end rest)) (words_behind (drop end rest)) in
    subst P (sym (words-next rest end (omega (arith, h)) (omega (arith, ends, ap length word)) ∙ ap (λ (w : Word). w ∷ words_behind (drop end rest)) word))
    (subst Q (sym told) (negated-step vars (word_from rest 2) (words_behind (drop end rest)) number small (sym is)))

-- or without
pub plain-read : (rest : List ℕ) (vars end : ℕ) (number : Option ℕ) (r : Result (Option ℤ) Why) → vars ≤ most → 0 < length rest → get_or rest 1 0 ≢ 45
    → end ≡ 1 + length (word_from rest 1) → number ≡ number_in 0 most (word_from rest 1) → r ≡ literal_item_of false vars number
    → ReadsItem (λ l. l) r (literal_in vars) (words_behind rest) (words_behind (drop end rest))
plain-read rest vars end number r small h other ends is told =
    let P : List Word → Type 0 = λ ws. ReadsItem (λ l. l) r (literal_in vars) ws (words_behind (drop end rest)) in
    let Q : Result (Option ℤ) Why → Type 0 = λ q. ReadsItem (λ l. l) q (literal_in vars) (word_from rest 1 ∷ words_behind (drop end rest)) (words_behind (drop end rest)) in
    subst P (sym (words-next rest end h ends))
    (subst Q (sym told) (plain-step vars (word_from rest 1) (words_behind (drop end rest)) number first small (sym is)))
  where
    first : get_or (word_from rest 1) 0 0 ≢ 45
    first e = elim (cases_lt 0 (length (word_from rest 1))) [
      | inl some ↦ other (sym (word_from-head rest 1 some) ∙ e)
      | inr none ↦ absurd (omega (arith, e, get_or_past (word_from rest 1) 0 0 none))
    ]
