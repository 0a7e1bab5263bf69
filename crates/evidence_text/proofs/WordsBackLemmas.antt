-- Words that write a value are read as that value.
use Rattle.std.proofs.Common.{◌≡◌, ◌≢◌, ◌⊎◌, ℕ, suc, ◌+◌, ◌-◌, ◌^◌, ◌<◌, ◌≤◌, Bool, true, false, not, ◌||◌, cond, eqb, List, [], ◌∷◌, ◌++◌, map, length, get_or, Option, Some, refl, sym, ◌∙◌, ap, inl, inr, arith}
use Rattle.std.specs.Prelude.{ℤ, pos, negsuc, neg_ℤ, codes, replicate, slice_set, Result, Ok, Err}
use Rattle.std.specs.Option.{option_map, option_map_or}
use Rattle.std.specs.List.{fold, AllByRecursion}
use Rattle.std.specs.Fmt.{decimal, signed_decimal}
use Rattle.std.specs.Str.{all_ascii_digits, bytes_eq}
use Rattle.std.specs.Str.Parse.{digits_value}
use Rattle.std.proofs.lemmas.Bool.{cases_Bool, cases_eq, and_from, or_left, or_right, eq-eqb, ne_eqb}
use Rattle.std.proofs.lemmas.Fmt.{digits_decimal, digits_value-decimal, decimal_nonempty, decimal_digit, first_decimal}
use Rattle.std.proofs.lemmas.Slice.Eq.{bytes_eq-Decides}
use Rattle.std.proofs.lemmas.Str.Parse.{IsNumeralModel, numerals_by_value, tells_all_ascii_digits}
use Rattle.sat_base.specs.Literals.{IsLiteral}
use Rattle.sat_base.specs.Derivation.{Step, max_id}
use Rattle.gm_base.specs.Sets.{AscendsAbove}
use Rattle.lrat_check.specs.declared.why.Why.{Why}
use Rattle.lrat_check.specs.declared.why.Why.TheVariants.{BadLine, BadNumber}
use Rattle.evidence_text.specs.declared.goal.Goal.{Goal}
use Rattle.evidence_text.specs.declared.goal.Goal.TheVariants.{Refutes, Exhausts}
use Rattle.evidence_text.specs.Text.{Word, step_line, witness_line, trues_from}
use Rattle.evidence_text.specs.Reading.{◌>>=◌, is_number, number_in, literal_in, word_at, number_at, items_at, ascending_at, line_end, behind, set_at, step_at, values_of, witness_at, goal_at, last_word_at}
use Rattle.evidence_text.specs.Readable.{IsId, IsReadableStep, IsSetUpTo}
use Rattle.evidence_text.proofs.NumberLemmas.{number_in-is, word-zero}
use Rattle.evidence_text.proofs.WordsLemmas.{goal_words, IsSmallGoal, set-at, fold-behind, above-all}

-- what was read goes on to what is read behind it
pub bind-back : {A B E : Type 0} (r : Result A E) (f : A → Result B E) (x : A) (y : Result B E) → r ≡ Ok x → f x ≡ y → (r >>= f) ≡ y
bind-back r f x y is then = ap (λ q. q >>= f) is ∙ then

-- ---- numbers

own : IsNumeralModel (λ ds. all_ascii_digits ds ≡ true) (digits_value 10)
own = numerals_by_value _ tells_all_ascii_digits

is_number-from : (w : Word) → all_ascii_digits w ≡ true → 0 < length w → (length w ≡ 1) ⊎ (48 < get_or w 0 0) → is_number w ≡ true
is_number-from [] digits some lead = absurd (omega arith)
is_number-from (b ∷ bs) digits some lead =
    and_from (all_ascii_digits (b ∷ bs)) (eqb (length bs) 0 || not (eqb b 48)) digits (by lead)
  where
    by : (length (b ∷ bs) ≡ 1) ⊎ (48 < b) → (eqb (length bs) 0 || not (eqb b 48)) ≡ true
    by (inl one) = or_left (eqb (length bs) 0) (not (eqb b 48)) (eq-eqb (length bs) 0 (omega (arith, one)))
    by (inr above) = or_right (eqb (length bs) 0) (not (eqb b 48)) (ap not (ne_eqb b 48 (λ e. omega (arith, e, above))))

-- a number's digits have the form of one
decimal-is_number : (n : ℕ) → n < 2 ^ 64 → is_number (decimal n) ≡ true
decimal-is_number n small =
    is_number-from (decimal n) (digits_decimal own n small) (decimal_nonempty n small) (lead (cases_eq n 0))
  where
    lead : (n ≡ 0) ⊎ (n ≢ 0) → (length (decimal n) ≡ 1) ⊎ (48 < get_or (decimal n) 0 0)
    lead (inl none) = inl (ap (λ k. length (decimal k)) none ∙ ap length (decimal_digit 0 (omega arith)))
    lead (inr some) = inr (first_decimal n (omega (arith, some)) small)

-- a number is read back from its digits
pub number_in-decimal : (low high n : ℕ) → n < 2 ^ 64 → low ≤ n → n ≤ high → number_in low high (decimal n) ≡ Some n
number_in-decimal low high n small lo hi =
    number_in-is low high (decimal n) n
    (record { number = decimal-is_number n small; value = digits_value-decimal own n small; low_le = lo; le_high = hi })

pub decimal-not_zero : (n : ℕ) → n < 2 ^ 64 → 1 ≤ n → bytes_eq (decimal n) (codes "0") ≡ false
decimal-not_zero n small some =
    word-zero (decimal n) n n (number_in-decimal 0 n n small (omega arith) (omega arith)) ∙ ne_eqb n 0 (λ e. omega (arith, e, some))

zero_is : bytes_eq (codes "0") (codes "0") ≡ true
zero_is = (bytes_eq-Decides (codes "0") (codes "0")).1 refl

-- ---- literals

literal_in-plain : (vars : ℕ) (w : Word) → get_or w 0 0 ≢ 45 → literal_in vars w ≡ option_map (λ v. pos v) (number_in 1 vars w)
literal_in-plain vars [] other = refl
literal_in-plain vars (b ∷ bs) other =
    ap (λ t. cond t (option_map (λ v. neg_ℤ (pos v)) (number_in 1 vars bs)) (option_map (λ v. pos v) (number_in 1 vars (b ∷ bs)))) (ne_eqb b 45 other)

literal_in-decimal : (vars : ℕ) (x : ℤ) → vars < 2 ^ 64 → IsLiteral vars x → literal_in vars (signed_decimal x) ≡ Some x
literal_in-decimal vars (pos v) small is =
    let some : 0 < v = is.not_zero in
    let high : v ≤ vars = is.in_range in
    literal_in-plain vars (decimal v) (λ e. omega (arith, e, first_decimal v some (omega arith)))
    ∙ ap (λ (o : Option ℕ). option_map (λ k. pos k) o) (number_in-decimal 1 vars v (omega arith) (omega arith) high)
literal_in-decimal vars (negsuc k) small is =
    let high : suc k ≤ vars = is.in_range in
    ap (λ (o : Option ℕ). option_map (λ v. neg_ℤ (pos v)) o) (number_in-decimal 1 vars (suc k) (omega arith) (omega arith) high)

literal-not_zero : (vars : ℕ) (x : ℤ) → vars < 2 ^ 64 → IsLiteral vars x → bytes_eq (signed_decimal x) (codes "0") ≡ false
literal-not_zero vars (pos v) small is =
    let some : 0 < v = is.not_zero in
    let high : v ≤ vars = is.in_range in decimal-not_zero v (omega arith) (omega arith)
literal-not_zero vars (negsuc k) small is =
    elim (cases_Bool (bytes_eq (45 ∷ decimal (suc k)) (codes "0"))) [
      | inl same ↦
          let first : 45 ≡ 48 = ap (λ (w : Word). get_or w 0 0) ((bytes_eq-Decides (45 ∷ decimal (suc k)) (codes "0")).0 same) in
          absurd (omega (arith, first))
      | inr differs ↦ differs
    ]

-- ---- words of a line

pub number-back : (low high n : ℕ) (rest : List Word) → n < 2 ^ 64 → low ≤ n → n ≤ high → number_at low high (decimal n ∷ rest) ≡ Ok (n, rest)
number-back low high n rest small lo hi =
    ap (λ (o : Option ℕ). option_map_or (λ k. Ok (k, rest)) o (Err BadNumber)) (number_in-decimal low high n small lo hi)

pub word-back : (due : Word) (rest : List Word) → word_at due (due ∷ rest) ≡ Ok rest
word-back due rest = ap (λ t. cond t (Ok rest) (Err BadLine)) ((bytes_eq-Decides due due).1 refl)

-- items, and 0 behind them
items-back : {X : Type 0} (item : Word → Option X) (write : X → Word) (P : X → Type 0)
    → ((x : X) → P x → (item (write x) ≡ Some x) × (bytes_eq (write x) (codes "0") ≡ false)) → (xs : List X) (rest : List Word)
    → AllByRecursion P xs → items_at item (map write xs ++ codes "0" ∷ rest) ≡ Ok (xs, rest)
items-back {X} item write P reads [] rest all =
    ap (λ t. cond t (Ok ([], rest)) (option_map_or (λ (x : X). items_at item rest >>= λ r. Ok (x ∷ r.0, r.1)) (item (codes "0")) (Err BadNumber))) zero_is
items-back {X} item write P reads (x ∷ xs) rest all =
    let ws : List Word = map write xs ++ codes "0" ∷ rest in
    let (is, other) = reads x all.0 in
    ap (λ t. cond t (Ok ([], ws)) (option_map_or (λ (y : X). items_at item ws >>= λ r. Ok (y ∷ r.0, r.1)) (item (write x)) (Err BadNumber))) other
    ∙ ap (λ (o : Option X). option_map_or (λ (y : X). items_at item ws >>= λ r. Ok (y ∷ r.0, r.1)) o (Err BadNumber)) is
    ∙ ap (λ (read : Result (List X × List Word) Why). read >>= λ r. Ok (x ∷ r.0, r.1)) (items-back item write P reads xs rest all.1)

ascending-back : (low high : ℕ) (xs : List ℕ) (rest : List Word) → high < 2 ^ 64 → AscendsAbove low xs → AllByRecursion (λ g. g ≤ high) xs
    → ascending_at low high (map decimal xs ++ codes "0" ∷ rest) ≡ Ok (xs, rest)
ascending-back low high [] rest small up all =
    ap (λ t. cond t (Ok ([], rest)) (option_map_or (λ (n : ℕ). ascending_at n high rest >>= λ r. Ok (n ∷ r.0, r.1)) (number_in (low + 1) high (codes "0")) (Err BadNumber)))
    zero_is
ascending-back low high (x ∷ xs) rest small up all =
    let above : low < x = up.0 in
    let le : x ≤ high = all.0 in
    let ws : List Word = map decimal xs ++ codes "0" ∷ rest in
    ap (λ t. cond t (Ok ([], ws)) (option_map_or (λ (n : ℕ). ascending_at n high ws >>= λ r. Ok (n ∷ r.0, r.1)) (number_in (low + 1) high (decimal x)) (Err BadNumber)))
    (decimal-not_zero x (omega arith) (omega arith))
    ∙ ap (λ (o : Option ℕ). option_map_or (λ (n : ℕ). ascending_at n high ws >>= λ r. Ok (n ∷ r.0, r.1)) o (Err BadNumber))
    (number_in-decimal (low + 1) high x (omega arith) (omega arith) le)
    ∙ ap (λ (read : Result (List ℕ × List Word) Why). read >>= λ r. Ok (x ∷ r.0, r.1)) (ascending-back x high xs rest small up.1 all.1)

-- ---- whole lines, behind their letter

pub set-back : (groups : ℕ) (set : List ℕ) → groups < 2 ^ 64 → IsSetUpTo groups set → set_at groups (map decimal set ++ codes "0" ∷ []) ≡ Ok set
unfolding set_at
set-back groups set small ok =
    bind-back (ascending_at 0 groups (map decimal set ++ codes "0" ∷ [])) (λ r. line_end r.0 r.1) (set, []) (Ok set)
    (ascending-back 0 groups set [] small ok.ascends ok.in_range) refl

pub step-back : (vars : ℕ) (s : Step) → vars < 2 ^ 64 → IsReadableStep vars s → step_at vars (behind (step_line s)) ≡ Ok s
unfolding step_at
step-back vars s small ok =
    let hints : List Word = map decimal s.hints ++ codes "0" ∷ [] in
    let lits : List Word = map signed_decimal s.lits ++ codes "0" ∷ hints in
    let lo = ok.id.from_one in
    let hi = ok.id.in_range in
    bind-back _ _ (s.id, lits) _ (number-back 1 max_id s.id lits (omega arith) lo hi)
    (bind-back _ _ (s.lits, hints) _
    (items-back (literal_in vars) signed_decimal (IsLiteral vars) (λ x is. (literal_in-decimal vars x small is, literal-not_zero vars x small is)) s.lits hints ok.lits)
    (bind-back _ _ (s.hints, []) _ (items-back (number_in 1 max_id) decimal IsId hint s.hints [] ok.hints) refl))
  where
    hint : (x : ℕ) → IsId x → (number_in 1 max_id (decimal x) ≡ Some x) × (bytes_eq (decimal x) (codes "0") ≡ false)
    hint x is =
        let lo = is.from_one in
        let hi = is.in_range in
        (number_in-decimal 1 max_id x (omega arith) lo hi, decimal-not_zero x (omega arith) lo)

pub goal-back : (goal : Goal) (id : ℕ) → IsSmallGoal goal → IsId id → goal_at goal (goal_words goal id) ≡ Ok id
unfolding goal_at
goal-back (Refutes g) id few ok =
    let lo = ok.from_one in
    let hi = ok.in_range in
    bind-back _ _ (g, decimal id ∷ []) _ (number-back g g g (decimal id ∷ []) few (omega arith) (omega arith))
    (bind-back _ _ (id, []) _ (number-back 1 max_id id [] (omega arith) lo hi) refl)
goal-back Exhausts id few ok =
    let lo = ok.from_one in
    let hi = ok.in_range in
    bind-back _ _ (id, []) _ (number-back 1 max_id id [] (omega arith) lo hi) refl

pub last_word-back : (due : Word) → last_word_at due (due ∷ []) ≡ Ok tt
unfolding last_word_at
last_word-back due = bind-back _ _ [] _ (word-back due []) refl

-- ---- witnesses

AscendsAbove-less : (low lower : ℕ) (xs : List ℕ) → lower ≤ low → AscendsAbove low xs → AscendsAbove lower xs
AscendsAbove-less low lower [] le up = tt
AscendsAbove-less low lower (x ∷ xs) le up = let above = up.0 in (omega arith, up.1)

-- the variables that are true ascend
pub trues-ascend : (v : ℕ) (w : List Bool) → AscendsAbove v (trues_from (v + 1) w)
trues-ascend v [] = tt
trues-ascend v (true ∷ w) = (omega arith, trues-ascend (v + 1) w)
trues-ascend v (false ∷ w) = AscendsAbove-less (v + 1) v (trues_from (v + 1 + 1) w) (omega arith) (trues-ascend (v + 1) w)

pub trues-in_range : (v high : ℕ) (w : List Bool) → v + length w ≤ high → AllByRecursion (λ t. t ≤ high) (trues_from (v + 1) w)
trues-in_range v high [] le = tt
trues-in_range v high (true ∷ w) le = (omega arith, trues-in_range (v + 1) high w (omega arith))
trues-in_range v high (false ∷ w) le = trues-in_range (v + 1) high w (omega arith)

-- an assignment is that which makes just its own true variables true
values-back : (v : ℕ) (w : List Bool) → fold (set-at v) (replicate (length w) false) (trues_from (v + 1) w) ≡ w
values-back v [] = refl
values-back v (true ∷ w) =
    let ts : List ℕ = trues_from (v + 1 + 1) w in
    let place : v + 1 - (v + 1) ≡ 0 = omega arith in
    ap (λ (i : ℕ). fold (set-at v) (slice_set (false ∷ replicate (length w) false) i true) ts) place
    ∙ fold-behind v true (replicate (length w) false) ts (above-all (v + 1) ts (trues-ascend (v + 1) w))
    ∙ ap (λ (bs : List Bool). true ∷ bs) (values-back (v + 1) w)
values-back v (false ∷ w) =
    let ts : List ℕ = trues_from (v + 1 + 1) w in
    fold-behind v false (replicate (length w) false) ts (above-all (v + 1) ts (trues-ascend (v + 1) w))
    ∙ ap (λ (bs : List Bool). false ∷ bs) (values-back (v + 1) w)

pub witness-back : (vars g : ℕ) (w : List Bool) → vars < 2 ^ 64 → g < 2 ^ 64 → length w ≡ vars → witness_at vars g (behind (witness_line g w)) ≡ Ok w
unfolding witness_at
witness-back vars g w small few len =
    let words : List Word = map decimal (trues_from 1 w) ++ codes "0" ∷ [] in
    bind-back _ _ (g, words) _ (number-back g g g words few (omega arith) (omega arith))
    (bind-back _ _ (trues_from 1 w, []) _
    (ascending-back 0 vars (trues_from 1 w) [] small (trues-ascend 0 w) (trues-in_range 0 vars w (omega (arith, len))))
    (ap (λ (values : List Bool). Ok values) (ap (λ (n : ℕ). values_of n (trues_from 1 w)) (sym len) ∙ values-back 0 w)))
