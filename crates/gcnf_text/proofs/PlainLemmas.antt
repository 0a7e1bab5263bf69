-- The tokens of a plain text, from its end to its start: each word is cut off where a blank, LF or a brace comes behind it.
use Rattle.std.proofs.Common.{◌≡◌, ℕ, suc, ◌+◌, ◌^◌, ◌<◌, ◌≤◌, true, false, ◌&&◌, cond, eqb, List, [], ◌∷◌, ◌++◌, map, length, take, drop, min, refl, sym, ◌∙◌, ap, subst, arith, inr, Some, None, ℤ, pos, negsuc, codes, append_assoc}
use Rattle.std.specs.Prelude.{nat_lt, neg_ℤ, Option, slice_get}
use Rattle.std.specs.List.{AllByRecursion, flat_map, take_while}
use Rattle.std.specs.Option.{option_map_or}
use Rattle.std.specs.Fmt.{decimal, signed_decimal}
use Rattle.std.specs.Str.{all_ascii_digits}
use Rattle.std.specs.Str.Parse.{AllDigits, digits_value}
use Rattle.std.proofs.Math.Seq.{drop-append_seam}
use Rattle.std.proofs.lemmas.Grind.{common_steps}
use Rattle.std.proofs.lemmas.Bool.{cond-false, lt-ltb}
use Rattle.std.proofs.lemmas.Bool.Decides.{nat_tests}
use Rattle.std.proofs.lemmas.List.{flat_map_more, take_more}
use Rattle.std.proofs.lemmas.List.Sums.{take_while-cons}
use Rattle.std.proofs.lemmas.Option.{get_or_from_slice_get, slice_get_within}
use Rattle.std.proofs.lemmas.Fmt.{decimal_is_IsNumeral, decimal_nonempty, digits_decimal, digits_value-decimal}
use Rattle.std.proofs.lemmas.Str.Parse.{IsNumeralModel, digit_from_value, numerals_by_value, tells_all_ascii_digits}
use Rattle.token_text.specs.Kinds.{Kind, Word, Number, OpenBrace, CloseBrace, greatest, kind_of, value_of}
use Rattle.token_text.specs.Tokens.{is_brace, is_plain, is_space, token_bytes, tokens_of}
use Rattle.token_text.specs.Left.{Left}
use Rattle.token_text.specs.Cursor.{left_from}
use Rattle.token_text.specs.declared.cursor.Before.{Before}
use Rattle.token_text.specs.declared.cursor.Before.TheVariants.{Blanks, Others, Comment}
use Rattle.token_text.proofs.NumberLemmas.{kind_of-plain, no_brace}
use Rattle.token_text.proofs.LineLemmas.{no_space}
use Rattle.token_text.proofs.CursorLemmas.{is_taken, left_from-blank, left_from-end, left_from-newline, left_from-solid, left_from-start}
use Rattle.gm_base.specs.declared.clause.Clause.{Clause}
use Rattle.gm_base.specs.Problem.{Problem, IsClause, IsProblem}
use Rattle.sat_base.specs.Literals.{AreLiterals, IsLiteral}
use Rattle.gcnf_text.specs.declared.form.Form.TheVariants.{Gcnf}
use Rattle.gcnf_text.specs.Grammar.{IsWithinLimits, clause_kinds, kinds_of, problem_kinds}
use Rattle.gcnf_text.specs.Plain.{clause_line, literals_text, plain_text}

-- ---- what bytes spell

-- outside a comment the bytes are read as tokens of these kinds, wherever they stand
abbrev Spells : List ℕ → List Kind → Type 0
Spells bytes kinds =
    (before : Before) (line byte : ℕ) → (before ≡ Comment → ⊥) → kinds_of (left_from before line byte bytes).tokens ≡ kinds

abbrev kinds_left : Left → List Kind
kinds_left left = kinds_of left.tokens

spells-nothing : Spells [] []
spells-nothing before line byte outside = ap kinds_left (left_from-end before line byte)

spells-blank : (rest : List ℕ) (ks : List Kind) → Spells rest ks → Spells (32 ∷ rest) ks
spells-blank rest ks behind before line byte outside =
    ap kinds_left (left_from-blank before line byte 32 rest (inr refl)) ∙ behind before line (byte + 1) outside

spells-newline : (rest : List ℕ) (ks : List Kind) → Spells rest ks → Spells (10 ∷ rest) ks
spells-newline rest ks behind before line byte outside =
    ap kinds_left (left_from-newline before line byte rest) ∙ behind Blanks (line + 1) 1 (λ e. cc)

-- the token that begins here is cut off
spells-token : (b : ℕ) (bs rest : List ℕ) (ks : List Kind) → is_space b ≡ false → eqb b 99 ≡ false
    → token_bytes ((b ∷ bs) ++ rest) ≡ b ∷ bs → Spells rest ks → Spells ((b ∷ bs) ++ rest) (kind_of (b ∷ bs) ∷ ks)
spells-token b bs rest ks solid no_comment cut behind before line byte outside =
    let w : List ℕ = b ∷ bs in
    ap kinds_left (left_from-solid before line byte b (bs ++ rest) solid outside (λ blanks. no_comment))
    ∙ ap kinds_of (is_taken line byte b (bs ++ rest) solid).tokens
    ∙ ap (λ (t : List ℕ). kind_of t ∷ kinds_left (left_from Others line (byte + length t) (drop (length t) (w ++ rest)))) cut
    ∙ ap (λ (r : List ℕ). kind_of w ∷ kinds_left (left_from Others line (byte + length w) r)) (drop-append_seam w rest)
    ∙ ap (λ (ls : List Kind). kind_of w ∷ ls) (behind Others line (byte + length w) (λ e. cc))

spells-open : (rest : List ℕ) (ks : List Kind) → Spells rest ks → Spells (123 ∷ rest) (OpenBrace ∷ ks)
spells-open rest ks behind = spells-token 123 [] rest ks refl refl refl behind

spells-close : (rest : List ℕ) (ks : List Kind) → Spells rest ks → Spells (125 ∷ rest) (CloseBrace ∷ ks)
spells-close rest ks behind = spells-token 125 [] rest ks refl refl refl behind

-- ---- runs

-- plain bytes, of which the first begins no comment
abbrev IsRun : List ℕ → Type 0
IsRun [] = ⊥
IsRun (b ∷ bs) = (eqb b 99 ≡ false) × AllByRecursion (λ c. is_plain c ≡ true) (b ∷ bs)

-- a run ends before these bytes
abbrev EndsRun : List ℕ → Type 0
EndsRun [] = Unit {0}
EndsRun (b ∷ bs) = is_plain b ≡ false

take_while-run : (w rest : List ℕ) → AllByRecursion (λ c. is_plain c ≡ true) w → EndsRun rest → take_while is_plain (w ++ rest) ≡ w
take_while-run [] [] plain ends = refl
take_while-run [] (b ∷ bs) plain ends = take_while-cons is_plain b bs ∙ ap (λ t. cond t (b ∷ take_while is_plain bs) []) ends
take_while-run (c ∷ cs) rest plain ends =
    take_while-cons is_plain c (cs ++ rest)
    ∙ ap (λ t. cond t (c ∷ take_while is_plain (cs ++ rest)) []) plain.0
    ∙ ap (λ (ds : List ℕ). c ∷ ds) (take_while-run cs rest plain.1 ends)

spells-run : (w rest : List ℕ) (k : Kind) (ks : List Kind) → IsRun w → EndsRun rest → kind_of w ≡ k → Spells rest ks → Spells (w ++ rest) (k ∷ ks)
spells-run [] rest k ks run ends is behind = absurd run
spells-run (b ∷ bs) rest k ks run ends is behind =
    let plain : is_plain b ≡ true = run.1.0 in
    let cut : token_bytes ((b ∷ bs) ++ rest) ≡ b ∷ bs =
    cond-false (is_brace b) (b ∷ []) (take_while is_plain ((b ∷ bs) ++ rest)) (no_brace b plain) ∙ take_while-run (b ∷ bs) rest run.1 ends in
    subst (λ (j : Kind). Spells ((b ∷ bs) ++ rest) (j ∷ ks)) is (spells-token b bs rest ks (no_space b plain) run.0 cut behind)

-- ---- numbers

digit-plain : (b : ℕ) → 48 ≤ b → b ≤ 57 → is_plain b ≡ true
digit-plain b low high = grind (arith, common_steps, nat_tests)

digit-no_comment : (b : ℕ) → b ≤ 57 → eqb b 99 ≡ false
digit-no_comment b high = grind (arith, common_steps, nat_tests)

digits-plain : (ds : List ℕ) → AllDigits 10 ds → AllByRecursion (λ c. is_plain c ≡ true) ds
digits-plain [] d = tt
digits-plain (c ∷ cs) d = let is = digit_from_value c d.0 in (digit-plain c (omega (arith, is)) (omega (arith, is)), digits-plain cs d.1)

digits-run : (ds : List ℕ) → AllDigits 10 ds → 0 < length ds → IsRun ds
digits-run [] d some = absurd (omega arith)
digits-run (c ∷ cs) d some = let is = digit_from_value c d.0 in (digit-no_comment c (omega (arith, is)), digits-plain (c ∷ cs) d)

decimal-run : (n : ℕ) → n < 2 ^ 63 → IsRun (decimal n)
decimal-run n small = digits-run (decimal n) (decimal_is_IsNumeral n (omega arith)).0.1 (decimal_nonempty n (omega arith))

own : IsNumeralModel (λ ds. all_ascii_digits ds ≡ true) (digits_value 10)
own = numerals_by_value _ tells_all_ascii_digits

value_of-decimal : (n : ℕ) → n < 2 ^ 63 → value_of (decimal n) ≡ n
value_of-decimal n small =
    let whole : digits_value 10 (decimal n) ≡ n = digits_value-decimal own n (omega arith) in
    let most : n ≤ greatest = omega arith in
    ap (λ v. min v greatest) whole ∙ omega arith

kind_of-digits : (ds : List ℕ) → IsRun ds → all_ascii_digits ds ≡ true → kind_of ds ≡ Number (pos (value_of ds))
kind_of-digits [] run digits = absurd run
kind_of-digits (b ∷ bs) run digits =
    let other : Option ℤ = cond ((eqb b 45 && all_ascii_digits bs) && nat_lt 0 (value_of bs)) (Some (neg_ℤ (pos (value_of bs)))) None in
    kind_of-plain b bs run.1.0
    ∙ ap (λ t. option_map_or Number (cond t (Some (pos (value_of (b ∷ bs)))) other) (Word (b ∷ bs))) digits

kind_of-decimal : (n : ℕ) → n < 2 ^ 63 → kind_of (decimal n) ≡ Number (pos n)
kind_of-decimal n small =
    kind_of-digits (decimal n) (decimal-run n small) (digits_decimal own n (omega arith)) ∙ ap (λ v. Number (pos v)) (value_of-decimal n small)

kind_of-minus : (n : ℕ) → suc n < 2 ^ 63 → kind_of (45 ∷ decimal (suc n)) ≡ Number (negsuc n)
kind_of-minus n small =
    let ds : List ℕ = decimal (suc n) in
    kind_of-plain 45 ds refl
    ∙ ap (λ t. option_map_or Number (cond (t && nat_lt 0 (value_of ds)) (Some (neg_ℤ (pos (value_of ds)))) None) (Word (45 ∷ ds))) (digits_decimal own (suc n) (omega arith))
    ∙ ap (λ v. option_map_or Number (cond (nat_lt 0 v) (Some (neg_ℤ (pos v))) None) (Word (45 ∷ ds))) (value_of-decimal (suc n) small)
    ∙ ap (λ t. option_map_or Number (cond t (Some (neg_ℤ (pos (suc n)))) None) (Word (45 ∷ ds))) (lt-ltb 0 (suc n) (omega arith))

spells-decimal : (n : ℕ) (rest : List ℕ) (ks : List Kind) → n < 2 ^ 63 → EndsRun rest → Spells rest ks → Spells (decimal n ++ rest) (Number (pos n) ∷ ks)
spells-decimal n rest ks small ends behind = spells-run (decimal n) rest (Number (pos n)) ks (decimal-run n small) ends (kind_of-decimal n small) behind

spells-literal : (vars : ℕ) (l : ℤ) (rest : List ℕ) (ks : List Kind) → vars < 2 ^ 63 → IsLiteral vars l → EndsRun rest → Spells rest ks
    → Spells (signed_decimal l ++ rest) (Number l ∷ ks)
spells-literal vars (pos v) rest ks small is ends behind =
    let high : v ≤ vars = is.in_range in spells-decimal v rest ks (omega arith) ends behind
spells-literal vars (negsuc k) rest ks small is ends behind =
    let high : suc k ≤ vars = is.in_range in
    let run : IsRun (45 ∷ decimal (suc k)) = (refl, (refl, digits-plain (decimal (suc k)) (decimal_is_IsNumeral (suc k) (omega arith)).0.1)) in
    spells-run (45 ∷ decimal (suc k)) rest (Number (negsuc k)) ks run ends (kind_of-minus k (omega arith)) behind

-- ---- clauses

literals-end : (ls : List ℤ) (rest : List ℕ) → EndsRun rest → EndsRun (literals_text ls ++ rest)
literals-end [] rest ends = ends
literals-end (l ∷ ls) rest ends = refl

spells-literals : (vars : ℕ) (ls : List ℤ) (rest : List ℕ) (ks : List Kind) → vars < 2 ^ 63 → AreLiterals vars ls → EndsRun rest → Spells rest ks
    → Spells (literals_text ls ++ rest) (map Number ls ++ ks)
spells-literals vars [] rest ks small are ends behind = behind
spells-literals vars (l ∷ ls) rest ks small are ends behind =
    let more = spells-literals vars ls rest ks small are.1 ends behind in
    let one = spells-literal vars l (literals_text ls ++ rest) (map Number ls ++ ks) small are.0 (literals-end ls rest ends) more in
    subst (λ (bytes : List ℕ). Spells (32 ∷ bytes) (Number l ∷ (map Number ls ++ ks))) (sym (append_assoc (signed_decimal l) (literals_text ls) rest))
    (spells-blank (signed_decimal l ++ (literals_text ls ++ rest)) (Number l ∷ (map Number ls ++ ks)) one)

chain_of_five : (a b c d e rest : List ℕ) → (a ++ b ++ c ++ d ++ e) ++ rest ≡ a ++ (b ++ (c ++ (d ++ (e ++ rest))))
chain_of_five a b c d e rest = simp append_assoc

spells-clause : (vars groups : ℕ) (c : Clause) (rest : List ℕ) (ks : List Kind) → vars < 2 ^ 63 → groups < 2 ^ 63 → IsClause vars groups c → Spells rest ks
    → Spells (clause_line c ++ rest) (clause_kinds Gcnf c ++ ks)
spells-clause vars groups c rest ks small few is behind =
    let high = is.group in
    let ended : List ℕ = 48 ∷ 10 ∷ rest in
    let lits : List ℕ = literals_text c.lits ++ 32 ∷ ended in
    let literal_kinds : List Kind = map Number c.lits ++ Number (pos 0) ∷ ks in
    let zero : Spells ended (Number (pos 0) ∷ ks) = spells-run (48 ∷ []) (10 ∷ rest) (Number (pos 0)) ks (refl, (refl, tt)) refl refl (spells-newline rest ks behind) in
    let at_literals : Spells lits literal_kinds =
    spells-literals vars c.lits (32 ∷ ended) (Number (pos 0) ∷ ks) small is.lits refl (spells-blank ended (Number (pos 0) ∷ ks) zero) in
    let at_group : Spells (decimal c.group ++ 125 ∷ lits) (Number (pos c.group) ∷ CloseBrace ∷ literal_kinds) =
    spells-decimal c.group (125 ∷ lits) (CloseBrace ∷ literal_kinds) (omega (arith, high)) refl (spells-close lits literal_kinds at_literals) in
    let kinds : OpenBrace ∷ Number (pos c.group) ∷ CloseBrace ∷ literal_kinds ≡ clause_kinds Gcnf c ++ ks =
    ap (λ (ls : List Kind). OpenBrace ∷ Number (pos c.group) ∷ CloseBrace ∷ ls) (sym (append_assoc (map Number c.lits) (Number (pos 0) ∷ []) ks)) in
    subst (λ (bytes : List ℕ). Spells bytes (clause_kinds Gcnf c ++ ks)) (sym (chain_of_five (codes "{") (decimal c.group) (codes "}") (literals_text c.lits) (codes " 0\n") rest))
    (subst (λ (ls : List Kind). Spells (123 ∷ (decimal c.group ++ 125 ∷ lits)) ls) kinds
    (spells-open (decimal c.group ++ 125 ∷ lits) (Number (pos c.group) ∷ CloseBrace ∷ literal_kinds) at_group))

spells-clauses : (vars groups : ℕ) (cs : List Clause) → vars < 2 ^ 63 → groups < 2 ^ 63 → AllByRecursion (IsClause vars groups) cs
    → Spells (flat_map clause_line cs) (flat_map (clause_kinds Gcnf) cs)
spells-clauses vars groups [] small few are = spells-nothing
spells-clauses vars groups (c ∷ cs) small few are =
    spells-clause vars groups c (flat_map clause_line cs) (flat_map (clause_kinds Gcnf) cs) small few are.0 (spells-clauses vars groups cs small few are.1)

-- ---- the whole text

chain_of_seven : (a b c d e f g rest : List ℕ) → (a ++ b ++ c ++ d ++ e ++ f ++ g) ++ rest ≡ a ++ (b ++ (c ++ (d ++ (e ++ (f ++ (g ++ rest))))))
chain_of_seven a b c d e f g rest = simp append_assoc

spells-plain : (p : Problem) → IsProblem p → IsWithinLimits p → Spells (plain_text p) (problem_kinds Gcnf p)
spells-plain p well_formed limits =
    let v = limits.vars in
    let m = limits.clauses in
    let g = limits.groups in
    let n : ℕ = length p.clauses in
    let body : List ℕ = flat_map clause_line p.clauses in
    let groups : List ℕ = decimal p.groups ++ 10 ∷ body in
    let count : List ℕ = decimal n ++ 32 ∷ groups in
    let vars : List ℕ = decimal p.vars ++ 32 ∷ count in
    let clauses : List Kind = flat_map (clause_kinds Gcnf) p.clauses in
    let at_body : Spells body clauses = spells-clauses p.vars p.groups p.clauses (omega (arith, v)) (omega (arith, g)) well_formed in
    let at_groups : Spells groups (Number (pos p.groups) ∷ clauses) =
    spells-decimal p.groups (10 ∷ body) clauses (omega (arith, g)) refl (spells-newline body clauses at_body) in
    let at_count : Spells count (Number (pos n) ∷ Number (pos p.groups) ∷ clauses) =
    spells-decimal n (32 ∷ groups) _ (omega (arith, m)) refl (spells-blank groups _ at_groups) in
    let at_vars : Spells vars (Number (pos p.vars) ∷ Number (pos n) ∷ Number (pos p.groups) ∷ clauses) =
    spells-decimal p.vars (32 ∷ count) _ (omega (arith, v)) refl (spells-blank count _ at_count) in
    let at_format : Spells (codes "gcnf" ++ 32 ∷ vars) (Word (codes "gcnf") ∷ Number (pos p.vars) ∷ Number (pos n) ∷ Number (pos p.groups) ∷ clauses) =
    spells-run (codes "gcnf") (32 ∷ vars) (Word (codes "gcnf")) _ (refl, (refl, (refl, (refl, (refl, tt))))) refl refl (spells-blank vars _ at_vars) in
    let at_start : Spells (codes "p" ++ 32 ∷ (codes "gcnf" ++ 32 ∷ vars)) (problem_kinds Gcnf p) =
    spells-run (codes "p") (32 ∷ (codes "gcnf" ++ 32 ∷ vars)) (Word (codes "p")) _ (refl, (refl, tt)) refl refl (spells-blank (codes "gcnf" ++ 32 ∷ vars) _ at_format) in
    subst (λ (bytes : List ℕ). Spells bytes (problem_kinds Gcnf p))
    (sym (chain_of_seven (codes "p gcnf ") (decimal p.vars) (codes " ") (decimal n) (codes " ") (decimal p.groups) (codes "\n") body)) at_start

-- the tokens of the plain text are those of the problem
pub kinds_of-plain : (p : Problem) → IsProblem p → IsWithinLimits p → kinds_of (tokens_of (plain_text p)) ≡ problem_kinds Gcnf p
kinds_of-plain p well_formed limits =
    sym (ap kinds_left (left_from-start (plain_text p))) ∙ spells-plain p well_formed limits Blanks 1 1 (λ e. cc)

-- ---- the lines, one after another

-- one clause further
pub clauses-further : (out old : List ℕ) (cs : List Clause) (i : ℕ) (c : Clause) → slice_get cs i ≡ Some c
    → old ≡ out ++ flat_map clause_line (take i cs) → old ++ clause_line c ≡ out ++ flat_map clause_line (take (i + 1) cs)
clauses-further out old cs i c here so_far =
    let lt : i < length cs = slice_get_within cs i c here in
    ap (λ (t : List ℕ). t ++ clause_line c) so_far
    ∙ flat_map_more clause_line out (take i cs) c
    ∙ ap (λ (ds : List Clause). out ++ flat_map clause_line ds) (sym (take_more cs i c lt ∙ ap (λ (x : Clause). take i cs ++ x ∷ []) (get_or_from_slice_get cs i c c here)))
