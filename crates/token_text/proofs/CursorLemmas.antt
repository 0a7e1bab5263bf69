-- What is left of a text, and how each byte of white space, each byte of a comment and each token changes it.
use Rattle.std.proofs.Common.{◌≡◌, ◌⊎◌, ℕ, suc, ◌+◌, ◌≤◌, true, false, not, ◌&&◌, ◌||◌, cond, eqb, List, [], ◌∷◌, ◌++◌, length, drop, refl, sym, ◌∙◌, ap, subst, inl, inr, arith, None, Some}
use Rattle.std.specs.Prelude.{unwrap_or}
use Rattle.std.proofs.lemmas.Bool.{and_from, and_right, or_left, or_right, or_parts, cond-true, cond-false, cases_Bool}
use Rattle.std.proofs.lemmas.List.Folds.{length-prefix_len}
use Rattle.std.proofs.lemmas.List.Sums.{prefix_len-le-length}
use Rattle.std.proofs.lemmas.List.{length-drop}
use Rattle.std.specs.Option.{option_map_or}
use Rattle.std.specs.List.{find, prefix_len, take_while, last_or}
use Rattle.token_text.specs.Kinds.{kind_of}
use Rattle.token_text.specs.Tokens.{Token, Place, begins, end_of, is_brace, is_comment, is_newline, is_plain, is_space, is_blank, lines, lines_tokens, newline, token_at, token_bytes, tokens_from, tokens_of}
use Rattle.token_text.specs.Left.{Left}
use Rattle.token_text.specs.Cursor.{end_in, left_from, left_in, line_left, tokens_in}
use Rattle.token_text.specs.declared.cursor.Before.{Before}
use Rattle.token_text.specs.declared.cursor.Before.TheVariants.{Blanks, Others, Comment}
use Rattle.token_text.proofs.NumberLemmas.{no_brace}
use Rattle.token_text.proofs.LineLemmas.{IsInLine, no_space, prefix-plain, lines-cons, lines-run, lines-some, no_newline, tokens_from-before, tokens_from-run}

-- ---- the whole text

end_in-below : (line : ℕ) (l : List ℕ) (ls : List (List ℕ))
    → end_in line 1 (l ∷ ls) ≡ record { line = line + length ls; byte = length (unwrap_or (last_or (Some l) ls) []) + 1 }
end_in-below line l [] =
    let same : line ≡ line + 0 = omega arith in
    let long : 1 + length l ≡ length l + 1 = omega arith in
    cc
end_in-below line l (m ∷ ms) =
    let below : line + 1 + length ms ≡ line + length (m ∷ ms) = omega arith in
    end_in-below (line + 1) m ms ∙ cc

-- at the start all is left
pub left_from-start : (bytes : List ℕ) → left_from Blanks 1 1 bytes ≡ record { tokens = tokens_of bytes; end = end_of bytes }
left_from-start bytes =
    let (l, (ls, e)) = lines-some bytes in
    let P : List (List ℕ) → Type 0 = λ parts.
    left_in Blanks 1 1 parts
    ≡ record { tokens = lines_tokens 1 parts; end = record { line = length parts; byte = length (unwrap_or (last_or None parts) []) + 1 } } in
    subst P (sym e) (by l ls)
  where
    by : (l : List ℕ) (ls : List (List ℕ))
        → left_in Blanks 1 1 (l ∷ ls)
        ≡ record { tokens = lines_tokens 1 (l ∷ ls); end = record { line = length (l ∷ ls); byte = length (unwrap_or (last_or None (l ∷ ls)) []) + 1 } }
    by l ls =
        let count : 1 + length ls ≡ length (l ∷ ls) = omega arith in
        let ends = end_in-below 1 l ls in
        cc

-- ---- a byte of white space or of a comment

left_in-step : (before next : Before) (line byte b : ℕ) (l : List ℕ) (ls : List (List ℕ))
    → line_left before line byte (b ∷ l) ≡ line_left next line (byte + 1) l
    → left_in before line byte ((b ∷ l) ∷ ls) ≡ left_in next line (byte + 1) (l ∷ ls)
left_in-step before next line byte b l [] e =
    let far : byte + length (b ∷ l) ≡ byte + 1 + length l = omega arith in cc
left_in-step before next line byte b l (m ∷ ms) e = cc

left_from-step : (before next : Before) (line byte b : ℕ) (bs : List ℕ) → is_newline b ≡ false
    → ((l : List ℕ) → line_left before line byte (b ∷ l) ≡ line_left next line (byte + 1) l)
    → left_from before line byte (b ∷ bs) ≡ left_from next line (byte + 1) bs
left_from-step before next line byte b bs inside e =
    let (l, (ls, first)) = lines-some bs in
    ap (left_in before line byte) (lines-cons b bs l ls inside first)
    ∙ left_in-step before next line byte b l ls (e l)
    ∙ ap (left_in next line (byte + 1)) (sym first)

pub left_from-newline : (before : Before) (line byte : ℕ) (bs : List ℕ)
    → left_from before line byte (10 ∷ bs) ≡ left_from Blanks (line + 1) 1 bs
left_from-newline before line byte bs =
    let (l, (ls, first)) = lines-some bs in
    ap (λ parts. left_in before line byte ([] ∷ parts)) first ∙ by before l ls ∙ ap (left_in Blanks (line + 1) 1) (sym first)
  where
    by : (before : Before) (l : List ℕ) (ls : List (List ℕ)) → left_in before line byte ([] ∷ l ∷ ls) ≡ left_in Blanks (line + 1) 1 (l ∷ ls)
    by Blanks l ls = refl
    by Others l ls = refl
    by Comment l ls = refl

line_left-blank : (before : Before) (line byte b : ℕ) (l : List ℕ) → (b ≡ 9) ⊎ (b ≡ 32) → line_left before line byte (b ∷ l) ≡ line_left before line (byte + 1) l
line_left-blank Comment line byte b l e = refl
line_left-blank Others line byte b l (inl e) =
    ap (λ x. tokens_from line byte newline (x ∷ l)) e ∙ tokens_from-before line (byte + 1) 9 newline l refl
line_left-blank Others line byte b l (inr e) =
    ap (λ x. tokens_from line byte newline (x ∷ l)) e ∙ tokens_from-before line (byte + 1) 32 newline l refl
line_left-blank Blanks line byte b l (inl e) =
    ap (λ x. line_left Blanks line byte (x ∷ l)) e
    ∙ ap (λ ts. cond (is_comment l) [] ts) (tokens_from-before line (byte + 1) 9 newline l refl)
line_left-blank Blanks line byte b l (inr e) =
    ap (λ x. line_left Blanks line byte (x ∷ l)) e
    ∙ ap (λ ts. cond (is_comment l) [] ts) (tokens_from-before line (byte + 1) 32 newline l refl)

no_newline-blank : (b : ℕ) → (b ≡ 9) ⊎ (b ≡ 32) → is_newline b ≡ false
no_newline-blank b (inl e) = ap is_newline e
no_newline-blank b (inr e) = ap is_newline e

pub left_from-blank : (before : Before) (line byte b : ℕ) (bs : List ℕ) → (b ≡ 9) ⊎ (b ≡ 32)
    → left_from before line byte (b ∷ bs) ≡ left_from before line (byte + 1) bs
left_from-blank before line byte b bs e =
    left_from-step before before line byte b bs (no_newline-blank b e) (λ l. line_left-blank before line byte b l e)

pub left_from-comment : (line byte b : ℕ) (bs : List ℕ) → is_newline b ≡ false
    → left_from Comment line byte (b ∷ bs) ≡ left_from Comment line (byte + 1) bs
left_from-comment line byte b bs inside = left_from-step Comment Comment line byte b bs inside (λ l. refl)

pub left_from-c : (line byte : ℕ) (bs : List ℕ) → left_from Blanks line byte (99 ∷ bs) ≡ left_from Comment line (byte + 1) bs
left_from-c line byte bs = left_from-step Blanks Comment line byte 99 bs refl (λ l. refl)

pub left_from-return : (before : Before) (line byte : ℕ) (bs : List ℕ) → (before ≡ Comment → ⊥)
    → left_from before line byte (13 ∷ bs) ≡ left_from Others line (byte + 1) bs
left_from-return Comment line byte bs other = absurd (other refl)
left_from-return Others line byte bs other =
    left_from-step Others Others line byte 13 bs refl (λ l. tokens_from-before line (byte + 1) 13 newline l refl)
left_from-return Blanks line byte bs other =
    left_from-step Blanks Others line byte 13 bs refl (λ l. tokens_from-before line (byte + 1) 13 newline l refl)

-- ---- where a token begins

abbrev left : List Token → Place → Left
left tokens end = record { tokens = tokens; end = end }

line_left-solid : (line byte b : ℕ) (l : List ℕ) → is_blank b ≡ false → eqb b 99 ≡ false → line_left Blanks line byte (b ∷ l) ≡ line_left Others line byte (b ∷ l)
line_left-solid line byte b l solid other =
    let no_comment : is_comment (b ∷ l) ≡ false =
    ap (λ t. option_map_or (λ c. eqb c 99) (cond (not t) (Some b) (find (λ c. not (is_blank c)) l)) false) solid ∙ other in
    cond-false (is_comment (b ∷ l)) [] (tokens_from line byte newline (b ∷ l)) no_comment

pub left_from-solid : (before : Before) (line byte b : ℕ) (bs : List ℕ) → is_space b ≡ false → (before ≡ Comment → ⊥)
    → (before ≡ Blanks → eqb b 99 ≡ false) → left_from before line byte (b ∷ bs) ≡ left_from Others line byte (b ∷ bs)
left_from-solid Comment line byte b bs solid other no_c = absurd (other refl)
left_from-solid Others line byte b bs solid other no_c = refl
left_from-solid Blanks line byte b bs solid other no_c =
    let (l, (ls, first)) = lines-some bs in
    let split : lines (b ∷ bs) ≡ (b ∷ l) ∷ ls = lines-cons b bs l ls (no_newline b solid) first in
    let no_blank = (or_parts (is_blank b) (eqb b 13) (or_parts (is_blank b || eqb b 13) (is_newline b) solid).0).0 in
    ap (left_in Blanks line byte) split
    ∙ ap (λ (ts : List Token). left (ts ++ lines_tokens (line + 1) ls) (end_in line byte ((b ∷ l) ∷ ls)))
    (line_left-solid line byte b l no_blank (no_c refl))
    ∙ sym (ap (left_in Others line byte) split)

pub left_from-end : (before : Before) (line byte : ℕ) → left_from before line byte [] ≡ left_from Others line byte []
left_from-end Blanks line byte = refl
left_from-end Others line byte = refl
left_from-end Comment line byte = refl

-- ---- a token

-- what is left once the token that begins here is taken
pub record IsTaken (line byte : ℕ) (bytes : List ℕ) : Type 0 where
  pub tokens :
      (left_from Others line byte bytes).tokens
      ≡ token_at line byte bytes
      ∷ (left_from Others line (byte + length (token_bytes bytes)) (drop (length (token_bytes bytes)) bytes)).tokens
  pub end :
      (left_from Others line (byte + length (token_bytes bytes)) (drop (length (token_bytes bytes)) bytes)).end
      ≡ (left_from Others line byte bytes).end

abbrev of_bytes : ℕ → ℕ → List ℕ → Token
of_bytes line byte bytes = record { kind = kind_of bytes; line = line; byte = byte }

-- the token is cut off from its text and from its line
record IsCut (line byte n : ℕ) (bytes l : List ℕ) (ls : List (List ℕ)) : Type 0 where
  pub count : n ≡ length (token_bytes bytes)
  pub tokens : tokens_from line byte newline l ≡ token_at line byte bytes ∷ tokens_from line (byte + n) newline (drop n l)
  pub rest : lines (drop n bytes) ≡ drop n l ∷ ls
  pub long : length l ≡ n + length (drop n l)

-- a brace
cut-brace : (line byte b : ℕ) (bs l : List ℕ) (ls : List (List ℕ)) → is_brace b ≡ true → lines bs ≡ l ∷ ls
    → IsCut line byte 1 (b ∷ bs) (b ∷ l) ls
cut-brace line byte b bs l ls brace first =
    let alone : (m : List ℕ) → token_bytes (b ∷ m) ≡ b ∷ [] = λ m. cond-true (is_brace b) (b ∷ []) (take_while is_plain (b ∷ m)) brace in
    let no_plain : is_plain b ≡ is_plain newline = and_right (not (is_space b)) (not (is_brace b)) (ap not brace) in
    record {
      count = sym (ap length (alone bs));
      tokens =
          cond-true (begins newline b) (token_at line byte (b ∷ l) ∷ tokens_from line (byte + 1) b l) (tokens_from line (byte + 1) b l)
          (or_left (is_brace b) (is_plain b && not (is_plain newline)) brace)
          ∙ ap (λ (bytes : List ℕ). of_bytes line byte bytes ∷ tokens_from line (byte + 1) b l) (alone l ∙ sym (alone bs))
          ∙ ap (λ ts. token_at line byte (b ∷ bs) ∷ ts) (tokens_from-before line (byte + 1) b newline l no_plain);
      rest = first;
      long = omega arith;
    }

-- a run
cut-run : (line byte b : ℕ) (bs l : List ℕ) (ls : List (List ℕ)) → is_plain b ≡ true → lines bs ≡ l ∷ ls
    → IsCut line byte (prefix_len is_plain (b ∷ bs)) (b ∷ bs) (b ∷ l) ls
cut-run line byte b bs l ls plain first =
    let n = prefix_len is_plain (b ∷ bs) in
    let in_line : IsInLine (b ∷ bs) (b ∷ l) ls =
    lines-run (b ∷ bs) (b ∷ l) ls (lines-cons b bs l ls (no_newline b (no_space b plain)) first) in
    let run : (m : List ℕ) → token_bytes (b ∷ m) ≡ take_while is_plain (b ∷ m) =
    λ m. cond-false (is_brace b) (b ∷ []) (take_while is_plain (b ∷ m)) (no_brace b plain) in
    let same : token_bytes (b ∷ l) ≡ token_bytes (b ∷ bs) = run l ∙ in_line.same ∙ sym (run bs) in
    let next : n ≡ suc (prefix_len is_plain l) = sym in_line.long ∙ prefix-plain b l plain in
    let far : byte + 1 + prefix_len is_plain l ≡ byte + n = omega (arith, next) in
    let within : prefix_len is_plain (b ∷ l) ≤ length (b ∷ l) = prefix_len-le-length is_plain (b ∷ l) in
    record {
      count = sym (length-prefix_len is_plain (b ∷ bs)) ∙ sym (ap length (run bs));
      tokens =
          cond-true (begins newline b) (token_at line byte (b ∷ l) ∷ tokens_from line (byte + 1) b l) (tokens_from line (byte + 1) b l)
          (or_right (is_brace b) (is_plain b && not (is_plain newline)) (and_from (is_plain b) true plain refl))
          ∙ ap (λ (bytes : List ℕ). of_bytes line byte bytes ∷ tokens_from line (byte + 1) b l) same
          ∙ ap (λ ts. token_at line byte (b ∷ bs) ∷ ts)
          (tokens_from-run line (byte + 1) b l plain
          ∙ ap (λ k. tokens_from line k newline (drop (prefix_len is_plain l) l)) far
          ∙ ap (λ k. tokens_from line (byte + n) newline (drop k (b ∷ l))) (sym next));
      rest = in_line.rest ∙ ap (λ k. drop k (b ∷ l) ∷ ls) in_line.long;
      long = omega (arith, length-drop n (b ∷ l), within, in_line.long);
    }

taken : (line byte n : ℕ) (bytes l : List ℕ) (ls : List (List ℕ)) → lines bytes ≡ l ∷ ls → IsCut line byte n bytes l ls → IsTaken line byte bytes
taken line byte n bytes l ls split cut =
    let P : ℕ → Type 0 = λ k.
    ((left_from Others line byte bytes).tokens ≡ token_at line byte bytes ∷ (left_from Others line (byte + k) (drop k bytes)).tokens)
    × ((left_from Others line (byte + k) (drop k bytes)).end ≡ (left_from Others line byte bytes).end) in
    let both = subst P cut.count (
      ap (tokens_in Others line byte) split
          ∙ ap (λ ts. ts ++ lines_tokens (line + 1) ls) cut.tokens
          ∙ ap (λ parts. token_at line byte bytes ∷ tokens_in Others line (byte + n) parts) (sym cut.rest),
      ap (end_in line (byte + n)) cut.rest ∙ by ls ∙ ap (end_in line byte) (sym split),
    ) in
    record { tokens = both.0; end = both.1 }
  where
    by : (ls : List (List ℕ)) → end_in line (byte + n) (drop n l ∷ ls) ≡ end_in line byte (l ∷ ls)
    by [] = let far : byte + n + length (drop n l) ≡ byte + length l = omega (arith, cut.long) in cc
    by (m ∷ ms) = refl

pub is_taken : (line byte b : ℕ) (bs : List ℕ) → is_space b ≡ false → IsTaken line byte (b ∷ bs)
is_taken line byte b bs solid =
    let (l, (ls, first)) = lines-some bs in
    let split : lines (b ∷ bs) ≡ (b ∷ l) ∷ ls = lines-cons b bs l ls (no_newline b solid) first in
    elim (cases_Bool (is_brace b)) [
      | inl brace ↦ taken line byte 1 (b ∷ bs) (b ∷ l) ls split (cut-brace line byte b bs l ls brace first)
      | inr other ↦
          let plain : is_plain b ≡ true = and_from (not (is_space b)) (not (is_brace b)) (ap not solid) (ap not other) in
          taken line byte (prefix_len is_plain (b ∷ bs)) (b ∷ bs) (b ∷ l) ls split (cut-run line byte b bs l ls plain first)
    ]
