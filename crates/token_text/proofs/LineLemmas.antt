-- The lines of a text and the tokens of a line, byte by byte.
use Rattle.std.proofs.Common.{◌≡◌, ℕ, suc, ◌+◌, Bool, true, false, not, ◌&&◌, ◌||◌, cond, eqb, List, [], ◌∷◌, drop, take, refl, sym, ◌∙◌, ap, subst, inl, inr, arith}
use Rattle.std.proofs.lemmas.Bool.{and_parts, not-true, or_right, or_from, cond-true, cond-false, cases_Bool, and_left, and_right}
use Rattle.std.proofs.lemmas.List.Splits.{slice_split-cons_no}
use Rattle.std.specs.List.{prefix_len, onto_first}
use Rattle.token_text.specs.Tokens.{begins, is_brace, is_newline, is_plain, is_space, is_blank, lines, newline, token_at, tokens_from}
use Rattle.token_text.proofs.NumberLemmas.{no_brace}

-- a text has a first line
pub lines-some : (bs : List ℕ) → (l : List ℕ) × ((ls : List (List ℕ)) × (lines bs ≡ l ∷ ls))
lines-some [] = ([], ([], refl))
lines-some (b ∷ bs) = by (is_newline b) (lines bs)
  where
    by : (t : Bool) (parts : List (List ℕ)) → (l : List ℕ) × ((ls : List (List ℕ)) × (cond t ([] ∷ parts) (onto_first b parts) ≡ l ∷ ls))
    by true parts = ([], (parts, refl))
    by false [] = (b ∷ [], ([], refl))
    by false (p ∷ ps) = (b ∷ p, (ps, refl))

-- a byte that is no newline goes onto the first line
pub lines-cons : (b : ℕ) (bs l : List ℕ) (ls : List (List ℕ)) → is_newline b ≡ false → lines bs ≡ l ∷ ls → lines (b ∷ bs) ≡ (b ∷ l) ∷ ls
lines-cons b bs l ls other e = slice_split-cons_no is_newline b bs other ∙ ap (onto_first b) e

-- a plain byte is no newline
pub no_newline : (b : ℕ) → is_space b ≡ false → is_newline b ≡ false
no_newline b solid = by (is_newline b) (is_blank b || eqb b 13) solid
  where
    by : (t s : Bool) → (s || t) ≡ false → t ≡ false
    by false s e = refl
    by true false e = e
    by true true e = e

pub no_space : (b : ℕ) → is_plain b ≡ true → is_space b ≡ false
no_space b plain = not-true (is_space b) (and_parts (not (is_space b)) (not (is_brace b)) plain).0

-- only whether the byte before is plain matters
pub tokens_from-before : (line byte x y : ℕ) (l : List ℕ) → is_plain x ≡ is_plain y → tokens_from line byte x l ≡ tokens_from line byte y l
tokens_from-before line byte x y [] same = refl
tokens_from-before line byte x y (b ∷ bs) same =
    ap (λ t. cond (is_brace b || (is_plain b && not t)) (token_at line byte (b ∷ bs) ∷ tokens_from line (byte + 1) b bs) (tokens_from line (byte + 1) b bs))
    same

-- how long a run is
pub prefix-plain : (b : ℕ) (bs : List ℕ) → is_plain b ≡ true → prefix_len is_plain (b ∷ bs) ≡ suc (prefix_len is_plain bs)
prefix-plain b bs plain = let one : 1 + prefix_len is_plain bs ≡ suc (prefix_len is_plain bs) = omega arith in
    cond-true (is_plain b) (1 + prefix_len is_plain bs) 0 plain ∙ one

prefix-other : (b : ℕ) (bs : List ℕ) → is_plain b ≡ false → prefix_len is_plain (b ∷ bs) ≡ 0
prefix-other b bs other = cond-false (is_plain b) (1 + prefix_len is_plain bs) 0 other

-- behind a plain byte no token begins before its run ends
pub tokens_from-run : (line byte x : ℕ) (l : List ℕ) → is_plain x ≡ true
    → tokens_from line byte x l ≡ tokens_from line (byte + prefix_len is_plain l) newline (drop (prefix_len is_plain l) l)
tokens_from-run line byte x [] plain = refl
tokens_from-run line byte x (b ∷ bs) plain =
    elim (cases_Bool (is_plain b)) [
      | inl goes_on ↦
          let n = prefix_len is_plain bs in
          let far : byte + suc n ≡ byte + 1 + n = omega arith in
          cond-false (begins x b) (token_at line byte (b ∷ bs) ∷ tokens_from line (byte + 1) b bs) (tokens_from line (byte + 1) b bs)
          (or_from (is_brace b) (is_plain b && not (is_plain x)) (no_brace b goes_on) (and_right (is_plain b) (not (is_plain x)) (ap not plain)))
          ∙ tokens_from-run line (byte + 1) b bs goes_on
          ∙ ap (λ k. tokens_from line k newline (drop n bs)) (sym far)
          ∙ ap (λ k. tokens_from line (byte + k) newline (drop k (b ∷ bs))) (sym (prefix-plain b bs goes_on))
      | inr ends ↦
          let same : byte ≡ byte + 0 = omega arith in
          ap (λ t. cond (is_brace b || (t && not (is_plain x))) (token_at line byte (b ∷ bs) ∷ tokens_from line (byte + 1) b bs) (tokens_from line (byte + 1) b bs)) ends
          ∙ sym (ap (λ t. cond (is_brace b || (t && not (is_plain newline))) (token_at line byte (b ∷ bs) ∷ tokens_from line (byte + 1) b bs) (tokens_from line (byte + 1) b bs)) ends)
          ∙ ap (λ k. tokens_from line k newline (b ∷ bs)) same
          ∙ ap (λ k. tokens_from line (byte + k) newline (drop k (b ∷ bs))) (sym (prefix-other b bs ends))
    ]

-- a run ends within its line
pub record IsInLine (bytes l : List ℕ) (ls : List (List ℕ)) : Type 0 where
  pub long : prefix_len is_plain l ≡ prefix_len is_plain bytes
  pub same : take (prefix_len is_plain l) l ≡ take (prefix_len is_plain bytes) bytes
  pub rest : lines (drop (prefix_len is_plain bytes) bytes) ≡ drop (prefix_len is_plain l) l ∷ ls

in_line-same : (bytes l m : List ℕ) (ls ms : List (List ℕ)) → l ∷ ls ≡ m ∷ ms → IsInLine bytes l ls → IsInLine bytes m ms
in_line-same bytes l m ls ms e h =
    let line : l ≡ m = cc in
    let below : ls ≡ ms = cc in
    subst (λ (ls : List (List ℕ)). IsInLine bytes m ls) below (subst (λ (l : List ℕ). IsInLine bytes l ls) line h)

in_line-newline : (b : ℕ) (bs : List ℕ) → is_newline b ≡ true → IsInLine (b ∷ bs) [] (lines bs)
in_line-newline b bs newline =
    let here : prefix_len is_plain (b ∷ bs) ≡ 0 = prefix-other b bs (and_left (not (is_space b)) (not (is_brace b)) (ap not (or_right (is_blank b || eqb b 13) (is_newline b) newline))) in
    record {
      long = sym here;
      same = sym (ap (λ k. take k (b ∷ bs)) here);
      rest = ap (λ k. lines (drop k (b ∷ bs))) here ∙ cond-true (is_newline b) ([] ∷ lines bs) (onto_first b (lines bs)) newline;
    }

in_line-plain : (b : ℕ) (bs l : List ℕ) (ls : List (List ℕ)) → is_plain b ≡ true → IsInLine bs l ls → IsInLine (b ∷ bs) (b ∷ l) ls
in_line-plain b bs l ls plain inner =
    let here = prefix-plain b bs plain in
    let there = prefix-plain b l plain in
    record {
      long = there ∙ ap suc inner.long ∙ sym here;
      same = ap (λ k. take k (b ∷ l)) there ∙ ap (λ t. b ∷ t) inner.same ∙ sym (ap (λ k. take k (b ∷ bs)) here);
      rest = ap (λ k. lines (drop k (b ∷ bs))) here ∙ inner.rest ∙ ap (λ k. drop k (b ∷ l) ∷ ls) (sym there);
    }

in_line-other : (b : ℕ) (bs l : List ℕ) (ls : List (List ℕ)) → is_plain b ≡ false → lines (b ∷ bs) ≡ (b ∷ l) ∷ ls → IsInLine (b ∷ bs) (b ∷ l) ls
in_line-other b bs l ls other e =
    let here = prefix-other b bs other in
    let there = prefix-other b l other in
    record {
      long = there ∙ sym here;
      same = ap (λ k. take k (b ∷ l)) there ∙ sym (ap (λ k. take k (b ∷ bs)) here);
      rest = ap (λ k. lines (drop k (b ∷ bs))) here ∙ e ∙ ap (λ k. drop k (b ∷ l) ∷ ls) (sym there);
    }

pub lines-run : (bytes l : List ℕ) (ls : List (List ℕ)) → lines bytes ≡ l ∷ ls → IsInLine bytes l ls
lines-run [] l ls e = in_line-same [] [] l [] ls e (record { long = refl; same = refl; rest = refl })
lines-run (b ∷ bs) l ls e =
    let (m, (ms, first)) = lines-some bs in
    elim (cases_Bool (is_newline b)) [
      | inl newline ↦
          let split = cond-true (is_newline b) ([] ∷ lines bs) (onto_first b (lines bs)) newline in
          in_line-same (b ∷ bs) [] l (lines bs) ls (sym split ∙ e) (in_line-newline b bs newline)
      | inr inside ↦
          let split = lines-cons b bs m ms inside first in
          in_line-same (b ∷ bs) (b ∷ m) l ms ls (sym split ∙ e)
          (elim (cases_Bool (is_plain b)) [
            | inl plain ↦ in_line-plain b bs m ms plain (lines-run bs m ms first)
            | inr other ↦ in_line-other b bs m ms other split
          ])
    ]
