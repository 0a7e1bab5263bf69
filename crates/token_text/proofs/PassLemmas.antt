-- Passing over white space and comments, one byte at a time.
use Rattle.std.proofs.Common.{◌≡◌, ◌⊎◌, ℕ, ◌+◌, ◌-◌, ◌<◌, ◌≤◌, List, ◌∷◌, length, get_or, drop, sym, ◌∙◌, ap, arith}
use Rattle.std.proofs.lemmas.Bool.{ne_eqb}
use Rattle.token_text.specs.Cursor.{BeginsToken, Passes, left_at, left_from}
use Rattle.token_text.specs.declared.cursor.Before.{Before}
use Rattle.token_text.specs.declared.cursor.Before.TheVariants.{Blanks, Others, Comment}
use Rattle.token_text.specs.declared.cursor.Cursor.{Cursor}
use Rattle.token_text.proofs.RunLemmas.{drop-at}
use Rattle.token_text.proofs.CursorLemmas.{left_from-blank, left_from-newline, left_from-return, left_from-solid}

-- what was left where the loop began is left here
pub record IsPassed (text : List ℕ) (from : Cursor) (before : Before) (line line_start at end : ℕ) : Type 0 where
  pub all : end ≡ length text
  pub same : left_from before line (at - line_start + 1) (drop at text) ≡ left_at text from
  pub start : line_start ≤ at
  pub count : line ≤ at + 1

-- a blank or a tab leaves what stands before, and a CR is something else
pub passes_blank : (before : Before) (b : ℕ) → (b ≡ 9) ⊎ (b ≡ 32) → Passes before b before
passes_blank before b e = λ line byte bs. left_from-blank before line byte b bs e

pub passes_return : (before : Before) (b : ℕ) → (before ≡ Comment → ⊥) → b ≡ 13 → Passes before b Others
passes_return before b outside e =
    λ line byte bs. ap (λ x. left_from before line byte (x ∷ bs)) e ∙ left_from-return before line byte bs outside

-- one newline further
pub passed-newline : (text : List ℕ) (from : Cursor) (before : Before) (line line_start at end : ℕ)
    → IsPassed text from before line line_start at end → at < length text → get_or text at 0 ≡ 10
    → IsPassed text from Blanks (line + 1) (at + 1) (at + 1) end
passed-newline text from before line line_start at end passed h newline =
    let none : at + 1 - (at + 1) + 1 ≡ 1 = omega arith in
    record {
      all = passed.all;
      same =
          ap (λ k. left_from Blanks (line + 1) k (drop (at + 1) text)) none
          ∙ sym (left_from-newline before line (at - line_start + 1) (drop (at + 1) text))
          ∙ sym (ap (λ x. left_from before line (at - line_start + 1) (x ∷ drop (at + 1) text)) newline)
          ∙ sym (ap (left_from before line (at - line_start + 1)) (drop-at text at h)) ∙ passed.same;
      start = omega arith;
      count = omega (arith, passed.count);
    }

-- one byte further in the line
pub passed-byte : (text : List ℕ) (from : Cursor) (before next : Before) (line line_start at end : ℕ)
    → IsPassed text from before line line_start at end → at < length text → Passes before (get_or text at 0) next
    → IsPassed text from next line line_start (at + 1) end
passed-byte text from before next line line_start at end passed h passes =
    let far : at + 1 - line_start + 1 ≡ at - line_start + 1 + 1 = omega (arith, passed.start) in
    record {
      all = passed.all;
      same =
          ap (λ k. left_from next line k (drop (at + 1) text)) far
          ∙ sym (passes line (at - line_start + 1) (drop (at + 1) text))
          ∙ sym (ap (left_from before line (at - line_start + 1)) (drop-at text at h)) ∙ passed.same;
      start = omega (arith, passed.start);
      count = omega (arith, passed.count);
    }

-- where a token begins, what stands before it does not matter any more
pub passed-token : (text : List ℕ) (from : Cursor) (before : Before) (line line_start at end : ℕ)
    → IsPassed text from before line line_start at end → at < length text → BeginsToken before (get_or text at 0)
    → left_from Others line (at - line_start + 1) (drop at text) ≡ left_at text from
passed-token text from before line line_start at end passed h begins =
    let here = drop-at text at h in
    ap (left_from Others line (at - line_start + 1)) here
    ∙ sym (left_from-solid before line (at - line_start + 1) (get_or text at 0) (drop (at + 1) text) begins.solid begins.outside
    (λ blanks. ne_eqb (get_or text at 0) 99 (begins.no_comment blanks)))
    ∙ sym (ap (left_from before line (at - line_start + 1)) here) ∙ passed.same
