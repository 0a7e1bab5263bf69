-- What it is to put a text, line by line, into a buffer from which a sink takes it.
use Rattle.std.specs.Prelude.{◌≡◌, ℕ, List, [], ◌++◌, Result, Ok, Err}
use Rattle.evidence_text.specs.declared.line_sink.PutError.{PutError}
use Rattle.evidence_text.specs.declared.line_sink.PutError.TheVariants as put_error

-- all of a text was put: what was taken, and what waits behind it, is what waited before and the text
pub record IsPut (Took : List ℕ → Type 0) (before after text : List ℕ) : Type 0 where
  pub taken : List ℕ
  pub parts : taken ++ after ≡ before ++ text
  pub took : Took taken

-- a text was cut off: what was taken is a front part of what waited before and of the text
pub record IsCut (Took : List ℕ → Type 0) (before text : List ℕ) : Type 0 where
  pub taken : List ℕ
  pub left : List ℕ
  pub parts : before ++ text ≡ taken ++ left
  pub took : Took taken

-- what an answer says of a text that was to be put
abbrev pub Puts : {E : Type 0} → (List ℕ → Type 0) → (E → List ℕ → Type 0) → List ℕ → List ℕ → List ℕ → Result (Unit {0}) (PutError E) → Type 0
Puts Took Stopped before after text (Ok done) = IsPut Took before after text
Puts Took Stopped before after text (Err put_error.Memory) = IsCut Took before text
Puts Took Stopped before after text (Err (put_error.Sink why)) = IsCut (Stopped why) before text

-- nothing is taken at no time, and what is taken later comes behind what was taken before, also where that was the last
pub record AddsUp {S E : Type 0} (took : S → S → List ℕ → Type 0) (stopped : S → S → E → List ℕ → Type 0) : Type 0 where
  pub nothing : (s : S) → took s s []
  pub more : (a b c : S) (x y : List ℕ) → took a b x → took b c y → took a c (x ++ y)
  pub last : (a b c : S) (why : E) (x y : List ℕ) → took a b x → stopped b c why y → stopped a c why (x ++ y)
