-- What an answer says of the tokens that were left, and those that are left now.
use Rattle.std.specs.Prelude.{◌≡◌, ℕ, [], ◌∷◌}
use Rattle.token_text.specs.Kinds.{Kind, Word, Number, OpenBrace, CloseBrace}
use Rattle.token_text.specs.Tokens.{Token, Place}
use Rattle.token_text.specs.Left.{Left}
use Rattle.token_text.specs.declared.answer.Found.{Found}
use Rattle.token_text.specs.declared.answer.Found.TheVariants as found
use Rattle.token_text.specs.declared.answer.Answer.{Answer}

abbrev pub token : Kind → ℕ → ℕ → Token
token kind line byte = record { kind = kind; line = line; byte = byte }

abbrev pub place : ℕ → ℕ → Place
place line byte = record { line = line; byte = byte }

-- what is found at a place is the first token that was left, behind which the others are left now; or none was left
abbrev pub Tells : Left → Left → ℕ → ℕ → Found → Type 0
Tells old new line byte (found.Word word) = old.tokens ≡ token (Word word.now) line byte ∷ new.tokens
Tells old new line byte (found.Number number) = old.tokens ≡ token (Number number) line byte ∷ new.tokens
Tells old new line byte found.OpenBrace = old.tokens ≡ token OpenBrace line byte ∷ new.tokens
Tells old new line byte found.CloseBrace = old.tokens ≡ token CloseBrace line byte ∷ new.tokens
Tells old new line byte found.End = (old.tokens ≡ []) × (new.tokens ≡ []) × (place line byte ≡ old.end)

abbrev pub Gives : Left → Left → Answer → Type 0
Gives old new answer = Tells old new answer.line answer.byte answer.found
