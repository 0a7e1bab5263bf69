-- What is left to read of a text.
use Rattle.std.specs.Prelude.{List}
use Rattle.token_text.specs.Tokens.{Token, Place}

-- the tokens that are left, and the end's place
pub record Left : Type 0 where
  pub tokens : List Token
  pub end : Place
