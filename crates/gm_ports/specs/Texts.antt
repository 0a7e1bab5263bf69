-- Named texts, and names with room.
use Rattle.std.specs.Prelude.{ℕ, List, Option, find}
use Rattle.std.specs.Option.{option_map}
use Rattle.std.specs.Str.{bytes_eq}

-- a name with its bytes
pub record NamedText : Type 0 where
  pub name : List ℕ
  pub bytes : List ℕ

-- a name with the most bytes that may be held under it
pub record NamedRoom : Type 0 where
  pub name : List ℕ
  pub room : ℕ

-- the bytes of the first text of this name
abbrev pub text_named : List NamedText → List ℕ → Option (List ℕ)
text_named texts name = option_map (λ t. t.bytes) (find (λ t. bytes_eq t.name name) texts)

-- the room of the first entry of this name
abbrev pub room_named : List NamedRoom → List ℕ → Option ℕ
room_named rooms name = option_map (λ r. r.room) (find (λ r. bytes_eq r.name name) rooms)
