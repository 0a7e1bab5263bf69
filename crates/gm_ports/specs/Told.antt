-- Bytes that an object tells, or does not: `None` is 'not told', and what is not told before a call is not told after it.
use Rattle.std.specs.Prelude.{◌≡◌, ℕ, List, [], ◌++◌, Option, Some, None, IsSome, IfSome, ◌↔◌}
use Rattle.std.specs.Option.{option_map}

-- what is not told before is not told after
abbrev pub TellsNoMore : {A : Type 0} → Option A → Option A → Type 0
TellsNoMore old new = old ≡ None → new ≡ None

-- it is told after exactly where it was told before
abbrev pub TellsAsBefore : {A : Type 0} → Option A → Option A → Type 0
TellsAsBefore old new = IsSome old ↔ IsSome new

-- what is told lost these bytes at its front, and goes on being told
abbrev pub ToldConsumes : Option (List ℕ) → Option (List ℕ) → List ℕ → Type 0
ToldConsumes old new bytes = old ≡ option_map (λ rest. bytes ++ rest) new

-- what is told grew by these bytes at its end; it may be told no more
abbrev pub ToldAppends : Option (List ℕ) → Option (List ℕ) → List ℕ → Type 0
ToldAppends old new bytes = IfSome new (λ now. option_map (λ before. before ++ bytes) old ≡ Some now)

-- what is told grew by a front part of this text; it may be told no more
pub record ToldGrowsWithin (old new : Option (List ℕ)) (text : List ℕ) : Type 0 where
  pub taken : List ℕ
  pub left : List ℕ
  pub parts : text ≡ taken ++ left
  pub grew : ToldAppends old new taken

-- where it is told, nothing is there
abbrev pub IsEmptyWhereTold : Option (List ℕ) → Type 0
IsEmptyWhereTold told = IfSome told (λ bytes. bytes ≡ [])
