-- What `read_whole` answers.
use Rattle.std.specs.Prelude.{◌≡◌, ℕ, ◌+◌, ◌≤◌, List, [], ◌++◌, Option, Some, None, length, ⊤}
use Rattle.gm_ports.specs.Faults.{Rose}
use Rattle.gm_ports.specs.declared.whole.Reading.{Reading}
use Rattle.gm_ports.specs.declared.whole.Reading.TheVariants.{Whole, TooLong, Failed, Memory}

-- one byte more than the limit was read of the text, and this was left
pub record ReadPast (limit : ℕ) (text : List ℕ) (left : Option (List ℕ)) : Type 0 where
  pub bytes : List ℕ
  pub rest : List ℕ
  pub parts : text ≡ bytes ++ rest
  pub left_is : left ≡ Some rest
  pub past : length bytes ≡ limit + 1

-- no more bytes than the limit were read of the text, and this was left
pub record ReadWithin (limit : ℕ) (text : List ℕ) (left : Option (List ℕ)) : Type 0 where
  pub bytes : List ℕ
  pub rest : List ℕ
  pub parts : text ≡ bytes ++ rest
  pub left_is : left ≡ Some rest
  pub within : length bytes ≤ limit

-- what an answer says of a text that is held, and of what is unread of it after the call
abbrev pub SaysOfText : ℕ → List ℕ → Option (List ℕ) → Reading → Type 0
SaysOfText limit text left (Whole bytes) = (bytes.items ≡ text) × (left ≡ Some [])
SaysOfText limit text left TooLong = ReadPast limit text left
SaysOfText limit text left Failed = ⊤
SaysOfText limit text left Memory = ReadWithin limit text left

-- what it says of a name: without a file under it the reading failed
abbrev pub SaysOfName : ℕ → Option (List ℕ) → Option (List ℕ) → Reading → Type 0
SaysOfName limit None left answer = answer ≡ Failed
SaysOfName limit (Some text) left answer = SaysOfText limit text left answer

-- no more bytes than the limit are given
abbrev pub IsWithin : ℕ → Reading → Type 0
IsWithin limit (Whole bytes) = length bytes.items ≤ limit
IsWithin limit TooLong = ⊤
IsWithin limit Failed = ⊤
IsWithin limit Memory = ⊤

-- `Failed` comes only where the count rose, and every other answer leaves the count
abbrev pub ReadingHasCause : ℕ → ℕ → Reading → Type 0
ReadingHasCause before now (Whole bytes) = now ≡ before
ReadingHasCause before now TooLong = now ≡ before
ReadingHasCause before now Failed = Rose before now
ReadingHasCause before now Memory = now ≡ before
