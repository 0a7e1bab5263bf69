-- What reading the front of a disk answers, and what stands at a gate.
use Rattle.std.specs.Prelude.{◌≡◌, ◌≢◌, ◌⊎◌, ℕ, ◌+◌, ◌^◌, ◌<◌, ◌≤◌, List, ◌∷◌, ◌++◌, length, take, drop, Option, Some, IfSome, ⊤}
use Rattle.gm_ports.specs.Faults.{Rose}
use Rattle.disk_frames.specs.Frames.{body}
use Rattle.disk_frames.specs.Salvage.{first_of}
use Rattle.disk_frames.specs.declared.reading.Reading.{Reading}
use Rattle.disk_frames.specs.declared.reading.Reading.TheVariants as reading
use Rattle.disk_frames.specs.declared.finding.Found.{Found}
use Rattle.disk_frames.specs.declared.finding.Found.TheVariants as found

-- these are the first bytes of what is told
abbrev pub AreFirst : Option (List ℕ) → List ℕ → Type 0
AreFirst told bytes = IfSome told (λ text. bytes ≡ take (length bytes) text)

-- what is told has no more than so many bytes
abbrev pub EndsBy : Option (List ℕ) → ℕ → Type 0
EndsBy told n = IfSome told (λ text. length text ≤ n)

-- what an answer says of how many bytes were read: so many as were wanted, or all
abbrev pub Reaches : Option (List ℕ) → ℕ → ℕ → Reading → Type 0
Reaches told wanted n reading.Read = (wanted ≤ n) ⊎ EndsBy told n
Reaches told wanted n reading.Failed = ⊤
Reaches told wanted n reading.Memory = ⊤

-- and of the counts of faults
abbrev pub ReadingHasCause : ℕ → ℕ → Reading → Type 0
ReadingHasCause before now reading.Read = now ≡ before
ReadingHasCause before now reading.Failed = Rose before now
ReadingHasCause before now reading.Memory = now ≡ before

-- a frame of this text stands there, with a next gate
pub record HasTextAt (bytes : List ℕ) (at : ℕ) (text : List ℕ) : Type 0 where
  pub rest : List ℕ
  pub parts : drop at bytes ≡ 1 ∷ (body text ++ rest)
  pub gate : 0 < length rest

-- an open gate stands there, and behind it no frame with a next gate
pub record HasNoTextAt (bytes : List ℕ) (at : ℕ) : Type 0 where
  pub behind : List ℕ
  pub parts : drop at bytes ≡ 1 ∷ behind
  pub none : (text rest : List ℕ) → length text < 2 ^ 64 → 0 < length rest → behind ≡ body text ++ rest → ⊥

-- what an answer says of what is told, where these are its first bytes
abbrev pub Finds : Option (List ℕ) → ℕ → List ℕ → Found → Type 0
Finds told at bytes (found.Text size) = IfSome told (λ text. HasTextAt text at (take size (drop (at + 9) bytes)))
Finds told at bytes (found.Closed last) = IfSome told (λ text. last ≡ first_of (drop at text))
Finds told at bytes found.Nothing = IfSome told (λ text. HasNoTextAt text at)
Finds told at bytes found.Failed = ⊤
Finds told at bytes found.Memory = ⊤

-- and of the bytes, whatever is told
abbrev pub FindsWithin : ℕ → List ℕ → Found → Type 0
FindsWithin at bytes (found.Text size) = at + 9 + size < length bytes
FindsWithin at bytes (found.Closed last) = last ≢ Some 1
FindsWithin at bytes found.Nothing = at < length bytes
FindsWithin at bytes found.Failed = ⊤
FindsWithin at bytes found.Memory = ⊤

-- and of the counts of faults
abbrev pub FoundHasCause : ℕ → ℕ → Found → Type 0
FoundHasCause before now (found.Text size) = now ≡ before
FoundHasCause before now (found.Closed last) = now ≡ before
FoundHasCause before now found.Nothing = now ≡ before
FoundHasCause before now found.Failed = Rose before now
FoundHasCause before now found.Memory = now ≡ before
