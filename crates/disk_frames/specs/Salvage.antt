-- What a salvage gives: the texts of the open frames from byte 0 on, up to the first closed gate; or the first open gate
-- behind which no whole frame with a next gate stands whose text may come next.
--
-- Which text may come next is said by who judges. `Fits before text after` says that the text may come where `before` is what
-- was kept of the texts so far, and that `after` is what is kept then. The kept may be the texts themselves, or what was read
-- from them.
use Rattle.std.specs.Prelude.{◌≡◌, ◌≢◌, ℕ, ◌+◌, ◌^◌, ◌<◌, List, [], ◌∷◌, ◌++◌, length, Option, Some, None, ⊤}
use Rattle.gm_ports.specs.DiskState.{DiskState}
use Rattle.gm_ports.specs.Faults.{Rose}
use Rattle.disk_frames.specs.Frames.{body, frames}
use Rattle.disk_frames.specs.declared.salvaging.Salvaged.{Salvaged}
use Rattle.disk_frames.specs.declared.salvaging.Salvaged.TheVariants.{Ended, Foreign, Failed, Memory}

-- a text fits in one way: what is kept after it is determined
abbrev pub IsOneWay : {R K : Type 0} → (R → K → List ℕ → K → Type 0) → Type 0
IsOneWay {R} {K} fits = (rule : R) (before : K) (text : List ℕ) (after other : K) → fits rule before text after → fits rule before text other → after ≡ other

-- the text may come next, and its length is one that 8 bytes can say
pub record IsNext {K : Type 0} (Fits : K → List ℕ → K → Type 0) (before : K) (text : List ℕ) (after : K) : Type 0 where
  pub fits : Fits before text after
  pub size : length text < 2 ^ 64

-- each of the texts may come behind those before it, which leads from what was kept to what is kept
abbrev pub AreNext : {K : Type 0} → (K → List ℕ → K → Type 0) → K → List (List ℕ) → K → Type 0
AreNext Fits before [] after = after ≡ before
AreNext {K} Fits before (text ∷ texts) after = (next : K) × IsNext Fits before text next × AreNext Fits next texts after

abbrev pub first_of : List ℕ → Option ℕ
first_of [] = None
first_of (byte ∷ bytes) = Some byte

-- the bytes are frames of these texts up to this gate, which is closed; it is none only on an empty disk
pub record EndsAt (bytes : List ℕ) (texts : List (List ℕ)) (gate : ℕ) (last : Option ℕ) : Type 0 where
  pub rest : List ℕ
  pub parts : bytes ≡ frames texts ++ rest
  pub gate_is : gate ≡ length (frames texts)
  pub last_is : last ≡ first_of rest
  pub closed : last ≢ Some 1
  pub empty : last ≡ None → texts ≡ []

-- and each of them may come behind those before it
pub record IsSalvaged {K : Type 0} (Fits : K → List ℕ → K → Type 0) (first : K) (bytes : List ℕ) (texts : List (List ℕ)) (kept : K) (gate : ℕ) (last : Option ℕ) : Type 0 where
  pub ends : EndsAt bytes texts gate last
  pub next : AreNext Fits first texts kept

-- a whole frame with a next gate stands here, and its text may come next
pub record HasFrame {K : Type 0} (Fits : K → List ℕ → K → Type 0) (before : K) (behind : List ℕ) : Type 0 where
  pub text : List ℕ
  pub rest : List ℕ
  pub parts : behind ≡ body text ++ rest
  pub gate : 0 < length rest
  pub after : K
  pub next : IsNext Fits before text after

-- there is none behind the open gate at this place, and there are such frames up to it
pub record IsForeign {K : Type 0} (Fits : K → List ℕ → K → Type 0) (first : K) (bytes : List ℕ) (at : ℕ) : Type 0 where
  pub texts : List (List ℕ)
  pub kept : K
  pub behind : List ℕ
  pub parts : bytes ≡ frames texts ++ 1 ∷ behind
  pub at_is : at ≡ length (frames texts)
  pub next : AreNext Fits first texts kept
  pub fault : ¬ HasFrame Fits kept behind

-- what an answer says of the bytes that are told, and of what the judge kept first and last
abbrev pub Says : {K : Type 0} → (K → List ℕ → K → Type 0) → K → List ℕ → K → Salvaged → Type 0
Says Fits first bytes kept (Ended end) = (texts : List (List ℕ)) × IsSalvaged Fits first bytes texts kept end.gate end.last
Says Fits first bytes kept (Foreign at) = IsForeign Fits first bytes at
Says Fits first bytes kept Failed = ⊤
Says Fits first bytes kept Memory = ⊤

-- what it says of any disk, told or not: the kept is that of texts each of which may come behind those before it
abbrev pub IsJudged : {K : Type 0} → (K → List ℕ → K → Type 0) → K → K → Salvaged → Type 0
IsJudged Fits first kept (Ended end) = (texts : List (List ℕ)) × AreNext Fits first texts kept
IsJudged Fits first kept (Foreign at) = ⊤
IsJudged Fits first kept Failed = ⊤
IsJudged Fits first kept Memory = ⊤

-- a gate is a place of which the next is a place too
abbrev pub EndsWithin : Salvaged → Type 0
EndsWithin (Ended end) = end.gate + 1 < 2 ^ 64
EndsWithin (Foreign at) = at + 1 < 2 ^ 64
EndsWithin Failed = ⊤
EndsWithin Memory = ⊤

-- what an answer says of the counts of faults: `Failed` comes only where the count rose, and every other leaves it
abbrev pub SalvageHasCause : ℕ → ℕ → Salvaged → Type 0
SalvageHasCause before now (Ended end) = now ≡ before
SalvageHasCause before now (Foreign at) = now ≡ before
SalvageHasCause before now Failed = Rose before now
SalvageHasCause before now Memory = now ≡ before

-- a disk that tells, whose journal ends at this gate with these texts before it
pub record IsReadTo (disk : DiskState) (texts : List (List ℕ)) (gate : ℕ) (last : Option ℕ) : Type 0 where
  pub bytes : List ℕ
  pub told : disk.reads ≡ Some bytes
  pub ends : EndsAt bytes texts gate last
