-- What a start does to a disk, whatever it answers.
use Rattle.std.specs.Prelude.{◌≢◌, ◌≡◌, ◌⊎◌, ℕ, ◌≤◌, List, [], ◌∷◌, length, Option, Some, None, IfSome}
use Rattle.gm_ports.specs.DiskState.{DiskState, Looks, Only, TellsStill, written}

-- a disk without a gate has got a closed one at this place, and not a byte more
abbrev pub IsMade : DiskState → DiskState → ℕ → Option ℕ → Type 0
IsMade old new gate last = last ≡ None → IfSome old.reads (λ bytes. gate ≤ length bytes → new.reads ≡ Some (written bytes gate (0 ∷ [])))

-- There is a moment before the return up to which no crash leaves what none could leave at the entry. There the call ended,
-- or nothing was pending. Where the disk had a gate, that moment is the return, and the disk reads as it did
pub record IsReadied {D : Type 0} (state : D → DiskState) (old new : D) (last : Option ℕ) : Type 0 where
  pub mid : D
  pub looks : Looks (state old) (state mid)
  pub until : (state mid).moment ≤ (state new).moment
  pub there : IfSome (state old).reads (λ text. Only text (state mid).may_leave) ⊎ (new ≡ mid)
  -- a crash since the entry left what one could leave then, or it came since that moment
  pub since : (c : List ℕ) → (state new).left_since (state old).moment c → (state old).may_leave c ⊎ (state new).left_since (state mid).moment c
  pub with_gate : last ≢ None → Looks (state old) (state new) × (new ≡ mid)
  pub tells : TellsStill (state old) (state new)
  pub name : (state new).name ≡ (state old).name
