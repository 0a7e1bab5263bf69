-- How a trail keeps its entries: a table of slots, which stand here the newest first.
use Rattle.std.specs.Prelude.{◌≡◌, ℕ, ◌-◌, List, [], ◌∷◌, length, map, Option, Some, None, ◌==◌, if◌then◌else◌, slice_index_or}
use Rattle.sat_base.specs.Literals.{var_of}
use Rattle.trail_book.specs.declared.entry.Entry.{Entry}
use Rattle.trail_book.specs.declared.slot.Slot.{Slot}
use Rattle.trail_book.specs.Trail.{top}

-- ids are from 1, and 0 stands for none
abbrev pub id_of : ℕ → Option ℕ
id_of number = if number == 0 then None else Some number

-- what callers see of a slot
abbrev pub entry_of : Slot → Entry
entry_of slot = record { lit = slot.lit; reason = id_of slot.reason; unit = id_of slot.unit }

-- what callers see of slots
abbrev pub entries_of : List Slot → List Entry
entries_of slots = map entry_of slots

-- a slot has the level of its entry, and the places by variable have its place, over these slots below it
pub record IsKept (places : List ℕ) (slot : Slot) (below : List Slot) : Type 0 where
  pub level : slot.level ≡ top (entries_of (slot ∷ below))
  pub place : slice_index_or places (var_of slot.lit - 1) 0 ≡ length below

-- the same of each slot
abbrev pub AreKept : List ℕ → List Slot → Type 0
AreKept places [] = Unit {0}
AreKept places (slot ∷ below) = IsKept places slot below × AreKept places below
