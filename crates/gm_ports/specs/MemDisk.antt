-- A disk in memory, which keeps all its calls, so that what a crash at any moment may have left can be read off them.
use Rattle.std.specs.Prelude.{◌≡◌, ◌⊎◌, ℕ, ◌+◌, ◌^◌, ◌<◌, ◌≤◌, List, [], ◌∷◌, ◌++◌, length, take, drop, Some, if◌then◌else◌, nat_lt}
use Rattle.gm_ports.specs.DiskState.{DiskState, Torn, written}
use Rattle.gm_ports.specs.Schedule.{ScheduleState, Fails, after_call}
use Rattle.gm_ports.specs.Schedule as schedule
use Rattle.gm_ports.specs.declared.disk_call.DiskCall.{DiskCall}
use Rattle.gm_ports.specs.declared.disk_call.DiskCall.TheVariants as kept

-- a call, as far as it is of account for a crash
pub data Change : Type 0 where
  Wrote : ℕ → List ℕ → Change
  Synced : Change
  -- a call that only looked, or failed
  Nothing : Change

-- what a call does to the bytes that reads give
abbrev pub moved : Change → List ℕ → List ℕ
moved (Wrote at piece) text = written text at piece
moved Synced text = text
moved Nothing text = text

-- and to those that a crash may leave: a sync leaves the text as it reads
abbrev pub loosened : Change → List ℕ → (List ℕ → Type 0) → List ℕ → Type 0
loosened (Wrote at piece) text outcomes = λ c. (d : List ℕ) × outcomes d × Torn at (length piece) d c
loosened Synced text outcomes = λ c. c ≡ text
loosened Nothing text outcomes = outcomes

-- the bytes that reads give after these calls, the first of them first
abbrev pub text_after : List ℕ → List Change → List ℕ
text_after text [] = text
text_after text (x ∷ xs) = text_after (moved x text) xs

-- the bytes that a crash may leave after them
abbrev pub outcomes_after : (List ℕ → Type 0) → List ℕ → List Change → List ℕ → Type 0
outcomes_after outcomes text [] = outcomes
outcomes_after outcomes text (x ∷ xs) = outcomes_after (loosened x text outcomes) (moved x text) xs

-- what a crash may leave of a disk that held only this text at first
abbrev pub MayLeave : List ℕ → List Change → List ℕ → Type 0
MayLeave first changes = outcomes_after (λ c. c ≡ first) first changes

-- a crash after the first k calls for some k from t on
pub record LeftSince (first : List ℕ) (changes : List Change) (t : ℕ) (c : List ℕ) : Type 0 where
  pub calls : ℕ
  pub since : t ≤ calls
  pub until : calls ≤ length changes
  pub left : MayLeave first (take calls changes) c

-- All of a disk in memory
pub record MemDiskState : Type 0 where
  -- as it read at first
  pub first : List ℕ
  -- all calls that there was room to keep
  pub changes : List Change
  -- how many bytes all writes took
  pub taken : ℕ
  -- how many calls may be kept, and how many bytes all writes may take
  pub call_room : ℕ
  pub byte_room : ℕ
  pub calls : ScheduleState
  -- the name under which it was opened last, and none of a byte before
  pub name : List ℕ

-- it tells everything, and holds the same under each name
abbrev pub disk_state : MemDiskState → DiskState
disk_state s = record {
  reads = Some (text_after s.first s.changes);
  may_leave = MayLeave s.first s.changes;
  moment = length s.changes;
  left_since = LeftSince s.first s.changes;
  held = λ name. Some (text_after s.first s.changes);
  name = Some s.name;
  faults = s.calls.faults;
}

-- how many bytes a kept call took of the pieces
abbrev pub bytes_of : DiskCall → ℕ
bytes_of kept.Looked = 0
bytes_of (kept.Wrote at size) = size
bytes_of kept.Synced = 0
bytes_of kept.Failed = 0

-- and all of them together
abbrev pub sizes : List DiskCall → ℕ
sizes [] = 0
sizes (call ∷ calls) = bytes_of call + sizes calls

-- the calls, of which those that wrote took their bytes from the pieces, one after the other
abbrev pub changes_of : List DiskCall → List ℕ → List Change
changes_of [] pieces = []
changes_of (kept.Looked ∷ calls) pieces = Nothing ∷ changes_of calls pieces
changes_of (kept.Wrote at size ∷ calls) pieces = Wrote at (take size pieces) ∷ changes_of calls (drop size pieces)
changes_of (kept.Synced ∷ calls) pieces = Synced ∷ changes_of calls pieces
changes_of (kept.Failed ∷ calls) pieces = Nothing ∷ changes_of calls pieces

-- the next call is one that fails: it is listed, or there is no room to keep it
abbrev pub WillFail : MemDiskState → Type 0
WillFail s = Fails s.calls ⊎ (s.call_room ≤ length s.changes)

-- a write of so many bytes finds room: it does not begin past the end, nor go past the greatest place, nor take more
-- bytes than there are left
pub record HasPlace (s : MemDiskState) (at size : ℕ) : Type 0 where
  pub inside : at ≤ length (text_after s.first s.changes)
  pub within : at + size < 2 ^ 64
  pub room : s.taken + size ≤ s.byte_room

-- with one call more, where there is room to keep it
abbrev pub with_fault : MemDiskState → List Change
with_fault s = if nat_lt (length s.changes) s.call_room then s.changes ++ Nothing ∷ [] else s.changes

-- the same of the calls as they are kept
abbrev pub with_call : ℕ → List DiskCall → DiskCall → List DiskCall
with_call room calls call = if nat_lt (length calls) room then calls ++ call ∷ [] else calls

-- after a call that failed
abbrev pub after_fault : MemDiskState → MemDiskState
after_fault s = record s { changes = with_fault s; calls = schedule.after_fault s.calls }

-- after a call that only looked, one that wrote, and one that synced
abbrev pub after_look : MemDiskState → MemDiskState
after_look s = record s { changes = s.changes ++ Nothing ∷ []; calls = after_call s.calls }

-- after it was opened under this name
abbrev pub after_open : MemDiskState → List ℕ → MemDiskState
after_open s name = record (after_look s) { name = name }

abbrev pub after_write : MemDiskState → ℕ → List ℕ → MemDiskState
after_write s at piece = record s { changes = s.changes ++ Wrote at piece ∷ []; taken = s.taken + length piece; calls = after_call s.calls }

abbrev pub after_sync : MemDiskState → MemDiskState
after_sync s = record s { changes = s.changes ++ Synced ∷ []; calls = after_call s.calls }

-- what the parts of a disk in memory have to do with each other
pub record IsInStep (first bytes pieces : List ℕ) (calls : List DiskCall) (call_room byte_room calls_taken bytes_taken pieces_taken : ℕ) : Type 0 where
  -- the bytes as they read are those that the kept calls made
  pub reads : bytes ≡ text_after first (changes_of calls pieces)
  pub parted : sizes calls ≡ length pieces
  pub calls_fit : length calls ≤ call_room
  pub pieces_fit : length pieces ≤ byte_room
  pub grown : length bytes ≤ length first + length pieces
  -- room was taken beforehand
  pub call_space : call_room ≤ calls_taken
  pub piece_space : byte_room ≤ pieces_taken
  pub byte_space : length first + byte_room ≤ bytes_taken
