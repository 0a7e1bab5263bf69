-- How many seats have not ended.
use Rattle.std.specs.Prelude.{ℕ, zero, suc, ◌+◌, cond, List}
use Rattle.turn_lock.specs.Calls.{calls_by}
use Rattle.gm_journal.specs.Entries.{EntryView, who_of}
use Rattle.gm_journal.specs.Histories.{has_ended}

-- one, if this seat has not ended, by its entries
abbrev pub left_at : ℕ → List EntryView → ℕ
left_at n entries = cond (has_ended (calls_by who_of n entries)) 0 1

-- of the seats below n
abbrev pub seats_left : ℕ → List EntryView → ℕ
seats_left zero entries = 0
seats_left (suc n) entries = seats_left n entries + left_at n entries
