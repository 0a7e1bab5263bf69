-- What a journal was started with, and its entries.
use Rattle.std.specs.Prelude.{ℕ, List, Option}
use Rattle.gm_base.specs.Problem.{Problem}
use Rattle.gm_ports.specs.DiskState.{DiskState}
use Rattle.evidence_rec.specs.declared.record.Record.{Record}
use Rattle.evidence_text.specs.Alone.{Written}
use Rattle.gm_journal.specs.declared.entry.Appended.{Appended}

-- the problem, the records that were salvaged, and how many seats there are; and of the disk, as it was when it had been made
-- ready, the count of faults, the name and what reads gave, each told or not, and the moment
pub record OpeningView : Type 0 where
  pub problem : Problem
  pub records : List Record
  pub seats : ℕ
  pub faults : ℕ
  pub name : Option (List ℕ)
  pub reads : Option (List ℕ)
  pub moment : ℕ

-- a journal of these that was opened on this disk
abbrev pub opening_of : Problem → List Record → ℕ → DiskState → OpeningView
opening_of p records seats disk =
    record { problem = p; records = records; seats = seats; faults = disk.faults; name = disk.name; reads = disk.reads; moment = disk.moment }

-- one append: whose it was, the kind, the set and the lines of its record, the answer, and the disk's moment at its end
pub record EntryView : Type 0 where
  pub who : ℕ
  pub text : Written
  pub reply : Appended
  pub moment : ℕ

abbrev pub who_of : EntryView → ℕ
who_of e = e.who
