use Rattle.std.proofs.Common.{◌≡◌, take}
use Rattle.evidence_rec.specs.Records.{founds}
use Rattle.size_counter.specs.Names.{names_of}
use Rattle.size_levels.proofs.levels.level_of.Given as goal

-- what the records so far name
abbrev pub invariant-loop-record : goal.invariant-loop-record
invariant-loop-record l = l.naming ≡ names_of l.fn.kind (founds (take l.record-index l.records))
