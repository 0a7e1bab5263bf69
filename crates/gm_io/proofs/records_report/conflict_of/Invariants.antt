use Rattle.std.proofs.Common.{◌≡◌, false, take}
use Rattle.std.specs.List.{list_any}
use Rattle.gm_base.specs.declared.kind.Kind.TheVariants.{Conflict}
use Rattle.gm_io.specs.Numbered.{is_of}
use Rattle.gm_io.proofs.records_report.conflict_of.Given as goal

-- none so far is one
abbrev pub invariant-loop-made : goal.invariant-loop-made
invariant-loop-made l = list_any (is_of Conflict l.set) (take l.made-index l.records) ≡ false
