use Rattle.std.proofs.Common.{take}
use Rattle.evidence_rec.specs.Records.{founds}
use Rattle.gm_base.specs.Roles.{is_met, stands_alone}
use Rattle.focus_roles.specs.Marked.{IsMarkedBy}
use Rattle.focus_roles.proofs.roles.marks_of.Given as goal

-- the records so far are marked
abbrev pub invariant-loop-made : goal.invariant-loop-made
invariant-loop-made l = record {
  met : IsMarkedBy (is_met (founds (take l.made-index l.records))) l.groups l.met.items;
  alone : IsMarkedBy (stands_alone (founds (take l.made-index l.records))) l.groups l.alone.items;
}
