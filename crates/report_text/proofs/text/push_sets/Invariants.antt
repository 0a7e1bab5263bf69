use Rattle.std.proofs.Common.{◌≡◌, ◌++◌, take}
use Rattle.std.specs.List.{flat_map}
use Rattle.report_text.specs.Report.{set_line}
use Rattle.gm_base.specs.Lent.{lists_of}
use Rattle.report_text.proofs.text.push_sets.Given as goal

abbrev pub invariant-loop-set : goal.invariant-loop-set
invariant-loop-set l = l.out.items ≡ l.fn.out.items ++ flat_map (set_line l.letter) (lists_of (take l.set-index l.sets))
