use Rattle.std.proofs.Common.{length, ◌-◌, ◌≡◌, ◌≤◌, take}
use Rattle.gm_ports.specs.Told.{ToldAppends}
use Rattle.gm_ports.proofs.whole.write_all.Given as goal

-- the sink got what stands before `at`, and met no fault
abbrev pub invariant-loop-at : goal.invariant-loop-at
invariant-loop-at g l =
    record {
      in_range : l.at ≤ length l.text;
      got : ToldAppends (g.S.Sink.got l.fn.sink) (g.S.Sink.got l.sink) (take l.at l.text);
      quiet : g.S.Sink.faults l.sink ≡ g.S.Sink.faults l.fn.sink;
    }

abbrev pub decreases-loop-at : goal.decreases-loop-at
decreases-loop-at g l = length l.text - l.at
