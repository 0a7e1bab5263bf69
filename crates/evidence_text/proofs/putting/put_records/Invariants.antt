use Rattle.std.proofs.Common.{◌≡◌, ◌+◌, length, take, drop}
use Rattle.std.specs.List.{flat_map}
use Rattle.evidence_rec.specs.Serving.{IsIndexOf}
use Rattle.evidence_rec.specs.Shorten.{shorten, shortened_behind}
use Rattle.evidence_text.specs.Text.{record_text}
use Rattle.evidence_text.proofs.PuttingLemmas.{IsPutUpTo}
use Rattle.evidence_text.proofs.putting.put_records.Given as goal

-- those so far were put, and the index has them
abbrev pub invariant-loop-at : goal.invariant-loop-at
invariant-loop-at g l =
    record {
      put :
          IsPutUpTo (g.S.LineSink.took l.fn.sink l.sink) l.fn.waiting.items l.waiting.items
          (flat_map record_text (shorten l.records)) (flat_map record_text (shortened_behind (take l.at l.records) (drop l.at l.records)));
      groups : length l.index ≡ l.problem.groups + 1;
      index : IsIndexOf (take l.at l.records) l.index;
    }
