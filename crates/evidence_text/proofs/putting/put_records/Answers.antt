use Rattle.std.proofs.Common.{◌+◌, ◌∙◌, arith, sym, take, drop, ap, subst}
use Rattle.std.specs.List.{flat_map}
use Rattle.std.proofs.lemmas.Result.{err_from_is_err_and}
use Rattle.evidence_rec.specs.Serving.{IsIndexOf}
use Rattle.evidence_rec.specs.Shorten.{shorten}
use Rattle.evidence_rec.proofs.ServingLemmas.{can-shorten, groups-within, accepted-front, accepted-there}
use Rattle.evidence_text.specs.Text.{record_text}
use Rattle.evidence_text.proofs.PuttingLemmas.{up_to-begin, up_to-more, up_to-cut, up_to-end, drop-record, take-record, records-left, records-none}
use Rattle.evidence_text.proofs.putting.put_records.Goals as goal

pub loop-at-init : goal.loop-at-init
loop-at-init g c = record {
  put = up_to-begin c.args.waiting.now.items (flat_map record_text (shorten c.args.records.now)) (g.met.S.LineSink.adds_up.nothing c.args.sink.now);
  groups = c.in-Ok.ensures.groups ∙ ap (λ n. n + 1) c.groups.ensures.count;
  index = c.in-Ok.ensures.none;
}

-- behind accepted records, what serves in the next one has the group
pub put_next-requires-clause-shortens : goal.put_next-requires-clause-shortens
put_next-requires-clause-shortens g c =
    let records = c.args.records.now in
    let at = c.loop-at.at in
    let made = c.index-records-at.result in
    can-shorten c.args.problem.now (take at records) made c.loop-at.index c.groups.ensures.well_formed (accepted-front c.args.problem.now records at c.requires)
    (accepted-there c.args.problem.now records at made (drop (at + 1) records) (drop-record records at made c.loop-at-test.true (sym c.index-records-at.is)) c.requires)
    c.loop-at.invariant.groups c.loop-at.invariant.index

pub put_next-requires-clause-within : goal.put_next-requires-clause-within
put_next-requires-clause-within g c =
    let records = c.args.records.now in
    let at = c.loop-at.at in
    let made = c.index-records-at.result in
    groups-within c.args.problem.now (take at records) made c.loop-at.index
    (accepted-there c.args.problem.now records at made (drop (at + 1) records) (drop-record records at made c.loop-at-test.true (sym c.index-records-at.is)) c.requires)
    c.loop-at.invariant.groups

pub returns-in_err-put_next : goal.returns-in_err-put_next
returns-in_err-put_next g c =
    let p = err_from_is_err_and c.from_residual.result c.from_residual.ensures.1 in
    rw (p.1, p.2)
    (up_to-cut g.met.S.LineSink.adds_up c.args.sink.now c.loop-at.sink c.put_next.new.sink c.args.waiting.now.items c.loop-at.waiting.items c.put_next.new.waiting.items _ _ _ _ _
    (records-left c.args.records.now c.loop-at.at c.index-records-at.result c.loop-at-test.true (sym c.index-records-at.is)) c.loop-at.invariant.put c.in_err-put_next.ensures.puts)

pub loop-at-preserved : goal.loop-at-preserved
loop-at-preserved g c =
    let records = c.args.records.now in
    let at = c.loop-at.at in
    let made = c.index-records-at.result in
    record {
      put =
          up_to-more g.met.S.LineSink.adds_up c.args.sink.now c.loop-at.sink c.put_next.new.sink c.args.waiting.now.items c.loop-at.waiting.items c.put_next.new.waiting.items _ _ _ _
          (records-left records at made c.loop-at-test.true (sym c.index-records-at.is)) c.loop-at.invariant.put c.in_ok-put_next.ensures.puts;
      groups = c.in_ok-put_next.ensures.groups ∙ c.loop-at.invariant.groups;
      index = subst (λ rs. IsIndexOf rs c.put_next.new.index) (sym (take-record records at made c.loop-at-test.true (sym c.index-records-at.is))) c.in_ok-put_next.ensures.index;
    }

pub returns : goal.returns
returns g c = up_to-end c.args.waiting.now.items c.loop-at.waiting.items _ _ (records-none c.args.records.now c.loop-at.at (omega arith)) c.loop-at.invariant.put
