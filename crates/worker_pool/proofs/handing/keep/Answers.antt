use Rattle.std.proofs.Common.{refl, sym, ◌∙◌, option_copied, arith}
use Rattle.worker_pool.specs.Workers.{IsKeeping}
use Rattle.worker_pool.proofs.Steps.{longer, owing_nothing, retire_ends}
use Rattle.worker_pool.proofs.Written.{may_write, pen_after, goes_on_writing, ends_writing}
use Rattle.worker_pool.proofs.Kept.{has_kept}
use Rattle.worker_pool.proofs.handing.keep.Goals as goal

-- the pen is one of the journal's, and has not ended
pub write-written-requires : goal.write-written-requires
write-written-requires g c = let due = c.requires.due in may_write c.args.problem.now (option_copied c.args.journal) c.args.worker.now.pen c.args.text due.pen due.is_text due.there

-- the journal has the record
pub returns-in-None : goal.returns-in-None
returns-in-None g c =
    let due = c.requires.due in
    let j = option_copied c.args.journal in
    let old = c.args.worker.now in
    let after = c.write-written.new.pen in
    let pens = pen_after c.args.problem.now j old.pen c.args.text c.write-written.result after due.pen c.write-written.ensures in
    let on = goes_on_writing j old.pen c.args.text c.write-written.result after due.there due.news due.texts due.going c.write-written.ensures (sym c.retirement_by.ensures ∙ c.in-None.is) in
    let keeps : IsKeeping j c.args.problem.now _ = record { pen = pens.0; written = on.0; whole = c.failure_of-worker.ensures ∙ on.1 } in
    record {
      same = record { lock = refl; opening = refl; number = refl; made = refl };
      goes_on = λ _. c.requires.at;
      keeps = λ _. keeps;
      ends = λ no. (let never : ⊥ = cc in absurd never);
      kept = has_kept old _ keeps pens.1;
      longer = omega arith;
      short = c.requires.short;
    }

-- or the worker retires
pub returns-in-Some : goal.returns-in-Some
returns-in-Some g c =
    let due = c.requires.due in
    let j = option_copied c.args.journal in
    let old = c.args.worker.now in
    let after = c.write-written.new.pen in
    let call = c.retire.ensures.call in
    let pens = pen_after c.args.problem.now j old.pen c.args.text c.write-written.result after due.pen c.write-written.ensures in
    let off = ends_writing j old.pen c.args.text c.write-written.result after c.in-Some.why due.there due.news due.texts due.going c.write-written.ensures (sym c.retirement_by.ensures ∙ c.in-Some.is) call in
    let more = longer call in
    record {
      same = call.same;
      goes_on = λ no. (let never : ⊥ = cc in absurd never);
      keeps = λ no. (let never : ⊥ = cc in absurd never);
      ends = λ _. retire_ends c.in-Some.why (owing_nothing c.requires.at) off.0 call c.retire.ensures.worker;
      kept = record { pen = pens.1; written = off.1; broken = c.failure_of-worker.ensures ∙ off.2 };
      longer = omega arith;
      short = call.short;
    }
