use Rattle.std.proofs.Common.{rules, arith, subst, refl, ◌∙◌}
use Rattle.map_core.specs.declared.entry.Retirement.TheVariants as retirement
use Rattle.worker_pool.specs.Pens.{IsSamePen}
use Rattle.worker_pool.specs.Exploring.{TellsExplored}
use Rattle.evidence_rec.specs.Records.{IsAcceptedAlone}
use Rattle.worker_pool.proofs.Steps.{spent-within, longer, same-seat, owing, refill_goes_on, refill_ends, retire_ends}
use Rattle.worker_pool.proofs.Written.{same_pen}
use Rattle.worker_pool.proofs.Kept.{keeps_on, has_kept}
use Rattle.worker_pool.proofs.marco.work_on.Goals as goal

-- what was used is what is no more in the purse
pub overflow_sub-used : goal.overflow_sub-used
overflow_sub-used g c = let within = spent-within c.explore-explored.ensures.spent in let full = c.loop-record.invariant.full in omega arith

-- the worker owes what was used
pub hand_in-requires-clause-owing : goal.hand_in-requires-clause-owing
hand_in-requires-clause-owing g c =
    let i = c.loop-record.invariant in
    let e = c.explore-explored.ensures in
    let within = spent-within e.spent in
    let full = i.full in
    let granted = i.granted in
    owing i.at e.spent (omega arith) (omega arith)

-- the record explores the seed
pub hand_in-requires-clause-accepted : goal.hand_in-requires-clause-accepted
hand_in-requires-clause-accepted g c =
    let e = c.explore-explored.ensures in
    let told = subst (TellsExplored (g.O.Oracle.state c.explore-explored.new.oracle) c.args.seed.now c.explore-explored.new.purse.left) c.in-Ok-Found.field-0-is c.in-Ok-Found.ensures.explored in
    subst (λ q. IsAcceptedAlone q c.in-Ok-Found.record) (e.spent.problem ∙ c.loop-record.invariant.at.worker.asks_of) told.0

pub hand_in-requires-clause-explored : goal.hand_in-requires-clause-explored
hand_in-requires-clause-explored g c =
    let told = subst (TellsExplored (g.O.Oracle.state c.explore-explored.new.oracle) c.args.seed.now c.explore-explored.new.purse.left) c.in-Ok-Found.field-0-is c.in-Ok-Found.ensures.explored in
    told.1

-- without a grant the search stands where the purse was found empty
pub returns-in_default : goal.returns-in_default
returns-in_default g c =
    let i = c.loop-record.invariant in
    let e = c.explore-explored.ensures in
    let within = spent-within e.spent in
    let full = i.full in
    let call = c.refill-refilled.ensures.call in
    let more = longer call in
    let before = i.longer in
    let w = c.loop-record.worker in
    let told = subst (TellsExplored (g.O.Oracle.state c.explore-explored.new.oracle) c.args.seed.now c.explore-explored.new.purse.left) c.in-Ok-Dry.field-0-is c.in-Ok-Dry.ensures.explored in
    record {
      same = same-seat i.same call;
      goes_on = λ no. cc;
      keeps = λ no. (let never : ⊥ = cc in absurd never);
      ends = λ _. refill_ends c.refill-refilled.result i.at e.spent (omega arith) told.undecided call c.refill-refilled.ensures.worker c.in_default.not-Grant;
      kept = has_kept c.args.worker.now _ (keeps_on w _ i.keeps refl refl call refl refl) (subst (λ x. IsSamePen x w.pen) i.pen (same_pen w.pen));
      longer = omega arith;
      short = call.short;
    }

-- with one the job goes on
pub loop-record-preserved : goal.loop-record-preserved
loop-record-preserved g c =
    let i = c.loop-record.invariant in
    let e = c.explore-explored.ensures in
    let within = spent-within e.spent in
    let full = i.full in
    let call = c.in-Grant.ensures.call in
    let more = longer call in
    let before = i.longer in
    record {
      at = refill_goes_on c.in-Grant.more i.at e.spent (omega arith) call c.in-Grant.ensures.worker;
      granted = search rules;
      full = refl;
      same = same-seat i.same call;
      longer = omega arith;
      keeps = keeps_on c.loop-record.worker _ i.keeps refl refl call refl refl;
      pen = i.pen;
    }

-- want of memory ends the worker
pub returns-in-Err : goal.returns-in-Err
returns-in-Err g c =
    let i = c.loop-record.invariant in
    let e = c.explore-explored.ensures in
    let within = spent-within e.spent in
    let full = i.full in
    let granted = i.granted in
    let call = c.retire.ensures.call in
    let more = longer call in
    let before = i.longer in
    let w = c.loop-record.worker in
    record {
      same = same-seat i.same call;
      goes_on = λ no. (let never : ⊥ = cc in absurd never);
      keeps = λ no. (let never : ⊥ = cc in absurd never);
      ends = λ _. retire_ends retirement.Memory (owing i.at e.spent (omega arith) (omega arith)) refl call c.retire.ensures.worker;
      kept = has_kept c.args.worker.now _ (keeps_on w _ i.keeps refl refl call refl refl) (subst (λ x. IsSamePen x w.pen) i.pen (same_pen w.pen));
      longer = omega arith;
      short = call.short;
    }
