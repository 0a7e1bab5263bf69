use Rattle.std.proofs.Common.{◌<◌, ◌≤◌, List, ℕ, length, subst, arith}
use Rattle.std.proofs.lemmas.List.{take_all}
use Rattle.sat_base.specs.Hints.{ids_of}
use Rattle.lrat_steps.specs.Cone.{hints_at, PutsDerived}
use Rattle.lrat_steps.proofs.ConeLemmas.{hint_range, puts_next, puts_none}
use Rattle.lrat_steps.specs.Log.{steps_of}
use Rattle.lrat_steps.proofs.cone.put_hints.Goals as goal

-- a hint of an honest step is the id of an earlier one
pub put-requires-clause-from_one : goal.put-requires-clause-from_one
put-requires-clause-from_one c =
    let items = ids_of c.hints-hints.result in
    let lt : c.loop-at.at < length items = omega arith in
    (hint_range (steps_of c.args.log.now) c.args.id c.loop-at.at c.at.result items c.requires.backward c.requires.from_one c.requires.within c.hints-hints.ensures lt c.at.ensures).0

pub put-requires-clause-within : goal.put-requires-clause-within
put-requires-clause-within c =
    let items = ids_of c.hints-hints.result in
    let lt : c.loop-at.at < length items = omega arith in
    (hint_range (steps_of c.args.log.now) c.args.id c.loop-at.at c.at.result items c.requires.backward c.requires.from_one c.requires.within c.hints-hints.ensures lt c.at.ensures).1

pub loop-at-init : goal.loop-at-init
loop-at-init c = puts_none (steps_of c.args.log.now) c.args.work.now

pub loop-at-preserved : goal.loop-at-preserved
loop-at-preserved c =
    let items = ids_of c.hints-hints.result in
    let lt : c.loop-at.at < length items = omega arith in
    puts_next (steps_of c.args.log.now) c.args.work.now c.loop-at.work c.put.new.work c.args.id c.loop-at.at c.at.result items c.hints-hints.ensures lt c.at.ensures c.loop-at.invariant c.in_ok-put.ensures

-- all hints were put in
pub returns : goal.returns
returns c =
    let hints = hints_at (steps_of c.args.log.now) c.args.id in
    let past : length hints ≤ c.loop-at.at = subst (λ (xs : List ℕ). length xs ≤ c.loop-at.at) c.hints-hints.ensures (omega arith) in
    subst (λ (ids : List ℕ). PutsDerived (steps_of c.args.log.now) c.args.work.now ids c.loop-at.work) (take_all c.loop-at.at hints past) c.loop-at.invariant
