use Rattle.std.proofs.Common.{◌++◌, [], ◌∷◌, ap, sym, ◌∙◌, subst}
use Rattle.lock_tally.specs.Crews.{AreDone}
use Rattle.lock_tally.proofs.Worked.{both_done, taken_out}
use Rattle.pool_trials.proofs.tally.count_in_turn.Goals as goal

-- the two workers come back in their order
pub settle-requires-clause-done : goal.settle-requires-clause-done
settle-requires-clause-done g c =
    let hired = c.in_ok-lock.ensures in
    let out = taken_out c.in_ok-lock.workers.items c.remove-second.new.self.items c.remove-first.new.self.items c.remove-first.result hired.count_is c.remove-second.ensures.items c.remove-first.ensures.value c.remove-first.ensures.items in
    let items = c.push_reserved-2.ensures.items ∙ ap (λ l. l ++ c.work_in_turn.new.second ∷ []) (c.push_reserved.ensures.items ∙ ap (λ l. l ++ c.work_in_turn.new.first ∷ []) out.1) in
    subst (AreDone c.in_ok-lock.lock 2 c.args.turns) (sym items)
    (both_done c.in_ok-lock.lock c.args.turns c.in_ok-lock.workers.items c.remove-first.result c.remove-second.result c.work_in_turn.new.first c.work_in_turn.new.second hired out.0 c.remove-second.ensures.value c.work_in_turn.ensures.first c.work_in_turn.ensures.second)
