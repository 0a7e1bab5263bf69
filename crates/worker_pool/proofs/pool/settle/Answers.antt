use Rattle.std.proofs.Common.{sym, ◌∙◌, subst}
use Rattle.worker_pool.specs.Outcomes.{IsLeft}
use Rattle.worker_pool.proofs.Crewed.{is_left, have_calls, counted}
use Rattle.worker_pool.proofs.pool.settle.Goals as goal

-- the logs of the workers, and last the map's
pub returns : goal.returns
returns g c =
    let b = c.args.board in
    let keeps = c.args._keeps in
    let o = b.opening in
    let over = c.requires.over in
    let closing = c.in-Closed.closing in
    let left = is_left keeps b c.args.seats.items c.args.logs.items closing c.in-Closed.map_log over c.in-Closed.ensures in
    let logs = c.from_vec.ensures ∙ c.push_reserved.ensures.items in
    let all = subst (λ l. IsLeft o keeps l closing) (sym logs) left in
    record {
      ended = record { left = all; spent = counted o keeps c.from_vec.result c.as_slice.result.now closing c.learned_sum.result all c.requires.budget (c.as_slice.ensures.value ∙ sym c.from_vec.ensures) c.learned_sum.ensures };
      calls = have_calls b c.args.seats.items closing c.in-Closed.map_log over.all c.in-Closed.ensures;
    }
