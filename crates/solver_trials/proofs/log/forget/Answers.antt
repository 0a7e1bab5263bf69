use Rattle.std.proofs.Common.{◌∙◌, sym, arith}
use Rattle.solver_trials.proofs.LogLemmas.{all_live}
use Rattle.solver_trials.proofs.log.forget.Goals as goal

-- no learnt clause was forgotten
pub forget-requires : goal.forget-requires
forget-requires c =
    let low = c.if-id-eq0.false in
    let high = c.if-id-len.false in
    let len = c.len.ensures in
    let all = c.if-live_learned-learned.false in
    record { live = all_live c.args.log.now c.in-Some.id (omega (arith, low)) (omega (arith, high, len)) (sym c.live_learned.ensures ∙ all ∙ c.learned.ensures) (sym c.kind.ensures ∙ c.in-Learned.is) }
