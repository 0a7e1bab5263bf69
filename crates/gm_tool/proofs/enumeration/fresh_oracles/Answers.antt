use Rattle.std.proofs.Common.{◌≡◌, length, arith}
use Rattle.std.specs.Prelude.{All}
use Rattle.std.proofs.lemmas.Result.{IfOk-weaker}
use Rattle.worker_pool.specs.Workers.{IsFresh}
use Rattle.gm_tool.proofs.MadeLemmas.{as_many, all_hold}
use Rattle.gm_tool.proofs.enumeration.fresh_oracles.Goals as goal

-- there is one for each call
pub returns-clause-count : goal.returns-clause-count
returns-clause-count g c =
    let made = c.in_ok-made in
    IfOk-weaker c.all_of.result _ (λ all. length all.items ≡ c.args.count) (λ all same. omega (arith, as_many all.items made.made.items same, made.ensures.len, made.made.ok)) c.all_of.ensures

-- each call made a fresh one
pub returns-clause-fresh : goal.returns-clause-fresh
returns-clause-fresh g c =
    let p = c.args.problem.now in
    let made = c.in_ok-made in
    IfOk-weaker c.all_of.result _ (λ all. All (IsFresh p) all.items) (λ all same. all_hold (IsFresh p) all.items made.made.items (λ i d low. (made.ensures.each i d (omega (arith, low, made.ensures.len, made.made.ok))).1.met) same) c.all_of.ensures
