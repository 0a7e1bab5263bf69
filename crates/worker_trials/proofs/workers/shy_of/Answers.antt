use Rattle.std.proofs.Common.{List, ◌∷◌, [], ◌++◌, ◌≤◌, ◌≡◌, ◌+◌, length, All, sym, subst, rules}
use Rattle.std.proofs.lemmas.List.Elements.{All-push}
use Rattle.std.specs.Vec.{vec_capacity}
use Rattle.evidence_rec.specs.Asking.{OracleState}
use Rattle.worker_pool.specs.Workers.{IsFresh}
use Rattle.worker_trials.proofs.workers.shy_of.Goals as goal

pub loop-at-preserved : goal.loop-at-preserved
loop-at-preserved c =
    let P : OracleState → Type 0 = λ o. IsFresh c.args.problem.now o in
    let before = c.loop-at.oracles.items in
    let items : c.push_reserved.new.self.items ≡ before ++ c.new.result ∷ [] = c.push_reserved.ensures.items in
    let fresh : P c.new.result = subst P (sym c.new.ensures) (record { asks_of = c.in_ok-table.ensures.problem; nothing = c.in_ok-table.ensures.nothing }) in
    let longer : length c.push_reserved.new.self.items ≡ c.loop-at.at-index + 1 = search rules in
    let room : length c.args.questions.now ≤ vec_capacity c.push_reserved.new.self = search rules in (
      longer,
      subst (λ (os : List OracleState). All P os) (sym items) (All-push P before c.new.result c.loop-at.invariant.1 fresh),
      room,
    )
