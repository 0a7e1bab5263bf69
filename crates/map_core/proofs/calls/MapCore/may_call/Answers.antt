use Rattle.std.proofs.Common.{◌<◌, length, subst, sym, arith}
use Rattle.map_core.specs.Core.{State}
use Rattle.map_core.specs.Own.{CanCall, calls_of}
use Rattle.map_core.proofs.Kept.{may_from, may_to, alive_at, not_ended_at}
use Rattle.map_core.proofs.calls.MapCore.may_call.Goals as goal

pub returns-then-at-len : goal.returns-then-at-len
returns-then-at-len g c =
    let i = c.self.inside in
    let low = c.if-at-len.true in
    let seat : c.args.w < length i.workers.items = omega (arith, c.len.ensures, i.workers.ok.0) in (
      λ h. subst (λ (s : State). CanCall s.opening c.args.w 0 (calls_of c.args.w s.history)) c.self.view_is
          (may_from c.args.w c.self.invariant seat (alive_at i.workers.items c.args.w c.index.result.now seat c.index.ensures h)),
      λ can. not_ended_at i.workers.items c.args.w c.index.result.now seat c.index.ensures
          (may_to c.args.w c.self.invariant (subst (λ (s : State). CanCall s.opening c.args.w 0 (calls_of c.args.w s.history)) (sym c.self.view_is) can)).1,
    )
