use Rattle.std.proofs.Common.{◌≡◌, ◌≤◌, sym, ap, ◌∙◌, subst, arith}
use Rattle.map_core.specs.Core.{State, worker_at, turn_at, settle}
use Rattle.map_core.specs.Own.{CanCall, calls_of}
use Rattle.map_core.specs.Kept.{IsReady}
use Rattle.map_core.specs.declared.turn.Turn.{Turn}
use Rattle.map_core.proofs.Kept.{ready}
use Rattle.map_core.proofs.calls.MapCore.settled.Goals as goal

pub begin-requires-clause-within : goal.begin-requires-clause-within
begin-requires-clause-within g c =
    let r =
    ready c.self.invariant
    (subst (λ (s : State). CanCall s.opening c.args.w c.args.used (calls_of c.args.w s.history)) (sym c.self.view_is) c.requires) in
    subst (λ ws. c.args.used ≤ (worker_at ws c.args.w).purse) (sym c.as_slice.ensures.value) r.within

pub begin-requires-clause-fits : goal.begin-requires-clause-fits
begin-requires-clause-fits g c =
    let r = ready c.self.invariant (subst (λ (s : State). CanCall s.opening c.args.w c.args.used (calls_of c.args.w s.history)) (sym c.self.view_is) c.requires) in r.fits

pub returns : goal.returns
returns g c =
    let i = c.self.inside in
    let r =
    ready c.self.invariant
    (subst (λ (s : State). CanCall s.opening c.args.w c.args.used (calls_of c.args.w s.history)) (sym c.self.view_is) c.requires) in
    let turn =
    subst
    (λ ws. c.begin.result ≡ settle c.args.used (record { worker = worker_at ws c.args.w; common = i.common }))
    c.as_slice.ensures.value c.begin.ensures in
    let back = r.back in
    let a = ap (λ (x : Turn). x.common.available) turn in
    let p = ap (λ (x : Turn). x.worker.purse) turn in
    let q = ap (λ (x : Turn). x.common.spent) turn in
    record {
      turn = subst (λ (s : State). c.begin.result ≡ settle c.args.used (turn_at s c.args.w)) c.self.view_is turn;
      ready = subst (λ s. IsReady s c.args.w c.args.used) c.self.view_is r;
      fits = omega arith;
      alive = ap (λ (x : Turn). x.worker.ended) turn ∙ r.alive;
    }
