use Rattle.std.proofs.Common.{◌≡◌, ℕ, ◌<◌, length, true, subst, sym}
use Rattle.map_core.specs.Core.{State, worker_at}
use Rattle.map_core.specs.Closings.{HaveEnded}
use Rattle.map_core.proofs.Kept.{ended_from, ended_to}
use Rattle.map_core.proofs.calls.MapCore.have_ended.Goals as goal

pub returns : goal.returns
returns g c = (
  λ h. subst (λ (s : State). HaveEnded s.opening s.history) c.self.view_is
      (ended_from c.self.invariant (subst (λ ws. (k : ℕ) → k < length ws → (worker_at ws k).ended ≡ true) c.as_slice.ensures.value (c.all_ended.ensures.0 h))),
  λ over. c.all_ended.ensures.1 (subst (λ ws. (k : ℕ) → k < length ws → (worker_at ws k).ended ≡ true) (sym c.as_slice.ensures.value)
      (ended_to c.self.invariant (subst (λ (s : State). HaveEnded s.opening s.history) (sym c.self.view_is) over))),
)
