-- How steps are laid out: all literals one after another, all hints one after another, and the spans that cut them.
use Rattle.std.specs.Prelude.{◌≤◌, List, length, All}
use Rattle.sat_base.specs.Derivation.{Step, max_id}
use Rattle.sat_base.specs.Cuts.{start, steps_behind, AreBehind}
use Rattle.sat_base.specs.declared.steps.Steps.TheInside.{Inside}

-- the steps of all spans
abbrev pub steps_of : Inside → List Step
steps_of s = steps_behind s.lits.items s.hints start s.spans.items

pub record IsLaidOut (s : Inside) : Type 0 where
  pub spans : AreBehind (length s.lits.items) (length s.hints) start s.spans.items
  pub hints : All (λ h. h ≤ max_id) s.hints
