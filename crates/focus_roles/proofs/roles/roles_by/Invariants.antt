use Rattle.std.proofs.Common.{◌≡◌, ◌≤◌, map}
use Rattle.gm_base.specs.Explored.{Found}
use Rattle.gm_base.specs.Sets.{all_groups}
use Rattle.map_core.specs.Laws.{told_role}
use Rattle.std.proofs.Common.{List}
use Rattle.focus_roles.specs.Marked.{AreMarked}
use Rattle.focus_roles.proofs.roles.roles_by.Given as goal

-- the roles of the groups so far
abbrev pub invariant-loop-at : goal.invariant-loop-at
invariant-loop-at l = (sets : List Found) → AreMarked l.groups sets l.marks → l.roles.items ≡ map (told_role sets) (all_groups l.at)
