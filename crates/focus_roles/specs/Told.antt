-- What the records of an enumeration that is over tell of the roles of groups.
use Rattle.std.specs.Prelude.{◌≡◌, ◌⊎◌, true, List, map}
use Rattle.gm_base.specs.Sets.{all_groups}
use Rattle.gm_base.specs.Problem.{Problem, IsProblem}
use Rattle.gm_base.specs.Roles.{role, are_settled}
use Rattle.gm_base.specs.declared.role.Role.{Role}
use Rattle.evidence_rec.specs.declared.record.Record.{Record}
use Rattle.evidence_rec.specs.Records.{AllAccepted, founds}
use Rattle.evidence_rec.specs.Held.{HoldsAll}

-- the role of each group, from 1 on
abbrev pub roles : Problem → List Role
roles p = map (role p) (all_groups p.groups)

-- the records are accepted, and their sets are all, or settle the role of each group
pub record TellRoles (p : Problem) (records : List Record) : Type 0 where
  pub problem : IsProblem p
  pub accepted : AllAccepted p records
  pub enough : HoldsAll p records ⊎ (are_settled p.groups (founds records) ≡ true)
