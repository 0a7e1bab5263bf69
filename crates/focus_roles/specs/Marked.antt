-- What is marked of the groups in a walk over records.
use Rattle.std.specs.Prelude.{◌≡◌, ℕ, ◌+◌, ◌<◌, Bool, true, if◌then◌else◌, List, [], ◌∷◌, length, slice_index_or}
use Rattle.gm_base.specs.Explored.{Found}
use Rattle.gm_base.specs.Roles.{is_met, stands_alone}
use Rattle.gm_base.specs.declared.role.Role.{Role}
use Rattle.gm_base.specs.declared.role.Role.TheVariants.{InEvery, InSome, InNone}
use Rattle.evidence_rec.specs.declared.record.Record.{Record}
use Rattle.evidence_rec.specs.declared.record.Record.TheVariants.{Conflict, Correction}
use Rattle.focus_roles.specs.declared.roles.Marks.{Marks}

-- group i + 1 is marked at place i, where the test holds of it
pub record IsMarkedBy (test : ℕ → Bool) (groups : ℕ) (marks : List Bool) : Type 0 where
  pub size : length marks ≡ groups
  pub at : (i : ℕ) → i < groups → slice_index_or marks i true ≡ test (i + 1)

-- these sets mark their groups, and those that are alone a correction
pub record AreMarked (groups : ℕ) (sets : List Found) (marks : Marks) : Type 0 where
  pub met : IsMarkedBy (is_met sets) groups marks.met.items
  pub alone : IsMarkedBy (stands_alone sets) groups marks.alone.items

-- the group of a correction that has no other one
abbrev pub lone_group : Record → List ℕ
lone_group (Correction (g ∷ []) witness proofs) = g ∷ []
lone_group (Correction _ witness proofs) = []
lone_group (Conflict set proof witnesses) = []

-- the role of a group, by whether a set has it and whether it is alone a correction
abbrev pub role_by : Bool → Bool → Role
role_by met alone = if met then (if alone then InEvery else InSome) else InNone
