-- What is known of a longer problem from the records of the old one.
use Rattle.std.specs.Prelude.{◌≡◌, ℕ, ◌≤◌, true, not, ◌||◌, List, [], ◌∷◌, ◌++◌, map, nat_le, All, ℤ, Option, Some, None}
use Rattle.std.specs.List.{filter, AllByRecursion}
use Rattle.sat_base.specs.Literals.{var_of}
use Rattle.sat_base.specs.Derivation.{Step}
use Rattle.gm_base.specs.Sets.{has, IsSubset, all_groups}
use Rattle.gm_base.specs.Problem.{Problem}
use Rattle.gm_base.specs.Evidence.{is_witness}
use Rattle.evidence_rec.specs.declared.record.Record.{Record}
use Rattle.evidence_rec.specs.Records.{IsAccepted, IsAcceptedAlone, AllAccepted, IsRight}
use Rattle.evidence_rec.specs.Held.{AreNew, conflicts_in, corrections_in}
use Rattle.evidence_rec.specs.Asking.{OracleState, IsDryAt}
use Rattle.edit_session.specs.Carried.{kept}
use Rattle.edit_session.specs.declared.carried.Carried.{Carried}
use Rattle.edit_session.specs.declared.carried.Carried.TheVariants as carried
use Rattle.edit_session.specs.declared.widening.Widened.{Widened}
use Rattle.edit_session.specs.declared.widening.Widened.TheVariants as widened

-- the groups of a set up to this one
abbrev pub up_to : ℕ → List ℕ → List ℕ
up_to groups set = filter (λ g. nat_le g groups) set

-- accepted records with distinct sets: the old conflicts, carried over, and then one correction for each old one, in order,
-- whose groups of the old problem are just those of the old correction
pub record IsOpening (old new : Problem) (records opening : List Record) : Type 0 where
  pub accepted : AllAccepted new opening
  pub distinct : AreNew [] opening
  pub regrown : List Record
  pub parts : opening ≡ kept old new records ++ regrown
  pub conflicts : conflicts_in opening ≡ conflicts_in records
  pub corrections : map (up_to old.groups) (corrections_in opening) ≡ corrections_in records

-- the opening records; or the set of the last question, at which the purse was empty and the search stood before a conflict
abbrev pub TellsCarried : OracleState → Problem → List Record → ℕ → Carried → Type 0
TellsCarried o old records left (carried.Opening opening) = IsOpening old o.problem records opening
TellsCarried o old records left (carried.Dry set) = IsDryAt o set left

-- ---- on the way there

-- a record that is accepted behind some others, and right
pub record IsKnown (p : Problem) (r : Record) : Type 0 where
  pub right : IsRight p r
  pub earlier : List Record
  pub accepted : IsAccepted p earlier r

-- each literal of the steps is over the variables 1 to vars
abbrev pub AreOver : ℕ → List Step → Type 0
AreOver vars steps = All (λ (s : Step). All (λ (l : ℤ). var_of l ≤ vars) s.lits) steps

-- the set without the groups above this one that the core has
abbrev pub without_new : ℕ → List ℕ → List ℕ → List ℕ
without_new groups core set = filter (λ g. nat_le g groups || not (has core g)) set

-- a set with all groups of a start, and an assignment that satisfies it; or the set of the last question
abbrev pub TellsWidened : OracleState → List ℕ → ℕ → Widened → Type 0
TellsWidened o start left (widened.Start wide) = IsSubset start wide.set × IsSubset wide.set (all_groups o.problem.groups) × (is_witness o.problem wide.set wide.witness ≡ true)
TellsWidened o start left (widened.Dry asked) = IsDryAt o asked left

-- what the corrections among some records grew into
pub record AreRegrown (old new : Problem) (records regrown : List Record) : Type 0 where
  pub accepted : AllByRecursion (IsAcceptedAlone new) regrown
  pub conflicts : conflicts_in regrown ≡ []
  pub corrections : map (up_to old.groups) (corrections_in regrown) ≡ corrections_in records

-- the records with what one more grew into; or the set of the last question
abbrev pub TellsRegrown : OracleState → Problem → Record → List Record → List Record → ℕ → Option (List ℕ) → Type 0
TellsRegrown o old r before after left None = (regrown : List Record) × (after ≡ before ++ regrown) × AreRegrown old o.problem (r ∷ []) regrown
TellsRegrown o old r before after left (Some asked) = IsDryAt o asked left

-- behind the kept conflicts what the corrections among the first of these records grew into
pub record IsSofar (old new : Problem) (records passed opening : List Record) : Type 0 where
  pub regrown : List Record
  pub parts : opening ≡ kept old new records ++ regrown
  pub are : AreRegrown old new passed regrown

abbrev pub TellsAllRegrown : OracleState → Problem → List Record → List Record → ℕ → Option (List ℕ) → Type 0
TellsAllRegrown o old records opening left None = IsSofar old o.problem records records opening
TellsAllRegrown o old records opening left (Some asked) = IsDryAt o asked left
