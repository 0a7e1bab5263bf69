-- Records: a set of groups, and the evidence that it is a minimal conflict or a minimal correction. In a list of records
-- a correction may rest on the conflicts that stand before it.
use Rattle.std.specs.Prelude.{◌≡◌, ℕ, zero, suc, Bool, true, false, not, List, [], ◌∷◌, ◌++◌, length, map, All, Option, None, slice_get}
use Rattle.std.specs.List.{list_all}
use Rattle.std.specs.Option.{option_map_or}
use Rattle.gm_base.specs.Sets.{IsGroupSet, IsSubset, has, all_groups, without, complement}
use Rattle.gm_base.specs.Problem.{Problem}
use Rattle.gm_base.specs.Minimal.{IsConflict, IsCorrection}
use Rattle.gm_base.specs.declared.kind.Kind.{Kind}
use Rattle.gm_base.specs.declared.kind.Kind.TheVariants.{Conflict, Correction}
use Rattle.gm_base.specs.Explored.{Found}
use Rattle.gm_base.specs.Evidence.{refutes, is_witness, each_passes, AcceptsConflict}
use Rattle.evidence_rec.specs.declared.record.Refutation.{Refutation}
use Rattle.evidence_rec.specs.declared.record.Refutation.TheVariants.{Steps, Earlier}
use Rattle.evidence_rec.specs.declared.record.Record.{Record}
use Rattle.evidence_rec.specs.declared.record.Record.TheVariants as record_of

-- its kind and its set
abbrev pub found_of : Record → Found
found_of (record_of.Conflict set proof witnesses) = record { kind = Conflict; set = set }
found_of (record_of.Correction set witness proofs) = record { kind = Correction; set = set }

abbrev pub kind_of : Record → Kind
kind_of r = (found_of r).kind

abbrev pub set_of : Record → List ℕ
set_of r = (found_of r).set

-- the kinds and the sets of records, in order
abbrev pub founds : List Record → List Found
founds records = map found_of records

-- one item of evidence for each group of the set, and in each witness one value for each variable
abbrev pub IsShaped : Problem → Record → Type 0
IsShaped p (record_of.Conflict set proof witnesses) = (length witnesses ≡ length set) × All (λ (w : List Bool). length w ≡ p.vars) witnesses
IsShaped p (record_of.Correction set witness proofs) = (length witness ≡ p.vars) × (length proofs ≡ length set)

-- the record of this number, from 1
abbrev pub numbered_record : List Record → ℕ → Option Record
numbered_record records zero = None
numbered_record records (suc i) = slice_get records i

-- it is a conflict that has no group of the correction but, maybe, this one: so the groups outside the correction and this
-- one hold it
abbrev pub is_inside : List ℕ → ℕ → Record → Bool
is_inside set g (record_of.Conflict groups proof witnesses) = list_all (λ h. not (has (without set g) h)) groups
is_inside set g (record_of.Correction groups witness proofs) = false

-- the groups outside the correction and this one of it can't be satisfied together: a derivation of that, or the number of
-- an earlier conflict that they hold
abbrev pub shows_refuted : Problem → List Record → List ℕ → ℕ → Refutation → Bool
shows_refuted p earlier set g (Steps d) = refutes p (complement p.groups (without set g)) d
shows_refuted p earlier set g (Earlier i) = option_map_or (is_inside set g) (numbered_record earlier i) false

-- a minimal correction: a witness of all groups outside the set, and for each group of the set a refutation of them
-- together with it
pub record AcceptsCorrection (p : Problem) (earlier : List Record) (set : List ℕ) (witness : List Bool) (proofs : List Refutation) : Type 0 where
  pub is_set : IsGroupSet set
  pub witnessed : is_witness p (complement p.groups set) witness ≡ true
  pub refuted : each_passes (shows_refuted p earlier set) set proofs ≡ true

-- with the records before it, the evidence shows what the record says
abbrev pub Accepts : Problem → List Record → Record → Type 0
Accepts p earlier (record_of.Conflict set proof witnesses) = AcceptsConflict p set proof witnesses
Accepts p earlier (record_of.Correction set witness proofs) = AcceptsCorrection p earlier set witness proofs

-- what an accepted record means
abbrev pub IsMinimal : Problem → Record → Type 0
IsMinimal p (record_of.Conflict set proof witnesses) = IsConflict p set
IsMinimal p (record_of.Correction set witness proofs) = IsCorrection p set

-- a set of the problem's groups, and evidence that shows, with the records before it, what the record says of it
pub record IsAccepted (p : Problem) (earlier : List Record) (r : Record) : Type 0 where
  pub within : IsSubset (set_of r) (all_groups p.groups)
  pub accepts : Accepts p earlier r

-- a record that needs none before it
abbrev pub IsAcceptedAlone : Problem → Record → Type 0
IsAcceptedAlone p r = IsAccepted p [] r

-- behind those that stand before, each record is accepted with all before it
abbrev pub AllAcceptedBehind : Problem → List Record → List Record → Type 0
AllAcceptedBehind p earlier [] = Unit {0}
AllAcceptedBehind p earlier (r ∷ rs) = IsAccepted p earlier r × AllAcceptedBehind p (earlier ++ r ∷ []) rs

-- each record is accepted with those before it
abbrev pub AllAccepted : Problem → List Record → Type 0
AllAccepted p records = AllAcceptedBehind p [] records

-- a minimal conflict or a minimal correction of the problem's groups
pub record IsRight (p : Problem) (r : Record) : Type 0 where
  pub is_set : IsGroupSet (set_of r)
  pub within : IsSubset (set_of r) (all_groups p.groups)
  pub minimal : IsMinimal p r
