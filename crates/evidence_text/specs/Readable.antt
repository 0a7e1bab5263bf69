-- What an evidence text can hold: each number in its range, and one item of evidence for each group.
use Rattle.std.specs.Prelude.{◌≡◌, ℕ, ◌+◌, ◌^◌, ◌<◌, ◌≤◌, Bool, List, length, Option, Some, None}
use Rattle.std.specs.List.{AllByRecursion}
use Rattle.sat_base.specs.Derivation.{Step, Derivation, max_id, HasIds}
use Rattle.sat_base.specs.Literals.{AreLiterals}
use Rattle.gm_base.specs.Sets.{IsGroupSet}
use Rattle.gm_base.specs.Problem.{Problem}
use Rattle.evidence_rec.specs.declared.record.Record.{Record}
use Rattle.evidence_rec.specs.declared.record.Record.TheVariants as record_of
use Rattle.evidence_rec.specs.declared.record.Refutation.{Refutation}
use Rattle.evidence_rec.specs.declared.record.Refutation.TheVariants.{Steps, Earlier}
use Rattle.evidence_text.specs.declared.version.Version.{Version}
use Rattle.evidence_text.specs.declared.version.Version.TheVariants.{One, Two}

-- a problem whose numbers the head can hold
pub record IsSmall (p : Problem) : Type 0 where
  pub numbers : p.vars + p.groups < 2 ^ 64
  pub clauses : length p.clauses < 2 ^ 64

-- the number of a clause or of a record, from 1 to the greatest
pub record IsId (id : ℕ) : Type 0 where
  pub from_one : 1 ≤ id
  pub in_range : id ≤ max_id

pub record IsReadableStep (vars : ℕ) (s : Step) : Type 0 where
  pub id : IsId s.id
  pub lits : AreLiterals vars s.lits
  pub hints : AllByRecursion IsId s.hints

-- a derivation over this many variables
pub record IsReadableProof (vars : ℕ) (d : Derivation) : Type 0 where
  pub steps : AllByRecursion (IsReadableStep vars) d.steps
  pub goal : IsId d.goal

-- the number of an earlier record: version 1 has none
abbrev pub IsReference : Version → ℕ → Type 0
IsReference One i = ⊥
IsReference Two i = IsId i

-- a refutation over this many variables
abbrev pub IsReadableRefutation : Version → ℕ → Refutation → Type 0
IsReadableRefutation version vars (Steps d) = IsReadableProof vars d
IsReadableRefutation version vars (Earlier i) = IsReference version i

-- strictly ascending from 1 on, and none above this one
pub record IsSetUpTo (high : ℕ) (set : List ℕ) : Type 0 where
  pub ascends : IsGroupSet set
  pub in_range : AllByRecursion (λ g. g ≤ high) set

abbrev pub IsReadable : Version → Problem → Record → Type 0
IsReadable version p (record_of.Conflict set proof witnesses) =
    IsSetUpTo p.groups set × IsReadableProof (p.vars + p.groups) proof
    × (length witnesses ≡ length set) × AllByRecursion (λ (w : List Bool). length w ≡ p.vars) witnesses
IsReadable version p (record_of.Correction set witness proofs) =
    IsSetUpTo p.groups set × (length witness ≡ p.vars)
    × (length proofs ≡ length set) × AllByRecursion (IsReadableRefutation version (p.vars + p.groups)) proofs

-- the closing part, where there is one
abbrev pub IsReadableEnd : Problem → Option Derivation → Type 0
IsReadableEnd p None = Unit {0}
IsReadableEnd p (Some d) = IsReadableProof p.groups d

-- what the types of a refutation and of a record keep: no id of a clause is above the greatest
abbrev pub HasRefutationIds : Refutation → Type 0
HasRefutationIds (Steps d) = HasIds d
HasRefutationIds (Earlier i) = Unit {0}

abbrev pub HasRecordIds : Record → Type 0
HasRecordIds (record_of.Conflict set proof witnesses) = HasIds proof
HasRecordIds (record_of.Correction set witness proofs) = AllByRecursion HasRefutationIds proofs
