-- Laws of minimal conflicts and corrections.
use Rattle.std.specs.Prelude.{◌≡◌, ◌⊎◌, ◌↔◌, ℕ, Bool, true, false, List, ◌++◌, length}
use Rattle.gm_base.specs.declared.clause.Clause.{Clause}
use Rattle.gm_base.specs.Sets.{has, IsSubset, IsProperSubset, IsGroupSet, all_groups, without, complement}
use Rattle.sat_base.specs.Members.{In}
use Rattle.gm_base.specs.Problem.{Problem, IsProblem, Sat}
use Rattle.sat_base.specs.Derivation.{Derivation}
use Rattle.gm_base.specs.Evidence.{AcceptsConflict}
use Rattle.gm_base.specs.Explored.{Found, is_explored, is_model, groups_true}
use Rattle.gm_base.specs.Minimal.{IsConflict, IsCorrection, is_conflict, is_correction, is_sat}

-- more groups keep unsatisfiability
abbrev pub GroupsKeepUnsat : Type 0
GroupsKeepUnsat = (p : Problem) (small large : List ℕ) → IsSubset small large → ¬ Sat p small → ¬ Sat p large

-- more clauses keep unsatisfiability
abbrev pub ClausesKeepUnsat : Type 0
ClausesKeepUnsat =
    (p : Problem) (more : List Clause) (set : List ℕ) → ¬ Sat p set → ¬ Sat (record p { clauses = p.clauses ++ more }) set

-- a set is a minimal conflict exactly where it is unsatisfiable and each removal of one group makes it satisfiable
abbrev pub ConflictBySingles : Type 0
ConflictBySingles =
    (p : Problem) (set : List ℕ)
    → (IsConflict p set ↔ (¬ Sat p set × ((g : ℕ) → has set g ≡ true → Sat p (without set g))))

-- a set is a minimal correction exactly where its removal leaves a satisfiable rest, and with any one group of it put
-- back that rest is unsatisfiable
abbrev pub CorrectionBySingles : Type 0
CorrectionBySingles =
    (p : Problem) (set : List ℕ)
    → (IsCorrection p set
    ↔ (Sat p (complement p.groups set) × ((g : ℕ) → has set g ≡ true → ¬ Sat p (complement p.groups (without set g)))))

-- the tests by which all conflicts and corrections are listed decide the facts
abbrev pub TestsDecide : Type 0
TestsDecide =
    (p : Problem) (set : List ℕ)
    → IsGroupSet set
    → ((is_sat p set ≡ true) ↔ Sat p set)
    × ((is_conflict p set ≡ true) ↔ IsConflict p set)
    × ((is_correction p set ≡ true) ↔ IsCorrection p set)

-- accepted evidence shows a minimal conflict, whoever made it
abbrev pub ConflictByEvidence : Type 0
ConflictByEvidence =
    (p : Problem) (set : List ℕ) (proof : Derivation) (witnesses : List (List Bool))
    → IsProblem p
    → AcceptsConflict p set proof witnesses
    → IsConflict p set

-- an ascending set of the problem's groups
abbrev pub IsSetOf : Problem → List ℕ → Type 0
IsSetOf p set = IsGroupSet set × IsSubset set (all_groups p.groups)

-- no group is in both
abbrev pub AreDisjoint : List ℕ → List ℕ → Type 0
AreDisjoint a b = (g : ℕ) → has a g ≡ true → has b g ≡ false

-- each set of groups holds a minimal conflict, or misses a minimal correction
abbrev pub HoldsOrMisses : Type 0
HoldsOrMisses =
    (p : Problem) (set : List ℕ)
    → IsSubset set (all_groups p.groups)
    → ((u : List ℕ) × IsSetOf p u × IsConflict p u × IsSubset u set) ⊎ ((c : List ℕ) × IsSetOf p c × IsCorrection p c × AreDisjoint c set)

-- the set has a group of each minimal conflict
abbrev pub HitsConflicts : Problem → List ℕ → Type 0
HitsConflicts p set = (u : List ℕ) → IsSetOf p u → IsConflict p u → (g : ℕ) × (has u g ≡ true) × (has set g ≡ true)

-- the set has a group of each minimal correction
abbrev pub HitsCorrections : Problem → List ℕ → Type 0
HitsCorrections p set = (c : List ℕ) → IsSetOf p c → IsCorrection p c → (g : ℕ) × (has c g ≡ true) × (has set g ≡ true)

-- the set hits, and no proper subset of it does
pub record IsMinimalHitting (Hits : List ℕ → Type 0) (set : List ℕ) : Type 0 where
  pub hits : Hits set
  pub minimal : (part : List ℕ) → IsProperSubset part set → ¬ Hits part

-- the minimal conflicts are the minimal hitting sets of the minimal corrections, and the other way round (Liffiton and
-- Sakallah 2008; for sets of constraints, Reiter 1987)
abbrev pub HitEachOther : Type 0
HitEachOther =
    (p : Problem) (set : List ℕ)
    → IsSetOf p set
    → (IsConflict p set ↔ IsMinimalHitting (HitsCorrections p) set) × (IsCorrection p set ↔ IsMinimalHitting (HitsConflicts p) set)

-- the models of the block clauses, read as sets, are exactly the sets that nothing explores
abbrev pub ModelsAreUnexplored : Type 0
ModelsAreUnexplored =
    (groups : ℕ) (found : List Found) (assign : List Bool)
    → ((f : Found) → In f found → IsSubset f.set (all_groups groups))
    → length assign ≡ groups
    → (is_model found assign ≡ true ↔ is_explored found (groups_true assign) ≡ false)
