-- Laws of narrowed problems.
use Rattle.std.specs.Prelude.{◌≡◌, ◌↔◌, ℕ, List}
use Rattle.std.specs.List.{filter}
use Rattle.sat_base.specs.Members.{In}
use Rattle.gm_base.specs.Sets.{IsProperSubset}
use Rattle.gm_base.specs.Problem.{Problem, Sat}
use Rattle.gm_base.specs.Minimal.{conflicts, corrections}
use Rattle.focus_roles.specs.Narrow.{narrowed, cut_to, is_within}

-- a set is satisfiable in the narrowed problem exactly where its groups in focus are in the problem
abbrev pub SatNarrowed : Type 0
SatNarrowed = (p : Problem) (focus set : List ℕ) → Sat (narrowed p focus) set ↔ Sat p (cut_to focus set)

-- the minimal conflicts of the narrowed problem are those of the problem whose groups are all in focus, in the same order
abbrev pub ConflictsNarrowed : Type 0
ConflictsNarrowed = (p : Problem) (focus : List ℕ) → conflicts (narrowed p focus) ≡ filter (is_within focus) (conflicts p)

-- a minimal correction of the problem, cut to the groups in focus, that properly holds no other that is cut so
pub record IsLeastCut (p : Problem) (focus set : List ℕ) : Type 0 where
  pub cut : (c : List ℕ) × In c (corrections p) × (set ≡ cut_to focus c)
  pub least : (c : List ℕ) → In c (corrections p) → ¬ IsProperSubset (cut_to focus c) set

-- these are the minimal corrections of the narrowed problem. The list of them is ascending, as that of all corrections is,
-- and has each once
abbrev pub CorrectionsNarrowed : Type 0
CorrectionsNarrowed = (p : Problem) (focus set : List ℕ) → In set (corrections (narrowed p focus)) ↔ IsLeastCut p focus set
