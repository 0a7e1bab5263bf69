-- The files that a run is asked to write beside its report.
use Rattle.std.specs.Prelude.{ℕ, List, [], ◌∷◌, Option, Some, None}
use Rattle.gm_io.specs.Endings.{evidence_cut_line, export_cut_line}

-- their names, and the line that tells of a fault on one of them
pub record Outputs : Type 0 where
  pub names : List (List ℕ)
  pub cut_line : List ℕ

-- evidence, where it is asked for under a name
abbrev pub evidence_output : Option (List ℕ) → Outputs
evidence_output None = record { names = []; cut_line = evidence_cut_line }
evidence_output (Some name) = record { names = name ∷ []; cut_line = evidence_cut_line }

-- nothing is asked for
abbrev pub no_outputs : Outputs
no_outputs = evidence_output None

-- the clauses of a conflict, and the refutation of them
abbrev pub export_outputs : List ℕ → List ℕ → Outputs
export_outputs cnf lrat = record { names = cnf ∷ lrat ∷ []; cut_line = export_cut_line }
