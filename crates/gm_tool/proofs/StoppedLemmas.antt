-- What stopped a command where it began, said by its status.
use Rattle.std.proofs.Common.{◌≡◌, ◌≢◌, ℕ, List, [], ◌∷◌, Option, inl, inr, refl, arith}
use Rattle.std.proofs.lemmas.Bool.{false≢true}
use Rattle.gm_ports.specs.FilesState.{FilesState}
use Rattle.gm_io.specs.declared.bounds.Bounds.{Bounds}
use Rattle.gm_io.specs.declared.ending.Ending.{Ending}
use Rattle.gm_io.specs.declared.ending.Ending.TheVariants.{Refused, ReadFault, EvidenceFault, EvidenceRefused, Memory}
use Rattle.gm_io.specs.Endings.{bare, error_line, finish_of, line_of}
use Rattle.gm_io.specs.Judging.{IsJudged}
use Rattle.gm_io.specs.Beginnings.{Stops}
use Rattle.gm_tool.specs.Statuses.{IsAmong, IsToldByStatus}

pub record IsStopped (b : Bounds) (file : List ℕ) (focus evidence : Option (List ℕ)) (old new : FilesState) (e : Ending) : Type 0 where
  pub statuses : IsAmong (5 ∷ 6 ∷ 8 ∷ 9 ∷ []) (finish_of e).status
  pub bare : finish_of e ≡ bare (finish_of e).status
  pub quiet : (finish_of e).status ≢ 6 → new.read_faults ≡ old.read_faults
  pub line : IsToldByStatus (finish_of e).status → line_of e ≡ error_line b (finish_of e).status
  pub judged : IsJudged file focus evidence old new (λ told. line_of e ≡ told) (finish_of e).status

-- none of the statuses that have a cause in what is read
pub unjudged : (file : List ℕ) (focus evidence : Option (List ℕ)) (old new : FilesState) (Gets : List ℕ → Type 0) (status : ℕ)
    → status ≢ 5 → status ≢ 6 → status ≢ 9 → IsJudged file focus evidence old new Gets status
unjudged file focus evidence old new Gets status five six nine = record {
  refused = λ e. absurd (five e);
  read_fault = λ e. absurd (six e);
  fault_line = λ e. absurd (six e);
  evidence_refused = λ e. absurd (nine e);
}

module _ (b : Bounds) (file : List ℕ) (focus evidence : Option (List ℕ)) (old new : FilesState) where
  pub stopped : (e : Ending) → Stops file focus evidence old new e → IsStopped b file focus evidence old new e
  stopped (Refused line) h = record {
    statuses = refl;
    bare = refl;
    quiet = λ _. h.0;
    line = λ told. absurd (false≢true told);
    judged = record { refused = λ _. h.1; read_fault = λ n. absurd (omega arith); fault_line = λ n. absurd (omega arith); evidence_refused = λ n. absurd (omega arith) };
  }
  stopped ReadFault h = record {
    statuses = refl;
    bare = refl;
    quiet = λ other. absurd (other refl);
    line = λ told. absurd (false≢true told);
    judged = record { refused = λ n. absurd (omega arith); read_fault = λ _. h; fault_line = λ _. inl refl; evidence_refused = λ n. absurd (omega arith) };
  }
  stopped EvidenceFault h = record {
    statuses = refl;
    bare = refl;
    quiet = λ other. absurd (other refl);
    line = λ told. absurd (false≢true told);
    judged = record { refused = λ n. absurd (omega arith); read_fault = λ _. h.0; fault_line = λ _. inr h.1; evidence_refused = λ n. absurd (omega arith) };
  }
  stopped (EvidenceRefused line) h = record {
    statuses = refl;
    bare = refl;
    quiet = λ _. h.0;
    line = λ told. absurd (false≢true told);
    judged = record { refused = λ n. absurd (omega arith); read_fault = λ n. absurd (omega arith); fault_line = λ n. absurd (omega arith); evidence_refused = λ _. h.1 };
  }
  stopped Memory h = record {
    statuses = refl;
    bare = refl;
    quiet = λ _. h;
    line = λ _. refl;
    judged = unjudged file focus evidence old new (λ told. line_of Memory ≡ told) 8 (omega arith) (omega arith) (omega arith);
  }
  stopped _ h = absurd h
