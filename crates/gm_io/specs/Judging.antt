-- What is said of a file that is read, and of evidence that is read with it.
use Rattle.std.specs.Prelude.{◌≡◌, ◌≢◌, ◌⊎◌, ℕ, List, Option, Some, None, MatchOption, IfSome}
use Rattle.gm_base.specs.Problem.{Problem}
use Rattle.gm_ports.specs.Faults.{Rose}
use Rattle.gm_ports.specs.FilesState.{FilesState}
use Rattle.gcnf_text.specs.declared.offence.Offence.{Offence}
use Rattle.gcnf_text.specs.Grammar.{Reads}
use Rattle.gcnf_text.specs.Read.{IsRefused}
use Rattle.evidence_text.specs.declared.offence.Offence.{Offence as Refusal}
use Rattle.gm_audit.specs.Refusals.{first_refusal}
use Rattle.gm_io.specs.Endings.{input_fault_line, evidence_fault_line}
use Rattle.gm_io.specs.Input.{OfFile, ReadsIn}
use Rattle.gm_io.specs.Refusals.{refusal_line, evidence_line}

-- the first offence of the file that is held, for which it is the text of no problem, and the line that tells it
pub record IsRefusal (held : Option (Option (List ℕ))) (Gets : List ℕ → Type 0) : Type 0 where
  pub offence : Offence
  pub first : OfFile held (λ text. IsRefused text offence)
  pub line : Gets (refusal_line offence)

-- the file is a text of a problem, of which the evidence that is named has a first refusal, and the line that tells it
pub record IsEvidenceRefusal (held : List ℕ → Option (Option (List ℕ))) (file : List ℕ) (focus evidence : Option (List ℕ)) (Gets : List ℕ → Type 0) : Type 0 where
  pub name : List ℕ
  pub named : evidence ≡ Some name
  pub problem : Problem
  pub reads : OfFile (held file) (λ text. ReadsIn focus text problem)
  pub refusal : Refusal
  pub first : OfFile (held name) (λ text. first_refusal problem text ≡ Some refusal)
  pub line : Gets (evidence_line refusal)

-- evidence is named, and the file is a text of a problem
pub record IsEvidenceUnread (held : List ℕ → Option (Option (List ℕ))) (file : List ℕ) (focus evidence : Option (List ℕ)) (Gets : List ℕ → Type 0) : Type 0 where
  pub named : evidence ≢ None
  pub problem : Problem
  pub reads : OfFile (held file) (λ text. ReadsIn focus text problem)
  pub line : Gets evidence_fault_line

-- the causes of the statuses with which a file that is read, or evidence that is read with it, ends a run
pub record IsJudged (file : List ℕ) (focus evidence : Option (List ℕ)) (old new : FilesState) (Gets : List ℕ → Type 0) (status : ℕ) : Type 0 where
  pub refused : status ≡ 5 → IsRefusal (old.held file) Gets
  pub read_fault : status ≡ 6 → Rose old.read_faults new.read_faults
  -- which of the two could not be read
  pub fault_line : status ≡ 6 → Gets input_fault_line ⊎ IsEvidenceUnread old.held file focus evidence Gets
  pub evidence_refused : status ≡ 9 → IsEvidenceRefusal old.held file focus evidence Gets

-- a file that is held under a name is told, and there, and this holds of its bytes
abbrev pub IsToldFile : Option (Option (List ℕ)) → (List ℕ → Type 0) → Type 0
IsToldFile held P = MatchOption held ⊥ (λ file. MatchOption file ⊥ P)

-- the file is told, and is a text of some problem; and the evidence, where some is named, is told, and has nothing that it is
-- refused for
abbrev pub AreAccepted : (List ℕ → Option (Option (List ℕ))) → List ℕ → Option (List ℕ) → Option (List ℕ) → Type 0
AreAccepted held file focus evidence =
    IsToldFile (held file)
    (λ text. ((p : Problem) × Reads text p)
    × ((p : Problem) → ReadsIn focus text p → IfSome evidence (λ name. IsToldFile (held name) (λ shown. first_refusal p shown ≡ None))))
