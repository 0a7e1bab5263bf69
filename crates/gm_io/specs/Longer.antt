-- What is said of two files, of which the second is to extend the first, and of evidence about the first.
use Rattle.std.specs.Prelude.{◌≡◌, ◌⊎◌, ℕ, List, Option, Some, None}
use Rattle.gm_base.specs.Problem.{Problem}
use Rattle.gm_ports.specs.Faults.{Rose}
use Rattle.gm_ports.specs.FilesState.{FilesState}
use Rattle.gcnf_text.specs.Grammar.{Reads}
use Rattle.edit_session.specs.Extends.{Extends, first_break}
use Rattle.evidence_text.specs.declared.offence.Offence.{Offence as Refusal}
use Rattle.gm_audit.specs.Refusals.{first_refusal}
use Rattle.gm_io.specs.Endings.{input_fault_line, evidence_fault_line}
use Rattle.gm_io.specs.Input.{OfFile}
use Rattle.gm_io.specs.Judging.{IsRefusal, IsToldFile}
use Rattle.gm_io.specs.Lines.{no_extension_line}
use Rattle.gm_io.specs.Refusals.{evidence_line}

-- the two files are texts of these problems
pub record AreRead (held : List ℕ → Option (Option (List ℕ))) (file longer : List ℕ) (p q : Problem) : Type 0 where
  pub old : OfFile (held file) (λ text. Reads text p)
  pub new : OfFile (held longer) (λ text. Reads text q)

-- the first offence of the old file; or of the new one, where the old one is a text of a problem
abbrev pub IsInputRefusal : (List ℕ → Option (Option (List ℕ))) → List ℕ → List ℕ → (List ℕ → Type 0) → Type 0
IsInputRefusal held file longer Gets =
    IsRefusal (held file) Gets ⊎ ((old : Problem) × OfFile (held file) (λ text. Reads text old) × IsRefusal (held longer) Gets)

-- the first place at which the new file extends the old one no more, and the line that tells it
pub record IsNoExtension (held : List ℕ → Option (Option (List ℕ))) (file longer : List ℕ) (Gets : List ℕ → Type 0) : Type 0 where
  pub old : Problem
  pub new : Problem
  pub read : AreRead held file longer old new
  pub place : ℕ
  pub breaks : first_break old new ≡ Some place
  pub line : Gets (no_extension_line place)

-- the new file extends the old one, about whose problem the evidence has a first refusal, and the line that tells it
pub record IsKnownRefusal (held : List ℕ → Option (Option (List ℕ))) (file known longer : List ℕ) (Gets : List ℕ → Type 0) : Type 0 where
  pub old : Problem
  pub new : Problem
  pub read : AreRead held file longer old new
  pub extends : Extends old new
  pub refusal : Refusal
  pub first : OfFile (held known) (λ text. first_refusal old text ≡ Some refusal)
  pub line : Gets (evidence_line refusal)

-- the new file extends the old one, and the evidence was to be read
pub record IsKnownUnread (held : List ℕ → Option (Option (List ℕ))) (file longer : List ℕ) (Gets : List ℕ → Type 0) : Type 0 where
  pub old : Problem
  pub new : Problem
  pub read : AreRead held file longer old new
  pub extends : Extends old new
  pub line : Gets evidence_fault_line

-- the causes of the statuses with which these files end a run
pub record AreJudged (file known longer : List ℕ) (old new : FilesState) (Gets : List ℕ → Type 0) (status : ℕ) : Type 0 where
  pub refused : status ≡ 5 → IsInputRefusal old.held file longer Gets
  pub read_fault : status ≡ 6 → Rose old.read_faults new.read_faults
  -- whether it was one of the two files that could not be read
  pub fault_line : status ≡ 6 → Gets input_fault_line ⊎ IsKnownUnread old.held file longer Gets
  pub no_extension : status ≡ 12 → IsNoExtension old.held file longer Gets
  pub known_refused : status ≡ 9 → IsKnownRefusal old.held file known longer Gets

-- ---- what is accepted

-- both files are told, and each is a text of some problem
abbrev pub AreBothAccepted : (List ℕ → Option (Option (List ℕ))) → List ℕ → List ℕ → Type 0
AreBothAccepted held file longer =
    IsToldFile (held file) (λ text. (p : Problem) × Reads text p) × IsToldFile (held longer) (λ text. (p : Problem) × Reads text p)

-- the new one extends the old one
abbrev pub DoesExtend : (List ℕ → Option (Option (List ℕ))) → List ℕ → List ℕ → Type 0
DoesExtend held file longer = (old new : Problem) → AreRead held file longer old new → Extends old new

-- or it does not
abbrev pub DoesNotExtend : (List ℕ → Option (Option (List ℕ))) → List ℕ → List ℕ → Type 0
DoesNotExtend held file longer = (old new : Problem) → AreRead held file longer old new → ¬ Extends old new

-- the evidence about the old one is told, and has nothing that it is refused for
abbrev pub IsKnownAccepted : (List ℕ → Option (Option (List ℕ))) → List ℕ → List ℕ → Type 0
IsKnownAccepted held file known =
    (old : Problem) → OfFile (held file) (λ text. Reads text old) → IsToldFile (held known) (λ shown. first_refusal old shown ≡ None)
