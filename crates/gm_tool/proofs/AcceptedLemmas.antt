-- What is accepted is not refused.
use Rattle.std.proofs.Common.{◌≡◌, ℕ, List, Option, Some, None, is_some, ap, sym, subst, ◌∙◌}
use Rattle.std.proofs.lemmas.Bool.{false≢true}
use Rattle.gm_base.specs.Problem.{Problem}
use Rattle.gcnf_text.specs.Grammar.{Reads}
use Rattle.gcnf_text.specs.Read.{IsRefused}
use Rattle.gcnf_text.specs.declared.offence.Offence.{Offence}
use Rattle.gm_audit.specs.Refusals.{first_refusal}
use Rattle.gm_io.specs.Input.{OfFile, ReadsIn}
use Rattle.gm_io.specs.Judging.{AreAccepted, IsEvidenceRefusal, IsToldFile}
use Rattle.std.specs.Prelude.{IfSome}

-- what is told of a file, and what is said of it
pub told : (held : Option (Option (List ℕ))) (P Q : List ℕ → Type 0) → IsToldFile held P → OfFile held Q → (text : List ℕ) × P text × Q text
told None P Q p q = absurd p
told (Some None) P Q p q = absurd p
told (Some (Some text)) P Q p q = (text, p, q)

-- a file that is accepted
pub not_refused : (held : List ℕ → Option (Option (List ℕ))) (file : List ℕ) (focus evidence : Option (List ℕ)) (offence : Offence)
    → AreAccepted held file focus evidence → OfFile (held file) (λ text. IsRefused text offence) → ⊥
not_refused held file focus evidence offence accepted refused =
    let P : List ℕ → Type 0 =
    λ text. ((p : Problem) × Reads text p) × ((p : Problem) → ReadsIn focus text p → IfSome evidence (λ name. IsToldFile (held name) (λ shown. first_refusal p shown ≡ None))) in
    let (text, a, r) = told (held file) P (λ text. IsRefused text offence) accepted refused in
    r.unread a.0.0 a.0.1

-- evidence that has nothing to be refused for
pub not_refused-evidence : (held : List ℕ → Option (Option (List ℕ))) (file : List ℕ) (focus evidence : Option (List ℕ)) (Gets : List ℕ → Type 0)
    → AreAccepted held file focus evidence → IsEvidenceRefusal held file focus evidence Gets → ⊥
not_refused-evidence held file focus evidence Gets accepted h =
    let P : List ℕ → Type 0 =
    λ text. ((q : Problem) × Reads text q) × ((q : Problem) → ReadsIn focus text q → IsToldFile (held h.name) (λ shown. first_refusal q shown ≡ None)) in
    let (text, a, r) = told (held file) P (λ text. ReadsIn focus text h.problem) (subst (AreAccepted held file focus) h.named accepted) h.reads in
    let (shown, none, some) = told (held h.name) (λ shown. first_refusal h.problem shown ≡ None) (λ shown. first_refusal h.problem shown ≡ Some h.refusal) (a.1 h.problem r) h.first in
    false≢true (ap is_some (sym none ∙ some))
