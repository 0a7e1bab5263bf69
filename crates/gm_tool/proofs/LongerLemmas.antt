-- What stopped a carrying where it began, said by its status.
use Rattle.std.proofs.Common.{◌≡◌, ◌≢◌, ℕ, List, [], ◌∷◌, Option, None, is_some, inl, inr, refl, sym, ◌∙◌, ap, arith}
use Rattle.std.proofs.lemmas.Bool.{false≢true}
use Rattle.gm_base.specs.Problem.{Problem}
use Rattle.gm_ports.specs.FilesState.{FilesState}
use Rattle.gcnf_text.specs.Grammar.{Reads}
use Rattle.edit_session.proofs.BreakLemmas.{none-from_extends}
use Rattle.gm_audit.specs.Refusals.{first_refusal}
use Rattle.gm_io.specs.declared.ending.Ending.{Ending}
use Rattle.gm_io.specs.declared.ending.Ending.TheVariants.{Refused, ReadFault, EvidenceFault, EvidenceRefused, Memory, NoExtension}
use Rattle.gm_io.specs.declared.bounds.Bounds.{Bounds}
use Rattle.gm_io.specs.Beginnings.{StopsLonger}
use Rattle.gm_io.specs.Endings.{bare, error_line, finish_of, line_of}
use Rattle.gm_io.specs.Longer.{AreJudged, AreBothAccepted, DoesExtend, DoesNotExtend, IsInputRefusal, IsKnownAccepted, IsKnownRefusal}
use Rattle.gm_io.specs.Outside.{Outside, NoneRose}
use Rattle.gm_tool.specs.Statuses.{IsAmong, IsToldByStatus}
use Rattle.gm_tool.proofs.AcceptedLemmas.{told}
use Rattle.gm_tool.proofs.StatusLemmas.{among-by}

pub record IsStoppedLonger (b : Bounds) (file known longer : List ℕ) (old new : FilesState) (e : Ending) : Type 0 where
  pub statuses : IsAmong (5 ∷ 6 ∷ 8 ∷ 9 ∷ 12 ∷ []) (finish_of e).status
  pub bare : finish_of e ≡ bare (finish_of e).status
  pub quiet : (finish_of e).status ≢ 6 → new.read_faults ≡ old.read_faults
  pub line : IsToldByStatus (finish_of e).status → line_of e ≡ error_line b (finish_of e).status
  pub judged : AreJudged file known longer old new (λ told. line_of e ≡ told) (finish_of e).status

-- none of the statuses that have a cause in what is read
pub unjudged-longer : (file known longer : List ℕ) (old new : FilesState) (Gets : List ℕ → Type 0) (status : ℕ)
    → status ≢ 5 → status ≢ 6 → status ≢ 9 → status ≢ 12 → AreJudged file known longer old new Gets status
unjudged-longer file known longer old new Gets status five six nine twelve = record {
  refused = λ e. absurd (five e);
  read_fault = λ e. absurd (six e);
  fault_line = λ e. absurd (six e);
  no_extension = λ e. absurd (twelve e);
  known_refused = λ e. absurd (nine e);
}

module _ (b : Bounds) (file known longer : List ℕ) (old new : FilesState) where
  pub stopped-longer : (e : Ending) → StopsLonger file known longer old new e → IsStoppedLonger b file known longer old new e
  stopped-longer (Refused line) h = record {
    statuses = refl;
    bare = refl;
    quiet = λ _. h.0;
    line = λ told. absurd (false≢true told);
    judged =
        record { refused = λ _. h.1; read_fault = λ n. absurd (omega arith); fault_line = λ n. absurd (omega arith); no_extension = λ n. absurd (omega arith); known_refused = λ n. absurd (omega arith) };
  }
  stopped-longer ReadFault h = record {
    statuses = refl;
    bare = refl;
    quiet = λ other. absurd (other refl);
    line = λ told. absurd (false≢true told);
    judged =
        record { refused = λ n. absurd (omega arith); read_fault = λ _. h; fault_line = λ _. inl refl; no_extension = λ n. absurd (omega arith); known_refused = λ n. absurd (omega arith) };
  }
  stopped-longer (NoExtension line) h = record {
    statuses = refl;
    bare = refl;
    quiet = λ _. h.0;
    line = λ told. absurd (false≢true told);
    judged =
        record { refused = λ n. absurd (omega arith); read_fault = λ n. absurd (omega arith); fault_line = λ n. absurd (omega arith); no_extension = λ _. h.1; known_refused = λ n. absurd (omega arith) };
  }
  stopped-longer EvidenceFault h = record {
    statuses = refl;
    bare = refl;
    quiet = λ other. absurd (other refl);
    line = λ told. absurd (false≢true told);
    judged =
        record { refused = λ n. absurd (omega arith); read_fault = λ _. h.0; fault_line = λ _. inr h.1; no_extension = λ n. absurd (omega arith); known_refused = λ n. absurd (omega arith) };
  }
  stopped-longer (EvidenceRefused line) h = record {
    statuses = refl;
    bare = refl;
    quiet = λ _. h.0;
    line = λ told. absurd (false≢true told);
    judged =
        record { refused = λ n. absurd (omega arith); read_fault = λ n. absurd (omega arith); fault_line = λ n. absurd (omega arith); no_extension = λ n. absurd (omega arith); known_refused = λ _. h.1 };
  }
  stopped-longer Memory h = record {
    statuses = refl;
    bare = refl;
    quiet = λ _. h;
    line = λ _. refl;
    judged = unjudged-longer file known longer old new (λ told. line_of Memory ≡ told) 8 (omega arith) (omega arith) (omega arith) (omega arith);
  }
  stopped-longer _ h = absurd h

-- ---- what is accepted is not refused

module _ (held : List ℕ → Option (Option (List ℕ))) (file longer : List ℕ) where
  input-accepted : (Gets : List ℕ → Type 0) → AreBothAccepted held file longer → IsInputRefusal held file longer Gets → ⊥
  input-accepted Gets accepted (inl old) =
      let (text, reads, refused) = told (held file) (λ t. (p : Problem) × Reads t p) _ accepted.0 old.first in
      refused.unread reads.0 reads.1
  input-accepted Gets accepted (inr (p, read, new)) =
      let (text, reads, refused) = told (held longer) (λ t. (p : Problem) × Reads t p) _ accepted.1 new.first in
      refused.unread reads.0 reads.1

  known-accepted : (known : List ℕ) (Gets : List ℕ → Type 0) → IsKnownAccepted held file known → IsKnownRefusal held file known longer Gets → ⊥
  known-accepted known Gets accepted h =
      let (shown, none, some) = told (held known) (λ t. first_refusal h.old t ≡ None) _ (accepted h.old h.read.old) h.first in
      false≢true (ap is_some (sym none ∙ some))

-- where the files are accepted, and the second extends the first or does not, few statuses are left
module _ (file known longer : List ℕ) (old new : Outside) (Gets : List ℕ → Type 0) (status : ℕ) (among : IsAmong (5 ∷ 6 ∷ 8 ∷ 9 ∷ 12 ∷ []) status)
    (judged : AreJudged file known longer old.files new.files Gets status) (none : NoneRose old new) (both : AreBothAccepted old.files.held file longer) where
  pub left-where_not : DoesNotExtend old.files.held file longer → IsAmong (8 ∷ 12 ∷ []) status
  left-where_not not_extended =
      among-by (λ s. s ≢ 5 → s ≢ 6 → s ≢ 9 → IsAmong (8 ∷ 12 ∷ []) s) (5 ∷ 6 ∷ 8 ∷ 9 ∷ 12 ∷ []) status among
      ((λ five six nine. absurd (five refl)), ((λ five six nine. absurd (six refl)), ((λ five six nine. refl), ((λ five six nine. absurd (nine refl)), ((λ five six nine. refl), tt)))))
      (λ five. input-accepted old.files.held file longer Gets both (judged.refused five)) (λ six. none.0 (judged.read_fault six))
      (λ nine. let h = judged.known_refused nine in not_extended h.old h.new h.read h.extends)

  pub left-where_extended : DoesExtend old.files.held file longer → IsKnownAccepted old.files.held file known → status ≡ 8
  left-where_extended extended accepted =
      among-by (λ s. s ≢ 5 → s ≢ 6 → s ≢ 9 → s ≢ 12 → s ≡ 8) (5 ∷ 6 ∷ 8 ∷ 9 ∷ 12 ∷ []) status among
      ((λ five six nine twelve. absurd (five refl)), ((λ five six nine twelve. absurd (six refl)), ((λ five six nine twelve. refl), ((λ five six nine twelve. absurd (nine refl)), ((λ five six nine twelve. absurd (twelve refl)), tt)))))
      (λ five. input-accepted old.files.held file longer Gets both (judged.refused five)) (λ six. none.0 (judged.read_fault six))
      (λ nine. known-accepted old.files.held file longer known Gets accepted (judged.known_refused nine))
      (λ twelve.
      let h = judged.no_extension twelve in
      false≢true (ap is_some (sym (none-from_extends h.old h.new (extended h.old h.new h.read)) ∙ h.breaks)))
