-- What a salvage of texts says of records.
use Rattle.std.proofs.Common.{◌≡◌, ℕ, List, [], ◌∷◌, ◌++◌, Option, Some, None, sym, subst}
use Rattle.std.specs.Prelude.{IfSome}
use Rattle.std.specs.List.{AllByRecursion}
use Rattle.gm_base.specs.Problem.{Problem}
use Rattle.evidence_rec.specs.declared.record.Record.{Record}
use Rattle.evidence_rec.specs.Records.{IsAcceptedAlone, AllAcceptedBehind, AllAccepted}
use Rattle.evidence_rec.proofs.AcceptedLemmas.{accepted-alone}
use Rattle.disk_frames.specs.Salvage.{AreNext, IsSalvaged, IsForeign}
use Rattle.gm_journal.specs.Following.{MayFollow, AreJournalled}
use Rattle.gm_journal.specs.Salvage.{HoldsRecords, HoldsNoRecord}
use Rattle.gm_journal.specs.Judging.{Judged}
use Rattle.gm_journal.proofs.FollowingLemmas.{next-journalled, holds-records}

-- a judge of which no text was asked yet
abbrev pub judge_of : Problem → Judged
judge_of p = record { problem = p; records = [] }

pub told-records : (p : Problem) (judge : Judged) (reads : Option (List ℕ)) (kept records : List Record) (gate : ℕ) (last : Option ℕ)
    → judge ≡ judge_of p → records ≡ kept
    → IfSome reads (λ bytes. (texts : List (List ℕ)) × IsSalvaged (MayFollow judge.problem) judge.records bytes texts kept gate last)
    → IfSome reads (λ bytes. HoldsRecords p bytes records gate last)
told-records p judge None kept records gate last is same h = tt
told-records p judge (Some bytes) kept records gate last is same (texts, h) =
    holds-records p bytes texts records gate last
    (subst (λ (rs : List Record). IsSalvaged (MayFollow p) [] bytes texts rs gate last) (sym same)
    (subst (λ (j : Judged). IsSalvaged (MayFollow j.problem) j.records bytes texts kept gate last) is h))

pub told-foreign : (p : Problem) (judge : Judged) (reads : Option (List ℕ)) (at : ℕ) → judge ≡ judge_of p
    → IfSome reads (λ bytes. IsForeign (MayFollow judge.problem) judge.records bytes at) → IfSome reads (λ bytes. HoldsNoRecord p bytes at)
told-foreign p judge None at is h = tt
told-foreign p judge (Some bytes) at is h = subst (λ (j : Judged). IsForeign (MayFollow j.problem) j.records bytes at) is h

pub judged-records : (p : Problem) (judge : Judged) (kept records : List Record) → judge ≡ judge_of p → records ≡ kept
    → (texts : List (List ℕ)) × AreNext (MayFollow judge.problem) judge.records texts kept → AreJournalled p records
judged-records p judge kept records is same (texts, h) =
    next-journalled p texts records
    (subst (AreNext (MayFollow p) [] texts) (sym same) (subst (λ (j : Judged). AreNext (MayFollow j.problem) j.records texts kept) is h))

-- a record that needs none before it is accepted with those before it
all-accepted : (p : Problem) (earlier rs : List Record) → AllByRecursion (IsAcceptedAlone p) rs → AllAcceptedBehind p earlier rs
all-accepted p earlier [] h = tt
all-accepted p earlier (r ∷ rs) h = (accepted-alone p earlier r h.0, all-accepted p (earlier ++ r ∷ []) rs h.1)

pub judged-accepted : (p : Problem) (judge : Judged) (kept records : List Record) → judge ≡ judge_of p → records ≡ kept
    → (texts : List (List ℕ)) × AreNext (MayFollow judge.problem) judge.records texts kept → AllAccepted p records
judged-accepted p judge kept records is same h =
    let journalled : AreJournalled p records = judged-records p judge kept records is same h in
    all-accepted p [] records journalled.accepted
