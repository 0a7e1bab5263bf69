-- What a yes shows.
use Rattle.std.proofs.Common.{◌≡◌, ℕ, true, List, Option, Some, None, subst}
use Rattle.std.specs.Prelude.{IfSome, is_some, Result, Ok, Err, IfOk}
use Rattle.std.proofs.lemmas.Bool.{true≢false}
use Rattle.std.specs.declared.alloc.AllocError.{AllocError}
use Rattle.sat_base.specs.Derivation.{Derivation}
use Rattle.gm_base.specs.Problem.{Problem, IsProblem}
use Rattle.evidence_rec.specs.declared.record.Record.{Record}
use Rattle.evidence_rec.specs.Records.{founds}
use Rattle.evidence_rec.specs.Seeding.{shows_all_explored}
use Rattle.evidence_rec.specs.Held.{AreExactlyAll}
use Rattle.evidence_rec.proofs.Explored.{explored-holds_all, closing-explores}
use Rattle.evidence_rec.proofs.HeldLemmas.{held-exactly_all}
use Rattle.gm_audit.specs.declared.answer.Audited.{Audited}
use Rattle.gm_audit.specs.declared.answer.Audited.TheVariants.{Yes, No}
use Rattle.gm_audit.specs.Audits.{AuditYes, TellsRecords, TellsAll}

-- the closing derivation shows that each set is explored, so that none is missing
pub exact-from_yes : (p : Problem) (text : List ℕ) (records : List Record) → IsProblem p → AuditYes p text records true
    → AreExactlyAll p records
exact-from_yes p text records ok h = by h.closing h.is_complete h.closes
  where
    by : (closing : Option Derivation) → true ≡ is_some closing
        → IfSome closing (λ d. shows_all_explored p.groups (founds records) d ≡ true) → AreExactlyAll p records
    by None e s = absurd (true≢false e)
    by (Some d) e s =
        held-exactly_all p records ok h.accepted h.distinct
        (explored-holds_all p records ok h.accepted (closing-explores p records d h.accepted s))

tells-all : (p : Problem) (text : List ℕ) (a : Audited) → IsProblem p → TellsRecords p text a → TellsAll p a
tells-all p text (Yes complete records) ok h =
    λ is. exact-from_yes p text records ok (subst (AuditYes p text records) is h)
tells-all p text (No line why) ok h = tt

pub tells-all_of : (p : Problem) (text : List ℕ) (answer : Result Audited AllocError) → IsProblem p
    → IfOk answer (TellsRecords p text) → IfOk answer (TellsAll p)
tells-all_of p text (Ok a) ok h = tells-all p text a ok h
tells-all_of p text (Err e) ok h = tt
