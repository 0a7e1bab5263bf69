-- What evidence shows of a problem, and what an answer of an audit says.
use Rattle.std.specs.Prelude.{◌≡◌, ◌↔◌, ℕ, ◌≤◌, Bool, true, List, [], length, Option, Some, None, IfSome, is_some}
use Rattle.std.specs.List.{AllByRecursion}
use Rattle.gm_base.specs.Problem.{Problem, IsProblem}
use Rattle.sat_base.specs.Derivation.{Derivation, HasIds, max_id}
use Rattle.evidence_rec.specs.declared.record.Record.{Record}
use Rattle.evidence_rec.specs.Records.{founds, AllAccepted}
use Rattle.evidence_rec.specs.Seeding.{shows_all_explored}
use Rattle.evidence_rec.specs.Held.{AreNew, AreExactlyAll}
use Rattle.evidence_rec.specs.Shorten.{shorten}
use Rattle.evidence_text.specs.declared.version.Version.{Version}
use Rattle.evidence_text.specs.declared.version.Version.TheVariants.{Two}
use Rattle.evidence_text.specs.declared.offence.Offence.{Offence}
use Rattle.evidence_text.specs.Text.{evidence_text}
use Rattle.evidence_text.specs.Reading.{offence}
use Rattle.evidence_text.specs.Readable.{IsSmall, IsReadable, IsReadableEnd, HasRecordIds}
use Rattle.gm_audit.specs.declared.answer.Audited.{Audited}
use Rattle.gm_audit.specs.declared.answer.Audited.TheVariants.{Yes, No}
use Rattle.gm_audit.specs.Refusals.{max_bytes, first_refusal}

-- these bytes are the evidence text, of either version, of the records; each of them is accepted with those before it; no two of one kind have one set; and where
-- the text is complete, it ends in a derivation of the empty clause from their block clauses
pub record AuditYes (p : Problem) (text : List ℕ) (records : List Record) (complete : Bool) : Type 0 where
  pub version : Version
  pub closing : Option Derivation
  pub is_complete : complete ≡ is_some closing
  pub text_is : text ≡ evidence_text version p records closing
  -- each number is one that a text can hold
  pub readable : AllByRecursion (IsReadable version p) records
  pub readable_end : IsReadableEnd p closing
  pub accepted : AllAccepted p records
  pub distinct : AreNew [] records
  pub closes : IfSome closing (λ d. shows_all_explored p.groups (founds records) d ≡ true)

-- the refusal that an answer tells
abbrev pub refusal_of : Audited → Option Offence
refusal_of (Yes complete records) = None
refusal_of (No line why) = Some (offence line why)

-- a yes tells the records of the text, and whether it is complete
abbrev pub TellsRecords : Problem → List ℕ → Audited → Type 0
TellsRecords p text (Yes complete records) = AuditYes p text records complete
TellsRecords p text (No line why) = Unit {0}

-- a yes tells these records, and is complete where something closes them
abbrev pub TellsKept : List Record → Option Derivation → Audited → Type 0
TellsKept kept closing (Yes complete records) = (records ≡ kept) × (complete ≡ is_some closing)
TellsKept kept closing (No line why) = Unit {0}

-- and where it is complete, their sets are exactly all minimal conflicts and all minimal corrections
abbrev pub TellsAll : Problem → Audited → Type 0
TellsAll p (Yes complete records) = complete ≡ true → AreExactlyAll p records
TellsAll p (No line why) = Unit {0}

-- complete evidence shows all minimal sets, whoever wrote it
abbrev pub CompleteIsExact : Type 0
CompleteIsExact = (p : Problem) (text : List ℕ) (records : List Record) → IsProblem p → AuditYes p text records true → AreExactlyAll p records

-- a text is refused for nothing exactly where it is within the limit and shows what it says, with some records
abbrev pub NoneIsYes : Type 0
NoneIsYes =
    (p : Problem) (text : List ℕ)
    → IsSmall p
    → (first_refusal p text ≡ None) ↔ ((length text ≤ max_bytes) × (records : List Record) × (complete : Bool) × AuditYes p text records complete)

-- and these are of one list of records
abbrev pub YesIsOne : Type 0
YesIsOne =
    (p : Problem) (text : List ℕ) (records others : List Record) (complete other : Bool)
    → IsSmall p
    → AuditYes p text records complete
    → AuditYes p text others other
    → (records ≡ others) × (complete ≡ other)

-- what is written of distinct records, each accepted with those before it, and of what closes them, shows what it says
abbrev pub WrittenIsYes : Type 0
WrittenIsYes =
    (p : Problem) (records : List Record) (closing : Option Derivation)
    → length records ≤ max_id
    → AllAccepted p records
    → AllByRecursion HasRecordIds records
    → AreNew [] records
    → IfSome closing (λ d. (shows_all_explored p.groups (founds records) d ≡ true) × HasIds d)
    → AuditYes p (evidence_text Two p records closing) records (is_some closing)

-- and so is what is written of them where each is shortened behind those before it
abbrev pub ShortenedIsYes : Type 0
ShortenedIsYes =
    (p : Problem) (records : List Record) (closing : Option Derivation)
    → length records ≤ max_id
    → AllAccepted p records
    → AllByRecursion HasRecordIds records
    → AreNew [] records
    → IfSome closing (λ d. (shows_all_explored p.groups (founds records) d ≡ true) × HasIds d)
    → AuditYes p (evidence_text Two p (shorten records) closing) (shorten records) (is_some closing)
