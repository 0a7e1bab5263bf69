-- The texts of a journal are those of records that it may hold.
use Rattle.std.proofs.Common.{◌≡◌, ℕ, ◌<◌, ◌^◌, List, [], ◌∷◌, ◌++◌, length, Option, refl, sym, ◌∙◌, ap, ap₂, subst, append_assoc, append-nil}
use Rattle.std.specs.List.{AllByRecursion}
use Rattle.gm_base.specs.Problem.{Problem}
use Rattle.evidence_rec.specs.declared.record.Record.{Record}
use Rattle.evidence_rec.specs.Records.{IsAcceptedAlone}
use Rattle.evidence_rec.specs.Held.{AreNew}
use Rattle.evidence_text.specs.declared.version.Version.TheVariants.{One}
use Rattle.evidence_text.specs.Text.{record_text}
use Rattle.evidence_text.specs.Readable.{IsSmall, HasRecordIds}
use Rattle.evidence_text.proofs.AcceptedLemmas.{alone-readable}
use Rattle.disk_frames.specs.Salvage.{AreNext, IsSalvaged}
use Rattle.gm_journal.specs.Following.{MayFollow, AreJournalled, texts_of}
use Rattle.gm_journal.specs.Salvage.{HoldsRecords}

-- behind these records come more, whose texts these are
record AreBehind (p : Problem) (before : List Record) (texts : List (List ℕ)) (after : List Record) : Type 0 where
  more : List Record
  after_is : after ≡ before ++ more
  accepted : AllByRecursion (IsAcceptedAlone p) more
  distinct : AreNew before more
  texts_are : texts ≡ texts_of more

behind : (p : Problem) (before : List Record) (texts : List (List ℕ)) (after : List Record) → AreNext (MayFollow p) before texts after
    → AreBehind p before texts after
behind p before [] after h = record { more = []; after_is = h ∙ sym (append-nil before); accepted = tt; distinct = tt; texts_are = refl }
behind p before (text ∷ texts) after (next, is, rest) =
    let fits : MayFollow p before text next = is.fits in
    let all : AreBehind p next texts after = behind p next texts after rest in
    record {
      more = fits.found ∷ all.more;
      after_is = all.after_is ∙ ap (λ (rs : List Record). rs ++ all.more) fits.after_is ∙ append_assoc before (fits.found ∷ []) all.more;
      accepted = (fits.accepted, all.accepted);
      distinct = (fits.is_new, subst (λ (rs : List Record). AreNew rs all.more) fits.after_is all.distinct);
      texts_are = ap₂ (λ (t : List ℕ) (ts : List (List ℕ)). t ∷ ts) fits.is_text.text_is all.texts_are;
    }

-- from the first on
pub next-journalled : (p : Problem) (texts : List (List ℕ)) (records : List Record) → AreNext (MayFollow p) [] texts records → AreJournalled p records
next-journalled p texts records h =
    let all : AreBehind p [] texts records = behind p [] texts records h in
    record {
      accepted = subst (AllByRecursion (IsAcceptedAlone p)) (sym all.after_is) all.accepted;
      distinct = subst (AreNew []) (sym all.after_is) all.distinct;
    }

pub next-texts : (p : Problem) (texts : List (List ℕ)) (records : List Record) → AreNext (MayFollow p) [] texts records → texts ≡ texts_of records
next-texts p texts records h =
    let all : AreBehind p [] texts records = behind p [] texts records h in
    all.texts_are ∙ ap texts_of (sym all.after_is)

-- so what is salvaged are the texts of its records
pub holds-records : (p : Problem) (bytes : List ℕ) (texts : List (List ℕ)) (records : List Record) (gate : ℕ) (last : Option ℕ)
    → IsSalvaged (MayFollow p) [] bytes texts records gate last → HoldsRecords p bytes records gate last
holds-records p bytes texts records gate last h =
    subst (λ (ts : List (List ℕ)). IsSalvaged (MayFollow p) [] bytes ts records gate last) (next-texts p texts records h.next) h

-- and the texts of records that a journal may hold come one behind the other
next-from : (p : Problem) (before rs : List Record) → IsSmall p → AllByRecursion (IsAcceptedAlone p) rs → AreNew before rs
    → AllByRecursion HasRecordIds rs → AllByRecursion (λ (r : Record). length (record_text r) < 2 ^ 64) rs
    → AreNext (MayFollow p) before (texts_of rs) (before ++ rs)
next-from p before [] small accepted new ids sizes = append-nil before
next-from p before (r ∷ rs) small accepted new ids sizes = (
  before ++ r ∷ [],
  record {
    fits =
        record {
          found = r;
          small = small;
          is_text = record { readable = alone-readable One p r accepted.0 ids.0; text_is = refl };
          accepted = accepted.0;
          is_new = new.0;
          after_is = refl;
        };
    size = sizes.0;
  },
  subst (AreNext (MayFollow p) (before ++ r ∷ []) (texts_of rs)) (append_assoc before (r ∷ []) rs)
      (next-from p (before ++ r ∷ []) rs small accepted.1 new.1 ids.1 sizes.1),
)

pub journalled-next : (p : Problem) (records : List Record) → IsSmall p → AreJournalled p records → AllByRecursion HasRecordIds records
    → AllByRecursion (λ (r : Record). length (record_text r) < 2 ^ 64) records → AreNext (MayFollow p) [] (texts_of records) records
journalled-next p records small h ids sizes = next-from p [] records small h.accepted h.distinct ids sizes
