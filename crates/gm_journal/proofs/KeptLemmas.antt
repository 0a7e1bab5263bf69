-- What a journal's disk has, with one record more.
use Rattle.std.proofs.Common.{◌≡◌, inl, inr, ℕ, ◌^◌, ◌<◌, Bool, false, ◌||◌, List, [], ◌∷◌, ◌++◌, length, map, Option, Some, IfSome, refl, sym, ap, ◌∙◌, subst, append_assoc, append-nil}
use Rattle.std.proofs.lemmas.List.{map-append}
use Rattle.gm_base.specs.Explored.{Found}
use Rattle.gm_ports.specs.DiskState.{DiskState}
use Rattle.disk_frames.specs.Frames.{frames, HoldsTexts, IsSettled}
use Rattle.disk_frames.specs.Salvage.{AreNext}
use Rattle.disk_frames.proofs.AppendSteps.{told_of, settled_leaves}
use Rattle.disk_frames.proofs.SalvageLemmas.{AreNext-push, HoldsTexts-salvaged}
use Rattle.evidence_rec.specs.declared.record.Record.{Record}
use Rattle.evidence_rec.specs.Records.{kind_of, set_of, found_of, founds}
use Rattle.evidence_rec.specs.Held.{same_kind, same_set, and_also, is_held}
use Rattle.evidence_text.specs.Text.{record_text}
use Rattle.evidence_text.specs.Alone.{Written, written_of}
use Rattle.evidence_text.specs.Readable.{IsSmall}
use Rattle.gm_journal.specs.declared.entry.Appended.{Appended}
use Rattle.gm_journal.specs.declared.entry.Appended.TheVariants as appended
use Rattle.gm_journal.specs.Following.{MayFollow, texts_of}
use Rattle.gm_journal.specs.Entries.{OpeningView, EntryView}
use Rattle.gm_journal.specs.Histories.{IsOfRecord, kept_by, founds_in, is_among, Answers}
use Rattle.gm_journal.specs.Books.{Keeps, KeepsWithOrWithout, IsKept}
use Rattle.gm_journal.specs.Answering.{texts_by, MayLeave, IsSmallText}

-- records hold the sets that are among theirs
pub held_among : (rs : List Record) (f : Found) → is_held rs f.kind f.set ≡ is_among (founds rs) f
held_among [] f = refl
held_among (r ∷ rs) f = ap (λ (b : Bool). and_also (same_kind (kind_of r) f.kind) (same_set (set_of r) f.set) || b) (held_among rs f)

founds_written : (rs : List Record) → map (λ (w : Written). w.found) (map written_of rs) ≡ founds rs
founds_written [] = refl
founds_written (r ∷ rs) = ap (λ (fs : List Found). found_of r ∷ fs) (founds_written rs)

-- the founds of the opening's records and of those of these texts
founds_of : (o : OpeningView) (records : List Record) (kept : List Written) → map written_of records ≡ kept
    → founds (o.records ++ records) ≡ founds o.records ++ map (λ (w : Written). w.found) kept
founds_of o records kept are =
    map-append found_of o.records records
    ∙ ap (λ (fs : List Found). founds o.records ++ fs) (sym (founds_written records) ∙ ap (λ (ws : List Written). map (λ (w : Written). w.found) ws) are)

module _ (o : OpeningView) (kept : List Written) (records : List Record) (are : map written_of records ≡ kept)
    (next : AreNext (MayFollow o.problem) [] (texts_of (o.records ++ records)) (o.records ++ records)) where
  -- bytes that hold the texts are salvaged with their records
  pub keeps : (bytes : List ℕ) → HoldsTexts (texts_of (o.records ++ records)) bytes → Keeps o kept bytes
  keeps bytes holds = record {
    records = records;
    are = are;
    gate = length (frames (texts_of (o.records ++ records)));
    last = Some holds.gate;
    holds = HoldsTexts-salvaged (MayFollow o.problem) [] bytes (texts_of (o.records ++ records)) (o.records ++ records) holds next;
  }

-- so a disk that keeps the records is salvaged with them, as it reads and as a crash leaves it
module _ (disk : DiskState) (o : OpeningView) (kept : List Written) (gate : ℕ) (is : IsKept disk o kept gate) (bytes : List ℕ) where
  pub read_keeps : disk.reads ≡ Some bytes → Keeps o kept bytes
  read_keeps told =
      let texts = texts_of (o.records ++ is.records) in
      let held : IfSome disk.reads (HoldsTexts texts) = subst (λ (r : Option (List ℕ)). IfSome r (HoldsTexts texts)) (sym is.settled.told) is.settled.holds in
      keeps o kept is.records is.are is.next bytes (told_of disk.reads bytes (HoldsTexts texts) told held)

  pub left_keeps : disk.may_leave bytes → Keeps o kept bytes
  left_keeps left = keeps o kept is.records is.are is.next bytes (settled_leaves disk (texts_of (o.records ++ is.records)) gate is.settled bytes left)

module _ (o : OpeningView) (kept : List Written) (records : List Record) (are : map written_of records ≡ kept)
    (next : AreNext (MayFollow o.problem) [] (texts_of (o.records ++ records)) (o.records ++ records))
    (w : Written) (of : IsOfRecord o.problem w) (small : IsSmall o.problem)
    (fresh : is_among (founds o.records ++ map (λ (v : Written). v.found) kept) w.found ≡ false) (size : length w.text < 2 ^ 64) where
  more_are : map written_of (records ++ of.found ∷ []) ≡ kept ++ w ∷ []
  more_are = map-append written_of records (of.found ∷ []) ∙ (λ i. are i ++ sym of.written i ∷ [])

  more_records : (o.records ++ records) ++ of.found ∷ [] ≡ o.records ++ (records ++ of.found ∷ [])
  more_records = append_assoc o.records records (of.found ∷ [])

  text_is : w.text ≡ record_text of.found
  text_is = ap (λ (v : Written). v.text) of.written

  more_texts : texts_of (o.records ++ records) ++ w.text ∷ [] ≡ texts_of (o.records ++ (records ++ of.found ∷ []))
  more_texts =
      (λ i. texts_of (o.records ++ records) ++ text_is i ∷ []) ∙ sym (map-append record_text (o.records ++ records) (of.found ∷ [])) ∙ ap texts_of more_records

  is_new : is_held (o.records ++ records) (kind_of of.found) (set_of of.found) ≡ false
  is_new =
      held_among (o.records ++ records) (found_of of.found)
      ∙ (λ i. is_among (founds_of o records kept are i) (sym (ap (λ (v : Written). v.found) of.written) i))
      ∙ fresh

  more_next : AreNext (MayFollow o.problem) [] (texts_of (o.records ++ (records ++ of.found ∷ []))) (o.records ++ (records ++ of.found ∷ []))
  more_next =
      subst (λ (rs : List Record). AreNext (MayFollow o.problem) [] (texts_of (o.records ++ (records ++ of.found ∷ []))) rs) more_records
      (subst (λ (ts : List (List ℕ)). AreNext (MayFollow o.problem) [] ts ((o.records ++ records) ++ of.found ∷ [])) more_texts
      (AreNext-push (MayFollow o.problem) [] (texts_of (o.records ++ records)) (o.records ++ records) w.text ((o.records ++ records) ++ of.found ∷ []) next
      (record {
        fits = record {
          found = of.found;
          small = small;
          is_text = of.is_text;
          accepted = of.accepted;
          is_new = is_new;
          after_is = refl;
        };
        size = size;
      })))

  pub keeps_more : (bytes : List ℕ) → HoldsTexts (texts_of (o.records ++ records) ++ w.text ∷ []) bytes → Keeps o (kept ++ w ∷ []) bytes
  keeps_more bytes holds = keeps o (kept ++ w ∷ []) (records ++ of.found ∷ []) more_are more_next bytes (subst (λ (ts : List (List ℕ)). HoldsTexts ts bytes) more_texts holds)

  pub kept_more : (disk : DiskState) (gate : ℕ) → IsSettled disk (texts_of (o.records ++ records) ++ w.text ∷ []) gate → IsKept disk o (kept ++ w ∷ []) gate
  kept_more disk gate settled = record {
    records = records ++ of.found ∷ [];
    are = more_are;
    next = more_next;
    settled = subst (λ (ts : List (List ℕ)). IsSettled disk ts gate) more_texts settled;
  }

-- with no record more
kept_same : (o : OpeningView) (kept : List Written) (records : List Record) → map written_of records ≡ kept
    → AreNext (MayFollow o.problem) [] (texts_of (o.records ++ records)) (o.records ++ records) → (disk : DiskState) (gate : ℕ)
    → IsSettled disk (texts_of (o.records ++ records) ++ []) gate → IsKept disk o (kept ++ []) gate
kept_same o kept records are next disk gate settled = record {
  records = records;
  are = are ∙ sym (append-nil kept);
  next = next;
  settled = subst (λ (ts : List (List ℕ)). IsSettled disk ts gate) (append-nil (texts_of (o.records ++ records))) settled;
}

-- by each answer
pub kept_by_answer : (o : OpeningView) (es : List EntryView) (kept : List Written) (records : List Record) → map written_of records ≡ kept
    → AreNext (MayFollow o.problem) [] (texts_of (o.records ++ records)) (o.records ++ records) → (w : Written) → IsOfRecord o.problem w → IsSmall o.problem
    → founds_in o es ≡ founds o.records ++ map (λ (v : Written). v.found) kept
    → (r : Appended) → Answers o es w r → IsSmallText w.text r → (disk : DiskState) (gate : ℕ)
    → IsSettled disk (texts_of (o.records ++ records) ++ texts_by r w.text) gate → IsKept disk o (kept ++ kept_by r w) gate
kept_by_answer o es kept records are next w of small all appended.Ok a size disk gate settled =
    kept_more o kept records are next w of small (ap (λ (fs : List Found). is_among fs w.found) (sym all) ∙ a.1) size disk gate settled
kept_by_answer o es kept records are next w of small all appended.Already a size disk gate settled = kept_same o kept records are next disk gate settled
kept_by_answer o es kept records are next w of small all appended.Closed a size disk gate settled = kept_same o kept records are next disk gate settled
kept_by_answer o es kept records are next w of small all (appended.Failed count) a size disk gate settled = kept_same o kept records are next disk gate settled
kept_by_answer o es kept records are next w of small all appended.Memory a size disk gate settled = kept_same o kept records are next disk gate settled

-- and what a crash may leave at any moment of it
pub keeps_by_answer : (o : OpeningView) (es : List EntryView) (kept : List Written) (records : List Record) → map written_of records ≡ kept
    → AreNext (MayFollow o.problem) [] (texts_of (o.records ++ records)) (o.records ++ records) → (w : Written) → IsOfRecord o.problem w → IsSmall o.problem
    → founds_in o es ≡ founds o.records ++ map (λ (v : Written). v.found) kept
    → (r : Appended) → Answers o es w r → IsSmallText w.text r → (bytes : List ℕ)
    → MayLeave r (texts_of (o.records ++ records)) w.text bytes → KeepsWithOrWithout o kept w bytes
keeps_by_answer o es kept records are next w of small all appended.Ok a size bytes (inl holds) = inl (keeps o kept records are next bytes holds)
keeps_by_answer o es kept records are next w of small all appended.Ok a size bytes (inr holds) =
    inr (keeps_more o kept records are next w of small (ap (λ (fs : List Found). is_among fs w.found) (sym all) ∙ a.1) size bytes holds)
keeps_by_answer o es kept records are next w of small all appended.Already a size bytes holds = inl (keeps o kept records are next bytes holds)
keeps_by_answer o es kept records are next w of small all appended.Closed a size bytes holds = inl (keeps o kept records are next bytes holds)
keeps_by_answer o es kept records are next w of small all (appended.Failed count) a size bytes (inl holds) = inl (keeps o kept records are next bytes holds)
keeps_by_answer o es kept records are next w of small all (appended.Failed count) a size bytes (inr holds) =
    inr (keeps_more o kept records are next w of small (ap (λ (fs : List Found). is_among fs w.found) (sym all) ∙ a.1) size bytes holds)
keeps_by_answer o es kept records are next w of small all appended.Memory a size bytes holds = inl (keeps o kept records are next bytes holds)
