-- How a journal starts.
use Rattle.std.proofs.Common.{◌≡◌, inl, inr, ℕ, List, [], ◌++◌, Option, Some, IfSome, refl, sym, ap, ◌∙◌, subst, arith, append-nil}
use Rattle.gm_base.specs.Problem.{Problem}
use Rattle.gm_ports.specs.DiskState.{DiskState, IsLawful, TellsStill}
use Rattle.gm_ports.proofs.Moments.{Looks-none}
use Rattle.disk_frames.specs.Frames.{IsSettled}
use Rattle.disk_frames.specs.Salvage.{AreNext, IsReadTo}
use Rattle.disk_frames.specs.Starting.{IsMade, IsReadied}
use Rattle.disk_frames.proofs.AppendSteps.{told_of}
use Rattle.evidence_rec.specs.declared.record.Record.{Record}
use Rattle.gm_journal.specs.declared.salvaging.Salvaged.{Salvaged}
use Rattle.gm_journal.specs.declared.journal.Started.{Started}
use Rattle.gm_journal.specs.declared.journal.Started.TheVariants as started
use Rattle.gm_journal.specs.Following.{MayFollow, texts_of}
use Rattle.gm_journal.specs.Salvage.{HoldsRecords}
use Rattle.gm_journal.specs.Entries.{OpeningView, opening_of}
use Rattle.gm_journal.specs.Books.{BookState, IsKept, IsOpenedOn}
use Rattle.gm_journal.specs.Journals.{IsShared, TellsStarted}
use Rattle.gm_journal.proofs.Orders.{told_before, some_now}

-- before its first device call
pub readied_none : {D : Type 0} (state : D → DiskState) (disk : D) (last : Option ℕ) → IsLawful (state disk) → IsReadied state disk disk last
readied_none state disk last lawful = record {
  mid = disk;
  looks = Looks-none (state disk);
  until = omega arith;
  there = inr refl;
  since = λ c left. inl (lawful.only_now c left);
  with_gate = λ some. (Looks-none (state disk), refl);
  tells = ((λ x. x), (λ x. x));
  name = refl;
}

-- a disk that was made ready has the records that were salvaged
pub kept_opened : (old new : DiskState) (o : OpeningView) (gate : ℕ) (last : Option ℕ) → IfSome old.reads (λ bytes. HoldsRecords o.problem bytes o.records gate last)
    → ((texts : List (List ℕ)) → IsReadTo old texts gate last → IsSettled new texts gate) → TellsStill old new
    → (bytes : List ℕ) → new.reads ≡ Some bytes → IsKept new o [] gate
kept_opened old new o gate last read opened tells bytes told =
    let was = told_before old.reads (tells.0 (some_now new.reads bytes told)) in
    let h : HoldsRecords o.problem was.bytes o.records gate last = told_of old.reads was.bytes (λ b. HoldsRecords o.problem b o.records gate last) was.is read in
    let same : o.records ≡ o.records ++ [] = sym (append-nil o.records) in
    record {
      records = [];
      are = refl;
      next = subst (λ (rs : List Record). AreNext (MayFollow o.problem) [] (texts_of rs) rs) same h.next;
      settled = subst (λ (rs : List Record). IsSettled new (texts_of rs) gate) same
          (opened (texts_of o.records) (record { bytes = was.bytes; told = was.is; ends = h.ends }));
    }

-- the opening tells of the disk as it was made ready
pub opened_on : {D : Type 0} (state : D → DiskState) (disk was : D) (p : Problem) (records : List Record) (count : ℕ) → was ≡ disk
    → IsOpenedOn (state disk) (opening_of p records count (state was))
opened_on state disk was p records count same =
    subst (λ d. IsOpenedOn (state d) (opening_of p records count (state was))) same (record { faults = refl; name = refl; reads = refl; moment = refl })

-- and then its journal goes behind a lock
pub shared_started : {D : Type 0} (state : D → DiskState) (disk now : D) (p : Problem) (s : Salvaged) (count : ℕ) (book : BookState D) (records : List Record) (r : Started D)
    → IsShared book count records r → book.disk ≡ now → book.opening ≡ opening_of p s.records count (state now) → records ≡ s.records
    → IsReadied state disk now s.last → IsMade (state disk) (state now) s.gate s.last → (state now).faults ≡ (state disk).faults
    → ((bytes : List ℕ) → (state now).reads ≡ Some bytes → IsKept (state now) (opening_of p s.records count (state now)) [] s.gate)
    → TellsStarted state disk p s count r
shared_started state disk now p s count book records (started.Opened journal seats told) h disk_is opening_is records_are readied made quiet kept = (
  record {
    problem = ap (λ (o : OpeningView). o.problem) (h.0 ∙ opening_is);
    records = ap (λ (o : OpeningView). o.records) (h.0 ∙ opening_is);
    seats = ap (λ (o : OpeningView). o.seats) (h.0 ∙ opening_is);
  },
  h.1,
  h.2 ∙ records_are,
  (
    now,
    subst (IsOpenedOn (state now)) (sym (h.0 ∙ opening_is)) (record { faults = refl; name = refl; reads = refl; moment = refl }),
    readied,
    made,
    quiet,
    λ bytes is. subst (λ (o : OpeningView). IsKept (state now) o [] s.gate) (sym (h.0 ∙ opening_is)) (kept bytes is),
  ),
)
shared_started state disk now p s count book records (started.Failed other) h disk_is opening_is records_are readied made quiet kept = absurd h
shared_started state disk now p s count book records (started.Memory other) h disk_is opening_is records_are readied made quiet kept = (
  subst (λ d. IsReadied state disk d s.last) (sym (h ∙ disk_is)) readied,
  ap (λ d. (state d).faults) (h ∙ disk_is) ∙ quiet,
)
