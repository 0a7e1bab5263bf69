-- The records of a journal are those whose texts were put into it.
use Rattle.std.proofs.Common.{◌≡◌, ℕ, zero, suc, List, [], ◌∷◌, ◌++◌, length, take, drop, map, Option, refl, sym, ap, ◌∙◌, subst, arith, append_assoc, append-nil, length-append}
use Rattle.std.proofs.lemmas.List.{map-append, length-map, take-map, take_at, drop_at}
use Rattle.std.specs.List.{AllByRecursion}
use Rattle.gm_base.specs.Problem.{Problem}
use Rattle.disk_frames.specs.Salvage.{AreNext}
use Rattle.evidence_rec.specs.declared.record.Record.{Record}
use Rattle.evidence_rec.specs.Records.{IsAcceptedAlone}
use Rattle.evidence_text.specs.Text.{record_text}
use Rattle.evidence_text.specs.Alone.{Written, written_of, IsTextOf}
use Rattle.evidence_text.proofs.AloneLemmas.{texts-of_one}
use Rattle.gm_journal.specs.Following.{MayFollow, texts_of}
use Rattle.gm_journal.specs.Salvage.{HoldsRecords}
use Rattle.gm_journal.specs.declared.entry.Appended.{Appended}
use Rattle.gm_journal.specs.declared.entry.Appended.TheVariants as appended
use Rattle.gm_journal.specs.Entries.{OpeningView, EntryView}
use Rattle.gm_journal.specs.Histories.{kept_in, tried_by, tried_in, IsOfRecord, MayStandAll, IsLegal}
use Rattle.gm_journal.specs.Books.{Keeps, KeepsFront, HoldsFront}

texts_written : (rs : List Record) → map (λ (w : Written). w.text) (map written_of rs) ≡ texts_of rs
texts_written [] = refl
texts_written (r ∷ rs) = ap (λ (ts : List (List ℕ)). record_text r ∷ ts) (texts_written rs)

-- records of which each text is read stand behind those before, one for each text
next_these : (p : Problem) (before after : List Record) (rs : List Record) → AllByRecursion (λ r. IsTextOf p r (record_text r)) rs
    → AreNext (MayFollow p) before (texts_of rs) after → after ≡ before ++ rs
next_these p before after [] read next = next ∙ sym (append-nil before)
next_these p before after (r ∷ rs) read next =
    let one = next.1.fits in
    let same : one.found ≡ r = texts-of_one p (record_text r) one.found r one.small one.is_text read.0 in
    next_these p next.0 after rs read.1 next.2 ∙ ap (λ (l : List Record). l ++ rs) (one.after_is ∙ ap (λ (q : Record). before ++ q ∷ []) same)
    ∙ append_assoc before (r ∷ []) rs

-- as many records are behind as there are texts
record Grown (before after : List Record) (texts : List (List ℕ)) : Type 0 where
  pub more : List Record
  pub parts : after ≡ before ++ more
  pub many : length more ≡ length texts

next_grows : (p : Problem) (before after : List Record) (texts : List (List ℕ)) → AreNext (MayFollow p) before texts after → Grown before after texts
next_grows p before after [] next = record { more = []; parts = next ∙ sym (append-nil before); many = refl }
next_grows p before after (t ∷ ts) next =
    let one = next.1.fits in
    let rest = next_grows p next.0 after ts next.2 in
    record {
      more = one.found ∷ rest.more;
      parts = rest.parts ∙ ap (λ (l : List Record). l ++ rest.more) one.after_is ∙ append_assoc before (one.found ∷ []) rest.more;
      many = ap suc rest.many;
    }

next_split : (p : Problem) (before after : List Record) (ts us : List (List ℕ)) → AreNext (MayFollow p) before (ts ++ us) after
    → (mid : List Record) × AreNext (MayFollow p) before ts mid × AreNext (MayFollow p) mid us after
next_split p before after [] us next = (before, refl, next)
next_split p before after (t ∷ ts) us next =
    let rest = next_split p next.0 after ts us next.2 in
    (rest.0, (next.0, next.1, rest.1), rest.2)

-- so the records behind the opening's are these
pub holds_these : (o : OpeningView) (rs : List Record) (bytes : List ℕ) → AllByRecursion (λ r. IsTextOf o.problem r (record_text r)) rs
    → Keeps o (map written_of rs) bytes
    → (gate : ℕ) × (last : Option ℕ) × HoldsRecords o.problem bytes (o.records ++ rs) gate last
holds_these o rs bytes read keeps =
    let ks = keeps.records in
    let texts : texts_of ks ≡ texts_of rs =
    sym (texts_written ks) ∙ ap (λ (ws : List Written). map (λ (w : Written). w.text) ws) keeps.are ∙ texts_written rs in
    let all : texts_of (o.records ++ ks) ≡ texts_of o.records ++ texts_of rs =
    map-append record_text o.records ks ∙ ap (λ (ts : List (List ℕ)). texts_of o.records ++ ts) texts in
    let cut = next_split o.problem [] (o.records ++ ks) (texts_of o.records) (texts_of rs)
    (subst (λ (ts : List (List ℕ)). AreNext (MayFollow o.problem) [] ts (o.records ++ ks)) all keeps.holds.next) in
    let first = next_grows o.problem [] cut.0 (texts_of o.records) cut.1 in
    let behind : o.records ++ ks ≡ cut.0 ++ rs = next_these o.problem cut.0 (o.records ++ ks) rs read cut.2 in
    let long : length cut.0 ≡ length o.records = ap length first.parts ∙ first.many ∙ length-map o.records record_text in
    let same : ks ≡ rs =
    sym (drop_at o.records ks (length o.records) refl) ∙ ap (λ (l : List Record). drop (length o.records) l) behind
    ∙ drop_at cut.0 rs (length o.records) long in
    (keeps.gate, keeps.last, subst (λ (l : List Record). HoldsRecords o.problem bytes (o.records ++ l) keeps.gate keeps.last) same keeps.holds)

-- ---- a front part of them

AllByRecursion-take : {X : Type 0} (P : X → Type 0) (n : ℕ) (xs : List X) → AllByRecursion P xs → AllByRecursion P (take n xs)
AllByRecursion-take P zero xs all = tt
AllByRecursion-take P (suc n) [] all = tt
AllByRecursion-take P (suc n) (x ∷ xs) all = (all.0, AllByRecursion-take P n xs all.1)

pub holds_front : (o : OpeningView) (acknowledged history : List EntryView) (rs : List Record) (bytes : List ℕ)
    → AllByRecursion (λ r. IsTextOf o.problem r (record_text r)) rs → map written_of rs ≡ tried_in history → KeepsFront o acknowledged history bytes → HoldsFront o.problem o.records rs (length (kept_in acknowledged)) bytes
holds_front o acknowledged history rs bytes read are front =
    let ws : List Written = kept_in acknowledged ++ front.more in
    let n = length ws in
    let parts : map written_of rs ≡ ws ++ front.rest = are ∙ front.parts in
    let these : ws ≡ map written_of (take n rs) =
    sym (take_at ws front.rest n refl) ∙ ap (λ (l : List Written). take n l) (sym parts) ∙ take-map written_of n rs in
    let held = holds_these o (take n rs) bytes (AllByRecursion-take (λ r. IsTextOf o.problem r (record_text r)) n rs read)
    (subst (λ (l : List Written). Keeps o l bytes) these front.keeps) in
    record {
      count = n;
      enough = omega (arith, length-append (kept_in acknowledged) front.more);
      within = omega (arith, ap length parts, length-map rs written_of, length-append ws front.rest);
      gate = held.0;
      last = held.1;
      holds = held.2;
    }

-- ---- what was appended

record Made (p : Problem) (ws : List Written) : Type 0 where
  pub records : List Record
  pub are : map written_of records ≡ ws
  pub read : AllByRecursion (λ r. IsAcceptedAlone p r × IsTextOf p r (record_text r)) records

made_one : (p : Problem) (w : Written) → IsOfRecord p w → Made p (w ∷ [])
made_one p w of = record {
  records = of.found ∷ [];
  are = ap (λ (v : Written). v ∷ []) (sym of.written);
  read = ((of.accepted, subst (IsTextOf p of.found) (ap (λ (v : Written). v.text) of.written) of.is_text), tt);
}

made_by : (p : Problem) (w : Written) (r : Appended) → IsOfRecord p w → Made p (tried_by r w)
made_by p w appended.Ok of = made_one p w of
made_by p w appended.Already of = record { records = []; are = refl; read = tt }
made_by p w appended.Closed of = record { records = []; are = refl; read = tt }
made_by p w (appended.Failed count) of = made_one p w of
made_by p w appended.Memory of = record { records = []; are = refl; read = tt }

AllByRecursion-append : {X : Type 0} (P : X → Type 0) (xs ys : List X) → AllByRecursion P xs → AllByRecursion P ys → AllByRecursion P (xs ++ ys)
AllByRecursion-append P [] ys all rest = rest
AllByRecursion-append P (x ∷ xs) ys all rest = (all.0, AllByRecursion-append P xs ys all.1 rest)

made_in : (o : OpeningView) (before es : List EntryView) → MayStandAll o before es → Made o.problem (tried_in es)
made_in o before [] all = record { records = []; are = refl; read = tt }
made_in o before (e ∷ es) all =
    let one = made_by o.problem e.text e.reply all.0.may.text in
    let rest = made_in o (before ++ e ∷ []) es all.1 in
    record {
      records = one.records ++ rest.records;
      are = map-append written_of one.records rest.records ∙ (λ i. one.are i ++ rest.are i);
      read = AllByRecursion-append (λ r. IsAcceptedAlone o.problem r × IsTextOf o.problem r (record_text r)) one.records rest.records one.read rest.read;
    }

pub appended_of : (o : OpeningView) (history : List EntryView) → IsLegal o history
    → (records : List Record) × (map written_of records ≡ tried_in history)
    × AllByRecursion (λ r. IsAcceptedAlone o.problem r × IsTextOf o.problem r (record_text r)) records
appended_of o history legal =
    let made = made_in o [] history legal in
    (made.records, made.are, made.read)
