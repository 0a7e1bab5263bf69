-- What was appended to a journal are the records that were posted: each worker's texts are those of its own new records.
use Rattle.std.proofs.Common.{◌≡◌, ℕ, ◌<◌, Bool, true, false, ◌||◌, cond, List, [], ◌∷◌, ◌++◌, map, drop, get_or, inl, inr, refl, sym, ◌∙◌, ap, subst, eqb}
use Rattle.std.specs.List.{AllByRecursion}
use Rattle.std.proofs.lemmas.Bool.{false≢true, or_cases, or_left, or_right}
use Rattle.std.proofs.lemmas.List.{map-append}
use Rattle.sat_base.specs.Members.{In}
use Rattle.gm_base.specs.Problem.{Problem}
use Rattle.gm_base.specs.Explored.{Found}
use Rattle.gm_base.specs.declared.kind.Kind.{Kind}
use Rattle.gm_base.specs.declared.kind.Kind.TheVariants.{Conflict, Correction}
use Rattle.lrat_steps.specs.Log.{LogStep}
use Rattle.turn_lock.specs.Calls.{calls_by}
use Rattle.evidence_rec.specs.declared.record.Record.{Record}
use Rattle.evidence_rec.specs.Records.{found_of, founds, IsAcceptedAlone}
use Rattle.evidence_rec.specs.Held.{same_kind, same_set, and_also, AreNew}
use Rattle.evidence_rec.proofs.SetListLemmas.{same-refl}
use Rattle.evidence_text.specs.declared.version.Version.TheVariants.{One}
use Rattle.evidence_text.specs.Alone.{Written, written_of, IsTextOf}
use Rattle.evidence_text.specs.Readable.{HasRecordIds}
use Rattle.evidence_text.specs.Text.{record_text}
use Rattle.evidence_text.proofs.AcceptedLemmas.{alone-readable}
use Rattle.map_core.specs.declared.entry.Entry.{Entry}
use Rattle.map_core.specs.declared.entry.Opening.{Opening}
use Rattle.map_core.specs.declared.closing.Closing.{Closing}
use Rattle.map_core.specs.Core.{opened}
use Rattle.map_core.specs.Own.{calls_of, caller_of, brought_by, brought_in, new_in}
use Rattle.map_core.proofs.News.{new_are_brought}
use Rattle.gm_journal.specs.declared.entry.Appended.{Appended}
use Rattle.gm_journal.specs.declared.entry.Appended.TheVariants as appended
use Rattle.gm_journal.specs.Entries.{EntryView, who_of}
use Rattle.gm_journal.specs.Histories.{has_failed, is_failure, kept_by, kept_in, tried_by, tried_in, is_among}
use Rattle.worker_pool.specs.Pens.{HasWritten, text_in}
use Rattle.worker_pool.specs.Outcomes as pool
use Rattle.gm_io.specs.Evidence.{HasSmallIds}
use Rattle.gm_tool.specs.Journaled.{AreAppended}
use Rattle.gm_tool.proofs.AmongLemmas.{is_same, found-is, among-append, among-behind}
use Rattle.gm_tool.proofs.AppendedLemmas.{all-by_each}

-- ---- lists

-- what is so of each is so by what follows from it
all-map : {A : Type 0} (P Q : A → Type 0) → ((x : A) → P x → Q x) → (xs : List A) → AllByRecursion P xs → AllByRecursion Q xs
all-map P Q f [] all = tt
all-map P Q f (x ∷ xs) all = (f x all.0, all-map P Q f xs all.1)

-- two facts of each are both facts of each
all-both : {A : Type 0} (P Q : A → Type 0) (xs : List A) → AllByRecursion P xs → AllByRecursion Q xs → AllByRecursion (λ x. P x × Q x) xs
all-both P Q [] a b = tt
all-both P Q (x ∷ xs) a b = ((a.0, b.0), all-both P Q xs a.1 b.1)

-- each element is in its list
all-in : {A : Type 0} (xs : List A) → AllByRecursion (λ x. In x xs) xs
all-in [] = tt
all-in (x ∷ xs) = (inl refl, all-map (λ y. In y xs) (λ y. In y (x ∷ xs)) (λ y there. inr there) xs (all-in xs))

-- what is so of each of two lists is so of each of both together
all-join : {A : Type 0} (P : A → Type 0) (xs ys : List A) → AllByRecursion P xs → AllByRecursion P ys → AllByRecursion P (xs ++ ys)
all-join P [] ys a b = b
all-join P (x ∷ xs) ys a b = (a.0, all-join P xs ys a.1 b)

-- .. and of each of the first part of a list
all-first : {A : Type 0} (P : A → Type 0) (xs ys : List A) → AllByRecursion P (xs ++ ys) → AllByRecursion P xs
all-first P [] ys a = tt
all-first P (x ∷ xs) ys a = (a.0, all-first P xs ys a.1)

-- .. and of each of the rest
pub all-last : {A : Type 0} (P : A → Type 0) (xs ys : List A) → AllByRecursion P (xs ++ ys) → AllByRecursion P ys
all-last P [] ys a = a
all-last P (x ∷ xs) ys a = all-last P xs ys a.1

-- ---- what a worker brought

-- what is so of all that was brought is so of what one worker brought
own-brought : (P : Record → Type 0) (w : ℕ) (es : List Entry) → AllByRecursion P (brought_in es) → AllByRecursion P (brought_in (calls_of w es))
own-brought P w [] all = tt
own-brought P w (e ∷ es) all =
    pick (eqb (caller_of e) w) (all-first P (brought_by e.call e.reply) (brought_in es) all) (own-brought P w es (all-last P (brought_by e.call e.reply) (brought_in es) all))
  where
    pick : (b : Bool) → AllByRecursion P (brought_by e.call e.reply) → AllByRecursion P (brought_in (calls_of w es)) → AllByRecursion P (brought_in (cond b (e ∷ calls_of w es) (calls_of w es)))
    pick true here rest = all-join P (brought_by e.call e.reply) (brought_in (calls_of w es)) here rest
    pick false here rest = rest

-- an entry has the text of a record of which this is so
abbrev HasTextOf : (Record → Type 0) → EntryView → Type 0
HasTextOf Q e = (r : Record) × ((e.text ≡ written_of r) × Q r)

-- entries whose texts are those of records, one by one, have texts of such records
has-texts : (Q : Record → Type 0) (ws : List EntryView) (rs : List Record) → map text_in ws ≡ map written_of rs → AllByRecursion Q rs → AllByRecursion (HasTextOf Q) ws
has-texts Q [] rs same all = tt
has-texts Q (e ∷ ws) [] same all = absurd (cc)
has-texts Q (e ∷ ws) (r ∷ rs) same all = ((r, (ap (λ (l : List Written). get_or l 0 e.text) same, all.0)), has-texts Q ws rs (ap (drop 1) same) all.1)

-- ---- what was appended

-- the records of the texts that were appended
pub record Brought (Q : Record → Type 0) (log : List EntryView) : Type 0 where
  pub records : List Record
  pub texts : map written_of records ≡ tried_in log
  pub all : AllByRecursion Q records

-- with one entry more
brought-more : (Q : Record → Type 0) (w : Written) (ws : List Written) (r : Appended) (found : Record) → w ≡ written_of found → Q found → (rs : List Record) → map written_of rs ≡ ws → AllByRecursion Q rs
    → (more : List Record) × ((map written_of more ≡ tried_by r w ++ ws) × AllByRecursion Q more)
brought-more Q w ws appended.Ok found is q rs same all = (found ∷ rs, ((ap (λ (x : Written). x ∷ map written_of rs) (sym is) ∙ ap (λ (l : List Written). w ∷ l) same), (q, all)))
brought-more Q w ws appended.Already found is q rs same all = (rs, (same, all))
brought-more Q w ws appended.Closed found is q rs same all = (rs, (same, all))
brought-more Q w ws (appended.Failed count) found is q rs same all = (found ∷ rs, ((ap (λ (x : Written). x ∷ map written_of rs) (sym is) ∙ ap (λ (l : List Written). w ∷ l) same), (q, all)))
brought-more Q w ws appended.Memory found is q rs same all = (rs, (same, all))

-- over a history: each text that was tried is that of a record of which this is so
brought : (Q : Record → Type 0) (log : List EntryView) → AllByRecursion (HasTextOf Q) log → Brought Q log
brought Q [] all = record { records = []; texts = refl; all = tt }
brought Q (e ∷ es) all =
    let rest = brought Q es all.1 in
    let made = brought-more Q e.text (tried_in es) e.reply all.0.0 all.0.1.0 all.0.1.1 rest.records rest.texts rest.all in
    record { records = made.0; texts = made.1.0; all = made.1.1 }

module _ (p : Problem) (history : List Entry) (log : List EntryView) (n : ℕ) (named : AllByRecursion (λ (e : EntryView). who_of e < n) log)
    (written : (w : ℕ) → w < n → HasWritten true (calls_of w history) (calls_by who_of w log)) (alone : AllByRecursion (IsAcceptedAlone p) (brought_in history)) (ids : AllByRecursion HasRecordIds (brought_in history)) where
  -- one of those that were posted and were new, whose text is read
  abbrev Is : Record → Type 0
  Is r = In r (brought_in history) × IsTextOf p r (record_text r)

  all-read : AllByRecursion Is (brought_in history)
  all-read =
      let rs = brought_in history in
      all-map (λ (r : Record). In r rs × (IsAcceptedAlone p r × HasRecordIds r)) Is (λ r h. (h.0, record { readable = alone-readable One p r h.1.0 h.1.1; text_is = refl })) rs
      (all-both (λ (r : Record). In r rs) (λ (r : Record). IsAcceptedAlone p r × HasRecordIds r) rs (all-in rs) (all-both (IsAcceptedAlone p) HasRecordIds rs alone ids))

  made : Brought Is log
  made =
      brought Is log
      (all-by_each who_of (HasTextOf Is) n log named (λ w low.
      has-texts Is (calls_by who_of w log) (brought_in (calls_of w history)) ((written w low).texts refl) (own-brought Is w history all-read)))

  -- so what was appended are these records
  pub brought-records : List Record
  brought-records = made.records

  pub are-appended : AreAppended history log brought-records
  unfolding brought-records
  are-appended = record { texts = made.texts; brought = all-map Is (λ (r : Record). In r (brought_in history)) (λ r h. h.0) brought-records made.all }

  pub appended-read : AllByRecursion (λ (r : Record). IsTextOf p r (record_text r)) brought-records
  unfolding brought-records
  appended-read = all-map Is (λ (r : Record). IsTextOf p r (record_text r)) (λ r h. h.1) brought-records made.all

-- where none failed all is there that was appended
kept-tried-more : (w : Written) (r : Appended) (rest : Bool) (ks ts : List Written) → (rest ≡ false → ks ≡ ts) → (is_failure r || rest) ≡ false → kept_by r w ++ ks ≡ tried_by r w ++ ts
kept-tried-more w appended.Ok rest ks ts f h = ap (λ (ws : List Written). w ∷ ws) (f h)
kept-tried-more w appended.Already rest ks ts f h = f h
kept-tried-more w appended.Closed rest ks ts f h = f h
kept-tried-more w (appended.Failed count) rest ks ts f h = absurd (false≢true (sym h))
kept-tried-more w appended.Memory rest ks ts f h = f h

-- over a history in which none failed
pub kept-tried : (log : List EntryView) → has_failed log ≡ false → kept_in log ≡ tried_in log
kept-tried [] none = refl
kept-tried (e ∷ es) none = kept-tried-more e.text e.reply (has_failed es) (kept_in es) (tried_in es) (kept-tried es) none

-- ---- what the closing says of what was brought

module _ (o : Opening) (keeps : Bool) (logs : List (List LogStep)) (closing : Closing) (left : pool.IsLeft o keeps logs closing) where
  pub brought-alone : AllByRecursion (IsAcceptedAlone o.problem) (brought_in closing.history)
  brought-alone =
      let s = left.state in
      let c = left.closing_is in
      subst (λ (x : Opening). AllByRecursion (IsAcceptedAlone x.problem) (brought_in closing.history)) left.opening
      (subst (λ (es : List Entry). AllByRecursion (IsAcceptedAlone s.opening.problem) (brought_in es)) (sym c.history) (new_are_brought (opened s.opening) s s.history c.reached).2)

  pub brought-founds : founds (brought_in closing.history) ≡ new_in closing.history
  brought-founds =
      let s = left.state in
      let c = left.closing_is in
      subst (λ (es : List Entry). founds (brought_in es) ≡ new_in es) (sym c.history) (new_are_brought (opened s.opening) s s.history c.reached).1

  behind : closing.records ≡ o.records ++ brought_in closing.history
  behind =
      let s = left.state in
      let c = left.closing_is in
      c.brought ∙ ap (λ (x : Opening). x.records ++ brought_in s.history) left.opening ∙ ap (λ (es : List Entry). o.records ++ brought_in es) (sym c.history)

  pub brought-ids : HasSmallIds closing → AllByRecursion HasRecordIds (brought_in closing.history)
  brought-ids small = all-last HasRecordIds o.records (brought_in closing.history) (subst (AllByRecursion HasRecordIds) behind small.records)

  pub brought-new : AreNew [] (o.records ++ brought_in closing.history)
  brought-new = let c = left.closing_is in subst (AreNew []) (sym c.records ∙ behind) c.sound.distinct

-- ---- which of them are there

-- a set is the same as itself
same-self : (f : Found) → is_same f f ≡ true
same-self f = by f.kind (same-refl f.set)
  where
    by : (k : Kind) → same_set f.set f.set ≡ true → and_also (same_kind k k) (same_set f.set f.set) ≡ true
    by Conflict is = is
    by Correction is = is

-- a set that is among those of records is that of one of them
record-among : (rs : List Record) (f : Found) → is_among (founds rs) f ≡ true → (q : Record) × (In q rs × (found_of q ≡ f))
record-among [] f is = absurd (false≢true is)
record-among (r ∷ rs) f is =
    elim (or_cases (is_same (found_of r) f) (is_among (founds rs) f) is) [
      | inl here ↦ (r, (inl refl, found-is (found_of r) f here))
      | inr there ↦ let more = record-among rs f there in (more.0, (inr more.1.0, more.1.1))
    ]

-- and the set of a record is among those of the list that it is in
among-record : (rs : List Record) (r : Record) → In r rs → is_among (founds rs) (found_of r) ≡ true
among-record [] r is = absurd is
among-record (x ∷ xs) r (inl is) = or_left (is_same (found_of x) (found_of r)) (is_among (founds xs) (found_of r)) (ap (λ (y : Record). is_same (found_of y) (found_of r)) (sym is) ∙ same-self (found_of r))
among-record (x ∷ xs) r (inr is) = or_right (is_same (found_of x) (found_of r)) (is_among (founds xs) (found_of r)) (among-record xs r is)

-- a later record has another set
apart : (before : List Record) (x : Record) (xs : List Record) (r : Record) → AreNew before (x ∷ xs) → In r xs → found_of x ≡ found_of r → ⊥
apart before x xs r new there same =
    let here : is_among (founds (before ++ x ∷ [])) (found_of r) ≡ true =
    ap (λ fs. is_among fs (found_of r)) (map-append found_of before (x ∷ [])) ∙ among-append (founds before) (founds (x ∷ [])) (found_of r)
    ∙ or_right (is_among (founds before) (found_of r)) (is_among (founds (x ∷ [])) (found_of r))
    (or_left (is_same (found_of x) (found_of r)) false (ap (λ (f : Found). is_same f (found_of r)) same ∙ same-self (found_of r))) in
    false≢true (sym (among-behind (before ++ x ∷ []) xs (found_of r) new.1 here) ∙ among-record xs r there)

-- of one kind and set there is one record at most
one-of : (before rs : List Record) (q r : Record) → AreNew before rs → In q rs → In r rs → found_of q ≡ found_of r → q ≡ r
one-of before [] q r new a b same = absurd a
one-of before (x ∷ xs) q r new (inl a) (inl b) same = a ∙ sym b
one-of before (x ∷ xs) q r new (inl a) (inr b) same = absurd (apart before x xs r new b (ap found_of (sym a) ∙ same))
one-of before (x ∷ xs) q r new (inr a) (inl b) same = absurd (apart before x xs q new a (ap found_of (sym b) ∙ sym same))
one-of before (x ∷ xs) q r new (inr a) (inr b) same = one-of (before ++ x ∷ []) xs q r new.1 a b same

-- if some records have the sets of all others, and each is one of those, they have all of those
pub all-brought : (before more others : List Record) → AreNew before others → AllByRecursion (λ (r : Record). In r others) more
    → ((f : Found) → is_among (founds more) f ≡ is_among (founds others) f) → AllByRecursion (λ (r : Record). In r more) others
all-brought before more others new among same =
    all-map (λ (r : Record). In r others) (λ (r : Record). In r more) (λ r there.
    let q = record-among more (found_of r) (same (found_of r) ∙ among-record others r there) in
    subst (λ (x : Record). In x more) (one-of before others q.0 r new (in-all others q.0 more among q.1.0) there q.1.1) q.1.0) others (all-in others)
  where
    in-all : (others : List Record) (q : Record) (xs : List Record) → AllByRecursion (λ (r : Record). In r others) xs → In q xs → In q others
    in-all others q [] all there = absurd there
    in-all others q (x ∷ xs) all (inl is) = subst (λ (y : Record). In y others) (sym is) all.0
    in-all others q (x ∷ xs) all (inr is) = in-all others q xs all.1 is
