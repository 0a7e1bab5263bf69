-- The parts of a journal after one entry more.
use Rattle.std.proofs.Common.{◌≡◌, inl, inr, ℕ, ◌+◌, ◌^◌, ◌<◌, ◌≤◌, Bool, false, List, [], ◌∷◌, ◌++◌, length, Option, Some, None, IsSome, refl, sym, ap, ◌∙◌, subst, arith, append-nil, length-append}
use Rattle.std.proofs.lemmas.Bool.{true≢false}
use Rattle.turn_lock.specs.Calls.{calls_by}
use Rattle.gm_ports.specs.DiskState.{DiskState, IsLawful, TellsStill, AtEachMoment}
use Rattle.gm_ports.proofs.Moments.{AtEachMoment-none, AtEachMoment-weaker}
use Rattle.turn_lock.specs.Seats.{SeatView, HasAll}
use Rattle.disk_frames.specs.Frames.{HoldsTexts, IsSettled}
use Rattle.disk_frames.proofs.AppendSteps.{settled_leaves}
use Rattle.evidence_rec.specs.Index.{IsIndex}
use Rattle.evidence_rec.specs.Records.{founds}
use Rattle.evidence_text.specs.Alone.{Written}
use Rattle.evidence_text.specs.Readable.{IsSmall}
use Rattle.evidence_rec.specs.declared.held.Held.{Held}
use Rattle.gm_journal.specs.declared.entry.Appended.{Appended}
use Rattle.gm_journal.specs.declared.entry.Appended.TheVariants as appended
use Rattle.gm_journal.specs.Entries.{OpeningView, EntryView, who_of}
use Rattle.gm_journal.specs.Histories.{kept_in, founds_in, has_failed, count_after, count_in, last_moment, MayAppend, Answers, IsLegal, IsUnasked, AppendHasCause}
use Rattle.gm_journal.specs.Following.{texts_of}
use Rattle.gm_journal.specs.Rooms.{seats_left}
use Rattle.gm_journal.specs.Books.{KeepsWithOrWithout, IsKept, IsKeptOpen, IsOpenedOn, IsTraced, IsWhole, IsGoneOn, IsIndexOf, IsInOrder}
use Rattle.gm_journal.specs.Journals.{IsLeft}
use Rattle.gm_journal.specs.Answering.{IsHeldAfter, closed_after, texts_by, MayLeave, IsSmallText}
use Rattle.gm_journal.proofs.HistoryLemmas.{MayStandAll-push, kept_in-push, has_failed-push, open_before, count_in-push, count_step, none_more, index_after}
use Rattle.gm_journal.proofs.RoomLemmas.{seats_left-most, one_less}
use Rattle.gm_journal.proofs.KeptLemmas.{held_among, left_keeps, kept_by_answer, keeps_by_answer}
use Rattle.gm_journal.proofs.TracedLemmas.{last_moment-push, asked_or_not, traced_asked, traced_unasked, traced_opened}

pub record Told (o : Option (List ℕ)) : Type 0 where
  pub bytes : List ℕ
  pub is : o ≡ Some bytes

pub told_before : (o : Option (List ℕ)) → IsSome o → Told o
told_before None some = absurd (true≢false (sym some))
told_before (Some bytes) some = record { bytes = bytes; is = refl }

pub some_now : (o : Option (List ℕ)) (bytes : List ℕ) → o ≡ Some bytes → IsSome o
some_now o bytes is = subst IsSome (sym is) refl

module _ (disk new : DiskState) (held held' : Held) (gate gate' : ℕ) (closed closed' : Bool) (o : OpeningView) (es all : List EntryView) (e : EntryView) (capacity room : ℕ)
    (order : IsInOrder disk held gate closed o es capacity) (all_are : all ≡ es ++ e ∷ []) (may : MayAppend o e.who e.text (calls_by who_of e.who es))
    (answers : Answers o es e.text e.reply) (closed_is : closed' ≡ closed_after closed e.reply)
    (settled : (texts : List (List ℕ)) → IsSettled disk texts gate → closed' ≡ false → IsSettled new (texts ++ texts_by e.reply e.text.text) gate')
    (size : IsSmallText e.text.text e.reply) (tells : TellsStill disk new) where
  pub legal_after : IsLegal o all
  legal_after = subst (IsLegal o) (sym all_are) (MayStandAll-push o [] es e order.is_legal (record { may = may; answers = answers }))

  pub closed_now : closed' ≡ has_failed all
  closed_now = closed_is ∙ ap (λ (b : Bool). closed_after b e.reply) order.closed_is ∙ sym (has_failed-push es e) ∙ ap has_failed (sym all_are)

  pub kept_after : IsKeptOpen new o all gate'
  kept_after opened bytes told =
      let is : closed' ≡ false = closed_now ∙ opened in
      let before : has_failed es ≡ false = sym order.closed_is ∙ open_before closed e.reply (sym closed_is ∙ is) in
      let was = told_before disk.reads (tells.0 (some_now new.reads bytes told)) in
      let k : IsKept disk o (kept_in es) gate = order.kept before was.bytes was.is in
      let now = kept_by_answer o es (kept_in es) k.records k.are k.next e.text may.text order.small refl e.reply answers size new gate'
      (settled (texts_of (o.records ++ k.records)) k.settled is) in
      subst (λ ws. IsKept new o ws gate') (sym (kept_in-push es e) ∙ ap kept_in (sym all_are)) now

  pub in_order_after : IsGoneOn new o all → (closed' ≡ false → IsHeldAfter e.text.found e.reply held held') → gate' + 1 < 2 ^ 64
      → AppendHasCause disk.faults new.faults e.reply
      → length all + seats_left o.seats all ≤ room → IsInOrder new held' gate' closed' o all room
  in_order_after gone held_is fits cause space = record {
    small = order.small;
    kept = kept_after;
    gone_on = gone;
    index = λ is.
        let after : closed_after closed e.reply ≡ false = sym closed_is ∙ is in
        subst (λ (l : List EntryView). IsIndexOf held' (founds_in o l)) (sym all_are) (index_after o es e closed held held' (order.index (open_before closed e.reply after)) after (held_is is));
    closed_is = closed_now;
    count =
        count_step disk.faults new.faults e.reply cause ∙ ap (λ (n : ℕ). count_after n e.reply) order.count ∙ sym (count_in-push o.faults es e)
        ∙ ap (count_in o.faults) (sym all_are);
    gate_fits = fits;
    is_legal = legal_after;
    room = space;
  }

  -- a crash at any moment of the entry leaves the records from before it, with the new one or without
  pub moments : ((texts : List (List ℕ)) → IsSettled disk texts gate → AtEachMoment disk new (MayLeave e.reply texts e.text.text))
      → has_failed es ≡ false → (bytes : List ℕ) → disk.reads ≡ Some bytes → AtEachMoment disk new (KeepsWithOrWithout o (kept_in es) e.text)
  moments each opened bytes told =
      let k : IsKept disk o (kept_in es) gate = order.kept opened bytes told in
      AtEachMoment-weaker disk new (MayLeave e.reply (texts_of (o.records ++ k.records)) e.text.text) (KeepsWithOrWithout o (kept_in es) e.text)
      (each (texts_of (o.records ++ k.records)) k.settled)
      (keeps_by_answer o es (kept_in es) k.records k.are k.next e.text may.text order.small refl e.reply answers size)

-- the entry as it was written down
pub one_more : (new items old : List EntryView) (x : EntryView) (who : ℕ) (text w : Written) (r : Appended) (moment : ℕ)
    → new ≡ items ++ x ∷ [] → items ≡ old → x ≡ record { who = who; text = text; reply = r; moment = moment } → text ≡ w
    → new ≡ old ++ (record { who = who; text = w; reply = r; moment = moment }) ∷ []
one_more new items old x who text w r moment is same entry text_is =
    is ∙ (λ i. same i ++ (entry ∙ ap (λ (v : Written). record { who = who; text = v; reply = r; moment = moment }) text_is) i ∷ [])

-- the disk goes on, whatever the entry was answered
pub gone_after : {D : Type 0} (state : D → DiskState) (disk new : D) (o : OpeningView) (es all : List EntryView) (e : EntryView) (gate : ℕ)
    → IsLawful (state disk) → IsLawful (state new) → all ≡ es ++ e ∷ [] → IsGoneOn (state disk) o es → Answers o es e.text e.reply
    → (has_failed es ≡ false → (bytes : List ℕ) → (state disk).reads ≡ Some bytes
    → AtEachMoment (state disk) (state new) (KeepsWithOrWithout o (kept_in es) e.text))
    → IsKeptOpen (state new) o all gate → (IsUnasked e.reply → new ≡ disk) → e.moment ≡ (state new).moment → (state new).name ≡ (state disk).name
    → TellsStill (state disk) (state new) → IsGoneOn (state new) o all
gone_after state disk new o es all e gate lawful now_lawful all_are gone answers each kept untouched now name_is tells = record {
  name = name_is ∙ gone.name;
  tells = ((λ x. gone.tells.0 (tells.0 x)), (λ x. tells.1 (gone.tells.1 x)));
  unused = λ none. absurd (omega (arith, ap length (sym none ∙ all_are), length-append es (e ∷ [])));
  moment = sym now ∙ sym (ap (last_moment o.moment) all_are ∙ last_moment-push o.moment es e);
  traced = λ told. subst (IsTraced (state new) o) (sym all_are) (traced told);
}
  where
    traced : IsSome (state new).reads → IsTraced (state new) o (es ++ e ∷ [])
    traced told = elim (asked_or_not o es e.text e.reply answers) [
      | inl quiet ↦
          let same = untouched quiet.0 in
          subst (λ d. IsTraced (state d) o (es ++ e ∷ [])) (sym same)
          (traced_unasked o es e (state disk) (now ∙ ap (λ d. (state d).moment) same) lawful (gone.traced (tells.0 told)) quiet.1)
      | inr asked ↦
          let was = told_before (state disk).reads (tells.0 told) in
          let is = told_before (state new).reads told in
          let kept_now : IsKeptOpen (state new) o (es ++ e ∷ []) gate = subst (λ (l : List EntryView). IsKeptOpen (state new) o l gate) all_are kept in
          traced_asked o es e (state disk) (state new) now now_lawful (gone.traced (tells.0 told)) asked (each asked.opened was.bytes was.is)
          (λ opened bytes left. left_keeps (state new) o (kept_in (es ++ e ∷ [])) gate (kept_now opened is.bytes is.is) bytes left)
    ]

-- ---- an entry for which there was no room to go on

module _ (disk : DiskState) (held : Held) (gate : ℕ) (closed : Bool) (o : OpeningView) (es all : List EntryView) (who : ℕ) (w : Written) (at capacity room : ℕ)
    (order : IsInOrder disk held gate closed o es capacity) (all_are : all ≡ es ++ (record { who = who; text = w; reply = appended.Memory; moment = at }) ∷ [])
    (may : MayAppend o who w (calls_by who_of who es)) where
  abbrev stopped : EntryView
  stopped = record { who = who; text = w; reply = appended.Memory; moment = at }

  stays : (texts : List (List ℕ)) → IsSettled disk texts gate → closed ≡ false → IsSettled disk (texts ++ []) gate
  stays texts settled is = subst (λ (ts : List (List ℕ)). IsSettled disk ts gate) (sym (append-nil texts)) settled

  pub stopped_legal : IsLegal o all
  stopped_legal = legal_after disk disk held held gate gate closed closed o es all stopped capacity room
      order all_are may tt refl stays tt ((λ x. x), (λ x. x))

  pub stopped_kept : IsKeptOpen disk o all gate
  stopped_kept = kept_after disk disk held held gate gate closed closed o es all stopped capacity room
      order all_are may tt refl stays tt ((λ x. x), (λ x. x))

  pub stopped_order : IsGoneOn disk o all → capacity ≤ room → IsInOrder disk held gate closed o all room
  stopped_order gone longer =
      let less = one_less o.seats es stopped may.seat may.going refl in
      let size : length all ≡ length es + 1 = ap length all_are ∙ length-append es (stopped ∷ []) in
      let left : seats_left o.seats all ≡ seats_left o.seats (es ++ stopped ∷ []) = ap (seats_left o.seats) all_are in
      in_order_after disk disk held held gate gate closed closed o es all stopped capacity room order all_are may tt refl stays tt ((λ x. x), (λ x. x))
      gone (λ is. record { at = λ k q. refl }) order.gate_fits refl (omega (arith, order.room, less, size, left, longer))

  pub stopped_moments : IsLawful disk → has_failed es ≡ false → (bytes : List ℕ) → disk.reads ≡ Some bytes → AtEachMoment disk disk (KeepsWithOrWithout o (kept_in es) w)
  stopped_moments lawful = moments disk disk held held gate gate closed closed o es all stopped capacity room
      order all_are may tt refl stays tt ((λ x. x), (λ x. x))
      (λ texts settled. AtEachMoment-none disk (HoldsTexts texts) lawful (settled_leaves disk texts gate settled))

-- there is a place for it
pub has_place : (o : OpeningView) (es : List EntryView) (who : ℕ) (w : Written) (capacity : ℕ) → MayAppend o who w (calls_by who_of who es)
    → length es + seats_left o.seats es ≤ capacity → length es < capacity
has_place o es who w capacity may room =
    let less = one_less o.seats es (record { who = who; text = w; reply = appended.Memory; moment = 0 }) may.seat may.going refl in
    omega (arith, less, room)

-- ---- a journal without an entry

pub opened_order : (disk : DiskState) (held : Held) (gate : ℕ) (o : OpeningView) (capacity : ℕ) → IsSmall o.problem → IsLawful disk
    → ((bytes : List ℕ) → disk.reads ≡ Some bytes → IsKept disk o [] gate) → IsIndex held o.records → IsOpenedOn disk o → gate + 1 < 2 ^ 64
    → o.seats ≤ capacity → IsInOrder disk held gate false o [] capacity
opened_order disk held gate o capacity small lawful kept index on fits space = record {
  small = small;
  kept = λ opened bytes told. kept bytes told;
  gone_on = record {
    name = on.name;
    tells = ((λ x. subst IsSome on.reads x), (λ x. subst IsSome (sym on.reads) x));
    unused = λ none. on;
    moment = on.moment;
    traced = λ told.
        let t = told_before disk.reads told in
        traced_opened disk o gate lawful on.moment (kept t.bytes t.is);
  };
  index = λ is. record { at = λ f. index.at f.kind f.set ∙ held_among o.records f ∙ none_more (founds o.records) f };
  closed_is = refl;
  count = on.faults;
  gate_fits = fits;
  is_legal = tt;
  room = omega (arith, seats_left-most o.seats [], space);
}

-- ---- what is left of a journal

pub is_left : (disk : DiskState) (o opened : OpeningView) (seats : List (SeatView EntryView OpeningView)) (history : List EntryView) (gate : ℕ) → opened ≡ o
    → HasAll who_of IsLegal o seats history → IsKeptOpen disk opened history gate → disk.faults ≡ count_in opened.faults history
    → IsGoneOn disk opened history → (IsSome disk.reads → IsWhole disk opened history) → IsLeft disk o seats
is_left disk o opened seats history gate same has kept count gone whole = record {
  history = history;
  seats_are = has;
  gate = gate;
  kept = subst (λ (p : OpeningView). IsKeptOpen disk p history gate) same kept;
  count = count ∙ ap (λ (p : OpeningView). count_in p.faults history) same;
  gone_on = subst (λ (p : OpeningView). IsGoneOn disk p history) same gone;
  whole = λ told. subst (λ (p : OpeningView). IsWhole disk p history) same (whole told);
}
