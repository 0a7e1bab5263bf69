-- From worker to worker.
use Rattle.std.proofs.Common.{◌≡◌, ◌≢◌, ℕ, [], ◌∷◌, ◌++◌, map, true, false, Option, Some, None, is_some, refl, sym, ◌∙◌, ap, subst}
use Rattle.std.specs.List.{AllByRecursion}
use Rattle.std.proofs.lemmas.Bool.{or_from}
use Rattle.std.proofs.lemmas.List.{map-append}
use Rattle.gm_base.specs.Problem.{Problem}
use Rattle.evidence_rec.specs.declared.record.Record.{Record}
use Rattle.evidence_rec.specs.Records.{kind_of, set_of, found_of, IsAcceptedAlone}
use Rattle.evidence_text.specs.Alone.{Written, written_of}
use Rattle.map_core.specs.declared.entry.Call.{Call}
use Rattle.map_core.specs.declared.entry.Call.TheVariants.{Post}
use Rattle.map_core.specs.declared.entry.Reply.{Reply}
use Rattle.map_core.specs.declared.entry.Reply.TheVariants.{New}
use Rattle.map_core.specs.declared.entry.Entry.{Entry}
use Rattle.map_core.specs.declared.entry.Opening.{Opening}
use Rattle.map_core.specs.declared.replies.Posted.{Posted}
use Rattle.map_core.specs.declared.replies.Posted.TheVariants as posted
use Rattle.map_core.specs.Replies.{post_reply}
use Rattle.map_core.specs.Own.{new_in, news_by, brought_in, brought_by, is_for_journal}
use Rattle.map_core.specs.Closings.{is_cut_off}
use Rattle.gm_journal.specs.Entries.{EntryView}
use Rattle.board.specs.Boards.{IsCall}
use Rattle.worker_pool.specs.declared.worker.Worker.{Worker}
use Rattle.worker_pool.specs.Pens.{JournalView, written_by, set_in, text_in, is_there, IsWriting, IsPenOf, IsSamePen}
use Rattle.worker_pool.specs.Handing.{IsTextFor, IsForJournal, IsDue, set_of_text, text_of}
use Rattle.worker_pool.specs.Workers.{HasNewPen, IsKeeping, HasKept}
use Rattle.worker_pool.proofs.Written.{has_written, still_writing, none_failed, same_pens, any-push, new_in-push, brought_in-push}

-- a post whose answer isn't that it was new makes none
pub no_news : (r : Record) (answer : Posted) → answer ≢ posted.New → news_by (Post (kind_of r) (set_of r) r) (post_reply answer) ≡ []
no_news r posted.New new = absurd (new refl)
no_news r posted.Already new = refl
no_news r posted.Limit new = refl
no_news r posted.Memory new = refl

-- what is kept is so from an earlier moment on
pub kept_from : {O D : Type 0} {j : Option JournalView} (v w t : Worker O D) → IsSamePen v.pen w.pen → HasKept j w t → HasKept j v t
kept_from v w t same k = record { pen = same_pens v.pen w.pen t.pen same k.pen; written = k.written; broken = k.broken }

module _ {O D : Type 0} {j : Option JournalView} {p : Problem} where
  -- a call that makes no record new and is no retirement for the journal changes nothing of what it keeps
  pub keeps_on : {o : Opening} {call : Call} {used : ℕ} {reply : Reply} (w t : Worker O D) → IsKeeping j p w → t.pen ≡ w.pen → t.broken ≡ w.broken → IsCall o w.seat call used reply t.seat → news_by call reply ≡ []
      → is_for_journal call ≡ false → IsKeeping j p t
  keeps_on w t k pen broken c none other =
      record {
        pen = subst (IsPenOf p j) (sym pen) k.pen;
        written = subst (λ x. IsWriting (is_some j) t.seat.mine (written_by x)) (sym pen) (still_writing k.written c none other);
        whole = broken ∙ k.whole;
      }

  -- who goes on has kept all
  pub has_kept : (w t : Worker O D) → IsKeeping j p t → IsSamePen w.pen t.pen → HasKept j w t
  has_kept w t k same = record { pen = same; written = has_written k.written; broken = k.whole ∙ sym (none_failed (written_by t.pen) k.written.there) }

  -- before its first call it has found nothing
  pub new_keeps : (w : Worker O D) → HasNewPen j p w → w.seat.mine ≡ [] → IsKeeping j p w
  new_keeps w n none =
      record {
        pen = n.pen;
        written =
            record {
              news = λ _. ap (map set_in) n.none_yet ∙ sym (ap new_in none);
              texts = λ _. ap (map text_in) n.none_yet ∙ sym (ap (λ es. map written_of (brought_in es)) none);
              going = ap is_cut_off none;
              there = subst (AllByRecursion (λ (e : EntryView). is_there e.reply ≡ true)) (sym n.none_yet) tt;
            };
        whole = n.whole;
      }

  -- behind a post that was new its record is due
  pub is_due : {o : Opening} {used : ℕ} (w t : Worker O D) (r : Record) (text : Option Written) → IsKeeping j p w → t.pen ≡ w.pen → t.broken ≡ w.broken → IsCall o w.seat (Post (kind_of r) (set_of r) r) used New t.seat
      → IsAcceptedAlone p r → IsTextFor p r (is_some j) text → IsDue j p t text
  is_due w t r text k pen broken c accepted is =
      let made : news_by c.entry.call c.entry.reply ≡ found_of r ∷ [] = ap (λ (x : Call). news_by x c.entry.reply) c.call_is ∙ ap (news_by (Post (kind_of r) (set_of r) r)) c.reply_is in
      let brought : brought_by c.entry.call c.entry.reply ≡ r ∷ [] = ap (λ (x : Call). brought_by x c.entry.reply) c.call_is ∙ ap (brought_by (Post (kind_of r) (set_of r) r)) c.reply_is in
      record {
        pen = subst (IsPenOf p j) (sym pen) k.pen;
        is_text = for_journal j text is accepted;
        news = λ keeps.
            ap (λ x. map set_in (written_by x) ++ set_of_text text) pen ∙ ap (λ l. l ++ set_of_text text) (k.written.news keeps)
            ∙ ap (λ l. new_in w.seat.mine ++ l) (of_text j text is keeps) ∙ ap (λ l. new_in w.seat.mine ++ l) (sym made) ∙ sym (new_in-push w.seat.mine c.entry) ∙ ap new_in (sym c.mine);
        texts = λ keeps.
            ap (λ x. map text_in (written_by x) ++ text_of text) pen ∙ ap (λ l. l ++ text_of text) (k.written.texts keeps)
            ∙ ap (λ l. map written_of (brought_in w.seat.mine) ++ l) (the_text j text is keeps) ∙ sym (map-append written_of (brought_in w.seat.mine) (r ∷ []))
            ∙ ap (λ rs. map written_of (brought_in w.seat.mine ++ rs)) (sym brought) ∙ ap (map written_of) (sym (brought_in-push w.seat.mine c.entry)) ∙ ap (λ es. map written_of (brought_in es)) (sym c.mine);
        going = ap is_cut_off c.mine ∙ any-push (λ (e : Entry). is_for_journal e.call) w.seat.mine c.entry
            ∙ or_from (is_cut_off w.seat.mine) (is_for_journal c.entry.call) k.written.going (ap is_for_journal c.call_is);
        there = subst (λ x. AllByRecursion (λ (e : EntryView). is_there e.reply ≡ true) (written_by x)) (sym pen) k.written.there;
        whole = broken ∙ k.whole;
      }
    where
      for_journal : (i : Option JournalView) (x : Option Written) → IsTextFor p r (is_some i) x → IsAcceptedAlone p r → IsForJournal p i x
      for_journal None x is ok = subst (IsForJournal p None) (sym is) tt
      for_journal (Some i) None is ok = absurd is
      for_journal (Some i) (Some w) is ok = record { found = r; written = is.0; accepted = ok; is_text = is.1 }

      of_text : (i : Option JournalView) (x : Option Written) → IsTextFor p r (is_some i) x → is_some i ≡ true → set_of_text x ≡ found_of r ∷ []
      of_text None x is keeps = absurd (cc)
      of_text (Some i) None is keeps = absurd is
      of_text (Some i) (Some w) is keeps = ap (λ (v : Written). v.found ∷ []) is.0

      the_text : (i : Option JournalView) (x : Option Written) → IsTextFor p r (is_some i) x → is_some i ≡ true → text_of x ≡ written_of r ∷ []
      the_text None x is keeps = absurd (cc)
      the_text (Some i) None is keeps = absurd is
      the_text (Some i) (Some w) is keeps = ap (λ (v : Written). v ∷ []) is.0
