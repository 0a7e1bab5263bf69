-- A history with one entry more.
use Rattle.std.proofs.Common.{◌≡◌, ℕ, Bool, true, false, ◌||◌, List, [], ◌∷◌, ◌++◌, map, refl, sym, ap, ◌∙◌, subst, append_assoc, append-nil}
use Rattle.std.proofs.lemmas.Bool.{true≢false}
use Rattle.std.proofs.lemmas.List.{map-append}
use Rattle.std.proofs.lemmas.List.Concat.{flat_map-append}
use Rattle.std.proofs.lemmas.List.Folds.{list_any-append}
use Rattle.gm_base.specs.Explored.{Found}
use Rattle.gm_ports.specs.Faults.{Rose}
use Rattle.evidence_rec.specs.declared.held.Held.{Held}
use Rattle.evidence_rec.specs.Records.{founds}
use Rattle.evidence_rec.specs.Held.{same_kind, same_set, and_also}
use Rattle.evidence_text.specs.Alone.{Written}
use Rattle.gm_journal.specs.declared.entry.Appended.{Appended}
use Rattle.gm_journal.specs.declared.entry.Appended.TheVariants as appended
use Rattle.gm_journal.specs.Entries.{OpeningView, EntryView}
use Rattle.gm_journal.specs.Histories.{kept_by, kept_in, founds_in, is_among, is_failure, has_failed, count_after, count_in, Answers, MayStand, MayStandAll, AppendHasCause}
use Rattle.gm_journal.specs.Books.{IsIndexOf}
use Rattle.gm_journal.specs.Answering.{AnswersBy, IsHeldAfter, closed_after}

pub MayStandAll-push : (o : OpeningView) (before es : List EntryView) (e : EntryView) → MayStandAll o before es → MayStand o (before ++ es) e → MayStandAll o before (es ++ e ∷ [])
MayStandAll-push o before [] e all last = (subst (λ (b : List EntryView). MayStand o b e) (append-nil before) last, tt)
MayStandAll-push o before (x ∷ xs) e all last =
    (all.0, MayStandAll-push o (before ++ x ∷ []) xs e all.1 (subst (λ (b : List EntryView). MayStand o b e) (sym (append_assoc before (x ∷ []) xs)) last))

pub kept_in-push : (es : List EntryView) (e : EntryView) → kept_in (es ++ e ∷ []) ≡ kept_in es ++ kept_by e.reply e.text
kept_in-push es e =
    flat_map-append (λ (x : EntryView). kept_by x.reply x.text) es (e ∷ []) ∙ ap (λ (ws : List Written). kept_in es ++ ws) (append-nil (kept_by e.reply e.text))

pub founds_in-push : (o : OpeningView) (es : List EntryView) (e : EntryView) → founds_in o (es ++ e ∷ []) ≡ founds_in o es ++ map (λ (w : Written). w.found) (kept_by e.reply e.text)
founds_in-push o es e =
    ap (λ (ws : List Written). founds o.records ++ map (λ (w : Written). w.found) ws) (kept_in-push es e)
    ∙ ap (λ (fs : List Found). founds o.records ++ fs) (map-append (λ (w : Written). w.found) (kept_in es) (kept_by e.reply e.text))
    ∙ sym (append_assoc (founds o.records) (map (λ (w : Written). w.found) (kept_in es)) (map (λ (w : Written). w.found) (kept_by e.reply e.text)))

-- ---- whether an append failed, and the count of faults

closed_first : (r : Appended) → (is_failure r || false) ≡ closed_after false r
closed_first appended.Ok = refl
closed_first appended.Already = refl
closed_first appended.Closed = refl
closed_first (appended.Failed count) = refl
closed_first appended.Memory = refl

or_true : (b : Bool) → (b || true) ≡ true
or_true true = refl
or_true false = refl

closed_next : (b c : Bool) (r : Appended) → (b || closed_after c r) ≡ closed_after (b || c) r
closed_next b c appended.Ok = refl
closed_next b c appended.Already = refl
closed_next b c appended.Closed = refl
closed_next b c (appended.Failed count) = or_true b
closed_next b c appended.Memory = refl

pub has_failed-push : (es : List EntryView) (e : EntryView) → has_failed (es ++ e ∷ []) ≡ closed_after (has_failed es) e.reply
has_failed-push [] e = closed_first e.reply
has_failed-push (x ∷ xs) e = ap (λ (b : Bool). is_failure x.reply || b) (has_failed-push xs e) ∙ closed_next (is_failure x.reply) (has_failed xs) e.reply

-- a journal that is not closed behind an answer was not closed before it
pub open_before : (closed : Bool) (r : Appended) → closed_after closed r ≡ false → closed ≡ false
open_before closed appended.Ok is = is
open_before closed appended.Already is = is
open_before closed appended.Closed is = is
open_before closed (appended.Failed count) is = absurd (true≢false is)
open_before closed appended.Memory is = is

pub count_in-push : (n : ℕ) (es : List EntryView) (e : EntryView) → count_in n (es ++ e ∷ []) ≡ count_after (count_in n es) e.reply
count_in-push n [] e = refl
count_in-push n (x ∷ xs) e = count_in-push (count_after n x.reply) xs e

quiet_first : (n : ℕ) (r : Appended) (rest : Bool) → (is_failure r || rest) ≡ false → (count_after n r ≡ n) × (rest ≡ false)
quiet_first n appended.Ok rest is = (refl, is)
quiet_first n appended.Already rest is = (refl, is)
quiet_first n appended.Closed rest is = (refl, is)
quiet_first n (appended.Failed count) rest is = absurd (true≢false is)
quiet_first n appended.Memory rest is = (refl, is)

-- where none failed the count is the opening's
pub quiet_count : (n : ℕ) (es : List EntryView) → has_failed es ≡ false → count_in n es ≡ n
quiet_count n [] is = refl
quiet_count n (x ∷ xs) is =
    let first = quiet_first n x.reply (has_failed xs) is in
    ap (λ (k : ℕ). count_in k xs) first.0 ∙ quiet_count n xs first.1

pub count_step : (before now : ℕ) (r : Appended) → AppendHasCause before now r → now ≡ count_after before r
count_step before now appended.Ok h = h
count_step before now appended.Already h = h
count_step before now appended.Closed h = h
count_step before now (appended.Failed count) h = sym h.1
count_step before now appended.Memory h = h

-- ---- the sets that are held

or_nothing : (b : Bool) → b ≡ (b || false)
or_nothing true = refl
or_nothing false = refl

or_swapped : (a b : Bool) → (a || b) ≡ (b || (a || false))
or_swapped true true = refl
or_swapped true false = refl
or_swapped false true = refl
or_swapped false false = refl

pub none_more : (among : List Found) (f : Found) → is_among among f ≡ is_among (among ++ []) f
none_more among f = ap (λ (fs : List Found). is_among fs f) (sym (append-nil among))

index_with : (among : List Found) (w : Written) (r : Appended) (old new : Held) → IsIndexOf old among → is_failure r ≡ false → IsHeldAfter w.found r old new
    → IsIndexOf new (among ++ map (λ (w : Written). w.found) (kept_by r w))
index_with among w appended.Ok old new index fine held = record {
  at = λ f.
      held.at f.kind f.set
      ∙ ap (λ (b : Bool). and_also (same_kind w.found.kind f.kind) (same_set w.found.set f.set) || b) (index.at f)
      ∙ or_swapped (and_also (same_kind w.found.kind f.kind) (same_set w.found.set f.set)) (is_among among f)
      ∙ sym (list_any-append (λ (g : Found). and_also (same_kind g.kind f.kind) (same_set g.set f.set)) among (w.found ∷ []));
}
index_with among w appended.Already old new index fine held = record { at = λ f. held.at f.kind f.set ∙ index.at f ∙ none_more among f }
index_with among w appended.Closed old new index fine held = record { at = λ f. held.at f.kind f.set ∙ index.at f ∙ none_more among f }
index_with among w (appended.Failed count) old new index fine held = absurd (true≢false fine)
index_with among w appended.Memory old new index fine held = record { at = λ f. held.at f.kind f.set ∙ index.at f ∙ none_more among f }

fine_after : (closed : Bool) (r : Appended) → closed_after closed r ≡ false → is_failure r ≡ false
fine_after closed appended.Ok is = refl
fine_after closed appended.Already is = refl
fine_after closed appended.Closed is = refl
fine_after closed (appended.Failed count) is = is
fine_after closed appended.Memory is = refl

pub index_after : (o : OpeningView) (es : List EntryView) (e : EntryView) (closed : Bool) (old new : Held) → IsIndexOf old (founds_in o es)
    → closed_after closed e.reply ≡ false → IsHeldAfter e.text.found e.reply old new → IsIndexOf new (founds_in o (es ++ e ∷ []))
index_after o es e closed old new index is held =
    subst (IsIndexOf new) (sym (founds_in-push o es e)) (index_with (founds_in o es) e.text e.reply old new index (fine_after closed e.reply is) held)

-- ---- the answers

-- by the sets that are held and whether the journal is closed, an answer is the one that the entries before give
pub answers_of : (o : OpeningView) (es : List EntryView) (held : Held) (closed : Bool) (before now : ℕ) (w : Written) (r : Appended)
    → closed ≡ has_failed es → (closed ≡ false → IsIndexOf held (founds_in o es)) → before ≡ count_in o.faults es
    → AnswersBy held closed w.found r → AppendHasCause before now r → Answers o es w r
answers_of o es held closed before now w appended.Ok closed_is index count a cause = (sym closed_is ∙ a.0, sym ((index a.0).at w.found) ∙ a.1)
answers_of o es held closed before now w appended.Already closed_is index count a cause = (sym closed_is ∙ a.0, sym ((index a.0).at w.found) ∙ a.1)
answers_of o es held closed before now w appended.Closed closed_is index count a cause = sym closed_is ∙ a
answers_of o es held closed before now w (appended.Failed n) closed_is index count a cause = (
  sym closed_is ∙ a.0,
  sym ((index a.0).at w.found) ∙ a.1,
  subst (λ (k : ℕ). Rose k n) (count ∙ quiet_count o.faults es (sym closed_is ∙ a.0)) (subst (Rose before) (sym cause.1) cause.0),
)
answers_of o es held closed before now w appended.Memory closed_is index count a cause = tt
