-- What workers found at the board and appended to a journal: where no worker retired, the journal has each set that was new there, and
-- no other. That the seats have all appends is told by closing the journal.
use Rattle.std.proofs.Common.{◌≡◌, ℕ, ◌<◌, Bool, true, false, ◌||◌, cond, List, [], ◌∷◌, ◌++◌, length, map, get_or, All, Some, refl, sym, ◌∙◌, ap, subst, eqb, eq-eqb, append_assoc, append-nil}
use Rattle.std.specs.List.{list_any, AllByRecursion}
use Rattle.std.proofs.Math.Bool.{or-false, or_assoc}
use Rattle.std.proofs.lemmas.Bool.{false≢true, or_from}
use Rattle.std.proofs.lemmas.List.{map-append}
use Rattle.std.proofs.lemmas.List.Concat.{flat_map-append}
use Rattle.gm_base.specs.Explored.{Found}
use Rattle.turn_lock.specs.Calls.{calls_by}
use Rattle.turn_lock.specs.Seats.{AreAll, HasAll}
use Rattle.evidence_rec.specs.Records.{founds}
use Rattle.evidence_text.specs.Alone.{Written}
use Rattle.map_core.specs.declared.entry.Entry.{Entry}
use Rattle.map_core.specs.Own.{calls_of, caller_of, is_retirement, news_by, new_in}
use Rattle.gm_journal.specs.declared.entry.Appended.{Appended}
use Rattle.gm_journal.specs.declared.entry.Appended.TheVariants as appended
use Rattle.gm_journal.specs.Entries.{OpeningView, EntryView, who_of}
use Rattle.gm_journal.specs.Histories.{Answers, MayStandAll, IsLegal, kept_by, kept_in, founds_in, is_among, is_failure, has_failed}
use Rattle.worker_pool.specs.Pens.{JournalView, PenView, is_there, set_in}
use Rattle.worker_pool.specs.Outcomes.{AreWritten}
use Rattle.worker_pool.proofs.Unbroken.{by_each, none_in, none_of}
use Rattle.gm_tool.specs.Journaled.{NoneRetired}
use Rattle.gm_tool.proofs.AmongLemmas.{is_same, found-is, among-append}

-- ---- what is so of each caller's entries is so of all

-- some entry passes a test, in each of two histories or in neither, where it is so of each caller
none-either : {A B : Type 0} (by : A → ℕ) (of : B → ℕ) (test : A → Bool) (other : B → Bool) (n : ℕ) (xs : List A) (ys : List B) → AllByRecursion (λ y. of y < n) ys
    → ((w : ℕ) → w < n → list_any test (calls_by by w xs) ≡ list_any other (calls_by of w ys)) → list_any test xs ≡ false → list_any other ys ≡ false
none-either by of test other n xs ys named same none = none_in of other n ys named (λ w low. sym (same w low) ∙ none_of by test w xs none)

both_false : (a b : Bool) → (a ≡ false → b ≡ false) → (b ≡ false → a ≡ false) → a ≡ b
both_false true true f g = refl
both_false true false f g = g refl
both_false false true f g = sym (f refl)
both_false false false f g = refl

any-same : {A B : Type 0} (by : A → ℕ) (of : B → ℕ) (test : A → Bool) (other : B → Bool) (n : ℕ) (xs : List A) (ys : List B) → AllByRecursion (λ x. by x < n) xs → AllByRecursion (λ y. of y < n) ys
    → ((w : ℕ) → w < n → list_any test (calls_by by w xs) ≡ list_any other (calls_by of w ys)) → list_any test xs ≡ list_any other ys
any-same by of test other n xs ys named_xs named_ys same =
    both_false (list_any test xs) (list_any other ys) (none-either by of test other n xs ys named_ys same) (none-either of by other test n ys xs named_xs (λ w low. sym (same w low)))

all-others : {E : Type 0} (P : E → Type 0) (b : Bool) (e : E) (xs : List E) → AllByRecursion P (cond b (e ∷ xs) xs) → AllByRecursion P xs
all-others P true e xs all = all.1
all-others P false e xs all = all

pub all-by_each : {E : Type 0} (caller : E → ℕ) (P : E → Type 0) (n : ℕ) (es : List E) → AllByRecursion (λ e. caller e < n) es → ((w : ℕ) → w < n → AllByRecursion P (calls_by caller w es))
    → AllByRecursion P es
all-by_each caller P n [] named each = tt
all-by_each caller P n (e ∷ es) named each = (
  (subst (λ (b : Bool). AllByRecursion P (cond b (e ∷ calls_by caller (caller e) es) (calls_by caller (caller e) es))) (eq-eqb (caller e) (caller e) refl) (each (caller e) named.0)).0,
  all-by_each caller P n es named.1 (λ w low. all-others P (eqb (caller e) w) e (calls_by caller w es) (each w low)),
)

-- ---- the sets of entries

among-new : (es : List Entry) (f : Found) → is_among (new_in es) f ≡ list_any (λ (e : Entry). is_among (news_by e.call e.reply) f) es
among-new [] f = refl
among-new (e ∷ es) f = among-append (news_by e.call e.reply) (new_in es) f ∙ ap (λ b. is_among (news_by e.call e.reply) f || b) (among-new es f)

among-appended : (ws : List EntryView) (f : Found) → is_among (map set_in ws) f ≡ list_any (λ (w : EntryView). is_same (set_in w) f) ws
among-appended [] f = refl
among-appended (w ∷ ws) f = ap (λ b. is_same (set_in w) f || b) (among-appended ws f)

-- ---- what is there is in the journal

abbrev found_in : Written → Found
found_in w = w.found

kept-push : (es : List EntryView) (e : EntryView) → kept_in (es ++ e ∷ []) ≡ kept_in es ++ kept_by e.reply e.text
kept-push es e = flat_map-append (λ (x : EntryView). kept_by x.reply x.text) es (e ∷ []) ∙ ap (λ ws. kept_in es ++ ws) (append-nil (kept_by e.reply e.text))

founds-push : (o : OpeningView) (es : List EntryView) (e : EntryView) → founds_in o (es ++ e ∷ []) ≡ founds_in o es ++ map found_in (kept_by e.reply e.text)
founds-push o es e =
    ap (λ ws. founds o.records ++ map found_in ws) (kept-push es e)
    ∙ ap (λ fs. founds o.records ++ fs) (map-append found_in (kept_in es) (kept_by e.reply e.text))
    ∙ sym (append_assoc (founds o.records) (map found_in (kept_in es)) (map found_in (kept_by e.reply e.text)))

absorbed : (a b : Bool) → (b ≡ true → a ≡ true) → a ≡ (a || b)
absorbed true b f = refl
absorbed false true f = f refl
absorbed false false f = refl

module _ (o : OpeningView) (f : Found) where
  -- a record that is there was put into the journal, or was in it
  put-there : (before : List EntryView) (w : Written) (r : Appended) → is_there r ≡ true → Answers o before w r
      → is_among (founds_in o before ++ map found_in (kept_by r w)) f ≡ (is_among (founds_in o before) f || is_same w.found f)
  put-there before w appended.Ok is a =
      among-append (founds_in o before) (w.found ∷ []) f ∙ ap (λ b. is_among (founds_in o before) f || b) (or-false (is_same w.found f))
  put-there before w appended.Already is a =
      ap (λ fs. is_among fs f) (append-nil (founds_in o before))
      ∙ absorbed (is_among (founds_in o before) f) (is_same w.found f) (λ same. ap (is_among (founds_in o before)) (sym (found-is w.found f same)) ∙ a.1)
  put-there before w appended.Closed is a = absurd (false≢true is)
  put-there before w (appended.Failed count) is a = absurd (false≢true is)
  put-there before w appended.Memory is a = absurd (false≢true is)

  -- so the journal has what it had and all that was appended
  pub among-there : (before es : List EntryView) → MayStandAll o before es → AllByRecursion (λ (e : EntryView). is_there e.reply ≡ true) es
      → is_among (founds_in o (before ++ es)) f ≡ (is_among (founds_in o before) f || is_among (map set_in es) f)
  among-there before [] legal there = ap (λ (l : List EntryView). is_among (founds_in o l) f) (append-nil before) ∙ sym (or-false (is_among (founds_in o before) f))
  among-there before (e ∷ es) legal there =
      ap (λ (l : List EntryView). is_among (founds_in o l) f) (sym (append_assoc before (e ∷ []) es))
      ∙ among-there (before ++ e ∷ []) es legal.1 there.1
      ∙ ap (λ b. b || is_among (map set_in es) f) (ap (λ fs. is_among fs f) (founds-push o before e) ∙ put-there before e.text e.reply there.0 legal.0.answers)
      ∙ or_assoc (is_among (founds_in o before) f) (is_same (set_in e) f) (is_among (map set_in es) f)

no-failure : (r : Appended) → is_there r ≡ true → is_failure r ≡ false
no-failure appended.Ok is = refl
no-failure appended.Already is = refl
no-failure appended.Closed is = refl
no-failure (appended.Failed count) is = absurd (false≢true is)
no-failure appended.Memory is = refl

-- and none failed
pub there-not_failed : (es : List EntryView) → AllByRecursion (λ (e : EntryView). is_there e.reply ≡ true) es → has_failed es ≡ false
there-not_failed [] there = refl
there-not_failed (e ∷ es) there = or_from (is_failure e.reply) (has_failed es) (no-failure e.reply there.0) (there-not_failed es there.1)

-- ---- the workers' entries at the board, and those in the journal

module _ (j : JournalView) (pens : List PenView) (log : List EntryView) (history : List Entry) (all : AreAll j pens) (has : HasAll who_of IsLegal j.opening pens log)
    (written : AreWritten history pens) (named : All (λ (e : Entry). e.worker < length pens) history) where
  pen : PenView
  pen = record { lock = j.id; opening = Some j.opening; number = 0; made = 0; seen = []; mine = [] }

  own : (w : ℕ) → w < length pens → calls_by who_of w log ≡ (get_or pens w pen).mine
  own w low = ap (λ k. calls_by who_of k log) (sym (all.number w pen low)) ∙ has.mine w pen low

  -- what was new at the board was appended, and nothing else
  pub new-appended : (f : Found) → is_among (new_in history) f ≡ is_among (map set_in log) f
  new-appended f =
      among-new history f
      ∙ any-same caller_of who_of (λ (e : Entry). is_among (news_by e.call e.reply) f) (λ (w : EntryView). is_same (set_in w) f) (length pens) history log
      (by_each (λ (e : Entry). e.worker < length pens) history named) (by_each (λ (e : EntryView). who_of e < length pens) log has.named)
      (λ w low.
      sym (among-new (calls_of w history) f) ∙ ap (λ fs. is_among fs f) (sym ((written.each w pen low).news refl) ∙ ap (map set_in) (sym (own w low)))
      ∙ among-appended (calls_by who_of w log) f)
      ∙ sym (among-appended log f)

  -- where no worker retired the journal has it all
  pub all-there : NoneRetired history → AllByRecursion (λ (e : EntryView). is_there e.reply ≡ true) log
  all-there none =
      all-by_each who_of (λ (e : EntryView). is_there e.reply ≡ true) (length pens) log (by_each (λ (e : EntryView). who_of e < length pens) log has.named) (λ w low.
      subst (AllByRecursion (λ (e : EntryView). is_there e.reply ≡ true)) (sym (own w low))
      ((written.each w pen low).there (none_of caller_of (λ (e : Entry). is_retirement e.reply) w history none)))
