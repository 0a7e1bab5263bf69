-- Where an append failed the disk's count rose, and where the count is another one it rose.
use Rattle.std.proofs.Common.{◌≡◌, ◌≢◌, ◌⊎◌, ℕ, Bool, true, false, List, [], ◌∷◌, ◌++◌, map, filter, cond, Option, Some, None, inl, inr, refl, sym, ◌∙◌, ap, subst}
use Rattle.std.specs.Prelude.{All, ◌==◌, ◌||◌}
use Rattle.std.specs.List.{list_any}
use Rattle.std.proofs.lemmas.Bool.{false≢true, or_cases}
use Rattle.std.proofs.lemmas.List.Elements.{All-head, All-tail}
use Rattle.gm_ports.specs.Faults.{Rose}
use Rattle.turn_lock.specs.Calls.{calls_by}
use Rattle.evidence_text.specs.Alone.{Written}
use Rattle.gm_journal.specs.declared.entry.Appended.{Appended}
use Rattle.gm_journal.specs.declared.entry.Appended.TheVariants as appended
use Rattle.gm_journal.specs.Entries.{OpeningView, EntryView, who_of}
use Rattle.gm_journal.specs.Histories.{Answers, MayStandAll, count_after, count_in, has_failed, is_failure}
use Rattle.worker_pool.specs.Pens.{PenView, failure_among, failure_in, failure_or, first_some}

module _ (o : OpeningView) where
  -- a count that rose is risen still behind an answer
  stays : (before : List EntryView) (w : Written) (n : ℕ) (r : Appended) → Answers o before w r → Rose o.faults n → Rose o.faults (count_after n r)
  stays before w n appended.Ok a rose = rose
  stays before w n appended.Already a rose = rose
  stays before w n appended.Closed a rose = rose
  stays before w n (appended.Failed count) a rose = a.2
  stays before w n appended.Memory a rose = rose

  pub stays-all : (before es : List EntryView) (n : ℕ) → MayStandAll o before es → Rose o.faults n → Rose o.faults (count_in n es)
  stays-all before [] n h rose = rose
  stays-all before (e ∷ es) n h rose = stays-all (before ++ e ∷ []) es (count_after n e.reply) h.1 (stays before e.text n e.reply h.0.answers rose)

  -- a failure's count rose
  fails : (before : List EntryView) (w : Written) (n : ℕ) (r : Appended) → is_failure r ≡ true → Answers o before w r → Rose o.faults (count_after n r)
  fails before w n appended.Ok is a = absurd (false≢true is)
  fails before w n appended.Already is a = absurd (false≢true is)
  fails before w n appended.Closed is a = absurd (false≢true is)
  fails before w n (appended.Failed count) is a = a.2
  fails before w n appended.Memory is a = absurd (false≢true is)

  pub rose-after : (before es : List EntryView) (n : ℕ) → MayStandAll o before es → has_failed es ≡ true → Rose o.faults (count_in n es)
  rose-after before [] n h failed = absurd (false≢true failed)
  rose-after before (e ∷ es) n h failed =
      elim (or_cases (is_failure e.reply) (has_failed es) failed) [
        | inl here ↦ stays-all (before ++ e ∷ []) es (count_after n e.reply) h.1 (fails before e.text n e.reply here h.0.answers)
        | inr there ↦ rose-after (before ++ e ∷ []) es (count_after n e.reply) h.1 there
      ]

-- ---- the count with which one of several seats' appends failed

-- an answer that failed, or one of the others
failed-or : (r : Appended) (other : Option ℕ) (rest : Bool) (k : ℕ) → (other ≡ Some k → rest ≡ true) → failure_or other r ≡ Some k → (is_failure r || rest) ≡ true
failed-or appended.Ok other rest k f is = f is
failed-or appended.Already other rest k f is = f is
failed-or appended.Closed other rest k f is = f is
failed-or (appended.Failed count) other rest k f is = refl
failed-or appended.Memory other rest k f is = f is

failed-in : (es : List EntryView) (k : ℕ) → failure_in es ≡ Some k → has_failed es ≡ true
failed-in [] k is = let never : None ≡ Some k = is in cc
failed-in (e ∷ es) k is = failed-or e.reply (failure_in es) (has_failed es) k (failed-in es k) is

-- what is found among one caller's entries is found among all
among-all : (test : EntryView → Bool) (w : ℕ) (es : List EntryView) → list_any test (calls_by who_of w es) ≡ true → list_any test es ≡ true
among-all test w [] is = is
among-all test w (e ∷ es) is = by (who_of e == w) (among-all test w es) is
  where
    last : (b : Bool) → list_any test es ≡ true → (b || list_any test es) ≡ true
    last true there = refl
    last false there = there

    by : (b : Bool) → (list_any test (calls_by who_of w es) ≡ true → list_any test es ≡ true) → list_any test (cond b (e ∷ calls_by who_of w es) (calls_by who_of w es)) ≡ true
        → (test e || list_any test es) ≡ true
    by true rest found = elim (or_cases (test e) (list_any test (calls_by who_of w es)) found) [
      | inl here ↦ ap (λ b. b || list_any test es) here
      | inr there ↦ last (test e) (rest there)
    ]
    by false rest found = last (test e) (rest found)

first-some : (x : Option ℕ) (rest : List (Option ℕ)) (k : ℕ) → first_some (x ∷ rest) ≡ Some k → (x ≡ Some k) ⊎ (first_some rest ≡ Some k)
first-some None rest k is = inr is
first-some (Some n) rest k is = inl is

-- where one of the seats' appends failed, an append of the history did
pub failed-among : (log : List EntryView) (pens : List PenView) (k : ℕ) → All (λ (s : PenView). calls_by who_of s.number log ≡ s.mine) pens → failure_among pens ≡ Some k
    → has_failed log ≡ true
failed-among log [] k own is = let never : None ≡ Some k = is in cc
failed-among log (pen ∷ pens) k own is =
    elim (first-some (failure_in pen.mine) (map (λ (s : PenView). failure_in s.mine) pens) k is) [
      | inl here ↦ among-all (λ e. is_failure e.reply) pen.number log (subst (λ es. has_failed es ≡ true) (sym (All-head (λ (s : PenView). calls_by who_of s.number log ≡ s.mine) pen pens own)) (failed-in pen.mine k here))
      | inr there ↦ failed-among log pens k (All-tail (λ (s : PenView). calls_by who_of s.number log ≡ s.mine) pen pens own) there
    ]
