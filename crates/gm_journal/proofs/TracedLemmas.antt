-- What a crash left since an earlier entry, with one entry more.
use Rattle.std.proofs.Common.{◌≡◌, ◌⊎◌, inl, inr, ℕ, ◌<◌, ◌≤◌, Bool, false, ◌||◌, List, [], ◌∷◌, ◌++◌, length, take, drop, Option, Some, None, IfSome, refl, sym, ap, ◌∙◌, subst, arith, append_assoc, append-nil, take-append-drop}
use Rattle.std.proofs.lemmas.Bool.{true≢false, cases_lt}
use Rattle.std.proofs.lemmas.List.{take_all, take-append-le, length_push}
use Rattle.std.proofs.lemmas.List.Concat.{flat_map-append}
use Rattle.gm_ports.specs.DiskState.{DiskState, IsLawful, AtEachMoment}
use Rattle.evidence_text.specs.Alone.{Written}
use Rattle.gm_journal.specs.declared.entry.Appended.{Appended}
use Rattle.gm_journal.specs.declared.entry.Appended.TheVariants as appended
use Rattle.gm_journal.specs.Entries.{OpeningView, EntryView}
use Rattle.gm_journal.specs.Histories.{kept_by, kept_in, tried_by, tried_in, last_moment, is_failure, has_failed, Answers, IsUnasked}
use Rattle.gm_journal.specs.Answering.{closed_after}
use Rattle.gm_journal.specs.Books.{Keeps, KeepsWithOrWithout, KeepsFront, IsKept, IsWhole, IsTraced, moment_after}
use Rattle.gm_journal.proofs.HistoryLemmas.{kept_in-push, has_failed-push}
use Rattle.gm_journal.proofs.KeptLemmas.{left_keeps}

-- ---- what was appended

pub last_moment-push : (n : ℕ) (es : List EntryView) (e : EntryView) → last_moment n (es ++ e ∷ []) ≡ e.moment
last_moment-push n [] e = refl
last_moment-push n (x ∷ xs) e = last_moment-push x.moment xs e

tried_in-push : (es : List EntryView) (e : EntryView) → tried_in (es ++ e ∷ []) ≡ tried_in es ++ tried_by e.reply e.text
tried_in-push es e =
    flat_map-append (λ (x : EntryView). tried_by x.reply x.text) es (e ∷ [])
    ∙ ap (λ (ws : List Written). tried_in es ++ ws) (append-nil (tried_by e.reply e.text))

kept_in-append : (es fs : List EntryView) → kept_in (es ++ fs) ≡ kept_in es ++ kept_in fs
kept_in-append es fs = flat_map-append (λ (x : EntryView). kept_by x.reply x.text) es fs

-- while none failed, all that was appended was acknowledged
tried_first : (r : Appended) (w : Written) (b : Bool) → (is_failure r || b) ≡ false → (tried_by r w ≡ kept_by r w) × (b ≡ false)
tried_first appended.Ok w b is = (refl, is)
tried_first appended.Already w b is = (refl, is)
tried_first appended.Closed w b is = (refl, is)
tried_first (appended.Failed count) w b is = absurd (true≢false is)
tried_first appended.Memory w b is = (refl, is)

pub tried_kept : (es : List EntryView) → has_failed es ≡ false → tried_in es ≡ kept_in es
tried_kept [] is = refl
tried_kept (x ∷ xs) is =
    let first = tried_first x.reply x.text (has_failed xs) is in
    λ i. first.0 i ++ tried_kept xs first.1 i

-- ---- a front part of it

-- one entry more
KeepsFront-push : (o : OpeningView) (before es : List EntryView) (e : EntryView) (bytes : List ℕ) → KeepsFront o before es bytes
    → KeepsFront o before (es ++ e ∷ []) bytes
KeepsFront-push o before es e bytes h = record {
  more = h.more;
  rest = h.rest ++ tried_by e.reply e.text;
  parts =
      tried_in-push es e ∙ ap (λ (ws : List Written). ws ++ tried_by e.reply e.text) h.parts
      ∙ append_assoc (kept_in before ++ h.more) h.rest (tried_by e.reply e.text);
  keeps = h.keeps;
}

-- as many that were acknowledged
KeepsFront-same : (o : OpeningView) (before after es : List EntryView) (bytes : List ℕ) → kept_in before ≡ kept_in after
    → KeepsFront o before es bytes → KeepsFront o after es bytes
KeepsFront-same o before after es bytes same h = record {
  more = h.more;
  rest = h.rest;
  parts = h.parts ∙ ap (λ (ws : List Written). (ws ++ h.more) ++ h.rest) same;
  keeps = subst (λ (ws : List Written). Keeps o (ws ++ h.more) bytes) same h.keeps;
}

-- all that was acknowledged, and no more
KeepsFront-all : (o : OpeningView) (es : List EntryView) (bytes : List ℕ) → has_failed es ≡ false → Keeps o (kept_in es) bytes → KeepsFront o es es bytes
KeepsFront-all o es bytes opened keeps = record {
  more = [];
  rest = [];
  parts = tried_kept es opened ∙ sym (append-nil (kept_in es)) ∙ sym (append-nil (kept_in es ++ []));
  keeps = subst (λ (ws : List Written). Keeps o ws bytes) (sym (append-nil (kept_in es))) keeps;
}

-- with the new one or without
KeepsFront-with : (o : OpeningView) (before es : List EntryView) (since : List Written) (e : EntryView) (bytes : List ℕ) → kept_in es ≡ kept_in before ++ since
    → has_failed es ≡ false → tried_by e.reply e.text ≡ e.text ∷ [] → KeepsWithOrWithout o (kept_in es) e.text bytes → KeepsFront o before (es ++ e ∷ []) bytes
KeepsFront-with o before es since e bytes split opened tries (inl keeps) = record {
  more = since;
  rest = e.text ∷ [];
  parts = tried_in-push es e ∙ (λ i. (tried_kept es opened ∙ split) i ++ tries i);
  keeps = subst (λ (ws : List Written). Keeps o ws bytes) split keeps;
}
KeepsFront-with o before es since e bytes split opened tries (inr keeps) =
    let all : kept_in es ++ e.text ∷ [] ≡ kept_in before ++ (since ++ e.text ∷ []) =
    ap (λ (ws : List Written). ws ++ e.text ∷ []) split ∙ append_assoc (kept_in before) since (e.text ∷ []) in
    record {
      more = since ++ e.text ∷ [];
      rest = [];
      parts = tried_in-push es e ∙ (λ i. tried_kept es opened i ++ tries i) ∙ all ∙ sym (append-nil (kept_in before ++ (since ++ e.text ∷ [])));
      keeps = subst (λ (ws : List Written). Keeps o ws bytes) all keeps;
    }

-- ---- an entry by its answer

-- the disk was not asked; or the text was appended, and acknowledged or not
pub record Asked (es : List EntryView) (w : Written) (r : Appended) : Type 0 where
  pub opened : has_failed es ≡ false
  pub tries : tried_by r w ≡ w ∷ []
  pub ends : (closed_after false r ≡ false) ⊎ (kept_by r w ≡ [])

pub asked_or_not : (o : OpeningView) (es : List EntryView) (w : Written) (r : Appended) → Answers o es w r → (IsUnasked r × (kept_by r w ≡ [])) ⊎ Asked es w r
asked_or_not o es w appended.Ok a = inr (record { opened = a.0; tries = refl; ends = inl refl })
asked_or_not o es w appended.Already a = inl (tt, refl)
asked_or_not o es w appended.Closed a = inl (tt, refl)
asked_or_not o es w (appended.Failed count) a = inr (record { opened = a.0; tries = refl; ends = inr refl })
asked_or_not o es w appended.Memory a = inl (tt, refl)

-- ---- one entry more

module _ (o : OpeningView) (es : List EntryView) (e : EntryView) where
  abbrev pub longer : List EntryView
  longer = es ++ e ∷ []

  within : (k : ℕ) → k ≤ length es → take k longer ≡ take k es
  within k le = take-append-le k es (e ∷ []) le

  whole : (k : ℕ) → length es < k → k ≤ length longer → take k longer ≡ longer
  whole k past le = take_all k longer (omega (arith, length_push es e))

  moment_within : (k : ℕ) → k ≤ length es → moment_after o longer k ≡ moment_after o es k
  moment_within k le = ap (last_moment o.moment) (within k le)

  moment_whole : (k : ℕ) → length es < k → k ≤ length longer → moment_after o longer k ≡ e.moment
  moment_whole k past le = ap (last_moment o.moment) (whole k past le) ∙ last_moment-push o.moment es e

  module _ (disk new : DiskState) (now : e.moment ≡ new.moment) (lawful : IsLawful new) (traced : IsTraced disk o es) where
    -- by what a crash leaves at its end, and what it left since an earlier moment
    traced_by : disk.moment ≤ new.moment → ((bytes : List ℕ) → new.may_leave bytes → KeepsFront o longer longer bytes)
        → ((k : ℕ) (bytes : List ℕ) → k ≤ length es → new.left_since (moment_after o es k) bytes → KeepsFront o (take k es) longer bytes)
        → IsTraced new o longer
    traced_by later here since = record {
      passed = λ k le.
          elim (cases_lt (length es) k) [
            | inl past ↦ omega (arith, moment_whole k past le, now)
            | inr low ↦ omega (arith, moment_within k low, traced.passed k low, later)
          ];
      since = λ k bytes le left.
          elim (cases_lt (length es) k) [
            | inl past ↦
                let at : new.left_since new.moment bytes = subst (λ (t : ℕ). new.left_since t bytes) (moment_whole k past le ∙ now) left in
                subst (λ (l : List EntryView). KeepsFront o l longer bytes) (sym (whole k past le)) (here bytes (lawful.only_now bytes at))
            | inr low ↦
                let at : new.left_since (moment_after o es k) bytes = subst (λ (t : ℕ). new.left_since t bytes) (moment_within k low) left in
                subst (λ (l : List EntryView). KeepsFront o l longer bytes) (sym (within k low)) (since k bytes low at)
          ];
    }

    -- of the text that was appended
    pub traced_asked : Asked es e.text e.reply → AtEachMoment disk new (KeepsWithOrWithout o (kept_in es) e.text)
        → (has_failed longer ≡ false → (bytes : List ℕ) → new.may_leave bytes → Keeps o (kept_in longer) bytes) → IsTraced new o longer
    traced_asked asked each acknowledged = traced_by each.later here earlier
      where
        kept_within : (k : ℕ) → kept_in es ≡ kept_in (take k es) ++ kept_in (drop k es)
        kept_within k = ap kept_in (sym (take-append-drop k es)) ∙ kept_in-append (take k es) (drop k es)

        earlier : (k : ℕ) (bytes : List ℕ) → k ≤ length es → new.left_since (moment_after o es k) bytes → KeepsFront o (take k es) longer bytes
        earlier k bytes le left = elim (each.before (moment_after o es k) bytes (traced.passed k le) left) [
          | inl was ↦ KeepsFront-push o (take k es) es e bytes (traced.since k bytes le was)
          | inr since ↦ KeepsFront-with o (take k es) es (kept_in (drop k es)) e bytes (kept_within k) asked.opened asked.tries since
        ]

        here : (bytes : List ℕ) → new.may_leave bytes → KeepsFront o longer longer bytes
        here bytes left = elim asked.ends [
          | inl fine ↦
              let opened : has_failed longer ≡ false = has_failed-push es e ∙ ap (λ (b : Bool). closed_after b e.reply) asked.opened ∙ fine in
              KeepsFront-all o longer bytes opened (acknowledged opened bytes left)
          | inr none ↦
              let same : kept_in longer ≡ kept_in es = kept_in-push es e ∙ ap (λ (ws : List Written). kept_in es ++ ws) none ∙ append-nil (kept_in es) in
              KeepsFront-with o longer es [] e bytes (sym same ∙ sym (append-nil (kept_in longer))) asked.opened asked.tries
              (each.each bytes (lawful.counts_now disk.moment bytes each.later left))
        ]

  -- and of a disk that was not asked
  pub traced_unasked : (disk : DiskState) → e.moment ≡ disk.moment → IsLawful disk → IsTraced disk o es → kept_by e.reply e.text ≡ [] → IsTraced disk o longer
  traced_unasked disk now lawful traced none =
      traced_by disk disk now lawful traced (omega arith)
      (λ bytes left.
      let last : moment_after o es (length es) ≤ disk.moment = traced.passed (length es) (omega arith) in
      let was = traced.since (length es) bytes (omega arith) (lawful.counts_now (moment_after o es (length es)) bytes last left) in
      let every : kept_in (take (length es) es) ≡ kept_in es = ap kept_in (take_all (length es) es (omega arith)) in
      let same : kept_in longer ≡ kept_in es = kept_in-push es e ∙ ap (λ (ws : List Written). kept_in es ++ ws) none ∙ append-nil (kept_in es) in
      KeepsFront-same o (take (length es) es) longer longer bytes (every ∙ sym same) (KeepsFront-push o (take (length es) es) es e bytes was))
      (λ k bytes le left. KeepsFront-push o (take k es) es e bytes (traced.since k bytes le left))

-- ---- without an entry, and at the end

pub traced_opened : (disk : DiskState) (o : OpeningView) (gate : ℕ) → IsLawful disk → disk.moment ≡ o.moment → IsKept disk o [] gate → IsTraced disk o []
traced_opened disk o gate lawful now kept = record {
  passed = λ k le. omega (arith, none k, now);
  since = λ k bytes le left.
      let at : disk.left_since disk.moment bytes = subst (λ (t : ℕ). disk.left_since t bytes) (none k ∙ sym now) left in
      subst (λ (l : List EntryView). KeepsFront o l [] bytes) (sym (no_entries k))
      (KeepsFront-all o [] bytes refl (left_keeps disk o [] gate kept bytes (lawful.only_now bytes at)));
}
  where
    no_entries : (k : ℕ) → ◌≡◌ {A = List EntryView} (take k []) []
    no_entries k = take_all k [] (omega arith)

    none : (k : ℕ) → moment_after o [] k ≡ o.moment
    none k = ap (last_moment o.moment) (no_entries k)

-- a disk in which no record is lost since any moment has lost none now
pub whole_by : (disk : DiskState) (o : OpeningView) (es : List EntryView) → IsLawful disk → IsTraced disk o es → IsWhole disk o es
whole_by disk o es lawful traced = record { read = as_read disk.reads lawful.as_read; crash = here }
  where
    every : take (length es) es ≡ es
    every = take_all (length es) es (omega arith)

    here : (bytes : List ℕ) → disk.may_leave bytes → KeepsFront o es es bytes
    here bytes left = subst (λ (l : List EntryView). KeepsFront o l es bytes) every
        (traced.since (length es) bytes (omega arith) (lawful.counts_now (moment_after o es (length es)) bytes (traced.passed (length es) (omega arith)) left))

    as_read : (r : Option (List ℕ)) → IfSome r disk.may_leave → IfSome r (KeepsFront o es es)
    as_read None left = tt
    as_read (Some bytes) left = here bytes left
