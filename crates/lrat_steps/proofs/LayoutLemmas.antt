-- Lemmas on how a log lays its steps out, and what one more step changes. What marks change is in MarkLemmas.
use Rattle.std.proofs.Common.{◌≡◌, ℕ, suc, ◌+◌, ◌-◌, ◌<◌, ◌≤◌, ◌^◌, List, [], ◌∷◌, ◌++◌, length, map, append_assoc, refl, sym, ◌∙◌, ap, ap₂, subst, inl, inr, arith}
use Rattle.std.specs.Prelude.{ℤ}
use Rattle.std.proofs.lemmas.Bool.{cases_lt}
use Rattle.std.proofs.lemmas.List.{append-nil, length_push, map_push, take-append-le, take_all, get_or_append_left, get_or_push}
use Rattle.sat_base.specs.Derivation.{Step}
use Rattle.sat_base.specs.Database.{StoredClause}
use Rattle.lrat_steps.specs.declared.step.StepKind.{StepKind}
use Rattle.lrat_steps.specs.declared.step.StepKind.TheVariants as step_kind
use Rattle.lrat_steps.specs.declared.log.StepRecord.{StepRecord}
use Rattle.lrat_steps.specs.declared.log.Mark.{Mark}
use Rattle.lrat_steps.specs.Log.{LogStep, Input, Learned, Core, Forgot, steps_of, db_of, inputs_of, learned_count}
use Rattle.lrat_steps.specs.Parts.{step_with, inputs_in, learned_in}
use Rattle.lrat_steps.specs.declared.log.Log.TheInside.{Inside}
use Rattle.lrat_steps.specs.Layout.{step_of_record, steps_with, all_steps, step_count, woven, log_of, IsRecord, AreRecords, AreInOrder, AreCounted, IsLaidOut}
use Rattle.lrat_steps.specs.Forgetting.{IsLiveLearned, live_among, live_count}
use Rattle.lrat_steps.proofs.ForgettingLemmas.{live_count-push, live_count-forgot}
use Rattle.lrat_steps.proofs.MarkLemmas.{order_more, order_push, woven-push_step, woven-push_mark, steps_count}

-- the steps after one more
steps_after_push : (id : ℕ) (records : List StepRecord) (steps : List Step) (r : StepRecord) (s : Step) → AreRecords id records steps
    → steps_with (records ++ r ∷ []) (steps ++ s ∷ []) ≡ steps_with records steps ++ step_of_record r s ∷ []
steps_after_push id [] steps r s all = ap (λ (ss : List Step). steps_with (r ∷ []) (ss ++ s ∷ [])) all
steps_after_push id (x ∷ records) [] r s all = absurd all
steps_after_push id (x ∷ records) (y ∷ steps) r s all = ap (λ (rest : List LogStep). step_of_record x y ∷ rest) (steps_after_push (id + 1) records steps r s all.1)

records_after_push : (id : ℕ) (records : List StepRecord) (steps : List Step) (r : StepRecord) (s : Step) → AreRecords id records steps → IsRecord (id + length records) r s
    → AreRecords id (records ++ r ∷ []) (steps ++ s ∷ [])
records_after_push id [] steps r s all is =
    let same : id + 0 ≡ id = omega arith in
    subst (λ (ss : List Step). AreRecords id (r ∷ []) (ss ++ s ∷ [])) (sym all) (subst (λ n. IsRecord n r s) same is, refl)
records_after_push id (x ∷ records) [] r s all is = absurd all
records_after_push id (x ∷ records) (y ∷ steps) r s all is =
    let same : id + suc (length records) ≡ id + 1 + length records = omega arith in
    (all.0, records_after_push (id + 1) records steps r s all.1 (subst (λ n. IsRecord n r s) same is))

-- one more step counts by its kind
pub inputs_after_push : (log : List LogStep) (kind : StepKind) (lits : List ℤ) (hints : List ℕ) → length (inputs_of (log ++ step_with kind lits hints ∷ [])) ≡ length (inputs_of log) + inputs_in kind
inputs_after_push [] step_kind.Input lits hints = refl
inputs_after_push [] step_kind.Learned lits hints = refl
inputs_after_push [] step_kind.Core lits hints = refl
inputs_after_push (Input c ∷ log) kind lits hints = let rest = inputs_after_push log kind lits hints in omega arith
inputs_after_push (Learned c h ∷ log) kind lits hints = inputs_after_push log kind lits hints
inputs_after_push (Core c h ∷ log) kind lits hints = inputs_after_push log kind lits hints
inputs_after_push (Forgot id ∷ log) kind lits hints = inputs_after_push log kind lits hints

pub learned_after_push : (log : List LogStep) (kind : StepKind) (lits : List ℤ) (hints : List ℕ) → learned_count (log ++ step_with kind lits hints ∷ []) ≡ learned_count log + learned_in kind
learned_after_push [] step_kind.Input lits hints = refl
learned_after_push [] step_kind.Learned lits hints = refl
learned_after_push [] step_kind.Core lits hints = refl
learned_after_push (Input c ∷ log) kind lits hints = learned_after_push log kind lits hints
learned_after_push (Learned c h ∷ log) kind lits hints = let rest = learned_after_push log kind lits hints in omega arith
learned_after_push (Core c h ∷ log) kind lits hints = learned_after_push log kind lits hints
learned_after_push (Forgot id ∷ log) kind lits hints = learned_after_push log kind lits hints

-- the last record counts all inputs
pub counted_after_push : (before : ℕ) (log : List LogStep) (s : LogStep) (records : List StepRecord) (r : StepRecord) → length log ≡ before + length records → AreCounted before log records
    → r.inputs ≡ length (inputs_of (log ++ s ∷ [])) → AreCounted before (log ++ s ∷ []) (records ++ r ∷ [])
counted_after_push before log s records r len counted all at d lt =
    let longer = length_push records r in
    let longer_log = length_push log s in
    elim (cases_lt at (length records)) [
      | inl earlier ↦
          ap (λ (k : StepRecord). k.inputs) (get_or_append_left records (r ∷ []) d at earlier)
          ∙ counted at d earlier
          ∙ ap (λ (steps : List LogStep). length (inputs_of steps)) (sym (take-append-le (before + at + 1) log (s ∷ []) (omega arith)))
      | inr here ↦
          ap (λ (k : StepRecord). k.inputs) (get_or_push records r d at (omega arith))
          ∙ all
          ∙ ap (λ (steps : List LogStep). length (inputs_of steps)) (sym (take_all (before + at + 1) (log ++ s ∷ []) (omega arith)))
    ]

-- the steps and the counts after one more step of its own
pub record IsPushed (old new : Inside) (r : StepRecord) (s : Step) : Type 0 where
  pub shown : new.shown ≡ old.shown
  pub records : new.records.items ≡ old.records.items ++ r ∷ []
  pub steps : new.steps ≡ old.steps ++ s ∷ []
  pub last : IsRecord (length old.shown + 1 + length old.records.items) r s
  pub counted : r.inputs ≡ new.inputs
  pub inputs : new.inputs ≡ old.inputs + inputs_in r.kind
  pub learned : new.learned ≡ old.learned + learned_in r.kind
  pub live : new.live ≡ old.live + learned_in r.kind
  pub marks : new.marks.items ≡ old.marks.items
  pub few : step_count old + 1 < 2 ^ 32
  pub one : inputs_in r.kind + learned_in r.kind ≤ 1

steps_pushed : (old new : Inside) (r : StepRecord) (s : Step) → IsLaidOut old → IsPushed old new r s → all_steps new ≡ all_steps old ++ step_of_record r s ∷ []
steps_pushed old new r s laid p =
    let shown = length old.shown in
    let own = steps_with old.records.items old.steps in
    ap₂ (λ (cs : List (List ℤ)) (own : List LogStep). map Input cs ++ own) p.shown
    (ap₂ steps_with p.records p.steps ∙ steps_after_push (shown + 1) old.records.items old.steps r s laid.records)
    ∙ sym (append_assoc (map Input old.shown) own (step_of_record r s ∷ []))

-- the marks stand among all steps
marks_to_end : (log : Inside) → IsLaidOut log → AreInOrder 0 (0 + length (all_steps log)) log.marks.items
marks_to_end log laid =
    let all = steps_count log laid in
    let len : step_count log ≡ 0 + length (all_steps log) = omega arith in
    subst (λ n. AreInOrder 0 n log.marks.items) len laid.marks

-- and stay where they are
pub log_pushed : (old new : Inside) (r : StepRecord) (s : Step) → IsLaidOut old → IsPushed old new r s → log_of new ≡ log_of old ++ step_of_record r s ∷ []
log_pushed old new r s laid p =
    ap₂ (woven 0) p.marks (steps_pushed old new r s laid p)
    ∙ woven-push_step 0 old.marks.items (all_steps old) (step_of_record r s) (marks_to_end old laid)

pub laid_out_pushed : (old new : Inside) (r : StepRecord) (s : Step) → IsLaidOut old → IsPushed old new r s → IsLaidOut new
laid_out_pushed old new r s laid p =
    let is = steps_pushed old new r s laid p in
    let old_len = steps_count old laid in
    let shown_len : length new.shown ≡ length old.shown = ap length p.shown in
    let len : length new.records.items ≡ length old.records.items + 1 = ap length p.records ∙ length_push old.records.items r in
    let inputs : new.inputs ≡ length (inputs_of (all_steps old ++ step_of_record r s ∷ [])) =
    p.inputs ∙ ap (λ n. n + inputs_in r.kind) laid.inputs ∙ sym (inputs_after_push (all_steps old) r.kind s.lits s.hints) in
    let learned : new.learned ≡ learned_count (all_steps old ++ step_of_record r s ∷ []) =
    p.learned ∙ ap (λ n. n + learned_in r.kind) laid.learned ∙ sym (learned_after_push (all_steps old) r.kind s.lits s.hints) in
    let few = p.few in
    let one = p.one in
    let counts = laid.counts in
    let more_inputs = p.inputs in
    let more_learned = p.learned in
    let more_live = p.live in
    let most_live = laid.most_live in
    record {
      records =
          subst (λ n. AreRecords (n + 1) new.records.items new.steps) (sym shown_len)
          (subst (λ (records : List StepRecord). AreRecords (length old.shown + 1) records new.steps) (sym p.records)
          (subst (AreRecords (length old.shown + 1) (old.records.items ++ r ∷ [])) (sym p.steps)
          (records_after_push (length old.shown + 1) old.records.items old.steps r s laid.records p.last)));
      counted =
          subst (λ n. AreCounted n (all_steps new) new.records.items) (sym shown_len)
          (subst (λ (records : List StepRecord). AreCounted (length old.shown) (all_steps new) records) (sym p.records)
          (subst (λ (log : List LogStep). AreCounted (length old.shown) log (old.records.items ++ r ∷ [])) (sym is)
          (counted_after_push (length old.shown) (all_steps old) (step_of_record r s) old.records.items r old_len laid.counted (p.counted ∙ inputs))));
      inputs = inputs ∙ ap (λ (log : List LogStep). length (inputs_of log)) (sym is);
      learned = learned ∙ ap learned_count (sym is);
      few = omega arith;
      counts = omega arith;
      marks = subst (λ (marks : List Mark). AreInOrder 0 (step_count new) marks) (sym p.marks) (order_more 0 (step_count old) (step_count new) old.marks.items laid.marks (omega arith));
      live = p.live
          ∙ ap (λ n. n + learned_in r.kind) laid.live
          ∙ sym (ap live_count (log_pushed old new r s laid p) ∙ live_count-push (log_of old) r.kind s.lits s.hints);
      most_live = omega arith;
    }

-- where it has no steps of its own

given_inputs : (cs : List (List ℤ)) → inputs_of (map Input cs) ≡ cs
given_inputs [] = refl
given_inputs (c ∷ cs) = ap (λ (rest : List (List ℤ)). c ∷ rest) (given_inputs cs)

shown_alone : (log : Inside) → log.records.items ≡ [] → all_steps log ≡ map Input log.shown
shown_alone log none = ap (λ (rs : List StepRecord). map Input log.shown ++ steps_with rs log.steps) none ∙ append-nil (map Input log.shown)

inputs_alone : (log : Inside) → log.records.items ≡ [] → length (inputs_of (all_steps log)) ≡ length log.shown
inputs_alone log none = ap (λ (steps : List LogStep). length (inputs_of steps)) (shown_alone log none) ∙ ap (λ (cs : List (List ℤ)). length cs) (given_inputs log.shown)

-- one more clause that is shown, before any step of its own
pub record IsShown (old new : Inside) (lits : List ℤ) : Type 0 where
  pub shown : new.shown ≡ old.shown ++ lits ∷ []
  pub none : old.records.items ≡ []
  pub records : new.records ≡ old.records
  pub steps : new.steps ≡ old.steps
  pub inputs : new.inputs ≡ length new.shown
  pub learned : new.learned ≡ old.learned
  pub live : new.live ≡ old.live
  pub marks : new.marks ≡ old.marks
  pub few : length new.shown < 2 ^ 32

steps_shown : (old new : Inside) (lits : List ℤ) → IsShown old new lits → all_steps new ≡ all_steps old ++ Input lits ∷ []
steps_shown old new lits p =
    shown_alone new (ap (λ v. v.items) p.records ∙ p.none)
    ∙ ap (map Input) p.shown
    ∙ map_push Input old.shown lits
    ∙ ap (λ (steps : List LogStep). steps ++ Input lits ∷ []) (sym (shown_alone old p.none))

pub log_shown : (old new : Inside) (lits : List ℤ) → IsLaidOut old → IsShown old new lits → log_of new ≡ log_of old ++ Input lits ∷ []
log_shown old new lits laid p =
    ap₂ (woven 0) (ap (λ v. v.items) p.marks) (steps_shown old new lits p) ∙ woven-push_step 0 old.marks.items (all_steps old) (Input lits) (marks_to_end old laid)

pub laid_out_shown : (old new : Inside) (lits : List ℤ) → IsLaidOut old → IsShown old new lits → IsLaidOut new
laid_out_shown old new lits laid p =
    let is = steps_shown old new lits p in
    let none : new.records.items ≡ [] = ap (λ v. v.items) p.records ∙ p.none in
    let no_more : length new.records.items ≡ 0 = ap length none in
    let none_before : length old.records.items ≡ 0 = ap length p.none in
    let longer : length new.shown ≡ length old.shown + 1 = ap length p.shown ∙ length_push old.shown lits in
    let few = p.few in
    let inputs = p.inputs in
    let were : old.inputs ≡ length old.shown = laid.inputs ∙ inputs_alone old p.none in
    let counts = laid.counts in
    let learned = p.learned in
    let live = p.live in
    let most_live = laid.most_live in
    record {
      records =
          subst (λ (records : List StepRecord). AreRecords (length new.shown + 1) records new.steps) (sym none)
          (p.steps ∙ subst (λ (records : List StepRecord). AreRecords (length old.shown + 1) records old.steps) p.none laid.records);
      counted = λ at d lt. absurd (omega arith);
      inputs = p.inputs ∙ sym (inputs_alone new none);
      learned = p.learned
          ∙ laid.learned
          ∙ sym (ap learned_count is ∙ learned_after_push (all_steps old) step_kind.Input lits [] ∙ add_zero (learned_count (all_steps old)));
      few = omega arith;
      counts = omega arith;
      marks = subst (λ (marks : List Mark). AreInOrder 0 (step_count new) marks) (sym (ap (λ v. v.items) p.marks)) (order_more 0 (step_count old) (step_count new) old.marks.items laid.marks (omega arith));
      live = p.live
          ∙ laid.live
          ∙ sym (ap live_count (log_shown old new lits laid p) ∙ live_count-push (log_of old) step_kind.Input lits [] ∙ add_zero (live_count (log_of old)));
      most_live = omega arith;
    }
  where
    add_zero : (n : ℕ) → n + 0 ≡ n
    add_zero n = omega arith

-- a log of clauses that it shows
pub record IsOver (log : Inside) : Type 0 where
  pub records : log.records.items ≡ []
  pub steps : log.steps ≡ []
  pub marks : log.marks.items ≡ []
  pub inputs : log.inputs ≡ length log.shown
  pub learned : log.learned ≡ 0
  pub live : log.live ≡ 0
  pub few : length log.shown < 2 ^ 32

none_learned : (cs : List (List ℤ)) → learned_count (map Input cs) ≡ 0
none_learned [] = refl
none_learned (c ∷ cs) = none_learned cs

none_live : (cs : List (List ℤ)) (db : List StoredClause) → live_among (steps_of (map Input cs)) db ≡ 0
none_live [] db = refl
none_live (c ∷ cs) [] = refl
none_live (c ∷ cs) (d ∷ db) = none_live cs db

pub log_over : (log : Inside) → IsOver log → log_of log ≡ map Input log.shown
log_over log over = ap (λ (marks : List Mark). woven 0 marks (all_steps log)) over.marks ∙ shown_alone log over.records

pub laid_out_over : (log : Inside) → IsOver log → IsLaidOut log
laid_out_over log over =
    let few = over.few in
    let none : length log.records.items ≡ 0 = ap length over.records in
    let inputs = over.inputs in
    let learned = over.learned in
    let live = over.live in
    record {
      records = subst (λ (records : List StepRecord). AreRecords (length log.shown + 1) records log.steps) (sym over.records) over.steps;
      counted = λ at d lt. absurd (omega arith);
      inputs = over.inputs ∙ sym (inputs_alone log over.records);
      learned = over.learned ∙ sym (ap learned_count (shown_alone log over.records) ∙ none_learned log.shown);
      few = omega arith;
      counts = omega arith;
      marks = subst (λ (marks : List Mark). AreInOrder 0 (step_count log) marks) (sym over.marks) (omega arith);
      live = over.live ∙ sym (ap live_count (log_over log over) ∙ none_live log.shown (db_of (map Input log.shown)));
      most_live = omega arith;
    }

-- one more mark, behind all steps
pub record IsMarked (old new : Inside) (m : Mark) : Type 0 where
  pub shown : new.shown ≡ old.shown
  pub records : new.records ≡ old.records
  pub steps : new.steps ≡ old.steps
  pub inputs : new.inputs ≡ old.inputs
  pub learned : new.learned ≡ old.learned
  pub marks : new.marks.items ≡ old.marks.items ++ m ∷ []
  pub live : new.live ≡ old.live - 1
  pub place : m.steps ≡ step_count old

same_steps : (old new : Inside) (m : Mark) → IsMarked old new m → all_steps new ≡ all_steps old
same_steps old new m p =
    ap₂ (λ (cs : List (List ℤ)) (own : List LogStep). map Input cs ++ own) p.shown (ap₂ steps_with (ap (λ v. v.items) p.records) p.steps)

pub log_marked : (old new : Inside) (m : Mark) → IsLaidOut old → IsMarked old new m → log_of new ≡ log_of old ++ Forgot m.id ∷ []
log_marked old new m laid p =
    let place : m.steps ≡ 0 + length (all_steps old) = omega (arith, p.place, steps_count old laid) in
    ap₂ (woven 0) p.marks (same_steps old new m p)
    ∙ woven-push_mark 0 old.marks.items (all_steps old) m (marks_to_end old laid) place

pub laid_out_marked : (old new : Inside) (m : Mark) → IsLaidOut old → IsMarked old new m → IsLiveLearned (log_of old) m.id → IsLaidOut new
laid_out_marked old new m laid p is =
    let same = same_steps old new m p in
    let records : new.records.items ≡ old.records.items = ap (λ v. v.items) p.records in
    let count : step_count new ≡ step_count old = ap₂ (λ (cs : List (List ℤ)) (rs : List StepRecord). length cs + length rs) p.shown records in
    let fewer = live_count-forgot (log_of old) m.id is in
    let was = laid.live in
    let now = p.live in
    let behind : live_count (log_of new) ≡ live_count (log_of old ++ Forgot m.id ∷ []) = ap live_count (log_marked old new m laid p) in
    let few = laid.few in
    let counts = laid.counts in
    let inputs = p.inputs in
    let learned = p.learned in
    let most_live = laid.most_live in
    record {
      records =
          subst (λ (cs : List (List ℤ)). AreRecords (length cs + 1) new.records.items new.steps) (sym p.shown)
          (subst (λ (rs : List StepRecord). AreRecords (length old.shown + 1) rs new.steps) (sym records)
          (subst (AreRecords (length old.shown + 1) old.records.items) (sym p.steps) laid.records));
      counted =
          subst (λ (cs : List (List ℤ)). AreCounted (length cs) (all_steps new) new.records.items) (sym p.shown)
          (subst (λ (log : List LogStep). AreCounted (length old.shown) log new.records.items) (sym same)
          (subst (AreCounted (length old.shown) (all_steps old)) (sym records) laid.counted));
      inputs = p.inputs ∙ laid.inputs ∙ ap (λ (log : List LogStep). length (inputs_of log)) (sym same);
      learned = p.learned ∙ laid.learned ∙ ap learned_count (sym same);
      few = omega arith;
      counts = omega arith;
      marks = subst (λ n. AreInOrder 0 n new.marks.items) (sym count)
          (subst (AreInOrder 0 (step_count old)) (sym p.marks) (order_push 0 (step_count old) old.marks.items m laid.marks p.place));
      live = omega arith;
      most_live = omega arith;
    }
