-- Lemmas on marks that lie apart from the steps: what one more step and one more mark change, and what is read of the steps.
use Rattle.std.proofs.Common.{◌≡◌, ℕ, zero, suc, ◌+◌, ◌-◌, ◌<◌, ◌≤◌, List, [], ◌∷◌, ◌++◌, length, length-append, map, get_or, take, drop, refl, sym, ◌∙◌, ap, ap₂, subst, arith, append_assoc}
use Rattle.std.specs.Prelude.{ℤ}
use Rattle.std.proofs.lemmas.List.{take-append-le, drop-append-le, take_all, drop_all, length-drop, length-map, take-append-drop, get_or_append_left, get_or-append_right, get_or-map}
use Rattle.sat_base.specs.Derivation.{Step}
use Rattle.lrat_steps.specs.declared.step.StepKind.{StepKind}
use Rattle.lrat_steps.specs.declared.step.StepKind.TheVariants as step_kind
use Rattle.lrat_steps.specs.declared.log.StepRecord.{StepRecord}
use Rattle.lrat_steps.specs.declared.log.Mark.{Mark}
use Rattle.lrat_steps.specs.declared.log.Log.TheInside.{Inside}
use Rattle.lrat_steps.specs.Log.{LogStep, Input, Learned, Core, Forgot, lits_of, hints_of, kind_of, steps_of, step_in, step_at, inputs_of, learned_count}
use Rattle.lrat_steps.specs.Parts.{step_with}
use Rattle.lrat_steps.specs.Layout.{step_of_record, steps_with, all_steps, step_count, woven, log_of, IsRecord, AreRecords, AreInOrder, IsLaidOut}
use Rattle.lrat_steps.specs.Cone.{inputs_up_to}
use Rattle.lrat_steps.proofs.LogLemmas.{steps-append}

order_ends : (done last : ℕ) (marks : List Mark) → AreInOrder done last marks → done ≤ last
order_ends done last [] h = h
order_ends done last (m ∷ marks) h = let first = h.0 in let rest = order_ends m.steps last marks h.1 in omega arith

pub order_more : (done last more : ℕ) (marks : List Mark) → AreInOrder done last marks → last ≤ more → AreInOrder done more marks
order_more done last more [] h le = omega arith
order_more done last more (m ∷ marks) h le = (h.0, order_more m.steps last more marks h.1 le)

pub order_push : (done last : ℕ) (marks : List Mark) (m : Mark) → AreInOrder done last marks → m.steps ≡ last → AreInOrder done last (marks ++ m ∷ [])
order_push done last [] m h is = (omega arith, omega arith)
order_push done last (x ∷ marks) m h is = (h.0, order_push x.steps last marks m h.1 is)

-- a step comes behind all marks
pub woven-push_step : (done : ℕ) (marks : List Mark) (steps : List LogStep) (s : LogStep) → AreInOrder done (done + length steps) marks
    → woven done marks (steps ++ s ∷ []) ≡ woven done marks steps ++ s ∷ []
woven-push_step done [] steps s h = refl
woven-push_step done (m ∷ marks) steps s h =
    let k = m.steps - done in
    let low = h.0 in
    let high = order_ends m.steps (done + length steps) marks h.1 in
    let short : k ≤ length steps = omega arith in
    let left = length-drop k steps in
    let same : done + length steps ≡ m.steps + length (drop k steps) = omega arith in
    ap₂ (λ (first rest : List LogStep). first ++ Forgot m.id ∷ woven m.steps marks rest) (take-append-le k steps (s ∷ []) short) (drop-append-le k steps (s ∷ []) short)
    ∙ ap (λ (rest : List LogStep). take k steps ++ Forgot m.id ∷ rest)
    (woven-push_step m.steps marks (drop k steps) s (subst (λ n. AreInOrder m.steps n marks) same h.1))
    ∙ sym (append_assoc (take k steps) (Forgot m.id ∷ woven m.steps marks (drop k steps)) (s ∷ []))

-- and a mark behind all steps
pub woven-push_mark : (done : ℕ) (marks : List Mark) (steps : List LogStep) (m : Mark) → AreInOrder done (done + length steps) marks → m.steps ≡ done + length steps
    → woven done (marks ++ m ∷ []) steps ≡ woven done marks steps ++ Forgot m.id ∷ []
woven-push_mark done [] steps m h is =
    let past : length steps ≤ m.steps - done = omega arith in
    ap₂ (λ (first rest : List LogStep). first ++ Forgot m.id ∷ rest) (take_all (m.steps - done) steps past) (drop_all (m.steps - done) steps past)
woven-push_mark done (x ∷ marks) steps m h is =
    let k = x.steps - done in
    let low = h.0 in
    let high = order_ends x.steps (done + length steps) marks h.1 in
    let left = length-drop k steps in
    let same : done + length steps ≡ x.steps + length (drop k steps) = omega arith in
    ap (λ (rest : List LogStep). take k steps ++ Forgot x.id ∷ rest)
    (woven-push_mark x.steps marks (drop k steps) m (subst (λ n. AreInOrder x.steps n marks) same h.1) (is ∙ same))
    ∙ sym (append_assoc (take k steps) (Forgot x.id ∷ woven x.steps marks (drop k steps)) (Forgot m.id ∷ []))

-- without the marks, the steps are as they lie
steps_woven : (done : ℕ) (marks : List Mark) (steps : List LogStep) → steps_of (woven done marks steps) ≡ steps_of steps
steps_woven done [] steps = refl
steps_woven done (m ∷ marks) steps =
    let k = m.steps - done in
    steps-append (take k steps) (Forgot m.id ∷ woven m.steps marks (drop k steps))
    ∙ ap (λ (rest : List LogStep). steps_of (take k steps) ++ rest) (steps_woven m.steps marks (drop k steps))
    ∙ sym (steps-append (take k steps) (drop k steps))
    ∙ ap steps_of (take-append-drop k steps)

step_alone : (kind : StepKind) (lits : List ℤ) (hints : List ℕ) (rest : List LogStep) → steps_of (step_with kind lits hints ∷ rest) ≡ step_with kind lits hints ∷ steps_of rest
step_alone step_kind.Input lits hints rest = refl
step_alone step_kind.Learned lits hints rest = refl
step_alone step_kind.Core lits hints rest = refl

no_marks : (records : List StepRecord) (steps : List Step) → steps_of (steps_with records steps) ≡ steps_with records steps
no_marks [] steps = refl
no_marks (r ∷ records) [] = refl
no_marks (r ∷ records) (s ∷ steps) = step_alone r.kind _ _ (steps_with records steps) ∙ ap (λ (rest : List LogStep). step_of_record r s ∷ rest) (no_marks records steps)

no_marks_shown : (shown : List (List ℤ)) → steps_of (map Input shown) ≡ map Input shown
no_marks_shown [] = refl
no_marks_shown (c ∷ shown) = ap (λ (rest : List LogStep). Input c ∷ rest) (no_marks_shown shown)

pub steps_laid : (log : Inside) → steps_of (log_of log) ≡ all_steps log
steps_laid log =
    steps_woven 0 log.marks.items (all_steps log)
    ∙ steps-append (map Input log.shown) (steps_with log.records.items log.steps)
    ∙ ap₂ (λ (shown own : List LogStep). shown ++ own) (no_marks_shown log.shown) (no_marks log.records.items log.steps)

-- marks are neither inputs nor learnt clauses
pub inputs_of-steps : (log : List LogStep) → inputs_of (steps_of log) ≡ inputs_of log
inputs_of-steps [] = refl
inputs_of-steps (Input c ∷ log) = ap (λ (cs : List (List ℤ)). c ∷ cs) (inputs_of-steps log)
inputs_of-steps (Learned c h ∷ log) = inputs_of-steps log
inputs_of-steps (Core c h ∷ log) = inputs_of-steps log
inputs_of-steps (Forgot id ∷ log) = inputs_of-steps log

pub learned_count-steps : (log : List LogStep) → learned_count (steps_of log) ≡ learned_count log
learned_count-steps [] = refl
learned_count-steps (Input c ∷ log) = learned_count-steps log
learned_count-steps (Learned c h ∷ log) = ap (λ n. n + 1) (learned_count-steps log)
learned_count-steps (Core c h ∷ log) = learned_count-steps log
learned_count-steps (Forgot id ∷ log) = learned_count-steps log

-- what a log that is seen as `seen` has
pub record IsRead (log : Inside) (seen : List LogStep) : Type 0 where
  pub steps : steps_of seen ≡ all_steps log
  pub inputs : inputs_of seen ≡ inputs_of (all_steps log)
  pub learned : learned_count seen ≡ learned_count (all_steps log)

pub read : (log : Inside) (seen : List LogStep) → log_of log ≡ seen → IsRead log seen
read log seen is =
    let steps : steps_of seen ≡ all_steps log = ap steps_of (sym is) ∙ steps_laid log in
    record {
      steps = steps;
      inputs = sym (inputs_of-steps seen) ∙ ap inputs_of steps;
      learned = sym (learned_count-steps seen) ∙ ap learned_count steps;
    }

-- a record for each step of its own
own_count : (id : ℕ) (records : List StepRecord) (steps : List Step) → AreRecords id records steps → length (steps_with records steps) ≡ length records
own_count id [] steps all = refl
own_count id (r ∷ records) [] all = absurd all
own_count id (r ∷ records) (s ∷ steps) all = let rest = own_count (id + 1) records steps all.1 in omega arith

kept_count : (id : ℕ) (records : List StepRecord) (steps : List Step) → AreRecords id records steps → length steps ≡ length records
kept_count id [] steps all = ap length all
kept_count id (r ∷ records) [] all = absurd all
kept_count id (r ∷ records) (s ∷ steps) all = let rest = kept_count (id + 1) records steps all.1 in omega arith

pub steps_count : (log : Inside) → IsLaidOut log → length (all_steps log) ≡ step_count log
steps_count log laid =
    length-append (map Input log.shown) (steps_with log.records.items log.steps)
    ∙ ap₂ (λ (a b : ℕ). a + b) (length-map log.shown Input) (own_count (length log.shown + 1) log.records.items log.steps laid.records)

pub count_of : (log : Inside) (seen : List LogStep) → IsLaidOut log → log_of log ≡ seen → length (steps_of seen) ≡ step_count log
count_of log seen laid is = ap length (read log seen is).steps ∙ steps_count log laid

-- the record of an id

kind-with : (kind : StepKind) (lits : List ℤ) (hints : List ℕ) → kind_of (step_with kind lits hints) ≡ kind
kind-with step_kind.Input lits hints = refl
kind-with step_kind.Learned lits hints = refl
kind-with step_kind.Core lits hints = refl

lits-with : (kind : StepKind) (lits : List ℤ) (hints : List ℕ) → lits_of (step_with kind lits hints) ≡ lits
lits-with step_kind.Input lits hints = refl
lits-with step_kind.Learned lits hints = refl
lits-with step_kind.Core lits hints = refl

hints-with : (kind : StepKind) (lits : List ℤ) (hints : List ℕ) → (kind ≡ step_kind.Input → hints ≡ []) → hints_of (step_with kind lits hints) ≡ hints
hints-with step_kind.Input lits hints none = sym (none refl)
hints-with step_kind.Learned lits hints none = refl
hints-with step_kind.Core lits hints none = refl

-- the record and the step at a place
record_at : (id : ℕ) (records : List StepRecord) (steps : List Step) (at : ℕ) (dr : StepRecord) (ds : Step) → AreRecords id records steps → at < length records
    → IsRecord (id + at) (get_or records at dr) (get_or steps at ds) × (get_or (steps_with records steps) at (Input []) ≡ step_of_record (get_or records at dr) (get_or steps at ds))
record_at id [] steps at dr ds all lt = absurd (omega arith)
record_at id (r ∷ records) [] at dr ds all lt = absurd all
record_at id (r ∷ records) (s ∷ steps) zero dr ds all lt = let same : id ≡ id + 0 = omega arith in (subst (λ n. IsRecord n r s) same all.0, refl)
record_at id (r ∷ records) (s ∷ steps) (suc at) dr ds all lt =
    let rest = record_at (id + 1) records steps at dr ds all.1 (omega arith) in
    let same : id + 1 + at ≡ id + suc at = omega arith in
    (subst (λ n. IsRecord n (get_or records at dr) (get_or steps at ds)) same rest.0, rest.1)

-- a clause that is shown is the step of its id
pub record IsShownAt (log : Inside) (seen : List LogStep) (id : ℕ) : Type 0 where
  pub step : (d : List ℤ) → step_at seen id ≡ Input (get_or log.shown (id - 1) d)
  pub inputs : inputs_up_to (steps_of seen) id ≡ id

inputs_shown : (shown : List (List ℤ)) (own : List LogStep) (n : ℕ) → n ≤ length shown → length (inputs_of (take n (map Input shown ++ own))) ≡ n
inputs_shown shown own zero high = refl
inputs_shown [] own (suc n) high = absurd (omega arith)
inputs_shown (c ∷ shown) own (suc n) high = let rest = inputs_shown shown own n (omega arith) in omega arith

pub read_shown : (log : Inside) (seen : List LogStep) (id : ℕ) → log_of log ≡ seen → 0 < id → id ≤ length log.shown → IsShownAt log seen id
read_shown log seen id is low high =
    let own = steps_with log.records.items log.steps in
    let steps = (read log seen is).steps in
    let lt : id - 1 < length log.shown = omega arith in
    let within : id - 1 < length (map Input log.shown) = omega (arith, lt, length-map log.shown Input) in
    record {
      step = λ d.
          ap (λ (all : List LogStep). step_in all id) steps
          ∙ get_or_append_left (map Input log.shown) own (Input []) (id - 1) within
          ∙ get_or-map Input log.shown (id - 1) d (Input []) lt;
      inputs = ap (λ (all : List LogStep). inputs_up_to all id) steps ∙ inputs_shown log.shown own id high;
    }

-- the record `r` and the step `s` are those of an id
pub record IsRecordAt (log : Inside) (seen : List LogStep) (id : ℕ) (r : StepRecord) (s : Step) : Type 0 where
  pub named : s.id ≡ id
  pub kind : r.kind ≡ kind_of (step_at seen id)
  pub lits : s.lits ≡ lits_of (step_at seen id)
  pub hints : s.hints ≡ hints_of (step_at seen id)
  pub inputs : r.inputs ≡ inputs_up_to (steps_of seen) id

-- where it stands among the log's own steps, behind the `shown` ones
pub place_at_id : (log : Inside) (seen : List LogStep) (id shown : ℕ) → IsLaidOut log → log_of log ≡ seen → shown ≡ length log.shown → shown < id → id ≤ length (steps_of seen)
    → (id - 1 - shown < length log.records.items) × (id - 1 - shown < length log.steps)
place_at_id log seen id shown laid is all low high =
    let count = count_of log seen laid is in
    let kept = kept_count (length log.shown + 1) log.records.items log.steps laid.records in
    (omega arith, omega arith)

pub read_at : (log : Inside) (seen : List LogStep) (id shown : ℕ) (dr : StepRecord) (ds : Step) → IsLaidOut log → log_of log ≡ seen → shown ≡ length log.shown → shown < id → id ≤ length (steps_of seen)
    → IsRecordAt log seen id (get_or log.records.items (id - 1 - shown) dr) (get_or log.steps (id - 1 - shown) ds)
read_at log seen id shown dr ds laid is all low high =
    let at = id - 1 - shown in
    let lt : at < length log.records.items = (place_at_id log seen id shown laid is all low high).0 in
    let r = get_or log.records.items at dr in
    let s = get_or log.steps at ds in
    let own = steps_with log.records.items log.steps in
    let steps = (read log seen is).steps in
    let found = record_at (length log.shown + 1) log.records.items log.steps at dr ds laid.records lt in
    let step : step_at seen id ≡ step_of_record r s =
    ap (λ (all : List LogStep). step_in all id) steps
    ∙ get_or-append_right (map Input log.shown) own shown (id - 1) (Input []) (length-map log.shown Input ∙ sym all) (omega arith)
    ∙ found.1 in
    let next : length log.shown + at + 1 ≡ id = omega arith in
    let same : length log.shown + 1 + at ≡ id = omega arith in
    record {
      named = found.0.named ∙ same;
      kind = sym (kind-with r.kind s.lits s.hints) ∙ ap kind_of (sym step);
      lits = sym (lits-with r.kind s.lits s.hints) ∙ ap lits_of (sym step);
      hints = sym (hints-with r.kind s.lits s.hints found.0.no_hints) ∙ ap hints_of (sym step);
      inputs = laid.counted at dr lt ∙ ap₂ (λ n (all : List LogStep). length (inputs_of (take n all))) next (sym steps);
    }
