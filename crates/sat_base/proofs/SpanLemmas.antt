-- Lemmas on how steps are laid out.
use Rattle.std.proofs.Common.{◌≡◌, ℕ, zero, suc, ◌+◌, ◌-◌, ◌<◌, ◌≤◌, Some, refl, sym, subst, ap, ap₂, ◌∙◌, List, [], ◌∷◌, ◌++◌, length, get_or, All, arith, drop, length-drop, length-append}
use Rattle.std.specs.Prelude.{ℤ, slice_get, slice_range}
use Rattle.std.proofs.lemmas.List.{take-append-le, drop-append-le, drop_at, take_all}
use Rattle.std.proofs.lemmas.List.Elements.{All-append, All-take, All-drop}
use Rattle.sat_base.specs.Derivation.{Step, max_id, HasIds}
use Rattle.sat_base.specs.declared.steps.StepSpan.{StepSpan}
use Rattle.sat_base.specs.declared.steps.Steps.TheInside.{Inside}
use Rattle.sat_base.specs.Cuts.{start, step_of, steps_behind, AreBehind}
use Rattle.sat_base.specs.Spans.{steps_of, IsLaidOut}

-- a range within a list is the same in a longer one
pub range_before : {X : Type 0} (xs more : List X) (from to : ℕ) → from ≤ to → to ≤ length xs → slice_range (xs ++ more) from to ≡ slice_range xs from to
range_before xs more from to ordered within =
    let fits : to - from ≤ length (drop from xs) = omega (arith, length-drop from xs) in
    let starts : from ≤ length xs = omega arith in
    rw (drop-append-le from xs more starts) (take-append-le _ _ _ fits)

-- the range of what was added
pub range_at_end : {X : Type 0} (xs more : List X) (to : ℕ) → to ≡ length (xs ++ more) → slice_range (xs ++ more) (length xs) to ≡ more
range_at_end xs more to is = rw (drop_at xs more (length xs) refl) (take_all _ _ (omega (arith, is, length-append xs more)))

-- what stands at a place stands at the next one behind one more
pub item_behind : {X : Type 0} (x : X) (xs : List X) (k at : ℕ) (d : X) → at ≡ k + 1 → get_or xs k d ≡ get_or (x ∷ xs) at d
item_behind x xs k at d is = let next : suc k ≡ at = omega arith in ap (λ (n : ℕ). get_or (x ∷ xs) n d) next

-- a span that others stand behind ends within the literals and hints
pub record EndsWithin (lits hints : ℕ) (s : StepSpan) : Type 0 where
  pub lits_end : s.lits_to ≤ lits
  pub hints_end : s.hints_to ≤ hints

pub ends_within : (lits hints : ℕ) (before : StepSpan) (spans : List StepSpan) → AreBehind lits hints before spans → EndsWithin lits hints before
ends_within lits hints before [] all = record { lits_end = omega (arith, all.0); hints_end = omega (arith, all.1) }
ends_within lits hints before (s ∷ spans) all =
    let rest = ends_within lits hints s spans all.1 in
    record { lits_end = omega (arith, all.0.lits, rest.lits_end); hints_end = omega (arith, all.0.hints, rest.hints_end) }

-- the steps after one was added
pub steps_after_push : (lits more_lits : List ℤ) (hints more_hints : List ℕ) (before : StepSpan) (spans : List StepSpan) (s : StepSpan)
    → AreBehind (length lits) (length hints) before spans → s.lits_to ≡ length (lits ++ more_lits) → s.hints_to ≡ length (hints ++ more_hints)
    → steps_behind (lits ++ more_lits) (hints ++ more_hints) before (spans ++ s ∷ []) ≡ steps_behind lits hints before spans ++ record { id = s.id; lits = more_lits; hints = more_hints } ∷ []
steps_after_push lits more_lits hints more_hints before [] s all lits_to hints_to =
    ap₂ (λ (ls : List ℤ) (hs : List ℕ). record { id = s.id; lits = ls; hints = hs } ∷ [])
    (ap (λ (from : ℕ). slice_range (lits ++ more_lits) from s.lits_to) all.0 ∙ range_at_end lits more_lits s.lits_to lits_to)
    (ap (λ (from : ℕ). slice_range (hints ++ more_hints) from s.hints_to) all.1 ∙ range_at_end hints more_hints s.hints_to hints_to)
steps_after_push lits more_lits hints more_hints before (x ∷ spans) s all lits_to hints_to =
    let here = ends_within (length lits) (length hints) x spans all.1 in
    ap₂ (λ (cut : Step) (rest : List Step). cut ∷ rest)
    (ap₂ (λ (ls : List ℤ) (hs : List ℕ). record { id = x.id; lits = ls; hints = hs })
    (range_before lits more_lits before.lits_to x.lits_to all.0.lits here.lits_end)
    (range_before hints more_hints before.hints_to x.hints_to all.0.hints here.hints_end))
    (steps_after_push lits more_lits hints more_hints x spans s all.1 lits_to hints_to)

-- one more span behind the others
pub behind_after_push : (lits hints : ℕ) (before : StepSpan) (spans : List StepSpan) (s : StepSpan) → AreBehind lits hints before spans
    → lits ≤ s.lits_to → hints ≤ s.hints_to → s.id ≤ max_id → AreBehind s.lits_to s.hints_to before (spans ++ s ∷ [])
behind_after_push lits hints before [] s all lits_to hints_to id =
    (record { lits = omega (arith, all.0); hints = omega (arith, all.1); id = id }, (refl, refl))
behind_after_push lits hints before (x ∷ spans) s all lits_to hints_to id =
    (all.0, behind_after_push lits hints x spans s all.1 lits_to hints_to id)

-- a step for each span
pub length-steps : (lits : List ℤ) (hints : List ℕ) (before : StepSpan) (spans : List StepSpan) → length (steps_behind lits hints before spans) ≡ length spans
length-steps lits hints before [] = refl
length-steps lits hints before (s ∷ spans) = let rest = length-steps lits hints s spans in omega arith

-- the step at a place is that of the span there behind the one before it
pub step_at : (lits : List ℤ) (hints : List ℕ) (before : StepSpan) (spans : List StepSpan) (at : ℕ) (b d s : StepSpan) → b ≡ get_or (before ∷ spans) at d → s ≡ get_or spans at s → at < length spans
    → slice_get (steps_behind lits hints before spans) at ≡ Some (step_of lits hints b s)
step_at lits hints before [] at b d s before_is is within = absurd (omega arith)
step_at lits hints before (x ∷ xs) zero b d s before_is is within = ap₂ (λ (y : StepSpan) (z : StepSpan). Some (step_of lits hints y z)) (sym before_is) (sym is)
step_at lits hints before (x ∷ xs) (suc at) b d s before_is is within = step_at lits hints x xs at b d s before_is is (omega arith)

-- the literals and hints of a step lie where its span and the one before it say
pub record IsCut (lits hints : ℕ) (before s : StepSpan) : Type 0 where
  pub lits_ordered : before.lits_to ≤ s.lits_to
  pub lits_within : s.lits_to ≤ lits
  pub hints_ordered : before.hints_to ≤ s.hints_to
  pub hints_within : s.hints_to ≤ hints

pub cut_at : (lits hints : ℕ) (before : StepSpan) (spans : List StepSpan) (at : ℕ) (b d s : StepSpan) → AreBehind lits hints before spans
    → b ≡ get_or (before ∷ spans) at d → s ≡ get_or spans at s → at < length spans → IsCut lits hints b s
cut_at lits hints before [] at b d s all before_is is within = absurd (omega arith)
cut_at lits hints before (x ∷ xs) zero b d s all before_is is within =
    let here = all.0 in
    let rest = ends_within lits hints x xs all.1 in
    subst (λ (y : StepSpan). IsCut lits hints y s) (sym before_is)
    (subst (λ (z : StepSpan). IsCut lits hints before z) (sym is)
    (record { lits_ordered = here.lits; lits_within = rest.lits_end; hints_ordered = here.hints; hints_within = rest.hints_end }))
cut_at lits hints before (x ∷ xs) (suc at) b d s all before_is is within = cut_at lits hints x xs at b d s all.1 before_is is (omega arith)

-- what a place holds, where `b` is the span before that place and `s` the one there
pub record IsRead (arenas : Inside) (steps : List Step) (at : ℕ) (b s : StepSpan) : Type 0 where
  pub cut : IsCut (length arenas.lits.items) (length arenas.hints) b s
  pub step : slice_get steps at ≡ Some (step_of arenas.lits.items arenas.hints b s)

-- a span for each step
pub spans_count : (arenas : Inside) (steps : List Step) → steps_of arenas ≡ steps → length arenas.spans.items ≡ length steps
spans_count arenas steps is = sym (length-steps arenas.lits.items arenas.hints start arenas.spans.items) ∙ ap (λ (xs : List Step). length xs) is

pub read_at : (arenas : Inside) (steps : List Step) (at : ℕ) (spans : List StepSpan) (b s : StepSpan) → IsLaidOut arenas → steps_of arenas ≡ steps → at < length steps
    → spans ≡ arenas.spans.items → b ≡ get_or (start ∷ spans) at start → s ≡ get_or arenas.spans.items at s → IsRead arenas steps at b s
read_at arenas steps at spans b s laid is lt spans_are before_is here =
    let lits = arenas.lits.items in
    let hints = arenas.hints in
    let all = arenas.spans.items in
    let within : at < length all = omega (arith, spans_count arenas steps is) in
    let before : b ≡ get_or (start ∷ all) at start = before_is ∙ ap (λ (xs : List StepSpan). get_or (start ∷ xs) at start) spans_are in
    record {
      cut = cut_at (length lits) (length hints) start all at b start s laid.spans before here within;
      step = ap (λ (xs : List Step). slice_get xs at) (sym is) ∙ step_at lits hints start all at b start s before here within;
    }

ids_within : (lits : List ℤ) (hints : List ℕ) (before : StepSpan) (spans : List StepSpan) → AreBehind (length lits) (length hints) before spans
    → (k : ℕ) (d : Step) → k < length (steps_behind lits hints before spans) → (get_or (steps_behind lits hints before spans) k d).id ≤ max_id
ids_within lits hints before [] all k d lt = absurd (omega arith)
ids_within lits hints before (s ∷ spans) all zero d lt = all.0.id
ids_within lits hints before (s ∷ spans) all (suc k) d lt = ids_within lits hints s spans all.1 k d (omega arith)

hints_within : (lits : List ℤ) (hints : List ℕ) (before : StepSpan) (spans : List StepSpan) → All (λ h. h ≤ max_id) hints
    → (k : ℕ) (d : Step) → k < length (steps_behind lits hints before spans) → All (λ h. h ≤ max_id) (get_or (steps_behind lits hints before spans) k d).hints
hints_within lits hints before [] small k d lt = absurd (omega arith)
hints_within lits hints before (s ∷ spans) small zero d lt =
    All-take (λ h. h ≤ max_id) (s.hints_to - before.hints_to) (drop before.hints_to hints) (All-drop (λ h. h ≤ max_id) before.hints_to hints small)
hints_within lits hints before (s ∷ spans) small (suc k) d lt = hints_within lits hints s spans small k d (omega arith)

-- the numbers are what an evidence text can hold
pub ids_of : (s : Inside) (goal : ℕ) → IsLaidOut s → goal ≤ max_id → HasIds (record { steps = steps_of s; goal = goal })
ids_of s goal laid least =
    record {
      ids = ids_within s.lits.items s.hints start s.spans.items laid.spans;
      hints = hints_within s.lits.items s.hints start s.spans.items laid.hints;
      goal = least;
    }

-- the arenas after one more step
pub record IsPushed (old new : Inside) (s : StepSpan) (more_lits : List ℤ) (more_hints : List ℕ) : Type 0 where
  pub spans : new.spans.items ≡ old.spans.items ++ s ∷ []
  pub lits : new.lits.items ≡ old.lits.items ++ more_lits
  pub hints : new.hints ≡ old.hints ++ more_hints
  pub lits_to : s.lits_to ≡ length old.lits.items + length more_lits
  pub hints_to : s.hints_to ≡ length old.hints + length more_hints
  pub id : s.id ≤ max_id
  pub small : All (λ h. h ≤ max_id) more_hints

-- which is the last one
pub steps_pushed : (old new : Inside) (s : StepSpan) (more_lits : List ℤ) (more_hints : List ℕ) → IsLaidOut old → IsPushed old new s more_lits more_hints
    → steps_of new ≡ steps_of old ++ record { id = s.id; lits = more_lits; hints = more_hints } ∷ []
steps_pushed old new s more_lits more_hints laid p =
    let all_lits = length-append old.lits.items more_lits in
    let all_hints = length-append old.hints more_hints in
    ap₂ (λ (lits : List ℤ) (hints : List ℕ). steps_behind lits hints start new.spans.items) p.lits p.hints
    ∙ ap (λ (spans : List StepSpan). steps_behind (old.lits.items ++ more_lits) (old.hints ++ more_hints) start spans) p.spans
    ∙ steps_after_push old.lits.items more_lits old.hints more_hints start old.spans.items s laid.spans
    (omega (arith, p.lits_to)) (omega (arith, p.hints_to))

pub laid_out_pushed : (old new : Inside) (s : StepSpan) (more_lits : List ℤ) (more_hints : List ℕ) → IsLaidOut old → IsPushed old new s more_lits more_hints → IsLaidOut new
laid_out_pushed old new s more_lits more_hints laid p =
    let lits_to : s.lits_to ≡ length new.lits.items = p.lits_to ∙ sym (ap (λ (ls : List ℤ). length ls) p.lits ∙ length-append old.lits.items more_lits) in
    let hints_to : s.hints_to ≡ length new.hints = p.hints_to ∙ sym (ap (λ (hs : List ℕ). length hs) p.hints ∙ length-append old.hints more_hints) in
    let more = behind_after_push (length old.lits.items) (length old.hints) start old.spans.items s laid.spans (omega (arith, p.lits_to)) (omega (arith, p.hints_to)) p.id in
    record {
      spans =
          subst (λ (spans : List StepSpan). AreBehind (length new.lits.items) (length new.hints) start spans) (sym p.spans)
          (subst (λ (n : ℕ). AreBehind n (length new.hints) start (old.spans.items ++ s ∷ [])) lits_to
          (subst (λ (n : ℕ). AreBehind s.lits_to n start (old.spans.items ++ s ∷ [])) hints_to more));
      hints = subst (λ (hs : List ℕ). All (λ h. h ≤ max_id) hs) (sym p.hints) (All-append (λ h. h ≤ max_id) old.hints more_hints laid.hints p.small);
    }
