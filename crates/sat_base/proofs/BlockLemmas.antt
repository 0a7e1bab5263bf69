-- Lemmas on steps in blocks: what a longer block and one more block leave as it was.
use Rattle.std.proofs.Common.{◌≡◌, ℕ, suc, Result, Ok, Err, ◌+◌, ◌-◌, ◌<◌, refl, sym, subst, ap, ap₂, ◌∙◌, inl, inr, List, [], ◌∷◌, ◌++◌, map, length, get_or, set, All, Some, arith}
use Rattle.std.specs.Prelude.{slice_get, OnErr}
use Rattle.std.proofs.lemmas.Bool.{cases_eq}
use Rattle.std.proofs.lemmas.List.{length-map, length-set, length_push, map_push, get_or-map, get_or-set_same, get_or-set_other, get_or_append_left, get_or_push}
use Rattle.std.proofs.lemmas.List.Elements.{All-push}
use Rattle.std.proofs.lemmas.Option.{slice_get-get_or}
use Rattle.sat_base.specs.Derivation.{Step}
use Rattle.sat_base.specs.declared.step_arena.Place.{Place}
use Rattle.sat_base.specs.declared.step_arena.StepArena.TheInside.{Inside}
use Rattle.sat_base.specs.Blocks.{no_step, blocks_of, step_in, IsPlace, steps_in, ArePlaced, Keeps, IsPlaced}

-- a block got longer
pub keeps_longer : (blocks : List (List Step)) (n : ℕ) (s : Step) → n < length blocks → Keeps blocks (set blocks n (get_or blocks n [] ++ s ∷ []))
keeps_longer blocks n s lt p is =
    let block = get_or blocks n [] in
    let longer = block ++ s ∷ [] in
    let len = length-set blocks n longer in
    let more = length_push block s in
    let here = is.block in
    let there = is.at in
    elim (cases_eq p.block n) [
      | inl same ↦
          let at : get_or (set blocks n longer) p.block [] ≡ longer = ap (λ k. get_or (set blocks n longer) k []) same ∙ get_or-set_same blocks n longer [] lt in
          let was : get_or blocks p.block [] ≡ block = ap (λ k. get_or blocks k []) same in
          let before : p.at < length block = subst (λ (b : List Step). p.at < length b) was there in (
            record { block = omega arith; at = subst (λ (b : List Step). p.at < length b) (sym at) (omega arith) },
            ap (λ (b : List Step). get_or b p.at no_step) at ∙ get_or_append_left block (s ∷ []) no_step p.at before ∙ ap (λ (b : List Step). get_or b p.at no_step) (sym was),
          )
      | inr other ↦
          let at : get_or (set blocks n longer) p.block [] ≡ get_or blocks p.block [] = get_or-set_other blocks n p.block longer [] other in (
            record { block = omega arith; at = subst (λ (b : List Step). p.at < length b) (sym at) there },
            ap (λ (b : List Step). get_or b p.at no_step) at,
          )
    ]

-- one more block
pub keeps_more : (blocks : List (List Step)) (block : List Step) → Keeps blocks (blocks ++ block ∷ [])
keeps_more blocks block p is =
    let at : get_or (blocks ++ block ∷ []) p.block [] ≡ get_or blocks p.block [] = get_or_append_left blocks (block ∷ []) [] p.block is.block in
    let more = length_push blocks block in
    let here = is.block in (
      record { block = omega arith; at = subst (λ (b : List Step). p.at < length b) (sym at) is.at },
      ap (λ (b : List Step). get_or b p.at no_step) at,
    )

steps_kept : (old new : List (List Step)) (places : List Place) → Keeps old new → All (IsPlace old) places → map (step_in new) places ≡ map (step_in old) places
steps_kept old new [] keeps all = refl
steps_kept old new (p ∷ places) keeps all =
    ap₂ (λ (s : Step) (rest : List Step). s ∷ rest) (keeps p (all 0 p (omega arith))).1 (steps_kept old new places keeps (λ k d lt. all (suc k) d (omega arith)))

-- the arena after one more step
pub steps_pushed : (old new : Inside) (p : Place) (s : Step) → ArePlaced old → IsPlaced (blocks_of old) (blocks_of new) p s → new.places.items ≡ old.places.items ++ p ∷ [] → steps_in new ≡ steps_in old ++ s ∷ []
steps_pushed old new p s placed is places =
    ap (map (step_in (blocks_of new))) places
    ∙ map_push (step_in (blocks_of new)) old.places.items p
    ∙ ap₂ (λ (before : List Step) (t : Step). before ++ t ∷ []) (steps_kept (blocks_of old) (blocks_of new) old.places.items is.keeps placed) is.step

pub placed_pushed : (old new : Inside) (p : Place) (s : Step) → ArePlaced old → IsPlaced (blocks_of old) (blocks_of new) p s → new.places.items ≡ old.places.items ++ p ∷ [] → ArePlaced new
placed_pushed old new p s placed is places =
    subst (λ (all : List Place). All (IsPlace (blocks_of new)) all) (sym places)
    (All-push (IsPlace (blocks_of new)) old.places.items p (λ k d lt. (is.keeps (get_or old.places.items k d) (placed k d lt)).0) is.is_place)

-- the same blocks have the same steps
pub steps_same : (old new : Inside) → blocks_of new ≡ blocks_of old → new.places.items ≡ old.places.items → steps_in new ≡ steps_in old
steps_same old new blocks places = ap₂ (λ (bs : List (List Step)) (ps : List Place). map (step_in bs) ps) blocks places

pub placed_same : (old new : Inside) → blocks_of new ≡ blocks_of old → new.places.items ≡ old.places.items → ArePlaced old → ArePlaced new
placed_same old new blocks places placed =
    subst (λ (ps : List Place). All (IsPlace (blocks_of new)) ps) (sym places) (subst (λ (bs : List (List Step)). All (IsPlace bs) old.places.items) (sym blocks) placed)

-- the last step of a block that got longer
pub placed_longer : (old new : List (List Step)) (p : Place) (s : Step) → p.block < length old → p.at ≡ length (get_or old p.block [])
    → new ≡ set old p.block (get_or old p.block [] ++ s ∷ []) → IsPlaced old new p s
placed_longer old new p s lt at blocks =
    let block = get_or old p.block [] in
    let longer = block ++ s ∷ [] in
    let there : get_or new p.block [] ≡ longer = ap (λ (bs : List (List Step)). get_or bs p.block []) blocks ∙ get_or-set_same old p.block longer [] lt in
    let len : length new ≡ length old = ap length blocks ∙ length-set old p.block longer in
    let more = length_push block s in
    record {
      keeps = subst (Keeps old) (sym blocks) (keeps_longer old p.block s lt);
      is_place = record { block = omega arith; at = subst (λ (b : List Step). p.at < length b) (sym there) (omega arith) };
      step = ap (λ (b : List Step). get_or b p.at no_step) there ∙ get_or_push block s no_step p.at (sym at);
    }

-- the step of one more block
pub placed_alone : (old new : List (List Step)) (p : Place) (s : Step) → p.block ≡ length old → p.at ≡ 0 → new ≡ old ++ (s ∷ []) ∷ [] → IsPlaced old new p s
placed_alone old new p s here at blocks =
    let there : get_or new p.block [] ≡ s ∷ [] = ap (λ (bs : List (List Step)). get_or bs p.block []) blocks ∙ get_or_push old (s ∷ []) [] p.block (sym here) in
    let len : length new ≡ length old + 1 = ap length blocks ∙ length_push old (s ∷ []) in
    record {
      keeps = subst (Keeps old) (sym blocks) (keeps_more old (s ∷ []));
      is_place = record { block = omega arith; at = subst (λ (b : List Step). p.at < length b) (sym there) (omega arith) };
      step = ap (λ (b : List Step). get_or b p.at no_step) there ∙ ap (λ k. get_or (s ∷ []) k no_step) at;
    }

-- a place for each step
pub places_count : (arena : Inside) (steps : List Step) → steps_in arena ≡ steps → length arena.places.items ≡ length steps
places_count arena steps is = sym (length-map arena.places.items (step_in (blocks_of arena))) ∙ ap (λ (xs : List Step). length xs) is

-- what the place of a step holds
pub record IsRead (arena : Inside) (steps : List Step) (at : ℕ) (p : Place) : Type 0 where
  pub block : p.block < length (blocks_of arena)
  pub within : p.at < length (get_or (blocks_of arena) p.block [])
  pub step : slice_get steps at ≡ Some (get_or (get_or (blocks_of arena) p.block []) p.at no_step)

pub read_at : (arena : Inside) (steps : List Step) (at : ℕ) (p : Place) → ArePlaced arena → steps_in arena ≡ steps → at < length steps → p ≡ get_or arena.places.items at p → IsRead arena steps at p
read_at arena steps at p placed is lt got =
    let count = places_count arena steps is in
    let within : at < length arena.places.items = omega arith in
    let place : IsPlace (blocks_of arena) p = subst (IsPlace (blocks_of arena)) (sym got) (placed at p within) in
    record {
      block = place.block;
      within = place.at;
      step = ap (λ (xs : List Step). slice_get xs at) (sym is)
          ∙ slice_get-get_or (steps_in arena) at no_step (omega (arith, lt, ap (λ (xs : List Step). length xs) is))
          ∙ ap Some (get_or-map (step_in (blocks_of arena)) arena.places.items at p no_step within ∙ ap (step_in (blocks_of arena)) (sym got));
    }

pub OnErr-always : {X E A : Type 0} (r : Result X E) → A → OnErr r A
OnErr-always (Ok x) a = tt
OnErr-always (Err e) a = a
