-- What a derivation's steps keep, and the derivation that is built of them.
use Rattle.std.proofs.Common.{◌≡◌, ℕ, zero, suc, ◌+◌, ◌≤◌, true, not, List, [], ◌∷◌, ◌++◌, map, length, take, get_or, Some, sym, ◌∙◌, ap, subst, ltb, leb, arith, append_assoc}
use Rattle.std.specs.Prelude.{ℤ, neg_ℤ, slice_get, All, ◌&&◌}
use Rattle.std.proofs.lemmas.Bool.{and_parts, leb-true}
use Rattle.std.proofs.lemmas.List.{map_push}
use Rattle.std.proofs.lemmas.Option.{slice_get_within, get_or_from_slice_get}
use Rattle.sat_base.specs.Literals.{var_of}
use Rattle.sat_base.specs.Derivation.{Step, Derivation, contains_lit, is_step_clause, steps_follow, is_derivation, numbered, max_id, HasIds}
use Rattle.sat_base.proofs.Members.{all_at}
use Rattle.sat_base.proofs.DatabaseLemmas.{get_in}
use Rattle.gm_base.specs.Problem.{Problem}
use Rattle.sat_base.specs.Numbering.{Ascends}
use Rattle.edit_session.specs.Carried.{ids_in, carried_id, carried_step, carried_proof}
use Rattle.edit_session.specs.Opening.{AreOver}
use Rattle.edit_session.proofs.PlaceLemmas.{take_next}
use Rattle.edit_session.proofs.StepLemmas.{step_of, ids-ascend}

pub derives-ascend : (vars : ℕ) (inputs : List (List ℤ)) (d : Derivation) → is_derivation vars inputs d ≡ true → Ascends (ids_in d.steps)
derives-ascend vars inputs d h = ids-ascend vars (length inputs) (numbered 1 inputs) d.steps h

lits-over : (vars : ℕ) (lits : List ℤ) → is_step_clause vars lits ≡ true → All (λ (l : ℤ). var_of l ≤ vars) lits
lits-over vars lits h k d lt =
    let l = get_or lits k d in
    let outer = and_parts (ltb 0 (var_of l) && leb (var_of l) vars) (not (contains_lit lits (neg_ℤ l)))
    (all_at (λ m. ltb 0 (var_of m) && leb (var_of m) vars && not (contains_lit lits (neg_ℤ m))) lits l h (get_in lits k d lt)) in
    leb-true (var_of l) vars (and_parts (ltb 0 (var_of l)) (leb (var_of l) vars) outer.0).1

steps-over : (vars last : ℕ) (known : List (ℕ × List ℤ)) (ss : List Step) → steps_follow vars last known ss ≡ true → AreOver vars ss
steps-over vars last known [] h k d lt = absurd (omega arith)
steps-over vars last known (s ∷ ss) h zero d lt = lits-over vars s.lits (step_of vars last known s ss h).clause
steps-over vars last known (s ∷ ss) h (suc k) d lt = steps-over vars s.id (known ++ (s.id, s.lits) ∷ []) ss (step_of vars last known s ss h).rest k d (omega arith)

pub derives-over : (vars : ℕ) (inputs : List (List ℤ)) (d : Derivation) → is_derivation vars inputs d ≡ true → AreOver vars d.steps
derives-over vars inputs d h = steps-over vars (length inputs) (numbered 1 inputs) d.steps h

-- ---- of the step at a place

pub over-at : (vars : ℕ) (steps : List Step) (at : ℕ) (s : Step) → AreOver vars steps → slice_get steps at ≡ Some s → All (λ (l : ℤ). var_of l ≤ vars) s.lits
over-at vars steps at s all is = subst (λ (t : Step). All (λ (l : ℤ). var_of l ≤ vars) t.lits) (get_or_from_slice_get steps at s s is) (all at s (slice_get_within steps at s is))

pub id-at : (d : Derivation) (at : ℕ) (s : Step) → HasIds d → slice_get d.steps at ≡ Some s → s.id ≤ max_id
id-at d at s ids is = subst (λ (t : Step). t.id ≤ max_id) (get_or_from_slice_get d.steps at s s is) (ids.ids at s (slice_get_within d.steps at s is))

pub hints-at : (d : Derivation) (at : ℕ) (s : Step) → HasIds d → slice_get d.steps at ≡ Some s → All (λ h. h ≤ max_id) s.hints
hints-at d at s ids is = subst (λ (t : Step). All (λ h. h ≤ max_id) t.hints) (get_or_from_slice_get d.steps at s s is) (ids.hints at s (slice_get_within d.steps at s is))

-- ---- what is built

-- one step more
pub steps-next : (f : Step → Step) (steps : List Step) (at : ℕ) (s : Step) (first before after : Derivation) → slice_get steps at ≡ Some s
    → before ≡ record { steps = first.steps ++ map f (take at steps); goal = first.goal } → after ≡ record { steps = before.steps ++ f s ∷ []; goal = before.goal }
    → after ≡ record { steps = first.steps ++ map f (take (at + 1) steps); goal = first.goal }
steps-next f steps at s first before after is sofar grown =
    grown ∙ ap (λ (b : Derivation). record { steps = b.steps ++ f s ∷ []; goal = b.goal }) sofar
    ∙ ap (λ (ss : List Step). record { steps = ss; goal = first.goal })
    (append_assoc first.steps (map f (take at steps)) (f s ∷ [])
    ∙ ap (λ ss. first.steps ++ ss) (sym (ap (map f) (take_next steps at s is) ∙ map_push f (take at steps) s)))

pub built : (old new : Problem) (d : Derivation) (ids : List ℕ) (goal : ℕ) (first last : Derivation) → ids ≡ ids_in d.steps → goal ≡ carried_id old new ids d.goal
    → first ≡ record { steps = []; goal = goal } → last ≡ record { steps = first.steps ++ map (carried_step old new ids) d.steps; goal = first.goal } → last ≡ carried_proof old new d
built old new d ids goal first last ids_are goal_is start end =
    end ∙ ap (λ (b : Derivation). record { steps = b.steps ++ map (carried_step old new ids) d.steps; goal = b.goal }) start
    ∙ ap (λ (n : ℕ). record { steps = map (carried_step old new ids) d.steps; goal = n }) goal_is
    ∙ ap (λ (is : List ℕ). record { steps = map (carried_step old new is) d.steps; goal = carried_id old new is d.goal }) ids_are
