-- A check goes down the lines of a record: what is left to say from a place on.
use Rattle.std.proofs.Common.{◌≡◌, ◌≢◌, ℕ, ◌+◌, ◌<◌, Bool, List, [], ◌∷◌, ◌++◌, map, length, take, drop, get_or, Option, Some, None, refl, sym, ◌∙◌, ap, ap₂, subst, arith, append_assoc}
use Rattle.std.specs.Prelude.{ℤ, slice_get}
use Rattle.std.specs.Option.{option_or}
use Rattle.std.proofs.lemmas.List.{append-nil, drop_more, take_more, map-append}
use Rattle.std.proofs.lemmas.Option.{slice_get_within, get_or_from_slice_get}
use Rattle.gm_base.specs.Sets.{without}
use Rattle.gm_base.specs.Problem.{Problem}
use Rattle.sat_base.specs.Derivation.{Step}
use Rattle.lrat_check.specs.declared.why.Why.{Why}
use Rattle.lrat_check.specs.Refusal.{step_refusal}
use Rattle.lrat_check.specs.State.{State}
use Rattle.evidence_rec.specs.declared.record.Record.{Record}
use Rattle.evidence_rec.specs.declared.record.Refutation.{Refutation}
use Rattle.evidence_rec.proofs.VerdictLemmas.{or-stops, or-goes}
use Rattle.evidence_rec.specs.Refusals.{at_line, steps_refusal, witness_refusal, witnesses_refusal, group_refusal, steps_in, refutations_refusal}

-- The witness at a place of a conflict, where those before it are not refused.
module _ (p : Problem) (set groups : List ℕ) (ws : List (List Bool)) (line at part : ℕ) (w : List Bool) (others : List ℕ) (says : Option (ℕ × Why))
    (is_set : groups ≡ set) (lt : at < length groups) (is : slice_get ws at ≡ Some w) (left : others ≡ without set (get_or groups at 0)) (here : part ≡ line + at)
    (said : says ≡ at_line part (witness_refusal p others w))
    (so_far : witnesses_refusal p set line set ws ≡ witnesses_refusal p set (line + at) (drop at set) (drop at ws)) where
  parted : witnesses_refusal p set line set ws ≡ option_or says (witnesses_refusal p set (line + (at + 1)) (drop (at + 1) set) (drop (at + 1) ws))
  parted =
      let next : line + at + 1 ≡ line + (at + 1) = omega arith in
      let within : at < length set = subst (λ (gs : List ℕ). at < length gs) is_set lt in
      so_far
      ∙ ap₂ (λ (hs : List ℕ) (vs : List (List Bool)). witnesses_refusal p set (line + at) hs vs) (drop_more set at 0 within) (drop_more ws at w (slice_get_within ws at w is))
      ∙ ap (λ (v : List Bool). option_or (at_line (line + at) (witness_refusal p (without set (get_or set at 0)) v)) (witnesses_refusal p set (line + at + 1) (drop (at + 1) set) (drop (at + 1) ws)))
      (get_or_from_slice_get ws at w w is)
      ∙ ap (λ (gs : List ℕ). option_or (at_line (line + at) (witness_refusal p (without set (get_or gs at 0)) w)) (witnesses_refusal p set (line + at + 1) (drop (at + 1) set) (drop (at + 1) ws)))
      (sym is_set)
      ∙ ap₂ (λ (o : List ℕ) (n : ℕ). option_or (at_line n (witness_refusal p o w)) (witnesses_refusal p set (line + at + 1) (drop (at + 1) set) (drop (at + 1) ws))) (sym left) (sym here)
      ∙ ap₂ (λ (v : Option (ℕ × Why)) (n : ℕ). option_or v (witnesses_refusal p set n (drop (at + 1) set) (drop (at + 1) ws))) (sym said) next

  pub witnesses-stop : says ≢ None → says ≡ witnesses_refusal p set line set ws
  witnesses-stop some = sym (parted ∙ or-stops says (witnesses_refusal p set (line + (at + 1)) (drop (at + 1) set) (drop (at + 1) ws)) some)

  pub witnesses-go : says ≡ None → witnesses_refusal p set line set ws ≡ witnesses_refusal p set (line + (at + 1)) (drop (at + 1) set) (drop (at + 1) ws)
  witnesses-go none = parted ∙ or-goes says (witnesses_refusal p set (line + (at + 1)) (drop (at + 1) set) (drop (at + 1) ws)) none

-- The refutation at a place of a correction, where those before it are not refused.
module _ (p : Problem) (earlier : List Record) (set groups : List ℕ) (rs : List Refutation) (first line at : ℕ) (r : Refutation) (says : Option (ℕ × Why))
    (is_set : groups ≡ set) (lt : at < length groups) (is : slice_get rs at ≡ Some r)
    (said : says ≡ group_refusal p earlier set (get_or groups at 0) line r)
    (so_far : refutations_refusal p earlier set first set rs ≡ refutations_refusal p earlier set line (drop at set) (drop at rs)) where
  shared : refutations_refusal p earlier set first set rs ≡ option_or says (refutations_refusal p earlier set (line + steps_in r + 1) (drop (at + 1) set) (drop (at + 1) rs))
  shared =
      let within : at < length set = subst (λ (gs : List ℕ). at < length gs) is_set lt in
      so_far
      ∙ ap₂ (λ (hs : List ℕ) (qs : List Refutation). refutations_refusal p earlier set line hs qs) (drop_more set at 0 within) (drop_more rs at r (slice_get_within rs at r is))
      ∙ ap (λ (q : Refutation). option_or (group_refusal p earlier set (get_or set at 0) line q) (refutations_refusal p earlier set (line + steps_in q + 1) (drop (at + 1) set) (drop (at + 1) rs)))
      (get_or_from_slice_get rs at r r is)
      ∙ ap (λ (gs : List ℕ). option_or (group_refusal p earlier set (get_or gs at 0) line r) (refutations_refusal p earlier set (line + steps_in r + 1) (drop (at + 1) set) (drop (at + 1) rs))) (sym is_set)
      ∙ ap (λ (v : Option (ℕ × Why)). option_or v (refutations_refusal p earlier set (line + steps_in r + 1) (drop (at + 1) set) (drop (at + 1) rs))) (sym said)

  pub refutations-stop : says ≢ None → says ≡ refutations_refusal p earlier set first set rs
  refutations-stop some = sym (shared ∙ or-stops says (refutations_refusal p earlier set (line + steps_in r + 1) (drop (at + 1) set) (drop (at + 1) rs)) some)

  pub refutations-go : (next : ℕ) → next ≡ line + steps_in r + 1 → says ≡ None → refutations_refusal p earlier set first set rs ≡ refutations_refusal p earlier set next (drop (at + 1) set) (drop (at + 1) rs)
  refutations-go next up none =
      shared
      ∙ or-goes says (refutations_refusal p earlier set (line + steps_in r + 1) (drop (at + 1) set) (drop (at + 1) rs)) none
      ∙ ap (λ (n : ℕ). refutations_refusal p earlier set n (drop (at + 1) set) (drop (at + 1) rs)) (sym up)

-- the first steps are taken: their clauses stand behind those of before, and the others are left to say
pub record AreTaken (old now : State) (line : ℕ) (steps : List Step) (at : ℕ) : Type 0 where
  pub known : now.known ≡ old.known ++ map (λ (s : Step). (s.id, s.lits)) (take at steps)
  pub vars : now.vars ≡ old.vars
  pub inputs : now.inputs ≡ old.inputs
  pub answer : steps_refusal old.vars old.known line steps ≡ steps_refusal old.vars now.known (line + at) (drop at steps)

pub taken-start : (old now : State) (line : ℕ) (steps : List Step) → now ≡ old → AreTaken old now line steps 0
taken-start old now line steps same =
    let none : line ≡ line + 0 = omega arith in
    subst (λ (s : State). AreTaken old s line steps 0) (sym same)
    (record {
      known = sym (append-nil old.known);
      vars = refl;
      inputs = refl;
      answer = ap (λ (n : ℕ). steps_refusal old.vars old.known n steps) none;
    })

-- what the step at a place says, and those behind it
steps-at : (old now : State) (line : ℕ) (steps : List Step) (at : ℕ) (s : Step) → AreTaken old now line steps at → slice_get steps at ≡ Some s
    → steps_refusal old.vars old.known line steps
    ≡ option_or (at_line (line + at) (step_refusal now.vars now.known s.id s.lits s.hints)) (steps_refusal old.vars (now.known ++ (s.id, s.lits) ∷ []) (line + at + 1) (drop (at + 1) steps))
steps-at old now line steps at s taken is =
    taken.answer
    ∙ ap (λ (ss : List Step). steps_refusal old.vars now.known (line + at) ss) (drop_more steps at s (slice_get_within steps at s is))
    ∙ ap (λ (t : Step). steps_refusal old.vars now.known (line + at) (t ∷ drop (at + 1) steps)) (get_or_from_slice_get steps at s s is)
    ∙ ap (λ (n : ℕ). option_or (at_line (line + at) (step_refusal n now.known s.id s.lits s.hints)) (steps_refusal old.vars (now.known ++ (s.id, s.lits) ∷ []) (line + at + 1) (drop (at + 1) steps)))
    (sym taken.vars)

abbrev named : Step → ℕ × List ℤ
named s = (s.id, s.lits)

pub taken-next : (old now new : State) (line : ℕ) (steps : List Step) (at : ℕ) (s : Step) → AreTaken old now line steps at → slice_get steps at ≡ Some s
    → step_refusal now.vars now.known s.id s.lits s.hints ≡ None → new.known ≡ now.known ++ (s.id, s.lits) ∷ [] → new.vars ≡ now.vars → new.inputs ≡ now.inputs
    → AreTaken old new line steps (at + 1)
taken-next old now new line steps at s taken is none known vars inputs =
    let lt = slice_get_within steps at s is in
    let next : line + at + 1 ≡ line + (at + 1) = omega arith in
    record {
      known = known
          ∙ ap (λ (ks : List (ℕ × List ℤ)). ks ++ (s.id, s.lits) ∷ []) taken.known
          ∙ append_assoc old.known (map named (take at steps)) ((s.id, s.lits) ∷ [])
          ∙ ap (λ (ks : List (ℕ × List ℤ)). old.known ++ ks)
          (sym (map-append named (take at steps) (s ∷ []))
          ∙ ap (λ (t : Step). map named (take at steps ++ t ∷ [])) (sym (get_or_from_slice_get steps at s s is))
          ∙ ap (λ (ss : List Step). map named ss) (sym (take_more steps at s lt)));
      vars = vars ∙ taken.vars;
      inputs = inputs ∙ taken.inputs;
      answer = steps-at old now line steps at s taken is
          ∙ ap (λ (why : Option Why). option_or (at_line (line + at) why) (steps_refusal old.vars (now.known ++ (s.id, s.lits) ∷ []) (line + at + 1) (drop (at + 1) steps))) none
          ∙ ap₂ (λ (ks : List (ℕ × List ℤ)) (n : ℕ). steps_refusal old.vars ks n (drop (at + 1) steps)) (sym known) next;
    }

pub taken-refused : (old now : State) (line : ℕ) (steps : List Step) (at : ℕ) (s : Step) (why : Why) → AreTaken old now line steps at → slice_get steps at ≡ Some s
    → step_refusal now.vars now.known s.id s.lits s.hints ≡ Some why → steps_refusal old.vars old.known line steps ≡ Some (line + at, why)
taken-refused old now line steps at s why taken is some =
    steps-at old now line steps at s taken is
    ∙ ap (λ (w : Option Why). option_or (at_line (line + at) w) (steps_refusal old.vars (now.known ++ (s.id, s.lits) ∷ []) (line + at + 1) (drop (at + 1) steps))) some
