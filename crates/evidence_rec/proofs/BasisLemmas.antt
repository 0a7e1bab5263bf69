-- What a checker of steps was given stays through its steps.
use Rattle.std.proofs.Common.{◌≡◌, ℕ, ◌+◌, ◌≤◌, List, [], ◌∷◌, ◌++◌, length, take, Some, ◌∙◌, ap, ap₂, arith}
use Rattle.std.specs.Prelude.{ℤ, slice_get}
use Rattle.std.proofs.lemmas.List.{take-take, take-append-le, take_all, length-take-le, length-append, length-map, get_or-map}
use Rattle.std.proofs.lemmas.Option.{slice_get_within, get_or_from_slice_get}
use Rattle.gm_base.specs.declared.clause.Clause.{Clause}
use Rattle.gm_base.specs.Problem.{Problem}
use Rattle.sat_base.specs.Derivation.{numbered}
use Rattle.gm_base.specs.Evidence.{with_selector, selector_form}
use Rattle.lrat_check.specs.State.{State}
use Rattle.lrat_check.proofs.KnownLemmas.{length-numbered, numbered_next}
use Rattle.evidence_rec.specs.Basis.{Basis, basis_of, given_to, Begins}

abbrev basis : ℕ → List (ℕ × List ℤ) → Basis
basis vars known = record { vars = vars; known = known }

-- the steps are forgotten
pub begins-anew : (b : Basis) (old new : State) → Begins b old → new.known ≡ take old.inputs old.known → new.vars ≡ old.vars → new.inputs ≡ old.inputs → Begins b new
begins-anew b old new begins known vars inputs =
    let within = begins.within in
    let kept : take new.inputs new.known ≡ take old.inputs old.known =
    ap₂ (λ (n : ℕ) (ks : List (ℕ × List ℤ)). take n ks) inputs known ∙ take-take old.inputs old.inputs old.known (omega arith) in
    let count : length new.known ≡ old.inputs = ap length known ∙ length-take-le old.inputs old.known within in
    record { given = ap₂ basis vars kept ∙ begins.given; within = omega (arith, inputs, count) }

pub known-anew : (b : Basis) (old new : State) → Begins b old → new.known ≡ take old.inputs old.known → new.known ≡ b.known
known-anew b old new begins known = known ∙ ap (λ (c : Basis). c.known) begins.given

-- clauses of steps stand behind those that were given
pub begins-behind : (old new : State) (more : List (ℕ × List ℤ)) → old.inputs ≤ length old.known → new.known ≡ old.known ++ more → new.vars ≡ old.vars → new.inputs ≡ old.inputs
    → Begins (given_to old) new
begins-behind old new more within known vars inputs =
    let kept : take new.inputs new.known ≡ take old.inputs old.known =
    ap₂ (λ (n : ℕ) (ks : List (ℕ × List ℤ)). take n ks) inputs known ∙ take-append-le old.inputs old.known more within in
    let count : length new.known ≡ length old.known + length more = ap length known ∙ length-append old.known more in
    record { given = ap₂ basis vars kept; within = omega (arith, inputs, count, within) }

pub begins-through : (b : Basis) (old new : State) → Begins b old → Begins (given_to old) new → Begins b new
begins-through b old new first second = record { given = second.given ∙ first.given; within = second.within }

-- one clause more with its selector
pub selectors-next : (p : Problem) (at : ℕ) (c : Clause) → slice_get p.clauses at ≡ Some c
    → numbered 1 (take (at + 1) (selector_form p)) ≡ numbered 1 (take at (selector_form p)) ++ (at + 1, with_selector p c) ∷ []
selectors-next p at c is =
    let lt = slice_get_within p.clauses at c is in
    numbered_next at 1 (selector_form p) (with_selector p c) (omega (arith, lt, length-map p.clauses (with_selector p)))
    ∙ ap (λ (lits : List ℤ). numbered 1 (take at (selector_form p)) ++ (at + 1, lits) ∷ [])
    (get_or-map (with_selector p) p.clauses at c (with_selector p c) lt ∙ ap (with_selector p) (get_or_from_slice_get p.clauses at c c is))

pub count-selectors : (p : Problem) (at : ℕ) (known : List (ℕ × List ℤ)) → at ≤ length p.clauses → known ≡ numbered 1 (take at (selector_form p)) → length known ≡ at
count-selectors p at known le is =
    ap length is ∙ length-numbered at 1 (selector_form p) (omega (arith, le, length-map p.clauses (with_selector p)))

pub begins-new : (p : Problem) (s : State) (at : ℕ) → at ≡ length p.clauses → s.vars ≡ p.vars + p.groups → s.inputs ≡ at → s.known ≡ numbered 1 (take at (selector_form p))
    → Begins (basis_of p) s
begins-new p s at end vars inputs known =
    let count : length s.known ≡ at = count-selectors p at s.known (omega arith) known in
    let whole : take at (selector_form p) ≡ selector_form p = take_all at (selector_form p) (omega (arith, end, length-map p.clauses (with_selector p))) in
    let all : take s.inputs s.known ≡ s.known = take_all s.inputs s.known (omega (arith, count, inputs)) in
    record { given = ap₂ basis vars (all ∙ known ∙ ap (numbered 1) whole); within = omega (arith, count, inputs) }
