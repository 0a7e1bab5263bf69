use Rattle.std.proofs.Common.{◌≡◌, ◌<◌, ◌≤◌, ◌-◌, ℕ, List, [], map, length, Some, sym, ◌∙◌, ap, subst, arith}
use Rattle.std.specs.Prelude.{ℤ}
use Rattle.std.proofs.lemmas.Result.{IfOk-weaker}
use Rattle.std.proofs.lemmas.List.{length-map, get_or-map}
use Rattle.sat_base.specs.Derivation.{Derivation, clause_of}
use Rattle.sat_base.specs.Database.{StoredClause, known_of}
use Rattle.sat_base.proofs.DatabaseLemmas.{named_at}
use Rattle.lrat_steps.specs.Log.{LogStep, Input, stored, steps_of, inputs_of, db_of}
use Rattle.lrat_steps.specs.Honest.{IsHonest}
use Rattle.lrat_steps.specs.Trimmed.{IsTrimmed}
use Rattle.lrat_steps.specs.Cone.{IsBackward, IsCone, lits_at, trimmed}
use Rattle.lrat_steps.proofs.MarkLemmas.{inputs_of-steps}
use Rattle.lrat_steps.proofs.FollowLemmas.{AreDerived, known_all, derived_all, backward_of}
use Rattle.lrat_steps.proofs.TrimLemmas.{trimmed_is, trimmed_same}
use Rattle.lrat_steps.proofs.log.Log.trim.Goals as goal

-- each derived step follows from those before it
derived : (log : List LogStep) → IsHonest log → AreDerived (inputs_of (steps_of log)) (steps_of log)
derived log honest = subst (λ (inputs : List (List ℤ)). AreDerived inputs (steps_of log)) (sym (inputs_of-steps log)) (derived_all log honest)

-- so each hint names an earlier one
backward : (log : List LogStep) → IsHonest log → IsBackward (steps_of log)
backward log honest = backward_of (inputs_of (steps_of log)) (steps_of log) (derived log honest)

pub cone_of-requires-clause-backward : goal.cone_of-requires-clause-backward
cone_of-requires-clause-backward c = backward c.args.self.now c.requires.honest

pub derivation_of-requires-clause-backward : goal.derivation_of-requires-clause-backward
derivation_of-requires-clause-backward c = backward c.args.self.now c.requires.honest

pub origin-goal-requires-clause-backward : goal.origin-goal-requires-clause-backward
origin-goal-requires-clause-backward c = backward c.args.self.now c.requires.honest

-- the clause of a step, whose id another says again
same_clause : (steps : List LogStep) (id other : ℕ) (lits : List ℤ) → 0 < id → id ≤ length steps → 0 < other → other ≤ length steps → lits_at steps other ≡ lits_at steps id
    → clause_of (known_of (map stored steps)) id ≡ Some lits → clause_of (known_of (map stored steps)) other ≡ Some lits
same_clause steps id other lits from_one within other_from_one other_within same named =
    clause_at other other_from_one other_within ∙ ap Some same ∙ sym (clause_at id from_one within) ∙ named
  where
    clause_at : (k : ℕ) → 0 < k → k ≤ length steps → clause_of (known_of (map stored steps)) k ≡ Some (lits_at steps k)
    clause_at k first last =
        named_at (map stored steps) k (stored (Input [])) first (omega (arith, last, length-map steps stored))
        ∙ ap (λ (s : StoredClause). Some s.lits) (get_or-map stored steps (k - 1) (Input []) (stored (Input [])) (omega (arith, first, last)))

-- the steps of a goal's cone, under new numbers, derive its clause
pub returns : goal.returns
returns c =
    let log = c.args.self.now in
    let ids = c.as_slice.result.now in
    let origin = c.origin-goal.result in
    let cone : IsCone (steps_of log) origin ids = subst (IsCone (steps_of log) origin) (sym c.as_slice.ensures.value) c.in_ok-cone.ensures in
    IfOk-weaker c.derivation_of.result (λ (d : Derivation). d ≡ trimmed (steps_of log) origin ids)
    (λ (d : Derivation). (lits : List ℤ) → clause_of (known_of (db_of log)) c.args.goal ≡ Some lits → IsTrimmed log lits d)
    (λ d is lits named.
    subst (IsTrimmed log lits) (sym is)
    (trimmed_same (steps_of log) log lits (trimmed (steps_of log) origin ids) (inputs_of-steps log)
    (trimmed_is (steps_of log) origin ids lits (derived log c.requires.honest) c.origin-goal.ensures.from_one c.origin-goal.ensures.within cone
    (same_clause (steps_of log) c.args.goal origin lits c.requires.from_one c.requires.within c.origin-goal.ensures.from_one c.origin-goal.ensures.within
    c.origin-goal.ensures.same (ap (λ known. clause_of known c.args.goal) (sym (known_all log)) ∙ named)))))
    c.derivation_of.ensures
