-- The clauses of an honest log are true wherever its inputs are.
use Rattle.std.proofs.Common.{ℕ, ◌-◌, ◌<◌, ◌≤◌, Bool, true, List, [], ◌∷◌, ◌++◌, map, length, get_or, sym, subst, inl, inr, arith}
use Rattle.std.specs.Prelude.{ℤ}
use Rattle.sat_base.specs.Members.{In}
use Rattle.sat_base.specs.Database.{StoredClause, known_of}
use Rattle.sat_base.proofs.Members.{In-append_cases, In-map, In-from_map}
use Rattle.sat_base.proofs.DatabaseLemmas.{get_in, named_is, named_range}
use Rattle.sat_base.proofs.FollowsLemmas.{Holds, KnownHold, follows-true}
use Rattle.sat_base.proofs.ForgottenLemmas.{clause-before}
use Rattle.lrat_steps.specs.Log.{LogStep, Input, Learned, Core, Forgot, lits_of, stored, steps_of, db_after, db_of, inputs_of}
use Rattle.lrat_steps.specs.Honest.{IsDerived, IsHonestStep, IsHonest}
use Rattle.lrat_steps.proofs.LogLemmas.{db_of-push, lits_all, honest-fold, input_of_log}

abbrev pub InputsHold : List Bool → List (List ℤ) → Type 0
InputsHold assign inputs = (c : List ℤ) → In c inputs → Holds assign c

abbrev pub StoredHold : List Bool → List StoredClause → Type 0
StoredHold assign db = (k : StoredClause) → In k db → Holds assign k.lits

known_hold : (assign : List Bool) (db : List StoredClause) → StoredHold assign db → KnownHold assign (known_of db)
known_hold assign db hold id c named =
    let none : StoredClause = record { lits = []; live = true } in
    let range = named_range db id c named in
    let low : 0 < id = range.0 in
    let high : id ≤ length db = range.1 in
    subst (Holds assign) (named_is db id none c named) (hold (get_or db (id - 1) none) (get_in db (id - 1) none (omega arith)))

derived_holds : (assign : List Bool) (inputs : List (List ℤ)) (earlier : List StoredClause) (lits : List ℤ) (hints : List ℕ) → InputsHold assign inputs → StoredHold assign earlier
    → IsDerived inputs earlier lits hints → Holds assign lits
derived_holds assign inputs earlier lits hints hold earlier_hold h =
    record {
      is_true = follows-true assign (known_of earlier) lits hints (known_hold assign earlier earlier_hold) h.follows;
      not_zero = λ l i. let (c, m, j, k, same) = h.proper.vars l i in subst (λ v. 0 < v) same ((hold c j).not_zero m k);
    }

more_hold : (assign : List Bool) (db : List StoredClause) (s : LogStep) → StoredHold assign db → Holds assign (lits_of s) → StoredHold assign (db ++ stored s ∷ [])
more_hold assign db s hold here k i =
    elim (In-append_cases k db (stored s ∷ []) i) [
      | inl old ↦ hold k old
      | inr (inl same) ↦ subst (λ (m : StoredClause). Holds assign m.lits) (sym same) here
      | inr (inr none) ↦ absurd none
    ]

step_holds : (assign : List Bool) (log before : List LogStep) (s : LogStep) → InputsHold assign (inputs_of log) → In s log → StoredHold assign (db_of before) → IsHonestStep (inputs_of log) before s
    → StoredHold assign (db_after (db_of before) s)
step_holds assign log before (Input lits) hold i earlier h = more_hold assign (db_of before) (Input lits) earlier (hold lits (input_of_log log lits i))
step_holds assign log before (Learned lits hints) hold i earlier h =
    more_hold assign (db_of before) (Learned lits hints) earlier (derived_holds assign (inputs_of log) (db_of before) lits hints hold earlier h.0)
step_holds assign log before (Core lits hints) hold i earlier h =
    more_hold assign (db_of before) (Core lits hints) earlier (derived_holds assign (inputs_of log) (db_of before) lits hints hold earlier h)
step_holds assign log before (Forgot id) hold i earlier h = λ k j. let (d, m, same) = clause-before (db_of before) id k j in subst (Holds assign) same (earlier d m)

-- an assignment under which the inputs hold makes each clause true, live or not
pub all_hold : (assign : List Bool) (log : List LogStep) → IsHonest log → InputsHold assign (inputs_of log) → StoredHold assign (db_of log)
all_hold assign log honest hold =
    honest-fold (inputs_of log) (λ e. StoredHold assign (db_of e)) [] log (λ k none. absurd none)
    (λ before s i earlier h. subst (StoredHold assign) (sym (db_of-push before s)) (step_holds assign log before s hold i earlier h))
    honest

-- an assignment under which the inputs hold makes the clause of each step true, also where it was forgotten
pub honest-sound : (assign : List Bool) (log : List LogStep) → IsHonest log → ((c : List ℤ) → In c (inputs_of log) → Holds assign c) → (s : LogStep) → In s (steps_of log) → Holds assign (lits_of s)
honest-sound assign log honest hold s i =
    let there : In (lits_of s) (map (λ (c : StoredClause). c.lits) (db_of log)) = subst (In (lits_of s)) (sym (lits_all log)) (In-map lits_of s (steps_of log) i) in
    let (k, j, same) = In-from_map (λ (c : StoredClause). c.lits) (lits_of s) (db_of log) there in
    subst (Holds assign) (sym same) (all_hold assign log honest hold k j)
