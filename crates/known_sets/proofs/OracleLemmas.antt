-- Lemmas on answers from memory.
use Rattle.std.proofs.Common.{◌≡◌, ℕ, List, ◌+◌, ◌≤◌, sym, subst, arith}
use Rattle.std.specs.Prelude.{Result, Ok, Err, OnOk}
use Rattle.lrat_steps.specs.Log.{LogStep}
use Rattle.lrat_steps.specs.Paid.{IsPaid}
use Rattle.lrat_steps.proofs.PaidLemmas.{IsPaid-none}
use Rattle.evidence_rec.specs.declared.oracle.Asked.{Asked}
use Rattle.evidence_rec.specs.declared.oracle.Asked.TheVariants as asked
use Rattle.evidence_rec.specs.Asking.{OracleState, TellsAsked, IsSpent, asked_once}
use Rattle.known_sets.specs.declared.oracle.Last.{Last}
use Rattle.known_sets.specs.Inside.{state_of}

-- where problem and log stay, nothing is spent
pub IsSpent-known : (old new : OracleState) (left : ℕ) → new.problem ≡ old.problem → new.log ≡ old.log → IsSpent old new left left
IsSpent-known old new left problem log =
    record { problem = problem; paid = subst (λ (after : List LogStep). IsPaid old.log after left left) (sym log) (IsPaid-none old.log left) }

-- one question more is one at most
pub asked_once-within : (new old : ℕ) → new ≡ asked_once old → new ≤ old + 1
asked_once-within new old is = omega arith

-- what holds anyway holds after `Ok`
pub OnOk-always : {X E : Type 0} {A : Type 0} (r : Result X E) → A → OnOk r A
OnOk-always (Ok x) a = a
OnOk-always (Err e) a = tt

-- what is left for a proof, and how many questions there were, is nothing to an answer
pub tells-within : (within : OracleState) (last : Last) (asks : ℕ) (set : List ℕ) (left : ℕ) (answer : Asked) → TellsAsked within set left answer → TellsAsked (state_of within last asks) set left answer
tells-within within last asks set left (asked.Sat assign) told = told
tells-within within last asks set left (asked.Unsat core) told = told
tells-within within last asks set left asked.Dry told = told
