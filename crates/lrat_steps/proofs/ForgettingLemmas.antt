-- How many learnt clauses are live, behind one more step and behind a mark.
use Rattle.std.proofs.Common.{◌≡◌, ℕ, zero, suc, ◌+◌, ◌-◌, ◌<◌, true, false, List, [], ◌∷◌, ◌++◌, length, get_or, set, refl, ◌∙◌, ap, ap₂, arith}
use Rattle.std.specs.Prelude.{ℤ}
use Rattle.sat_base.specs.Database.{StoredClause}
use Rattle.sat_base.specs.Forgotten.{not_live}
use Rattle.lrat_steps.specs.declared.step.StepKind.{StepKind}
use Rattle.lrat_steps.specs.declared.step.StepKind.TheVariants as step_kind
use Rattle.lrat_steps.specs.Log.{LogStep, Input, Learned, Core, Forgot, kind_of, steps_of, stored, db_of}
use Rattle.lrat_steps.specs.Parts.{step_with, learned_in}
use Rattle.lrat_steps.specs.Forgetting.{IsLiveLearned, one_if, live_among, live_count}
use Rattle.lrat_steps.proofs.LogLemmas.{db_len, db_of-push, steps-append, steps-push_forgot}

live_among-push : (steps : List LogStep) (db : List StoredClause) (s : LogStep) (c : StoredClause) → length db ≡ length steps
    → live_among (steps ++ s ∷ []) (db ++ c ∷ []) ≡ live_among steps db + live_among (s ∷ []) (c ∷ [])
live_among-push [] [] s c len = omega arith
live_among-push [] (d ∷ db) s c len = absurd (omega arith)
live_among-push (x ∷ steps) [] s c len = absurd (omega arith)
live_among-push (Input k ∷ steps) (d ∷ db) s c len = live_among-push steps db s c (omega arith)
live_among-push (Core k h ∷ steps) (d ∷ db) s c len = live_among-push steps db s c (omega arith)
live_among-push (Forgot id ∷ steps) (d ∷ db) s c len = live_among-push steps db s c (omega arith)
live_among-push (Learned k h ∷ steps) (d ∷ db) s c len = let rest = live_among-push steps db s c (omega arith) in omega arith

live_among-set : (steps : List LogStep) (db : List StoredClause) (at : ℕ) (none : LogStep) (no_clause : StoredClause) → length db ≡ length steps → at < length steps
    → kind_of (get_or steps at none) ≡ step_kind.Learned → (get_or db at no_clause).live ≡ true → live_among steps (set db at (not_live (get_or db at no_clause))) + 1 ≡ live_among steps db
live_among-set [] db at none no_clause len lt kind live = absurd (omega arith)
live_among-set (s ∷ steps) [] at none no_clause len lt kind live = absurd (omega arith)
live_among-set (Input k ∷ steps) (d ∷ db) zero none no_clause len lt kind live = cc
live_among-set (Core k h ∷ steps) (d ∷ db) zero none no_clause len lt kind live = cc
live_among-set (Forgot id ∷ steps) (d ∷ db) zero none no_clause len lt kind live = cc
live_among-set (Learned k h ∷ steps) (d ∷ db) zero none no_clause len lt kind live =
    let one : one_if d.live ≡ 1 = ap one_if live in omega arith
live_among-set (Input k ∷ steps) (d ∷ db) (suc at) none no_clause len lt kind live = live_among-set steps db at none no_clause (omega arith) (omega arith) kind live
live_among-set (Core k h ∷ steps) (d ∷ db) (suc at) none no_clause len lt kind live = live_among-set steps db at none no_clause (omega arith) (omega arith) kind live
live_among-set (Forgot id ∷ steps) (d ∷ db) (suc at) none no_clause len lt kind live = live_among-set steps db at none no_clause (omega arith) (omega arith) kind live
live_among-set (Learned k h ∷ steps) (d ∷ db) (suc at) none no_clause len lt kind live =
    let rest = live_among-set steps db at none no_clause (omega arith) (omega arith) kind live in omega arith

live_step : (log : List LogStep) (s : LogStep) → steps_of (s ∷ []) ≡ s ∷ [] → db_of (log ++ s ∷ []) ≡ db_of log ++ stored s ∷ [] → live_count (log ++ s ∷ []) ≡ live_count log + live_among (s ∷ []) (stored s ∷ [])
live_step log s alone db =
    ap₂ live_among (steps-append log (s ∷ []) ∙ ap (λ (more : List LogStep). steps_of log ++ more) alone) db
    ∙ live_among-push (steps_of log) (db_of log) s (stored s) (db_len log)

-- a learnt clause is live when it comes
pub live_count-push : (log : List LogStep) (kind : StepKind) (lits : List ℤ) (hints : List ℕ) → live_count (log ++ step_with kind lits hints ∷ []) ≡ live_count log + learned_in kind
live_count-push log step_kind.Input lits hints = live_step log (Input lits) refl (db_of-push log (Input lits))
live_count-push log step_kind.Learned lits hints = live_step log (Learned lits hints) refl (db_of-push log (Learned lits hints))
live_count-push log step_kind.Core lits hints = live_step log (Core lits hints) refl (db_of-push log (Core lits hints))

pub live_count-forgot : (log : List LogStep) (id : ℕ) → IsLiveLearned log id → live_count (log ++ Forgot id ∷ []) + 1 ≡ live_count log
live_count-forgot log id is =
    let low = is.from_one in
    let high = is.within in
    ap (λ n. n + 1) (ap₂ live_among (steps-push_forgot log id) (db_of-push log (Forgot id)))
    ∙ live_among-set (steps_of log) (db_of log) (id - 1) (Input []) (record { lits = []; live = false }) (db_len log) (omega arith) is.learned is.live
