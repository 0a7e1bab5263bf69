-- Where as many learnt clauses are live as were learnt, each is live.
use Rattle.std.proofs.Common.{◌≡◌, ℕ, zero, suc, ◌+◌, ◌-◌, ◌<◌, ◌≤◌, Bool, true, false, List, [], ◌∷◌, length, get_or, refl, sym, ◌∙◌, arith}
use Rattle.sat_base.specs.Database.{StoredClause}
use Rattle.lrat_steps.specs.declared.step.StepKind.TheVariants as step_kind
use Rattle.lrat_steps.specs.Log.{LogStep, Input, Learned, Core, Forgot, kind_of, steps_of, step_at, db_of, learned_count}
use Rattle.lrat_steps.specs.Forgetting.{IsLiveLearned, live_count, live_among, one_if}
use Rattle.lrat_steps.proofs.LogLemmas.{db_len}
use Rattle.lrat_steps.proofs.MarkLemmas.{learned_count-steps}

one_if-le : (b : Bool) → one_if b ≤ 1
one_if-le true = omega arith
one_if-le false = omega arith

live-le : (steps : List LogStep) (db : List StoredClause) → live_among steps db ≤ learned_count steps
live-le [] db = omega arith
live-le (s ∷ steps) [] = omega arith
live-le (Input lits ∷ steps) (c ∷ db) = live-le steps db
live-le (Learned lits hints ∷ steps) (c ∷ db) = let h = live-le steps db in let o = one_if-le c.live in omega (arith, h, o)
live-le (Core lits hints ∷ steps) (c ∷ db) = live-le steps db
live-le (Forgot id ∷ steps) (c ∷ db) = live-le steps db

live_first : (steps : List LogStep) (db : List StoredClause) (b : Bool) → live_among steps db + one_if b ≡ learned_count steps + 1 → b ≡ true
live_first steps db true e = refl
live_first steps db false e = let h = live-le steps db in absurd (omega (arith, h, e))

live_rest : (steps : List LogStep) (db : List StoredClause) (b : Bool) → live_among steps db + one_if b ≡ learned_count steps + 1 → live_among steps db ≡ learned_count steps
live_rest steps db b e = let h = live-le steps db in let o = one_if-le b in omega (arith, h, o, e)

live_here : (steps : List LogStep) (db : List StoredClause) (i : ℕ) (d : StoredClause) → live_among steps db ≡ learned_count steps → i < length steps → length db ≡ length steps
    → kind_of (get_or steps i (Input [])) ≡ step_kind.Learned → (get_or db i d).live ≡ true
live_here [] db i d e lt len k = absurd (omega arith)
live_here (s ∷ steps) [] i d e lt len k = absurd (omega (arith, len))
live_here (Input lits ∷ steps) (c ∷ db) zero d e lt len k = cc
live_here (Core lits hints ∷ steps) (c ∷ db) zero d e lt len k = cc
live_here (Forgot id ∷ steps) (c ∷ db) zero d e lt len k = cc
live_here (Learned lits hints ∷ steps) (c ∷ db) zero d e lt len k = live_first steps db c.live e
live_here (Input lits ∷ steps) (c ∷ db) (suc i) d e lt len k = live_here steps db i d e (omega arith) (omega (arith, len)) k
live_here (Core lits hints ∷ steps) (c ∷ db) (suc i) d e lt len k = live_here steps db i d e (omega arith) (omega (arith, len)) k
live_here (Forgot id ∷ steps) (c ∷ db) (suc i) d e lt len k = live_here steps db i d e (omega arith) (omega (arith, len)) k
live_here (Learned lits hints ∷ steps) (c ∷ db) (suc i) d e lt len k = live_here steps db i d (live_rest steps db c.live e) (omega arith) (omega (arith, len)) k

pub all_live : (log : List LogStep) (id : ℕ) → 0 < id → id ≤ length (steps_of log) → live_count log ≡ learned_count log → kind_of (step_at log id) ≡ step_kind.Learned → IsLiveLearned log id
all_live log id low high e k = record {
  from_one = low;
  within = high;
  learned = k;
  live = live_here (steps_of log) (db_of log) (id - 1) (record { lits = []; live = false }) (e ∙ sym (learned_count-steps log)) (omega arith) (db_len log) k;
}
