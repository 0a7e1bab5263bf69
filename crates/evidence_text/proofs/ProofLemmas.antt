-- Steps and their goal, line by line.
use Rattle.std.proofs.Common.{◌≡◌, ◌≢◌, ℕ, ◌+◌, cond, List, [], ◌∷◌, ◌++◌, Result, Ok, Err, refl, sym, ◌∙◌, ap, subst, append_assoc}
use Rattle.std.proofs.lemmas.Bool.{eq-eqb, ne_eqb}
use Rattle.std.proofs.lemmas.List.{append-nil}
use Rattle.sat_base.specs.Derivation.{Step, Derivation}
use Rattle.lrat_check.specs.declared.why.Why.{Why}
use Rattle.lrat_check.specs.declared.why.Why.TheVariants.{BadLine, Truncated}
use Rattle.evidence_text.specs.declared.goal.Goal.{Goal}
use Rattle.evidence_text.specs.declared.offence.Offence.{Offence}
use Rattle.evidence_text.specs.declared.offence.Stop.{Stop}
use Rattle.evidence_text.specs.declared.offence.Stop.TheVariants as stop
use Rattle.evidence_text.specs.declared.offence.Halt.{Halt}
use Rattle.evidence_text.specs.declared.offence.Halt.TheVariants as halt
use Rattle.evidence_text.specs.Text.{Line}
use Rattle.evidence_text.specs.Reading.{◌>>=◌, Below, below, offence, at_line, is_letter, letter_of, behind, goal_letter, goal_at, step_at, proof_at, with_step}
use Rattle.evidence_text.specs.Cursors.{Halts, Stops, stop_on, with_steps}

-- the offence of a line's words is that of what is read there
pub halts-on_line : {A B : Type 0} (line : ℕ) (h : Halt) (read : Result A Why) (f : A → Result B Offence) → Halts h read → Stops (stop_on line h) (at_line line read >>= f)
halts-on_line line (halt.Refused why) read f e = ap (λ r. at_line line r >>= f) e
halts-on_line line halt.Memory read f e = tt

pub err-on_line : {A B : Type 0} (line : ℕ) (why : Why) (read : Result A Why) (f : A → Result B Offence) → read ≡ Err why → (at_line line read >>= f) ≡ Err (offence line why)
err-on_line line why read f e = ap (λ r. at_line line r >>= f) e

-- a step stands next
pub proof_at-step : (vars : ℕ) (goal : Goal) (at : ℕ) (l : Line) (ls : List Line) → letter_of l ≡ 100
    → proof_at vars goal at (l ∷ ls) ≡ (at_line at (step_at vars (behind l)) >>= λ s. proof_at vars goal (at + 1) ls >>= λ d. Ok (with_step s d.0, d.1))
unfolding proof_at
proof_at-step vars goal at l ls letter =
    ap (λ t. cond t (at_line at (step_at vars (behind l)) >>= λ s. proof_at vars goal (at + 1) ls >>= λ d. Ok (with_step s d.0, d.1))
    (cond (is_letter (goal_letter goal) l) (at_line at (goal_at goal (behind l)) >>= λ id. Ok (record { steps = []; goal = id }, below (at + 1) ls)) (Err (offence at BadLine))))
    (eq-eqb _ _ letter)

-- another line stands next
pub proof_at-other : (vars : ℕ) (goal : Goal) (at : ℕ) (l : Line) (ls : List Line) → letter_of l ≢ 100
    → proof_at vars goal at (l ∷ ls) ≡ cond (is_letter (goal_letter goal) l) (at_line at (goal_at goal (behind l)) >>= λ id. Ok (record { steps = []; goal = id }, below (at + 1) ls)) (Err (offence at BadLine))
unfolding proof_at
proof_at-other vars goal at l ls other =
    ap (λ t. cond t (at_line at (step_at vars (behind l)) >>= λ s. proof_at vars goal (at + 1) ls >>= λ d. Ok (with_step s d.0, d.1))
    (cond (is_letter (goal_letter goal) l) (at_line at (goal_at goal (behind l)) >>= λ id. Ok (record { steps = []; goal = id }, below (at + 1) ls)) (Err (offence at BadLine))))
    (ne_eqb _ _ other)

-- what a line of a proof gives, by its letter
pub gives-step : (vars : ℕ) (goal : Goal) (at next : ℕ) (ls rest : List Line) (l : Line) (s : Step) → ls ≡ l ∷ rest → letter_of l ≡ 100 → next ≡ at + 1
    → step_at vars (behind l) ≡ Ok s → proof_at vars goal at ls ≡ with_steps (s ∷ []) (proof_at vars goal next rest)
gives-step vars goal at next ls rest l s is letter counted step =
    ap (proof_at vars goal at) is ∙ proof_at-step vars goal at l rest letter
    ∙ ap (λ r. at_line at r >>= λ s. proof_at vars goal (at + 1) rest >>= λ d. Ok (with_step s d.0, d.1)) step
    ∙ ap (λ n. with_steps (s ∷ []) (proof_at vars goal n rest)) (sym counted)

pub gives-goal : (vars : ℕ) (goal : Goal) (at next : ℕ) (ls rest : List Line) (l : Line) (id : ℕ) → ls ≡ l ∷ rest → letter_of l ≢ 100 → letter_of l ≡ goal_letter goal → next ≡ at + 1
    → goal_at goal (behind l) ≡ Ok id → proof_at vars goal at ls ≡ Ok (record { steps = []; goal = id }, below next rest)
gives-goal vars goal at next ls rest l id is other letter counted read =
    ap (proof_at vars goal at) is ∙ proof_at-other vars goal at l rest other
    ∙ ap (λ t. cond t (at_line at (goal_at goal (behind l)) >>= λ id. Ok (record { steps = []; goal = id }, below (at + 1) rest)) (Err (offence at BadLine))) (eq-eqb _ _ letter)
    ∙ ap (λ r. at_line at r >>= λ id. Ok (record { steps = []; goal = id }, below (at + 1) rest)) read
    ∙ ap (λ n. Ok (record { steps = []; goal = id }, below n rest)) (sym counted)

pub stops-step : (vars : ℕ) (goal : Goal) (at : ℕ) (ls rest : List Line) (l : Line) (h : Halt) → ls ≡ l ∷ rest → letter_of l ≡ 100 → Halts h (step_at vars (behind l))
    → Stops (stop_on at h) (proof_at vars goal at ls)
stops-step vars goal at ls rest l h is letter e =
    let P : Result (Derivation × Below) Offence → Type 0 = λ r. Stops (stop_on at h) r in
    subst P (sym (ap (proof_at vars goal at) is ∙ proof_at-step vars goal at l rest letter))
    (halts-on_line at h (step_at vars (behind l)) (λ s. proof_at vars goal (at + 1) rest >>= λ d. Ok (with_step s d.0, d.1)) e)

pub stops-goal : (vars : ℕ) (goal : Goal) (at : ℕ) (ls rest : List Line) (l : Line) (why : Why) → ls ≡ l ∷ rest → letter_of l ≢ 100 → letter_of l ≡ goal_letter goal
    → goal_at goal (behind l) ≡ Err why → proof_at vars goal at ls ≡ Err (offence at why)
stops-goal vars goal at ls rest l why is other letter e =
    ap (proof_at vars goal at) is ∙ proof_at-other vars goal at l rest other
    ∙ ap (λ t. cond t (at_line at (goal_at goal (behind l)) >>= λ id. Ok (record { steps = []; goal = id }, below (at + 1) rest)) (Err (offence at BadLine))) (eq-eqb _ _ letter)
    ∙ err-on_line at why (goal_at goal (behind l)) (λ id. Ok (record { steps = []; goal = id }, below (at + 1) rest)) e

pub stops-other : (vars : ℕ) (goal : Goal) (at : ℕ) (ls rest : List Line) (l : Line) → ls ≡ l ∷ rest → letter_of l ≢ 100 → letter_of l ≢ goal_letter goal
    → proof_at vars goal at ls ≡ Err (offence at BadLine)
stops-other vars goal at ls rest l is other letter =
    ap (proof_at vars goal at) is ∙ proof_at-other vars goal at l rest other
    ∙ ap (λ t. cond t (at_line at (goal_at goal (behind l)) >>= λ id. Ok (record { steps = []; goal = id }, below (at + 1) rest)) (Err (offence at BadLine))) (ne_eqb _ _ letter)

pub stops-unended : (vars : ℕ) (goal : Goal) (at : ℕ) (ls : List Line) → ls ≡ [] → proof_at vars goal at ls ≡ Err (offence at Truncated)
unfolding proof_at
stops-unended vars goal at ls is = ap (proof_at vars goal at) is

-- ---- steps before those that are read behind them

pub with_steps-nil : (read : Result (Derivation × Below) Offence) → with_steps [] read ≡ read
with_steps-nil (Ok d) = refl
with_steps-nil (Err o) = refl

pub with_steps-more : (steps : List Step) (s : Step) (read : Result (Derivation × Below) Offence) → with_steps steps (with_steps (s ∷ []) read) ≡ with_steps (steps ++ s ∷ []) read
with_steps-more steps s (Ok d) = ap (λ (ss : List Step). Ok (record { steps = ss; goal = d.0.goal }, d.1)) (sym (append_assoc steps (s ∷ []) d.0.steps))
with_steps-more steps s (Err o) = refl

pub steps-goes : (steps : List Step) (s : Step) (total read next : Result (Derivation × Below) Offence) → with_steps steps read ≡ total → read ≡ with_steps (s ∷ []) next
    → with_steps (steps ++ s ∷ []) next ≡ total
steps-goes steps s total read next so_far e = sym (with_steps-more steps s next) ∙ ap (with_steps steps) (sym e) ∙ so_far

pub steps-end : (steps : List Step) (goal : ℕ) (left : Below) (total read : Result (Derivation × Below) Offence) → with_steps steps read ≡ total
    → read ≡ Ok (record { steps = []; goal = goal }, left) → total ≡ Ok (record { steps = steps; goal = goal }, left)
steps-end steps goal left total read so_far e =
    sym so_far ∙ ap (with_steps steps) e ∙ ap (λ (ss : List Step). Ok (record { steps = ss; goal = goal }, left)) (append-nil steps)

pub steps-stop : (steps : List Step) (s : Stop) (total read : Result (Derivation × Below) Offence) → with_steps steps read ≡ total → Stops s read → Stops s total
steps-stop steps (stop.Refused o) total read so_far e = sym so_far ∙ ap (with_steps steps) e
steps-stop steps stop.Memory total read so_far e = tt
