use Rattle.std.proofs.Common.{◌≡◌, ◌<◌, ℕ, true, take}
use Rattle.std.specs.Prelude.{All}
use Rattle.gm_base.proofs.IndexLemmas.{IsTrueAt}
use Rattle.evidence_rec.specs.Columns.{is_set, assignment}
use Rattle.evidence_rec.proofs.columns.group_column.Given as goal

-- each assignment whose bit is set makes the clauses so far true
abbrev pub invariant-loop-placed : goal.invariant-loop-placed
invariant-loop-placed l = (k : ℕ) → k < 64 → is_set l.column k ≡ true → All (IsTrueAt l.problem.clauses (assignment l.columns k)) (take l.placed-index l.placed-items)
