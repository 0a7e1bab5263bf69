use Rattle.std.proofs.Common.{◌≡◌, ◌≢◌, ◌+◌, ◌<◌, ℕ, true, take}
use Rattle.std.specs.Prelude.{All, slice_index_or}
use Rattle.gm_base.specs.Index.{group_true}
use Rattle.evidence_rec.specs.Columns.{is_set, assignment}
use Rattle.evidence_rec.proofs.columns.others_column.Given as goal

-- each assignment whose bit is set satisfies the background and the groups so far but its own
abbrev pub invariant-loop-at : goal.invariant-loop-at
invariant-loop-at l =
    (k : ℕ) → k < 64 → is_set l.column k ≡ true
    → (group_true l.problem.clauses (assignment l.columns k) 0 ≡ true)
    × All (λ g. g ≢ slice_index_or l.groups (l.from + k) 0 → group_true l.problem.clauses (assignment l.columns k) g ≡ true) (take l.at l.groups)
