use Rattle.trail_book.specs.Trail.{oldest}
use Rattle.learn_step.specs.Reasons.{AreReasoned}
use Rattle.trail_trials.proofs.reasons.are_reasoned.Given as goal

-- the values at lower places are
abbrev pub invariant-loop-place : goal.invariant-loop-place
invariant-loop-place l = AreReasoned l.store.clauses (oldest l.place l.trail.entries)
