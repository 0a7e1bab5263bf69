use Rattle.std.proofs.Common.{length}
use Rattle.learn_step.specs.Analysis.{IsAnalysis, AreKept}
use Rattle.learn_step.proofs.AnalysisLemmas.{bound_of}
use Rattle.learn_step.proofs.first_uip.keep_others.Given as goal

abbrev pub invariant-loop-place : goal.invariant-loop-place
invariant-loop-place l = record {
  analysis : IsAnalysis l.store.clauses l.trail.entries (length l.trail.entries) l.analysis.places l.analysis.lits.items l.analysis.hints.items;
  kept : AreKept l.trail.entries l.fn.analysis.lits.items l.analysis.places l.analysis.lits.items l.level;
}

-- what is brought in is lower than what was taken
abbrev pub decreases-loop-place : goal.decreases-loop-place
decreases-loop-place l = bound_of l.analysis.places
