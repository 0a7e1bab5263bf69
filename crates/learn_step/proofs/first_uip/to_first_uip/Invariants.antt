use Rattle.learn_step.specs.Analysis.{IsAboveUip}
use Rattle.learn_step.proofs.AnalysisLemmas.{bound_of}
use Rattle.learn_step.proofs.first_uip.to_first_uip.Given as goal

abbrev pub invariant-loop-place : goal.invariant-loop-place
invariant-loop-place l = IsAboveUip l.store.clauses l.trail.entries l.analysis.places l.analysis.lits.items l.analysis.hints.items

-- what is brought in is lower than what was taken
abbrev pub decreases-loop-place : goal.decreases-loop-place
decreases-loop-place l = bound_of l.analysis.places
