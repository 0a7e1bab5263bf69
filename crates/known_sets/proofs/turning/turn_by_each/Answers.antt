use Rattle.known_sets.proofs.turning.turn_by_each.Goals as goal

-- where memory is wanting, what was remembered before stays right
pub returns-in_err-more : goal.returns-in_err-more
returns-in_err-more c = λ listing before all. c.turn_by.ensures listing before (c.loop-var.invariant listing before all)

-- each turn keeps it right, whether one before it found something
pub loop-var-preserved-then-found : goal.loop-var-preserved-then-found
loop-var-preserved-then-found c = λ listing before all. c.turn_by.ensures listing before (c.loop-var.invariant listing before all)

-- and where none did
pub loop-var-preserved-else-found : goal.loop-var-preserved-else-found
loop-var-preserved-else-found c = λ listing before all. c.turn_by.ensures listing before (c.loop-var.invariant listing before all)
