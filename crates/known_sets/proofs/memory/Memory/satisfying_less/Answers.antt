use Rattle.known_sets.proofs.memory.Memory.satisfying_less.Goals as goal

-- of a right memory
pub returns-clause-witness : goal.returns-clause-witness
returns-clause-witness c = λ p right within. c.within_less.ensures.witness p right.satisfied within
