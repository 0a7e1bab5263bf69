use Rattle.gm_tool.proofs.carry.told_oracle.Goals as goal

-- the oracle is of the new problem
pub tell_starts-requires-clause-problem : goal.tell_starts-requires-clause-problem
tell_starts-requires-clause-problem c = c.in_ok-oracle.ensures.asks_of
