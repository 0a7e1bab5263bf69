use Rattle.std.proofs.Common.{◌≡◌, ◌-◌, ◌++◌, false, take, replicate}
use Rattle.edit_session.proofs.witnesses.carried_witness.Given as goal

-- the values before this place, and false behind them
abbrev pub invariant-loop-at : goal.invariant-loop-at
invariant-loop-at l = l.builder ≡ take l.at l.witness ++ replicate (l.new.vars - l.at) false
