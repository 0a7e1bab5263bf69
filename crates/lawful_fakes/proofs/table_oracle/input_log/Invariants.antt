use Rattle.std.proofs.Common.{◌≡◌, take}
use Rattle.gm_base.specs.Evidence.{selector_form}
use Rattle.lrat_steps.specs.Log.{inputs_of, learned_count}
use Rattle.lrat_steps.specs.Honest.{IsHonest}
use Rattle.lawful_fakes.proofs.table_oracle.input_log.Given as goal

-- the clauses so far, with their selectors
abbrev pub invariant-loop-at : goal.invariant-loop-at
invariant-loop-at l = record { inputs : inputs_of l.log ≡ take l.at (selector_form l.problem); honest : IsHonest l.log; nothing : learned_count l.log ≡ 0 }
