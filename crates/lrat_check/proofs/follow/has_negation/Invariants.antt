use Rattle.std.proofs.Common.{◌≡◌, take, false}
use Rattle.std.specs.Prelude.{neg_ℤ}
use Rattle.std.specs.List.{list_any}
use Rattle.lrat_check.specs.Marks.{is_marked}
use Rattle.lrat_check.proofs.follow.has_negation.Given as goal

-- no negation of the literals so far is marked
abbrev pub invariant-loop-lit : goal.invariant-loop-lit
invariant-loop-lit l = list_any (λ m. is_marked l.marks (neg_ℤ m)) (take l.lit-index l.lits) ≡ false
