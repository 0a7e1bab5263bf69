use Rattle.std.proofs.Common.{◌≡◌, length}
use Rattle.model_flips.proofs.rotation.empty_rows.Given as goal

-- as many rows as rounds
abbrev pub invariant-loop : goal.invariant-loop
invariant-loop l = length l.rows.items ≡ l.counter
