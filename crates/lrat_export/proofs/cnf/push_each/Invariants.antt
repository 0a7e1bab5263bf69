use Rattle.std.proofs.Common.{◌≡◌, ◌++◌, codes, take}
use Rattle.std.specs.List.{flat_map}
use Rattle.std.specs.Fmt.{signed_decimal}
use Rattle.lrat_export.proofs.cnf.push_each.Given as goal

-- those so far were written
abbrev pub invariant-loop-lit : goal.invariant-loop-lit
invariant-loop-lit l = l.out.items ≡ l.fn.out.items ++ flat_map (λ k. signed_decimal k ++ codes " ") (take l.lit-index l.lits)
