use Rattle.std.proofs.Common.{◌≡◌, ◌++◌, codes, take}
use Rattle.std.specs.List.{flat_map}
use Rattle.std.specs.Fmt.{signed_decimal}
use Rattle.lrat_export.specs.Export.{bared}
use Rattle.lrat_export.proofs.lrat.push_bared.Given as goal

-- what is left of the literals so far was written
abbrev pub invariant-loop-lit : goal.invariant-loop-lit
invariant-loop-lit l = l.out.items ≡ l.fn.out.items ++ flat_map (λ k. signed_decimal k ++ codes " ") (bared l.vars (take l.lit-index l.lits))
