use Rattle.std.proofs.Common.{◌≡◌, false, not, eqb, take}
use Rattle.std.specs.List.{list_any}
use Rattle.power_map.proofs.unsettled.has_other.Given as goal

-- none of those before is another one
abbrev pub invariant-loop-h : goal.invariant-loop-h
invariant-loop-h l = list_any (λ h. not (eqb h l.g)) (take l.h-index l.h-items) ≡ false
