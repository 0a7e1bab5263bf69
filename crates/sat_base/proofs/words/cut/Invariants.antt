use Rattle.std.proofs.Common.{◌≡◌, ◌*◌, ◌++◌, All, length, drop}
use Rattle.std.specs.List.{concat}
use Rattle.sat_base.proofs.words.cut.Given as goal

-- full blocks of the words before `at * 64`
abbrev pub invariant-loop-at : goal.invariant-loop-at
invariant-loop-at l = All (λ block. length block ≡ 64) l.blocks.items × (concat l.blocks.items ++ drop (l.at * 64) l.words ≡ l.words)
