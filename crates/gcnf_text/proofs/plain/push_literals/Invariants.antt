use Rattle.std.proofs.Common.{◌≡◌, ◌++◌, take}
use Rattle.gcnf_text.specs.Plain.{literals_text}
use Rattle.gcnf_text.proofs.plain.push_literals.Given as goal

-- those so far were written
abbrev pub invariant-loop-lit : goal.invariant-loop-lit
invariant-loop-lit l = l.out.items ≡ l.fn.out.items ++ literals_text (take l.lit-index l.lits)
