use Rattle.std.proofs.Common.{◌≡◌, ◌≤◌, ◌∙◌, length, reverse, ap, arith}
use Rattle.std.proofs.lemmas.List.{take_all, take-append-le}
use Rattle.learn_step.proofs.analysis.Analysis.finish.Goals as goal

-- the hints were turned once, and as many were written back
pub returns-clause-hints : goal.returns-clause-hints
returns-clause-hints c =
    let old = c.args.self.hints.items in
    let new = c.reverse.new.self in
    let turned : new ≡ reverse old = cc in
    let len : length new ≡ length old = omega (arith, c.reverse.ensures.len, ap length c.as_mut_slice.ensures.value) in
    let fits : length old ≤ length new = omega (arith, len) in
    let all : length new ≤ length old = omega (arith, len) in
    rw take-append-le (take_all (length old) new all ∙ turned)
