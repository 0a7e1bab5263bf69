use Rattle.std.proofs.Common.{subst}
use Rattle.gm_tool.specs.Closed.{IsLeft}
use Rattle.gm_tool.proofs.DrillLemmas.{counts-from}
use Rattle.gm_tool.proofs.drill.prepare.Goals as goal

-- nothing is known at first, and the line counts the closing's records
pub returns : goal.returns
returns g c =
    let left = c.in_ok-left.left in
    record {
      over =
          record {
            left = subst (λ first. IsLeft c.args.problem.now first c.args.bounds left) c.new.ensures c.in_ok-left.ensures;
            enough_memory = c.in_ok-line.ensures.enough_memory;
          };
      line = c.in_ok-line.ensures.line;
      text = counts-from c.groups.result c.args.problem.now c.as_slice.result.now left.closing.records c.in_ok-text.text.items c.groups.ensures.count c.as_slice.ensures c.in_ok-text.ensures;
    }
