use Rattle.std.proofs.Common.{◌∙◌, subst, sym}
use Rattle.sat_base.specs.Members.{In}
use Rattle.sat_base.proofs.DatabaseLemmas.{get_in}
use Rattle.lawful_fakes.specs.declared.block.Block.{Block}
use Rattle.lawful_fakes.proofs.ScriptLemmas.{explored_at}
use Rattle.lawful_fakes.proofs.block.any_takes_out.Goals as goal

pub returns-then-takes_out : goal.returns-then-takes_out
returns-then-takes_out c =
    let blocks = c.args.blocks.now in
    explored_at blocks c.args.set.now c.block-item.result
    (subst (λ (b : Block). In b blocks) (sym c.block-item.is) (get_in blocks c.loop-block.block-index c.block-item.result c.loop-block-test.true))
    (sym c.takes_out.ensures ∙ c.if-takes_out.true)
