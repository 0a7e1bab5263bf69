use Rattle.std.proofs.Common.{subst, sym}
use Rattle.sat_base.specs.Members.{In}
use Rattle.sat_base.proofs.DatabaseLemmas.{get_in}
use Rattle.lawful_fakes.specs.declared.block.Block.{Block}
use Rattle.lawful_fakes.proofs.ScriptLemmas.{block_range}
use Rattle.lawful_fakes.proofs.block.map_problem.Goals as goal

pub block_lits-requires : goal.block_lits-requires
block_lits-requires c = λ g h.
    let blocks = c.args.blocks.now in
    block_range c.args.groups blocks c.block-item.result g c.requires.small c.requires.within
    (subst (λ (b : Block). In b blocks) (sym c.block-item.is) (get_in blocks c.loop-block.block-index c.block-item.result c.loop-block-test.true)) h
