use Rattle.std.proofs.Common.{◌≡◌, take, map, false}
use Rattle.gm_base.specs.Explored.{is_explored}
use Rattle.lawful_fakes.specs.Script.{found_in}
use Rattle.lawful_fakes.proofs.block.any_takes_out.Given as goal

-- none of the blocks so far takes the set out
abbrev pub invariant-loop-block : goal.invariant-loop-block
invariant-loop-block l = is_explored (map found_in (take l.block-index l.blocks)) l.set ≡ false
