use Rattle.std.proofs.Common.{rules}
use Rattle.gm_base.proofs.selectors.write_with_selector.Goals as goal

-- a group other than the background has its own
pub returns-in_ok-push : goal.returns-in_ok-push
returns-in_ok-push c = search rules
