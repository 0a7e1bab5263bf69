use Rattle.map_core.proofs.Explored.{held_is_minimal, not_both, exhausted_holds_all}
use Rattle.map_core.proofs.News.{new_are_held, new_are_brought}
use Rattle.map_core.proofs.laws.held_is_right.Goals as goal

pub returns-clause-minimal : goal.returns-clause-minimal
returns-clause-minimal c = held_is_minimal

pub returns-clause-apart : goal.returns-clause-apart
returns-clause-apart c = not_both

pub returns-clause-all : goal.returns-clause-all
returns-clause-all c = exhausted_holds_all

pub returns-clause-news : goal.returns-clause-news
returns-clause-news c = new_are_held

pub returns-clause-brought : goal.returns-clause-brought
returns-clause-brought c = new_are_brought
