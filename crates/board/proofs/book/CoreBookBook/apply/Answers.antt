use Rattle.map_core.proofs.Told.{enters}
use Rattle.board.proofs.book.CoreBookBook.apply.Goals as goal

-- a step goes on from what the history made of the opening
pub invariant_of-self : goal.invariant_of-self
invariant_of-self g c = (enters _ _ _ _ _ _ c.take.ensures.step).reached c.self.invariant

pub invariant_of-self-in-Refill : goal.invariant_of-self-in-Refill
invariant_of-self-in-Refill g c = (enters _ _ _ _ _ _ c.refill.ensures.step).reached c.self.invariant

pub invariant_of-self-in-Post : goal.invariant_of-self-in-Post
invariant_of-self-in-Post g c = (enters _ _ _ _ _ _ c.post.ensures.step).reached c.self.invariant

pub invariant_of-self-in-Retire : goal.invariant_of-self-in-Retire
invariant_of-self-in-Retire g c = (enters _ _ _ _ _ _ c.retire.ensures.step).reached c.self.invariant

pub returns-in-Take-clause-legal : goal.returns-in-Take-clause-legal
returns-in-Take-clause-legal g c = (c.take.new.self, (enters _ _ _ _ _ _ c.take.ensures.step).reached c.self.invariant)

pub returns-in-Refill-clause-legal : goal.returns-in-Refill-clause-legal
returns-in-Refill-clause-legal g c = (c.refill.new.self, (enters _ _ _ _ _ _ c.refill.ensures.step).reached c.self.invariant)

pub returns-in-Post-clause-legal : goal.returns-in-Post-clause-legal
returns-in-Post-clause-legal g c = (c.post.new.self, (enters _ _ _ _ _ _ c.post.ensures.step).reached c.self.invariant)

pub returns-in-Retire-clause-legal : goal.returns-in-Retire-clause-legal
returns-in-Retire-clause-legal g c = (c.retire.new.self, (enters _ _ _ _ _ _ c.retire.ensures.step).reached c.self.invariant)
