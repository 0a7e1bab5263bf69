use Rattle.std.proofs.Common.{◌∙◌, sym, subst, ap}
use Rattle.size_counter.specs.Sizes.{AreDistinct}
use Rattle.size_counter.specs.Names.{Naming}
use Rattle.size_counter.proofs.NameLemmas.{also-same}
use Rattle.size_counter.proofs.naming.Naming.add.Goals as goal

-- a set of the kind names nothing
pub returns-in-Conflict-Conflict-clause-ok : goal.returns-in-Conflict-Conflict-clause-ok
returns-in-Conflict-Conflict-clause-ok c =
    also-same c.args.self.now c.args.kind c.args.set.now (subst (λ (n : Naming). AreDistinct n.named) c.self.view_is c.self.invariant)
    (sym (ap (λ (n : Naming). n.kind) c.self.view_is) ∙ (c.in-Conflict-Conflict.is-0 ∙ sym c.in-Conflict-Conflict.is-1))

pub returns-in-Correction-Correction-clause-ok : goal.returns-in-Correction-Correction-clause-ok
returns-in-Correction-Correction-clause-ok c =
    also-same c.args.self.now c.args.kind c.args.set.now (subst (λ (n : Naming). AreDistinct n.named) c.self.view_is c.self.invariant)
    (sym (ap (λ (n : Naming). n.kind) c.self.view_is) ∙ (c.in-Correction-Correction.is-0 ∙ sym c.in-Correction-Correction.is-1))
