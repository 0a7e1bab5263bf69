use Rattle.std.proofs.Common.{◌∙◌, sym, subst}
use Rattle.size_counter.specs.Known.{Knows}
use Rattle.size_counter.proofs.KnownLemmas.{Knows-new}
use Rattle.size_counter.proofs.names.Names.add.Goals as goal

-- a number that was not known stands behind the others
pub invariant_of-self-in-Ok : goal.invariant_of-self-in-Ok
invariant_of-self-in-Ok c =
    subst (Knows c.insert.new.self) (sym c.in-Ok.ensures.items)
    (Knows-new c.self.inside.known c.insert.new.self c.self.inside.named.items c.args.number c.self.invariant
    (sym c.if-not-branch.false ∙ c.in_ok-insert.ensures.added) c.in_ok-insert.ensures.updates)
