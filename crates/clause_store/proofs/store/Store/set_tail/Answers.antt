use Rattle.std.proofs.Common.{◌∙◌, ap, subst, sym}
use Rattle.sat_base.specs.Literals.{IsLiteral}
use Rattle.clause_store.specs.Clauses.{Clauses}
use Rattle.clause_store.specs.Links.{tail_of}
use Rattle.clause_store.proofs.TableLemmas.{row-set, row-kept}
use Rattle.clause_store.proofs.store.Store.set_tail.Goals as goal

pub returns-clause-set : goal.returns-clause-set
returns-clause-set c =
    let over = subst (λ (s : Clauses). IsLiteral s.vars c.args.lit) (sym c.self.view_is) c.requires.lit in
    row-set c.self.inside.vars c.self.inside.tails.items c.args.lit c.row_of.result c.number_of.result _ over c.self.invariant.a_tail_each c.row_of.ensures.row c.number_of.ensures

pub returns-clause-others : goal.returns-clause-others
returns-clause-others c = λ other differ.
    row-kept c.self.inside.tails.items c.args.lit other c.row_of.result c.number_of.result c.row_of.ensures.row differ
    ∙ ap (λ (s : Clauses). tail_of s other) c.self.view_is
