use Rattle.std.proofs.Common.{◌∙◌, subst, ap, sym}
use Rattle.std.specs.Arc.{arc_value}
use Rattle.gm_base.specs.Index.{ArePlaces, IsIndex}
use Rattle.gm_base.proofs.IndexLemmas.{ArePlaces-from_stretch}
use Rattle.gm_base.proofs.problem.Problem.places.Goals as goal

pub returns : goal.returns
returns c =
    subst (λ cs. ArePlaces cs c.args.group c.stretch.result.now) (ap (λ p. p.clauses) c.self.view_is)
    (ArePlaces-from_stretch (arc_value c.self.inside.clauses).items c.as_slice.result.now c.stretch.result.now c.args.group
    (subst (IsIndex (arc_value c.self.inside.clauses).items) (sym (c.as_slice.ensures.value ∙ ap (λ v. v.items) c.deref.ensures)) c.self.invariant.index) c.stretch.ensures.of_group c.stretch.ensures.each c.stretch.ensures.inside)
