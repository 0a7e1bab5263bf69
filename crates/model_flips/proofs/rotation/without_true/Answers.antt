use Rattle.std.proofs.Common.{◌≡◌, ◌∙◌, true, not, eqb, sym, ap, subst, inl, inr}
use Rattle.std.proofs.lemmas.Bool.{cases_Bool, eqb-true, and_from}
use Rattle.gm_base.specs.Sets.{has}
use Rattle.gm_base.specs.Index.{group_true}
use Rattle.gm_base.proofs.SetLemmas.{has-without}
use Rattle.model_flips.proofs.rotation.without_true.Goals as goal

-- a group that is gone is true
pub returns : goal.returns
returns c = λ g was.
    let holds : group_true c.args.problem.now.clauses c.args.values.now c.args.group ≡ true = cc in
    elim (cases_Bool (eqb g c.args.group)) [
      | inl same ↦ inr (subst (λ k. group_true c.args.problem.now.clauses c.args.values.now k ≡ true) (sym (eqb-true g c.args.group same)) holds)
      | inr other ↦ inl (ap (λ s. has s g) c.in_ok-rest.ensures ∙ has-without c.args.left c.args.group g ∙ and_from (not (eqb g c.args.group)) (has c.args.left g) (ap not other) was)
    ]
