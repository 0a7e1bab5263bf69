use Rattle.std.proofs.Common.{◌≡◌, true, false, get_or, sym, subst, refl, inl, inr, arith, eqb}
use Rattle.std.proofs.lemmas.Bool.{eq-eqb}
use Rattle.std.proofs.lemmas.List.Folds.{list_any_at}
use Rattle.gm_base.specs.Sets.{has}
use Rattle.gm_base.specs.Index.{group_true}
use Rattle.gm_base.proofs.IndexLemmas.{satisfies-from_groups, satisfies-not}
use Rattle.gm_base.proofs.problem.Problem.holds.Goals as goal

pub returns-then-not-group_holds : goal.returns-then-not-group_holds
returns-then-not-group_holds c =
    let failed : group_true c.args.self.now.clauses c.args.assign.now 0 ≡ false = cc in
    sym (satisfies-not c.args.self.now c.args.set.now c.args.assign.now 0 (inl refl) failed)

pub returns-then-not-group_holds-2 : goal.returns-then-not-group_holds-2
returns-then-not-group_holds-2 c =
    let items = c.as_slice-g-items.result.now in
    let g = get_or items c.loop-g.g-index 0 in
    let inside : has items g ≡ true = list_any_at (λ h. eqb h g) items c.loop-g.g-index 0 (omega arith) (eq-eqb g g refl) in
    let failed : group_true c.args.self.now.clauses c.args.assign.now g ≡ false = cc in
    sym (satisfies-not c.args.self.now c.args.set.now c.args.assign.now g (inr (subst (λ s. has s g ≡ true) c.as_slice-g-items.ensures.groups inside)) failed)

pub returns : goal.returns
returns c =
    let background : group_true c.args.self.now.clauses c.args.assign.now 0 ≡ true = cc in
    sym (satisfies-from_groups c.args.self.now c.args.set.now c.as_slice-g-items.result.now c.args.assign.now c.loop-g.g-index c.as_slice-g-items.ensures.groups (omega arith) background c.loop-g.invariant)
