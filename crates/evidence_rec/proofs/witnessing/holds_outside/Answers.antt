use Rattle.std.proofs.Common.{◌≡◌, ◌∙◌, List, sym, subst, true, arith}
use Rattle.std.specs.List.{list_all}
use Rattle.std.proofs.lemmas.List.{take_all}
use Rattle.gm_base.specs.declared.clause.Clause.{Clause}
use Rattle.evidence_rec.proofs.OutsideLemmas.{passes, passes-is, passes-stop, passes-go}
use Rattle.evidence_rec.proofs.witnessing.holds_outside.Goals as goal

-- a clause of another group is false
pub returns-then-not-is_true_or_of : goal.returns-then-not-is_true_or_of
returns-then-not-is_true_or_of c =
    let p = c.args.problem.now in
    sym
    (passes-stop p c.args.set.now c.args.witness.now c.loop-at.at c.clause.result.now c.clause.ensures.same
    (passes-is p c.args.set.now c.args.witness.now c.clause.result.now c.as_slice-groups.ensures.ascends c.clause.ensures.fits.group
    ∙ sym c.is_true_or_of.ensures ∙ cc))

-- one more clause passes
pub loop-at-preserved : goal.loop-at-preserved
loop-at-preserved c =
    let p = c.args.problem.now in
    passes-go p c.args.set.now c.args.witness.now c.loop-at.at c.clause.result.now c.clause.ensures.same
    (passes-is p c.args.set.now c.args.witness.now c.clause.result.now c.as_slice-groups.ensures.ascends c.clause.ensures.fits.group
    ∙ sym c.is_true_or_of.ensures ∙ cc) c.loop-at.invariant

-- all clauses pass
pub returns : goal.returns
returns c =
    let p = c.args.problem.now in
    sym
    (subst (λ (cs : List Clause). list_all (passes p c.args.set.now c.args.witness.now) cs ≡ true) (take_all c.loop-at.at p.clauses (omega (arith, c.len-at-end.ensures)))
    c.loop-at.invariant)
