use Rattle.std.proofs.Common.{◌≡◌, ◌∙◌, ℕ, ap, subst, sym, Some, None, false, []}
use Rattle.sat_base.specs.Derivation.{only_lit, is_nil}
use Rattle.lrat_check.specs.Marks.{is_marked}
use Rattle.lrat_export.specs.Export.{known_of}
use Rattle.lrat_export.specs.Walk.{opened}
use Rattle.lrat_export.proofs.WalkLemmas.{next-ends, next-again, next-makes, next-many}
use Rattle.lrat_export.proofs.hints.next_of.Goals as goal

pub returns-in-Nothing-clause-is : goal.returns-in-Nothing-clause-is
returns-in-Nothing-clause-is c = λ falses are.
    let source = c.args.source in
    let stay = c.in-Some.stay in
    next-ends source.problem.now.vars (known_of source.problem.now source.set.now source.proof.now) c.args.marks.now falses are c.args.hint stay.number stay.lits.now c.in-Some.ensures.some
    (subst (λ (v : ℕ). opened v c.args.marks.now stay.lits.now ≡ []) c.vars.ensures c.in-Nothing.ensures)

-- the literal is true already
pub returns-then-is_marked-clause-is : goal.returns-then-is_marked-clause-is
returns-then-is_marked-clause-is c = λ falses are.
    let source = c.args.source in
    let stay = c.in-Some.stay in
    next-again source.problem.now.vars (known_of source.problem.now source.set.now source.proof.now) c.args.marks.now falses are c.args.hint stay.number stay.lits.now c.in-Some.ensures.some
    c.in-One.lit (subst (λ (v : ℕ). only_lit (opened v c.args.marks.now stay.lits.now) ≡ Some c.in-One.lit) c.vars.ensures c.in-One.ensures.0)
    (ap (is_marked c.args.marks.now) (sym c.negated.ensures) ∙ sym c.is_marked.ensures ∙ c.if-is_marked.true)

pub returns-else-is_marked-clause-is : goal.returns-else-is_marked-clause-is
returns-else-is_marked-clause-is c = λ falses are.
    let source = c.args.source in
    let stay = c.in-Some.stay in
    next-makes source.problem.now.vars (known_of source.problem.now source.set.now source.proof.now) c.args.marks.now falses are c.args.hint stay.number stay.lits.now c.in-Some.ensures.some
    c.in-One.lit (subst (λ (v : ℕ). only_lit (opened v c.args.marks.now stay.lits.now) ≡ Some c.in-One.lit) c.vars.ensures c.in-One.ensures.0)
    (ap (is_marked c.args.marks.now) (sym c.negated.ensures) ∙ sym c.is_marked.ensures ∙ c.if-is_marked.false)

pub returns-in-Many-clause-is : goal.returns-in-Many-clause-is
returns-in-Many-clause-is c = λ falses are.
    let source = c.args.source in
    let stay = c.in-Some.stay in
    next-many source.problem.now.vars (known_of source.problem.now source.set.now source.proof.now) c.args.marks.now falses are c.args.hint stay.number stay.lits.now c.in-Some.ensures.some
    (subst (λ (v : ℕ). only_lit (opened v c.args.marks.now stay.lits.now) ≡ None) c.vars.ensures c.in-Many.ensures.0)
    (subst (λ (v : ℕ). is_nil (opened v c.args.marks.now stay.lits.now) ≡ false) c.vars.ensures c.in-Many.ensures.1)
