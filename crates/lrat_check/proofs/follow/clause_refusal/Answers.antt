use Rattle.std.proofs.Common.{◌∙◌, sym, subst, ℕ}
use Rattle.std.proofs.lemmas.Bool.{cond-true, cond-false}
use Rattle.sat_base.specs.Literals.{AreLiterals}
use Rattle.sat_base.specs.Derivation.{is_step_clause}
use Rattle.lrat_check.proofs.MarkLemmas.{have_places}
use Rattle.lrat_check.proofs.ClauseLemmas.{clause_outside, clause_opposed, clause_fits}
use Rattle.lrat_check.proofs.follow.clause_refusal.Goals as goal

-- a literal over no variable
pub returns-then-not-are_over-clause-answer : goal.returns-then-not-are_over-clause-answer
returns-then-not-are_over-clause-answer c =
    let vars = c.args.clauses.now.vars in
    let outside : ¬ AreLiterals vars c.args.lits.now =
    λ over. let yes_over = c.are_over.ensures.1 (subst (λ (n : ℕ). AreLiterals n c.args.lits.now) (sym c.vars.ensures.vars) over) in cc in
    sym (cond-false (is_step_clause vars c.args.lits.now) _ _ (clause_outside vars c.args.lits.now outside))

-- a literal with its negation
pub returns-then-has_negation-clause-answer : goal.returns-then-has_negation-clause-answer
returns-then-has_negation-clause-answer c =
    let vars = c.args.clauses.now.vars in
    sym (cond-false (is_step_clause vars c.args.lits.now) _ _
    (clause_opposed vars c.args.lits.now c.mark_all.new.marks c.mark_all.ensures.marked (sym c.has_negation.ensures ∙ c.if-has_negation.true)))

-- literals over the variables have places
pub mark_all-requires-clause-places : goal.mark_all-requires-clause-places
mark_all-requires-clause-places c =
    let vars = c.args.clauses.now.vars in
    let over : AreLiterals vars c.args.lits.now = subst (λ (n : ℕ). AreLiterals n c.args.lits.now) c.vars.ensures.vars (c.are_over.ensures.0 c.if-not-are_over.false) in
    have_places vars c.args.marks.now c.args.lits.now over c.requires.places

pub has_negation-requires : goal.has_negation-requires
has_negation-requires c =
    let vars = c.args.clauses.now.vars in
    let over : AreLiterals vars c.args.lits.now = subst (λ (n : ℕ). AreLiterals n c.args.lits.now) c.vars.ensures.vars (c.are_over.ensures.0 c.if-not-are_over.false) in
    have_places vars c.mark_all.new.marks c.args.lits.now over (c.mark_all.ensures.len ∙ c.requires.places)

pub returns-clause-answer : goal.returns-clause-answer
returns-clause-answer c =
    let vars = c.args.clauses.now.vars in
    let over : AreLiterals vars c.args.lits.now = subst (λ (n : ℕ). AreLiterals n c.args.lits.now) c.vars.ensures.vars (c.are_over.ensures.0 c.if-not-are_over.false) in
    c.follow.ensures.answer
    ∙ sym (cond-true (is_step_clause vars c.args.lits.now) _ _
    (clause_fits vars c.args.lits.now c.mark_all.new.marks c.mark_all.ensures.marked over (sym c.has_negation.ensures ∙ c.if-has_negation.false)))
