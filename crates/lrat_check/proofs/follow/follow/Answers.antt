use Rattle.std.proofs.Common.{◌≡◌, ◌<◌, ◌∙◌, ap, sym, subst, arith, length, Some, ℤ, ◌∷◌, length-set, true, set}
use Rattle.std.specs.Prelude.{neg_ℤ}
use Rattle.sat_base.specs.Literals.{IsLiteral}
use Rattle.sat_base.specs.Derivation.{clause_of, open_lits, only_lit, is_nil}
use Rattle.sat_base.specs.Hints.{ids_of}
use Rattle.lrat_check.specs.Marks.{place_of, AreMarked}
use Rattle.lrat_check.proofs.MarkLemmas.{unmarked_open, have_places, place_within, literal_negated, marked_more}
use Rattle.lrat_check.proofs.OpenLemmas.{only_over}
use Rattle.lrat_check.proofs.RefusalLemmas.{nothing_last, nothing_more, open_last, unit_more, many_more, not_nil}
use Rattle.lrat_check.proofs.follow.follow.Goals as goal

-- the clause is false, at the end and before it
pub returns-then-last-clause-answer : goal.returns-then-last-clause-answer
returns-then-last-clause-answer c =
    let f = c.loop-i.invariant.followed in
    sym (nothing_last c.args.clauses.now.known f.falses (ids_of c.args.hints) c.loop-i.i (omega arith) c.in-Some.clause.now (c.if-last.true ∙ c.len.ensures) (ap (clause_of c.args.clauses.now.known) (sym c.at.ensures) ∙ sym c.in-Some.ensures.clause)
    (sym (unmarked_open c.loop-i.marks f.falses c.in-Some.clause.now f.marked) ∙ c.in-Nothing.ensures))
    ∙ f.rest

pub returns-else-last-clause-answer : goal.returns-else-last-clause-answer
returns-else-last-clause-answer c =
    let f = c.loop-i.invariant.followed in
    sym (nothing_more c.args.clauses.now.known f.falses (ids_of c.args.hints) c.loop-i.i (omega arith) c.in-Some.clause.now (λ same. c.if-last.false (same ∙ sym c.len.ensures)) (ap (clause_of c.args.clauses.now.known) (sym c.at.ensures) ∙ sym c.in-Some.ensures.clause)
    (sym (unmarked_open c.loop-i.marks f.falses c.in-Some.clause.now f.marked) ∙ c.in-Nothing.ensures))
    ∙ f.rest

-- one literal is left at the end
pub returns-then-last-2-clause-answer : goal.returns-then-last-2-clause-answer
returns-then-last-2-clause-answer c =
    let f = c.loop-i.invariant.followed in
    let open_is = unmarked_open c.loop-i.marks f.falses c.in-Some.clause.now f.marked in
    let one : only_lit (open_lits f.falses c.in-Some.clause.now) ≡ Some c.in-One.lit = ap only_lit (sym open_is) ∙ c.in-One.ensures in
    sym (open_last c.args.clauses.now.known f.falses (ids_of c.args.hints) c.loop-i.i (omega arith) c.in-Some.clause.now (c.if-last-2.true ∙ c.len.ensures) (ap (clause_of c.args.clauses.now.known) (sym c.at.ensures) ∙ sym c.in-Some.ensures.clause)
    (not_nil (open_lits f.falses c.in-Some.clause.now) c.in-One.lit one))
    ∙ f.rest

-- two literals are left, at the end and before it
pub returns-then-last-3-clause-answer : goal.returns-then-last-3-clause-answer
returns-then-last-3-clause-answer c =
    let f = c.loop-i.invariant.followed in
    let open_is = unmarked_open c.loop-i.marks f.falses c.in-Some.clause.now f.marked in
    sym (open_last c.args.clauses.now.known f.falses (ids_of c.args.hints) c.loop-i.i (omega arith) c.in-Some.clause.now (c.if-last-3.true ∙ c.len.ensures) (ap (clause_of c.args.clauses.now.known) (sym c.at.ensures) ∙ sym c.in-Some.ensures.clause)
    (ap is_nil (sym open_is) ∙ c.in-Many.ensures.1))
    ∙ f.rest

pub returns-else-last-3-clause-answer : goal.returns-else-last-3-clause-answer
returns-else-last-3-clause-answer c =
    let f = c.loop-i.invariant.followed in
    let open_is = unmarked_open c.loop-i.marks f.falses c.in-Some.clause.now f.marked in
    sym (many_more c.args.clauses.now.known f.falses (ids_of c.args.hints) c.loop-i.i (omega arith) c.in-Some.clause.now (λ same. c.if-last-3.false (same ∙ sym c.len.ensures)) (ap (clause_of c.args.clauses.now.known) (sym c.at.ensures) ∙ sym c.in-Some.ensures.clause)
    (ap only_lit (sym open_is) ∙ c.in-Many.ensures.0) (ap is_nil (sym open_is) ∙ c.in-Many.ensures.1))
    ∙ f.rest

-- the clause is over the variables
pub look-requires : goal.look-requires
look-requires c =
    have_places c.args.clauses.now.vars c.loop-i.marks c.in-Some.clause.now c.in-Some.ensures.over c.loop-i.invariant.places

-- and so is its literal
pub mark-requires : goal.mark-requires
mark-requires c =
    let vars = c.args.clauses.now.vars in
    let over : IsLiteral vars c.in-One.lit = only_over vars c.loop-i.marks c.in-Some.clause.now c.in-One.lit c.in-Some.ensures.over c.in-One.ensures in
    subst (λ (l : ℤ). place_of l < length c.loop-i.marks) (sym c.negated.ensures)
    (place_within vars c.loop-i.marks (neg_ℤ c.in-One.lit) (literal_negated vars c.in-One.lit over) c.loop-i.invariant.places)

-- one more literal is false
pub loop-i-preserved : goal.loop-i-preserved
loop-i-preserved c =
    let f = c.loop-i.invariant.followed in
    let vars = c.args.clauses.now.vars in
    let open_is = unmarked_open c.loop-i.marks f.falses c.in-Some.clause.now f.marked in
    let over : IsLiteral vars c.in-One.lit = only_over vars c.loop-i.marks c.in-Some.clause.now c.in-One.lit c.in-Some.ensures.over c.in-One.ensures in
    let within = place_within vars c.loop-i.marks (neg_ℤ c.in-One.lit) (literal_negated vars c.in-One.lit over) c.loop-i.invariant.places in
    let is : c.mark.new.self ≡ set c.loop-i.marks (place_of (neg_ℤ c.in-One.lit)) true =
    c.mark.ensures ∙ ap (λ (l : ℤ). set c.loop-i.marks (place_of l) true) c.negated.ensures in
    record {
      places = ap length is ∙ length-set c.loop-i.marks (place_of (neg_ℤ c.in-One.lit)) true ∙ c.loop-i.invariant.places;
      followed = record {
        falses = neg_ℤ c.in-One.lit ∷ f.falses;
        marked = subst (λ ms. AreMarked ms (neg_ℤ c.in-One.lit ∷ f.falses)) (sym is) (marked_more c.loop-i.marks f.falses (neg_ℤ c.in-One.lit) within f.marked);
        rest = sym (unit_more c.args.clauses.now.known f.falses (ids_of c.args.hints) c.loop-i.i (omega arith) c.in-Some.clause.now c.in-One.lit (λ same. c.if-last-2.false (same ∙ sym c.len.ensures)) (ap (clause_of c.args.clauses.now.known) (sym c.at.ensures) ∙ sym c.in-Some.ensures.clause)
            (ap only_lit (sym open_is) ∙ c.in-One.ensures)) ∙ f.rest;
      };
    }
