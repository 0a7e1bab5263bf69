use Rattle.std.proofs.Common.{subst}
use Rattle.sat_base.specs.Literals.{IsLiteral}
use Rattle.clause_store.specs.Clauses.{clause_at}
use Rattle.clause_store.specs.Thirds.{AreTwoOfThree}
use Rattle.trail_book.specs.Trail.{trues}
use Rattle.propagate.proofs.ClauseLemmas.{third_found, third_false}
use Rattle.propagate.proofs.EntranceLemmas.{literal_of_clause}
use Rattle.propagate.proofs.visit.replacement.Goals as goal

-- the third literal stands in the clause
pub third_open-requires : goal.third_open-requires
third_open-requires c =
    let s = c.args.store.now in
    let w = c.requires.watch in
    let two : AreTwoOfThree (clause_at s.clauses c.args.id).lits c.args.falsified c.args.other = record { three = c.in-Some.ensures.three; first_stands = w.stands; second_stands = w.other_stands; differ = w.differ } in
    subst (λ vars. IsLiteral vars c.in-Some.third) c.requires.vars
    (literal_of_clause s.vars s.clauses c.args.id c.in-Some.third c.vars-vars.ensures.over c.requires.id (c.in-Some.ensures.left two).stands)

-- it can be watched, where it is neither false nor the other one
pub returns-in-Some-clause-found : goal.returns-in-Some-clause-found
returns-in-Some-clause-found c =
    let s = c.args.store.now in
    let t = c.args.trail.now in
    let w = c.requires.watch in
    let two : AreTwoOfThree (clause_at s.clauses c.args.id).lits c.args.falsified c.args.other = record { three = c.in-Some.ensures.three; first_stands = w.stands; second_stands = w.other_stands; differ = w.differ } in
    third_found t.vars (trues t.entries) (clause_at s.clauses c.args.id).lits c.args.falsified c.args.other c.in-Some.third c.third_open.result
    (c.in-Some.ensures.left two)
    (subst (λ vars. IsLiteral vars c.in-Some.third) c.requires.vars (literal_of_clause s.vars s.clauses c.args.id c.in-Some.third c.vars-vars.ensures.over c.requires.id (c.in-Some.ensures.left two).stands))
    c.third_open.ensures.found

-- and otherwise all literals but the other one are false
pub returns-in-Some-clause-none : goal.returns-in-Some-clause-none
returns-in-Some-clause-none c =
    let s = c.args.store.now in
    let w = c.requires.watch in
    let two : AreTwoOfThree (clause_at s.clauses c.args.id).lits c.args.falsified c.args.other = record { three = c.in-Some.ensures.three; first_stands = w.stands; second_stands = w.other_stands; differ = w.differ } in
    third_false (trues c.args.trail.now.entries) (clause_at s.clauses c.args.id).lits c.args.falsified c.args.other c.in-Some.third c.third_open.result
    (c.in-Some.ensures.left two) w.is_false c.third_open.ensures.none
