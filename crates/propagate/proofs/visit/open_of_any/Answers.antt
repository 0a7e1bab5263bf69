use Rattle.std.proofs.Common.{◌≤◌, arith, subst}
use Rattle.sat_base.specs.Literals.{IsLiteral}
use Rattle.clause_store.specs.Clauses.{clause_at}
use Rattle.trail_book.specs.Trail.{trues}
use Rattle.propagate.proofs.ClauseLemmas.{but_of, words_found}
use Rattle.propagate.proofs.EntranceLemmas.{literal_of_clause}
use Rattle.propagate.proofs.visit.open_of_any.Goals as goal

-- it stands in the clause, and there are at most 64 variables
pub open_word-requires : goal.open_word-requires
open_word-requires c =
    let s = c.args.store.now in
    let few : c.args.trail.now.vars ≤ 64 = c.in-Some-Some.ensures'.few in
    let literal = literal_of_clause s.vars s.clauses c.args.id c.args.other c.vars-vars.ensures.over c.requires.id c.requires.watch.other_stands in
    record { not_zero = literal.not_zero; in_range = omega (arith, literal.in_range, few, c.requires.vars) }

-- what the words have is in the clause and on the trail
pub returns-in-Some-Some-clause-found : goal.returns-in-Some-Some-clause-found
returns-in-Some-Some-clause-found c =
    let s = c.args.store.now in
    let t = c.args.trail.now in
    words_found t.vars (trues t.entries) (clause_at s.clauses c.args.id).lits c.in-Some-Some.words c.in-Some-Some.trues c.args.other c.open_word.result
    c.in-Some-Some.ensures c.in-Some-Some.ensures'.words
    (λ x i. subst (λ vars. IsLiteral vars x) c.requires.vars (literal_of_clause s.vars s.clauses c.args.id x c.vars-vars.ensures.over c.requires.id i))
    c.open_word.ensures.found

pub returns-in_default-clause-none : goal.returns-in_default-clause-none
returns-in_default-clause-none c = but_of (trues c.args.trail.now.entries) _ _ c.args.other c.among.result c.lits.ensures.lits c.among.ensures.none
