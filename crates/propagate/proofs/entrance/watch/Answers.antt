use Rattle.std.proofs.Common.{◌∙◌, ℕ, ap, sym, subst}
use Rattle.sat_base.specs.Literals.{IsLiteral}
use Rattle.clause_store.specs.Clauses.{Clauses}
use Rattle.clause_store.specs.Links.{watched_at, tail_of}
use Rattle.propagate.proofs.StepLemmas.{tail_ok}
use Rattle.propagate.proofs.EntranceLemmas.{literal_of_clause, last_node, entered}
use Rattle.propagate.proofs.UnparkedLemmas.{unparked_same}
use Rattle.propagate.proofs.entrance.watch.Goals as goal

pub append-requires-clause-lit : goal.append-requires-clause-lit
append-requires-clause-lit c = let r = c.requires in literal_of_clause c.args.store.now.vars c.args.store.now.clauses c.args.id c.args.first c.vars-vars.ensures.over r.id r.first

pub append-requires-clause-last : goal.append-requires-clause-last
append-requires-clause-last c =
    let r = c.requires in
    let s = c.args.store.now in
    tail_ok s c.args.trail.now c.args.id c.args.first r.kept (literal_of_clause s.vars s.clauses c.args.id c.args.first c.vars-vars.ensures.over r.id r.first)

pub append-requires-2-clause-lit : goal.append-requires-2-clause-lit
append-requires-2-clause-lit c =
    let r = c.requires in
    let s = c.args.store.now in
    let is = literal_of_clause s.vars s.clauses c.args.id c.args.second c.vars-vars.ensures.over r.id r.second in
    subst (λ (v : ℕ). IsLiteral v c.args.second) (sym (ap (λ (x : Clauses). x.vars) c.append.ensures.rest)) is

-- the last clause of the other list is watched still
pub append-requires-2-clause-last : goal.append-requires-2-clause-last
append-requires-2-clause-last c = λ some e.
    let r = c.requires in
    let s = c.args.store.now in
    let t = c.args.trail.now in
    let s₁ = c.append.new.store in
    let first = literal_of_clause s.vars s.clauses c.args.id c.args.first c.vars-vars.ensures.over r.id r.first in
    let second = literal_of_clause s.vars s.clauses c.args.id c.args.second c.vars-vars.ensures.over r.id r.second in
    let same = (c.append.ensures.appends _ (last_node s t c.args.id c.args.first r.kept first)).tails c.args.second (λ f. r.differ (sym f)) in
    tail_ok s t c.args.id c.args.second r.kept second (λ f. some (same ∙ f)) (ap (watched_at s) (sym same) ∙ sym (ap (λ (x : Clauses). watched_at x (tail_of s₁ c.args.second)) c.append.ensures.rest) ∙ e)

pub set_watched-requires-clause-pair : goal.set_watched-requires-clause-pair
set_watched-requires-clause-pair c =
    let r = c.requires in
    let s = c.args.store.now in
    let first = literal_of_clause s.vars s.clauses c.args.id c.args.first c.vars-vars.ensures.over r.id r.first in
    let second = literal_of_clause s.vars s.clauses c.args.id c.args.second c.vars-vars.ensures.over r.id r.second in
    let same = sym (ap (λ (x : Clauses). x.vars) c.append-2.ensures.rest ∙ ap (λ (x : Clauses). x.vars) c.append.ensures.rest) in
    (subst (λ (v : ℕ). IsLiteral v c.args.first) same first, subst (λ (v : ℕ). IsLiteral v c.args.second) same second)

pub returns-clause-kept : goal.returns-clause-kept
returns-clause-kept c =
    let r = c.requires in
    let s = c.args.store.now in
    let first = literal_of_clause s.vars s.clauses c.args.id c.args.first c.vars-vars.ensures.over r.id r.first in
    let second = literal_of_clause s.vars s.clauses c.args.id c.args.second c.vars-vars.ensures.over r.id r.second in
    entered s c.append.new.store c.append-2.new.store c.set_watched.new.self c.args.trail.now c.args.id c.args.first c.args.second r.kept r.id r.live r.idle r.first r.second r.differ first second r.first_guard r.second_guard
    c.append.ensures.appends c.append.ensures.rest c.append-2.ensures.appends c.append-2.ensures.rest c.set_watched.ensures.set c.set_watched.ensures.others c.set_watched.ensures.rest

pub returns-clause-unparked : goal.returns-clause-unparked
returns-clause-unparked c =
    let third = c.set_watched.ensures.rest in
    let second = c.append-2.ensures.rest in
    let first = c.append.ensures.rest in
    unparked_same c.args.store.now c.set_watched.new.self (ap (λ (x : Clauses). x.vars) third ∙ ap (λ (x : Clauses). x.vars) second ∙ ap (λ (x : Clauses). x.vars) first)
    (ap (λ (x : Clauses). x.parks) third ∙ ap (λ (x : Clauses). x.parks) second ∙ ap (λ (x : Clauses). x.parks) first)
