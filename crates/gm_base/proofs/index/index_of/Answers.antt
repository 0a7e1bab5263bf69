use Rattle.std.proofs.Common.{◌≡◌, ◌++◌, ◌∷◌, [], arith, rules}
use Rattle.std.proofs.lemmas.List.Sorted.{IsNonDecreasingBy-from_sort_by_key}
use Rattle.gm_base.specs.declared.index.Placed.{Placed}
use Rattle.gm_base.proofs.IndexLemmas.{IsIndexUpTo-start, IsIndexUpTo-next, IsIndex-sorted}
use Rattle.gm_base.proofs.index.index_of.Goals as goal

pub loop-clause-init : goal.loop-clause-init
loop-clause-init c = IsIndexUpTo-start c.args.clauses.now c.in_ok-index.index.items c.in_ok-index.ensures.items

-- the place of the next clause is the number of those before it
pub loop-clause-preserved : goal.loop-clause-preserved
loop-clause-preserved c =
    let place : c.in-Ok.at ≡ c.loop-clause.clause-index = omega (arith, c.in-Ok.ensures, c.loop-clause.invariant.len) in
    let pushed : c.push.new.self.items ≡ c.loop-clause.index.items ++ record { group = c.clause-item.result.group; at = c.loop-clause.clause-index } ∷ [] = cc (c.in_ok-push.ensures.items, place) in
    IsIndexUpTo-next c.args.clauses.now c.loop-clause.clause-index c.loop-clause.index.items c.push.new.self.items c.clause-item.result c.loop-clause.invariant (omega arith) c.clause-item.is pushed

pub returns : goal.returns
returns c =
    IsIndex-sorted c.args.clauses.now c.loop-clause.clause-index c.loop-clause.index.items c.sort_unstable_by_key.new.self.items c.loop-clause.invariant (omega arith)
    c.sort_unstable_by_key.ensures.permutation
    (IsNonDecreasingBy-from_sort_by_key (λ (p : Placed). p.group) c.sort_unstable_by_key.new.self.items c.sort_unstable_by_key.ensures.sorted (λ a r q k. search rules))
