use Rattle.known_sets.specs.Entries.{IsSatisfied}
use Rattle.known_sets.proofs.MemoryLemmas.{All-inserted, is_witness-complement}
use Rattle.known_sets.proofs.satisfied.SatisfiedSets.insert_set.Goals as goal

-- a satisfied set is kept by its complement
pub returns : goal.returns
returns c = λ p same h all.
    let out = c.in_ok-out.out in
    let assign = c.in_ok-assign.assign in
    All-inserted (IsSatisfied p) c.insert.result c.args.self.now c.insert.new.self (record { set = out; evidence = assign }) c.insert.ensures.ok c.insert.ensures.err all
    (is_witness-complement p c.args.groups c.args.set.now out c.args.assign.now assign same c.in_ok-out.ensures c.in_ok-assign.ensures h)
