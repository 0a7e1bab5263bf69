use Rattle.std.proofs.Common.{rules}
use Rattle.gcnf_text.proofs.ChainLemmas.{chain-is_problem}
use Rattle.gcnf_text.proofs.chain.make_case.Goals as goal

-- the clauses are those of a chain with these links
pub new-requires-clause-well_formed : goal.new-requires-clause-well_formed
new-requires-clause-well_formed c =
    let chain = chain-is_problem c.args.size c.in_ok-links.links.items c.in_ok-links.ensures.in_range in
    search (rules, chain)
