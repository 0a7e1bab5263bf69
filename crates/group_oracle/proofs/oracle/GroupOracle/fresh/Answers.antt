use Rattle.std.proofs.Common.{refl}
use Rattle.group_oracle.specs.Selectors.{problem_of}
use Rattle.group_oracle.proofs.SelectorLemmas.{honest_new, learned_new}
use Rattle.group_oracle.proofs.oracle.GroupOracle.fresh.Goals as goal

-- the log has the clauses of the problem behind it, and nothing else
pub invariant_of-result : goal.invariant_of-result
invariant_of-result c =
    let log = c.args.solver.log in
    record {
      vars = c.requires.vars;
      small = c.requires.small;
      well_formed = c.requires.well_formed;
      honest = honest_new (problem_of c.args.vars c.args.groups log) log c.requires.given;
      refuted = tt;
    }

pub returns : goal.returns
returns c =
    let log = c.args.solver.log in
    let p = problem_of c.args.vars c.args.groups log in
    record {
      problem = refl;
      honest = honest_new p log c.requires.given;
      learned = learned_new p log c.requires.given;
      refuted = refl;
      asks = refl;
    }
