use Rattle.std.proofs.Common.{◌≡◌, ◌∙◌, List, ℕ, Option, Some, ap, sym, subst}
use Rattle.evidence_rec.specs.Asking.{refuted_by}
use Rattle.known_sets.specs.Inside.{refuted_set}
use Rattle.known_sets.proofs.oracle.remembered.Goals as goal

-- the assignment satisfies the set
pub returns-in-Sat-clause-right : goal.returns-in-Sat-clause-right
returns-in-Sat-clause-right g c = λ right.
    c.keep_satisfied.ensures (g.O.Oracle.state c.args.oracle.now).problem right (c.requires.satisfied c.in-Sat.assign c.in-Sat.is)

-- the core is the set that is refuted
pub keep-requires : goal.keep-requires
keep-requires g c = c.requires.refuted ∙ ap refuted_by c.in-Unsat.is

pub returns-in-Unsat-clause-set : goal.returns-in-Unsat-clause-set
returns-in-Unsat-clause-set g c =
    let core : (g.O.Oracle.state c.args.oracle.now).refuted ≡ Some c.in-Unsat.core = c.requires.refuted ∙ ap refuted_by c.in-Unsat.is in
    subst (λ (r : Option (List ℕ)). refuted_set r c.keep.result ≡ r) (sym core) c.keep.ensures.set ∙ c.requires.refuted

-- an empty purse leaves nothing
pub returns-in-Dry-clause-set : goal.returns-in-Dry-clause-set
returns-in-Dry-clause-set g c = ap refuted_by (sym c.in-Dry.is)
