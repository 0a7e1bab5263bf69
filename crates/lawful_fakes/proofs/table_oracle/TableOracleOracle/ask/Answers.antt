use Rattle.std.proofs.Common.{List, ℕ, subst, sym}
use Rattle.gm_base.specs.Sets.{IsGroupSet, IsSubset}
use Rattle.gm_base.specs.Problem.{Sat}
use Rattle.lawful_fakes.specs.Table.{IsRefutation}
use Rattle.lawful_fakes.proofs.TableLemmas.{refuted_unsat}
use Rattle.lawful_fakes.proofs.table_oracle.TableOracleOracle.ask.Goals as goal

-- what is refuted can't be satisfied
pub returns-clause-answer : goal.returns-clause-answer
returns-clause-answer c =
    let p = c.self.inside.problem in
    let r = c.in_ok-refuted.refuted in
    let found : IsRefutation p c.args.set.now r.set r.proof = c.in_ok-refuted.ensures in
    subst (λ (s : List ℕ). IsGroupSet s × IsSubset s c.args.set.now × (¬ Sat p s)) (sym c.in_ok-core.ensures)
    (found.is_set, found.within, refuted_unsat p c.args.set.now r.set r.proof c.groups-groups.ensures.well_formed found)
