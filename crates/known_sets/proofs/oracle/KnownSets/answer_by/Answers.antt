use Rattle.std.proofs.Common.{◌≡◌, List, ℕ, true, ap, sym, subst}
use Rattle.gm_base.specs.Sets.{IsGroupSet, IsSubset}
use Rattle.gm_base.specs.Problem.{Problem, Sat}
use Rattle.gm_base.specs.Evidence.{refutes}
use Rattle.gm_base.proofs.EvidenceLemmas.{refutes-sound}
use Rattle.evidence_rec.specs.Asking.{OracleState}
use Rattle.known_sets.proofs.oracle.KnownSets.answer_by.Goals as goal

-- what is refuted can't be satisfied
pub returns-clause-answer : goal.returns-clause-answer
returns-clause-answer g c = λ set left within.
    let p = (g.O.Oracle.state c.self.inside.oracle).problem in
    let known = c.args.known in
    let refuted : refutes p known.set known.evidence ≡ true =
    subst (λ (q : Problem). refutes q known.set known.evidence ≡ true) (sym (ap (λ (s : OracleState). s.problem) c.self.view_is)) c.requires.refuted in
    subst (λ (s : List ℕ). IsGroupSet s × IsSubset s set × (¬ Sat p s)) (sym c.in_ok-core.ensures) (
      c.as_slice-groups.ensures.ascends,
      within,
      refutes-sound p known.set known.evidence c.self.invariant.well_formed c.as_slice-groups.ensures.ascends refuted,
    )
