use Rattle.std.proofs.Common.{List, [], sym, ◌∙◌, ap, subst}
use Rattle.gm_base.specs.Problem.{Problem}
use Rattle.evidence_rec.specs.declared.record.Record.{Record}
use Rattle.evidence_rec.specs.Records.{AllAccepted}
use Rattle.evidence_rec.proofs.AcceptedLemmas.{accepted-at}
use Rattle.map_core.specs.Opens.{IsWithin}
use Rattle.map_core.specs.Tallies.{Tallies}
use Rattle.map_core.proofs.calls.MapCore.start.Goals as goal

within-accepted : (p : Problem) (records : List Record) → AllAccepted p records → IsWithin p.groups records
within-accepted p records all = record { at = λ at r is. (accepted-at p records at r all is).1.within }

-- the sets of accepted records have groups of the problem alone
pub enter_all-requires-clause-within : goal.enter_all-requires-clause-within
enter_all-requires-clause-within g c =
    subst (IsWithin (g.M.MapEngine.state c.args.engine).groups) (sym (c.as_slice.ensures.value ∙ c.into_vec-records.ensures))
    (subst (λ n. IsWithin n c.args.records) (sym c.requires.groups) (within-accepted c.args.problem.now c.args.records c.requires.opening.accepted))

-- before the first record nothing is found
pub enter_all-requires-clause-tally : goal.enter_all-requires-clause-tally
enter_all-requires-clause-tally g c =
    subst (λ n. Tallies c.args.goal n [] c.in_ok-tally.tally) (sym c.requires.groups)
    (subst (λ n. Tallies c.args.goal n [] c.in_ok-tally.tally) (c.groups.ensures.count ∙ ap (λ (p : Problem). p.groups) c.in_ok-problem.ensures) c.in_ok-tally.ensures)
