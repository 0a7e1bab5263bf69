use Rattle.std.proofs.Common.{List, sym, subst}
use Rattle.evidence_rec.specs.declared.record.Record.{Record}
use Rattle.evidence_rec.specs.Index.{IsIndex}
use Rattle.gm_journal.specs.Following.{MayFollow}
use Rattle.gm_journal.specs.Judging.{Judged, Judges}
use Rattle.gm_journal.proofs.judging.RecordJudgeJudge.take.Goals as goal

-- the text may not stand behind records of the sets that are held
pub returns-in-None-clause-refused : goal.returns-in-None-clause-refused
returns-in-None-clause-refused c =
    λ same next follows.
    let judged : (records next : List Record) → IsIndex c.self.inside.held records → ¬ MayFollow c.self.inside.problem.now records c.args.text.now next =
    subst (Judges c.self.inside.problem.now c.self.inside.held c.args.text.now) c.in-None.is c.in_ok-found.ensures.judges in
    judged c.self.inside.records.items next c.self.invariant.index
    (subst (λ (j : Judged). MayFollow j.problem j.records c.args.text.now next) (sym c.self.view_is) follows)
