use Rattle.std.proofs.Common.{rules, List, ℕ, IfSome, sym, subst}
use Rattle.gm_base.specs.Problem.{Problem}
use Rattle.evidence_rec.specs.declared.record.Record.{Record}
use Rattle.disk_frames.specs.Frames.{IsSettled}
use Rattle.disk_frames.specs.Salvage.{IsReadTo}
use Rattle.gm_journal.specs.Salvage.{HoldsRecords}
use Rattle.gm_journal.specs.Entries.{opening_of}
use Rattle.gm_journal.proofs.StartLemmas.{kept_opened, opened_on}
use Rattle.gm_journal.proofs.journal.Journal+D.start.Goals as goal

-- the disk was made ready for what a salvage found on it
pub open-requires-clause-kept : goal.open-requires-clause-kept
open-requires-clause-kept g c =
    let read =
    subst (λ (p : Problem). IfSome (g.D.Disk.state c.args.disk).reads (λ b. HoldsRecords p b c.of-2.result.value c.args.salvaged.gate c.args.salvaged.last)) (sym c.of.ensures)
    (subst (λ (rs : List Record). IfSome (g.D.Disk.state c.args.disk).reads (λ b. HoldsRecords c.args.problem.now b rs c.args.salvaged.gate c.args.salvaged.last)) (sym c.of-2.ensures) c.requires.read) in
    let opened : (texts : List (List ℕ)) → IsReadTo (g.D.Disk.state c.args.disk) texts c.args.salvaged.gate c.args.salvaged.last → IsSettled (g.D.Disk.state c.start.new.disk) texts c.args.salvaged.gate = search rules in
    kept_opened (g.D.Disk.state c.args.disk) (g.D.Disk.state c.start.new.disk)
    (opening_of c.of.result.value c.of-2.result.value c.args.seats (g.D.Disk.state c.of-ready.result.value))
    c.args.salvaged.gate c.args.salvaged.last read opened c.start.ensures.readied.tells

pub open-requires-clause-disk : goal.open-requires-clause-disk
open-requires-clause-disk g c =
    opened_on g.D.Disk.state c.start.new.disk c.of-ready.result.value c.of.result.value c.of-2.result.value c.args.seats c.of-ready.ensures
