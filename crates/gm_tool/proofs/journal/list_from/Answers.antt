use Rattle.std.proofs.Common.{◌∙◌, inl, inr, refl, subst, sym}
use Rattle.gm_words.specs.Requests.{text_of}
use Rattle.gm_io.specs.Outside.{outside}
use Rattle.gm_io.specs.Resuming.{AreGoodFirst}
use Rattle.gm_tool.proofs.JournalLemmas.{keeps-ended, stays-readied, stays-unbegun}
use Rattle.gm_tool.proofs.KeptLemmas.{begun-by, is-ready}
use Rattle.gm_tool.proofs.journal.list_from.Goals as goal

-- memory was wanting
pub returns-in_default : goal.returns-in_default
returns-in_default g c = (refl, inl (refl, refl, inl (stays-unbegun g.D.Disk.state c.args.problem.now c.args.disk)))

-- the journal is opened with the records that were read of it
pub enumerate_into-kept-requires-clause-first : goal.enumerate_into-kept-requires-clause-first
enumerate_into-kept-requires-clause-first g c κs within = subst (AreGoodFirst c.args.problem.now) (sym c.in-Opened.ensures.2) c.requires.first

pub enumerate_into-kept-requires-clause-ready : goal.enumerate_into-kept-requires-clause-ready
enumerate_into-kept-requires-clause-ready g c κs within =
    let h = c.in-Opened.ensures in
    let faults = (g.D.Disk.state c.args.disk).faults in
    is-ready c.args.problem.now c.args.salvaged.records c.in-Opened.records c.args.bounds faults (record { journal = c.in-Opened.journal; seats = c.in-Opened.seats })
    (begun-by c.args.problem.now c.args.salvaged.records c.args.bounds.jobs faults (g.D.Disk.state h.3.0) c.in-Opened.journal.opening h.0 h.3.1 h.3.4) h.1 h.2

pub end_listing-ending-requires-clause-left : goal.end_listing-ending-requires-clause-left
end_listing-ending-requires-clause-left g c = (c.in-Opened.records, c.enumerate_into-kept.ensures.left)

-- it is listed
pub returns-in-Opened : goal.returns-in-Opened
returns-in-Opened g c =
    let old = outside (g.F.Files.state c.args.files.now) (g.O.Sink.got c.args.out.now) (g.O.Sink.faults c.args.out.now) in
    let new = outside (g.F.Files.state c.end_listing-ending.new.files) (g.O.Sink.got c.end_listing-ending.new.out) (g.O.Sink.faults c.end_listing-ending.new.out) in
    let records = c.in-Opened.records in
    let kept = c.enumerate_into-kept in
    let h = c.in-Opened.ensures in
    keeps-ended g.D.Disk.state c.args.problem.now c.args.bounds (text_of c.args.evidence) records old new c.end_listing-ending.result c.args.disk c.args.salvaged.records
    c.in-Opened.journal.opening.faults c.in-Opened.journal.opening.name kept.result h.2 (sym h.3.1.faults ∙ h.3.4) (sym h.3.1.name ∙ h.3.2.name) kept.ensures
    c.end_listing-ending.ensures.closing (c.end_listing-ending.ensures.kept records kept.ensures.left)

-- the journal could not be begun
pub returns-in-Failed : goal.returns-in-Failed
returns-in-Failed g c =
    let h = c.in-Failed.ensures in
    (h.0.name, inr (inl (h.1, refl, inl (refl, stays-readied g.D.Disk.state c.args.problem.now c.args.salvaged c.args.disk c.in-Failed.disk c.requires.read h.0))))

pub returns-in-Memory : goal.returns-in-Memory
returns-in-Memory g c =
    let h = c.in-Memory.ensures in
    (h.0.name, inl (refl, refl, inl (stays-readied g.D.Disk.state c.args.problem.now c.args.salvaged c.args.disk c.in-Memory.disk c.requires.read h.0)))
