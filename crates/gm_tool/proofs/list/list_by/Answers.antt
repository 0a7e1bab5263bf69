use Rattle.std.proofs.Common.{ap, refl, subst, sym, Some}
use Rattle.gm_words.specs.Reading.{Listing}
use Rattle.gm_words.specs.Requests.{text_of}
use Rattle.gm_io.specs.Outside.{outside}
use Rattle.gm_tool.specs.Journaled.{EndsJournaled}
use Rattle.gm_tool.proofs.JournalLemmas.{lists-plain, lists-journaled}
use Rattle.gm_tool.proofs.list.list_by.Goals as goal

-- the disk stays where there is no journal
pub returns-in-None : goal.returns-in-None
returns-in-None g c =
    let a = c.args.listing in
    let l : Listing =
    record { file = a.file.now; jobs = a.jobs; conflicts = a.conflicts; limit = a.limit; evidence = text_of a.evidence; resume = text_of a.resume; journal = text_of a.journal; focus = a.focus } in
    let old = outside (g.F.Files.state c.args.files.now) (g.O.Sink.got c.args.out.now) (g.O.Sink.faults c.args.out.now) in
    let new = outside (g.F.Files.state c.list_file-ending.new.files) (g.O.Sink.got c.list_file-ending.new.out) (g.O.Sink.faults c.list_file-ending.new.out) in
    lists-plain g.D.Disk.state c.args.disk c.args.disk old new c.list_file-ending.result l (ap text_of c.in-None.is) refl c.list_file-ending.ensures

-- or it is told of
pub returns-in-Some : goal.returns-in-Some
returns-in-Some g c =
    let a = c.args.listing in
    let l : Listing =
    record { file = a.file.now; jobs = a.jobs; conflicts = a.conflicts; limit = a.limit; evidence = text_of a.evidence; resume = text_of a.resume; journal = text_of a.journal; focus = a.focus } in
    let old = outside (g.F.Files.state c.args.files.now) (g.O.Sink.got c.args.out.now) (g.O.Sink.faults c.args.out.now) in
    let new = outside (g.F.Files.state c.list_journaled.new.files) (g.O.Sink.got c.list_journaled.new.out) (g.O.Sink.faults c.list_journaled.new.out) in
    let name = c.in-Some.name.now in
    lists-journaled g.D.Disk.state c.args.disk c.list_journaled.result.1 old new c.list_journaled.result.0 l name (ap text_of c.in-Some.is)
    (subst (λ j. EndsJournaled g.D.Disk.state (record l { journal = j }) name c.args.disk c.list_journaled.result.1 old new c.list_journaled.result.0) (sym (ap text_of c.in-Some.is)) c.list_journaled.ensures)
