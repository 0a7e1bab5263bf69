use Rattle.std.proofs.Common.{◌≡◌, Some, None, ap, refl, subst, sym, ◌∙◌}
use Rattle.gm_io.specs.Endings.{finish_of, line_of}
use Rattle.gm_io.specs.Outside.{GetsLine, outside}
use Rattle.gm_tool.specs.Journaled.{IsJournaled}
use Rattle.gm_tool.specs.Words.{IsDone, asked_in, journal_in}
use Rattle.gm_tool.proofs.GetsLemmas.{answered}
use Rattle.gm_tool.proofs.JournalLemmas.{journaled-gets, with, without}
use Rattle.gm_tool.proofs.program.run.Goals as goal

-- what holds of a command holds when its line is written
pub returns-clause-every : goal.returns-clause-every
returns-clause-every g c = λ none.
    let old = (outside (g.F.Files.state c.args.files.now) (g.O.Sink.got c.args.out.now) (g.O.Sink.faults c.args.out.now)) in
    let new = (outside (g.F.Files.state c.obey-ending.new.files) (g.O.Sink.got c.obey-ending.new.out) (g.O.Sink.faults c.obey-ending.new.out)) in
    let Has = GetsLine (g.E.Sink.got c.args.err.now) (g.E.Sink.got c.write_error_line.new.err) (g.E.Sink.faults c.args.err.now) (g.E.Sink.faults c.write_error_line.new.err) in
    let asked = asked_in c.args.words.now in
    let h = answered asked old new Has c.obey-ending.result.0 c.finish_of.result (without g.D.Disk.state c.args.disk c.obey-ending.result.1 old new c.obey-ending.result.0 asked none c.obey-ending.ensures).1 c.write_error_line.ensures c.finish_of.ensures in
    h.every

pub returns-clause-listing : goal.returns-clause-listing
returns-clause-listing g c = λ l is plain.
    let none = ap journal_in is ∙ plain in
    let old = (outside (g.F.Files.state c.args.files.now) (g.O.Sink.got c.args.out.now) (g.O.Sink.faults c.args.out.now)) in
    let new = (outside (g.F.Files.state c.obey-ending.new.files) (g.O.Sink.got c.obey-ending.new.out) (g.O.Sink.faults c.obey-ending.new.out)) in
    let Has = GetsLine (g.E.Sink.got c.args.err.now) (g.E.Sink.got c.write_error_line.new.err) (g.E.Sink.faults c.args.err.now) (g.E.Sink.faults c.write_error_line.new.err) in
    let asked = asked_in c.args.words.now in
    let h = answered asked old new Has c.obey-ending.result.0 c.finish_of.result (without g.D.Disk.state c.args.disk c.obey-ending.result.1 old new c.obey-ending.result.0 asked none c.obey-ending.ensures).1 c.write_error_line.ensures c.finish_of.ensures in
    subst (λ asked. IsDone asked old new Has c.finish_of.result) is h.done

pub returns-clause-checking : goal.returns-clause-checking
returns-clause-checking g c = λ k is.
    let none = ap journal_in is in
    let old = (outside (g.F.Files.state c.args.files.now) (g.O.Sink.got c.args.out.now) (g.O.Sink.faults c.args.out.now)) in
    let new = (outside (g.F.Files.state c.obey-ending.new.files) (g.O.Sink.got c.obey-ending.new.out) (g.O.Sink.faults c.obey-ending.new.out)) in
    let Has = GetsLine (g.E.Sink.got c.args.err.now) (g.E.Sink.got c.write_error_line.new.err) (g.E.Sink.faults c.args.err.now) (g.E.Sink.faults c.write_error_line.new.err) in
    let asked = asked_in c.args.words.now in
    let h = answered asked old new Has c.obey-ending.result.0 c.finish_of.result (without g.D.Disk.state c.args.disk c.obey-ending.result.1 old new c.obey-ending.result.0 asked none c.obey-ending.ensures).1 c.write_error_line.ensures c.finish_of.ensures in
    subst (λ asked. IsDone asked old new Has c.finish_of.result) is h.done

pub returns-clause-drilling : goal.returns-clause-drilling
returns-clause-drilling g c = λ d is.
    let none = ap journal_in is in
    let old = (outside (g.F.Files.state c.args.files.now) (g.O.Sink.got c.args.out.now) (g.O.Sink.faults c.args.out.now)) in
    let new = (outside (g.F.Files.state c.obey-ending.new.files) (g.O.Sink.got c.obey-ending.new.out) (g.O.Sink.faults c.obey-ending.new.out)) in
    let Has = GetsLine (g.E.Sink.got c.args.err.now) (g.E.Sink.got c.write_error_line.new.err) (g.E.Sink.faults c.args.err.now) (g.E.Sink.faults c.write_error_line.new.err) in
    let asked = asked_in c.args.words.now in
    let h = answered asked old new Has c.obey-ending.result.0 c.finish_of.result (without g.D.Disk.state c.args.disk c.obey-ending.result.1 old new c.obey-ending.result.0 asked none c.obey-ending.ensures).1 c.write_error_line.ensures c.finish_of.ensures in
    subst (λ asked. IsDone asked old new Has c.finish_of.result) is h.done

pub returns-clause-exporting : goal.returns-clause-exporting
returns-clause-exporting g c = λ x is.
    let none = ap journal_in is in
    let old = (outside (g.F.Files.state c.args.files.now) (g.O.Sink.got c.args.out.now) (g.O.Sink.faults c.args.out.now)) in
    let new = (outside (g.F.Files.state c.obey-ending.new.files) (g.O.Sink.got c.obey-ending.new.out) (g.O.Sink.faults c.obey-ending.new.out)) in
    let Has = GetsLine (g.E.Sink.got c.args.err.now) (g.E.Sink.got c.write_error_line.new.err) (g.E.Sink.faults c.args.err.now) (g.E.Sink.faults c.write_error_line.new.err) in
    let asked = asked_in c.args.words.now in
    let h = answered asked old new Has c.obey-ending.result.0 c.finish_of.result (without g.D.Disk.state c.args.disk c.obey-ending.result.1 old new c.obey-ending.result.0 asked none c.obey-ending.ensures).1 c.write_error_line.ensures c.finish_of.ensures in
    subst (λ asked. IsDone asked old new Has c.finish_of.result) is h.done

pub returns-clause-roles : goal.returns-clause-roles
returns-clause-roles g c = λ a is.
    let none = ap journal_in is in
    let old = (outside (g.F.Files.state c.args.files.now) (g.O.Sink.got c.args.out.now) (g.O.Sink.faults c.args.out.now)) in
    let new = (outside (g.F.Files.state c.obey-ending.new.files) (g.O.Sink.got c.obey-ending.new.out) (g.O.Sink.faults c.obey-ending.new.out)) in
    let Has = GetsLine (g.E.Sink.got c.args.err.now) (g.E.Sink.got c.write_error_line.new.err) (g.E.Sink.faults c.args.err.now) (g.E.Sink.faults c.write_error_line.new.err) in
    let asked = asked_in c.args.words.now in
    let h = answered asked old new Has c.obey-ending.result.0 c.finish_of.result (without g.D.Disk.state c.args.disk c.obey-ending.result.1 old new c.obey-ending.result.0 asked none c.obey-ending.ensures).1 c.write_error_line.ensures c.finish_of.ensures in
    subst (λ asked. IsDone asked old new Has c.finish_of.result) is h.done

pub returns-clause-carrying : goal.returns-clause-carrying
returns-clause-carrying g c = λ k is.
    let none = ap journal_in is in
    let old = (outside (g.F.Files.state c.args.files.now) (g.O.Sink.got c.args.out.now) (g.O.Sink.faults c.args.out.now)) in
    let new = (outside (g.F.Files.state c.obey-ending.new.files) (g.O.Sink.got c.obey-ending.new.out) (g.O.Sink.faults c.obey-ending.new.out)) in
    let Has = GetsLine (g.E.Sink.got c.args.err.now) (g.E.Sink.got c.write_error_line.new.err) (g.E.Sink.faults c.args.err.now) (g.E.Sink.faults c.write_error_line.new.err) in
    let asked = asked_in c.args.words.now in
    let h = answered asked old new Has c.obey-ending.result.0 c.finish_of.result (without g.D.Disk.state c.args.disk c.obey-ending.result.1 old new c.obey-ending.result.0 asked none c.obey-ending.ensures).1 c.write_error_line.ensures c.finish_of.ensures in
    subst (λ asked. IsDone asked old new Has c.finish_of.result) is h.done

pub returns-clause-without_reading : goal.returns-clause-without_reading
returns-clause-without_reading g c = λ is.
    let none = ap journal_in is in
    let old = (outside (g.F.Files.state c.args.files.now) (g.O.Sink.got c.args.out.now) (g.O.Sink.faults c.args.out.now)) in
    let new = (outside (g.F.Files.state c.obey-ending.new.files) (g.O.Sink.got c.obey-ending.new.out) (g.O.Sink.faults c.obey-ending.new.out)) in
    let Has = GetsLine (g.E.Sink.got c.args.err.now) (g.E.Sink.got c.write_error_line.new.err) (g.E.Sink.faults c.args.err.now) (g.E.Sink.faults c.write_error_line.new.err) in
    let asked = asked_in c.args.words.now in
    let h = answered asked old new Has c.obey-ending.result.0 c.finish_of.result (without g.D.Disk.state c.args.disk c.obey-ending.result.1 old new c.obey-ending.result.0 asked none c.obey-ending.ensures).1 c.write_error_line.ensures c.finish_of.ensures in
    subst (λ asked. IsDone asked old new Has c.finish_of.result) is h.done

-- so does what holds of a journal
pub returns-clause-journaled : goal.returns-clause-journaled
returns-clause-journaled g c = λ l name is named.
    let old = (outside (g.F.Files.state c.args.files.now) (g.O.Sink.got c.args.out.now) (g.O.Sink.faults c.args.out.now)) in
    let new = (outside (g.F.Files.state c.obey-ending.new.files) (g.O.Sink.got c.obey-ending.new.out) (g.O.Sink.faults c.obey-ending.new.out)) in
    let Has = GetsLine (g.E.Sink.got c.args.err.now) (g.E.Sink.got c.write_error_line.new.err) (g.E.Sink.faults c.args.err.now) (g.E.Sink.faults c.write_error_line.new.err) in
    let e = c.obey-ending.result.0 in
    let h = with g.D.Disk.state c.args.disk c.obey-ending.result.1 old new e (asked_in c.args.words.now) l name is named c.obey-ending.ensures in
    subst (IsJournaled g.D.Disk.state l name c.args.disk c.obey-ending.result.1 old new Has) (sym c.finish_of.ensures)
    (journaled-gets (λ told. line_of e ≡ told) Has (λ told same. subst Has same c.write_error_line.ensures) g.D.Disk.state l name c.args.disk c.obey-ending.result.1 old new (finish_of e) h)

-- a command without a journal leaves the disk
pub returns-clause-untouched : goal.returns-clause-untouched
returns-clause-untouched g c = λ none.
    let old = (outside (g.F.Files.state c.args.files.now) (g.O.Sink.got c.args.out.now) (g.O.Sink.faults c.args.out.now)) in
    let new = (outside (g.F.Files.state c.obey-ending.new.files) (g.O.Sink.got c.obey-ending.new.out) (g.O.Sink.faults c.obey-ending.new.out)) in
    ap Some (without g.D.Disk.state c.args.disk c.obey-ending.result.1 old new c.obey-ending.result.0 (asked_in c.args.words.now) none c.obey-ending.ensures).0
