use Rattle.std.proofs.Common.{◌∙◌, refl, subst}
use Rattle.gm_ports.specs.Told.{ToldAppends, ToldGrowsWithin}
use Rattle.gm_tool.proofs.CheckLemmas.{report_with, shown_report-from}
use Rattle.gm_tool.proofs.check.write_shown.Goals as goal

-- the report of the records' sets is written
pub returns-in-Ok-write_all : goal.returns-in-Ok-write_all
returns-in-Ok-write_all g c = λ files.
    let made = report_with c.groups-groups.result c.args.complete c.args.complete c.as_slice.result.now c.args.records.now c.in-Ok.text.items refl c.as_slice.ensures c.in-Ok.ensures in
    let is = shown_report-from c.args.problem.now c.args.complete c.requires.0 c.args.records.now c.in-Ok.text.items c.groups-groups.result
    c.groups-groups.ensures.well_formed c.requires.1 c.groups-groups.ensures.count made in (
      subst (λ text. ToldAppends (g.O.Sink.got c.args.out.now) (g.O.Sink.got c.write_all.new.sink) text) (c.as_slice-2.ensures.value ∙ is) c.in-Ok-write_all.ensures.whole,
      c.in-Ok-write_all.ensures.quiet,
    )

-- or a front part of it
pub returns : goal.returns
returns g c = λ files.
    let made = report_with c.groups-groups.result c.args.complete c.args.complete c.as_slice.result.now c.args.records.now c.in-Ok.text.items refl c.as_slice.ensures c.in-Ok.ensures in
    let is = shown_report-from c.args.problem.now c.args.complete c.requires.0 c.args.records.now c.in-Ok.text.items c.groups-groups.result
    c.groups-groups.ensures.well_formed c.requires.1 c.groups-groups.ensures.count made in (
      subst (λ text. ToldGrowsWithin (g.O.Sink.got c.args.out.now) (g.O.Sink.got c.write_all.new.sink) text) (c.as_slice-2.ensures.value ∙ is) c.in-Err.ensures.failed,
      c.in-Err.ensures.cause,
    )
