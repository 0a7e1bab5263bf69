use Rattle.std.proofs.Common.{[], sym, subst}
use Rattle.gm_io.specs.Resuming.{AreGoodFirst}
use Rattle.gm_io.specs.Numbered.{IsNumberedIn}
use Rattle.gm_io.proofs.NumberedLemmas.{accepted-alone}
use Rattle.gm_tool.proofs.export.texts_of.Goals as goal

-- a conflict that is accepted among the records is accepted alone
pub write_down-requires-clause-accepted : goal.write_down-requires-clause-accepted
write_down-requires-clause-accepted c =
    let p = c.args.problem.now in
    let records = c.as_slice.result.now in
    let good = subst (AreGoodFirst p) (sym c.as_slice.ensures) c.requires.shown in
    let h = subst (IsNumberedIn p records c.args.number) c.in-Some.is (c.in_ok-found.ensures p c.groups-groups.ensures.well_formed good) in
    accepted-alone p [] records c.in-Some.found.now good.accepted h.held h.kind
