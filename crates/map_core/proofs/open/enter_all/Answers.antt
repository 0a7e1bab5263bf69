use Rattle.std.proofs.Common.{length, take, refl}
use Rattle.std.proofs.lemmas.Option.{slice_get_read}
use Rattle.evidence_rec.specs.Records.{founds}
use Rattle.map_core.proofs.open.enter_all.Goals as goal

-- the tally is of the records so far
pub enter-requires-clause-may : goal.enter-requires-clause-may
enter-requires-clause-may g c =
    let records = c.args.records.now in
    let at = c.loop-r.r-index in
    record {
      groups = (g.M.MapEngine.state c.args.engine.now).groups;
      sets = founds (take at records);
      tallies = c.loop-r.invariant.tallies;
      within = c.requires.within.at at c.r-item.result (slice_get_read records (length records) at c.r-item.result refl c.loop-r-test.true c.r-item.is);
    }
