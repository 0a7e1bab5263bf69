use Rattle.std.proofs.Common.{inl, inr, refl}
use Rattle.gm_tool.proofs.JournalLemmas.{good-opened}
use Rattle.gm_tool.proofs.journal.list_into.Goals as goal

pub list_from-requires-clause-first : goal.list_from-requires-clause-first
list_from-requires-clause-first g c κs within = good-opened _ _ _ _ _ _ _ c.in-Ok.ensures.opened

-- it is listed from the records of the journal
pub returns-in-Ok : goal.returns-in-Ok
returns-in-Ok g c =
    let o = c.in-Ok.ensures.opened in
    inr (record { first = c.in-Ok.salvaged.records; salvaged = o.salvaged; opened = c.open_journal.new.disk; stays = o.stays; lawful = o.lawful; named = o.named; quiet = o.quiet; keeps = c.list_from.ensures })

-- or it was not opened
pub returns-in-Err : goal.returns-in-Err
returns-in-Err g c = inl (c.in-Err.ensures.stopped, refl)
