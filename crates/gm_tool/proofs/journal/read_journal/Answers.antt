use Rattle.gm_tool.proofs.JournalLemmas.{is-opened, stays, stops-foreign, stops-unread}
use Rattle.gm_tool.proofs.journal.read_journal.Goals as goal

-- what was salvaged stood there
pub returns-in-Salvaged-clause-opened : goal.returns-in-Salvaged-clause-opened
returns-in-Salvaged-clause-opened g c = λ held name faults reads count named.
    let w = c.in-Salvaged in
    is-opened g.D.Disk.state c.args.problem.now held faults c.args.disk.now c.salvage.new.disk reads count w.ensures.looks (g.met.D.Disk.lawful c.args.disk.now) name named w.salvaged w.ensures.told w.ensures.records w.ensures.accepted w.ensures.within w.ensures.cause

-- or something else did
pub returns-in-Foreign-clause-stopped : goal.returns-in-Foreign-clause-stopped
returns-in-Foreign-clause-stopped g c = λ held faults reads count.
    let w = c.in-Foreign in
    stops-foreign g.D.Disk.state c.args.problem.now held faults c.args.disk.now c.salvage.new.disk reads count w.ensures.looks w.at c.refuse_journal.result w.ensures.told w.ensures.cause c.refuse_journal.ensures

-- it could not be read
pub returns-in-Failed-clause-stopped : goal.returns-in-Failed-clause-stopped
returns-in-Failed-clause-stopped g c = λ held faults reads count.
    stops-unread g.D.Disk.state c.args.problem.now held faults c.args.disk.now c.salvage.new.disk reads count c.in-Failed.ensures.looks c.in-Failed.ensures.cause

-- or memory was wanting for it
pub returns-in-Memory-clause-stopped : goal.returns-in-Memory-clause-stopped
returns-in-Memory-clause-stopped g c = λ held faults reads count.
    stays g.D.Disk.state c.args.problem.now held faults c.args.disk.now c.salvage.new.disk reads count c.in-Memory.ensures.looks
