use Rattle.cdcl_core.proofs.search.Search.leave.Goals as goal

-- what is planned says nothing of the trail
pub to_level-requires : goal.to_level-requires
to_level-requires c =
    let r = c.requires.search in
    record { assumed = c.requires.assumed; search = record { vars = r.vars; kept = r.kept; state = r.state; reached = r.reached; positive = r.positive } }
