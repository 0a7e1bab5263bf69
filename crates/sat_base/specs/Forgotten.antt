-- Forgetting: a clause that is forgotten stays under its id as it was, since hints name it, but is not live from there on.
use Rattle.std.specs.Prelude.{ℕ, ◌-◌, false, List, [], slice_index_or, slice_set}
use Rattle.sat_base.specs.Database.{StoredClause}

-- the same literals, not live
abbrev pub not_live : StoredClause → StoredClause
not_live c = record { lits = c.lits; live = false }

-- the clause of an id, of which the first is 1
abbrev pub named : List StoredClause → ℕ → StoredClause
named db id = slice_index_or db (id - 1) (record { lits = []; live = false })

-- the clauses behind the forgetting of that of an id
abbrev pub forgotten : List StoredClause → ℕ → List StoredClause
forgotten db id = slice_set db (id - 1) (not_live (named db id))
