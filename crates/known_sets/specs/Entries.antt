-- What a set that is remembered says with its evidence.
use Rattle.std.specs.Prelude.{◌≡◌, true, List, Bool}
use Rattle.sat_base.specs.Derivation.{Derivation}
use Rattle.gm_base.specs.Sets.{complement}
use Rattle.gm_base.specs.Problem.{Problem}
use Rattle.gm_base.specs.Evidence.{refutes, is_witness}
use Rattle.known_sets.specs.declared.entry.Entry.{Entry}

-- its derivation refutes the set
abbrev pub IsRefuted : Problem → Entry Derivation → Type 0
IsRefuted p e = refutes p e.set e.evidence ≡ true

-- its assignment satisfies the background and all groups outside the set
abbrev pub IsSatisfied : Problem → Entry (List Bool) → Type 0
IsSatisfied p e = is_witness p (complement p.groups e.set) e.evidence ≡ true
