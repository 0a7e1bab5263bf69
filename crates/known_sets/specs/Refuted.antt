-- What the refuted sets say that are remembered.
use Rattle.std.specs.Prelude.{All, IfSome}
use Rattle.gm_base.specs.Problem.{Problem}
use Rattle.known_sets.specs.declared.refuted.RefutedSets.{RefutedSets}
use Rattle.known_sets.specs.Entries.{IsRefuted}

-- each is refuted, the one that is held apart too
pub record AreRefuted (p : Problem) (r : RefutedSets) : Type 0 where
  pub sets : All (IsRefuted p) r.sets
  pub held : IfSome r.held (IsRefuted p)
