-- Laws of acceptance: what it means, whoever made the evidence, and how it is kept where a list grows.
use Rattle.std.specs.Prelude.{List, [], ◌∷◌, ◌++◌}
use Rattle.std.specs.List.{AllByRecursion}
use Rattle.gm_base.specs.Problem.{Problem, IsProblem}
use Rattle.evidence_rec.specs.declared.record.Record.{Record}
use Rattle.evidence_rec.specs.Records.{IsAccepted, IsAcceptedAlone, AllAccepted, IsRight}

-- records that are accepted, each with those before it, are of minimal sets, whoever made them
abbrev pub AcceptedAreRight : Type 0
AcceptedAreRight = (p : Problem) (records : List Record) → IsProblem p → AllAccepted p records → AllByRecursion (IsRight p) records

-- behind records that are accepted, so is one that is accepted with them
abbrev pub AcceptedBehind : Type 0
AcceptedBehind =
    (p : Problem) (records : List Record) (r : Record)
    → AllAccepted p records
    → IsAccepted p records r
    → AllAccepted p (records ++ r ∷ [])

-- a record that is accepted with none before it is accepted in every list
abbrev pub AcceptedAlone : Type 0
AcceptedAlone = (p : Problem) (earlier : List Record) (r : Record) → IsAcceptedAlone p r → IsAccepted p earlier r
