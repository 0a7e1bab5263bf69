-- What a derivation shows of a level, what is held then, and what is known of sets that are not.
use Rattle.std.specs.Prelude.{◌≡◌, ℕ, ◌<◌, ◌≤◌, true, false, List, [], length}
use Rattle.std.specs.List.Sorted.{IsPermutation}
use Rattle.sat_base.specs.Derivation.{Derivation}
use Rattle.gm_base.specs.Sets.{IsGroupSet, IsSubset, all_groups}
use Rattle.gm_base.specs.Problem.{Problem, IsProblem}
use Rattle.gm_base.specs.declared.kind.Kind.{Kind}
use Rattle.gm_base.specs.Explored.{Found}
use Rattle.evidence_rec.specs.declared.record.Record.{Record}
use Rattle.evidence_rec.specs.Records.{founds, AllAccepted}
use Rattle.evidence_rec.specs.Held.{is_held, AreNew}
use Rattle.size_levels.specs.Sizes.{IsOfKind, minimal_sets, sets_of_kind, up_to, by_size, level_for, AreSetsOf, ExploredUpTo, HoldsUpTo, packed}
use Rattle.size_levels.specs.Shown.{shows_level}

-- a derivation over a level's clauses shows that each set at which so few groups count is explored, whoever made it
abbrev pub LevelExplores : Type 0
LevelExplores =
    (kind : Kind) (groups most : ℕ) (found : List Found) (d : Derivation)
    → AreSetsOf groups found
    → shows_level kind groups most found d ≡ true
    → ExploredUpTo kind groups most found

-- and where each such set is explored, there is a derivation that shows it
abbrev pub ExploredIsShown : Type 0
ExploredIsShown =
    (kind : Kind) (groups most : ℕ) (found : List Found)
    → AreSetsOf groups found
    → ExploredUpTo kind groups most found
    → (d : Derivation) × (shows_level kind groups most found d ≡ true)

-- accepted records have sets of the problem
abbrev pub AcceptedAreOfProblem : Type 0
AcceptedAreOfProblem = (p : Problem) (records : List Record) → AllAccepted p records → AreSetsOf p.groups (founds records)

-- of accepted records the same holds
abbrev pub LevelOfRecords : Type 0
LevelOfRecords =
    (kind : Kind) (p : Problem) (most : ℕ) (records : List Record) (d : Derivation)
    → AllAccepted p records
    → shows_level kind p.groups most (founds records) d ≡ true
    → ExploredUpTo kind p.groups most (founds records)

-- and the other way round
abbrev pub RecordsAreShown : Type 0
RecordsAreShown =
    (kind : Kind) (p : Problem) (most : ℕ) (records : List Record)
    → AllAccepted p records
    → ExploredUpTo kind p.groups most (founds records)
    → (d : Derivation) × (shows_level kind p.groups most (founds records) d ≡ true)

-- where accepted records explore each set at which so few groups count, they hold each minimal set with so few groups
abbrev pub ExploredHoldsUpTo : Type 0
ExploredHoldsUpTo =
    (kind : Kind) (p : Problem) (most : ℕ) (records : List Record)
    → IsProblem p
    → AllAccepted p records
    → ExploredUpTo kind p.groups most (founds records)
    → HoldsUpTo p records kind most

-- then each minimal set of the kind that is not held has more groups
abbrev pub MissingIsLarger : Type 0
MissingIsLarger =
    (kind : Kind) (p : Problem) (most : ℕ) (records : List Record) (set : List ℕ)
    → HoldsUpTo p records kind most
    → IsGroupSet set
    → IsSubset set (all_groups p.groups)
    → IsOfKind p kind set
    → is_held records kind set ≡ false
    → most < length set

-- and the sets with so few groups that distinct records are about are exactly the minimal ones with so few
abbrev pub HeldAreExactlyUpTo : Type 0
HeldAreExactlyUpTo =
    (kind : Kind) (p : Problem) (most : ℕ) (records : List Record)
    → IsProblem p
    → AllAccepted p records
    → AreNew [] records
    → HoldsUpTo p records kind most
    → IsPermutation (up_to most (sets_of_kind records kind)) (up_to most (minimal_sets p kind))

-- the list in order of size has the sets with few groups, each as often
abbrev pub BySizeHasAll : Type 0
BySizeHasAll = (most : ℕ) (sets : List (List ℕ)) → IsPermutation (by_size most sets) (up_to most sets)

-- up to that size there are as many as wanted, if the problem has as many groups or more, and up to no lesser one
pub record IsLevelFor (p : Problem) (kind : Kind) (wanted size : ℕ) : Type 0 where
  pub within : size ≤ p.groups
  pub enough : size < p.groups → wanted ≤ length (up_to size (minimal_sets p kind))
  pub least : (lesser : ℕ) → lesser < size → length (up_to lesser (minimal_sets p kind)) < wanted

abbrev pub LevelForIsLeast : Type 0
LevelForIsLeast = (p : Problem) (kind : Kind) (wanted : ℕ) → IsLevelFor p kind wanted (level_for p kind wanted)

-- no minimal set has fewer groups than sets without a common group are packed
abbrev pub PackedAreFewer : Type 0
PackedAreFewer =
    (kind : Kind) (p : Problem) (records : List Record) (set : List ℕ)
    → IsProblem p
    → AllAccepted p records
    → IsSubset set (all_groups p.groups)
    → IsOfKind p kind set
    → packed kind records ≤ length set
