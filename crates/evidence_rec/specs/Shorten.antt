-- Records whose corrections name an earlier conflict wherever one serves, and then the one with the least number.
use Rattle.std.specs.Prelude.{◌≡◌, ℕ, ◌+◌, ◌<◌, true, false, List, [], ◌∷◌, ◌++◌, Option, Some, None, if◌then◌else◌}
use Rattle.std.specs.Option.{option_map_or}
use Rattle.gm_base.specs.Problem.{Problem}
use Rattle.evidence_rec.specs.declared.record.Refutation.{Refutation}
use Rattle.evidence_rec.specs.declared.record.Refutation.TheVariants.{Earlier}
use Rattle.evidence_rec.specs.declared.record.Record.{Record}
use Rattle.evidence_rec.specs.declared.record.Record.TheVariants as record_of
use Rattle.evidence_rec.specs.Records.{founds, numbered_record, is_inside, AllAccepted}

-- of these records, the first of which has this number, the least number of a conflict that serves for a group of a
-- correction: one that has no group of the correction but, maybe, this one
abbrev pub least_from : ℕ → List ℕ → ℕ → List Record → Option ℕ
least_from number set g [] = None
least_from number set g (r ∷ rs) = if is_inside set g r then Some number else least_from (number + 1) set g rs

abbrev pub least_serving : List Record → List ℕ → ℕ → Option ℕ
least_serving earlier set g = least_from 1 set g earlier

-- the refutation that names this record, where there is one
abbrev pub naming : Option ℕ → Refutation → Refutation
naming None r = r
naming (Some i) r = Earlier i

-- each refutation that an earlier conflict serves names the least such
abbrev pub shortened_refutations : List Record → List ℕ → List ℕ → List Refutation → List Refutation
shortened_refutations earlier set [] rs = rs
shortened_refutations earlier set (g ∷ gs) [] = []
shortened_refutations earlier set (g ∷ gs) (r ∷ rs) = naming (least_serving earlier set g) r ∷ shortened_refutations earlier set gs rs

-- a record behind these; a conflict stays
abbrev pub shortened : List Record → Record → Record
shortened earlier (record_of.Conflict set proof witnesses) = record_of.Conflict set proof witnesses
shortened earlier (record_of.Correction set witness proofs) = record_of.Correction set witness (shortened_refutations earlier set set proofs)

-- records behind these, each behind all before it
abbrev pub shortened_behind : List Record → List Record → List Record
shortened_behind earlier [] = []
shortened_behind earlier (r ∷ rs) = shortened earlier r ∷ shortened_behind (earlier ++ r ∷ []) rs

abbrev pub shorten : List Record → List Record
shorten records = shortened_behind [] records

-- ---- laws

-- the record of this number is an earlier conflict that serves
abbrev pub Serves : List Record → List ℕ → ℕ → ℕ → Type 0
Serves earlier set g i = option_map_or (is_inside set g) (numbered_record earlier i) false ≡ true

-- what is named serves, and nothing before it does; where nothing is named, nothing serves
abbrev pub IsLeast : List Record → List ℕ → ℕ → Option ℕ → Type 0
IsLeast earlier set g None = (i : ℕ) → ¬ Serves earlier set g i
IsLeast earlier set g (Some least) = Serves earlier set g least × ((i : ℕ) → i < least → ¬ Serves earlier set g i)

abbrev pub LeastServes : Type 0
LeastServes = (earlier : List Record) (set : List ℕ) (g : ℕ) → IsLeast earlier set g (least_serving earlier set g)

-- what was accepted is
abbrev pub ShortenedAreAccepted : Type 0
ShortenedAreAccepted = (p : Problem) (records : List Record) → AllAccepted p records → AllAccepted p (shorten records)

-- the kinds and the sets stay
abbrev pub ShortenedKeepSets : Type 0
ShortenedKeepSets = (records : List Record) → founds (shorten records) ≡ founds records

-- what is short already stays
abbrev pub ShortenedStay : Type 0
ShortenedStay = (records : List Record) → shorten (shorten records) ≡ shorten records
