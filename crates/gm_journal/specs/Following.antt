-- Which text may stand behind which records in a journal.
use Rattle.std.specs.Prelude.{◌≡◌, ℕ, false, List, [], ◌∷◌, ◌++◌, map}
use Rattle.std.specs.List.{AllByRecursion}
use Rattle.gm_base.specs.Problem.{Problem}
use Rattle.evidence_rec.specs.declared.record.Record.{Record}
use Rattle.evidence_rec.specs.Records.{kind_of, set_of, IsAcceptedAlone}
use Rattle.evidence_rec.specs.Held.{is_held, AreNew}
use Rattle.evidence_text.specs.Text.{record_text}
use Rattle.evidence_text.specs.Readable.{IsSmall}
use Rattle.evidence_text.specs.Alone.{IsTextOf}

-- the text is that of a record which is accepted with none before it, and whose set no record of its kind has so far; then
-- it stands behind these
pub record MayFollow (p : Problem) (records : List Record) (text : List ℕ) (after : List Record) : Type 0 where
  pub found : Record
  pub small : IsSmall p
  pub is_text : IsTextOf p found text
  pub accepted : IsAcceptedAlone p found
  pub is_new : is_held records (kind_of found) (set_of found) ≡ false
  pub after_is : after ≡ records ++ found ∷ []

-- what a journal may hold: records that are accepted, each with none before it, of which no two of one kind have one set
pub record AreJournalled (p : Problem) (records : List Record) : Type 0 where
  pub accepted : AllByRecursion (IsAcceptedAlone p) records
  pub distinct : AreNew [] records

-- their texts, in order
abbrev pub texts_of : List Record → List (List ℕ)
texts_of records = map record_text records
