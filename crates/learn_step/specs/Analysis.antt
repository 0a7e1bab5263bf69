-- What holds of a clause on its way down the trail, by resolution with reasons (GRASP: Marques-Silva and Sakallah 1999).
use Rattle.std.specs.Prelude.{◌≡◌, ℕ, ◌+◌, ◌<◌, ◌≤◌, List, [], ◌∷◌, ◌++◌, reverse, length, ℤ, neg_ℤ, Bool, true, false, Some, None}
use Rattle.sat_base.specs.Members.{In}
use Rattle.sat_base.specs.Derivation.{clause_of}
use Rattle.sat_base.specs.Database.{StoredClause, known_of}
use Rattle.sat_base.specs.Units.{IsUnset}
use Rattle.trail_book.specs.declared.entry.Entry.{Entry}
use Rattle.trail_book.specs.Trail.{trues, top, oldest}
use Rattle.learn_step.specs.Reasons.{before_last, IsDecision}
use Rattle.learn_step.specs.Learnt.{IsUsed}
use Rattle.learn_step.specs.Leading.{Leads}
use Rattle.learn_step.specs.Places.{false_at, level_of, AreBelow, at_hand, HasPlaces, hint_of}

-- the clause of this id was brought in: its literals that are false below a place, and its id as a hint
pub record IsBroughtIn (db : List StoredClause) (es : List Entry) (id below : ℕ) (old new hints more : List ℕ) : Type 0 where
  pub clause : List ℤ
  pub named : clause_of (known_of db) id ≡ Some clause
  pub places : HasPlaces es clause below old new
  pub hint : more ≡ hints ++ id ∷ []

-- the value at the place was forced: a derivation has something to name for it
abbrev pub IsForced : List Entry → ℕ → Type 0
IsForced es p = (e : Entry) → oldest (p + 1) es ≡ e ∷ oldest p es → ¬ (hint_of e ≡ None)

-- what becomes of the literal that is false by an entry, which it is the place of: it stays, or the other literals of the
-- clause that forced it come in its place
abbrev pub Becomes : List StoredClause → List Entry → ℕ → Entry → Bool → List ℕ → List ℕ → List ℤ → List ℤ → List ℕ → List ℕ → Type 0
Becomes db es p e true old new lits after hints more = (new ≡ old) × (after ≡ lits ++ neg_ℤ e.lit ∷ []) × (more ≡ hints)
Becomes db es p e false old new lits after hints more = (after ≡ lits) × ((id : ℕ) × (hint_of e ≡ Some id) × IsBroughtIn db es id p old new hints more)

-- one step of resolution, at a place that was taken out
pub record IsStep (db : List StoredClause) (es : List Entry) (p : ℕ) (stays : Bool) (old new : List ℕ) (lits after : List ℤ) (hints more : List ℕ) : Type 0 where
  pub entry : Entry
  pub at : oldest (p + 1) es ≡ entry ∷ oldest p es
  pub becomes : Becomes db es p entry stays old new lits after hints more

-- the clause follows by its hints, the last one first, along values that are older than the count; what is still to be
-- looked at is older, too
pub record IsAnalysis (db : List StoredClause) (es : List Entry) (count : ℕ) (places : List ℕ) (lits : List ℤ) (hints : List ℕ) : Type 0 where
  pub leads : Leads (known_of db) (trues (oldest count es)) (at_hand es places lits) (reverse hints)
  pub used : (l : ℤ) → In l (at_hand es places lits) → IsUsed db l
  pub below : AreBelow places count

-- a place of the top level
abbrev pub HasTop : List Entry → List ℕ → Type 0
HasTop es places = (p : ℕ) × In p places × (level_of es p ≡ top es)

-- on the way to the first unique implication point: no literal was kept yet, and one is of the top level
pub record IsAboveUip (db : List StoredClause) (es : List Entry) (places : List ℕ) (lits : List ℤ) (hints : List ℕ) : Type 0 where
  pub analysis : IsAnalysis db es (length es) places lits hints
  pub none_kept : lits ≡ []
  pub some_top : HasTop es places

-- each of these places is below the top level
abbrev pub AreLower : List Entry → List ℕ → Type 0
AreLower es places = (p : ℕ) → In p places → level_of es p < top es

-- at the first unique implication point: its literal alone was kept, and the others are below the top level
pub record IsAtUip (db : List StoredClause) (es : List Entry) (places : List ℕ) (lits : List ℤ) (hints : List ℕ) : Type 0 where
  pub analysis : IsAnalysis db es (length es) places lits hints
  pub first : ℤ
  pub is : lits ≡ first ∷ []
  pub is_false : In (neg_ℤ first) (trues es)
  pub unset : IsUnset (trues (before_last es)) first
  pub lower : AreLower es places

-- the literal is false by the value at one of these places
abbrev pub IsFalseAt : List Entry → List ℕ → ℤ → Type 0
IsFalseAt es places lit = (p : ℕ) × In p places × (lit ≡ false_at es p)

-- the literal is false by the value at a place above level 0, and up to this level
pub record IsFalseWithin (es : List Entry) (level : ℕ) (lit : ℤ) : Type 0 where
  pub place : ℕ
  pub within : place < length es
  pub is : lit ≡ false_at es place
  pub above : 0 < level_of es place
  pub up_to : level_of es place ≤ level

-- the literal at a place of this level is among these
pub record HasOfLevel (es : List Entry) (level : ℕ) (lits : List ℤ) : Type 0 where
  pub place : ℕ
  pub within : place < length es
  pub has : In (false_at es place) lits
  pub is : level_of es place ≡ level

-- what was looked at after the first unique implication point: what is kept beside the literals before it is above level 0,
-- this is the highest level there, and what is still to be looked at is below the top level
pub record AreKept (es : List Entry) (before : List ℤ) (places : List ℕ) (lits : List ℤ) (level : ℕ) : Type 0 where
  pub added : List ℤ
  pub is : lits ≡ before ++ added
  pub lower : AreLower es places
  pub below : level < top es
  pub each : (l : ℤ) → In l added → IsFalseWithin es level l
  pub reached : 0 < level → HasOfLevel es level added

-- on the way down to the decisions: beside what a core begins with, which became true after all that the analysis uses,
-- negated decisions are kept
pub record IsCoreAnalysis (db : List StoredClause) (es : List Entry) (start : List ℤ) (places : List ℕ) (lits : List ℤ) (hints : List ℕ) : Type 0 where
  pub count : ℕ
  pub within : count ≤ length es
  pub analysis : IsAnalysis db es count places lits hints
  pub negated : List ℤ
  pub is : lits ≡ start ++ negated
  pub decided : (l : ℤ) → In l negated → IsDecision es (neg_ℤ l)
  pub start_unset : (l : ℤ) → In l start → ¬ In l (trues (oldest count es))
  pub start_true : (l : ℤ) → In l start → In l (trues es)
  pub start_forced : (l : ℤ) → In l start → ¬ IsDecision es l
