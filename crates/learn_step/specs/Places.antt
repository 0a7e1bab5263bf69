-- Places on the trail, the oldest at 0, and the literals that the values there make false.
use Rattle.std.specs.Prelude.{◌≡◌, ◌⊎◌, ℕ, ◌+◌, ◌<◌, ◌≤◌, List, [], ◌∷◌, ◌++◌, map, ℤ, pos, neg_ℤ, Option, Some, None}
use Rattle.sat_base.specs.Members.{In}
use Rattle.sat_base.specs.Literals.{var_of}
use Rattle.sat_base.specs.Units.{HasValue}
use Rattle.trail_book.specs.declared.entry.Entry.{Entry}
use Rattle.trail_book.specs.Trail.{top, oldest, IsPlace}

-- the literal of the newest entry, and 0 where there is none
abbrev pub newest_lit : List Entry → ℤ
newest_lit [] = pos 0
newest_lit (e ∷ es) = e.lit

-- the literal that is true at a place
abbrev pub literal_at : List Entry → ℕ → ℤ
literal_at es place = newest_lit (oldest (place + 1) es)

-- the literal that is false by the value at a place
abbrev pub false_at : List Entry → ℕ → ℤ
false_at es place = neg_ℤ (literal_at es place)

-- the decision level of the value at a place
abbrev pub level_of : List Entry → ℕ → ℕ
level_of es place = top (oldest (place + 1) es)

-- each of these places is below the bound
abbrev pub AreBelow : List ℕ → ℕ → Type 0
AreBelow places bound = (p : ℕ) → In p places → p < bound

-- the literals of the clause that is kept in two parts
abbrev pub at_hand : List Entry → List ℕ → List ℤ → List ℤ
at_hand es places lits = map (false_at es) places ++ lits

-- each of these literals is true or false
abbrev pub HaveValues : List ℤ → List ℤ → Type 0
HaveValues trues lits = (l : ℤ) → In l lits → HasValue trues l

-- the place of the literal's variable is among these, if it is below a place
pub record IsEntered (es : List Entry) (below : ℕ) (places : List ℕ) (lit : ℤ) : Type 0 where
  pub place : ℕ
  pub is : IsPlace es (var_of lit) place
  pub entered : place < below → In place places

-- the place of the variable of one of these literals, below a place
pub record IsPlaceOf (es : List Entry) (lits : List ℤ) (below place : ℕ) : Type 0 where
  pub lit : ℤ
  pub has : In lit lits
  pub is : IsPlace es (var_of lit) place
  pub lower : place < below

-- the same places, and those of the literals' variables that are below a place
pub record HasPlaces (es : List Entry) (lits : List ℤ) (below : ℕ) (old new : List ℕ) : Type 0 where
  pub kept : (p : ℕ) → In p old → In p new
  pub each : (l : ℤ) → In l lits → IsEntered es below new l
  pub only : (p : ℕ) → In p new → In p old ⊎ IsPlaceOf es lits below p

-- the highest level of these places, and 0 where there are none
pub record IsHighest (es : List Entry) (places : List ℕ) (level : ℕ) : Type 0 where
  pub above : (p : ℕ) → In p places → level_of es p ≤ level
  pub reached : 0 < level → (p : ℕ) × In p places × (level_of es p ≡ level)

-- the first of two ids that there is
abbrev pub first_some : Option ℕ → Option ℕ → Option ℕ
first_some (Some id) other = Some id
first_some None other = other

-- what a derivation names for a value: its unit step, where it has one, and else its reason
abbrev pub hint_of : Entry → Option ℕ
hint_of e = first_some e.unit e.reason
