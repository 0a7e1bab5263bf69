-- Clauses of which propagation, under some literals and some choices, has not yet told whether they can hold together: a
-- search that stops here has a conflict before it from which it would learn.
use Rattle.std.specs.Prelude.{List, [], ◌∷◌, map, ℤ, neg_ℤ}
use Rattle.sat_base.specs.Members.{In}
use Rattle.sat_base.specs.Database.{StoredClause, IsLive}
use Rattle.sat_base.specs.Units.{AllTrue, AllFalse, IsConsequence, IsFixpoint}

-- how a literal came onto a list
pub data Mark : Type 0 where
  Given : Mark
  Consequence : Mark
  Choice : Mark

-- a given literal, one that a live clause forces, or one that is chosen where all given literals are true and nothing is
-- left to propagate
abbrev pub IsMarked : List StoredClause → List ℤ → List ℤ → ℤ → Mark → Type 0
IsMarked db given trues lit Given = In lit given
IsMarked db given trues lit Consequence = IsConsequence db trues lit
IsMarked db given trues lit Choice = AllTrue trues given × IsFixpoint db trues

abbrev pub marked_lits : List (ℤ × Mark) → List ℤ
marked_lits list = map (λ (m : ℤ × Mark). m.0) list

-- literals with their marks, the newest first, no variable twice
abbrev pub IsMarkedList : List StoredClause → List ℤ → List (ℤ × Mark) → Type 0
IsMarkedList db given [] = Unit {0}
IsMarkedList db given (m ∷ ms) =
    (¬ In m.0 (marked_lits ms)) × (¬ In (neg_ℤ m.0) (marked_lits ms)) × IsMarked db given (marked_lits ms) m.0 m.1 × IsMarkedList db given ms

-- some such list, with a choice, makes a live clause false
pub record Undecided (db : List StoredClause) (given : List ℤ) : Type 0 where
  pub list : List (ℤ × Mark)
  pub marks : IsMarkedList db given list
  pub chosen : (l : ℤ) × In (l, Choice) list
  pub clause : List ℤ
  pub live : IsLive db clause
  pub clashes : AllFalse (marked_lits list) clause
