-- The numbers of clauses, as a walk over a proof keeps and finds them.
use Rattle.std.specs.Prelude.{◌≡◌, ◌≢◌, ℕ, ◌+◌, ◌<◌, List, [], ◌∷◌, map, length, ℤ, Option, Some, None, slice_index_or}
use Rattle.std.specs.List.{AllPairs}
use Rattle.std.specs.Option.{option_map_or}
use Rattle.sat_base.specs.Derivation.{Derivation}
use Rattle.gm_base.specs.Problem.{Problem}
use Rattle.lrat_export.specs.Export.{Numbered, renumbered, known_of}
use Rattle.lrat_export.specs.declared.numbering.Entry.{Entry}

-- the clauses that stay, under their numbers
abbrev pub kept : List (ℕ × Option Numbered) → List (ℕ × List ℤ)
kept [] = []
kept ((id, None) ∷ es) = kept es
kept ((id, Some c) ∷ es) = c ∷ kept es

-- so many stay of clauses, so the next one gets the number behind
abbrev pub next_number : ℕ → List ℕ → List (ℕ × List ℤ) → ℕ
next_number vars set known = 1 + length (kept (renumbered vars set 1 known))

-- what is kept of a clause: its id, and its number, or 0 where it goes
abbrev pub entry_of : ℕ × Option Numbered → Entry
entry_of e = record { id = e.0; number = option_map_or (λ (c : Numbered). c.0) e.1 0 }

-- the entries of these clauses, and the number behind
pub record AreEntries (vars : ℕ) (set : List ℕ) (known : List (ℕ × List ℤ)) (entries : List Entry) (number : ℕ) : Type 0 where
  pub numbered : entries ≡ map entry_of (renumbered vars set 1 known)
  pub next : number ≡ next_number vars set known

-- each id is above those before it
abbrev pub Ascend : List Entry → Type 0
Ascend entries = AllPairs (λ e f. e.id < f.id) entries

-- the entries of all clauses of a proof, under ids that ascend
pub record AreNumbers (p : Problem) (set : List ℕ) (d : Derivation) (entries : List Entry) : Type 0 where
  pub numbered : entries ≡ map entry_of (known_of p set d)
  pub ascend : Ascend entries

-- the entry at this place has the id
pub record IsAt (entries : List Entry) (id place : ℕ) : Type 0 where
  pub within : place < length entries
  pub here : (d : Entry) → (slice_index_or entries place d).id ≡ id

-- no entry has it
abbrev pub HasNoId : List Entry → ℕ → Type 0
HasNoId entries id = (i : ℕ) (d : Entry) → i < length entries → (slice_index_or entries i d).id ≢ id
