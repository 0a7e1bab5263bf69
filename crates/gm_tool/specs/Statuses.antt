-- The statuses that a run ends with.
use Rattle.std.specs.Prelude.{ℕ, List, [], ◌∷◌, ◌==◌, IsTrue}
use Rattle.std.specs.List.{list_any}

abbrev pub IsAmong : List ℕ → ℕ → Type 0
IsAmong statuses status = IsTrue (list_any (λ s. status == s) statuses)

-- all statuses but that of a refused journal
abbrev pub IsStatus : ℕ → Type 0
IsStatus status = IsAmong (0 ∷ 2 ∷ 3 ∷ 4 ∷ 5 ∷ 6 ∷ 7 ∷ 8 ∷ 9 ∷ 11 ∷ 12 ∷ []) status

-- those that come without an enumeration, and before any output is opened
abbrev pub IsBefore : ℕ → Type 0
IsBefore status = IsAmong (2 ∷ 5 ∷ 6 ∷ 9 ∷ 11 ∷ 12 ∷ []) status

-- those that come after an enumeration that had memory
abbrev pub IsAfterwards : ℕ → Type 0
IsAfterwards status = IsAmong (0 ∷ 3 ∷ 4 ∷ 7 ∷ []) status

-- those with a whole text or a partial one on the report's sink
abbrev pub IsReported : ℕ → Type 0
IsReported status = IsAmong (0 ∷ 3 ∷ 4 ∷ []) status

-- those with a partial one
abbrev pub IsPartial : ℕ → Type 0
IsPartial status = IsAmong (3 ∷ 4 ∷ []) status

-- those with which nothing is written to the report's sink
abbrev pub IsSilent : ℕ → Type 0
IsSilent status = IsAmong (2 ∷ 5 ∷ 6 ∷ 8 ∷ 9 ∷ 11 ∷ 12 ∷ []) status

-- those with which no fault was met
abbrev pub IsFaultless : ℕ → Type 0
IsFaultless status = IsAmong (0 ∷ 2 ∷ 3 ∷ 4 ∷ 5 ∷ 9 ∷ 11 ∷ 12 ∷ []) status

-- those that tell which line standard error gets
abbrev pub IsToldByStatus : ℕ → Type 0
IsToldByStatus status = IsAmong (0 ∷ 2 ∷ 3 ∷ 4 ∷ 8 ∷ []) status
