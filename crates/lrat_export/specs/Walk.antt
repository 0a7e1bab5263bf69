-- What a walk along the hints of a step finds.
use Rattle.std.specs.Prelude.{◌≡◌, ℕ, Bool, true, false, not, ◌&&◌, List, [], ◌∷◌, ◌++◌, ℤ, neg_ℤ, Option, Some, None, codes}
use Rattle.std.specs.List.{filter, flat_map}
use Rattle.std.specs.Fmt.{decimal}
use Rattle.sat_base.specs.Literals.{IsLiteral}
use Rattle.sat_base.specs.Derivation.{Step, only_lit, is_nil}
use Rattle.lrat_check.specs.Marks.{is_marked, AreMarked}
use Rattle.lrat_export.specs.Export.{Numbered, is_selector, hints_of, steps_of, step_text}
use Rattle.lrat_export.specs.declared.looking.Opened.{Opened}
use Rattle.lrat_export.specs.declared.looking.Opened.TheVariants.{Nothing, One, Many}
use Rattle.lrat_export.specs.declared.hints.Next.{Next}
use Rattle.lrat_export.specs.declared.hints.Next.TheVariants.{Goes, Makes, Ends}

-- the literals of a clause that are neither of a selector nor marked
abbrev pub opened : ℕ → List Bool → List ℤ → List ℤ
opened vars marks clause = filter (λ l. not (is_selector vars l) && not (is_marked marks l)) clause

-- the literals of a clause that are not false: none, one, which may be repeated, or more
abbrev pub IsOpened : ℕ → List ℤ → Opened → Type 0
IsOpened vars open_ones Nothing = open_ones ≡ []
IsOpened vars open_ones (One lit) = (only_lit open_ones ≡ Some lit) × IsLiteral vars lit
IsOpened vars open_ones Many = (only_lit open_ones ≡ None) × (is_nil open_ones ≡ false)

-- what becomes of a hint where these literals are false, whatever stands behind it: it goes, it makes a literal true, or its
-- clause is false
abbrev pub IsNext : List (ℕ × Option Numbered) → List ℤ → ℕ → Next → Type 0
IsNext known falses h Goes = (hs : List ℕ) → hints_of known falses (h ∷ hs) ≡ hints_of known falses hs
IsNext known falses h (Makes number lit) = (hs : List ℕ) → hints_of known falses (h ∷ hs) ≡ number ∷ hints_of known (neg_ℤ lit ∷ falses) hs
IsNext known falses h (Ends number) = (hs : List ℕ) → hints_of known falses (h ∷ hs) ≡ number ∷ []

-- the literal that becomes true is over the variables
abbrev pub IsOver : ℕ → Next → Type 0
IsOver vars Goes = Unit {0}
IsOver vars (Makes number lit) = IsLiteral vars lit
IsOver vars (Ends number) = Unit {0}

-- each hint behind a blank
abbrev pub hints_text : List ℕ → List ℕ
hints_text hints = flat_map (λ h. codes " " ++ decimal h) hints

-- the steps that stay, as text
abbrev pub steps_text : ℕ → List ℕ → List (ℕ × Option Numbered) → ℕ → List Step → List ℕ
steps_text vars set known number ss = flat_map step_text (steps_of vars set known number ss)

-- a hint was looked at where these literals are false: nothing may stand behind it, or the marks say what is false then
abbrev pub IsWalked : List (ℕ × Option Numbered) → List ℤ → ℕ → List ℕ → List ℕ → List Bool → Bool → Type 0
IsWalked known falses h old new marks true = (hs : List ℕ) → new ≡ old ++ hints_text (hints_of known falses (h ∷ hs))
IsWalked known falses h old new marks false =
    (more : List ℤ) × AreMarked marks more
    × ((hs : List ℕ) → new ++ hints_text (hints_of known more hs) ≡ old ++ hints_text (hints_of known falses (h ∷ hs)))

-- a step was looked at, and with what was written the steps behind it are what they were with it
abbrev pub GoesOn : ℕ → List ℕ → List (ℕ × Option Numbered) → List ℕ → List ℕ → ℕ → ℕ → Step → Type 0
GoesOn vars set known old new number next s = (ss : List Step) → new ++ steps_text vars set known next ss ≡ old ++ steps_text vars set known number (s ∷ ss)
