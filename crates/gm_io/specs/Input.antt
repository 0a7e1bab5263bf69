-- What is said of the file that is read.
use Rattle.std.specs.Prelude.{◌≡◌, ℕ, List, [], Option, Some, None, ⊤}
use Rattle.gm_base.specs.Problem.{Problem as GroupedClauses}
use Rattle.gcnf_text.specs.declared.reader.Read.{Read}
use Rattle.gcnf_text.specs.declared.reader.Read.TheVariants.{Problem, Refused, Memory}
use Rattle.gcnf_text.specs.Grammar.{Reads}
use Rattle.gcnf_text.specs.Read.{IsRefused}
use Rattle.focus_roles.specs.Narrow.{narrowed}

-- a fact of the bytes that are held under a name: it is vacuous where the name is not told, and false where no file is there
abbrev pub OfFile : Option (Option (List ℕ)) → (List ℕ → Type 0) → Type 0
OfFile None P = ⊤
OfFile (Some None) P = ⊥
OfFile (Some (Some text)) P = P text

-- the problem of a run over this text: the one that it is a text of; where some groups are in focus, that narrowed to them
abbrev pub ReadsIn : Option (List ℕ) → List ℕ → GroupedClauses → Type 0
ReadsIn None text p = Reads text p
ReadsIn (Some focus) text p = (whole : GroupedClauses) × Reads text whole × (p ≡ narrowed whole focus)

-- this is the problem, and the text was read to its end
abbrev pub IsReadAs : Option (List ℕ) → GroupedClauses → Option (List ℕ) → List ℕ → Type 0
IsReadAs focus p unread text = ReadsIn focus text p × (unread ≡ Some [])

-- the same; but what is left of it is told only where no other file was opened behind it
abbrev pub IsReadFor : Option (List ℕ) → Option (List ℕ) → Option (List ℕ) → GroupedClauses → Option (List ℕ) → List ℕ → Type 0
IsReadFor focus evidence resume p unread text = ReadsIn focus text p × (evidence ≡ None → resume ≡ None → unread ≡ Some [])

-- what an answer says of the text, and of what is left of it unread
abbrev pub TellsInput : Option (List ℕ) → List ℕ → Option (List ℕ) → Read → Type 0
TellsInput focus text unread (Problem p) = IsReadAs focus p unread text
TellsInput focus text unread (Refused offence) = IsRefused text offence
TellsInput focus text unread Memory = ⊤
