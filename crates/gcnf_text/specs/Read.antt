-- What the reader's answers say of a text.
use Rattle.std.specs.Prelude.{◌≡◌, ℕ, List, Some, None}
use Rattle.gm_base.specs.Problem.{Problem as GroupedClauses}
use Rattle.gcnf_text.specs.declared.offence.Offence.{Offence}
use Rattle.gcnf_text.specs.declared.reader.Read.{Read}
use Rattle.gcnf_text.specs.declared.reader.Read.TheVariants.{Problem, Refused, Memory}
use Rattle.gcnf_text.specs.Grammar.{Reads}
use Rattle.gcnf_text.specs.Table.{first_offence}

-- the text is one of this problem and of no other, and has no offence
pub record IsAccepted (text : List ℕ) (p : GroupedClauses) : Type 0 where
  pub reads : Reads text p
  pub only : (q : GroupedClauses) → Reads text q → q ≡ p
  pub faultless : first_offence text ≡ None

-- the text has this first offence, and is one of no problem
pub record IsRefused (text : List ℕ) (offence : Offence) : Type 0 where
  pub first : first_offence text ≡ Some offence
  pub unread : (q : GroupedClauses) → ¬ Reads text q

-- want of memory says nothing
abbrev pub Tells : List ℕ → Read → Type 0
Tells text (Problem p) = IsAccepted text p
Tells text (Refused offence) = IsRefused text offence
Tells text Memory = Unit {0}
