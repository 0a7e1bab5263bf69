-- What a first offence is worth.
use Rattle.std.specs.Prelude.{◌≡◌, ℕ, ◌≤◌, List, [], ◌∷◌, ◌++◌, length, Some, None}
use Rattle.token_text.specs.Kinds.{Kind}
use Rattle.token_text.specs.Tokens.{Token, Place, end_of, tokens_of}
use Rattle.gm_base.specs.Problem.{Problem, IsProblem}
use Rattle.gcnf_text.specs.declared.offence.Offence.{Offence}
use Rattle.gcnf_text.specs.declared.form.Form.{Form}
use Rattle.gcnf_text.specs.Grammar.{HasForm, IsWithinLimits, Reads, kinds_of, max_bytes}
use Rattle.gcnf_text.specs.Table.{first_offence}

-- a text without an offence is one of a problem
abbrev pub FaultlessIsRead : Type 0
FaultlessIsRead = (text : List ℕ) → first_offence text ≡ None → (p : Problem) × Reads text p

-- a text of a problem has no offence
abbrev pub ReadIsFaultless : Type 0
ReadIsFaultless = (text : List ℕ) (p : Problem) → Reads text p → first_offence text ≡ None

-- a text is one of at most one problem
abbrev pub ReadsOne : Type 0
ReadsOne = (text : List ℕ) (p q : Problem) → Reads text p → Reads text q → q ≡ p

-- these are the tokens of this problem in one of the forms, and it is well formed and within the limits
pub record AreKindsOf (kinds : List Kind) (p : Problem) : Type 0 where
  pub well_formed : IsProblem p
  pub limits : IsWithinLimits p
  pub form : Form
  pub same : HasForm form p kinds

-- these tokens go on to those of some problem
abbrev pub GoOn : List Kind → Type 0
GoOn kinds = (rest : List Kind) × (p : Problem) × AreKindsOf (kinds ++ rest) p

-- the offence stands at the token, or at the end, that comes next, and with that they do not go on
abbrev pub StandsAt : List Kind → List Token → Place → Offence → Type 0
StandsAt before [] end offence = (offence.line ≡ end.line) × (offence.byte ≡ end.byte) × ((p : Problem) → ¬ AreKindsOf before p)
StandsAt before (t ∷ ts) end offence = (offence.line ≡ t.line) × (offence.byte ≡ t.byte) × ¬ GoOn (before ++ t.kind ∷ [])

-- the tokens before an offence go on, and with the one that it stands at they do not
pub record IsFirstStop (tokens : List Token) (end : Place) (offence : Offence) : Type 0 where
  pub before : List Token
  pub behind : List Token
  pub all : tokens ≡ before ++ behind
  pub go_on : GoOn (kinds_of before)
  pub stops : StandsAt (kinds_of before) behind end offence

-- the first offence of a text within the limit of bytes stands where no text of a problem goes on
abbrev pub FirstOffenceStops : Type 0
FirstOffenceStops =
    (text : List ℕ) (offence : Offence) → length text ≤ max_bytes → first_offence text ≡ Some offence
    → IsFirstStop (tokens_of text) (end_of text) offence
