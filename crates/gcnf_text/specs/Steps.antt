-- What the reader's functions tell: each begins where something is due, and reads some tokens or finds the first offence.
use Rattle.std.specs.Prelude.{◌≡◌, ℕ, ◌+◌, ◌<◌, ◌≤◌, Bool, false, List, [], ◌∷◌, ◌++◌, map, length, ℤ, pos, codes, Option, Some, None, Result, Ok, Err, if◌then◌else◌}
use Rattle.std.specs.List.{flat_map, AllByRecursion}
use Rattle.std.specs.Str.{bytes_eq}
use Rattle.token_text.specs.Kinds.{Kind, Word, Number, OpenBrace, CloseBrace}
use Rattle.token_text.specs.Left.{Left}
use Rattle.token_text.specs.declared.answer.Found.{Found}
use Rattle.token_text.specs.declared.answer.Found.TheVariants as found
use Rattle.gm_base.specs.declared.clause.Clause.{Clause}
use Rattle.sat_base.specs.Literals.{IsLiteral}
use Rattle.gm_base.specs.Problem.{Problem, IsClause}
use Rattle.gm_base.specs.Sets.{all_groups}
use Rattle.gcnf_text.specs.declared.form.Form.{Form}
use Rattle.gcnf_text.specs.declared.form.Form.TheVariants.{Gcnf, Cnf}
use Rattle.gcnf_text.specs.declared.offence.Limit.{Limit}
use Rattle.gcnf_text.specs.declared.offence.Offence.{Offence}
use Rattle.gcnf_text.specs.declared.offence.Stop.{Stop}
use Rattle.gcnf_text.specs.declared.offence.Stop.TheVariants as stop
use Rattle.gcnf_text.specs.declared.progress.Progress.{Progress}
use Rattle.gcnf_text.specs.Grammar.{MayFollow, Reads, clause_kinds, is_end_mark, kinds_of, literal_count, max_clauses, max_groups, max_literals, max_vars}
use Rattle.gcnf_text.specs.Table.{Due, Between, Literals, Sofar, after, after_header_number, after_literal, at_end, first_offence, offence_from, refused}

-- ---- steps

-- tokens of these kinds were read where the one thing was due, and then the other is due; the first offence is the same
pub record Leads (due : Due) (old : Left) (read : List Kind) (next : Due) (new : Left) : Type 0 where
  pub kinds : kinds_of old.tokens ≡ read ++ kinds_of new.tokens
  pub offence : offence_from due old.tokens old.end ≡ offence_from next new.tokens new.end

-- the first offence of what is left, where this is due
abbrev pub IsFirst : Due → Left → Offence → Type 0
IsFirst due left offence = offence_from due left.tokens left.end ≡ Some offence

-- a step where this is due: with a value, tokens of these kinds were read and then that is due; or the first offence is found
abbrev pub Step : {X : Type 0} → Due → (X → List Kind) → (X → Due) → Left → Left → Result X Offence → Type 0
Step due read next old new (Ok x) = Leads due old (read x) (next x) new
Step due read next old new (Err offence) = IsFirst due old offence

-- the same, where want of memory says nothing
abbrev pub StepUnlessMemory : {X : Type 0} → Due → (X → List Kind) → (X → Due) → Left → Left → Result X Stop → Type 0
StepUnlessMemory due read next old new (Ok x) = Leads due old (read x) (next x) new
StepUnlessMemory due read next old new (Err (stop.Refused offence)) = IsFirst due old offence
StepUnlessMemory due read next old new (Err stop.Memory) = Unit {0}

-- what is left is what may stand behind the last clause, or the first offence is found
abbrev pub Ends : {X : Type 0} → Form → Due → Left → Result X Offence → Type 0
Ends form due old (Ok x) = MayFollow form (kinds_of old.tokens)
Ends form due old (Err offence) = IsFirst due old offence

-- ---- the header

-- what the code keeps of what was read
abbrev pub sofar : Progress → Sofar
sofar p = record { vars = p.vars; clauses = p.clauses; groups = p.groups; ended = p.ended; literals = p.literals }

-- the numbers of clauses and of groups, within the limits; in CNF they are the same
pub record AreCounts (form : Form) (clauses groups : ℕ) : Type 0 where
  pub clauses_fit : clauses ≤ max_clauses
  pub groups_fit : groups ≤ max_groups
  pub own : form ≡ Cnf → groups ≡ clauses

-- a header within the limits, and nothing behind it
pub record IsFresh (form : Form) (s : Sofar) : Type 0 where
  pub vars : s.vars ≤ max_vars
  pub counts : AreCounts form s.clauses s.groups
  pub ended : s.ended ≡ 0
  pub literals : s.literals ≡ 0

-- the words that a header begins by
abbrev pub word_kinds : Form → List Kind
word_kinds Gcnf = Word (codes "p") ∷ Word (codes "gcnf") ∷ []
word_kinds Cnf = Word (codes "p") ∷ Word (codes "cnf") ∷ []

-- its counts, which stand behind the greatest variable
abbrev pub count_kinds : Form → ℕ → ℕ → List Kind
count_kinds Gcnf clauses groups = Number (pos clauses) ∷ Number (pos groups) ∷ []
count_kinds Cnf clauses groups = Number (pos clauses) ∷ []

-- whether this word was found
abbrev pub is_word : Found → List ℕ → Bool
is_word (found.Word bytes) word = bytes_eq bytes.now word
is_word (found.Number n) word = false
is_word found.OpenBrace word = false
is_word found.CloseBrace word = false
is_word found.End word = false

-- a number of the header up to this limit is due, and nothing else
pub record IsNumberDue (due : Due) (most : ℕ) (limit : Limit) (next : ℕ → Due) : Type 0 where
  pub number : (n : ℤ) → after due (Number n) ≡ after_header_number n most limit next
  pub word : (bytes : List ℕ) → after due (Word bytes) ≡ refused 2
  pub open_brace : after due OpenBrace ≡ refused 2
  pub close_brace : after due CloseBrace ≡ refused 2
  pub end : at_end due ≡ Some 2

-- ---- clauses

-- a literal, or the 0 that ends the clause
abbrev pub literal_kind : Option ℤ → List Kind
literal_kind (Some l) = Number l ∷ []
literal_kind None = Number (pos 0) ∷ []

-- what is due behind either
abbrev pub behind_literal : Form → Sofar → Option ℤ → Due
behind_literal form s (Some l) = Literals form (record s { literals = s.literals + 1 })
behind_literal form s None = Between form (record s { ended = s.ended + 1 })

-- a literal or a 0 is due, and nothing else; an end mark has this offence
pub record IsLiteralDue (form : Form) (s : Sofar) (mark : ℕ) (due : Due) : Type 0 where
  pub number : (l : ℤ) → after due (Number l) ≡ after_literal form l s
  pub word : (bytes : List ℕ) → after due (Word bytes) ≡ (if is_end_mark bytes then refused mark else refused 3)
  pub open_brace : after due OpenBrace ≡ refused 3
  pub close_brace : after due CloseBrace ≡ refused 3
  pub end : at_end due ≡ Some 7

-- a literal is over the variables, and within the limit
abbrev pub FitsNext : Sofar → Option ℤ → Type 0
FitsNext s (Some l) = IsLiteral s.vars l × (s.literals < max_literals)
FitsNext s None = Unit {0}

-- what is due behind a clause's group: in CNF, which writes none, nothing was read of the clause by then
abbrev pub behind_group : Form → Sofar → Due
behind_group Gcnf s = Literals Gcnf s
behind_group Cnf s = Between Cnf s

-- in CNF a clause's group is its place
abbrev pub IsGroupOf : Form → Sofar → ℕ → Type 0
IsGroupOf Gcnf s group = Unit {0}
IsGroupOf Cnf s group = group ≡ s.ended + 1

-- the literals of a clause, and the 0 that ends it
abbrev pub literals_kinds : List ℤ → List Kind
literals_kinds lits = map Number lits ++ Number (pos 0) ∷ []

-- behind them a clause more was ended, and they were read
abbrev pub behind_literals : Sofar → List ℤ → Sofar
behind_literals s lits = record s { ended = s.ended + 1; literals = s.literals + length lits }

abbrev pub behind_clause : Sofar → Clause → Sofar
behind_clause s clause = behind_literals s clause.lits

-- in CNF the clauses are of the groups 1, 2 and so on
abbrev pub AreNumbered : Form → List Clause → Type 0
AreNumbered Gcnf clauses = Unit {0}
AreNumbered Cnf clauses = map (λ (clause : Clause). clause.group) clauses ≡ all_groups (length clauses)

-- as many clauses as the header counts, over its variables and groups, and then what may follow
pub record AreClauses (form : Form) (s : Sofar) (old : Left) (clauses : List Clause) : Type 0 where
  pub behind : List Kind
  pub kinds : kinds_of old.tokens ≡ flat_map (clause_kinds form) clauses ++ behind
  pub follows : MayFollow form behind
  pub numbered : AreNumbered form clauses
  pub count : length clauses ≡ s.clauses
  pub in_range : AllByRecursion (IsClause s.vars s.groups) clauses
  pub few : literal_count clauses ≤ max_literals

-- all clauses were read, or the first offence is found
abbrev pub AreClausesRead : Form → Sofar → Left → Result (List Clause) Stop → Type 0
AreClausesRead form s old (Ok clauses) = AreClauses form s old clauses
AreClausesRead form s old (Err (stop.Refused offence)) = IsFirst (Between form s) old offence
AreClausesRead form s old (Err stop.Memory) = Unit {0}

-- ---- the whole text

-- the text's problem was read, or its first offence is found
abbrev pub IsRead : List ℕ → Result Problem Stop → Type 0
IsRead text (Ok p) = Reads text p
IsRead text (Err (stop.Refused offence)) = first_offence text ≡ Some offence
IsRead text (Err stop.Memory) = Unit {0}
