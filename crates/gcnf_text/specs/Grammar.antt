-- The texts of a problem: the tokens by value, and the limits. A text has one of two forms, GCNF (the group-oriented CNF of
-- the MUS track of the SAT competition 2011) and CNF (that of DIMACS), both in this project's profile.
use Rattle.std.specs.Prelude.{◌≡◌, ℕ, ◌≤◌, ◌==◌, Bool, true, false, List, [], ◌∷◌, ◌++◌, map, length, pos, codes}
use Rattle.std.specs.List.{flat_map, sum_by}
use Rattle.token_text.specs.Kinds.{Kind, Word, Number, OpenBrace, CloseBrace}
use Rattle.token_text.specs.Tokens.{Token, tokens_of}
use Rattle.gm_base.specs.declared.clause.Clause.{Clause}
use Rattle.gm_base.specs.Problem.{Problem, IsProblem}
use Rattle.gm_base.specs.Sets.{all_groups}
use Rattle.gcnf_text.specs.declared.form.Form.{Form}
use Rattle.gcnf_text.specs.declared.form.Form.TheVariants.{Gcnf, Cnf}

-- the limits: the greatest variable, the number of clauses, the greatest group, the literals of all clauses, and the bytes
abbrev pub max_vars : ℕ
max_vars = 4_194_304

abbrev pub max_clauses : ℕ
max_clauses = 16_777_216

abbrev pub max_groups : ℕ
max_groups = 1_048_576

abbrev pub max_literals : ℕ
max_literals = 8_000_000

abbrev pub max_bytes : ℕ
max_bytes = 134_217_728

-- how many literals the clauses have together, repeated ones included
abbrev pub literal_count : List Clause → ℕ
literal_count clauses = sum_by (λ (clause : Clause). length clause.lits) clauses

-- ---- the two forms

-- the header: `p gcnf`, the greatest variable, the number of clauses and the greatest group; or `p cnf` and the first two
abbrev pub header_kinds : Form → ℕ → ℕ → ℕ → List Kind
header_kinds Gcnf vars clauses groups =
    Word (codes "p") ∷ Word (codes "gcnf") ∷ Number (pos vars) ∷ Number (pos clauses) ∷ Number (pos groups) ∷ []
header_kinds Cnf vars clauses groups = Word (codes "p") ∷ Word (codes "cnf") ∷ Number (pos vars) ∷ Number (pos clauses) ∷ []

-- a clause's group: in braces, or not written
abbrev pub group_kinds : Form → ℕ → List Kind
group_kinds Gcnf group = OpenBrace ∷ Number (pos group) ∷ CloseBrace ∷ []
group_kinds Cnf group = []

-- a clause: its group, its literals, and 0
abbrev pub clause_kinds : Form → Clause → List Kind
clause_kinds form clause = group_kinds form clause.group ++ map Number clause.lits ++ Number (pos 0) ∷ []

-- the header, and then the clauses in order
abbrev pub problem_kinds : Form → Problem → List Kind
problem_kinds form p = header_kinds form p.vars (length p.clauses) p.groups ++ flat_map (clause_kinds form) p.clauses

-- the groups: any; or each clause is a group of its own, so there are as many, and clause i is of group i
abbrev pub HasGroups : Form → Problem → Type 0
HasGroups Gcnf p = Unit {0}
HasGroups Cnf p = (p.groups ≡ length p.clauses) × (map (λ (clause : Clause). clause.group) p.clauses ≡ all_groups p.groups)

-- an end mark is a word that begins with `%` (37)
abbrev pub is_end_mark : List ℕ → Bool
is_end_mark [] = false
is_end_mark (b ∷ bs) = b == 37

-- what stands behind the last clause: nothing; or nothing, or an end mark and any tokens
abbrev pub MayFollow : Form → List Kind → Type 0
MayFollow Gcnf kinds = kinds ≡ []
MayFollow Cnf [] = Unit {0}
MayFollow Cnf (Word word ∷ kinds) = is_end_mark word ≡ true
MayFollow Cnf (Number n ∷ kinds) = ⊥
MayFollow Cnf (OpenBrace ∷ kinds) = ⊥
MayFollow Cnf (CloseBrace ∷ kinds) = ⊥

-- ---- the text of a problem

-- the tokens are those of this problem in this form
pub record HasForm (form : Form) (p : Problem) (kinds : List Kind) : Type 0 where
  pub groups : HasGroups form p
  pub behind : List Kind
  pub same : kinds ≡ problem_kinds form p ++ behind
  pub follows : MayFollow form behind

-- the tokens of a text by value, without their places
abbrev pub kinds_of : List Token → List Kind
kinds_of tokens = map (λ (t : Token). t.kind) tokens

-- a problem within the limits
pub record IsWithinLimits (p : Problem) : Type 0 where
  pub vars : p.vars ≤ max_vars
  pub clauses : length p.clauses ≤ max_clauses
  pub groups : p.groups ≤ max_groups
  pub literals : literal_count p.clauses ≤ max_literals

-- the text is one of this problem, whose literals and groups are those that its numbers allow, and both are within the limits
pub record Reads (text : List ℕ) (p : Problem) : Type 0 where
  pub well_formed : IsProblem p
  pub limits : IsWithinLimits p
  pub bytes : length text ≤ max_bytes
  pub form : Form
  pub kinds : HasForm form p (kinds_of (tokens_of text))
