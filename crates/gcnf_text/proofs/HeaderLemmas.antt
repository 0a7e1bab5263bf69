-- The numbers of the header, each where it is due.
use Rattle.std.proofs.Common.{◌≡◌, ℕ, [], ◌∷◌, ◌++◌, refl, pos}
use Rattle.token_text.specs.Kinds.{Number}
use Rattle.gcnf_text.specs.declared.offence.Limit.TheVariants as limit
use Rattle.gcnf_text.specs.declared.form.Form.{Form}
use Rattle.gcnf_text.specs.declared.form.Form.TheVariants.{Gcnf, Cnf}
use Rattle.gcnf_text.specs.Grammar.{header_kinds, max_clauses, max_groups, max_vars}
use Rattle.gcnf_text.specs.Table as table
use Rattle.gcnf_text.specs.Steps.{IsNumberDue, count_kinds, word_kinds}

pub vars_due : (form : Form) → IsNumberDue (table.Vars form) max_vars limit.Vars (table.Clauses form)
vars_due form = record { number = λ n. refl; word = λ w. refl; open_brace = refl; close_brace = refl; end = refl }

pub clauses_due : (vars : ℕ) → IsNumberDue (table.Clauses Gcnf vars) max_clauses limit.Clauses (table.Groups vars)
clauses_due vars = record { number = λ n. refl; word = λ w. refl; open_brace = refl; close_brace = refl; end = refl }

pub groups_due : (vars clauses : ℕ)
    → IsNumberDue (table.Groups vars clauses) max_groups limit.Groups (λ groups. table.Between Gcnf (table.behind_header vars clauses groups))
groups_due vars clauses = record { number = λ n. refl; word = λ w. refl; open_brace = refl; close_brace = refl; end = refl }

-- a header is its words, the greatest variable, and its counts
pub header_parts : (form : Form) (vars clauses groups : ℕ)
    → word_kinds form ++ Number (pos vars) ∷ [] ++ count_kinds form clauses groups ≡ header_kinds form vars clauses groups
header_parts Gcnf vars clauses groups = refl
header_parts Cnf vars clauses groups = refl
