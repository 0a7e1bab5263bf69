-- Where a literal is due: within a clause, and in CNF where a clause begins.
use Rattle.std.proofs.Common.{◌≡◌, ℕ, ◌<◌, Bool, true, false, cond, ltb, List, [], ◌∷◌, ◌++◌, refl, ℤ}
use Rattle.std.proofs.lemmas.Bool.{lt-ltb}
use Rattle.gcnf_text.specs.declared.form.Form.{Form}
use Rattle.gcnf_text.specs.declared.form.Form.TheVariants.{Cnf}
use Rattle.gcnf_text.specs.Grammar.{is_end_mark}
use Rattle.gcnf_text.specs.Table as table
use Rattle.gcnf_text.specs.Table.{Due, Sofar, refused}
use Rattle.gcnf_text.specs.Steps.{IsLiteralDue, behind_group}

either : (b : Bool) (number : ℕ) → refused number ≡ cond b (refused number) (refused number)
either true number = refl
either false number = refl

-- within a clause an end mark is a token like another
pub within_clause : (form : Form) (s : Sofar) → IsLiteralDue form s 3 (table.Literals form s)
within_clause form s =
    record { number = λ l. refl; word = λ w. either (is_end_mark w) 3; open_brace = refl; close_brace = refl; end = refl }

-- where a clause begins in CNF it says that clauses are missing
pub at_clause : (s : Sofar) → s.ended < s.clauses → IsLiteralDue Cnf s 7 (table.Between Cnf s)
at_clause s more =
    let less : ltb s.ended s.clauses ≡ true = lt-ltb s.ended s.clauses more in
    record { number = λ l. rw less refl; word = λ w. rw less refl; open_brace = refl; close_brace = refl; end = rw less refl }

-- what is due where these literals of a clause were read
abbrev pub due_within : Form → Sofar → List ℤ → Due
due_within form s [] = behind_group form s
due_within form s (l ∷ ls) = table.Literals form s

pub due_within-more : (form : Form) (s : Sofar) (ls : List ℤ) (l : ℤ) → due_within form s (ls ++ l ∷ []) ≡ table.Literals form s
due_within-more form s [] l = refl
due_within-more form s (m ∷ ls) l = refl
