-- How long a plain text can be: 9 bytes for a literal, 12 for a clause beside its literals, and 32 for the header.
use Rattle.std.proofs.Common.{◌≡◌, ℕ, suc, ◌+◌, ◌*◌, ◌≤◌, List, [], ◌∷◌, ◌++◌, length, refl, sym, ◌∙◌, arith, ℤ, pos, negsuc, codes}
use Rattle.std.specs.List.{AllByRecursion, flat_map}
use Rattle.std.specs.Fmt.{decimal, signed_decimal}
use Rattle.std.proofs.lemmas.Fmt.{length-decimal-le}
use Rattle.std.proofs.lemmas.List.{append-nil, length-append}
use Rattle.gm_base.specs.declared.clause.Clause.{Clause}
use Rattle.gm_base.specs.Problem.{Problem, IsClause}
use Rattle.sat_base.specs.Literals.{AreLiterals, IsLiteral}
use Rattle.gcnf_text.specs.declared.form.Form.TheVariants.{Gcnf}
use Rattle.gcnf_text.specs.Grammar.{IsWithinLimits, literal_count, max_groups, max_vars, problem_kinds}
use Rattle.gcnf_text.specs.Plain.{PlainIsRead, PlainIsShort, clause_line, header_line, literals_text}
use Rattle.gcnf_text.proofs.AcceptedLemmas.{literal_count-cons}
use Rattle.gcnf_text.proofs.PlainLemmas.{kinds_of-plain}

length-literal : (vars : ℕ) (l : ℤ) → vars ≤ max_vars → IsLiteral vars l → length (signed_decimal l) ≤ 8
length-literal vars (pos v) small is =
    let high : v ≤ vars = is.in_range in omega (arith, length-decimal-le 7 v (omega arith) (omega arith) (omega arith))
length-literal vars (negsuc k) small is =
    let high : suc k ≤ vars = is.in_range in omega (arith, length-decimal-le 7 (suc k) (omega arith) (omega arith) (omega arith))

length-literals : (vars : ℕ) (ls : List ℤ) → vars ≤ max_vars → AreLiterals vars ls → length (literals_text ls) ≤ 9 * length ls
length-literals vars [] small are = omega arith
length-literals vars (l ∷ ls) small are =
    omega (arith, length-append (codes " " ++ signed_decimal l) (literals_text ls), length-literal vars l small are.0, length-literals vars ls small are.1)

length_of_five : (a b c d e : List ℕ) → length (a ++ b ++ c ++ d ++ e) ≡ length a + length b + length c + length d + length e
length_of_five a b c d e =
    omega (arith, length-append a b, length-append (a ++ b) c, length-append (a ++ b ++ c) d, length-append (a ++ b ++ c ++ d) e)

length-clause : (vars groups : ℕ) (c : Clause) → vars ≤ max_vars → groups ≤ max_groups → IsClause vars groups c
    → length (clause_line c) ≤ 12 + 9 * length c.lits
length-clause vars groups c small few is =
    let high = is.group in
    let digits : length (decimal c.group) ≤ 7 = length-decimal-le 7 c.group (omega arith) (omega (arith, high)) (omega (arith, high)) in
    omega (arith, digits, length-literals vars c.lits small is.lits, length_of_five (codes "{") (decimal c.group) (codes "}") (literals_text c.lits) (codes " 0\n"))

length-clauses : (vars groups : ℕ) (cs : List Clause) → vars ≤ max_vars → groups ≤ max_groups → AllByRecursion (IsClause vars groups) cs
    → length (flat_map clause_line cs) ≤ 12 * length cs + 9 * literal_count cs
length-clauses vars groups [] small few are = omega arith
length-clauses vars groups (c ∷ cs) small few are =
    omega (arith, length-append (clause_line c) (flat_map clause_line cs), length-clause vars groups c small few are.0, length-clauses vars groups cs small few are.1, literal_count-cons c cs)

length-header : (p : Problem) → IsWithinLimits p → length (header_line p) ≤ 32
length-header p limits =
    let v = limits.vars in
    let m = limits.clauses in
    let g = limits.groups in
    let vars : length (decimal p.vars) ≤ 7 = length-decimal-le 7 p.vars (omega arith) (omega (arith, v)) (omega (arith, v)) in
    let count : length (decimal (length p.clauses)) ≤ 8 = length-decimal-le 8 (length p.clauses) (omega arith) (omega (arith, m)) (omega (arith, m)) in
    let groups : length (decimal p.groups) ≤ 7 = length-decimal-le 7 p.groups (omega arith) (omega (arith, g)) (omega (arith, g)) in
    let front = length_of_five (codes "p gcnf ") (decimal p.vars) (codes " ") (decimal (length p.clauses)) (codes " ") in
    let upto : List ℕ = codes "p gcnf " ++ decimal p.vars ++ codes " " ++ decimal (length p.clauses) ++ codes " " in
    omega (arith, vars, count, groups, front, length-append upto (decimal p.groups), length-append (upto ++ decimal p.groups) (codes "\n"))

pub plain_is_short : PlainIsShort
plain_is_short p well_formed limits =
    let body = length-clauses p.vars p.groups p.clauses limits.vars limits.groups well_formed in
    let header = length-header p limits in
    omega (arith, length-append (header_line p) (flat_map clause_line p.clauses), body, header)

pub plain_is_read : PlainIsRead
plain_is_read p well_formed limits short =
    record {
      well_formed = well_formed;
      limits = limits;
      bytes = short;
      form = Gcnf;
      kinds = record {
        groups = tt;
        behind = [];
        same = kinds_of-plain p well_formed limits ∙ sym (append-nil (problem_kinds Gcnf p));
        follows = refl;
      };
    }
