-- The text of a problem has no offence: each of its tokens goes on, and then the end is accepted.
use Rattle.std.proofs.Common.{◌≡◌, ℕ, ◌+◌, ◌<◌, ◌≤◌, true, false, List, [], ◌∷◌, ◌++◌, map, length, leb, ltb, refl, sym, ◌∙◌, ap, subst, arith, Option, None, ℤ, pos, codes}
use Rattle.std.proofs.lemmas.Grind.{common_steps}
use Rattle.std.proofs.lemmas.Bool.{cond-false, le-leb, le-ltb, lt-ltb}
use Rattle.std.proofs.lemmas.Bool.Decides.{nat_tests}
use Rattle.std.proofs.lemmas.List.{append_assoc}
use Rattle.std.proofs.lemmas.List.Sums.{sum_by-cons}
use Rattle.std.specs.List.{flat_map, AllByRecursion}
use Rattle.token_text.specs.Kinds.{Kind, Word, Number, OpenBrace, CloseBrace}
use Rattle.token_text.specs.Tokens.{Token, Place, end_of, tokens_of}
use Rattle.gm_base.specs.declared.clause.Clause.{Clause}
use Rattle.sat_base.specs.Literals.{IsLiteral, AreLiterals}
use Rattle.gm_base.specs.Problem.{Problem, IsProblem, IsClause}
use Rattle.gcnf_text.specs.declared.form.Form.{Form}
use Rattle.gcnf_text.specs.declared.form.Form.TheVariants.{Gcnf, Cnf}
use Rattle.gcnf_text.specs.Grammar.{HasGroups, IsWithinLimits, MayFollow, Reads, clause_kinds, kinds_of, literal_count, max_bytes, max_clauses, max_groups, max_literals, problem_kinds}
use Rattle.gcnf_text.specs.Table as table
use Rattle.gcnf_text.specs.Table.{Due, Goes, Sofar, after, after_group, after_literal, at_end, behind_header, end_offence, first_offence, offence_from, offence_or}
use Rattle.gcnf_text.specs.Steps.{behind_clause, behind_literals}

-- whatever tokens of these kinds are left, none has an offence where this is due
abbrev pub IsFaultless : Due → List Kind → Place → Type 0
IsFaultless due kinds end = (ts : List Token) → kinds_of ts ≡ kinds → offence_from due ts end ≡ None

-- a token that goes on
goes_on : (due next : Due) (k : Kind) (ks : List Kind) (end : Place) → after due k ≡ Goes next → IsFaultless next ks end
    → IsFaultless due (k ∷ ks) end
goes_on due next k ks end goes behind [] same = let never : ⊥ = cc in absurd never
goes_on due next k ks end goes behind (t ∷ ts) same =
    let first : t.kind ≡ k = cc in
    let rest : kinds_of ts ≡ ks = cc in
    ap (λ v. offence_or v t (λ n. offence_from n ts end)) (ap (after due) first ∙ goes) ∙ behind ts rest

-- the end, where it is accepted
end_accepted : (due : Due) (end : Place) → at_end due ≡ None → IsFaultless due [] end
end_accepted due end accepted [] same = ap (λ (e : Option ℕ). end_offence e end) accepted
end_accepted due end accepted (t ∷ ts) same = let never : ⊥ = cc in absurd never

-- a token that goes on as it does where another thing is due
goes_alike : (due other : Due) (k : Kind) (ks : List Kind) (end : Place) → after due k ≡ after other k → IsFaultless other (k ∷ ks) end
    → IsFaultless due (k ∷ ks) end
goes_alike due other k ks end alike behind [] same = let never : ⊥ = cc in absurd never
goes_alike due other k ks end alike behind (t ∷ ts) same =
    let first : t.kind ≡ k = cc in
    let both : after due t.kind ≡ after other t.kind = ap (after due) first ∙ alike ∙ sym (ap (after other) first) in
    ap (λ v. offence_or v t (λ n. offence_from n ts end)) both ∙ behind (t ∷ ts) same

-- behind an end mark nothing is judged
rest_faultless : (ts : List Token) (end : Place) → offence_from table.Rest ts end ≡ None
rest_faultless [] end = refl
rest_faultless (t ∷ ts) end = rest_faultless ts end

literal_goes_on : (form : Form) (s : Sofar) (l : ℤ) → IsLiteral s.vars l → s.literals < max_literals
    → after_literal form l s ≡ Goes (table.Literals form (record s { literals = s.literals + 1 }))
literal_goes_on form s l is few = grind (arith, common_steps, nat_tests, is.not_zero, is.in_range)

literals_go_on : (form : Form) (s : Sofar) (ls : List ℤ) (ks : List Kind) (end : Place) → AreLiterals s.vars ls
    → s.literals + length ls ≤ max_literals → IsFaultless (table.Between form (behind_literals s ls)) ks end
    → IsFaultless (table.Literals form s) (map Number ls ++ Number (pos 0) ∷ ks) end
literals_go_on form s [] ks end are few behind =
    let same : s.literals + 0 ≡ s.literals = omega arith in
    goes_on (table.Literals form s) (table.Between form (record s { ended = s.ended + 1 })) (Number (pos 0)) ks end refl
    (subst (λ n. IsFaultless (table.Between form (record s { ended = s.ended + 1; literals = n })) ks end) same behind)
literals_go_on form s (l ∷ ls) ks end are few behind =
    let next : Sofar = record s { literals = s.literals + 1 } in
    let same : s.literals + length (l ∷ ls) ≡ s.literals + 1 + length ls = omega arith in
    goes_on (table.Literals form s) (table.Literals form next) (Number l) (map Number ls ++ Number (pos 0) ∷ ks) end
    (literal_goes_on form s l are.0 (omega arith))
    (literals_go_on form next ls ks end are.1 (omega arith)
    (subst (λ n. IsFaultless (table.Between form (record s { ended = s.ended + 1; literals = n })) ks end) same behind))

-- where a clause is due in CNF a number goes on as within one
pub number_alike : (s : Sofar) (l : ℤ) → s.ended < s.clauses → after (table.Between Cnf s) (Number l) ≡ after (table.Literals Cnf s) (Number l)
number_alike s l more = let less : ltb s.ended s.clauses ≡ true = lt-ltb s.ended s.clauses more in rw less refl

-- so the first literal, or 0, of a clause goes on there
literals_start : (s : Sofar) (ls : List ℤ) (ks : List Kind) (end : Place) → s.ended < s.clauses
    → IsFaultless (table.Literals Cnf s) (map Number ls ++ Number (pos 0) ∷ ks) end
    → IsFaultless (table.Between Cnf s) (map Number ls ++ Number (pos 0) ∷ ks) end
literals_start s [] ks end more behind =
    goes_alike (table.Between Cnf s) (table.Literals Cnf s) (Number (pos 0)) ks end (number_alike s (pos 0) more) behind
literals_start s (l ∷ ls) ks end more behind =
    goes_alike (table.Between Cnf s) (table.Literals Cnf s) (Number l) (map Number ls ++ Number (pos 0) ∷ ks) end (number_alike s l more) behind

clause_goes_on : (form : Form) (s : Sofar) (c : Clause) (ks : List Kind) (end : Place) → IsClause s.vars s.groups c → s.ended < s.clauses
    → s.literals + length c.lits ≤ max_literals → IsFaultless (table.Between form (behind_clause s c)) ks end
    → IsFaultless (table.Between form s) (clause_kinds form c ++ ks) end
clause_goes_on Gcnf s c ks end is more few behind =
    let opens : after (table.Between Gcnf s) OpenBrace ≡ Goes (table.Group s) = grind (arith, common_steps, nat_tests) in
    let group : after_group (pos c.group) s ≡ Goes (table.Close s) = grind (arith, common_steps, nat_tests, is.group) in
    let literals : IsFaultless (table.Literals Gcnf s) ((map Number c.lits ++ Number (pos 0) ∷ []) ++ ks) end =
    subst (λ ls. IsFaultless (table.Literals Gcnf s) ls end) (sym (append_assoc (map Number c.lits) (Number (pos 0) ∷ []) ks))
    (literals_go_on Gcnf s c.lits ks end is.lits few behind) in
    goes_on (table.Between Gcnf s) (table.Group s) OpenBrace _ end opens
    (goes_on (table.Group s) (table.Close s) (Number (pos c.group)) _ end group
    (goes_on (table.Close s) (table.Literals Gcnf s) CloseBrace _ end refl literals))
clause_goes_on Cnf s c ks end is more few behind =
    subst (λ ls. IsFaultless (table.Between Cnf s) ls end) (sym (append_assoc (map Number c.lits) (Number (pos 0) ∷ []) ks))
    (literals_start s c.lits ks end more (literals_go_on Cnf s c.lits ks end is.lits few behind))

pub literal_count-cons : (c : Clause) (cs : List Clause) → literal_count (c ∷ cs) ≡ length c.lits + literal_count cs
literal_count-cons c cs = sum_by-cons (λ (d : Clause). length d.lits) c cs

-- behind the last clause the end is accepted, and in CNF an end mark with anything behind it
behind_last : (form : Form) (s : Sofar) (ks : List Kind) (end : Place) → s.ended ≡ s.clauses → MayFollow form ks
    → IsFaultless (table.Between form s) ks end
behind_last Gcnf s ks end all follows =
    let ends : at_end (table.Between Gcnf s) ≡ None = grind (arith, common_steps, nat_tests) in
    subst (λ ls. IsFaultless (table.Between Gcnf s) ls end) (sym follows) (end_accepted (table.Between Gcnf s) end ends)
behind_last Cnf s [] end all follows =
    let ends : at_end (table.Between Cnf s) ≡ None = grind (arith, common_steps, nat_tests) in
    end_accepted (table.Between Cnf s) end ends
behind_last Cnf s (Word w ∷ ks) end all follows =
    let none : ltb s.ended s.clauses ≡ false = le-ltb s.ended s.clauses (omega arith) in
    let goes : after (table.Between Cnf s) (Word w) ≡ Goes table.Rest = rw (follows, none) refl in
    goes_on (table.Between Cnf s) table.Rest (Word w) ks end goes (λ ts same. rest_faultless ts end)
behind_last Cnf s (Number n ∷ ks) end all follows = absurd follows
behind_last Cnf s (OpenBrace ∷ ks) end all follows = absurd follows
behind_last Cnf s (CloseBrace ∷ ks) end all follows = absurd follows

clauses_go_on : (form : Form) (s : Sofar) (cs : List Clause) (ks : List Kind) (end : Place) → AllByRecursion (IsClause s.vars s.groups) cs
    → s.ended + length cs ≡ s.clauses → s.literals + literal_count cs ≤ max_literals → MayFollow form ks
    → IsFaultless (table.Between form s) (flat_map (clause_kinds form) cs ++ ks) end
clauses_go_on form s [] ks end are count few follows = behind_last form s ks end (omega arith) follows
clauses_go_on form s (c ∷ cs) ks end are count few follows =
    let total = literal_count-cons c cs in
    subst (λ ls. IsFaultless (table.Between form s) ls end) (sym (append_assoc (clause_kinds form c) (flat_map (clause_kinds form) cs) ks))
    (clause_goes_on form s c (flat_map (clause_kinds form) cs ++ ks) end are.0 (omega arith) (omega (arith, total))
    (clauses_go_on form (behind_clause s c) cs ks end are.1 (omega arith) (omega (arith, total)) follows))

pub whole_goes_on : (form : Form) (p : Problem) (ks : List Kind) (end : Place) → IsProblem p → IsWithinLimits p → HasGroups form p → MayFollow form ks
    → IsFaultless table.Start (problem_kinds form p ++ ks) end
whole_goes_on Gcnf p ks end well_formed limits has follows =
    let m = length p.clauses in
    let s : Sofar = behind_header p.vars m p.groups in
    let vars : after (table.Vars Gcnf) (Number (pos p.vars)) ≡ Goes (table.Clauses Gcnf p.vars) = grind (arith, common_steps, nat_tests, limits.vars) in
    let clauses : after (table.Clauses Gcnf p.vars) (Number (pos m)) ≡ Goes (table.Groups p.vars m) = grind (arith, common_steps, nat_tests, limits.clauses) in
    let groups : after (table.Groups p.vars m) (Number (pos p.groups)) ≡ Goes (table.Between Gcnf s) = grind (arith, common_steps, nat_tests, limits.groups) in
    let all : IsFaultless (table.Between Gcnf s) (flat_map (clause_kinds Gcnf) p.clauses ++ ks) end = clauses_go_on Gcnf s p.clauses ks end well_formed (omega arith) (omega (arith, limits.literals)) follows in
    goes_on table.Start table.Format (Word (codes "p")) _ end refl
    (goes_on table.Format (table.Vars Gcnf) (Word (codes "gcnf")) _ end refl
    (goes_on (table.Vars Gcnf) (table.Clauses Gcnf p.vars) (Number (pos p.vars)) _ end vars
    (goes_on (table.Clauses Gcnf p.vars) (table.Groups p.vars m) (Number (pos m)) _ end clauses
    (goes_on (table.Groups p.vars m) (table.Between Gcnf s) (Number (pos p.groups)) _ end groups all))))
whole_goes_on Cnf p ks end well_formed limits has follows =
    let m = length p.clauses in
    let s : Sofar = behind_header p.vars m m in
    let vars : after (table.Vars Cnf) (Number (pos p.vars)) ≡ Goes (table.Clauses Cnf p.vars) = grind (arith, common_steps, nat_tests, limits.vars) in
    let few : ltb max_clauses m ≡ false = le-ltb max_clauses m limits.clauses in
    let fit : leb m max_groups ≡ true = le-leb m max_groups (omega (arith, limits.groups, has.0)) in
    let clauses : after (table.Clauses Cnf p.vars) (Number (pos m)) ≡ Goes (table.Between Cnf s) = rw (few, fit) refl in
    let in_groups : AllByRecursion (IsClause p.vars m) p.clauses = subst (λ g. AllByRecursion (IsClause p.vars g) p.clauses) has.0 well_formed in
    let all : IsFaultless (table.Between Cnf s) (flat_map (clause_kinds Cnf) p.clauses ++ ks) end = clauses_go_on Cnf s p.clauses ks end in_groups (omega arith) (omega (arith, limits.literals)) follows in
    goes_on table.Start table.Format (Word (codes "p")) _ end refl
    (goes_on table.Format (table.Vars Cnf) (Word (codes "cnf")) _ end refl
    (goes_on (table.Vars Cnf) (table.Clauses Cnf p.vars) (Number (pos p.vars)) _ end vars
    (goes_on (table.Clauses Cnf p.vars) (table.Between Cnf s) (Number (pos m)) _ end clauses all)))

pub faultless : (text : List ℕ) (p : Problem) → Reads text p → first_offence text ≡ None
faultless text p reads =
    let short : ltb max_bytes (length text) ≡ false = grind (arith, common_steps, nat_tests, reads.bytes) in
    cond-false (ltb max_bytes (length text)) _ (offence_from table.Start (tokens_of text) (end_of text)) short
    ∙ whole_goes_on reads.form p reads.kinds.behind (end_of text) reads.well_formed reads.limits reads.kinds.groups reads.kinds.follows (tokens_of text) reads.kinds.same
