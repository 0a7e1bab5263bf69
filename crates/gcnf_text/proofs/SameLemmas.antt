-- A text is one of at most one problem: a clause ends at its first 0, since its literals are not 0.
use Rattle.std.proofs.Common.{◌≡◌, ℕ, ◌+◌, List, [], ◌∷◌, ◌++◌, map, length, refl, sym, ◌∙◌, ap, arith, ℤ, pos, codes}
use Rattle.std.proofs.lemmas.List.{append_assoc}
use Rattle.std.specs.List.{flat_map, AllByRecursion}
use Rattle.token_text.specs.Kinds.{Kind, Number, OpenBrace, CloseBrace}
use Rattle.token_text.specs.Tokens.{tokens_of}
use Rattle.gm_base.specs.declared.clause.Clause.{Clause}
use Rattle.sat_base.specs.Literals.{IsLiteral, AreLiterals, var_of}
use Rattle.gm_base.specs.Problem.{Problem, IsClause, IsProblem}
use Rattle.gcnf_text.specs.declared.form.Form.{Form}
use Rattle.gcnf_text.specs.declared.form.Form.TheVariants.{Gcnf, Cnf}
use Rattle.gcnf_text.specs.Grammar.{HasForm, HasGroups, Reads, clause_kinds, kinds_of, problem_kinds}
use Rattle.gcnf_text.proofs.NumberedLemmas.{AreNumberedFrom, IsAt, at_first, at_rest, numbered}

zero_is_no_literal : (vars : ℕ) (l : ℤ) → IsLiteral vars l → l ≡ pos 0 → ⊥
zero_is_no_literal vars l is zero = let none : var_of l ≡ 0 = ap var_of zero in omega (arith, is.not_zero, none)

same_literals : (vars : ℕ) (ls ms : List ℤ) (xs ys : List Kind) → AreLiterals vars ls → AreLiterals vars ms
    → map Number ls ++ Number (pos 0) ∷ xs ≡ map Number ms ++ Number (pos 0) ∷ ys → (ls ≡ ms) × (xs ≡ ys)
same_literals vars [] [] xs ys ls_are ms_are same = (refl, cc)
same_literals vars [] (m ∷ ms) xs ys ls_are ms_are same =
    let zero : m ≡ pos 0 = cc in absurd (zero_is_no_literal vars m ms_are.0 zero)
same_literals vars (l ∷ ls) [] xs ys ls_are ms_are same =
    let zero : l ≡ pos 0 = cc in absurd (zero_is_no_literal vars l ls_are.0 zero)
same_literals vars (l ∷ ls) (m ∷ ms) xs ys ls_are ms_are same =
    let first : l ≡ m = cc in
    let behind : map Number ls ++ Number (pos 0) ∷ xs ≡ map Number ms ++ Number (pos 0) ∷ ys = cc in
    let (rest, tails) = same_literals vars ls ms xs ys ls_are.1 ms_are.1 behind in
    (ap (λ n. n ∷ ls) first ∙ ap (λ ns. m ∷ ns) rest, tails)

same_parts : (c d : Clause) → c.group ≡ d.group → c.lits ≡ d.lits → c ≡ d
same_parts c d group lits =
    ap (λ (g : ℕ). record { group = g; lits = c.lits }) group ∙ ap (λ (ls : List ℤ). record { group = d.group; lits = ls }) lits

regrouped : (c : Clause) (ks : List Kind)
    → clause_kinds Gcnf c ++ ks ≡ OpenBrace ∷ Number (pos c.group) ∷ CloseBrace ∷ map Number c.lits ++ Number (pos 0) ∷ ks
regrouped c ks =
    ap (λ ls. OpenBrace ∷ Number (pos c.group) ∷ CloseBrace ∷ ls) (append_assoc (map Number c.lits) (Number (pos 0) ∷ []) ks)

-- clauses in the same place, of which in CNF each has that as its group
same_clause : (form : Form) (vars groups : ℕ) (c d : Clause) (xs ys : List Kind) (i : ℕ) → IsClause vars groups c → IsClause vars groups d
    → IsAt form i c → IsAt form i d → clause_kinds form c ++ xs ≡ clause_kinds form d ++ ys → (c ≡ d) × (xs ≡ ys)
same_clause Gcnf vars groups c d xs ys i c_is d_is c_at d_at same =
    let both : OpenBrace ∷ Number (pos c.group) ∷ CloseBrace ∷ map Number c.lits ++ Number (pos 0) ∷ xs ≡ OpenBrace ∷ Number (pos d.group) ∷ CloseBrace ∷ map Number d.lits ++ Number (pos 0) ∷ ys =
    rw (sym (regrouped c xs), sym (regrouped d ys)) same in
    let group : c.group ≡ d.group = cc in
    let behind : map Number c.lits ++ Number (pos 0) ∷ xs ≡ map Number d.lits ++ Number (pos 0) ∷ ys = cc in
    let (lits, tails) = same_literals vars c.lits d.lits xs ys c_is.lits d_is.lits behind in
    (same_parts c d group lits, tails)
same_clause Cnf vars groups c d xs ys i c_is d_is c_at d_at same =
    let both : map Number c.lits ++ Number (pos 0) ∷ xs ≡ map Number d.lits ++ Number (pos 0) ∷ ys =
    sym (append_assoc (map Number c.lits) (Number (pos 0) ∷ []) xs) ∙ same ∙ append_assoc (map Number d.lits) (Number (pos 0) ∷ []) ys in
    let (lits, tails) = same_literals vars c.lits d.lits xs ys c_is.lits d_is.lits both in
    (same_parts c d (c_at ∙ sym d_at) lits, tails)

-- as many clauses, whatever stands behind them
same_clauses : (form : Form) (vars groups i : ℕ) (cs ds : List Clause) (xs ys : List Kind) → AllByRecursion (IsClause vars groups) cs
    → AllByRecursion (IsClause vars groups) ds → length cs ≡ length ds → AreNumberedFrom form i cs → AreNumberedFrom form i ds
    → flat_map (clause_kinds form) cs ++ xs ≡ flat_map (clause_kinds form) ds ++ ys → cs ≡ ds
same_clauses form vars groups i [] [] xs ys cs_are ds_are count cs_at ds_at same = refl
same_clauses form vars groups i [] (d ∷ ds) xs ys cs_are ds_are count cs_at ds_at same = absurd (omega (arith, count))
same_clauses form vars groups i (c ∷ cs) [] xs ys cs_are ds_are count cs_at ds_at same = absurd (omega (arith, count))
same_clauses form vars groups i (c ∷ cs) (d ∷ ds) xs ys cs_are ds_are count cs_at ds_at same =
    let cs_kinds = flat_map (clause_kinds form) cs in
    let ds_kinds = flat_map (clause_kinds form) ds in
    let both : clause_kinds form c ++ (cs_kinds ++ xs) ≡ clause_kinds form d ++ (ds_kinds ++ ys) =
    sym (append_assoc (clause_kinds form c) cs_kinds xs) ∙ same ∙ append_assoc (clause_kinds form d) ds_kinds ys in
    let (first, tails) = same_clause form vars groups c d (cs_kinds ++ xs) (ds_kinds ++ ys) i cs_are.0 ds_are.0 (at_first form i c cs cs_at) (at_first form i d ds ds_at) both in
    ap (λ e. e ∷ cs) first
    ∙ ap (λ es. d ∷ es) (same_clauses form vars groups (i + 1) cs ds xs ys cs_are.1 ds_are.1 (omega (arith, count)) (at_rest form i c cs cs_at) (at_rest form i d ds ds_at) tails)

-- the texts of two problems in one form say the same numbers, and the same behind the header
record SameHeader (form : Form) (p q : Problem) (xs ys : List Kind) : Type 0 where
  vars : q.vars ≡ p.vars
  count : length q.clauses ≡ length p.clauses
  groups : q.groups ≡ p.groups
  clauses : flat_map (clause_kinds form) q.clauses ++ ys ≡ flat_map (clause_kinds form) p.clauses ++ xs

same_header : (form : Form) (p q : Problem) (xs ys : List Kind) → HasGroups form p → HasGroups form q
    → problem_kinds form q ++ ys ≡ problem_kinds form p ++ xs → SameHeader form p q xs ys
same_header Gcnf p q xs ys p_has q_has same = record { vars = cc; count = cc; groups = cc; clauses = cc }
same_header Cnf p q xs ys p_has q_has same =
    let count : length q.clauses ≡ length p.clauses = cc in
    record { vars = cc; count = count; groups = q_has.0 ∙ count ∙ sym p_has.0; clauses = cc }

same_in_form : (form : Form) (p q : Problem) (ks : List Kind) → IsProblem p → IsProblem q → HasForm form p ks → HasForm form q ks → q ≡ p
same_in_form form p q ks p_is q_is p_has q_has =
    let both = same_header form p q p_has.behind q_has.behind p_has.groups q_has.groups (sym q_has.same ∙ p_has.same) in
    by q.vars q.groups p.vars p.groups q.clauses p.clauses both.vars both.groups both.count both.clauses
    (numbered form q q_has.groups) (numbered form p p_has.groups) q_is p_is
  where
    by : (v g w h : ℕ) (cs ds : List Clause) → v ≡ w → g ≡ h → length cs ≡ length ds
        → flat_map (clause_kinds form) cs ++ q_has.behind ≡ flat_map (clause_kinds form) ds ++ p_has.behind
        → AreNumberedFrom form 1 cs → AreNumberedFrom form 1 ds
        → AllByRecursion (IsClause v g) cs → AllByRecursion (IsClause w h) ds
        → Path Problem (record { vars = v; groups = g; clauses = cs }) (record { vars = w; groups = h; clauses = ds })
    by v g w h cs ds vars groups count flat c_at d_at c_are d_are =
        let d_here : AllByRecursion (IsClause v g) ds = rw (vars, groups) d_are in
        let clauses = same_clauses form v g 1 cs ds q_has.behind p_has.behind c_are d_here count c_at d_at flat in
        cc

-- the second word tells the form
one_form : (p q : Problem) (ks : List Kind) → HasForm Gcnf p ks → HasForm Cnf q ks → ⊥
one_form p q ks p_has q_has =
    let both = sym p_has.same ∙ q_has.same in
    let words : codes "gcnf" ≡ codes "cnf" = cc in
    cc

same_in_forms : (f g : Form) (p q : Problem) (ks : List Kind) → IsProblem p → IsProblem q → HasForm f p ks → HasForm g q ks → q ≡ p
same_in_forms Gcnf Gcnf p q ks p_is q_is p_has q_has = same_in_form Gcnf p q ks p_is q_is p_has q_has
same_in_forms Cnf Cnf p q ks p_is q_is p_has q_has = same_in_form Cnf p q ks p_is q_is p_has q_has
same_in_forms Gcnf Cnf p q ks p_is q_is p_has q_has = absurd (one_form p q ks p_has q_has)
same_in_forms Cnf Gcnf p q ks p_is q_is p_has q_has = absurd (one_form q p ks q_has p_has)

pub same_problem : (text : List ℕ) (p q : Problem) → Reads text p → Reads text q → q ≡ p
same_problem text p q p_reads q_reads =
    same_in_forms p_reads.form q_reads.form p q (kinds_of (tokens_of text)) p_reads.well_formed q_reads.well_formed p_reads.kinds q_reads.kinds
