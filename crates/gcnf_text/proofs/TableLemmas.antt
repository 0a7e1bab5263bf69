-- Where the table accepts tokens, they are those of a problem.
use Rattle.std.proofs.Common.{◌≡◌, ◌⊎◌, ℕ, zero, suc, ◌+◌, ◌<◌, ◌≤◌, Bool, true, false, cond, eqb, List, [], ◌∷◌, ◌++◌, map, length, ltb, leb, refl, sym, ◌∙◌, ap, subst, arith, inl, inr, Option, Some, None, ℤ, pos, negsuc, codes}
use Rattle.std.specs.Prelude.{nat_abs}
use Rattle.std.proofs.lemmas.Grind.{common_steps}
use Rattle.std.proofs.lemmas.Bool.{le-ltb}
use Rattle.std.proofs.lemmas.Bool.Decides.{nat_tests}
use Rattle.std.proofs.lemmas.List.{append_assoc}
use Rattle.std.proofs.lemmas.List.Sums.{sum_by-cons}
use Rattle.std.proofs.lemmas.Slice.Eq.{bytes_eq-Decides}
use Rattle.std.specs.List.{flat_map, AllByRecursion}
use Rattle.std.specs.Str.{bytes_eq}
use Rattle.token_text.specs.Kinds.{Kind, Word, Number, OpenBrace, CloseBrace}
use Rattle.gm_base.specs.declared.clause.Clause.{Clause}
use Rattle.sat_base.specs.Literals.{IsLiteral, AreLiterals}
use Rattle.gm_base.specs.Problem.{Problem, IsClause}
use Rattle.gcnf_text.specs.declared.offence.Limit.{Limit}
use Rattle.gcnf_text.specs.declared.offence.Limit.TheVariants as limit
use Rattle.gcnf_text.specs.declared.form.Form.{Form}
use Rattle.gcnf_text.specs.declared.form.Form.TheVariants.{Gcnf, Cnf}
use Rattle.gcnf_text.specs.Grammar.{MayFollow, clause_kinds, is_end_mark, literal_count, max_clauses, max_groups, max_literals, max_vars}
use Rattle.gcnf_text.specs.Table as table
use Rattle.gcnf_text.specs.Table.{Due, Goes, Refused, Sofar, Verdict, after, after_end_mark, after_group, after_header_number, after_literal, after_own_groups, at_end, behind_header, refused}
use Rattle.gcnf_text.specs.Laws.{AreKindsOf}
use Rattle.gcnf_text.specs.Steps.{IsLiteralDue, IsNumberDue, behind_clause, behind_literals}
use Rattle.gcnf_text.proofs.HeaderLemmas.{vars_due, clauses_due, groups_due}
use Rattle.gcnf_text.proofs.LiteralLemmas.{at_clause, within_clause}
use Rattle.gcnf_text.proofs.NumberedLemmas.{AreNumberedFrom, IsAt, at_all, has_groups}

-- ---- where tokens lead

abbrev pub follow : Verdict → (Due → Option Due) → Option Due
follow (Goes next) behind = behind next
follow (Refused number limit) behind = None

-- where tokens of these kinds lead, if none is refused
abbrev pub passes : Due → List Kind → Option Due
passes due [] = Some due
passes due (k ∷ ks) = follow (after due k) (λ next. passes next ks)

-- none is refused, and then the end is accepted
pub record Accepts (due : Due) (ks : List Kind) : Type 0 where
  pub last : Due
  pub leads : passes due ks ≡ Some last
  pub ends : at_end last ≡ None

-- the first of accepted tokens goes on
first_goes : (due : Due) (k : Kind) (ks : List Kind) → Accepts due (k ∷ ks) → (next : Due) × (after due k ≡ Goes next) × Accepts next ks
first_goes due k ks a = by (after due k) refl a.leads
  where
    by : (v : Verdict) → after due k ≡ v → follow v (λ next. passes next ks) ≡ Some a.last → (next : Due) × (after due k ≡ Goes next) × Accepts next ks
    by (Goes next) goes leads = (next, goes, record { last = a.last; leads = leads; ends = a.ends })
    by (Refused number limit) goes leads = let never : ⊥ = cc in absurd never

-- the same, where it is known what follows
goes_to : (due next : Due) (k : Kind) (ks : List Kind) → after due k ≡ Goes next → Accepts due (k ∷ ks) → Accepts next ks
goes_to due next k ks goes a =
    let (other, found, behind) = first_goes due k ks a in
    let same : other ≡ next = let both = sym found ∙ goes in cc in
    subst (λ d. Accepts d ks) same behind

-- a token that is refused is not accepted
not_refused : (due : Due) (k : Kind) (ks : List Kind) (number : ℕ) (limit : Option Limit) → after due k ≡ Refused number limit
    → Accepts due (k ∷ ks) → ⊥
not_refused due k ks number limit refuses a =
    let (next, goes, behind) = first_goes due k ks a in
    let both = sym refuses ∙ goes in
    cc

-- and so is the end, where it is refused
not_ended : (due : Due) (number : ℕ) → at_end due ≡ Some number → Accepts due [] → ⊥
not_ended due number refuses a =
    let same : due ≡ a.last = let leads = a.leads in cc in
    let both : Some number ≡ None = sym refuses ∙ ap at_end same ∙ a.ends in
    cc

-- ---- literals

abbrev NumberRead : Form → Sofar → ℤ → Due → Type 0
NumberRead form s l next =
    ((l ≡ pos 0) × (next ≡ table.Between form (record s { ended = s.ended + 1 })))
    ⊎ (IsLiteral s.vars l × (s.literals < max_literals) × (next ≡ table.Literals form (record s { literals = s.literals + 1 })))

is_zero : (l : ℤ) → nat_abs l ≡ 0 → l ≡ pos 0
is_zero (pos n) none = ap pos none
is_zero (negsuc n) none = absurd (omega arith)

number_read : (form : Form) (s : Sofar) (l : ℤ) (next : Due) → after_literal form l s ≡ Goes next → NumberRead form s l next
number_read form s l next goes = by (eqb (nat_abs l) 0) refl (ltb s.vars (nat_abs l)) refl (leb max_literals s.literals) refl
  where
    by : (none : Bool) → eqb (nat_abs l) 0 ≡ none → (big : Bool) → ltb s.vars (nat_abs l) ≡ big → (full : Bool) → leb max_literals s.literals ≡ full
        → NumberRead form s l next
    by true none big is_big full is_full =
        let is : nat_abs l ≡ 0 = grind (arith, common_steps, nat_tests) in
        let verdict : after_literal form l s ≡ Goes (table.Between form (record s { ended = s.ended + 1 })) = rw none refl in
        let both = sym goes ∙ verdict in
        inl (is_zero l is, cc)
    by false none true is_big full is_full =
        let verdict : after_literal form l s ≡ refused 4 = rw (none, is_big) refl in
        let both = sym goes ∙ verdict in
        let never : ⊥ = cc in absurd never
    by false none false is_big true is_full =
        let verdict : after_literal form l s ≡ Refused 9 (Some limit.Literals) = rw (none, is_big, is_full) refl in
        let both = sym goes ∙ verdict in
        let never : ⊥ = cc in absurd never
    by false none false is_big false is_full =
        let verdict : after_literal form l s ≡ Goes (table.Literals form (record s { literals = s.literals + 1 })) = rw (none, is_big, is_full) refl in
        let both = sym goes ∙ verdict in
        let some : 0 < nat_abs l = grind (arith, common_steps, nat_tests) in
        let fits : nat_abs l ≤ s.vars = grind (arith, common_steps, nat_tests) in
        let room : s.literals < max_literals = grind (arith, common_steps, nat_tests) in
        inr (record { not_zero = some; in_range = fits }, room, cc)

pub record LiteralsRead (form : Form) (s : Sofar) (ks : List Kind) : Type 0 where
  pub lits : List ℤ
  pub rest : List Kind
  pub kinds : ks ≡ map Number lits ++ Number (pos 0) ∷ rest
  pub in_range : AreLiterals s.vars lits
  pub few : s.literals ≤ max_literals → s.literals + length lits ≤ max_literals
  pub accepts : Accepts (table.Between form (behind_literals s lits)) rest

literal_first : (form : Form) (s : Sofar) (l : ℤ) (ks : List Kind) (next : Due) → Accepts next ks → NumberRead form s l next
    → ((t : Sofar) → Accepts (table.Literals form t) ks → LiteralsRead form t ks) → LiteralsRead form s (Number l ∷ ks)
literal_first form s l ks next a (inl (is, same)) more =
    let none : s.literals ≡ s.literals + 0 = omega arith in
    let here : Accepts (table.Between form (record s { ended = s.ended + 1 })) ks = subst (λ d. Accepts d ks) same a in
    record {
      lits = [];
      rest = ks;
      kinds = ap (λ n. Number n ∷ ks) is;
      in_range = tt;
      few = λ room. omega arith;
      accepts = subst (λ n. Accepts (table.Between form (record s { ended = s.ended + 1; literals = n })) ks) none here;
    }
literal_first form s l ks next a (inr (is, room, same)) more =
    let read = more (record s { literals = s.literals + 1 }) (subst (λ d. Accepts d ks) same a) in
    let count : s.literals + 1 + length read.lits ≡ s.literals + length (l ∷ read.lits) = omega arith in
    record {
      lits = l ∷ read.lits;
      rest = read.rest;
      kinds = ap (λ ls. Number l ∷ ls) read.kinds;
      in_range = (is, read.in_range);
      few = λ before. omega (arith, read.few (omega arith), count);
      accepts = subst (λ n. Accepts (table.Between form (record s { ended = s.ended + 1; literals = n })) read.rest) count read.accepts;
    }

-- an end mark is refused by one number, and other words by another
not_word : (due : Due) (w : List ℕ) (ks : List Kind) (mark : ℕ)
    → after due (Word w) ≡ cond (is_end_mark w) (refused mark) (refused 3) → Accepts due (Word w ∷ ks) → ⊥
not_word due w ks mark refuses a = by (is_end_mark w) refl
  where
    by : (is : Bool) → is_end_mark w ≡ is → ⊥
    by true is = not_refused due (Word w) ks mark None (refuses ∙ ap (λ t. cond t (refused mark) (refused 3)) is) a
    by false is = not_refused due (Word w) ks 3 None (refuses ∙ ap (λ t. cond t (refused mark) (refused 3)) is) a

-- where a literal is due, the literals of a clause are read
read_from : (form : Form) (s : Sofar) (mark : ℕ) (due : Due) (ks : List Kind) → IsLiteralDue form s mark due → Accepts due ks
    → LiteralsRead form s ks
read_from form s mark due [] is a = absurd (not_ended due 7 is.end a)
read_from form s mark due (Word w ∷ ks) is a = absurd (not_word due w ks mark (is.word w) a)
read_from form s mark due (OpenBrace ∷ ks) is a = absurd (not_refused due OpenBrace ks 3 None is.open_brace a)
read_from form s mark due (CloseBrace ∷ ks) is a = absurd (not_refused due CloseBrace ks 3 None is.close_brace a)
read_from form s mark due (Number l ∷ ks) is a =
    let (next, goes, behind) = first_goes due (Number l) ks a in
    literal_first form s l ks next behind (number_read form s l next (sym (is.number l) ∙ goes))
    (λ t b. read_from form t 3 (table.Literals form t) ks (within_clause form t) b)

-- ---- a clause

read_open : (s : Sofar) (ks : List Kind) → s.ended < s.clauses → Accepts (table.Between Gcnf s) ks
    → (rest : List Kind) × (ks ≡ OpenBrace ∷ rest) × Accepts (table.Group s) rest
read_open s [] more a =
    let ends : at_end (table.Between Gcnf s) ≡ Some 7 = grind (arith, common_steps, nat_tests) in
    absurd (not_ended (table.Between Gcnf s) 7 ends a)
read_open s (Word w ∷ ks) more a = absurd (not_refused (table.Between Gcnf s) (Word w) ks 3 None refl a)
read_open s (CloseBrace ∷ ks) more a = absurd (not_refused (table.Between Gcnf s) CloseBrace ks 3 None refl a)
read_open s (Number n ∷ ks) more a =
    let refuses : after (table.Between Gcnf s) (Number n) ≡ refused 6 = grind (arith, common_steps, nat_tests) in
    absurd (not_refused (table.Between Gcnf s) (Number n) ks 6 None refuses a)
read_open s (OpenBrace ∷ ks) more a =
    let goes : after (table.Between Gcnf s) OpenBrace ≡ Goes (table.Group s) = grind (arith, common_steps, nat_tests) in
    (ks, refl, goes_to (table.Between Gcnf s) (table.Group s) OpenBrace ks goes a)

-- where a clause is no longer due, nothing but the end is accepted, and in CNF an end mark
read_end : (form : Form) (s : Sofar) (ks : List Kind) → s.ended ≡ s.clauses → Accepts (table.Between form s) ks → MayFollow form ks
read_end Gcnf s [] all a = refl
read_end Gcnf s (Word w ∷ ks) all a = absurd (not_refused (table.Between Gcnf s) (Word w) ks 3 None refl a)
read_end Gcnf s (CloseBrace ∷ ks) all a = absurd (not_refused (table.Between Gcnf s) CloseBrace ks 3 None refl a)
read_end Gcnf s (Number n ∷ ks) all a =
    let refuses : after (table.Between Gcnf s) (Number n) ≡ refused 8 = grind (arith, common_steps, nat_tests) in
    absurd (not_refused (table.Between Gcnf s) (Number n) ks 8 None refuses a)
read_end Gcnf s (OpenBrace ∷ ks) all a =
    let refuses : after (table.Between Gcnf s) OpenBrace ≡ refused 8 = grind (arith, common_steps, nat_tests) in
    absurd (not_refused (table.Between Gcnf s) OpenBrace ks 8 None refuses a)
read_end Cnf s [] all a = tt
read_end Cnf s (OpenBrace ∷ ks) all a = absurd (not_refused (table.Between Cnf s) OpenBrace ks 3 None refl a)
read_end Cnf s (CloseBrace ∷ ks) all a = absurd (not_refused (table.Between Cnf s) CloseBrace ks 3 None refl a)
read_end Cnf s (Number n ∷ ks) all a =
    let refuses : after (table.Between Cnf s) (Number n) ≡ refused 8 = rw (le-ltb s.ended s.clauses (omega arith)) refl in
    absurd (not_refused (table.Between Cnf s) (Number n) ks 8 None refuses a)
read_end Cnf s (Word w ∷ ks) all a = by (is_end_mark w) refl
  where
    by : (is : Bool) → is_end_mark w ≡ is → is_end_mark w ≡ true
    by true is = is
    by false is =
        let refuses : after (table.Between Cnf s) (Word w) ≡ refused 3 = ap (λ t. cond t (after_end_mark s) (refused 3)) is in
        absurd (not_refused (table.Between Cnf s) (Word w) ks 3 None refuses a)

abbrev GroupRead : Sofar → ℤ → Due → Type 0
GroupRead s g next = (n : ℕ) × (g ≡ pos n) × (n ≤ s.groups) × (next ≡ table.Close s)

group_read : (s : Sofar) (g : ℤ) (next : Due) → after_group g s ≡ Goes next → GroupRead s g next
group_read s (negsuc n) next goes = let never : ⊥ = cc in absurd never
group_read s (pos n) next goes = by (leb n s.groups) refl
  where
    by : (fits : Bool) → leb n s.groups ≡ fits → GroupRead s (pos n) next
    by true fits =
        let verdict : after_group (pos n) s ≡ Goes (table.Close s) = rw fits refl in
        let both = sym goes ∙ verdict in
        let within : n ≤ s.groups = grind (arith, common_steps, nat_tests) in
        (n, refl, within, cc)
    by false fits =
        let verdict : after_group (pos n) s ≡ refused 5 = rw fits refl in
        let both = sym goes ∙ verdict in
        let never : ⊥ = cc in absurd never

read_group : (s : Sofar) (ks : List Kind) → Accepts (table.Group s) ks
    → (g : ℕ) × (rest : List Kind) × (ks ≡ Number (pos g) ∷ rest) × (g ≤ s.groups) × Accepts (table.Close s) rest
read_group s [] a = absurd (not_ended (table.Group s) 7 refl a)
read_group s (Word w ∷ ks) a = absurd (not_refused (table.Group s) (Word w) ks 3 None refl a)
read_group s (OpenBrace ∷ ks) a = absurd (not_refused (table.Group s) OpenBrace ks 3 None refl a)
read_group s (CloseBrace ∷ ks) a = absurd (not_refused (table.Group s) CloseBrace ks 3 None refl a)
read_group s (Number g ∷ ks) a =
    let (next, goes, behind) = first_goes (table.Group s) (Number g) ks a in
    let (n, is, within, same) = group_read s g next goes in
    (n, ks, ap (λ m. Number m ∷ ks) is, within, subst (λ d. Accepts d ks) same behind)

read_close : (s : Sofar) (ks : List Kind) → Accepts (table.Close s) ks
    → (rest : List Kind) × (ks ≡ CloseBrace ∷ rest) × Accepts (table.Literals Gcnf s) rest
read_close s [] a = absurd (not_ended (table.Close s) 7 refl a)
read_close s (Word w ∷ ks) a = absurd (not_refused (table.Close s) (Word w) ks 3 None refl a)
read_close s (OpenBrace ∷ ks) a = absurd (not_refused (table.Close s) OpenBrace ks 3 None refl a)
read_close s (Number n ∷ ks) a = absurd (not_refused (table.Close s) (Number n) ks 3 None refl a)
read_close s (CloseBrace ∷ ks) a = (ks, refl, goes_to (table.Close s) (table.Literals Gcnf s) CloseBrace ks refl a)

record ClauseRead (form : Form) (s : Sofar) (ks : List Kind) : Type 0 where
  clause : Clause
  rest : List Kind
  kinds : ks ≡ clause_kinds form clause ++ rest
  fits : IsClause s.vars s.groups clause
  place : IsAt form (s.ended + 1) clause
  few : s.literals ≤ max_literals → s.literals + length clause.lits ≤ max_literals
  accepts : Accepts (table.Between form (behind_clause s clause)) rest

read_clause : (form : Form) (s : Sofar) (ks : List Kind) → s.ended < s.clauses → (form ≡ Cnf → s.groups ≡ s.clauses)
    → Accepts (table.Between form s) ks → ClauseRead form s ks
read_clause Gcnf s ks more own a =
    let (in_brace, open_is, at_group) = read_open s ks more a in
    let (g, behind_group, group_is, within, at_close) = read_group s in_brace at_group in
    let (behind_close, close_is, at_literals) = read_close s behind_group at_close in
    let read = read_from Gcnf s 3 (table.Literals Gcnf s) behind_close (within_clause Gcnf s) at_literals in
    let all : ks ≡ OpenBrace ∷ Number (pos g) ∷ CloseBrace ∷ map Number read.lits ++ Number (pos 0) ∷ read.rest =
    open_is ∙ ap (λ ls. OpenBrace ∷ ls) (group_is ∙ ap (λ ls. Number (pos g) ∷ ls) (close_is ∙ ap (λ ls. CloseBrace ∷ ls) read.kinds)) in
    record {
      clause = record { group = g; lits = read.lits };
      rest = read.rest;
      kinds = all ∙ ap (λ ls. OpenBrace ∷ Number (pos g) ∷ CloseBrace ∷ ls) (sym (append_assoc (map Number read.lits) (Number (pos 0) ∷ []) read.rest));
      fits = record { group = within; lits = read.in_range };
      place = tt;
      few = read.few;
      accepts = read.accepts;
    }
read_clause Cnf s ks more own a =
    let read = read_from Cnf s 7 (table.Between Cnf s) ks (at_clause s more) a in
    record {
      clause = record { group = s.ended + 1; lits = read.lits };
      rest = read.rest;
      kinds = read.kinds ∙ sym (append_assoc (map Number read.lits) (Number (pos 0) ∷ []) read.rest);
      fits = record { group = omega (arith, own refl); lits = read.in_range };
      place = refl;
      few = read.few;
      accepts = read.accepts;
    }

-- ---- all clauses

record ClausesRead (form : Form) (s : Sofar) (n : ℕ) (ks : List Kind) : Type 0 where
  clauses : List Clause
  behind : List Kind
  kinds : ks ≡ flat_map (clause_kinds form) clauses ++ behind
  follows : MayFollow form behind
  places : AreNumberedFrom form (s.ended + 1) clauses
  count : length clauses ≡ n
  in_range : AllByRecursion (IsClause s.vars s.groups) clauses
  few : s.literals + literal_count clauses ≤ max_literals

none_read : (form : Form) (i : ℕ) → AreNumberedFrom form i []
none_read Gcnf i = tt
none_read Cnf i = refl

read_clauses : (form : Form) (n : ℕ) (s : Sofar) (ks : List Kind) → s.ended + n ≡ s.clauses → (form ≡ Cnf → s.groups ≡ s.clauses)
    → s.literals ≤ max_literals → Accepts (table.Between form s) ks → ClausesRead form s n ks
read_clauses form zero s ks due own room a =
    record {
      clauses = [];
      behind = ks;
      kinds = refl;
      follows = read_end form s ks (omega arith) a;
      places = none_read form (s.ended + 1);
      count = refl;
      in_range = tt;
      few = omega arith;
    }
read_clauses form (suc n) s ks due own room a =
    let first = read_clause form s ks (omega arith) own a in
    let more = read_clauses form n (behind_clause s first.clause) first.rest (omega arith) own (first.few room) first.accepts in
    let count : length (first.clause ∷ more.clauses) ≡ suc n = omega (arith, more.count) in
    let total : literal_count (first.clause ∷ more.clauses) ≡ length first.clause.lits + literal_count more.clauses = sum_by-cons (λ (c : Clause). length c.lits) first.clause more.clauses in
    record {
      clauses = first.clause ∷ more.clauses;
      behind = more.behind;
      kinds = first.kinds ∙ ap (λ ls. clause_kinds form first.clause ++ ls) more.kinds
          ∙ sym (append_assoc (clause_kinds form first.clause) (flat_map (clause_kinds form) more.clauses) more.behind);
      follows = more.follows;
      places = at_all form (s.ended + 1) first.clause more.clauses first.place more.places;
      count = count;
      in_range = (first.fits, more.in_range);
      few = omega (arith, more.few, total);
    }

-- ---- the header

read_word : (due next : Due) (word : List ℕ) (number : ℕ) (ks : List Kind) → at_end due ≡ Some number
    → ((w : List ℕ) → after due (Word w) ≡ cond (bytes_eq w word) (Goes next) (refused number))
    → after due OpenBrace ≡ refused number → after due CloseBrace ≡ refused number → ((n : ℤ) → after due (Number n) ≡ refused number)
    → Accepts due ks → (rest : List Kind) × (ks ≡ Word word ∷ rest) × Accepts next rest
read_word due next word number [] ends words opens closes numbers a = absurd (not_ended due number ends a)
read_word due next word number (OpenBrace ∷ ks) ends words opens closes numbers a = absurd (not_refused due OpenBrace ks number None opens a)
read_word due next word number (CloseBrace ∷ ks) ends words opens closes numbers a = absurd (not_refused due CloseBrace ks number None closes a)
read_word due next word number (Number n ∷ ks) ends words opens closes numbers a = absurd (not_refused due (Number n) ks number None (numbers n) a)
read_word due next word number (Word w ∷ ks) ends words opens closes numbers a = by (bytes_eq w word) refl
  where
    by : (is : Bool) → bytes_eq w word ≡ is → (rest : List Kind) × (Path (List Kind) (Word w ∷ ks) (Word word ∷ rest)) × Accepts next rest
    by true is =
        let same : w ≡ word = (bytes_eq-Decides w word).0 is in
        (ks, ap (λ x. Word x ∷ ks) same, goes_to due next (Word w) ks (words w ∙ ap (λ t. cond t (Goes next) (refused number)) is) a)
    by false is = absurd (not_refused due (Word w) ks number None (words w ∙ ap (λ t. cond t (Goes next) (refused number)) is) a)

abbrev HeaderNumberRead : ℤ → ℕ → (ℕ → Due) → Due → Type 0
HeaderNumberRead n most next due = (m : ℕ) × (n ≡ pos m) × (m ≤ most) × (due ≡ next m)

header_number_read : (n : ℤ) (most : ℕ) (which : Limit) (next : ℕ → Due) (due : Due) → after_header_number n most which next ≡ Goes due
    → HeaderNumberRead n most next due
header_number_read (negsuc m) most which next due goes = let never : ⊥ = cc in absurd never
header_number_read (pos m) most which next due goes = by (leb m most) refl
  where
    by : (fits : Bool) → leb m most ≡ fits → HeaderNumberRead (pos m) most next due
    by true fits =
        let verdict : after_header_number (pos m) most which next ≡ Goes (next m) = rw fits refl in
        let both = sym goes ∙ verdict in
        let within : m ≤ most = grind (arith, common_steps, nat_tests) in
        (m, refl, within, cc)
    by false fits =
        let verdict : after_header_number (pos m) most which next ≡ Refused 9 (Some which) = rw fits refl in
        let both = sym goes ∙ verdict in
        let never : ⊥ = cc in absurd never

read_number : (due : Due) (next : ℕ → Due) (most : ℕ) (which : Limit) (ks : List Kind) → IsNumberDue due most which next → Accepts due ks
    → (n : ℕ) × (rest : List Kind) × (ks ≡ Number (pos n) ∷ rest) × (n ≤ most) × Accepts (next n) rest
read_number due next most which [] is a = absurd (not_ended due 2 is.end a)
read_number due next most which (Word w ∷ ks) is a = absurd (not_refused due (Word w) ks 2 None (is.word w) a)
read_number due next most which (OpenBrace ∷ ks) is a = absurd (not_refused due OpenBrace ks 2 None is.open_brace a)
read_number due next most which (CloseBrace ∷ ks) is a = absurd (not_refused due CloseBrace ks 2 None is.close_brace a)
read_number due next most which (Number n ∷ ks) is a =
    let (other, goes, behind) = first_goes due (Number n) ks a in
    let (m, same, within, then) = header_number_read n most which next other (sym (is.number n) ∙ goes) in
    (m, ks, ap (λ v. Number v ∷ ks) same, within, subst (λ d. Accepts d ks) then behind)

-- the number of clauses of CNF
own_groups_read : (n : ℤ) (vars : ℕ) (due : Due) → after_own_groups n vars ≡ Goes due
    → (m : ℕ) × (n ≡ pos m) × (m ≤ max_clauses) × (m ≤ max_groups) × (due ≡ table.Between Cnf (behind_header vars m m))
own_groups_read (negsuc m) vars due goes = let never : ⊥ = cc in absurd never
own_groups_read (pos m) vars due goes = by (ltb max_clauses m) refl
  where
    by : (many : Bool) → ltb max_clauses m ≡ many
        → (k : ℕ) × (Path ℤ (pos m) (pos k)) × (k ≤ max_clauses) × (k ≤ max_groups) × (due ≡ table.Between Cnf (behind_header vars k k))
    by true many =
        let verdict : after_own_groups (pos m) vars ≡ Refused 9 (Some limit.Clauses) = rw many refl in
        let both = sym goes ∙ verdict in
        let never : ⊥ = cc in absurd never
    by false many =
        let verdict : after_own_groups (pos m) vars ≡ after_header_number (pos m) max_groups limit.Groups (λ c. table.Between Cnf (behind_header vars c c)) = rw many refl in
        let (k, same, within, then) = header_number_read (pos m) max_groups limit.Groups (λ c. table.Between Cnf (behind_header vars c c)) due (sym verdict ∙ goes) in
        (k, same, omega (arith, within), within, then)

read_own_groups : (vars : ℕ) (ks : List Kind) → Accepts (table.Clauses Cnf vars) ks
    → (m : ℕ) × (rest : List Kind) × (ks ≡ Number (pos m) ∷ rest) × (m ≤ max_clauses) × (m ≤ max_groups)
    × Accepts (table.Between Cnf (behind_header vars m m)) rest
read_own_groups vars [] a = absurd (not_ended (table.Clauses Cnf vars) 2 refl a)
read_own_groups vars (Word w ∷ ks) a = absurd (not_refused (table.Clauses Cnf vars) (Word w) ks 2 None refl a)
read_own_groups vars (OpenBrace ∷ ks) a = absurd (not_refused (table.Clauses Cnf vars) OpenBrace ks 2 None refl a)
read_own_groups vars (CloseBrace ∷ ks) a = absurd (not_refused (table.Clauses Cnf vars) CloseBrace ks 2 None refl a)
read_own_groups vars (Number n ∷ ks) a =
    let (other, goes, behind) = first_goes (table.Clauses Cnf vars) (Number n) ks a in
    let (m, same, few, fit, then) = own_groups_read n vars other goes in
    (m, ks, ap (λ v. Number v ∷ ks) same, few, fit, subst (λ d. Accepts d ks) then behind)

-- behind `p gcnf`, and behind `p cnf`, accepted tokens are those of a problem
gcnf_are_kinds : (ks : List Kind) → Accepts (table.Vars Gcnf) ks → (p : Problem) × AreKindsOf (Word (codes "p") ∷ Word (codes "gcnf") ∷ ks) p
gcnf_are_kinds ks a =
    let (vars, ks3, is3, vars_fit, a3) = read_number (table.Vars Gcnf) (table.Clauses Gcnf) max_vars limit.Vars ks (vars_due Gcnf) a in
    let (count, ks4, is4, count_fits, a4) = read_number (table.Clauses Gcnf vars) (table.Groups vars) max_clauses limit.Clauses ks3 (clauses_due vars) a3 in
    let (groups, ks5, is5, groups_fit, a5) = read_number (table.Groups vars count) (λ g. table.Between Gcnf (behind_header vars count g)) max_groups limit.Groups ks4 (groups_due vars count) a4 in
    let read = read_clauses Gcnf count (behind_header vars count groups) ks5 (omega arith) (λ e. cc) (omega arith) a5 in
    let all : ks ≡ Number (pos vars) ∷ Number (pos count) ∷ Number (pos groups) ∷ flat_map (clause_kinds Gcnf) read.clauses ++ read.behind =
    is3 ∙ ap (λ ls. Number (pos vars) ∷ ls) (is4 ∙ ap (λ ls. Number (pos count) ∷ ls) (is5 ∙ ap (λ ls. Number (pos groups) ∷ ls) read.kinds)) in
    let counted = ap (λ n. Number (pos vars) ∷ Number (pos n) ∷ Number (pos groups) ∷ flat_map (clause_kinds Gcnf) read.clauses ++ read.behind) (sym read.count) in
    let p : Problem = record { vars = vars; groups = groups; clauses = read.clauses } in (
      p,
      record {
        well_formed = read.in_range;
        limits = record { vars = vars_fit; clauses = omega (arith, read.count); groups = groups_fit; literals = omega (arith, read.few) };
        form = Gcnf;
        same = record {
          groups = tt;
          behind = read.behind;
          same = ap (λ ls. Word (codes "p") ∷ Word (codes "gcnf") ∷ ls) (all ∙ counted);
          follows = read.follows;
        };
      },
    )

cnf_are_kinds : (ks : List Kind) → Accepts (table.Vars Cnf) ks → (p : Problem) × AreKindsOf (Word (codes "p") ∷ Word (codes "cnf") ∷ ks) p
cnf_are_kinds ks a =
    let (vars, ks3, is3, vars_fit, a3) = read_number (table.Vars Cnf) (table.Clauses Cnf) max_vars limit.Vars ks (vars_due Cnf) a in
    let (count, ks4, is4, count_fits, groups_fit, a4) = read_own_groups vars ks3 a3 in
    let read = read_clauses Cnf count (behind_header vars count count) ks4 (omega arith) (λ e. refl) (omega arith) a4 in
    let all : ks ≡ Number (pos vars) ∷ Number (pos count) ∷ flat_map (clause_kinds Cnf) read.clauses ++ read.behind =
    is3 ∙ ap (λ ls. Number (pos vars) ∷ ls) (is4 ∙ ap (λ ls. Number (pos count) ∷ ls) read.kinds) in
    let counted = ap (λ n. Number (pos vars) ∷ Number (pos n) ∷ flat_map (clause_kinds Cnf) read.clauses ++ read.behind) (sym read.count) in
    let p : Problem = record { vars = vars; groups = count; clauses = read.clauses } in (
      p,
      record {
        well_formed = read.in_range;
        limits = record { vars = vars_fit; clauses = omega (arith, read.count); groups = groups_fit; literals = omega (arith, read.few) };
        form = Cnf;
        same = record {
          groups = has_groups Cnf p (λ e. sym read.count) read.places;
          behind = read.behind;
          same = ap (λ ls. Word (codes "p") ∷ Word (codes "cnf") ∷ ls) (all ∙ counted);
          follows = read.follows;
        };
      },
    )

-- the second word, which is that of one of the forms
read_form : (ks : List Kind) → Accepts table.Format ks
    → ((rest : List Kind) × (ks ≡ Word (codes "gcnf") ∷ rest) × Accepts (table.Vars Gcnf) rest)
    ⊎ ((rest : List Kind) × (ks ≡ Word (codes "cnf") ∷ rest) × Accepts (table.Vars Cnf) rest)
read_form [] a = absurd (not_ended table.Format 2 refl a)
read_form (OpenBrace ∷ ks) a = absurd (not_refused table.Format OpenBrace ks 2 None refl a)
read_form (CloseBrace ∷ ks) a = absurd (not_refused table.Format CloseBrace ks 2 None refl a)
read_form (Number n ∷ ks) a = absurd (not_refused table.Format (Number n) ks 2 None refl a)
read_form (Word w ∷ ks) a = by (bytes_eq w (codes "gcnf")) refl (bytes_eq w (codes "cnf")) refl
  where
    by : (grouped : Bool) → bytes_eq w (codes "gcnf") ≡ grouped → (plain : Bool) → bytes_eq w (codes "cnf") ≡ plain
        → ((rest : List Kind) × (Path (List Kind) (Word w ∷ ks) (Word (codes "gcnf") ∷ rest)) × Accepts (table.Vars Gcnf) rest)
        ⊎ ((rest : List Kind) × (Path (List Kind) (Word w ∷ ks) (Word (codes "cnf") ∷ rest)) × Accepts (table.Vars Cnf) rest)
    by true grouped plain is_plain =
        let same : w ≡ codes "gcnf" = (bytes_eq-Decides w (codes "gcnf")).0 grouped in
        let goes : after table.Format (Word w) ≡ Goes (table.Vars Gcnf) = rw grouped refl in
        inl (ks, ap (λ x. Word x ∷ ks) same, goes_to table.Format (table.Vars Gcnf) (Word w) ks goes a)
    by false grouped true is_plain =
        let same : w ≡ codes "cnf" = (bytes_eq-Decides w (codes "cnf")).0 is_plain in
        let goes : after table.Format (Word w) ≡ Goes (table.Vars Cnf) = rw (grouped, is_plain) refl in
        inr (ks, ap (λ x. Word x ∷ ks) same, goes_to table.Format (table.Vars Cnf) (Word w) ks goes a)
    by false grouped false is_plain =
        let refuses : after table.Format (Word w) ≡ refused 2 = rw (grouped, is_plain) refl in
        absurd (not_refused table.Format (Word w) ks 2 None refuses a)

-- accepted tokens are those of a problem
pub accepted_are_kinds : (ks : List Kind) → Accepts table.Start ks → (p : Problem) × AreKindsOf ks p
accepted_are_kinds ks a =
    let (ks1, is1, a1) = read_word table.Start table.Format (codes "p") 1 ks refl (λ w. refl) refl refl (λ n. refl) a in
    by ks1 is1 (read_form ks1 a1)
  where
    by : (ks1 : List Kind) → ks ≡ Word (codes "p") ∷ ks1
        → ((rest : List Kind) × (ks1 ≡ Word (codes "gcnf") ∷ rest) × Accepts (table.Vars Gcnf) rest)
        ⊎ ((rest : List Kind) × (ks1 ≡ Word (codes "cnf") ∷ rest) × Accepts (table.Vars Cnf) rest)
        → (p : Problem) × AreKindsOf ks p
    by ks1 is1 (inl (rest, is2, behind)) =
        subst (λ ls. (p : Problem) × AreKindsOf ls p) (sym (is1 ∙ ap (λ ls. Word (codes "p") ∷ ls) is2)) (gcnf_are_kinds rest behind)
    by ks1 is1 (inr (rest, is2, behind)) =
        subst (λ ls. (p : Problem) × AreKindsOf ls p) (sym (is1 ∙ ap (λ ls. Word (codes "p") ∷ ls) is2)) (cnf_are_kinds rest behind)
