-- Where a first offence stands: what comes before it can be completed, and with what it stands at that is so no more.
use Rattle.std.proofs.Common.{◌≡◌, ℕ, zero, suc, ◌+◌, ◌≤◌, Bool, true, false, List, [], ◌∷◌, ◌++◌, map, length, ltb, refl, sym, ◌∙◌, ap, subst, arith, Option, Some, None, pos, codes}
use Rattle.std.proofs.lemmas.Grind.{common_steps}
use Rattle.std.proofs.lemmas.Bool.Decides.{nat_tests}
use Rattle.std.proofs.lemmas.List.{append_assoc}
use Rattle.token_text.specs.Kinds.{Kind, Word, Number, OpenBrace, CloseBrace}
use Rattle.token_text.specs.Tokens.{Token, Place, end_of, tokens_of}
use Rattle.token_text.specs.Answers.{place, token}
use Rattle.gm_base.specs.Problem.{Problem}
use Rattle.gcnf_text.specs.declared.offence.Limit.{Limit}
use Rattle.gcnf_text.specs.declared.offence.Limit.TheVariants as limit
use Rattle.gcnf_text.specs.declared.offence.Offence.{Offence}
use Rattle.gcnf_text.specs.declared.form.Form.{Form}
use Rattle.gcnf_text.specs.declared.form.Form.TheVariants.{Gcnf, Cnf}
use Rattle.gcnf_text.specs.Grammar.{Reads, kinds_of, max_bytes}
use Rattle.gcnf_text.specs.Table as table
use Rattle.gcnf_text.specs.Table.{Due, Goes, Refused, Sofar, Verdict, after, after_group, at_end, behind_header, end_offence, first_offence, offence_at, offence_from, offence_or}
use Rattle.gcnf_text.specs.Laws.{AreKindsOf, GoOn, IsFirstStop, StandsAt}
use Rattle.gcnf_text.proofs.AcceptedLemmas.{whole_goes_on}
use Rattle.gcnf_text.proofs.TableLemmas.{Accepts, accepted_are_kinds, follow, passes}

-- ---- tokens without an offence are accepted

pub accepts_of : (due : Due) (ts : List Token) (end : Place) → offence_from due ts end ≡ None → Accepts due (kinds_of ts)
accepts_of due [] end none = by (at_end due) refl none
  where
    by : (e : Option ℕ) → at_end due ≡ e → end_offence e end ≡ None → Accepts due []
    by None ends none = record { last = due; leads = refl; ends = ends }
    by (Some n) ends none = let never : ⊥ = cc in absurd never
accepts_of due (t ∷ ts) end none = by (after due t.kind) (λ next rest. accepts_of next ts end rest) refl none
  where
    by : (v : Verdict) → ((next : Due) → offence_from next ts end ≡ None → Accepts next (kinds_of ts)) → after due t.kind ≡ v
        → offence_or v t (λ next. offence_from next ts end) ≡ None → Accepts due (t.kind ∷ kinds_of ts)
    by (Goes next) more goes none =
        let a = more next none in
        record { last = a.last; leads = ap (λ v. follow v (λ n. passes n (kinds_of ts))) goes ∙ a.leads; ends = a.ends }
    by (Refused number limit) more refuses none = let never : ⊥ = cc in absurd never

pub faultless_is_read : (text : List ℕ) → first_offence text ≡ None → (p : Problem) × Reads text p
faultless_is_read text none = by (ltb max_bytes (length text)) refl
  where
    by : (long : Bool) → ltb max_bytes (length text) ≡ long → (p : Problem) × Reads text p
    by true long =
        let verdict : first_offence text ≡ Some (offence_at 9 (Some limit.Bytes) 0 0) = rw long refl in
        let both = sym none ∙ verdict in
        let never : ⊥ = cc in absurd never
    by false short =
        let verdict : first_offence text ≡ offence_from table.Start (tokens_of text) (end_of text) = rw short refl in
        let (p, are) = accepted_are_kinds (kinds_of (tokens_of text)) (accepts_of table.Start (tokens_of text) (end_of text) (sym verdict ∙ none)) in
        let bytes : length text ≤ max_bytes = grind (arith, common_steps, nat_tests) in
        (p, record { well_formed = are.well_formed; limits = are.limits; bytes = bytes; form = are.form; kinds = are.same })

-- ---- the tokens of a problem are accepted

-- tokens of these kinds, at any place
abbrev somewhere : List Kind → List Token
somewhere ks = map (λ k. token k 0 0) ks

kinds_of-somewhere : (ks : List Kind) → kinds_of (somewhere ks) ≡ ks
kinds_of-somewhere [] = refl
kinds_of-somewhere (k ∷ ks) = ap (λ ls. k ∷ ls) (kinds_of-somewhere ks)

kinds_accepted : (ks : List Kind) (p : Problem) → AreKindsOf ks p → Accepts table.Start ks
kinds_accepted ks p are =
    let end = place 0 0 in
    let none = whole_goes_on are.form p are.same.behind end are.well_formed are.limits are.same.groups are.same.follows (somewhere ks)
    (kinds_of-somewhere ks ∙ are.same.same) in
    subst (λ ls. Accepts table.Start ls) (kinds_of-somewhere ks) (accepts_of table.Start (somewhere ks) end none)

-- ---- where tokens lead, and from there

passes-append : (ks ls : List Kind) (due next : Due) → passes due ks ≡ Some next → passes due (ks ++ ls) ≡ passes next ls
passes-append [] ls due next leads = let same : due ≡ next = cc in ap (λ d. passes d ls) same
passes-append (k ∷ ks) ls due next leads = by (after due k) (λ d rest. passes-append ks ls d next rest) refl leads
  where
    by : (v : Verdict) → ((d : Due) → passes d ks ≡ Some next → passes d (ks ++ ls) ≡ passes next ls) → after due k ≡ v
        → follow v (λ d. passes d ks) ≡ Some next → follow (after due k) (λ d. passes d (ks ++ ls)) ≡ passes next ls
    by (Goes d) more goes leads = ap (λ v. follow v (λ d. passes d (ks ++ ls))) goes ∙ more d leads
    by (Refused number limit) more refuses leads = let never : ⊥ = cc in absurd never

-- what is due can be completed
abbrev Completes : Due → Type 0
Completes due = (rest : List Kind) × Accepts due rest

completes_by : (due next : Due) (k : Kind) → after due k ≡ Goes next → Completes next → Completes due
completes_by due next k goes (rest, a) =
    (k ∷ rest, record { last = a.last; leads = ap (λ v. follow v (λ d. passes d rest)) goes ∙ a.leads; ends = a.ends })

group_completes : (s : Sofar) → Completes (table.Close s) → Completes (table.Group s)
group_completes s behind =
    let goes : after_group (pos 0) s ≡ Goes (table.Close s) = grind (arith, common_steps, nat_tests) in
    completes_by (table.Group s) (table.Close s) (Number (pos 0)) goes behind

close_completes : (s : Sofar) → Completes (table.Literals Gcnf s) → Completes (table.Close s)
close_completes s behind = completes_by (table.Close s) (table.Literals Gcnf s) CloseBrace refl behind

literals_complete : (form : Form) (s : Sofar) → Completes (table.Between form (record s { ended = s.ended + 1 })) → Completes (table.Literals form s)
literals_complete form s behind =
    completes_by (table.Literals form s) (table.Between form (record s { ended = s.ended + 1 })) (Number (pos 0)) refl behind

-- an empty clause
clause_completes : (form : Form) (s : Sofar) → ltb s.ended s.clauses ≡ true → Completes (table.Between form (record s { ended = s.ended + 1 }))
    → Completes (table.Between form s)
clause_completes Gcnf s more behind =
    let goes : after (table.Between Gcnf s) OpenBrace ≡ Goes (table.Group s) = rw more refl in
    completes_by (table.Between Gcnf s) (table.Group s) OpenBrace goes
    (group_completes s (close_completes s (literals_complete Gcnf s behind)))
clause_completes Cnf s more behind =
    let goes : after (table.Between Cnf s) (Number (pos 0)) ≡ Goes (table.Between Cnf (record s { ended = s.ended + 1 })) = rw more refl in
    completes_by (table.Between Cnf s) (table.Between Cnf (record s { ended = s.ended + 1 })) (Number (pos 0)) goes behind

-- as many empty clauses as are due
clauses_complete : (form : Form) (n : ℕ) (s : Sofar) → s.clauses ≤ s.ended + n → Completes (table.Between form s)
clauses_complete form zero s enough =
    let ends : at_end (table.Between form s) ≡ None = grind (arith, common_steps, nat_tests) in
    ([], record { last = table.Between form s; leads = refl; ends = ends })
clauses_complete form (suc n) s enough =
    by (ltb s.ended s.clauses) (clauses_complete form n (record s { ended = s.ended + 1 }) (omega arith)) refl
  where
    by : (more : Bool) → Completes (table.Between form (record s { ended = s.ended + 1 })) → ltb s.ended s.clauses ≡ more
        → Completes (table.Between form s)
    by false behind more =
        let ends : at_end (table.Between form s) ≡ None = rw more refl in
        ([], record { last = table.Between form s; leads = refl; ends = ends })
    by true behind more = clause_completes form s more behind

between_completes : (form : Form) (s : Sofar) → Completes (table.Between form s)
between_completes form s = clauses_complete form s.clauses s (omega arith)

groups_complete : (vars clauses : ℕ) → Completes (table.Groups vars clauses)
groups_complete vars clauses =
    completes_by (table.Groups vars clauses) (table.Between Gcnf (behind_header vars clauses 0)) (Number (pos 0)) refl
    (between_completes Gcnf (behind_header vars clauses 0))

count_completes : (form : Form) (vars : ℕ) → Completes (table.Clauses form vars)
count_completes Gcnf vars = completes_by (table.Clauses Gcnf vars) (table.Groups vars 0) (Number (pos 0)) refl (groups_complete vars 0)
count_completes Cnf vars =
    completes_by (table.Clauses Cnf vars) (table.Between Cnf (behind_header vars 0 0)) (Number (pos 0)) refl
    (between_completes Cnf (behind_header vars 0 0))

vars_complete : (form : Form) → Completes (table.Vars form)
vars_complete form = completes_by (table.Vars form) (table.Clauses form 0) (Number (pos 0)) refl (count_completes form 0)

format_completes : Completes table.Format
format_completes = completes_by table.Format (table.Vars Gcnf) (Word (codes "gcnf")) refl (vars_complete Gcnf)

completes : (due : Due) → Completes due
completes table.Start = completes_by table.Start table.Format (Word (codes "p")) refl format_completes
completes table.Format = format_completes
completes (table.Vars form) = vars_complete form
completes (table.Clauses form vars) = count_completes form vars
completes (table.Groups vars clauses) = groups_complete vars clauses
completes (table.Between form s) = between_completes form s
completes (table.Group s) =
    group_completes s (close_completes s (literals_complete Gcnf s (between_completes Gcnf (record s { ended = s.ended + 1 }))))
completes (table.Close s) = close_completes s (literals_complete Gcnf s (between_completes Gcnf (record s { ended = s.ended + 1 })))
completes (table.Literals form s) = literals_complete form s (between_completes form (record s { ended = s.ended + 1 }))
completes table.Rest = ([], record { last = table.Rest; leads = refl; ends = refl })

-- ---- where the first offence stands

abbrev Stops : Due → List Token → Place → Offence → Type 0
Stops next [] end offence = (n : ℕ) × (at_end next ≡ Some n) × (offence.line ≡ end.line) × (offence.byte ≡ end.byte)
Stops next (t ∷ ts) end offence =
    (n : ℕ) × (l : Option Limit) × (after next t.kind ≡ Refused n l) × (offence.line ≡ t.line) × (offence.byte ≡ t.byte)

record StopsBehind (due : Due) (ts : List Token) (end : Place) (offence : Offence) : Type 0 where
  before : List Token
  behind : List Token
  next : Due
  all : ts ≡ before ++ behind
  leads : passes due (kinds_of before) ≡ Some next
  stops : Stops next behind end offence

stop_of : (due : Due) (ts : List Token) (end : Place) (offence : Offence) → offence_from due ts end ≡ Some offence → StopsBehind due ts end offence
stop_of due [] end offence some = by (at_end due) refl some
  where
    by : (e : Option ℕ) → at_end due ≡ e → end_offence e end ≡ Some offence → StopsBehind due [] end offence
    by None ends some = let never : ⊥ = cc in absurd never
    by (Some n) ends some =
        let same : offence_at n None end.line end.byte ≡ offence = cc in
        record {
          before = [];
          behind = [];
          next = due;
          all = refl;
          leads = refl;
          stops = (n, ends, sym (ap (λ (o : Offence). o.line) same), sym (ap (λ (o : Offence). o.byte) same));
        }
stop_of due (t ∷ ts) end offence some = by (after due t.kind) (λ next rest. stop_of next ts end offence rest) refl some
  where
    by : (v : Verdict) → ((next : Due) → offence_from next ts end ≡ Some offence → StopsBehind next ts end offence) → after due t.kind ≡ v
        → offence_or v t (λ next. offence_from next ts end) ≡ Some offence → StopsBehind due (t ∷ ts) end offence
    by (Goes next) more goes some =
        let s = more next some in
        record {
          before = t ∷ s.before;
          behind = s.behind;
          next = s.next;
          all = ap (λ us. t ∷ us) s.all;
          leads = ap (λ v. follow v (λ d. passes d (kinds_of s.before))) goes ∙ s.leads;
          stops = s.stops;
        }
    by (Refused n l) more refuses some =
        let same : offence_at n l t.line t.byte ≡ offence = cc in
        record {
          before = [];
          behind = t ∷ ts;
          next = due;
          all = refl;
          leads = refl;
          stops = (n, l, refuses, sym (ap (λ (o : Offence). o.line) same), sym (ap (λ (o : Offence). o.byte) same));
        }

stands : (before : List Kind) (behind : List Token) (end : Place) (offence : Offence) (next : Due) → passes table.Start before ≡ Some next
    → Stops next behind end offence → StandsAt before behind end offence
stands before [] end offence next leads (n, ends, line, byte) = (
  line,
  byte,
  λ p are. let a = kinds_accepted before p are in
      let both : Some next ≡ Some a.last = sym leads ∙ a.leads in
      let same : next ≡ a.last = cc in
      let ended : Some n ≡ None = sym ends ∙ ap at_end same ∙ a.ends in
      cc,
)
stands before (t ∷ ts) end offence next leads (n, l, refuses, line, byte) = (line, byte, λ go. no_more go)
  where
    no_more : GoOn (before ++ t.kind ∷ []) → ⊥
    no_more (rest, p, are) =
        let a = kinds_accepted ((before ++ t.kind ∷ []) ++ rest) p are in
        let grouped : passes table.Start ((before ++ t.kind ∷ []) ++ rest) ≡ passes table.Start (before ++ t.kind ∷ rest) = ap (passes table.Start) (append_assoc before (t.kind ∷ []) rest) in
        let refused : passes next (t.kind ∷ rest) ≡ None = ap (λ v. follow v (λ d. passes d rest)) refuses in
        let both : Some a.last ≡ None = sym a.leads ∙ grouped ∙ passes-append before (t.kind ∷ rest) table.Start next leads ∙ refused in
        cc

pub first_offence_stops : (text : List ℕ) (offence : Offence) → length text ≤ max_bytes → first_offence text ≡ Some offence
    → IsFirstStop (tokens_of text) (end_of text) offence
first_offence_stops text offence bytes some =
    let short : ltb max_bytes (length text) ≡ false = grind (arith, common_steps, nat_tests) in
    let verdict : first_offence text ≡ offence_from table.Start (tokens_of text) (end_of text) = rw short refl in
    let s = stop_of table.Start (tokens_of text) (end_of text) offence (sym verdict ∙ some) in
    let (rest, a) = completes s.next in
    let whole : Accepts table.Start (kinds_of s.before ++ rest) =
    record { last = a.last; leads = passes-append (kinds_of s.before) rest table.Start s.next s.leads ∙ a.leads; ends = a.ends } in
    let (p, are) = accepted_are_kinds (kinds_of s.before ++ rest) whole in
    record {
      before = s.before;
      behind = s.behind;
      all = s.all;
      go_on = (rest, p, are);
      stops = stands (kinds_of s.before) s.behind (end_of text) offence s.next s.leads s.stops;
    }
