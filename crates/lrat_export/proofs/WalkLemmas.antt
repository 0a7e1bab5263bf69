-- What becomes of a hint, of a step, and of all that are left.
use Rattle.std.proofs.Common.{◌≡◌, ℕ, ◌+◌, ◌<◌, ◌≤◌, Bool, true, false, not, cond, eqb, List, [], ◌∷◌, ◌++◌, map, length, get_or, take, drop, Option, Some, None, refl, sym, ◌∙◌, ap, subst, arith, append_assoc, append-nil, length-append}
use Rattle.std.specs.Prelude.{ℤ, neg_ℤ, slice_get, codes}
use Rattle.std.specs.List.{flat_map}
use Rattle.std.specs.Fmt.{decimal}
use Rattle.std.specs.Option.{option_map_or}
use Rattle.std.proofs.lemmas.List.{drop_more, drop_all, take_more, map-append, length-map, get_or-map}
use Rattle.std.proofs.lemmas.Option.{get_or_from_slice_get, slice_get_within}
use Rattle.std.proofs.lemmas.Bool.{false≢true}
use Rattle.sat_base.specs.Derivation.{Step, Derivation, numbered, contains_lit, open_lits, only_lit, is_nil}
use Rattle.gm_base.specs.declared.clause.Clause.{Clause}
use Rattle.gm_base.specs.Problem.{Problem, IsClause, is_present}
use Rattle.gm_base.specs.Evidence.{with_selector, selector_form}
use Rattle.lrat_check.specs.Marks.{is_marked, AreMarked}
use Rattle.lrat_check.proofs.KnownLemmas.{numbered_next}
use Rattle.lrat_export.specs.Export.{Numbered, is_settled, bared, renumbered, stays, hints_of, steps_of, up_to, step_text}
use Rattle.lrat_export.specs.Numbers.{kept, next_number, entry_of, AreEntries}
use Rattle.lrat_export.specs.declared.numbering.Entry.{Entry}
use Rattle.lrat_export.specs.Walk.{opened, IsNext, IsWalked, GoesOn, hints_text, steps_text}
use Rattle.lrat_export.specs.declared.hints.Next.TheVariants.{Goes, Makes, Ends}
use Rattle.lrat_export.proofs.NumberLemmas.{renumbered-append, kept-settled, kept-stays}
use Rattle.lrat_export.proofs.StepLemmas.{clauses_in}
use Rattle.lrat_export.proofs.CnfLemmas.{clause-settled}
use Rattle.lrat_export.proofs.OpenLemmas.{open-opened}

-- ---- one hint

-- what a clause with this number and these open literals becomes
abbrev says : List (ℕ × Option Numbered) → List ℤ → List ℕ → ℕ → List ℤ → List ℕ
says known g hs n open_ones =
    cond (is_nil open_ones) (n ∷ [])
    (option_map_or
    (λ l. cond (contains_lit g (neg_ℤ l)) (hints_of known g hs) (n ∷ hints_of known (neg_ℤ l ∷ g) hs))
    (only_lit open_ones)
    (hints_of known g hs))

abbrev goes : List (ℕ × Option Numbered) → List ℤ → List ℕ → Option Numbered → List ℕ
goes known g hs o = option_map_or (λ (c : Numbered). says known g hs c.0 (open_lits g c.1)) o (hints_of known g hs)

pub next-unknown : (known : List (ℕ × Option Numbered)) (g : List ℤ) (h : ℕ) → stays known h ≡ None → IsNext known g h Goes
next-unknown known g h is hs = ap (goes known g hs) is

module _ (vars : ℕ) (known : List (ℕ × Option Numbered)) (marks : List Bool) (g : List ℤ) (are : AreMarked marks g) (h n : ℕ) (lits : List ℤ) (is : stays known h ≡ Some (n, bared vars lits)) where
  it_says : (hs : List ℕ) → hints_of known g (h ∷ hs) ≡ says known g hs n (opened vars marks lits)
  it_says hs = ap (goes known g hs) is ∙ ap (says known g hs n) (open-opened vars marks g lits are)

  pub next-ends : opened vars marks lits ≡ [] → IsNext known g h (Ends n)
  next-ends none hs = it_says hs ∙ ap (says known g hs n) none

  some : (ls : List ℤ) (l : ℤ) → only_lit ls ≡ Some l → is_nil ls ≡ false
  some [] l e = cc
  some (x ∷ xs) l e = refl

  one : (l : ℤ) (hs : List ℕ) → only_lit (opened vars marks lits) ≡ Some l
      → hints_of known g (h ∷ hs) ≡ cond (is_marked marks (neg_ℤ l)) (hints_of known g hs) (n ∷ hints_of known (neg_ℤ l ∷ g) hs)
  one l hs only =
      it_says hs
      ∙ ap (λ (b : Bool). cond b (n ∷ []) (option_map_or (λ l. cond (contains_lit g (neg_ℤ l)) (hints_of known g hs) (n ∷ hints_of known (neg_ℤ l ∷ g) hs)) (only_lit (opened vars marks lits)) (hints_of known g hs))) (some (opened vars marks lits) l only)
      ∙ ap (λ (o : Option ℤ). option_map_or (λ l. cond (contains_lit g (neg_ℤ l)) (hints_of known g hs) (n ∷ hints_of known (neg_ℤ l ∷ g) hs)) o (hints_of known g hs)) only
      ∙ ap (λ (b : Bool). cond b (hints_of known g hs) (n ∷ hints_of known (neg_ℤ l ∷ g) hs)) (sym (are (neg_ℤ l)))

  pub next-again : (l : ℤ) → only_lit (opened vars marks lits) ≡ Some l → is_marked marks (neg_ℤ l) ≡ true → IsNext known g h Goes
  next-again l only there hs = one l hs only ∙ ap (λ (b : Bool). cond b (hints_of known g hs) (n ∷ hints_of known (neg_ℤ l ∷ g) hs)) there

  pub next-makes : (l : ℤ) → only_lit (opened vars marks lits) ≡ Some l → is_marked marks (neg_ℤ l) ≡ false → IsNext known g h (Makes n l)
  next-makes l only new hs = one l hs only ∙ ap (λ (b : Bool). cond b (hints_of known g hs) (n ∷ hints_of known (neg_ℤ l ∷ g) hs)) new

  pub next-many : only_lit (opened vars marks lits) ≡ None → is_nil (opened vars marks lits) ≡ false → IsNext known g h Goes
  next-many none not_nil hs =
      it_says hs
      ∙ ap (λ (b : Bool). cond b (n ∷ []) (option_map_or (λ l. cond (contains_lit g (neg_ℤ l)) (hints_of known g hs) (n ∷ hints_of known (neg_ℤ l ∷ g) hs)) (only_lit (opened vars marks lits)) (hints_of known g hs))) not_nil
      ∙ ap (λ (o : Option ℤ). option_map_or (λ l. cond (contains_lit g (neg_ℤ l)) (hints_of known g hs) (n ∷ hints_of known (neg_ℤ l ∷ g) hs)) o (hints_of known g hs)) none

hint-first : (n : ℕ) (hs : List ℕ) → hints_text (n ∷ hs) ≡ hints_text (n ∷ []) ++ hints_text hs
hint-first n hs = ap (λ (t : List ℕ). t ++ hints_text hs) (sym (append-nil (codes " " ++ decimal n)))

pub walked-goes : (known : List (ℕ × Option Numbered)) (g : List ℤ) (h : ℕ) (out : List ℕ) (marks : List Bool) → AreMarked marks g → IsNext known g h Goes
    → IsWalked known g h out out marks false
walked-goes known g h out marks are next = (g, are, λ hs. ap (λ (ns : List ℕ). out ++ hints_text ns) (sym (next hs)))

pub walked-makes : (known : List (ℕ × Option Numbered)) (g : List ℤ) (h n : ℕ) (l : ℤ) (old new : List ℕ) (marks : List Bool) → IsNext known g h (Makes n l)
    → new ≡ old ++ hints_text (n ∷ []) → AreMarked marks (neg_ℤ l ∷ g) → IsWalked known g h old new marks false
walked-makes known g h n l old new marks next is are = (
  neg_ℤ l ∷ g,
  are,
  λ hs.
      ap (λ (t : List ℕ). t ++ hints_text (hints_of known (neg_ℤ l ∷ g) hs)) is
      ∙ append_assoc old (hints_text (n ∷ [])) (hints_text (hints_of known (neg_ℤ l ∷ g) hs))
      ∙ ap (λ (t : List ℕ). old ++ t) (sym (hint-first n (hints_of known (neg_ℤ l ∷ g) hs)))
      ∙ ap (λ (ns : List ℕ). old ++ hints_text ns) (sym (next hs)),
)

pub walked-ends : (known : List (ℕ × Option Numbered)) (g : List ℤ) (h n : ℕ) (old new : List ℕ) (marks : List Bool) → IsNext known g h (Ends n)
    → new ≡ old ++ hints_text (n ∷ []) → IsWalked known g h old new marks true
walked-ends known g h n old new marks next is hs = is ∙ ap (λ (ns : List ℕ). old ++ hints_text ns) (sym (next hs))

-- ---- all hints

-- what was written, and what is left to write, make the whole
pub record AreWalked (known : List (ℕ × Option Numbered)) (falses : List ℤ) (hints : List ℕ) (marks : List Bool) (start out : List ℕ) (i : ℕ) : Type 0 where
  pub now : List ℤ
  pub marked : AreMarked marks now
  pub rest : out ++ hints_text (hints_of known now (drop i hints)) ≡ start ++ hints_text (hints_of known falses hints)

pub walked-start : (known : List (ℕ × Option Numbered)) (falses : List ℤ) (hints : List ℕ) (marks : List Bool) (start : List ℕ) → AreMarked marks falses → AreWalked known falses hints marks start start 0
walked-start known falses hints marks start are = record { now = falses; marked = are; rest = refl }

pub walked-further : (known : List (ℕ × Option Numbered)) (falses : List ℤ) (hints : List ℕ) (marks later : List Bool) (start out new : List ℕ) (i d : ℕ) → i < length hints
    → AreWalked known falses hints marks start out i → ((g : List ℤ) → AreMarked marks g → IsWalked known g (get_or hints i d) out new later false) → AreWalked known falses hints later start new (i + 1)
walked-further known falses hints marks later start out new i d lt so_far step =
    let (more, are, on) = step so_far.now so_far.marked in
    record {
      now = more;
      marked = are;
      rest = on (drop (i + 1) hints)
          ∙ ap (λ (hs : List ℕ). out ++ hints_text (hints_of known so_far.now hs)) (sym (drop_more hints i d lt))
          ∙ so_far.rest;
    }

pub walked-ended : (known : List (ℕ × Option Numbered)) (falses : List ℤ) (hints : List ℕ) (marks later : List Bool) (start out new : List ℕ) (i d : ℕ) → i < length hints
    → AreWalked known falses hints marks start out i → ((g : List ℤ) → AreMarked marks g → IsWalked known g (get_or hints i d) out new later true) → new ≡ start ++ hints_text (hints_of known falses hints)
walked-ended known falses hints marks later start out new i d lt so_far step =
    step so_far.now so_far.marked (drop (i + 1) hints)
    ∙ ap (λ (hs : List ℕ). out ++ hints_text (hints_of known so_far.now hs)) (sym (drop_more hints i d lt))
    ∙ so_far.rest

pub walked-all : (known : List (ℕ × Option Numbered)) (falses : List ℤ) (hints : List ℕ) (marks : List Bool) (start out : List ℕ) (i : ℕ) → length hints ≤ i
    → AreWalked known falses hints marks start out i → out ≡ start ++ hints_text (hints_of known falses hints)
walked-all known falses hints marks start out i all so_far =
    sym (append-nil out) ∙ ap (λ (hs : List ℕ). out ++ hints_text (hints_of known so_far.now hs)) (sym (drop_all i hints all)) ∙ so_far.rest

-- ---- steps

pub goes-settled : (vars : ℕ) (set : List ℕ) (known : List (ℕ × Option Numbered)) (out : List ℕ) (number : ℕ) (s : Step) → is_settled vars set s.lits ≡ true
    → GoesOn vars set known out out number number s
goes-settled vars set known out number s settled ss =
    ap (λ (b : Bool). out ++ flat_map step_text (cond b (steps_of vars set known number ss) (record { id = number; lits = bared vars s.lits; hints = hints_of known (bared vars s.lits) s.hints } ∷ steps_of vars set known (number + 1) ss))) (sym settled)

pub goes-written : (vars : ℕ) (set : List ℕ) (known : List (ℕ × Option Numbered)) (old new : List ℕ) (number next : ℕ) (s : Step) → is_settled vars set s.lits ≡ false → next ≡ number + 1
    → new ≡ old ++ step_text (record { id = number; lits = bared vars s.lits; hints = hints_of known (bared vars s.lits) s.hints }) → GoesOn vars set known old new number next s
goes-written vars set known old new number next s loose up is ss =
    let left : Step = record { id = number; lits = bared vars s.lits; hints = hints_of known (bared vars s.lits) s.hints } in
    ap (λ (n : ℕ). new ++ steps_text vars set known n ss) up
    ∙ ap (λ (t : List ℕ). t ++ steps_text vars set known (number + 1) ss) is
    ∙ append_assoc old (step_text left) (steps_text vars set known (number + 1) ss)
    ∙ ap (λ (b : Bool). old ++ flat_map step_text (cond b (steps_of vars set known number ss) (left ∷ steps_of vars set known (number + 1) ss))) (sym loose)

-- the steps so far were written, and those that are left make the whole
abbrev pub StepsWalked : ℕ → List ℕ → List (ℕ × Option Numbered) → Derivation → List ℕ → List ℕ → ℕ → ℕ → ℕ → Type 0
StepsWalked vars set known d start out first number i =
    out ++ steps_text vars set known number (up_to d.goal (drop i d.steps)) ≡ start ++ steps_text vars set known first (up_to d.goal d.steps)

step-here : (d : Derivation) (i : ℕ) (s : Step) → slice_get d.steps i ≡ Some s → drop i d.steps ≡ s ∷ drop (i + 1) d.steps
step-here d i s here =
    drop_more d.steps i s (slice_get_within d.steps i s here) ∙ ap (λ (t : Step). t ∷ drop (i + 1) d.steps) (get_or_from_slice_get d.steps i s s here)

pub steps-further : (vars : ℕ) (set : List ℕ) (known : List (ℕ × Option Numbered)) (d : Derivation) (start out new : List ℕ) (first number next i : ℕ) (s : Step) → slice_get d.steps i ≡ Some s
    → eqb s.id d.goal ≡ false → StepsWalked vars set known d start out first number i → GoesOn vars set known out new number next s → StepsWalked vars set known d start new first next (i + 1)
steps-further vars set known d start out new first number next i s here other so_far on =
    on (up_to d.goal (drop (i + 1) d.steps))
    ∙ ap (λ (b : Bool). out ++ steps_text vars set known number (s ∷ cond b [] (up_to d.goal (drop (i + 1) d.steps)))) (sym other)
    ∙ ap (λ (ss : List Step). out ++ steps_text vars set known number (up_to d.goal ss)) (sym (step-here d i s here))
    ∙ so_far

pub steps-ended : (vars : ℕ) (set : List ℕ) (known : List (ℕ × Option Numbered)) (d : Derivation) (start out new : List ℕ) (first number next i : ℕ) (s : Step) → slice_get d.steps i ≡ Some s
    → eqb s.id d.goal ≡ true → StepsWalked vars set known d start out first number i → GoesOn vars set known out new number next s
    → new ≡ start ++ steps_text vars set known first (up_to d.goal d.steps)
steps-ended vars set known d start out new first number next i s here same so_far on =
    sym (append-nil new) ∙ on []
    ∙ ap (λ (b : Bool). out ++ steps_text vars set known number (s ∷ cond b [] (up_to d.goal (drop (i + 1) d.steps)))) (sym same)
    ∙ ap (λ (ss : List Step). out ++ steps_text vars set known number (up_to d.goal ss)) (sym (step-here d i s here))
    ∙ so_far

pub steps-all : (vars : ℕ) (set : List ℕ) (known : List (ℕ × Option Numbered)) (d : Derivation) (start out : List ℕ) (first number i : ℕ) → length d.steps ≤ i
    → StepsWalked vars set known d start out first number i → out ≡ start ++ steps_text vars set known first (up_to d.goal d.steps)
steps-all vars set known d start out first number i all so_far =
    sym (append-nil out) ∙ ap (λ (ss : List Step). out ++ steps_text vars set known number (up_to d.goal ss)) (sym (drop_all i d.steps all)) ∙ so_far

-- ---- entries

module _ (vars : ℕ) (set : List ℕ) (known : List (ℕ × List ℤ)) (old new : List Entry) (next further id : ℕ) (lits : List ℤ) (are : AreEntries vars set known old next) where
  longer : (b : Bool) → is_settled vars set lits ≡ b
      → renumbered vars set 1 (known ++ (id, lits) ∷ []) ≡ renumbered vars set 1 known ++ cond b ((id, None) ∷ []) ((id, Some (next_number vars set known, bared vars lits)) ∷ [])
  longer b is =
      renumbered-append vars set 1 known ((id, lits) ∷ [])
      ∙ ap (λ (b : Bool). renumbered vars set 1 known ++ cond b ((id, None) ∷ []) ((id, Some (next_number vars set known, bared vars lits)) ∷ [])) is

  pub entry-goes : is_settled vars set lits ≡ true → new ≡ old ++ record { id = id; number = 0 } ∷ [] → further ≡ next → AreEntries vars set (known ++ (id, lits) ∷ []) new further
  entry-goes settled is same =
      record {
        numbered =
            is ∙ ap (λ (es : List Entry). es ++ record { id = id; number = 0 } ∷ []) are.numbered
            ∙ sym (map-append entry_of (renumbered vars set 1 known) ((id, None) ∷ [])) ∙ ap (map entry_of) (sym (longer true settled));
        next = same ∙ are.next ∙ ap (λ (ns : List (ℕ × List ℤ)). 1 + length ns) (sym (kept-settled vars set known (id, lits) settled));
      }

  pub entry-stays : is_settled vars set lits ≡ false → new ≡ old ++ record { id = id; number = next } ∷ [] → further ≡ next + 1 → AreEntries vars set (known ++ (id, lits) ∷ []) new further
  entry-stays loose is up =
      record {
        numbered =
            is ∙ ap (λ (n : ℕ). old ++ record { id = id; number = n } ∷ []) are.next
            ∙ ap (λ (es : List Entry). es ++ record { id = id; number = next_number vars set known } ∷ []) are.numbered
            ∙ sym (map-append entry_of (renumbered vars set 1 known) ((id, Some (next_number vars set known, bared vars lits)) ∷ [])) ∙ ap (map entry_of) (sym (longer false loose));
        next =
            let same = ap (λ (ns : List (ℕ × List ℤ)). 1 + length ns) (kept-stays vars set known (id, lits) loose) in
            let count = length-append (kept (renumbered vars set 1 known)) ((next_number vars set known, bared vars lits) ∷ []) in
            let before = are.next in
            omega (arith, same, count, before, up);
      }

-- one clause of the problem further
pub input-further : (p : Problem) (set : List ℕ) (at next further : ℕ) (old new : List Entry) (c : Clause) (here : Bool) → slice_get p.clauses at ≡ Some c → IsClause p.vars p.groups c → here ≡ is_present set c
    → AreEntries p.vars set (numbered 1 (take at (selector_form p))) old next
    → ((known : List (ℕ × List ℤ)) (lits : List ℤ) → here ≡ not (is_settled p.vars set lits) → AreEntries p.vars set known old next → AreEntries p.vars set (known ++ (at + 1, lits) ∷ []) new further)
    → AreEntries p.vars set (numbered 1 (take (at + 1) (selector_form p))) new further
input-further p set at next further old new c here got fits is are add =
    let within : at < length p.clauses = slice_get_within p.clauses at c got in
    let same : get_or (selector_form p) at [] ≡ with_selector p c = get_or-map (with_selector p) p.clauses at c [] within ∙ ap (with_selector p) (get_or_from_slice_get p.clauses at c c got) in
    subst (λ (known : List (ℕ × List ℤ)). AreEntries p.vars set known new further)
    (sym (numbered_next at 1 (selector_form p) [] (omega (arith, length-map p.clauses (with_selector p))) ∙ ap (λ (ls : List ℤ). numbered 1 (take at (selector_form p)) ++ (at + 1, ls) ∷ []) same))
    (add (numbered 1 (take at (selector_form p))) (with_selector p c) (is ∙ twice (is_present set c) ∙ ap not (sym (clause-settled p set c fits))) are)
  where
    twice : (b : Bool) → b ≡ not (not b)
    twice true = refl
    twice false = refl

-- one step further
pub step-further : (p : Problem) (set : List ℕ) (d : Derivation) (at next further : ℕ) (old new : List Entry) (s : Step) (here : Bool) → slice_get d.steps at ≡ Some s → here ≡ not (is_settled p.vars set s.lits)
    → AreEntries p.vars set (numbered 1 (selector_form p) ++ clauses_in (take at d.steps)) old next
    → ((known : List (ℕ × List ℤ)) (lits : List ℤ) → here ≡ not (is_settled p.vars set lits) → AreEntries p.vars set known old next → AreEntries p.vars set (known ++ (s.id, lits) ∷ []) new further)
    → AreEntries p.vars set (numbered 1 (selector_form p) ++ clauses_in (take (at + 1) d.steps)) new further
step-further p set d at next further old new s here got is are add =
    let within : at < length d.steps = slice_get_within d.steps at s got in
    let more : take (at + 1) d.steps ≡ take at d.steps ++ s ∷ [] = take_more d.steps at s within ∙ ap (λ (t : Step). take at d.steps ++ t ∷ []) (get_or_from_slice_get d.steps at s s got) in
    subst (λ (known : List (ℕ × List ℤ)). AreEntries p.vars set known new further)
    (append_assoc (numbered 1 (selector_form p)) (clauses_in (take at d.steps)) ((s.id, s.lits) ∷ [])
    ∙ ap (λ (es : List (ℕ × List ℤ)). numbered 1 (selector_form p) ++ es) (sym (ap clauses_in more ∙ map-append (λ (t : Step). (t.id, t.lits)) (take at d.steps) (s ∷ []))))
    (add (numbered 1 (selector_form p) ++ clauses_in (take at d.steps)) s.lits is are)

-- whether a clause stays tells whether it is true
pub settled-from : (stays settled : Bool) → stays ≡ not settled → stays ≡ false → settled ≡ true
settled-from stays true is off = refl
settled-from stays false is off = absurd (false≢true (sym off ∙ is))

pub loose-from : (stays settled : Bool) → stays ≡ not settled → stays ≡ true → settled ≡ false
loose-from stays true is on = absurd (false≢true (sym is ∙ on))
loose-from stays false is on = refl
