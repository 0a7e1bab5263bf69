-- Where nothing breaks the one problem extends the other, and the other way round.
use Rattle.std.proofs.Common.{◌≡◌, ℕ, ◌+◌, ◌<◌, ◌≤◌, Bool, true, false, cond, List, [], ◌∷◌, ◌++◌, length, drop, get_or, Option, Some, None, refl, sym, ◌∙◌, ap, ap₂, eqb, ltb, leb}
use Rattle.std.specs.Prelude.{ℤ, ◌||◌, slice_get, IfNone}
use Rattle.std.specs.Ordering.{int_eq}
use Rattle.std.specs.Cmp.Lexicographic.{pointwise}
use Rattle.std.specs.Cmp.Rules.{signed_items}
use Rattle.std.specs.List.{AllByRecursion}
use Rattle.std.specs.Option.{option_or}
use Rattle.std.proofs.lemmas.Bool.{and_parts, and_from, eqb-true, eq-eqb, ltb-false, le-ltb, leb-false, lt-leb, le-leb, cond-true, cond-false}
use Rattle.std.proofs.lemmas.List.{drop_more, drop_all}
use Rattle.std.proofs.lemmas.Option.{slice_get_within, get_or_from_slice_get}
use Rattle.gm_base.specs.declared.clause.Clause.{Clause}
use Rattle.gm_base.specs.Problem.{Problem}
use Rattle.edit_session.specs.Extends.{Extends, same_clause, first_other, first_within, first_break}

pub same-is : (c d : Clause) → same_clause c d ≡ true → c ≡ d
same-is c d h =
    let parts = and_parts (eqb c.group d.group) (pointwise int_eq c.lits d.lits) h in
    let group : c.group ≡ d.group = eqb-true c.group d.group parts.0 in
    let lits : c.lits ≡ d.lits = (signed_items c.lits d.lits).0 parts.1 in
    ap₂ (λ (g : ℕ) (ls : List ℤ). record { group = g; lits = ls }) group lits

pub same-refl : (c : Clause) → same_clause c c ≡ true
same-refl c = and_from (eqb c.group c.group) (pointwise int_eq c.lits c.lits) (eq-eqb c.group c.group refl) ((signed_items c.lits c.lits).1 refl)

-- no other clause: the old ones come first
others-none : (at : ℕ) (old new : List Clause) → first_other at old new ≡ None → new ≡ old ++ drop (length old) new
others-none at [] new h = refl
others-none at (c ∷ old) [] h = cc
others-none at (c ∷ old) (d ∷ new) h = by (same_clause c d) refl h (others-none (at + 1) old new)
  where
    by : (b : Bool) → same_clause c d ≡ b → cond b (first_other (at + 1) old new) (Some at) ≡ None
        → (first_other (at + 1) old new ≡ None → new ≡ old ++ drop (length old) new) → (d ∷ new) ≡ (c ∷ old) ++ drop (length (c ∷ old)) (d ∷ new)
    by true same none rest = ap (λ x. x ∷ new) (sym (same-is c d same)) ∙ ap (λ xs. c ∷ xs) (rest none)
    by false other none rest = cc

none-others : (at : ℕ) (old more : List Clause) → first_other at old (old ++ more) ≡ None
none-others at [] more = refl
none-others at (c ∷ old) more = cond-true (same_clause c c) (first_other (at + 1) old (old ++ more)) (Some at) (same-refl c) ∙ none-others (at + 1) old more

drop-front : (old more : List Clause) → drop (length old) (old ++ more) ≡ more
drop-front [] more = refl
drop-front (c ∷ old) more = drop-front old more

within-none : (groups at : ℕ) (more : List Clause) → first_within groups at more ≡ None → AllByRecursion (λ (c : Clause). groups < c.group) more
within-none groups at [] h = tt
within-none groups at (c ∷ more) h = by (leb c.group groups) refl h (within-none groups (at + 1) more)
  where
    by : (b : Bool) → leb c.group groups ≡ b → cond b (Some at) (first_within groups (at + 1) more) ≡ None
        → (first_within groups (at + 1) more ≡ None → AllByRecursion (λ (c : Clause). groups < c.group) more) → AllByRecursion (λ (c : Clause). groups < c.group) (c ∷ more)
    by true low none rest = cc
    by false high none rest = (leb-false c.group groups high, rest none)

none-within : (groups at : ℕ) (more : List Clause) → AllByRecursion (λ (c : Clause). groups < c.group) more → first_within groups at more ≡ None
none-within groups at [] h = refl
none-within groups at (c ∷ more) h =
    cond-false (leb c.group groups) (Some at) (first_within groups (at + 1) more) (lt-leb c.group groups h.0) ∙ none-within groups (at + 1) more h.1

pub extends-from_none : (old new : Problem) → first_break old new ≡ None → Extends old new
extends-from_none old new h = by (ltb new.vars old.vars) refl (ltb new.groups old.groups) refl h
  where
    by : (a : Bool) → ltb new.vars old.vars ≡ a → (b : Bool) → ltb new.groups old.groups ≡ b
        → cond (a || b) (Some 0) (option_or (first_other 1 old.clauses new.clauses) (first_within old.groups (length old.clauses + 1) (drop (length old.clauses) new.clauses))) ≡ None
        → Extends old new
    by true a b is none = cc
    by false a true is none = cc
    by false a false is none = parts (first_other 1 old.clauses new.clauses) refl none
      where
        parts : (o : Option ℕ) → first_other 1 old.clauses new.clauses ≡ o
            → option_or o (first_within old.groups (length old.clauses + 1) (drop (length old.clauses) new.clauses)) ≡ None → Extends old new
        parts (Some k) some e = cc
        parts None no_other e =
            record {
              vars = ltb-false new.vars old.vars a;
              groups = ltb-false new.groups old.groups is;
              more = drop (length old.clauses) new.clauses;
              clauses = others-none 1 old.clauses new.clauses no_other;
              above = within-none old.groups (length old.clauses + 1) (drop (length old.clauses) new.clauses) e;
            }

pub none-from_extends : (old new : Problem) → Extends old new → first_break old new ≡ None
none-from_extends old new e =
    ap₂ (λ a b. cond (a || b) (Some 0) (option_or (first_other 1 old.clauses new.clauses) (first_within old.groups (length old.clauses + 1) (drop (length old.clauses) new.clauses))))
    (le-ltb new.vars old.vars e.vars) (le-ltb new.groups old.groups e.groups)
    ∙ ap (λ cs. option_or (first_other 1 old.clauses cs) (first_within old.groups (length old.clauses + 1) (drop (length old.clauses) cs))) e.clauses
    ∙ ap (λ o. option_or o (first_within old.groups (length old.clauses + 1) (drop (length old.clauses) (old.clauses ++ e.more)))) (none-others 1 old.clauses e.more)
    ∙ ap (first_within old.groups (length old.clauses + 1)) (drop-front old.clauses e.more)
    ∙ none-within old.groups (length old.clauses + 1) e.more e.above

-- ---- one place after the other

pub drop_at : {X : Type 0} (xs : List X) (at : ℕ) (x : X) → slice_get xs at ≡ Some x → drop at xs ≡ x ∷ drop (at + 1) xs
drop_at xs at x is = drop_more xs at x (slice_get_within xs at x is) ∙ ap (λ y. y ∷ drop (at + 1) xs) (get_or_from_slice_get xs at x x is)

-- the new list ends here
pub other-missing : (old new : List Clause) (at : ℕ) → at < length old → length new ≤ at → first_other (at + 1) (drop at old) (drop at new) ≡ Some (at + 1)
other-missing old new at lt past =
    let first = get_or old at (record { group = 0; lits = [] }) in
    ap₂ (first_other (at + 1)) (drop_more old at (record { group = 0; lits = [] }) lt) (drop_all at new past)

pub other-here : (old new : List Clause) (at : ℕ) (c d : Clause) → slice_get old at ≡ Some c → slice_get new at ≡ Some d → same_clause c d ≡ false
    → first_other (at + 1) (drop at old) (drop at new) ≡ Some (at + 1)
other-here old new at c d old_is new_is other =
    ap₂ (first_other (at + 1)) (drop_at old at c old_is) (drop_at new at d new_is)
    ∙ cond-false (same_clause c d) (first_other (at + 1 + 1) (drop (at + 1) old) (drop (at + 1) new)) (Some (at + 1)) other

pub other-later : (old new : List Clause) (at : ℕ) (c d : Clause) → slice_get old at ≡ Some c → slice_get new at ≡ Some d → same_clause c d ≡ true
    → first_other (at + 1) (drop at old) (drop at new) ≡ first_other (at + 1 + 1) (drop (at + 1) old) (drop (at + 1) new)
other-later old new at c d old_is new_is same =
    ap₂ (first_other (at + 1)) (drop_at old at c old_is) (drop_at new at d new_is)
    ∙ cond-true (same_clause c d) (first_other (at + 1 + 1) (drop (at + 1) old) (drop (at + 1) new)) (Some (at + 1)) same

pub other-end : (old new : List Clause) (at : ℕ) → length old ≤ at → first_other (at + 1) (drop at old) (drop at new) ≡ None
other-end old new at past = ap (λ cs. first_other (at + 1) cs (drop at new)) (drop_all at old past)

pub within-here : (groups : ℕ) (new : List Clause) (at : ℕ) (d : Clause) → slice_get new at ≡ Some d → d.group ≤ groups
    → first_within groups (at + 1) (drop at new) ≡ Some (at + 1)
within-here groups new at d is low =
    ap (first_within groups (at + 1)) (drop_at new at d is)
    ∙ cond-true (leb d.group groups) (Some (at + 1)) (first_within groups (at + 1 + 1) (drop (at + 1) new)) (le-leb d.group groups low)

pub within-later : (groups : ℕ) (new : List Clause) (at : ℕ) (d : Clause) → slice_get new at ≡ Some d → groups < d.group
    → first_within groups (at + 1) (drop at new) ≡ first_within groups (at + 1 + 1) (drop (at + 1) new)
within-later groups new at d is high =
    ap (first_within groups (at + 1)) (drop_at new at d is)
    ∙ cond-false (leb d.group groups) (Some (at + 1)) (first_within groups (at + 1 + 1) (drop (at + 1) new)) (lt-leb d.group groups high)

pub within-end : (groups : ℕ) (new : List Clause) (at : ℕ) → length new ≤ at → first_within groups (at + 1) (drop at new) ≡ None
within-end groups new at past = ap (first_within groups (at + 1)) (drop_all at new past)

pub if_none-extends : (old new : Problem) (o : Option ℕ) → o ≡ first_break old new → IfNone o (Extends old new)
if_none-extends old new None is = extends-from_none old new (sym is)
if_none-extends old new (Some k) is = tt

-- the break is at the first other clause, and else at the first further one of an old group
pub break-is : (old new : Problem) (inner : Option ℕ) → old.vars ≤ new.vars → old.groups ≤ new.groups
    → inner ≡ option_or (first_other 1 old.clauses new.clauses) (first_within old.groups (length old.clauses + 1) (drop (length old.clauses) new.clauses))
    → inner ≡ first_break old new
break-is old new inner vars groups is =
    is
    ∙ sym (ap₂ (λ a b. cond (a || b) (Some 0) (option_or (first_other 1 old.clauses new.clauses) (first_within old.groups (length old.clauses + 1) (drop (length old.clauses) new.clauses))))
    (le-ltb new.vars old.vars vars) (le-ltb new.groups old.groups groups))
