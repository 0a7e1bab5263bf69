-- Refusals, hint by hint, and that nothing is refused exactly where the hints are followed.
use Rattle.std.proofs.Common.{◌≡◌, ◌≢◌, ℕ, suc, ◌+◌, ◌<◌, ◌↔◌, Bool, true, false, List, [], ◌∷◌, length, get_or, drop, Option, Some, None, refl, sym, ◌∙◌, ap, arith, length-drop}
use Rattle.std.specs.Prelude.{ℤ, neg_ℤ, nat_lt, if◌then◌else◌}
use Rattle.std.specs.Option.{option_map_or}
use Rattle.std.proofs.lemmas.Bool.{cond-false, true≢false, ltb-true, lt-ltb}
use Rattle.std.proofs.Math.Seq.{drop-cons, drop-length}
use Rattle.sat_base.specs.Derivation.{clause_of, open_lits, only_lit, is_nil, is_step_clause, follows}
use Rattle.lrat_check.specs.declared.why.Why.{Why}
use Rattle.lrat_check.specs.declared.why.Why.TheVariants.{UnknownHint, NotUnit, NotFalse, HintsLeft, IdNotRising, BadLiteral}
use Rattle.lrat_check.specs.Refusal.{last_id, hints_refusal, step_refusal, IsStep}

-- What the last hint says of a clause, and one before it, where `rest` is said of the hints behind it.
abbrev last_says : List ℤ → List ℤ → Option Why
last_says f c = if is_nil (open_lits f c) then None else Some NotFalse

abbrev next_says : (ℤ → Option Why) → List ℤ → List ℤ → Option Why
next_says rest f c = if is_nil (open_lits f c) then Some HintsLeft else option_map_or rest (only_lit (open_lits f c)) (Some NotUnit)

last_follows : (f : List ℤ) (o : Option (List ℤ))
    → (option_map_or (last_says f) o (Some UnknownHint) ≡ None) ↔ (option_map_or (λ (c : List ℤ). is_nil (open_lits f c)) o false ≡ true)
last_follows f None = (λ h. cc, λ h. cc)
last_follows f (Some c) = by (is_nil (open_lits f c))
  where
    by : (b : Bool) → ((if b then None else Some NotFalse) ≡ None) ↔ (b ≡ true)
    by true = (λ h. refl, λ h. refl)
    by false = (λ h. cc, λ h. cc)

next_follows : (rest : ℤ → Option Why) (goes : ℤ → Bool) → ((l : ℤ) → (rest l ≡ None) ↔ (goes l ≡ true)) → (f : List ℤ) (o : Option (List ℤ))
    → (option_map_or (next_says rest f) o (Some UnknownHint) ≡ None) ↔ (option_map_or (λ (c : List ℤ). option_map_or goes (only_lit (open_lits f c)) false) o false ≡ true)
next_follows rest goes each f None = (λ h. cc, λ h. cc)
next_follows rest goes each f (Some c) = by (open_lits f c)
  where
    unit : (o : Option ℤ) → (option_map_or rest o (Some NotUnit) ≡ None) ↔ (option_map_or goes o false ≡ true)
    unit None = (λ h. cc, λ h. cc)
    unit (Some l) = each l

    by : (ls : List ℤ) → ((if is_nil ls then Some HintsLeft else option_map_or rest (only_lit ls) (Some NotUnit)) ≡ None) ↔ (option_map_or goes (only_lit ls) false ≡ true)
    by [] = (λ h. cc, λ h. cc)
    by (x ∷ xs) = unit (only_lit (x ∷ xs))

hints_follow : (known : List (ℕ × List ℤ)) (hints : List ℕ) (f : List ℤ) → (hints_refusal known f hints ≡ None) ↔ (follows known f hints ≡ true)
hints_follow known [] f = (λ h. cc, λ h. cc)
hints_follow known (h ∷ []) f = last_follows f (clause_of known h)
hints_follow known (h ∷ k ∷ ks) f =
    next_follows (λ (l : ℤ). hints_refusal known (neg_ℤ l ∷ f) (k ∷ ks)) (λ (l : ℤ). follows known (neg_ℤ l ∷ f) (k ∷ ks))
    (λ l. hints_follow known (k ∷ ks) (neg_ℤ l ∷ f)) f (clause_of known h)

-- a step is not refused exactly where it may stand in a derivation
pub steps_follow : (vars : ℕ) (known : List (ℕ × List ℤ)) (id : ℕ) (lits : List ℤ) (hints : List ℕ)
    → (step_refusal vars known id lits hints ≡ None) ↔ IsStep vars known id lits hints
steps_follow vars known id lits hints = by (nat_lt (last_id known) id) (is_step_clause vars lits) refl refl
  where
    by : (a b : Bool) → nat_lt (last_id known) id ≡ a → is_step_clause vars lits ≡ b
        → ((if a then (if b then hints_refusal known lits hints else Some BadLiteral) else Some IdNotRising) ≡ None) ↔ IsStep vars known id lits hints
    by true true up good = (
      λ h. record { rises = ltb-true (last_id known) id up; is_clause = good; follow = (hints_follow known hints lits).0 h },
      λ s. (hints_follow known hints lits).1 s.follow,
    )
    by true false up bad = (λ h. cc, λ s. absurd (true≢false (sym s.is_clause ∙ bad)))
    by false b low clause = (λ h. cc, λ s. absurd (true≢false (sym (lt-ltb (last_id known) id s.rises) ∙ low)))

-- the hints from a place on
split_at : (hints : List ℕ) (i : ℕ) → i < length hints → drop i hints ≡ get_or hints i 0 ∷ drop (i + 1) hints
split_at hints i lt = let up : suc i ≡ i + 1 = omega arith in drop-cons hints i 0 lt ∙ ap (λ (k : ℕ). get_or hints i 0 ∷ drop k hints) up

none_after : (hints : List ℕ) (i : ℕ) → i + 1 ≡ length hints → drop (i + 1) hints ≡ []
none_after hints i end = ap (λ (k : ℕ). drop k hints) end ∙ drop-length hints

pub not_nil : (xs : List ℤ) (l : ℤ) → only_lit xs ≡ Some l → is_nil xs ≡ false
not_nil [] l one = cc
not_nil (x ∷ xs) l one = refl

-- Where the hints so far left these literals false, with the clause that the hint at `i` names.
module _ (known : List (ℕ × List ℤ)) (f : List ℤ) (hints : List ℕ) (i : ℕ) (lt : i < length hints) where
  pub ends_unknown : clause_of known (get_or hints i 0) ≡ None → hints_refusal known f (drop i hints) ≡ Some UnknownHint
  ends_unknown none = ap (hints_refusal known f) (split_at hints i lt) ∙ by (drop (i + 1) hints)
    where
      by : (hs : List ℕ) → hints_refusal known f (get_or hints i 0 ∷ hs) ≡ Some UnknownHint
      by [] = ap (λ (o : Option (List ℤ)). option_map_or (last_says f) o (Some UnknownHint)) none
      by (k ∷ ks) = ap (λ (o : Option (List ℤ)). option_map_or (next_says (λ (l : ℤ). hints_refusal known (neg_ℤ l ∷ f) (k ∷ ks)) f) o (Some UnknownHint)) none

  at_end : (c : List ℤ) → i + 1 ≡ length hints → clause_of known (get_or hints i 0) ≡ Some c → hints_refusal known f (drop i hints) ≡ last_says f c
  at_end c end is =
      ap (hints_refusal known f) (split_at hints i lt ∙ ap (λ (hs : List ℕ). get_or hints i 0 ∷ hs) (none_after hints i end))
      ∙ ap (λ (o : Option (List ℤ)). option_map_or (last_says f) o (Some UnknownHint)) is

  before_end : (c : List ℤ) → i + 1 ≢ length hints → clause_of known (get_or hints i 0) ≡ Some c
      → hints_refusal known f (drop i hints) ≡ next_says (λ (l : ℤ). hints_refusal known (neg_ℤ l ∷ f) (drop (i + 1) hints)) f c
  before_end c more is =
      let len = length-drop (i + 1) hints in
      ap (hints_refusal known f) (split_at hints i lt) ∙ by (drop (i + 1) hints) (omega arith)
    where
      by : (hs : List ℕ) → 0 < length hs → hints_refusal known f (get_or hints i 0 ∷ hs) ≡ next_says (λ (l : ℤ). hints_refusal known (neg_ℤ l ∷ f) hs) f c
      by [] some = absurd (omega arith)
      by (k ∷ ks) some = ap (λ (o : Option (List ℤ)). option_map_or (next_says (λ (l : ℤ). hints_refusal known (neg_ℤ l ∷ f) (k ∷ ks)) f) o (Some UnknownHint)) is

  pub nothing_last : (c : List ℤ) → i + 1 ≡ length hints → clause_of known (get_or hints i 0) ≡ Some c → open_lits f c ≡ [] → hints_refusal known f (drop i hints) ≡ None
  nothing_last c end is none = at_end c end is ∙ ap (λ (ls : List ℤ). if is_nil ls then None else Some NotFalse) none

  pub nothing_more : (c : List ℤ) → i + 1 ≢ length hints → clause_of known (get_or hints i 0) ≡ Some c → open_lits f c ≡ []
      → hints_refusal known f (drop i hints) ≡ Some HintsLeft
  nothing_more c more is none =
      before_end c more is
      ∙ ap (λ (ls : List ℤ). if is_nil ls then Some HintsLeft else option_map_or (λ (l : ℤ). hints_refusal known (neg_ℤ l ∷ f) (drop (i + 1) hints)) (only_lit ls) (Some NotUnit)) none

  pub open_last : (c : List ℤ) → i + 1 ≡ length hints → clause_of known (get_or hints i 0) ≡ Some c → is_nil (open_lits f c) ≡ false
      → hints_refusal known f (drop i hints) ≡ Some NotFalse
  open_last c end is some = at_end c end is ∙ cond-false (is_nil (open_lits f c)) None (Some NotFalse) some

  pub unit_more : (c : List ℤ) (l : ℤ) → i + 1 ≢ length hints → clause_of known (get_or hints i 0) ≡ Some c → only_lit (open_lits f c) ≡ Some l
      → hints_refusal known f (drop i hints) ≡ hints_refusal known (neg_ℤ l ∷ f) (drop (i + 1) hints)
  unit_more c l more is one =
      before_end c more is
      ∙ cond-false (is_nil (open_lits f c)) (Some HintsLeft) _ (not_nil (open_lits f c) l one)
      ∙ ap (λ (o : Option ℤ). option_map_or (λ (l : ℤ). hints_refusal known (neg_ℤ l ∷ f) (drop (i + 1) hints)) o (Some NotUnit)) one

  pub many_more : (c : List ℤ) → i + 1 ≢ length hints → clause_of known (get_or hints i 0) ≡ Some c → only_lit (open_lits f c) ≡ None → is_nil (open_lits f c) ≡ false
      → hints_refusal known f (drop i hints) ≡ Some NotUnit
  many_more c more is none some =
      before_end c more is
      ∙ cond-false (is_nil (open_lits f c)) (Some HintsLeft) _ some
      ∙ ap (λ (o : Option ℤ). option_map_or (λ (l : ℤ). hints_refusal known (neg_ℤ l ∷ f) (drop (i + 1) hints)) o (Some NotUnit)) none
