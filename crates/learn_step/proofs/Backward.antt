-- Hints built from the last to the first, as a solver does that goes back over its trail.
use Rattle.std.proofs.Common.{◌≡◌, ℕ, Bool, true, false, not, cond, List, [], ◌∷◌, Some, None, refl, sym, ◌∙◌, ap, subst, inl, inr}
use Rattle.std.specs.Prelude.{ℤ, neg_ℤ}
use Rattle.std.specs.Ordering.{int_eq}
use Rattle.std.specs.List.{list_all}
use Rattle.std.specs.Option.{option_map_or}
use Rattle.std.proofs.lemmas.Bool.{or_cases, or_left, or_right, false≢true, false_from_ne_true, cond-true, cond-false}
use Rattle.std.proofs.lemmas.Bool.Decides.{Decides-int_eq}
use Rattle.sat_base.specs.Derivation.{clause_of, contains_lit, open_lits, only_lit, is_nil, follows}
use Rattle.sat_base.specs.Members.{In}
use Rattle.learn_step.specs.Leading.{AllAmong, AllAmongBut, Leads}
use Rattle.sat_base.proofs.Members.{all_from}

-- each of these literals is among the others, by the test that `follows` makes
abbrev pub Within : List ℤ → List ℤ → Type 0
Within small large = (m : ℤ) → contains_lit small m ≡ true → contains_lit large m ≡ true

Within-cons : (l : ℤ) (small large : List ℤ) → Within small large → Within (l ∷ small) (l ∷ large)
Within-cons l small large sub m h =
    elim (or_cases (int_eq l m) (contains_lit small m) h) [
      | inl here ↦ or_left (int_eq l m) (contains_lit large m) here
      | inr later ↦ or_right (int_eq l m) (contains_lit large m) (sub m later)
    ]

-- more false literals lead as well
pub Leads-more : (known : List (ℕ × List ℤ)) (trail falses more : List ℤ) (hints : List ℕ) → Within falses more → Leads known trail falses hints → Leads known trail more hints
Leads-more known trail falses more [] sub h = h
Leads-more known trail falses more (x ∷ []) sub h = let (c, is, all) = h in (c, is, λ m i. sub m (all m i))
Leads-more known trail falses more (x ∷ y ∷ ys) sub h =
    let (c, l, is, i, on, all, rest) = h in (
      c,
      l,
      is,
      i,
      on,
      λ m j. elim (all m j) [ inl same ↦ inl same | inr among ↦ inr (sub m among) ],
      Leads-more known trail (neg_ℤ l ∷ falses) (neg_ℤ l ∷ more) (y ∷ ys) (Within-cons (neg_ℤ l) falses more sub) rest,
    )

-- One step back: the false literal `-l` is replaced by the other literals of the reason of l.
pub Leads-back : (known : List (ℕ × List ℤ)) (trail falses new reason : List ℤ) (l : ℤ) (id h : ℕ) (hs : List ℕ)
    → clause_of known id ≡ Some reason → In l reason → contains_lit trail l ≡ true → AllAmongBut new reason l → Within falses (neg_ℤ l ∷ new)
    → Leads known trail falses (h ∷ hs) → Leads known trail new (id ∷ h ∷ hs)
Leads-back known trail falses new reason l id h hs is i on others sub leads =
    (reason, l, is, i, on, others, Leads-more known trail falses (neg_ℤ l ∷ new) (h ∷ hs) sub leads)

-- no literal is false that the trail makes true
abbrev pub NoneTrue : List ℤ → List ℤ → Type 0
NoneTrue trail falses = (m : ℤ) → contains_lit trail m ≡ true → contains_lit falses m ≡ false

nil_from_all : (falses c : List ℤ) → AllAmong falses c → is_nil (open_lits falses c) ≡ true
nil_from_all falses [] all = refl
nil_from_all falses (x ∷ xs) all =
    ap is_nil (cond-false (not (contains_lit falses x)) (x ∷ open_lits falses xs) (open_lits falses xs) (ap not (all x (inl refl))))
    ∙ nil_from_all falses xs (λ m i. all m (inr i))

-- the open literals are all the one
open_all_same : (falses c : List ℤ) (l : ℤ) → AllAmongBut falses c l → (m : ℤ) → In m (open_lits falses c) → m ≡ l
open_all_same falses [] l all m h = absurd h
open_all_same falses (x ∷ xs) l all m h = go (contains_lit falses x) refl h (open_all_same falses xs l (λ k i. all k (inr i)) m)
  where
    go : (b : Bool) → contains_lit falses x ≡ b → In m (cond (not b) (x ∷ open_lits falses xs) (open_lits falses xs)) → (In m (open_lits falses xs) → m ≡ l) → m ≡ l
    go true e h rest = rest h
    go false e (inr later) rest = rest later
    go false e (inl here) rest = elim (all x (inl refl)) [ inl same ↦ here ∙ same | inr among ↦ absurd (false≢true (sym e ∙ among)) ]

open_has : (falses c : List ℤ) (l : ℤ) → In l c → contains_lit falses l ≡ false → In l (open_lits falses c)
open_has falses [] l i out = absurd i
open_has falses (x ∷ xs) l (inl e) out =
    subst (In l) (sym (cond-true (not (contains_lit falses x)) (x ∷ open_lits falses xs) (open_lits falses xs) (ap not (ap (contains_lit falses) (sym e) ∙ out)))) (inl e)
open_has falses (x ∷ xs) l (inr i) out = go (not (contains_lit falses x)) (open_has falses xs l i out)
  where
    go : (b : Bool) → In l (open_lits falses xs) → In l (cond b (x ∷ open_lits falses xs) (open_lits falses xs))
    go true rest = inr rest
    go false rest = rest

only_from_same : (l : ℤ) (xs : List ℤ) → In l xs → ((m : ℤ) → In m xs → m ≡ l) → only_lit xs ≡ Some l
only_from_same l [] i same = absurd i
only_from_same l (x ∷ xs) i same =
    cond-true (list_all (int_eq x) xs) (Some x) None
    (all_from (int_eq x) xs (λ m j. (Decides-int_eq x m).1 (same x (inl refl) ∙ sym (same m (inr j)))))
    ∙ ap Some (same x (inl refl))

-- on a trail without a literal and its negation, hints that lead are hints by which the clause follows
pub follows-from_Leads : (known : List (ℕ × List ℤ)) (trail : List ℤ) (hints : List ℕ) (falses : List ℤ)
    → ((l : ℤ) → contains_lit trail l ≡ true → contains_lit trail (neg_ℤ l) ≡ false) → NoneTrue trail falses → Leads known trail falses hints → follows known falses hints ≡ true
follows-from_Leads known trail [] falses ok none h = absurd h
follows-from_Leads known trail (x ∷ []) falses ok none h =
    let (c, is, all) = h in ap (λ o. option_map_or (λ c. is_nil (open_lits falses c)) o false) is ∙ nil_from_all falses c all
follows-from_Leads known trail (x ∷ y ∷ ys) falses ok none h =
    let (c, l, is, i, on, all, rest) = h in
    let only = only_from_same l (open_lits falses c) (open_has falses c l i (none l on)) (open_all_same falses c l all) in
    ap (λ o. option_map_or (λ c. option_map_or (λ l. follows known (neg_ℤ l ∷ falses) (y ∷ ys)) (only_lit (open_lits falses c)) false) o false) is
    ∙ ap (λ o. option_map_or (λ l. follows known (neg_ℤ l ∷ falses) (y ∷ ys)) o false) only
    ∙ follows-from_Leads known trail (y ∷ ys) (neg_ℤ l ∷ falses) ok
    (λ m here.
    false_from_ne_true (contains_lit (neg_ℤ l ∷ falses) m)
    (λ t.
    elim (or_cases (int_eq (neg_ℤ l) m) (contains_lit falses m) t) [
      | inl same ↦ false≢true (sym (ok l on) ∙ ap (contains_lit trail) ((Decides-int_eq (neg_ℤ l) m).0 same) ∙ here)
      | inr later ↦ false≢true (sym (none m here) ∙ later)
    ]))
    rest
