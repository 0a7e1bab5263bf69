-- Which kinds and sets are among those of records.
use Rattle.std.proofs.Common.{◌≡◌, ℕ, Bool, true, false, ◌||◌, List, [], ◌∷◌, ◌++◌, refl, sym, ◌∙◌, ap, subst, append_assoc, append-nil}
use Rattle.std.proofs.lemmas.Bool.{false≢true, false_from_ne_true, or_from, or_left}
use Rattle.std.proofs.lemmas.List.{map-append}
use Rattle.std.proofs.lemmas.List.Folds.{list_any-append}
use Rattle.gm_base.specs.declared.kind.Kind.{Kind}
use Rattle.gm_base.specs.declared.kind.Kind.TheVariants.{Conflict, Correction}
use Rattle.gm_base.specs.Explored.{Found}
use Rattle.evidence_rec.specs.declared.record.Record.{Record}
use Rattle.evidence_rec.specs.Records.{found_of, founds}
use Rattle.evidence_rec.specs.Held.{same_kind, same_set, and_also, is_held, AreNew}
use Rattle.evidence_rec.proofs.SetListLemmas.{same-is}
use Rattle.gm_journal.specs.Histories.{is_among}

-- the two have one kind and one set
abbrev pub is_same : Found → Found → Bool
is_same g f = and_also (same_kind g.kind f.kind) (same_set g.set f.set)

both : (a b : Bool) → and_also a b ≡ true → (a ≡ true) × (b ≡ true)
both true b is = (refl, is)
both false b is = absurd (false≢true is)

kind-is : (k kind : Kind) → same_kind k kind ≡ true → k ≡ kind
kind-is Conflict Conflict is = refl
kind-is Correction Correction is = refl
kind-is Conflict Correction is = absurd (false≢true is)
kind-is Correction Conflict is = absurd (false≢true is)

abbrev with_parts : Kind → List ℕ → Found
with_parts kind set = record { kind = kind; set = set }

pub found-is : (g f : Found) → is_same g f ≡ true → g ≡ f
found-is g f is =
    let parts = both (same_kind g.kind f.kind) (same_set g.set f.set) is in
    ap (λ (k : Kind). with_parts k g.set) (kind-is g.kind f.kind parts.0) ∙ ap (with_parts f.kind) (same-is g.set f.set parts.1)

-- records hold the sets that are among theirs
held-among : (rs : List Record) (f : Found) → is_held rs f.kind f.set ≡ is_among (founds rs) f
held-among [] f = refl
held-among (r ∷ rs) f = ap (λ b. is_same (found_of r) f || b) (held-among rs f)

pub among-append : (xs ys : List Found) (f : Found) → is_among (xs ++ ys) f ≡ (is_among xs f || is_among ys f)
among-append xs ys f = list_any-append (λ (g : Found). is_same g f) xs ys

-- what is among the earlier ones is not among those that are new behind them
pub among-behind : (before rs : List Record) (f : Found) → AreNew before rs → is_among (founds before) f ≡ true → is_among (founds rs) f ≡ false
among-behind before [] f new there = refl
among-behind before (r ∷ rs) f new there =
    or_from (is_same (found_of r) f) (is_among (founds rs) f)
    (false_from_ne_true (is_same (found_of r) f) (λ same.
    false≢true (sym new.0 ∙ held-among before (found_of r) ∙ ap (is_among (founds before)) (found-is (found_of r) f same) ∙ there)))
    (among-behind (before ++ r ∷ []) rs f new.1
    (ap (λ fs. is_among fs f) (map-append found_of before (r ∷ [])) ∙ among-append (founds before) (founds (r ∷ [])) f
    ∙ or_left (is_among (founds before) f) (is_among (founds (r ∷ [])) f) there))

pub new-behind : (before xs ys : List Record) → AreNew before (xs ++ ys) → AreNew (before ++ xs) ys
new-behind before [] ys new = subst (λ rs. AreNew rs ys) (sym (append-nil before)) new
new-behind before (x ∷ xs) ys new = subst (λ rs. AreNew rs ys) (append_assoc before (x ∷ []) xs) (new-behind (before ++ x ∷ []) xs ys new.1)

-- of records no two of which are of one kind and set
pub among-apart : (xs ys : List Record) (f : Found) → AreNew [] (xs ++ ys) → is_among (founds xs) f ≡ true → is_among (founds ys) f ≡ false
among-apart xs ys f new there = among-behind xs ys f (new-behind [] xs ys new) there
