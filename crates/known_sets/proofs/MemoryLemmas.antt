-- Lemmas on what is remembered.
use Rattle.std.proofs.Common.{◌≡◌, ◌∙◌, ℕ, zero, suc, ◌<◌, Bool, true, not, List, [], ◌∷◌, ◌++◌, Some, length, get_or, eqb, refl, sym, ap, subst, arith}
use Rattle.std.specs.Prelude.{Result, Ok, Err, OnOk, OnErr, IfOk, IfSome, Option, None, All, slice_get}
use Rattle.std.specs.Result.{result_ok}
use Rattle.std.specs.List.{list_all}
use Rattle.std.proofs.lemmas.Bool.{false≢true, false_from_ne_true, eqb-true, not-true, and_parts}
use Rattle.std.proofs.lemmas.List.Elements.{All-append, All-get_or, All-from_get_or}
use Rattle.std.proofs.lemmas.Option.{get_or_from_slice_get, slice_get_within}
use Rattle.sat_base.proofs.Members.{all_at, any_from}
use Rattle.gm_base.specs.Sets.{has, without, IsSubset, all_groups, complement}
use Rattle.gm_base.specs.Problem.{Problem}
use Rattle.gm_base.specs.Evidence.{is_witness}
use Rattle.gm_base.proofs.SetLemmas.{has-complement-from, complement_twice-IsSubset, has-without}
use Rattle.evidence_rec.proofs.EvidenceLemmas.{is_witness-subset}

-- a set that has none of these groups lies outside of them
pub IsSubset-missing : (groups : ℕ) (set out : List ℕ) → IsSubset set (all_groups groups) → list_all (λ g. not (has set g)) out ≡ true → IsSubset set (complement groups out)
IsSubset-missing groups set out within none g i =
    has-complement-from groups out g (within g i)
    (false_from_ne_true (has out g)
    (λ h.
    let (x, j, e) = any_from (λ k. eqb k g) out h in
    let gone = not-true (has set x) (all_at (λ k. not (has set k)) out x none j) in
    false≢true (sym gone ∙ ap (has set) (eqb-true x g e) ∙ i)))

-- what is left of a set of the problem's groups is one
pub IsSubset-without_one : (groups : ℕ) (set : List ℕ) (but : ℕ) → IsSubset set (all_groups groups) → IsSubset (without set but) (all_groups groups)
IsSubset-without_one groups set but within g i = within g (and_parts (not (eqb g but)) (has set g) (sym (has-without set but g) ∙ i)).1

-- an assignment that satisfies all groups outside of these satisfies a set that has none of them
pub is_witness-missing : (p : Problem) (set out : List ℕ) (w : List Bool) → IsSubset set (all_groups p.groups) → list_all (λ g. not (has set g)) out ≡ true
    → is_witness p (complement p.groups out) w ≡ true → is_witness p set w ≡ true
is_witness-missing p set out w within none h = is_witness-subset p set (complement p.groups out) w (IsSubset-missing p.groups set out within none) h

-- a satisfied set is kept by its complement
pub is_witness-complement : (p : Problem) (groups : ℕ) (set out : List ℕ) (w v : List Bool) → p.groups ≡ groups → out ≡ complement groups set → v ≡ w
    → is_witness p set w ≡ true → is_witness p (complement p.groups out) v ≡ true
is_witness-complement p groups set out w v same is copy h =
    subst (λ a. is_witness p (complement p.groups out) a ≡ true) (sym copy)
    (subst (λ o. is_witness p (complement p.groups o) w ≡ true) (sym (is ∙ ap (λ n. complement n set) (sym same)))
    (is_witness-subset p (complement p.groups (complement p.groups set)) set w (complement_twice-IsSubset p.groups set) h))

get_or-one : {X : Type 0} (x : X) (i : ℕ) → i < length (x ∷ []) → get_or (x ∷ []) i x ≡ x
get_or-one x zero lt = refl
get_or-one x (suc i) lt = absurd (omega arith)

-- what holds of all holds of the one at a place
pub All-at : {X : Type 0} (P : X → Type 0) (xs : List X) (k : ℕ) (x : X) → All P xs → slice_get xs k ≡ Some x → P x
All-at P xs k x h is = subst P (get_or_from_slice_get xs k x x is) (All-get_or P xs k x (slice_get_within xs k x is) h)

-- one more, or none where there is no memory for it
pub All-inserted : {X Y Z : Type 0} (P : X → Type 0) (r : Result Y Z) (old new : List X) (x : X) → OnOk r (new ≡ old ++ x ∷ []) → OnErr r (new ≡ old) → All P old → P x → All P new
All-inserted P (Ok y) old new x ok err h one = subst (All P) (sym ok) (All-append P old (x ∷ []) h (All-from_get_or P (x ∷ []) x (λ i lt. subst P (sym (get_or-one x i lt)) one)))
All-inserted P (Err z) old new x ok err h one = subst (All P) (sym err) h

-- what holds of something holds of its copy, where there is memory for one
pub IfSome-copied : {X Y : Type 0} (P : X → Type 0) (x : X) (r : Result X Y) (o : Option X) → o ≡ result_ok r → IfOk r (λ copy. copy ≡ x) → P x → IfSome o P
IfSome-copied P x (Ok copy) o is same h = subst (λ found. IfSome found P) (sym is) (subst P (sym same) h)
IfSome-copied P x (Err y) o is same h = subst (λ found. IfSome found P) (sym is) tt

-- what holds of something holds of what is the same, where there is it
pub IfSome-same : {X : Type 0} (P : X → Type 0) (x : X) (o : Option X) → IfSome o (λ y. y ≡ x) → P x → IfSome o P
IfSome-same P x (Some y) same h = subst P (sym same) h
IfSome-same P x None same h = tt
