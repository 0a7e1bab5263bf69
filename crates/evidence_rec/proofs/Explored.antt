-- What an explored set is, and that nothing minimal is missing once each set is explored.
use Rattle.std.proofs.Common.{◌≡◌, ◌≢◌, ◌⊎◌, ℕ, ◌+◌, Bool, true, false, not, ◌&&◌, List, [], ◌∷◌, ◌++◌, map, refl, sym, ◌∙◌, ap, subst, inl, inr, eqb}
use Rattle.std.specs.List.{list_all, AllByRecursion}
use Rattle.std.specs.Cmp.Lexicographic.{bytes_decides}
use Rattle.std.proofs.lemmas.Bool.{false≢true, true≢false, or_right, and_parts, and_from, eqb-true, cases_Bool, false_from_ne_true}
use Rattle.gm_base.specs.Sets.{IsGroupSet, has, IsSubset, IsProperSubset, all_groups, complement}
use Rattle.sat_base.specs.Members.{In}
use Rattle.sat_base.specs.Literals.{clause_true}
use Rattle.sat_base.specs.Derivation.{Derivation, numbered}
use Rattle.gm_base.specs.Problem.{Problem, IsProblem, Sat}
use Rattle.gm_base.specs.Minimal.{IsConflict, IsCorrection}
use Rattle.gm_base.specs.Explored.{Found, explores, is_explored, block_clause, is_model, AllExplored}
use Rattle.gm_base.specs.declared.kind.Kind.{Kind}
use Rattle.gm_base.specs.declared.kind.Kind.TheVariants.{Conflict as OfConflict, Correction as OfCorrection}
use Rattle.sat_base.proofs.Members.{In-from_map, all_at, any_at, any_from}
use Rattle.sat_base.proofs.Soundness.{AllGood, derives-sound}
use Rattle.gm_base.proofs.SetLemmas.{AscendsAbove-same, has-complement, has-head, IsSubset-from_all, IsGroupSet-complement}
use Rattle.gm_base.proofs.SatLemmas.{Sat-subset}
use Rattle.gm_base.proofs.ExploredLemmas.{AreWithin, all_explored-no_model}
use Rattle.evidence_rec.specs.declared.record.Record.{Record}
use Rattle.evidence_rec.specs.declared.record.Record.TheVariants.{Conflict, Correction}
use Rattle.evidence_rec.specs.Records.{kind_of, set_of, found_of, founds, AllAcceptedBehind, AllAccepted, IsRight}
use Rattle.evidence_rec.specs.Seeding.{shows_all_explored}
use Rattle.evidence_rec.specs.Held.{is_held, same_kind, same_set, and_also, Decides, HoldsAll}
use Rattle.evidence_rec.proofs.AcceptedLemmas.{accepted-right}
use Rattle.evidence_rec.proofs.BlockLemmas.{block_clause-literal}

-- a set that a conflict explores holds it, so it can't be satisfied
pub unsat_above : (p : Problem) (conflict s : List ℕ) → IsConflict p conflict → list_all (has s) conflict ≡ true → ¬ Sat p s
unsat_above p conflict s h e sat = h.unsat (Sat-subset p conflict s (IsSubset-from_all conflict s e) sat)

-- of two sets with no group in common, a group of the one is not in the other
not_in_both : (s set : List ℕ) (g : ℕ) → list_all (λ k. not (has s k)) set ≡ true → has s g ≡ true → has set g ≡ false
not_in_both s set g none inside = false_from_ne_true (has set g) absent
  where
    absent : has set g ≢ true
    absent on =
        let (k, i, e) = any_from (λ h. eqb h g) set on in
        let here : has s k ≡ true = ap (has s) (eqb-true k g e) ∙ inside in
        false≢true (sym (ap not here) ∙ all_at (λ h. not (has s h)) set k none i)

-- a set that a correction explores is within its complement, so it can be satisfied
pub sat_outside : (p : Problem) (correction s : List ℕ) → IsCorrection p correction → IsSubset s (all_groups p.groups)
    → list_all (λ g. not (has s g)) correction ≡ true → Sat p s
sat_outside p correction s h within e = Sat-subset p s (complement p.groups correction) outside h.sat
  where
    outside : IsSubset s (complement p.groups correction)
    outside g inside =
        has-complement p.groups correction g
        ∙ and_from (not (has correction g)) (has (all_groups p.groups) g) (ap not (not_in_both s correction g e inside))
        (within g inside)

-- a set that a right record explores is decided by it
decides_at : (p : Problem) (r : Record) (s : List ℕ) → IsRight p r → IsSubset s (all_groups p.groups)
    → explores (found_of r) s ≡ true → Decides p (kind_of r) s
decides_at p (Conflict set proof ws) s h within e =
    unsat_above p set s h.minimal e
decides_at p (Correction set w proofs) s h within e =
    sat_outside p set s h.minimal within e

pub decides_all : (p : Problem) (s : List ℕ) → IsSubset s (all_groups p.groups) → (rs : List Record)
    → AllByRecursion (IsRight p) rs
    → AllByRecursion (λ (r : Record). explores (found_of r) s ≡ true → Decides p (kind_of r) s) rs
decides_all p s within [] h = tt
decides_all p s within (r ∷ rs) h = (decides_at p r s h.0 within, decides_all p s within rs h.1)

-- a group of the one list that the other lacks
lacks : (large small : List ℕ) → list_all (has small) large ≡ false
    → (g : ℕ) × (has large g ≡ true) × (has small g ≡ false)
lacks [] small h = absurd (true≢false h)
lacks (x ∷ xs) small h =
    elim (cases_Bool (has small x)) [
      | inr out ↦ (x, has-head x xs, out)
      | inl on ↦
          let (g, inside, out) = lacks xs small (sym (ap (λ b. b && list_all (has small) xs) on) ∙ h) in
          (g, or_right (eqb x g) (has xs g) inside, out)
    ]

-- a subset of a set is the set, or lacks one of its groups
same_or_proper : (small large : List ℕ) → IsGroupSet small → IsGroupSet large → IsSubset small large
    → (small ≡ large) ⊎ IsProperSubset small large
same_or_proper small large a b sub =
    elim (cases_Bool (list_all (has small) large)) [
      | inl all ↦ inl (AscendsAbove-same 0 small large a b sub (IsSubset-from_all large small all))
      | inr not_all ↦ inr (sub, lacks large small not_all)
    ]

right_at : (p : Problem) (rs : List Record) (r : Record) → AllByRecursion (IsRight p) rs → In r rs
    → IsRight p r
right_at p [] r h i = absurd i
right_at p (q ∷ qs) r h (inl e) = subst (IsRight p) (sym e) h.0
right_at p (q ∷ qs) r h (inr i) = right_at p qs r h.1 i

-- some record explores an explored set
explorer : (rs : List Record) (set : List ℕ) → is_explored (founds rs) set ≡ true
    → (r : Record) × In r rs × (explores (found_of r) set ≡ true)
explorer rs set h =
    let (f, i, e) = any_from (λ f. explores f set) (founds rs) h in
    let (r, j, same) = In-from_map found_of f rs i in
    (r, j, sym (ap (λ x. explores x set) same) ∙ e)

same_kind-refl : (kind : Kind) → same_kind kind kind ≡ true
same_kind-refl OfConflict = refl
same_kind-refl OfCorrection = refl

same_kind-true : (a b : Kind) → same_kind a b ≡ true → a ≡ b
same_kind-true OfConflict OfConflict h = refl
same_kind-true OfCorrection OfCorrection h = refl
same_kind-true OfConflict OfCorrection h = absurd (false≢true h)
same_kind-true OfCorrection OfConflict h = absurd (false≢true h)

and_also-parts : (a b : Bool) → and_also a b ≡ true → (a ≡ true) × (b ≡ true)
and_also-parts true b h = (refl, h)
and_also-parts false b h = absurd (false≢true h)

-- what is held is the kind and the set of some record
held-from : (rs : List Record) (r : Record) (kind : Kind) (set : List ℕ) → In r rs → kind_of r ≡ kind
    → set_of r ≡ set → is_held rs kind set ≡ true
held-from rs r kind set i k s =
    any_at (λ (q : Record). and_also (same_kind (kind_of q) kind) (same_set (set_of q) set)) rs r i
    (ap (λ x. and_also (same_kind x kind) (same_set (set_of r) set)) k
    ∙ ap (λ b. and_also b (same_set (set_of r) set)) (same_kind-refl kind) ∙ (bytes_decides (set_of r) set).1 s)

held-at : (rs : List Record) (kind : Kind) (set : List ℕ) → is_held rs kind set ≡ true
    → (r : Record) × In r rs × (kind_of r ≡ kind) × (set_of r ≡ set)
held-at rs kind set h =
    let (r, i, e) = any_from (λ (q : Record). and_also (same_kind (kind_of q) kind) (same_set (set_of q) set)) rs h in
    let parts = and_also-parts (same_kind (kind_of r) kind) (same_set (set_of r) set) e in
    (r, i, same_kind-true (kind_of r) kind parts.0, (bytes_decides (set_of r) set).0 parts.1)

-- a held conflict is minimal
pub conflict-held : (p : Problem) (rs : List Record) (set : List ℕ) → AllByRecursion (IsRight p) rs
    → is_held rs OfConflict set ≡ true → IsConflict p set
conflict-held p rs set right held =
    let (r, i, k, s) = held-at rs OfConflict set held in
    subst (IsConflict p) s (one r (right_at p rs r right i) k)
  where
    one : (r : Record) → IsRight p r → kind_of r ≡ OfConflict → IsConflict p (set_of r)
    one (Conflict groups proof ws) h k = h.minimal
    one (Correction groups w proofs) h k = absurd (cc)

-- a held correction is minimal
pub correction-held : (p : Problem) (rs : List Record) (set : List ℕ) → AllByRecursion (IsRight p) rs
    → is_held rs OfCorrection set ≡ true → IsCorrection p set
correction-held p rs set right held =
    let (r, i, k, s) = held-at rs OfCorrection set held in
    subst (IsCorrection p) s (one r (right_at p rs r right i) k)
  where
    one : (r : Record) → IsRight p r → kind_of r ≡ OfCorrection → IsCorrection p (set_of r)
    one (Conflict groups proof ws) h k = absurd (cc)
    one (Correction groups w proofs) h k = h.minimal

-- a minimal conflict that is explored is held: no correction explores it, and of the conflicts only itself does
explored_conflict : (p : Problem) (rs : List Record) (set : List ℕ) → AllByRecursion (IsRight p) rs
    → IsGroupSet set
    → IsSubset set (all_groups p.groups) → IsConflict p set → is_explored (founds rs) set ≡ true
    → is_held rs OfConflict set ≡ true
explored_conflict p rs set right is_set within conflict e =
    let (r, i, x) = explorer rs set e in
    let (k, s) = one r (right_at p rs r right i) x in
    held-from rs r OfConflict set i k s
  where
    one : (r : Record) → IsRight p r → explores (found_of r) set ≡ true → (kind_of r ≡ OfConflict) × (set_of r ≡ set)
    one (Conflict part proof ws) h x =
        let minimal = h.minimal in
        let same : part ≡ set =
        elim (same_or_proper part set h.is_set is_set (IsSubset-from_all part set x)) [
          | inl same ↦ same
          | inr proper ↦ absurd (minimal.unsat (conflict.minimal part proper))
        ] in
        (refl, same)
    one (Correction part w proofs) h x =
        absurd (conflict.unsat (decides_at p (Correction part w proofs) set h within x))

-- a minimal correction whose complement is explored is held: no conflict explores the complement, and of the
-- corrections only itself does
explored_correction : (p : Problem) (rs : List Record) (set : List ℕ) → AllByRecursion (IsRight p) rs → IsGroupSet set
    → IsCorrection p set → is_explored (founds rs) (complement p.groups set) ≡ true → is_held rs OfCorrection set ≡ true
explored_correction p rs set right is_set correction e =
    let (r, i, x) = explorer rs (complement p.groups set) e in
    let (k, s) = one r (right_at p rs r right i) x in
    held-from rs r OfCorrection set i k s
  where
    rest : List ℕ
    rest = complement p.groups set

    -- what has no group of the complement is inside
    inside : (part : List ℕ) → IsSubset part (all_groups p.groups) → list_all (λ g. not (has rest g)) part ≡ true
        → IsSubset part set
    inside part within none g h =
        elim (cases_Bool (has set g)) [
          | inl on ↦ on
          | inr out ↦
              let outside : has rest g ≡ true =
              has-complement p.groups set g
              ∙ and_from (not (has set g)) (has (all_groups p.groups) g) (ap not out) (within g h) in
              absurd (false≢true (sym (not_in_both rest part g none outside) ∙ h))
        ]

    one : (r : Record) → IsRight p r → explores (found_of r) rest ≡ true
        → (kind_of r ≡ OfCorrection) × (set_of r ≡ set)
    one (Conflict part proof ws) h x =
        absurd (unsat_above p part rest h.minimal x correction.sat)
    one (Correction part w proofs) h x =
        let minimal = h.minimal in
        let same : part ≡ set =
        elim (same_or_proper part set h.is_set is_set (inside part h.within x)) [
          | inl same ↦ same
          | inr proper ↦ absurd (correction.minimal part proper minimal.sat)
        ] in
        (refl, same)

-- where each set is explored, each minimal conflict and each minimal correction is held
pub all_held : (p : Problem) (rs : List Record) (set : List ℕ) → AllByRecursion (IsRight p) rs
    → AllExplored p.groups (founds rs) → IsGroupSet set → IsSubset set (all_groups p.groups)
    → (IsConflict p set → is_held rs OfConflict set ≡ true) × (IsCorrection p set → is_held rs OfCorrection set ≡ true)
all_held p rs set right all is_set within = (
  λ conflict. explored_conflict p rs set right is_set within conflict (all.explored set is_set within),
  λ correction.
      explored_correction p rs set right is_set correction
      (all.explored rest (IsGroupSet-complement p.groups set rest refl) rest_within),
)
  where
    rest : List ℕ
    rest = complement p.groups set

    rest_within : IsSubset rest (all_groups p.groups)
    rest_within g h =
        (and_parts (not (has set g)) (has (all_groups p.groups) g) (sym (has-complement p.groups set g) ∙ h)).1

-- where each set is explored, each right record's set is held under its kind
pub held_at_end : (p : Problem) (rs : List Record) (r : Record) → AllByRecursion (IsRight p) rs
    → AllExplored p.groups (founds rs) → IsRight p r → is_held rs (kind_of r) (set_of r) ≡ true
held_at_end p rs (Conflict set proof ws) right all h =
    (all_held p rs set right all h.is_set h.within).0 h.minimal
held_at_end p rs (Correction set w proofs) right all h =
    (all_held p rs set right all h.is_set h.within).1 h.minimal

-- in a model all block clauses are true, over the groups
good_blocks : (groups : ℕ) (assign : List Bool) (found : List Found) (from : ℕ) → AreWithin groups found
    → is_model found assign ≡ true → AllGood groups assign (numbered from (map block_clause found))
good_blocks groups assign [] from within model = tt
good_blocks groups assign (f ∷ fs) from within model =
    let parts = and_parts (clause_true assign (block_clause f)) (is_model fs assign) model in (
      (parts.0, λ l i. block_clause-literal groups f l (within f (inl refl)) i),
      good_blocks groups assign fs (from + 1) (λ g i. within g (inr i)) parts.1,
    )

-- the empty clause is in no assignment true
pub all_explored-shown : (groups : ℕ) (found : List Found) (d : Derivation) → AreWithin groups found
    → shows_all_explored groups found d ≡ true → AllExplored groups found
all_explored-shown groups found d within shown =
    all_explored-no_model groups found within
    (λ assign len.
    false_from_ne_true (is_model found assign)
    (λ model.
    let (l, allowed, rest, over) = derives-sound groups assign (map block_clause found) d (λ l. false) (good_blocks groups assign found 1 within model) shown in
    false≢true allowed))

within_of : (p : Problem) (earlier rs : List Record) → AllAcceptedBehind p earlier rs → AreWithin p.groups (founds rs)
within_of p earlier [] all f i = absurd i
within_of p earlier (r ∷ rs) all f (inl e) = subst (λ (g : Found). IsSubset g.set (all_groups p.groups)) (sym e) all.0.within
within_of p earlier (r ∷ rs) all f (inr i) = within_of p (earlier ++ r ∷ []) rs all.1 f i

-- a closing derivation over the block clauses of accepted records shows that each set is explored
pub closing-explores : (p : Problem) (rs : List Record) (d : Derivation) → AllAccepted p rs
    → shows_all_explored p.groups (founds rs) d ≡ true → AllExplored p.groups (founds rs)
closing-explores p rs d all shown = all_explored-shown p.groups (founds rs) d (within_of p [] rs all) shown

pub explored-holds_all : (p : Problem) (rs : List Record) → IsProblem p → AllAccepted p rs
    → AllExplored p.groups (founds rs) → HoldsAll p rs
explored-holds_all p rs ok accepted all =
    let right = accepted-right p rs ok accepted in
    record {
      conflicts = λ set is_set within. (all_held p rs set right all is_set within).0;
      corrections = λ set is_set within. (all_held p rs set right all is_set within).1;
    }
