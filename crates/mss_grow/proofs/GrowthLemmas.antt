-- Lemmas on growing sets.
use Rattle.std.proofs.Common.{◌≡◌, ◌⊎◌, ℕ, zero, suc, ◌<◌, Bool, true, false, not, ◌&&◌, ◌||◌, cond, List, [], ◌∷◌, ◌++◌, length, take, get_or, refl, sym, ◌∙◌, ap, ap₂, subst, inl, inr, arith, eqb, append-nil}
use Rattle.std.proofs.lemmas.Bool.{false≢true, and_parts, and_from, or_cases, or_left, or_right, or_parts, or_from, not-true, cond-true, cond-false, cases_Bool, eqb-true, eq-eqb, false_from_ne_true}
use Rattle.std.proofs.lemmas.List.Elements.{filter-append}
use Rattle.std.proofs.lemmas.List.Folds.{list_any-append}
use Rattle.gm_base.specs.declared.clause.Clause.{Clause}
use Rattle.gm_base.specs.Sets.{AscendsAbove, has, IsSubset, without, with_group, all_groups, complement}
use Rattle.sat_base.specs.Derivation.{Derivation}
use Rattle.sat_base.specs.Literals.{clause_true}
use Rattle.gm_base.specs.Problem.{Problem, satisfies, is_present}
use Rattle.gm_base.specs.Index.{group_true}
use Rattle.gm_base.specs.Evidence.{refutes, is_witness, each_passes}
use Rattle.evidence_rec.specs.declared.record.Refutation.{Refutation}
use Rattle.evidence_rec.specs.declared.record.Refutation.TheVariants.{Steps, Earlier}
use Rattle.evidence_rec.specs.Records.{shows_refuted, AcceptsCorrection}
use Rattle.sat_base.proofs.Members.{all_at, all_from}
use Rattle.gm_base.proofs.SetLemmas.{has-without, has-complement-parts, has-complement-from, complement_twice-IsSubset, IsGroupSet-complement, AscendsAbove-at}
use Rattle.evidence_rec.proofs.WithLemmas.{has-with_group, with_group-itself, with_group-cases, IsSubset-with_group}
use Rattle.evidence_rec.proofs.EvidenceLemmas.{is_witness-subset, each_passes-push, length-each_passes}
use Rattle.evidence_rec.proofs.RefutesLemmas.{refutes-subset}
use Rattle.mss_grow.specs.declared.growth.Growth.{Growth}
use Rattle.mss_grow.specs.Growth.{is_derivation_of, IsGrowth, left_out}

-- Groups of lists

append-cases : (xs ys : List ℕ) (g : ℕ) → has (xs ++ ys) g ≡ true → (has xs g ≡ true) ⊎ (has ys g ≡ true)
append-cases xs ys g inside = or_cases (has xs g) (has ys g) (sym (list_any-append (λ h. eqb h g) xs ys) ∙ inside)

in-front : (xs ys : List ℕ) (g : ℕ) → has xs g ≡ true → has (xs ++ ys) g ≡ true
in-front xs ys g inside = list_any-append (λ h. eqb h g) xs ys ∙ or_left (has xs g) (has ys g) inside

in-back : (xs ys : List ℕ) (g : ℕ) → has ys g ≡ true → has (xs ++ ys) g ≡ true
in-back xs ys g inside = list_any-append (λ h. eqb h g) xs ys ∙ or_right (has xs g) (has ys g) inside

has-take : (i : ℕ) (xs : List ℕ) (g : ℕ) → has (take i xs) g ≡ true → has xs g ≡ true
has-take zero xs g inside = absurd (false≢true inside)
has-take (suc i) [] g inside = inside
has-take (suc i) (x ∷ xs) g inside =
    elim (or_cases (eqb x g) (has (take i xs) g) inside) [
      | inl first ↦ or_left (eqb x g) (has xs g) first
      | inr later ↦ or_right (eqb x g) (has xs g) (has-take i xs g later)
    ]

pub has-at : (xs : List ℕ) (i : ℕ) → i < length xs → has xs (get_or xs i 0) ≡ true
has-at [] i lt = absurd (omega arith)
has-at (x ∷ xs) zero lt = or_left (eqb x x) (has xs x) (eq-eqb x x refl)
has-at (x ∷ xs) (suc i) lt = or_right (eqb x (get_or xs i 0)) (has xs (get_or xs i 0)) (has-at xs i (omega arith))

-- an ascending list has none of its numbers twice
pub fresh : (low : ℕ) (xs : List ℕ) (i : ℕ) → AscendsAbove low xs → i < length xs → has (take i xs) (get_or xs i 0) ≡ false
fresh low [] i ascends lt = absurd (omega arith)
fresh low (x ∷ xs) zero ascends lt = refl
fresh low (x ∷ xs) (suc i) ascends lt =
    let g = get_or xs i 0 in
    let below : x < g = AscendsAbove-at x xs i ascends.1 (omega arith) in
    or_from (eqb x g) (has (take i xs) g) (false_from_ne_true (eqb x g) (λ e. let same : x ≡ g = eqb-true x g e in absurd (omega arith)))
    (fresh x xs i ascends.1 (omega arith))

-- Groups that an assignment satisfies

satisfies-group : (p : Problem) (set : List ℕ) (assign : List Bool) (g : ℕ) → satisfies p set assign ≡ true → group_true p.clauses assign g ≡ true → satisfies p (g ∷ set) assign ≡ true
satisfies-group p set assign g held made =
    all_from (λ c. not (is_present (g ∷ set) c) || clause_true assign c.lits) p.clauses
    (λ c i.
    elim (or_cases (not (is_present set c)) (clause_true assign c.lits) (all_at (λ d. not (is_present set d) || clause_true assign d.lits) p.clauses c held i)) [
      | inr made_true ↦ or_right (not (is_present (g ∷ set) c)) (clause_true assign c.lits) made_true
      | inl absent ↦
          elim (or_cases (not (eqb c.group g)) (clause_true assign c.lits) (all_at (λ d. not (eqb d.group g) || clause_true assign d.lits) p.clauses c made i)) [
            | inr made_true ↦ or_right (not (is_present (g ∷ set) c)) (clause_true assign c.lits) made_true
            | inl other ↦ or_left (not (is_present (g ∷ set) c)) (clause_true assign c.lits) (ap not (still c (not-true (is_present set c) absent) (not-true (eqb c.group g) other)))
          ]
    ])
  where
    still : (c : Clause) → is_present set c ≡ false → eqb c.group g ≡ false → is_present (g ∷ set) c ≡ false
    still c absent other =
        false_from_ne_true (is_present (g ∷ set) c)
        (λ present.
        elim (or_cases (eqb c.group 0) (has (g ∷ set) c.group) present) [
          | inl background ↦ false≢true (sym absent ∙ or_left (eqb c.group 0) (has set c.group) background)
          | inr inside ↦
              elim (or_cases (eqb g c.group) (has set c.group) inside) [
                | inl same ↦ false≢true (sym other ∙ eq-eqb c.group g (sym (eqb-true g c.group same)))
                | inr before ↦ false≢true (sym absent ∙ or_right (eqb c.group 0) (has set c.group) before)
              ]
        ])

is_witness-group : (p : Problem) (set : List ℕ) (w : List Bool) (g : ℕ) → is_witness p set w ≡ true → group_true p.clauses w g ≡ true → is_witness p (g ∷ set) w ≡ true
is_witness-group p set w g held made =
    let parts = and_parts (eqb (length w) p.vars) (satisfies p set w) held in
    and_from (eqb (length w) p.vars) (satisfies p (g ∷ set) w) parts.0 (satisfies-group p set w g parts.1 made)

-- the set at hand may have a group that the assignment makes true
pub is_witness-with_group : (p : Problem) (set : List ℕ) (w : List Bool) (g : ℕ) → is_witness p set w ≡ true → group_true p.clauses w g ≡ true → is_witness p (with_group set g) w ≡ true
is_witness-with_group p set w g held made =
    is_witness-subset p (with_group set g) (g ∷ set) w (λ h i. sym (has-with_group set g h) ∙ i) (is_witness-group p set w g held made)

pub length-witness : (p : Problem) (set : List ℕ) (w : List Bool) → is_witness p set w ≡ true → length w ≡ p.vars
length-witness p set w h = eqb-true (length w) p.vars (and_parts (eqb (length w) p.vars) (satisfies p set w) h).0

-- The groups left out, and their proofs

each_passes-weaken : {X : Type 0} (test wider : ℕ → X → Bool) (gs : List ℕ) (xs : List X) → ((g : ℕ) (x : X) → has gs g ≡ true → test g x ≡ true → wider g x ≡ true)
    → each_passes test gs xs ≡ true → each_passes wider gs xs ≡ true
each_passes-weaken test wider [] [] weaker h = refl
each_passes-weaken test wider [] (x ∷ xs) weaker h = absurd (false≢true h)
each_passes-weaken test wider (g ∷ gs) [] weaker h = absurd (false≢true h)
each_passes-weaken test wider (g ∷ gs) (x ∷ xs) weaker h =
    let parts = and_parts (test g x) (each_passes test gs xs) h in
    and_from (wider g x) (each_passes wider gs xs) (weaker g x (or_left (eqb g g) (has gs g) (eq-eqb g g refl)) parts.0)
    (each_passes-weaken test wider gs xs (λ k y i. weaker k y (or_right (eqb g k) (has gs k) i)) parts.1)

with-subset : (small large : List ℕ) (g : ℕ) → IsSubset small large → IsSubset (g ∷ small) (g ∷ large)
with-subset small large g sub h inside =
    elim (or_cases (eqb g h) (has small h) inside) [
      | inl same ↦ or_left (eqb g h) (has large h) same
      | inr before ↦ or_right (eqb g h) (has large h) (sub h before)
    ]

-- what stands for a smaller set stands for a larger one
proofs-serve : (p : Problem) (small large out : List ℕ) (proofs : List Refutation) → IsSubset small large → each_passes (λ g r. is_derivation_of p (g ∷ small) r) out proofs ≡ true
    → each_passes (λ g r. is_derivation_of p (g ∷ large) r) out proofs ≡ true
proofs-serve p small large out proofs sub h =
    each_passes-weaken (λ g r. is_derivation_of p (g ∷ small) r) (λ g r. is_derivation_of p (g ∷ large) r) out proofs
    (λ g r _ ok. one g r ok) h
  where
    one : (g : ℕ) (r : Refutation) → is_derivation_of p (g ∷ small) r ≡ true → is_derivation_of p (g ∷ large) r ≡ true
    one g (Steps d) ok = refutes-subset p (g ∷ small) (g ∷ large) d (with-subset small large g sub) ok
    one g (Earlier i) ok = absurd (false≢true ok)

left_out-still : (set passed : List ℕ) (g : ℕ) → has passed g ≡ false → left_out (with_group set g) passed ≡ left_out set passed
left_out-still set [] g out = refl
left_out-still set (x ∷ xs) g out =
    let parts = or_parts (eqb x g) (has xs g) out in
    let other : eqb g x ≡ false = false_from_ne_true (eqb g x) (λ e. false≢true (sym parts.0 ∙ eq-eqb x g (sym (eqb-true g x e)))) in
    let same : has (with_group set g) x ≡ has set x = has-with_group set g x ∙ ap (λ e. e || has set x) other in
    ap₂ (λ (b : Bool) (rest : List ℕ). cond (not b) (x ∷ rest) rest) same (left_out-still set xs g parts.1)

-- a group that is put into the set is not left out
left_out-with : (set passed : List ℕ) (g : ℕ) → has passed g ≡ false → left_out (with_group set g) (passed ++ g ∷ []) ≡ left_out set passed
left_out-with set passed g out =
    let more = with_group set g in
    filter-append (λ h. not (has more h)) passed (g ∷ [])
    ∙ ap (λ gs. left_out more passed ++ gs) (cond-false (not (has more g)) (g ∷ []) [] (ap not (with_group-itself set g)))
    ∙ append-nil (left_out more passed) ∙ left_out-still set passed g out

left_out-more : (set passed : List ℕ) (g : ℕ) → has set g ≡ false → left_out set (passed ++ g ∷ []) ≡ left_out set passed ++ g ∷ []
left_out-more set passed g out =
    filter-append (λ h. not (has set h)) passed (g ∷ []) ∙ ap (λ gs. left_out set passed ++ gs) (cond-true (not (has set g)) (g ∷ []) [] (ap not out))

-- those left out of a larger set are left out of a smaller one
pub left_out-twice : (small large : List ℕ) → IsSubset small large → (gs : List ℕ) → left_out large (left_out small gs) ≡ left_out large gs
left_out-twice small large sub [] = refl
left_out-twice small large sub (g ∷ gs) =
    elim (cases_Bool (has small g)) [
      | inl inside ↦
          ap (left_out large) (cond-false (not (has small g)) (g ∷ left_out small gs) (left_out small gs) (ap not inside))
          ∙ left_out-twice small large sub gs ∙ sym (cond-false (not (has large g)) (g ∷ left_out large gs) (left_out large gs) (ap not (sub g inside)))
      | inr out ↦
          ap (left_out large) (cond-true (not (has small g)) (g ∷ left_out small gs) (left_out small gs) (ap not out))
          ∙ ap (λ (rest : List ℕ). cond (not (has large g)) (g ∷ rest) rest) (left_out-twice small large sub gs)
    ]

-- Steps

more-passed : (set passed : List ℕ) (g : ℕ) → IsSubset (set ++ passed) (set ++ (passed ++ g ∷ []))
more-passed set passed g h inside =
    elim (append-cases set passed h inside) [
      | inl given ↦ in-front set (passed ++ g ∷ []) h given
      | inr before ↦ in-back set (passed ++ g ∷ []) h (in-front passed (g ∷ []) h before)
    ]

-- the group goes together with the set at hand
pub put_in : (p : Problem) (set passed : List ℕ) (old : Growth) (g : ℕ) (w : List Bool) → has passed g ≡ false → IsGrowth p set passed old
    → is_witness p (with_group old.set g) w ≡ true → IsGrowth p set (passed ++ g ∷ []) (record { set = with_group old.set g; witness = w; proofs = old.proofs })
put_in p set passed old g w not_passed h witnessed =
    let more = with_group old.set g in
    record {
      given = λ k i. IsSubset-with_group old.set g k (h.given k i);
      within = λ k i.
          elim (with_group-cases old.set g k i) [
            | inl same ↦ in-back set (passed ++ g ∷ []) k (in-back passed (g ∷ []) k (or_left (eqb g k) false (eq-eqb g k same)))
            | inr before ↦ more-passed set passed g k (h.within k before)
          ];
      witnessed = witnessed;
      refuted =
          subst (λ out. each_passes (λ k r. is_derivation_of p (k ∷ more) r) out old.proofs ≡ true) (sym (left_out-with old.set passed g not_passed))
          (proofs-serve p old.set more (left_out old.set passed) old.proofs (IsSubset-with_group old.set g) h.refuted);
    }

-- it does not
pub leave : (p : Problem) (set passed core : List ℕ) (old : Growth) (g : ℕ) (proof : Derivation) → has set g ≡ false → has passed g ≡ false → IsGrowth p set passed old
    → IsSubset core (with_group old.set g) → refutes p core proof ≡ true
    → IsGrowth p set (passed ++ g ∷ []) (record { set = old.set; witness = old.witness; proofs = old.proofs ++ Steps proof ∷ [] })
leave p set passed core old g proof not_given not_passed h sub refuted =
    let out : has old.set g ≡ false =
    false_from_ne_true (has old.set g) (λ i. elim (append-cases set passed g (h.within g i)) [
      | inl given ↦ false≢true (sym not_given ∙ given)
      | inr before ↦ false≢true (sym not_passed ∙ before)
    ]) in
    record {
      given = h.given;
      within = λ k i. more-passed set passed g k (h.within k i);
      witnessed = h.witnessed;
      refuted =
          subst (λ gs. each_passes (λ k r. is_derivation_of p (k ∷ old.set) r) gs (old.proofs ++ Steps proof ∷ []) ≡ true) (sym (left_out-more old.set passed g out))
          (each_passes-push (λ k r. is_derivation_of p (k ∷ old.set) r) (left_out old.set passed) old.proofs g (Steps proof) h.refuted
          (refutes-subset p core (g ∷ old.set) proof (λ k i. sym (has-with_group old.set g k) ∙ sub k i) refuted));
    }

-- what is asked about
pub asked-within : (groups : ℕ) (set items large : List ℕ) (i : ℕ) → IsSubset set (all_groups groups) → items ≡ complement groups set → i < length items
    → IsSubset large (set ++ take i items) → IsSubset (with_group large (get_or items i 0)) (all_groups groups)
asked-within groups set items large i within is lt sub h inside =
    elim (with_group-cases large (get_or items i 0) h inside) [
      | inl same ↦ outside h (subst (λ g. has items g ≡ true) same (has-at items i lt))
      | inr before ↦
          elim (append-cases set (take i items) h (sub h before)) [
            | inl given ↦ within h given
            | inr passed ↦ outside h (has-take i items h passed)
          ]
    ]
  where
    outside : (g : ℕ) → has items g ≡ true → has (all_groups groups) g ≡ true
    outside g here = (has-complement-parts groups set g (subst (λ gs. has gs g ≡ true) is here)).1

-- a group outside of the given set is not in it
pub not-given : (groups : ℕ) (set items : List ℕ) (i : ℕ) → items ≡ complement groups set → i < length items → has set (get_or items i 0) ≡ false
not-given groups set items i is lt = (has-complement-parts groups set (get_or items i 0) (subst (λ gs. has gs (get_or items i 0) ≡ true) is (has-at items i lt))).0

-- The end

-- a group left out, and the set at hand, are in what is put together for its proof
with-rest : (groups : ℕ) (set : List ℕ) (g : ℕ) → IsSubset set (all_groups groups) → has (complement groups set) g ≡ true
    → IsSubset (g ∷ set) (complement groups (without (complement groups set) g))
with-rest groups set g within left k inside =
    let out = complement groups set in
    elim (or_cases (eqb g k) (has set k) inside) [
      | inl first ↦
          let same : g ≡ k = eqb-true g k first in
          has-complement-from groups (without out g) k (subst (λ m. has (all_groups groups) m ≡ true) same (has-complement-parts groups set g left).1)
          (has-without out g k ∙ ap (λ b. not b && has out k) (eq-eqb k g (sym same)))
      | inr here ↦
          has-complement-from groups (without out g) k (within k here)
          (false_from_ne_true (has (without out g) k)
          (λ i.
          let still = (and_parts (not (eqb k g)) (has out k) (sym (has-without out g k) ∙ i)).1 in
          false≢true (sym (has-complement-parts groups set k still).0 ∙ here)))
    ]

refuted-at_end : (p : Problem) (set : List ℕ) (growth : Growth) → IsGrowth p set (complement p.groups set) growth
    → each_passes (λ g r. is_derivation_of p (g ∷ growth.set) r) (complement p.groups growth.set) growth.proofs ≡ true
refuted-at_end p set growth h =
    subst (λ gs. each_passes (λ g r. is_derivation_of p (g ∷ growth.set) r) gs growth.proofs ≡ true) (left_out-twice set growth.set h.given (all_groups p.groups)) h.refuted

pub AcceptsCorrection-from_growth : (p : Problem) (set out : List ℕ) (growth : Growth) → IsGrowth p set (complement p.groups set) growth → IsSubset set (all_groups p.groups)
    → out ≡ complement p.groups growth.set → AcceptsCorrection p [] out growth.witness growth.proofs
AcceptsCorrection-from_growth p set out growth h sub is =
    let left = complement p.groups growth.set in
    let within : IsSubset growth.set (all_groups p.groups) =
    λ k i. elim (append-cases set (complement p.groups set) k (h.within k i)) [
      | inl given ↦ sub k given
      | inr passed ↦ (has-complement-parts p.groups set k passed).1
    ] in
    subst (λ gs. AcceptsCorrection p [] gs growth.witness growth.proofs) (sym is)
    (record {
      is_set = IsGroupSet-complement p.groups growth.set left refl;
      witnessed = is_witness-subset p (complement p.groups left) growth.set growth.witness (complement_twice-IsSubset p.groups growth.set) h.witnessed;
      refuted =
          each_passes-weaken (λ g r. is_derivation_of p (g ∷ growth.set) r) (shows_refuted p [] left) left growth.proofs
          (λ g r here ok. shown g r (with-rest p.groups growth.set g within here) ok)
          (refuted-at_end p set growth h);
    })
  where
    shown : (g : ℕ) (r : Refutation) → IsSubset (g ∷ growth.set) (complement p.groups (without (complement p.groups growth.set) g))
        → is_derivation_of p (g ∷ growth.set) r ≡ true → shows_refuted p [] (complement p.groups growth.set) g r ≡ true
    shown g (Steps d) sub ok = refutes-subset p (g ∷ growth.set) (complement p.groups (without (complement p.groups growth.set) g)) d sub ok
    shown g (Earlier i) sub ok = absurd (false≢true ok)

pub IsShaped-from_growth : (p : Problem) (set out : List ℕ) (growth : Growth) → IsGrowth p set (complement p.groups set) growth → out ≡ complement p.groups growth.set
    → (length growth.witness ≡ p.vars) × (length growth.proofs ≡ length out)
IsShaped-from_growth p set out growth h is = (
  length-witness p growth.set growth.witness h.witnessed,
  length-each_passes (λ g r. is_derivation_of p (g ∷ growth.set) r) (complement p.groups growth.set) growth.proofs (refuted-at_end p set growth h) ∙ ap length (sym is),
)

pub outside-given : (p : Problem) (set out passed : List ℕ) (growth : Growth) → IsGrowth p set passed growth → out ≡ complement p.groups growth.set
    → (g : ℕ) → has out g ≡ true → has set g ≡ false
outside-given p set out passed growth h is g left =
    let out_of = (has-complement-parts p.groups growth.set g (subst (λ gs. has gs g ≡ true) is left)).0 in
    false_from_ne_true (has set g) (λ i. false≢true (sym out_of ∙ h.given g i))
