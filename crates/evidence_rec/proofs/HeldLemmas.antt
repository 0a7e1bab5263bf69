-- The sets of accepted records: each once, all minimal, and just those that are held.
use Rattle.std.proofs.Common.{◌≡◌, ℕ, ◌+◌, ◌<◌, Bool, true, false, ◌||◌, List, [], ◌∷◌, ◌++◌, length, take, get_or, refl, sym, ◌∙◌, ap, subst, inl, inr, arith, append_assoc, append-nil}
use Rattle.std.specs.List.{filter, AllByRecursion}
use Rattle.std.proofs.lemmas.List.{take_more}
use Rattle.std.proofs.lemmas.Bool.{false≢true, or_cases, or_left, or_right}
use Rattle.gm_base.specs.Sets.{subsets}
use Rattle.sat_base.specs.Members.{In}
use Rattle.gm_base.specs.Problem.{Problem, IsProblem}
use Rattle.gm_base.specs.Minimal.{is_conflict, is_correction, conflicts, corrections}
use Rattle.gm_base.specs.declared.kind.Kind.{Kind}
use Rattle.gm_base.specs.declared.kind.Kind.TheVariants as kinds
use Rattle.gm_base.proofs.TestLemmas.{IsConflict-from_test, test-from_IsConflict, IsCorrection-from_test, test-from_IsCorrection}
use Rattle.evidence_rec.specs.declared.record.Record.{Record}
use Rattle.evidence_rec.specs.declared.record.Record.TheVariants.{Conflict, Correction}
use Rattle.evidence_rec.specs.Records.{kind_of, set_of, AllAccepted, IsRight, IsMinimal}
use Rattle.evidence_rec.proofs.AcceptedLemmas.{accepted-right}
use Rattle.evidence_rec.specs.Held.{is_held, same_set, AreNew, conflicts_in, corrections_in, HoldsAll, AreExactlyAll}
use Rattle.evidence_rec.proofs.SetListLemmas.{same-refl, same-is, IsDistinct, SameSets, IsDistinct-push, distinct-filter, distinct-filter_subsets, In-filter, filter-In, In-subsets, subsets-In, SameSets-from_distinct, filter-all, IsPermutation-same}

-- the sets of one kind that the records are about, and all minimal sets of one kind
abbrev pub sets_in : Kind → List Record → List (List ℕ)
sets_in kinds.Conflict records = conflicts_in records
sets_in kinds.Correction records = corrections_in records

abbrev pub minimal_sets : Kind → Problem → List (List ℕ)
minimal_sets kinds.Conflict p = conflicts p
minimal_sets kinds.Correction p = corrections p

-- the sets of a kind are those that are held
same_or_later : (set s : List ℕ) (later : Bool) (rest : List (List ℕ)) → same_set set s || later ≡ true
    → (later ≡ true → In s rest) → In s (set ∷ rest)
same_or_later set s later rest h behind =
    elim (or_cases (same_set set s) later h) [ inl here ↦ inl (sym (same-is set s here)) | inr there ↦ inr (behind there) ]

pub held-In : (kind : Kind) (records : List Record) (s : List ℕ) → is_held records kind s ≡ true
    → In s (sets_in kind records)
held-In kind [] s h = absurd (false≢true h)
held-In kinds.Conflict (Conflict set proof witnesses ∷ rs) s h =
    same_or_later set s (is_held rs kinds.Conflict s) (conflicts_in rs) h (held-In kinds.Conflict rs s)
held-In kinds.Conflict (Correction set witness proofs ∷ rs) s h = held-In kinds.Conflict rs s h
held-In kinds.Correction (Conflict set proof witnesses ∷ rs) s h = held-In kinds.Correction rs s h
held-In kinds.Correction (Correction set witness proofs ∷ rs) s h =
    same_or_later set s (is_held rs kinds.Correction s) (corrections_in rs) h (held-In kinds.Correction rs s)

first_or_later : (set s : List ℕ) (later : Bool) (rest : List (List ℕ)) → In s (set ∷ rest)
    → (In s rest → later ≡ true) → same_set set s || later ≡ true
first_or_later set s later rest (inl e) behind = or_left (same_set set s) later (ap (same_set set) e ∙ same-refl set)
first_or_later set s later rest (inr i) behind = or_right (same_set set s) later (behind i)

pub In-held : (kind : Kind) (records : List Record) (s : List ℕ) → In s (sets_in kind records)
    → is_held records kind s ≡ true
In-held kinds.Conflict [] s i = absurd i
In-held kinds.Correction [] s i = absurd i
In-held kinds.Conflict (Conflict set proof witnesses ∷ rs) s i =
    first_or_later set s (is_held rs kinds.Conflict s) (conflicts_in rs) i (In-held kinds.Conflict rs s)
In-held kinds.Conflict (Correction set witness proofs ∷ rs) s i = In-held kinds.Conflict rs s i
In-held kinds.Correction (Conflict set proof witnesses ∷ rs) s i = In-held kinds.Correction rs s i
In-held kinds.Correction (Correction set witness proofs ∷ rs) s i =
    first_or_later set s (is_held rs kinds.Correction s) (corrections_in rs) i (In-held kinds.Correction rs s)

-- the sets of records, with one more
pub sets_in-push : (kind : Kind) (records : List Record) (r : Record)
    → sets_in kind (records ++ r ∷ []) ≡ sets_in kind records ++ sets_in kind (r ∷ [])
sets_in-push kinds.Conflict [] r = refl
sets_in-push kinds.Correction [] r = refl
sets_in-push kinds.Conflict (Conflict set proof witnesses ∷ rs) r = ap (λ sets. set ∷ sets) (sets_in-push kinds.Conflict rs r)
sets_in-push kinds.Conflict (Correction set witness proofs ∷ rs) r = sets_in-push kinds.Conflict rs r
sets_in-push kinds.Correction (Conflict set proof witnesses ∷ rs) r = sets_in-push kinds.Correction rs r
sets_in-push kinds.Correction (Correction set witness proofs ∷ rs) r = ap (λ sets. set ∷ sets) (sets_in-push kinds.Correction rs r)

-- the sets of the first records, with one more, whose kind says where its set goes
pub sets_in-take : (kind : Kind) (records : List Record) (i : ℕ) (r : Record) → i < length records
    → get_or records i r ≡ r
    → sets_in kind (take (i + 1) records) ≡ sets_in kind (take i records) ++ sets_in kind (r ∷ [])
sets_in-take kind records i r lt is =
    ap (sets_in kind) (take_more records i r lt ∙ ap (λ x. take i records ++ x ∷ []) is) ∙ sets_in-push kind (take i records) r

conflict-alone : (r : Record) → kind_of r ≡ kinds.Conflict
    → (conflicts_in (r ∷ []) ≡ set_of r ∷ []) × (corrections_in (r ∷ []) ≡ [])
conflict-alone (Conflict set proof witnesses) k = (refl, refl)
conflict-alone (Correction set witness proofs) k = cc

correction-alone : (r : Record) → kind_of r ≡ kinds.Correction
    → (conflicts_in (r ∷ []) ≡ []) × (corrections_in (r ∷ []) ≡ set_of r ∷ [])
correction-alone (Conflict set proof witnesses) k = cc
correction-alone (Correction set witness proofs) k = (refl, refl)

pub conflict-next : (records : List Record) (i : ℕ) (r : Record) → i < length records → get_or records i r ≡ r
    → kind_of r ≡ kinds.Conflict
    → (conflicts_in (take (i + 1) records) ≡ conflicts_in (take i records) ++ set_of r ∷ []) × (corrections_in (take (i + 1) records) ≡ corrections_in (take i records))
conflict-next records i r lt is k =
    let (us, ms) = conflict-alone r k in (
      sets_in-take kinds.Conflict records i r lt is ∙ ap (λ sets. conflicts_in (take i records) ++ sets) us,
      sets_in-take kinds.Correction records i r lt is ∙ ap (λ sets. corrections_in (take i records) ++ sets) ms ∙ append-nil (corrections_in (take i records)),
    )

pub correction-next : (records : List Record) (i : ℕ) (r : Record) → i < length records → get_or records i r ≡ r
    → kind_of r ≡ kinds.Correction
    → (conflicts_in (take (i + 1) records) ≡ conflicts_in (take i records)) × (corrections_in (take (i + 1) records) ≡ corrections_in (take i records) ++ set_of r ∷ [])
correction-next records i r lt is k =
    let (us, ms) = correction-alone r k in (
      sets_in-take kinds.Conflict records i r lt is ∙ ap (λ sets. conflicts_in (take i records) ++ sets) us ∙ append-nil (conflicts_in (take i records)),
      sets_in-take kinds.Correction records i r lt is ∙ ap (λ sets. corrections_in (take i records) ++ sets) ms,
    )

-- a record that is new adds no set that is there
distinct-push : (kind : Kind) (records : List Record) (r : Record) → is_held records (kind_of r) (set_of r) ≡ false
    → IsDistinct (sets_in kind records)
    → IsDistinct (sets_in kind (records ++ r ∷ []))
distinct-push kinds.Conflict rs (Conflict set proof witnesses) new distinct =
    IsDistinct-push (conflicts_in rs) (conflicts_in (rs ++ Conflict set proof witnesses ∷ [])) set distinct
    (λ i. false≢true (sym new ∙ In-held kinds.Conflict rs set i)) (sets_in-push kinds.Conflict rs (Conflict set proof witnesses))
distinct-push kinds.Conflict rs (Correction set witness proofs) new distinct =
    subst IsDistinct (sym (sets_in-push kinds.Conflict rs (Correction set witness proofs) ∙ append-nil (conflicts_in rs))) distinct
distinct-push kinds.Correction rs (Conflict set proof witnesses) new distinct =
    subst IsDistinct (sym (sets_in-push kinds.Correction rs (Conflict set proof witnesses) ∙ append-nil (corrections_in rs))) distinct
distinct-push kinds.Correction rs (Correction set witness proofs) new distinct =
    IsDistinct-push (corrections_in rs) (corrections_in (rs ++ Correction set witness proofs ∷ [])) set distinct
    (λ i. false≢true (sym new ∙ In-held kinds.Correction rs set i)) (sets_in-push kinds.Correction rs (Correction set witness proofs))

distinct-behind : (kind : Kind) (earlier records : List Record) → AreNew earlier records
    → IsDistinct (sets_in kind earlier) → IsDistinct (sets_in kind (earlier ++ records))
distinct-behind kind earlier [] new distinct = subst (λ rs. IsDistinct (sets_in kind rs)) (sym (append-nil earlier)) distinct
distinct-behind kind earlier (r ∷ rs) new distinct =
    subst (λ all. IsDistinct (sets_in kind all)) (append_assoc earlier (r ∷ []) rs)
    (distinct-behind kind (earlier ++ r ∷ []) rs new.1 (distinct-push kind earlier r new.0 distinct))

pub distinct-sets_in : (kind : Kind) (records : List Record) → AreNew [] records → IsDistinct (sets_in kind records)
distinct-sets_in kind records new = distinct-behind kind [] records new (none kind)
  where
    none : (kind : Kind) → IsDistinct (sets_in kind [])
    none kinds.Conflict s = omega arith
    none kinds.Correction s = omega arith

-- the set of a right record is among all minimal sets of its kind
among : (p : Problem) (r : Record) → IsRight p r → In (set_of r) (minimal_sets (kind_of r) p)
unfolding conflicts corrections
among p (Conflict set proof witnesses) h =
    In-filter (is_conflict p) set (subsets p.groups) (In-subsets p.groups set h.is_set h.within) (test-from_IsConflict p set h.is_set h.minimal)
among p (Correction set witness proofs) h =
    In-filter (is_correction p) set (subsets p.groups) (In-subsets p.groups set h.is_set h.within) (test-from_IsCorrection p set h.is_set h.minimal)

pub In-minimal_sets : (p : Problem) (kind : Kind) (records : List Record) (s : List ℕ)
    → AllByRecursion (IsRight p) records
    → In s (sets_in kind records) → In s (minimal_sets kind p)
In-minimal_sets p kinds.Conflict [] s all i = absurd i
In-minimal_sets p kinds.Correction [] s all i = absurd i
In-minimal_sets p kinds.Conflict (Conflict set proof witnesses ∷ rs) s all (inl e) =
    subst (λ t. In t (conflicts p)) (sym e) (among p (Conflict set proof witnesses) all.0)
In-minimal_sets p kinds.Conflict (Conflict set proof witnesses ∷ rs) s all (inr i) = In-minimal_sets p kinds.Conflict rs s all.1 i
In-minimal_sets p kinds.Conflict (Correction set witness proofs ∷ rs) s all i = In-minimal_sets p kinds.Conflict rs s all.1 i
In-minimal_sets p kinds.Correction (Conflict set proof witnesses ∷ rs) s all i = In-minimal_sets p kinds.Correction rs s all.1 i
In-minimal_sets p kinds.Correction (Correction set witness proofs ∷ rs) s all (inl e) =
    subst (λ t. In t (corrections p)) (sym e) (among p (Correction set witness proofs) all.0)
In-minimal_sets p kinds.Correction (Correction set witness proofs ∷ rs) s all (inr i) = In-minimal_sets p kinds.Correction rs s all.1 i

distinct-minimal_sets : (kind : Kind) (p : Problem) → IsDistinct (minimal_sets kind p)
unfolding conflicts corrections
distinct-minimal_sets kinds.Conflict p = distinct-filter_subsets (is_conflict p) p.groups
distinct-minimal_sets kinds.Correction p = distinct-filter_subsets (is_correction p) p.groups

-- the sets of distinct accepted records are the minimal ones that are held
pub SameSets-held : (p : Problem) (kind : Kind) (records : List Record) → IsProblem p
    → AllAccepted p records → AreNew [] records
    → SameSets (sets_in kind records) (filter (is_held records kind) (minimal_sets kind p))
SameSets-held p kind records ok all new =
    let right = accepted-right p records ok all in
    SameSets-from_distinct (sets_in kind records) (filter (is_held records kind) (minimal_sets kind p)) (distinct-sets_in kind records new)
    (distinct-filter (is_held records kind) (minimal_sets kind p) (distinct-minimal_sets kind p))
    (λ s i. In-filter (is_held records kind) s (minimal_sets kind p) (In-minimal_sets p kind records s right i) (In-held kind records s i))
    (λ s i. held-In kind records s (filter-In (is_held records kind) s (minimal_sets kind p) i).1)

-- where all minimal sets are held, none is missing
pub all_conflicts : (p : Problem) (records : List Record) → HoldsAll p records
    → filter (is_held records kinds.Conflict) (conflicts p) ≡ conflicts p
unfolding conflicts
all_conflicts p records all =
    filter-all (is_held records kinds.Conflict) (conflicts p)
    (λ s i.
    let (there, t) = filter-In (is_conflict p) s (subsets p.groups) i in
    let (ok, within) = subsets-In p.groups s there in
    all.conflicts s ok within (IsConflict-from_test p s ok t))

pub all_corrections : (p : Problem) (records : List Record) → HoldsAll p records
    → filter (is_held records kinds.Correction) (corrections p) ≡ corrections p
unfolding corrections
all_corrections p records all =
    filter-all (is_held records kinds.Correction) (corrections p)
    (λ s i.
    let (there, t) = filter-In (is_correction p) s (subsets p.groups) i in
    let (ok, within) = subsets-In p.groups s there in
    all.corrections s ok within (IsCorrection-from_test p s ok t))

-- and then the sets of the records are exactly all minimal ones
pub held-exactly_all : (p : Problem) (records : List Record) → IsProblem p → AllAccepted p records
    → AreNew [] records → HoldsAll p records → AreExactlyAll p records
held-exactly_all p records ok accepted new all =
    record {
      conflicts =
          IsPermutation-same (conflicts_in records) (conflicts p)
          (subst (SameSets (conflicts_in records)) (all_conflicts p records all) (SameSets-held p kinds.Conflict records ok accepted new));
      corrections =
          IsPermutation-same (corrections_in records) (corrections p)
          (subst (SameSets (corrections_in records)) (all_corrections p records all) (SameSets-held p kinds.Correction records ok accepted new));
    }

all-minimal : (p : Problem) (records : List Record) → AllByRecursion (IsRight p) records → AllByRecursion (IsMinimal p) records
all-minimal p [] all = tt
all-minimal p (r ∷ rs) all = (all.0.minimal, all-minimal p rs all.1)

-- accepted records are of minimal sets
pub accepted-minimal : (p : Problem) (records : List Record) → IsProblem p → AllAccepted p records → AllByRecursion (IsMinimal p) records
accepted-minimal p records ok all = all-minimal p records (accepted-right p records ok all)
