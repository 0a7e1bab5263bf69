-- The opening records: kept conflicts, and what corrections grow into, accepted and with distinct sets.
use Rattle.std.proofs.Common.{◌≡◌, ℕ, zero, suc, ◌+◌, ◌≤◌, Bool, true, false, not, List, [], ◌∷◌, ◌++◌, map, length, take, Some, None, refl, sym, ◌∙◌, ap, ap₂, subst, inl, inr, eqb, arith, append_assoc, append-nil}
use Rattle.std.specs.Prelude.{slice_get, nat_eq, All}
use Rattle.std.specs.Ordering.{int_eq}
use Rattle.std.specs.Option.{option_map_or}
use Rattle.std.specs.Cmp.Lexicographic.{pointwise}
use Rattle.std.specs.List.{AllByRecursion, list_all, list_any}
use Rattle.std.proofs.lemmas.Bool.{and_parts, and_from, false≢true, false_from_ne_true, true_from_ne_false, eqb-true, cases_Bool}
use Rattle.std.proofs.lemmas.List.{map-append}
use Rattle.gm_base.specs.declared.kind.Kind.{Kind}
use Rattle.gm_base.specs.declared.kind.Kind.TheVariants as kinds
use Rattle.gm_base.specs.Sets.{has, IsSubset, all_groups, without, complement}
use Rattle.gm_base.specs.Problem.{Problem, IsProblem, satisfies}
use Rattle.gm_base.specs.Evidence.{is_witness, each_passes, AcceptsConflict, selector_form, left_out}
use Rattle.sat_base.specs.Derivation.{Derivation, is_derivation, clause_of, all_known}
use Rattle.gm_base.specs.Minimal.{IsCorrection}
use Rattle.gm_base.proofs.SetLemmas.{has-without, has-all_groups, all_groups-has, has-complement-from, has-complement-parts}
use Rattle.gm_base.proofs.SatLemmas.{Sat-subset}
use Rattle.gm_base.proofs.Singles.{IsProperSubset-without}
use Rattle.evidence_rec.specs.declared.record.Record.{Record}
use Rattle.evidence_rec.specs.declared.record.Record.TheVariants.{Conflict, Correction}
use Rattle.evidence_rec.specs.declared.record.Refutation.{Refutation}
use Rattle.evidence_rec.specs.Records.{kind_of, set_of, Accepts, IsAcceptedAlone, AllAcceptedBehind, AllAccepted, IsRight}
use Rattle.evidence_rec.specs.Held.{is_held, AreNew, conflicts_in, corrections_in}
use Rattle.evidence_rec.specs.Asking.{OracleState}
use Rattle.evidence_rec.proofs.AcceptedLemmas.{minimal-from_accepts, accepted-right, accepted-at, accepted-alone, numbered_at}
use Rattle.evidence_rec.proofs.HeldLemmas.{sets_in, held-In, distinct-sets_in}
use Rattle.evidence_rec.proofs.SetListLemmas.{one_if, times, IsDistinct, same-refl, same-is, times-append, times-In}
use Rattle.mss_grow.specs.Grown.{IsCorrectionOutside}
use Rattle.edit_session.specs.Extends.{Extends}
use Rattle.edit_session.specs.Carried.{kept, carried_proof, carried_witness}
use Rattle.edit_session.specs.Opening.{up_to, IsOpening, IsKnown, AreRegrown, TellsRegrown, IsSofar}
use Rattle.edit_session.proofs.PlaceLemmas.{take_next}
use Rattle.edit_session.proofs.WitnessLemmas.{kept-accepted, witness-carried}
use Rattle.edit_session.proofs.RegrownLemmas.{regrown-old}

-- what is known of a record of an accepted list
pub known-at : (p : Problem) (records : List Record) (at : ℕ) (r : Record) → IsProblem p → AllAccepted p records → slice_get records at ≡ Some r → IsKnown p r
known-at p records at r ok all is =
    let behind = accepted-at p records at r all is in
    record { right = numbered_at (IsRight p) records (suc at) r is (accepted-right p records ok all); earlier = behind.0; accepted = behind.1 }

-- ---- lists of records one behind the other

kept-append : (old new : Problem) (xs ys : List Record) → kept old new (xs ++ ys) ≡ kept old new xs ++ kept old new ys
kept-append old new [] ys = refl
kept-append old new (Conflict set proof ws ∷ xs) ys = ap (λ rs. Conflict set (carried_proof old new proof) (map (carried_witness new) ws) ∷ rs) (kept-append old new xs ys)
kept-append old new (Correction set w ps ∷ xs) ys = kept-append old new xs ys

pub kept-next : (old new : Problem) (records first before after : List Record) (at : ℕ) (r : Record) → slice_get records at ≡ Some r
    → before ≡ first ++ kept old new (take at records) → after ≡ before ++ kept old new (r ∷ []) → after ≡ first ++ kept old new (take (at + 1) records)
kept-next old new records first before after at r is sofar grown =
    grown ∙ ap (λ rs. rs ++ kept old new (r ∷ [])) sofar
    ∙ append_assoc first (kept old new (take at records)) (kept old new (r ∷ []))
    ∙ ap (λ rs. first ++ rs) (sym (ap (kept old new) (take_next records at r is) ∙ kept-append old new (take at records) (r ∷ [])))

conflicts-append : (xs ys : List Record) → conflicts_in (xs ++ ys) ≡ conflicts_in xs ++ conflicts_in ys
conflicts-append [] ys = refl
conflicts-append (Conflict set proof ws ∷ xs) ys = ap (λ sets. set ∷ sets) (conflicts-append xs ys)
conflicts-append (Correction set w ps ∷ xs) ys = conflicts-append xs ys

corrections-append : (xs ys : List Record) → corrections_in (xs ++ ys) ≡ corrections_in xs ++ corrections_in ys
corrections-append [] ys = refl
corrections-append (Conflict set proof ws ∷ xs) ys = corrections-append xs ys
corrections-append (Correction set w ps ∷ xs) ys = ap (λ sets. set ∷ sets) (corrections-append xs ys)

all-append : (P : Record → Type 0) (xs ys : List Record) → AllByRecursion P xs → AllByRecursion P ys → AllByRecursion P (xs ++ ys)
all-append P [] ys first then = then
all-append P (x ∷ xs) ys first then = (first.0, all-append P xs ys first.1 then)

-- ---- kept conflicts

conflicts-kept : (old new : Problem) (rs : List Record) → conflicts_in (kept old new rs) ≡ conflicts_in rs
conflicts-kept old new [] = refl
conflicts-kept old new (Conflict set proof ws ∷ rs) = ap (λ sets. set ∷ sets) (conflicts-kept old new rs)
conflicts-kept old new (Correction set w ps ∷ rs) = conflicts-kept old new rs

corrections-kept : (old new : Problem) (rs : List Record) → corrections_in (kept old new rs) ≡ []
corrections-kept old new [] = refl
corrections-kept old new (Conflict set proof ws ∷ rs) = corrections-kept old new rs
corrections-kept old new (Correction set w ps ∷ rs) = corrections-kept old new rs

kept-alone : (old new : Problem) (earlier rs : List Record) → IsProblem old → Extends old new → AllAcceptedBehind old earlier rs → AllByRecursion (IsAcceptedAlone new) (kept old new rs)
kept-alone old new earlier [] ok e all = tt
kept-alone old new earlier (Conflict set proof ws ∷ rs) ok e all = (
  record {
    within = λ g i. (let range = all_groups-has old.groups g (all.0.within g i) in let high = range.1 in let more = e.groups in has-all_groups new.groups g range.0 (omega arith));
    accepts = kept-accepted old new set proof ws ok e all.0.within all.0.accepts;
  },
  kept-alone old new (earlier ++ Conflict set proof ws ∷ []) rs ok e all.1,
)
kept-alone old new earlier (Correction set w ps ∷ rs) ok e all = kept-alone old new (earlier ++ Correction set w ps ∷ []) rs ok e all.1

all-accepted : (p : Problem) (earlier rs : List Record) → AllByRecursion (IsAcceptedAlone p) rs → AllAcceptedBehind p earlier rs
all-accepted p earlier [] all = tt
all-accepted p earlier (r ∷ rs) all = (accepted-alone p earlier r all.0, all-accepted p (earlier ++ r ∷ []) rs all.1)

pub all-kept : (old new : Problem) (records conflicts : List Record) → IsProblem old → Extends old new → AllAccepted old records → conflicts ≡ kept old new records
    → AllAccepted new conflicts
all-kept old new records conflicts ok e all is = subst (AllAccepted new) (sym is) (all-accepted new [] (kept old new records) (kept-alone old new [] records ok e all))

-- ---- distinct sets

distinct-mapped : (f : List ℕ → List ℕ) (sets : List (List ℕ)) → IsDistinct (map f sets) → IsDistinct sets
distinct-mapped f sets distinct s = let once = distinct (f s) in let more = mapped sets in omega arith
  where
    mapped : (xs : List (List ℕ)) → times s xs ≤ times (f s) (map f xs)
    mapped [] = omega arith
    mapped (x ∷ xs) =
        let rest = mapped xs in
        elim (cases_Bool (pointwise nat_eq x s)) [
          | inl same ↦
              let here : one_if (pointwise nat_eq x s) ≡ 1 = ap one_if same in
              let there : one_if (pointwise nat_eq (f x) (f s)) ≡ 1 = ap one_if (ap (λ t. pointwise nat_eq (f t) (f s)) (same-is x s same) ∙ same-refl (f s)) in
              omega arith
          | inr other ↦ let none : one_if (pointwise nat_eq x s) ≡ 0 = ap one_if other in omega arith
        ]

sets-append : (kind : Kind) (xs ys : List Record) → sets_in kind (xs ++ ys) ≡ sets_in kind xs ++ sets_in kind ys
sets-append kinds.Conflict xs ys = conflicts-append xs ys
sets-append kinds.Correction xs ys = corrections-append xs ys

sets-first : (r : Record) (rs : List Record) → sets_in (kind_of r) (r ∷ rs) ≡ set_of r ∷ sets_in (kind_of r) rs
sets-first (Conflict set proof ws) rs = refl
sets-first (Correction set w ps) rs = refl

-- records of which no two have one kind and set
new-behind : (earlier rs : List Record) → ((kind : Kind) → IsDistinct (sets_in kind (earlier ++ rs))) → AreNew earlier rs
new-behind earlier [] distinct = tt
new-behind earlier (r ∷ rs) distinct = (
  false_from_ne_true (is_held earlier (kind_of r) (set_of r))
      (λ held.
      let before = times-In (set_of r) (sets_in (kind_of r) earlier) (held-In (kind_of r) earlier (set_of r) held) in
      let here : one_if (pointwise nat_eq (set_of r) (set_of r)) ≡ 1 = ap one_if (same-refl (set_of r)) in
      let first : times (set_of r) (sets_in (kind_of r) (r ∷ rs)) ≡ one_if (pointwise nat_eq (set_of r) (set_of r)) + times (set_of r) (sets_in (kind_of r) rs) =
      ap (times (set_of r)) (sets-first r rs) in
      let whole = ap (times (set_of r)) (sets-append (kind_of r) earlier (r ∷ rs)) ∙ times-append (set_of r) (sets_in (kind_of r) earlier) (sets_in (kind_of r) (r ∷ rs)) in
      let once = distinct (kind_of r) (set_of r) in
      omega arith),
  new-behind (earlier ++ r ∷ []) rs (λ kind. subst (λ all. IsDistinct (sets_in kind all)) (sym (append_assoc earlier (r ∷ []) rs)) (distinct kind)),
)

-- ---- what a correction grows into

-- a correction is of groups of the problem: no other one could be needed
correction-within : (p : Problem) (set : List ℕ) → IsCorrection p set → IsSubset set (all_groups p.groups)
correction-within p set minimal g inside =
    true_from_ne_false (has (all_groups p.groups) g)
    (λ outside.
    minimal.minimal (without set g) (IsProperSubset-without set g inside)
    (Sat-subset p (complement p.groups (without set g)) (complement p.groups set)
    (λ h i.
    let parts = has-complement-parts p.groups (without set g) h i in
    let other : eqb h g ≡ false = false_from_ne_true (eqb h g) (λ e. false≢true (sym outside ∙ ap (has (all_groups p.groups)) (sym (eqb-true h g e)) ∙ parts.1)) in
    has-complement-from p.groups set h parts.1
    (false_from_ne_true (has set h) (λ on. false≢true (sym parts.0 ∙ has-without set g h ∙ and_from (not (eqb h g)) (has set h) (ap not other) on))))
    minimal.sat))

pub regrown-one : (o : OracleState) (old : Problem) (set : List ℕ) (w : List Bool) (ps : List Refutation) (made : Record) (before after : List Record) (left : ℕ) → IsProblem old → IsProblem o.problem
    → Extends old o.problem → IsRight old (Correction set w ps) → IsCorrectionOutside (complement old.groups set) made → Accepts o.problem [] made → after ≡ before ++ made ∷ []
    → TellsRegrown o old (Correction set w ps) before after left None
regrown-one o old set w ps (Conflict out proof ws) before after left ok new_ok e right outside accepts is = absurd outside
regrown-one o old set w ps (Correction out v qs) before after left ok new_ok e right outside accepts is =
    let minimal = minimal-from_accepts o.problem [] (Correction out v qs) new_ok tt accepts in (
      Correction out v qs ∷ [],
      is,
      record {
        accepted = (record { within = correction-within o.problem out minimal; accepts = accepts }, tt);
        conflicts = refl;
        corrections = ap (λ s. s ∷ []) (regrown-old old o.problem set out ok e right.is_set right.within right.minimal accepts.is_set minimal.sat outside);
      },
    )

regrown-append : (old new : Problem) (xs ys us vs : List Record) → AreRegrown old new xs us → AreRegrown old new ys vs → AreRegrown old new (xs ++ ys) (us ++ vs)
regrown-append old new xs ys us vs first then =
    record {
      accepted = all-append (IsAcceptedAlone new) us vs first.accepted then.accepted;
      conflicts = conflicts-append us vs ∙ ap₂ (λ s t. s ++ t) first.conflicts then.conflicts;
      corrections =
          ap (map (up_to old.groups)) (corrections-append us vs) ∙ map-append (up_to old.groups) (corrections_in us) (corrections_in vs)
          ∙ ap₂ (λ s t. s ++ t) first.corrections then.corrections ∙ sym (corrections-append xs ys);
    }

-- ---- from the first record to the last

pub sofar-start : (old new : Problem) (records opening : List Record) → opening ≡ kept old new records → IsSofar old new records [] opening
sofar-start old new records opening is =
    record { regrown = []; parts = is ∙ sym (append-nil (kept old new records)); are = record { accepted = tt; conflicts = refl; corrections = refl } }

pub sofar-next : (old new : Problem) (records before after : List Record) (at : ℕ) (r : Record) → slice_get records at ≡ Some r → IsSofar old new records (take at records) before
    → ((more : List Record) × (after ≡ before ++ more) × AreRegrown old new (r ∷ []) more) → IsSofar old new records (take (at + 1) records) after
sofar-next old new records before after at r is sofar next =
    record {
      regrown = sofar.regrown ++ next.0;
      parts = next.1 ∙ ap (λ rs. rs ++ next.0) sofar.parts ∙ append_assoc (kept old new records) sofar.regrown next.0;
      are =
          subst (λ passed. AreRegrown old new passed (sofar.regrown ++ next.0)) (sym (take_next records at r is))
          (regrown-append old new (take at records) (r ∷ []) sofar.regrown next.0 sofar.are next.2);
    }

pub opening-from_sofar : (old new : Problem) (records opening : List Record) → IsProblem old → Extends old new → AllAccepted old records → AreNew [] records
    → IsSofar old new records records opening → IsOpening old new records opening
opening-from_sofar old new records opening ok e all distinct sofar =
    let whole = sofar.parts in
    let first = kept old new records in
    let rest = sofar.regrown in
    let us : conflicts_in opening ≡ conflicts_in records =
    ap conflicts_in whole ∙ conflicts-append first rest ∙ ap₂ (λ s t. s ++ t) (conflicts-kept old new records) sofar.are.conflicts ∙ append-nil (conflicts_in records) in
    let grown : corrections_in opening ≡ corrections_in rest =
    ap corrections_in whole ∙ corrections-append first rest ∙ ap (λ s. s ++ corrections_in rest) (corrections-kept old new records) in
    let ms : map (up_to old.groups) (corrections_in opening) ≡ corrections_in records = ap (map (up_to old.groups)) grown ∙ sofar.are.corrections in
    record {
      accepted =
          subst (AllAccepted new) (sym whole)
          (all-accepted new [] (first ++ rest) (all-append (IsAcceptedAlone new) first rest (kept-alone old new [] records ok e all) sofar.are.accepted));
      distinct = new-behind [] opening (by us ms);
      regrown = rest;
      parts = whole;
      conflicts = us;
      corrections = ms;
    }
  where
    by : conflicts_in opening ≡ conflicts_in records → map (up_to old.groups) (corrections_in opening) ≡ corrections_in records → (kind : Kind) → IsDistinct (sets_in kind opening)
    by us ms kinds.Conflict = subst IsDistinct (sym us) (distinct-sets_in kinds.Conflict records distinct)
    by us ms kinds.Correction = distinct-mapped (up_to old.groups) (corrections_in opening) (subst IsDistinct (sym ms) (distinct-sets_in kinds.Correction records distinct))

-- ---- where an old correction begins to grow

pub start-within : (old new : Problem) (set start : List ℕ) → Extends old new → start ≡ complement old.groups set → IsSubset start (all_groups new.groups)
start-within old new set start e is g i =
    let parts = has-complement-parts old.groups set g (subst (λ gs. has gs g ≡ true) is i) in
    let range = all_groups-has old.groups g parts.1 in
    let high = range.1 in
    let more = e.groups in
    has-all_groups new.groups g range.0 (omega arith)

-- the record is a correction: its witness satisfies what it leaves out
pub witness-of : (p : Problem) (r : Record) (set : List ℕ) (w : List Bool) (ps : List Refutation) → r ≡ Correction set w ps → IsKnown p r → is_witness p (complement p.groups set) w ≡ true
witness-of p r set w ps is known = (subst (IsKnown p) is known).accepted.accepts.witnessed

pub witness-fits : (old new : Problem) (r : Record) (set : List ℕ) (w : List Bool) (ps : List Refutation) → Extends old new → r ≡ Correction set w ps → IsKnown old r → length w ≤ new.vars
witness-fits old new r set w ps e is known =
    let parts = and_parts (eqb (length w) old.vars) (satisfies old (complement old.groups set) w) (witness-of old r set w ps is known) in
    let count = eqb-true (length w) old.vars parts.0 in
    let more = e.vars in
    omega arith

pub start-satisfied : (old new : Problem) (r : Record) (set start : List ℕ) (w wide : List Bool) (ps : List Refutation) → Extends old new → r ≡ Correction set w ps → IsKnown old r
    → start ≡ complement old.groups set → wide ≡ carried_witness new w → is_witness new start wide ≡ true
start-satisfied old new r set start w wide ps e is known start_is wide_is =
    ap₂ (is_witness new) start_is wide_is
    ∙ witness-carried old new (complement old.groups set) w e (λ g i. (has-complement-parts old.groups set g i).1) (witness-of old r set w ps is known)

-- ---- a conflict to be kept

pub conflict-of : (p : Problem) (r : Record) (set : List ℕ) (proof : Derivation) (ws : List (List Bool)) → r ≡ Conflict set proof ws → IsKnown p r → AcceptsConflict p set proof ws
conflict-of p r set proof ws is known = (subst (IsKnown p) is known).accepted.accepts

pub derives-of : (p : Problem) (r : Record) (set : List ℕ) (proof : Derivation) (ws : List (List Bool)) → r ≡ Conflict set proof ws → IsKnown p r
    → is_derivation (p.vars + p.groups) (selector_form p) proof ≡ true
derives-of p r set proof ws is known =
    (and_parts (is_derivation (p.vars + p.groups) (selector_form p) proof)
    (option_map_or (λ c. list_all (λ l. list_any (λ g. int_eq (left_out p g) l) set) c) (clause_of (all_known (selector_form p) proof.steps) proof.goal) false)
    (conflict-of p r set proof ws is known).refuted).0

each-fits : (p : Problem) (most : ℕ) (set gs : List ℕ) (ws : List (List Bool)) → p.vars ≤ most → each_passes (λ g w. is_witness p (without set g) w) gs ws ≡ true → All (λ (w : List Bool). length w ≤ most) ws
each-fits p most set gs [] le h k d lt = absurd (omega arith)
each-fits p most set [] (w ∷ ws) le h k d lt = absurd (false≢true h)
each-fits p most set (g ∷ gs) (w ∷ ws) le h zero d lt =
    let parts = and_parts (is_witness p (without set g) w) (each_passes (λ g w. is_witness p (without set g) w) gs ws) h in
    let count = eqb-true (length w) p.vars (and_parts (eqb (length w) p.vars) (satisfies p (without set g) w) parts.0).0 in
    omega arith
each-fits p most set (g ∷ gs) (w ∷ ws) le h (suc k) d lt =
    let parts = and_parts (is_witness p (without set g) w) (each_passes (λ g w. is_witness p (without set g) w) gs ws) h in
    each-fits p most set gs ws le parts.1 k d (omega arith)

pub witnesses-fit : (old new : Problem) (r : Record) (set : List ℕ) (proof : Derivation) (ws : List (List Bool)) → Extends old new → r ≡ Conflict set proof ws → IsKnown old r
    → All (λ (w : List Bool). length w ≤ new.vars) ws
witnesses-fit old new r set proof ws e is known = each-fits old new.vars set set ws e.vars (conflict-of old r set proof ws is known).witnessed

pub kept-one : (old new : Problem) (r : Record) (set copy : List ℕ) (proof carried : Derivation) (ws wide : List (List Bool)) → r ≡ Conflict set proof ws → copy ≡ set
    → carried ≡ carried_proof old new proof → wide ≡ map (carried_witness new) ws → Conflict copy carried wide ∷ [] ≡ kept old new (r ∷ [])
kept-one old new r set copy proof carried ws wide is set_is proof_is ws_are =
    ap (λ (s : List ℕ). Conflict s carried wide ∷ []) set_is ∙ ap (λ (d : Derivation). Conflict set d wide ∷ []) proof_is
    ∙ ap (λ (vs : List (List Bool)). Conflict set (carried_proof old new proof) vs ∷ []) ws_are
    ∙ sym (ap (λ (q : Record). kept old new (q ∷ [])) is)
