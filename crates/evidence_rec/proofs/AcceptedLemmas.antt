-- Accepted records are of minimal sets: a correction that names an earlier conflict rests on a set that can't be satisfied
-- already, and more groups keep that. Acceptance is kept where a list grows.
use Rattle.std.proofs.Common.{◌≡◌, ℕ, zero, suc, Bool, true, false, not, List, [], ◌∷◌, ◌++◌, Option, Some, None, refl, sym, ◌∙◌, ap, subst, inl, inr, eqb, append_assoc}
use Rattle.std.specs.Prelude.{slice_get}
use Rattle.std.specs.List.{list_all, AllByRecursion}
use Rattle.std.specs.Option.{option_map_or}
use Rattle.std.proofs.lemmas.List.{append-nil}
use Rattle.std.proofs.lemmas.Bool.{false≢true, and_parts, and_from, eqb-true, cases_Bool}
use Rattle.sat_base.proofs.Members.{all_at, any_from}
use Rattle.gm_base.specs.Sets.{IsSubset, has, without, complement}
use Rattle.gm_base.specs.Problem.{Problem, IsProblem, Sat}
use Rattle.gm_base.specs.Evidence.{each_passes}
use Rattle.gm_base.proofs.SetLemmas.{IsGroupSet-complement, has-complement-from}
use Rattle.gm_base.proofs.SatLemmas.{Sat-subset}
use Rattle.gm_base.proofs.Singles.{IsCorrection-from_singles}
use Rattle.gm_base.proofs.EvidenceLemmas.{refutes-sound, Sat-from_witness, each_passes-at, IsConflict-from_evidence}
use Rattle.evidence_rec.specs.declared.record.Record.{Record}
use Rattle.evidence_rec.specs.declared.record.Record.TheVariants.{Conflict, Correction}
use Rattle.evidence_rec.specs.declared.record.Refutation.{Refutation}
use Rattle.evidence_rec.specs.declared.record.Refutation.TheVariants.{Steps, Earlier}
use Rattle.evidence_rec.specs.Records.{numbered_record, is_inside, shows_refuted, Accepts, IsMinimal, IsAccepted, IsAcceptedAlone, AllAcceptedBehind, AllAccepted, IsRight}

pub AllByRecursion-push : {X : Type 0} (P : X → Type 0) (xs : List X) (y : X) → AllByRecursion P xs → P y → AllByRecursion P (xs ++ y ∷ [])
AllByRecursion-push P [] y all here = (here, tt)
AllByRecursion-push P (x ∷ xs) y all here = (all.0, AllByRecursion-push P xs y all.1 here)

-- what holds of all holds of the one at a place
at_place : (P : Record → Type 0) (rs : List Record) (at : ℕ) (r : Record) → slice_get rs at ≡ Some r → AllByRecursion P rs → P r
at_place P [] at r is all = absurd (cc)
at_place P (q ∷ qs) zero r is all =
    let same : q ≡ r = cc in
    subst P same all.0
at_place P (q ∷ qs) (suc at) r is all = at_place P qs at r is all.1

pub numbered_at : (P : Record → Type 0) (rs : List Record) (i : ℕ) (r : Record) → numbered_record rs i ≡ Some r → AllByRecursion P rs → P r
numbered_at P rs zero r is all = absurd (cc)
numbered_at P rs (suc i) r is all = at_place P rs i r is all

-- of two sets with no group in common, a group of the one is not in the other
apart : (out groups : List ℕ) (h : ℕ) → list_all (λ k. not (has out k)) groups ≡ true → has groups h ≡ true → has out h ≡ false
apart out groups h none on =
    let (k, i, e) = any_from (λ x. eqb x h) groups on in
    let off : not (has out h) ≡ true = ap (λ n. not (has out n)) (sym (eqb-true k h e)) ∙ all_at (λ x. not (has out x)) groups k none i in
    elim (cases_Bool (has out h)) [ inl held ↦ absurd (false≢true (sym (ap not held) ∙ off)) | inr gone ↦ gone ]

-- a conflict inside can't be satisfied, nor can what holds it
inside-unsat : (p : Problem) (set : List ℕ) (g : ℕ) (r : Record) → IsRight p r → is_inside set g r ≡ true → ¬ Sat p (complement p.groups (without set g))
inside-unsat p set g (Conflict groups proof ws) right inside sat = right.minimal.unsat (Sat-subset p groups (complement p.groups (without set g)) held sat)
  where
    held : IsSubset groups (complement p.groups (without set g))
    held h on = has-complement-from p.groups (without set g) h (right.within h on) (apart (without set g) groups h inside on)
inside-unsat p set g (Correction groups w rs) right inside sat = absurd (false≢true inside)

shown-unsat : (p : Problem) (earlier : List Record) (set : List ℕ) (g : ℕ) (r : Refutation) → IsProblem p → AllByRecursion (IsRight p) earlier
    → shows_refuted p earlier set g r ≡ true → ¬ Sat p (complement p.groups (without set g))
shown-unsat p earlier set g (Steps d) ok right shown =
    let rest : List ℕ = complement p.groups (without set g) in
    refutes-sound p rest d ok (IsGroupSet-complement p.groups (without set g) rest refl) shown
shown-unsat p earlier set g (Earlier i) ok right shown = by (numbered_record earlier i) refl shown
  where
    by : (o : Option Record) → numbered_record earlier i ≡ o → option_map_or (is_inside set g) o false ≡ true → ¬ Sat p (complement p.groups (without set g))
    by None is h = absurd (false≢true h)
    by (Some r) is h = inside-unsat p set g r (numbered_at (IsRight p) earlier i r is right) h

-- behind records that are right, what the evidence shows is minimal
pub minimal-from_accepts : (p : Problem) (earlier : List Record) (r : Record) → IsProblem p → AllByRecursion (IsRight p) earlier → Accepts p earlier r → IsMinimal p r
minimal-from_accepts p earlier (Conflict set proof ws) ok right h = IsConflict-from_evidence p set proof ws ok h
minimal-from_accepts p earlier (Correction set w rs) ok right h =
    IsCorrection-from_singles p set (Sat-from_witness p (complement p.groups set) w h.witnessed)
    (λ g i. let (r, shown) = each_passes-at (shows_refuted p earlier set) set rs g h.refuted i in shown-unsat p earlier set g r ok right shown)

right-from_accepted : (p : Problem) (earlier : List Record) (r : Record) → IsProblem p → AllByRecursion (IsRight p) earlier → IsAccepted p earlier r → IsRight p r
right-from_accepted p earlier (Conflict set proof ws) ok right h =
    record { is_set = h.accepts.is_set; within = h.within; minimal = minimal-from_accepts p earlier (Conflict set proof ws) ok right h.accepts }
right-from_accepted p earlier (Correction set w rs) ok right h =
    record { is_set = h.accepts.is_set; within = h.within; minimal = minimal-from_accepts p earlier (Correction set w rs) ok right h.accepts }

right-behind : (p : Problem) (earlier rs : List Record) → IsProblem p → AllByRecursion (IsRight p) earlier → AllAcceptedBehind p earlier rs → AllByRecursion (IsRight p) rs
right-behind p earlier [] ok right all = tt
right-behind p earlier (r ∷ rs) ok right all =
    let here = right-from_accepted p earlier r ok right all.0 in
    (here, right-behind p (earlier ++ r ∷ []) rs ok (AllByRecursion-push (IsRight p) earlier r right here) all.1)

-- each record of a list that is accepted is right
pub accepted-right : (p : Problem) (records : List Record) → IsProblem p → AllAccepted p records → AllByRecursion (IsRight p) records
accepted-right p records ok all = right-behind p [] records ok tt all

-- a record that is accepted alone is right
pub alone-right : (p : Problem) (r : Record) → IsProblem p → IsAcceptedAlone p r → IsRight p r
alone-right p r ok h = right-from_accepted p [] r ok tt h

-- each record of an accepted list is accepted behind some of it
behind-at : (p : Problem) (earlier rs : List Record) (at : ℕ) (r : Record) → AllAcceptedBehind p earlier rs → slice_get rs at ≡ Some r
    → (before : List Record) × IsAccepted p before r
behind-at p earlier [] at r all is = absurd (cc)
behind-at p earlier (q ∷ qs) zero r all is =
    let same : q ≡ r = cc in
    (earlier, subst (IsAccepted p earlier) same all.0)
behind-at p earlier (q ∷ qs) (suc at) r all is = behind-at p (earlier ++ q ∷ []) qs at r all.1 is

pub accepted-at : (p : Problem) (records : List Record) (at : ℕ) (r : Record) → AllAccepted p records → slice_get records at ≡ Some r
    → (before : List Record) × IsAccepted p before r
accepted-at p records at r all is = behind-at p [] records at r all is

behind-push : (p : Problem) (earlier rs : List Record) (r : Record) → AllAcceptedBehind p earlier rs → IsAccepted p (earlier ++ rs) r → AllAcceptedBehind p earlier (rs ++ r ∷ [])
behind-push p earlier [] r all h = (subst (λ e. IsAccepted p e r) (append-nil earlier) h, tt)
behind-push p earlier (q ∷ qs) r all h =
    (all.0, behind-push p (earlier ++ q ∷ []) qs r all.1 (subst (λ e. IsAccepted p e r) (sym (append_assoc earlier (q ∷ []) qs)) h))

pub accepted-push : (p : Problem) (records : List Record) (r : Record) → AllAccepted p records → IsAccepted p records r → AllAccepted p (records ++ r ∷ [])
accepted-push p records r all h = behind-push p [] records r all h

each_passes-also : {X : Type 0} (a b : ℕ → X → Bool) → ((g : ℕ) (x : X) → a g x ≡ true → b g x ≡ true) → (gs : List ℕ) (xs : List X) → each_passes a gs xs ≡ true
    → each_passes b gs xs ≡ true
each_passes-also a b also [] [] h = refl
each_passes-also a b also [] (x ∷ xs) h = absurd (false≢true h)
each_passes-also a b also (g ∷ gs) [] h = absurd (false≢true h)
each_passes-also a b also (g ∷ gs) (x ∷ xs) h =
    let parts = and_parts (a g x) (each_passes a gs xs) h in
    and_from (b g x) (each_passes b gs xs) (also g x parts.0) (each_passes-also a b also gs xs parts.1)

-- where nothing stands before, no number serves
shown-alone : (p : Problem) (earlier : List Record) (set : List ℕ) (g : ℕ) (r : Refutation) → shows_refuted p [] set g r ≡ true → shows_refuted p earlier set g r ≡ true
shown-alone p earlier set g (Steps d) shown = shown
shown-alone p earlier set g (Earlier zero) shown = absurd (false≢true shown)
shown-alone p earlier set g (Earlier (suc i)) shown = absurd (false≢true shown)

pub accepted-alone : (p : Problem) (earlier : List Record) (r : Record) → IsAcceptedAlone p r → IsAccepted p earlier r
accepted-alone p earlier (Conflict set proof ws) h = record { within = h.within; accepts = h.accepts }
accepted-alone p earlier (Correction set w rs) h =
    record {
      within = h.within;
      accepts = record {
        is_set = h.accepts.is_set;
        witnessed = h.accepts.witnessed;
        refuted = each_passes-also (shows_refuted p [] set) (shows_refuted p earlier set) (shown-alone p earlier set) set rs h.accepts.refuted;
      };
    }
