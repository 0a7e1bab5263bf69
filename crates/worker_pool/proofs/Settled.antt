-- What is shrunk or grown from a seed explores it; and a satisfiable top is explored by its complement alone.
use Rattle.std.proofs.Common.{◌≡◌, ℕ, Bool, true, false, not, ◌&&◌, List, [], ◌∷◌, refl, sym, ◌∙◌, ap, subst, inl, inr, eqb, eq-eqb}
use Rattle.std.specs.List.{list_all, AllByRecursion}
use Rattle.std.proofs.lemmas.Bool.{false≢true, and_parts, and_from, eqb-true, false_from_ne_true, true_from_ne_false, not-true}
use Rattle.sat_base.specs.Members.{In}
use Rattle.sat_base.proofs.Members.{In-map, In-from_map, all_at, all_from, any_at, any_from}
use Rattle.gm_base.specs.Sets.{has, IsSubset, without, complement, all_groups}
use Rattle.gm_base.specs.Problem.{Problem, IsProblem, Sat}
use Rattle.gm_base.specs.Minimal.{IsCorrection}
use Rattle.gm_base.specs.Explored.{explores, is_explored, IsUnexplored}
use Rattle.gm_base.specs.declared.kind.Kind.TheVariants.{Correction as OfCorrection}
use Rattle.gm_base.proofs.SetLemmas.{AscendsAbove-same, has-complement, has-without, has-complement-from, IsGroupSet-complement}
use Rattle.gm_base.proofs.SatLemmas.{Sat-subset}
use Rattle.evidence_rec.specs.declared.record.Record.{Record}
use Rattle.evidence_rec.specs.declared.record.Record.TheVariants.{Conflict, Correction}
use Rattle.evidence_rec.specs.Records.{kind_of, set_of, found_of, founds, Accepts, IsAcceptedAlone, AllAccepted, IsRight}
use Rattle.evidence_rec.specs.Seeding.{IsTop}
use Rattle.evidence_rec.proofs.AcceptedLemmas.{minimal-from_accepts, accepted-right, alone-right}
use Rattle.evidence_rec.proofs.Explored.{unsat_above}
use Rattle.mus_shrink.specs.Shrunk.{IsConflictWithin}
use Rattle.mss_grow.specs.Grown.{IsCorrectionOutside}
use Rattle.worker_pool.specs.Course.{Settles, IsGiven}

has-In : (set : List ℕ) (g : ℕ) → In g set → has set g ≡ true
has-In set g i = any_at (λ h. eqb h g) set g i (eq-eqb g g refl)

-- a conflict within a set explores it
within_explores : (set seed : List ℕ) → IsSubset set seed → list_all (has seed) set ≡ true
within_explores set seed sub = all_from (has seed) set (λ g i. sub g (has-In set g i))

-- a correction outside a set explores it
outside_explores : (set seed : List ℕ) → ((g : ℕ) → has set g ≡ true → has seed g ≡ false) → list_all (λ g. not (has seed g)) set ≡ true
outside_explores set seed none = all_from (λ g. not (has seed g)) set (λ g i. ap not (none g (has-In set g i)))

-- a correction that explores a set is outside it
explores_outside : (set seed : List ℕ) (g : ℕ) → list_all (λ k. not (has seed k)) set ≡ true → has set g ≡ true → has seed g ≡ false
explores_outside set seed g none inside =
    let (k, i, e) = any_from (λ h. eqb h g) set inside in
    not-true (has seed g) (sym (ap (λ n. not (has seed n)) (eqb-true k g e)) ∙ all_at (λ h. not (has seed h)) set k none i)

-- a correction is of groups of the problem: one more would not be needed
IsCorrection-within : (p : Problem) (set : List ℕ) → IsCorrection p set → IsSubset set (all_groups p.groups)
IsCorrection-within p set c g inside =
    true_from_ne_false (has (all_groups p.groups) g)
    (λ outside.
    c.minimal (without set g) (
      λ h i. (and_parts (not (eqb h g)) (has set h) (sym (has-without set g h) ∙ i)).1,
      (g, inside, has-without set g g ∙ ap (λ b. not b && has set g) (eq-eqb g g refl)),
    )
    (Sat-subset p (complement p.groups (without set g)) (complement p.groups set)
    (λ h i.
    let (out, range) = and_parts (not (has (without set g) h)) (has (all_groups p.groups) h) (sym (has-complement p.groups (without set g) h) ∙ i) in
    let other : eqb h g ≡ false = false_from_ne_true (eqb h g) (λ e. false≢true (sym outside ∙ ap (has (all_groups p.groups)) (sym (eqb-true h g e)) ∙ range)) in
    let absent : has set h ≡ false = sym (ap (λ b. not b && has set h) other) ∙ sym (has-without set g h) ∙ not-true (has (without set g) h) out in
    has-complement p.groups set h ∙ and_from (not (has set h)) (has (all_groups p.groups) h) (ap not absent) range)
    c.sat))

-- what shrinking ends with
pub shrunk : (p : Problem) (core seed : List ℕ) (made : Record) → IsSubset seed (all_groups p.groups) → IsSubset core seed → IsConflictWithin p core made → Accepts p [] made
    → IsAcceptedAlone p made × (explores (found_of made) seed ≡ true)
shrunk p core seed (Conflict part proof witnesses) within sub inside accepts = (
  record { within = λ g h. within g (sub g (inside g h)); accepts = accepts },
  within_explores part seed (λ g h. sub g (inside g h)),
)
shrunk p core seed (Correction part witness proofs) within sub inside accepts = absurd inside

-- what growing ends with
pub grown : (p : Problem) (seed : List ℕ) (made : Record) → IsProblem p → IsCorrectionOutside seed made → Accepts p [] made
    → IsAcceptedAlone p made × (explores (found_of made) seed ≡ true)
grown p seed (Conflict part proof witnesses) ok outside accepts = absurd outside
grown p seed (Correction part witness proofs) ok outside accepts = (
  record { within = IsCorrection-within p part (minimal-from_accepts p [] (Correction part witness proofs) ok tt accepts); accepts = accepts },
  outside_explores part seed outside,
)

right_at : (p : Problem) (rs : List Record) (r : Record) → AllByRecursion (IsRight p) rs → In r rs → IsRight p r
right_at p [] r h i = absurd i
right_at p (q ∷ qs) r h (inl e) = subst (IsRight p) (sym e) h.0
right_at p (q ∷ qs) r h (inr i) = right_at p qs r h.1 i

-- no accepted record explores a satisfiable set around a set that none of them explores
rest_unexplored : (p : Problem) (rs : List Record) (seed rest : List ℕ) → IsProblem p → AllAccepted p rs → is_explored (founds rs) seed ≡ false
    → IsSubset seed rest → Sat p rest → is_explored (founds rs) rest ≡ false
rest_unexplored p rs seed rest problem accepted unexplored sub sat = false_from_ne_true (is_explored (founds rs) rest) explored
  where
    one : (r : Record) → In r rs → explores (found_of r) rest ≡ true → ⊥
    one (Conflict part proof ws) i x = unsat_above p part rest (right_at p rs (Conflict part proof ws) (accepted-right p rs problem accepted) i).minimal x sat
    one (Correction part w proofs) i x =
        let outside : (g : ℕ) → has part g ≡ true → has seed g ≡ false = λ g h. false_from_ne_true (has seed g) (λ on. false≢true (sym (explores_outside part rest g x h) ∙ sub g on)) in
        false≢true (sym unexplored ∙ any_at (λ f. explores f seed) (founds rs) (found_of (Correction part w proofs)) (In-map found_of (Correction part w proofs) rs i) (outside_explores part seed outside))

    explored : is_explored (founds rs) rest ≡ true → ⊥
    explored on =
        let (f, i, x) = any_from (λ f. explores f rest) (founds rs) on in
        let (r, j, same) = In-from_map found_of f rs i in
        one r j (sym (ap (λ y. explores y rest) same) ∙ x)

-- of a satisfiable top, an accepted record that explores it is the correction of all groups outside it
whole_of : (p : Problem) (rs : List Record) (seed : List ℕ) (made : Record) → IsProblem p → AllAccepted p rs → IsUnexplored p.groups (founds rs) seed
    → IsTop p.groups (founds rs) seed → Sat p seed → IsAcceptedAlone p made → explores (found_of made) seed ≡ true
    → (kind_of made ≡ OfCorrection) × (set_of made ≡ complement p.groups seed)
whole_of p rs seed (Conflict set proof ws) problem accepted free top sat ok e =
    absurd (unsat_above p set seed (alone-right p (Conflict set proof ws) problem ok).minimal e sat)
whole_of p rs seed (Correction set w proofs) problem accepted free top sat ok e =
    (refl, AscendsAbove-same 0 set (complement p.groups seed) ok.accepts.is_set (IsGroupSet-complement p.groups seed (complement p.groups seed) refl) there back)
  where
    correction : IsCorrection p set
    correction = (alone-right p (Correction set w proofs) problem ok).minimal

    rest : List ℕ
    rest = complement p.groups set

    there : IsSubset set (complement p.groups seed)
    there g h = has-complement-from p.groups seed g (ok.within g h) (explores_outside set seed g e h)

    sub : IsSubset seed rest
    sub g h = has-complement-from p.groups set g (free.within g h) (false_from_ne_true (has set g) (λ on. false≢true (sym (explores_outside set seed g e on) ∙ h)))

    rest_free : IsUnexplored p.groups (founds rs) rest
    rest_free =
        record {
          is_set = IsGroupSet-complement p.groups set rest refl;
          within = λ g h. (and_parts (not (has set g)) (has (all_groups p.groups) g) (sym (has-complement p.groups set g) ∙ h)).1;
          unexplored = rest_unexplored p rs seed rest problem accepted free.unexplored sub correction.sat;
        }

    back : IsSubset (complement p.groups seed) set
    back g h =
        let parts = and_parts (not (has seed g)) (has (all_groups p.groups) g) (sym (has-complement p.groups seed g) ∙ h) in
        true_from_ne_false (has set g)
        (λ out. top rest rest_free (sub, (g, has-complement-from p.groups set g parts.1 out, not-true (has seed g) parts.0)))

-- an accepted record that explores a seed settles it
pub settles : {p : Problem} {tops : Bool} {seed : List ℕ} → IsGiven p tops seed → (made : Record) → IsAcceptedAlone p made → explores (found_of made) seed ≡ true
    → Settles p tops seed (kind_of made) (set_of made)
settles {p} {tops} {seed} given made ok e =
    record {
      explored = e;
      whole = λ top sat. whole_of p given.records seed made given.problem given.accepted given.is_seed.unexplored (given.is_seed.top top) sat ok e;
    }
