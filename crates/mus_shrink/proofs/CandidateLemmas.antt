-- Lemmas on candidates.
use Rattle.std.proofs.Common.{◌≡◌, ℕ, ◌<◌, ◌≤◌, Bool, true, false, not, ◌&&◌, ◌||◌, List, [], ◌∷◌, ◌++◌, length, refl, sym, ◌∙◌, ap, subst, inl, inr, arith, eqb, append-nil}
use Rattle.std.specs.Prelude.{All, Option, None}
use Rattle.std.specs.List.{filter, AllByRecursion}
use Rattle.std.proofs.lemmas.Bool.{false≢true, and_parts, and_from, cond-true, cond-false, cases_Bool, cases_lt, eqb-true, eq-eqb, false_from_ne_true}
use Rattle.std.proofs.lemmas.List.Elements.{filter-append, All-from_recursion}
use Rattle.gm_base.specs.Sets.{AscendsAbove, IsGroupSet, has, IsSubset, without}
use Rattle.sat_base.specs.Derivation.{Derivation}
use Rattle.gm_base.specs.Problem.{Problem, IsProblem, Sat, satisfies}
use Rattle.gm_base.specs.Evidence.{refutes, is_witness, each_passes, AcceptsConflict}
use Rattle.gm_base.proofs.SetLemmas.{has-without, has-filter, AscendsAbove-filter}
use Rattle.gm_base.proofs.EvidenceLemmas.{refutes-sound}
use Rattle.gm_base.proofs.Singles.{IsSubset-without}
use Rattle.evidence_rec.proofs.EvidenceLemmas.{is_witness-subset, Sat-from_witness, each_passes-push, length-each_passes}
use Rattle.mus_shrink.specs.declared.candidate.Candidate.{Candidate}
use Rattle.evidence_rec.specs.Asking.{OracleState}
use Rattle.mus_shrink.specs.Candidate.{IsCandidate, TellsTried}

pub IsSubset-from_without : (set : List ℕ) (g : ℕ) → IsSubset (without set g) set
IsSubset-from_without set g h i = (and_parts (not (eqb h g)) (has set h) (sym (has-without set g h) ∙ i)).1

pub has-without_itself : (set : List ℕ) (g : ℕ) → has (without set g) g ≡ false
has-without_itself set g = has-without set g g ∙ ap (λ b. not b && has set g) (eq-eqb g g refl)

IsSubset-both_without : (small large : List ℕ) (g : ℕ) → IsSubset small large → IsSubset (without small g) (without large g)
IsSubset-both_without small large g sub h i =
    let parts = and_parts (not (eqb h g)) (has small h) (sym (has-without small g h) ∙ i) in
    has-without large g h ∙ and_from (not (eqb h g)) (has large h) parts.0 (sub h parts.1)

-- a critical group is in each unsatisfiable part of the set
has-critical : (p : Problem) (set core : List ℕ) (g : ℕ) (w : List Bool) → IsSubset core set → ¬ Sat p core → is_witness p (without set g) w ≡ true
    → has core g ≡ true
has-critical p set core g w sub unsat witness =
    elim (cases_Bool (has core g)) [
      | inl inside ↦ inside
      | inr out ↦
          absurd (unsat (Sat-from_witness p core w (is_witness-subset p core (without set g) w (IsSubset-without core set g sub out) witness)))
    ]

-- the witnesses of critical groups serve each unsatisfiable part of the set, and none of these groups leaves
witnessed-core : (p : Problem) (set core tried : List ℕ) (ws : List (List Bool)) → IsSubset core set → ¬ Sat p core
    → each_passes (λ g w. is_witness p (without set g) w) (filter (has set) tried) ws ≡ true
    → each_passes (λ g w. is_witness p (without core g) w) (filter (has core) tried) ws ≡ true
witnessed-core p set core [] ws sub unsat h = h
witnessed-core p set core (g ∷ tried) ws sub unsat h =
    elim (cases_Bool (has set g)) [
      | inr out ↦
          let gone : has core g ≡ false = false_from_ne_true (has core g) (λ i. false≢true (sym out ∙ sub g i)) in
          subst (λ gs. each_passes (λ k w. is_witness p (without core k) w) gs ws ≡ true) (sym (cond-false (has core g) (g ∷ filter (has core) tried) (filter (has core) tried) gone))
          (witnessed-core p set core tried ws sub unsat
          (subst (λ gs. each_passes (λ k w. is_witness p (without set k) w) gs ws ≡ true) (cond-false (has set g) (g ∷ filter (has set) tried) (filter (has set) tried) out) h))
      | inl inside ↦
          first ws (subst (λ gs. each_passes (λ k w. is_witness p (without set k) w) gs ws ≡ true) (cond-true (has set g) (g ∷ filter (has set) tried) (filter (has set) tried) inside) h)
          (λ rest. witnessed-core p set core tried rest sub unsat)
    ]
  where
    first : (ws : List (List Bool)) → each_passes (λ k w. is_witness p (without set k) w) (g ∷ filter (has set) tried) ws ≡ true
        → ((rest : List (List Bool)) → each_passes (λ k w. is_witness p (without set k) w) (filter (has set) tried) rest ≡ true → each_passes (λ k w. is_witness p (without core k) w) (filter (has core) tried) rest ≡ true)
        → each_passes (λ k w. is_witness p (without core k) w) (filter (has core) (g ∷ tried)) ws ≡ true
    first [] h later = absurd (false≢true h)
    first (w ∷ rest) h later =
        let parts = and_parts (is_witness p (without set g) w) (each_passes (λ k w. is_witness p (without set k) w) (filter (has set) tried) rest) h in
        let stays = has-critical p set core g w sub unsat parts.0 in
        subst (λ gs. each_passes (λ k w. is_witness p (without core k) w) gs (w ∷ rest) ≡ true)
        (sym (cond-true (has core g) (g ∷ filter (has core) tried) (filter (has core) tried) stays))
        (and_from (is_witness p (without core g) w) (each_passes (λ k w. is_witness p (without core k) w) (filter (has core) tried) rest)
        (is_witness-subset p (without core g) (without set g) w (IsSubset-both_without core set g sub) parts.0)
        (later rest parts.1))

tried_out : (set tried : List ℕ) (g : ℕ) → has set g ≡ false → filter (has set) (tried ++ g ∷ []) ≡ filter (has set) tried
tried_out set tried g out =
    filter-append (has set) tried (g ∷ []) ∙ ap (λ gs. filter (has set) tried ++ gs) (cond-false (has set g) (g ∷ []) [] out) ∙ append-nil (filter (has set) tried)

tried_in : (set tried : List ℕ) (g : ℕ) → has set g ≡ true → filter (has set) (tried ++ g ∷ []) ≡ filter (has set) tried ++ g ∷ []
tried_in set tried g inside = filter-append (has set) tried (g ∷ []) ∙ ap (λ gs. filter (has set) tried ++ gs) (cond-true (has set g) (g ∷ []) [] inside)

-- a group that is gone
pub candidate-absent : (p : Problem) (set tried : List ℕ) (c : Candidate) (g : ℕ) → has c.set g ≡ false → IsCandidate p set tried c → IsCandidate p set (tried ++ g ∷ []) c
candidate-absent p set tried c g out h =
    record {
      is_set = h.is_set;
      within = h.within;
      refuted = h.refuted;
      witnessed = subst (λ gs. each_passes (λ k w. is_witness p (without c.set k) w) gs c.witnesses ≡ true) (sym (tried_out c.set tried g out)) h.witnessed;
    }

-- a critical group
pub candidate-critical : (p : Problem) (set tried : List ℕ) (c : Candidate) (g : ℕ) (w : List Bool) → has c.set g ≡ true → is_witness p (without c.set g) w ≡ true
    → IsCandidate p set tried c → IsCandidate p set (tried ++ g ∷ []) (record c { witnesses = c.witnesses ++ w ∷ [] })
candidate-critical p set tried c g w inside witness h =
    record {
      is_set = h.is_set;
      within = h.within;
      refuted = h.refuted;
      witnessed =
          subst (λ gs. each_passes (λ k w. is_witness p (without c.set k) w) gs (c.witnesses ++ w ∷ []) ≡ true) (sym (tried_in c.set tried g inside))
          (each_passes-push (λ k w. is_witness p (without c.set k) w) (filter (has c.set) tried) c.witnesses g w h.witnessed witness);
    }

-- a core without the group
pub candidate-core : (p : Problem) (set tried : List ℕ) (c : Candidate) (g : ℕ) (core : List ℕ) (proof : Derivation) → IsGroupSet core → IsSubset core (without c.set g) → ¬ Sat p core
    → refutes p core proof ≡ true → IsCandidate p set tried c → IsCandidate p set (tried ++ g ∷ []) (record c { set = core; proof = proof })
candidate-core p set tried c g core proof is_set sub unsat refuted h =
    let smaller : IsSubset core c.set = λ k i. IsSubset-from_without c.set g k (sub k i) in
    let out : has core g ≡ false = false_from_ne_true (has core g) (λ i. false≢true (sym (has-without_itself c.set g) ∙ sub g i)) in
    record {
      is_set = is_set;
      within = λ k i. h.within k (smaller k i);
      refuted = refuted;
      witnessed =
          subst (λ gs. each_passes (λ k w. is_witness p (without core k) w) gs c.witnesses ≡ true) (sym (tried_out core tried g out))
          (witnessed-core p c.set core tried c.witnesses smaller unsat h.witnessed);
    }

-- no group is in the front
none_before : (low g : ℕ) (gs : List ℕ) → AscendsAbove low gs → g ≤ low → has gs g ≡ false
none_before low g [] h le = refl
none_before low g (x ∷ xs) h le =
    let above = h.0 in
    let other : eqb x g ≡ false = false_from_ne_true (eqb x g) (λ e. let same : x ≡ g = eqb-true x g e in absurd (omega arith)) in
    ap (λ b. b || has xs g) other ∙ none_before x g xs h.1 (omega arith)

apart : (x y : ℕ) (xs ys : List ℕ) → AscendsAbove y ys → x < y → has (x ∷ xs) x ≡ has (y ∷ ys) x → ⊥
apart x y xs ys h lt same =
    let other : eqb y x ≡ false = false_from_ne_true (eqb y x) (λ e. let equal : y ≡ x = eqb-true y x e in absurd (omega arith)) in
    let out : has (y ∷ ys) x ≡ false = ap (λ b. b || has ys x) other ∙ none_before y x ys h (omega arith) in
    false≢true (sym out ∙ sym same ∙ ap (λ b. b || has xs x) (eq-eqb x x refl))

-- two ascending lists of the same groups are one
same_groups : (low : ℕ) (xs ys : List ℕ) → AscendsAbove low xs → AscendsAbove low ys → ((g : ℕ) → has xs g ≡ has ys g) → xs ≡ ys
same_groups low [] [] hx hy same = refl
same_groups low [] (y ∷ ys) hx hy same = absurd (false≢true (same y ∙ ap (λ b. b || has ys y) (eq-eqb y y refl)))
same_groups low (x ∷ xs) [] hx hy same = absurd (false≢true (sym (same x) ∙ ap (λ b. b || has xs x) (eq-eqb x x refl)))
same_groups low (x ∷ xs) (y ∷ ys) hx hy same =
    elim (cases_lt x y) [
      | inl lt ↦ absurd (apart x y xs ys hy.1 lt (same x))
      | inr ge ↦
          elim (cases_lt y x) [
            | inl lt ↦ absurd (apart y x ys xs hx.1 lt (sym (same y)))
            | inr le ↦
                let equal : x ≡ y = omega arith in
                let ascends : AscendsAbove x ys = subst (λ k. AscendsAbove k ys) (sym equal) hy.1 in
                ap (λ k. k ∷ xs) equal ∙ ap (λ ks. y ∷ ks) (same_groups x xs ys hx.1 ascends (tails equal ascends))
          ]
    ]
  where
    tails : x ≡ y → AscendsAbove x ys → (g : ℕ) → has xs g ≡ has ys g
    tails equal ascends g =
        elim (cases_lt x g) [
          | inr le ↦ none_before x g xs hx.1 le ∙ sym (none_before x g ys ascends le)
          | inl lt ↦
              let not_x : eqb x g ≡ false = false_from_ne_true (eqb x g) (λ e. let same_x : x ≡ g = eqb-true x g e in absurd (omega arith)) in
              let not_y : eqb y g ≡ false = false_from_ne_true (eqb y g) (λ e. let same_y : y ≡ g = eqb-true y g e in absurd (omega arith)) in
              sym (ap (λ b. b || has xs g) not_x) ∙ same g ∙ ap (λ b. b || has ys g) not_y
        ]

-- the groups of a set that pass a test and are in a part of it are those of the part that pass it
kept-passing : (q : ℕ → Bool) (set part : List ℕ) → IsGroupSet set → IsGroupSet part → IsSubset part set
    → filter (has part) (filter q set) ≡ filter q part
kept-passing q set part ascends part_ascends sub =
    same_groups 0 (filter (has part) (filter q set)) (filter q part)
    (AscendsAbove-filter (has part) 0 (filter q set) (AscendsAbove-filter q 0 set ascends)) (AscendsAbove-filter q 0 part part_ascends)
    (λ g. has-filter (has part) (filter q set) g ∙ ap (λ b. has part g && b) (has-filter q set g) ∙ both g ∙ sym (has-filter q part g))
  where
    both : (g : ℕ) → (has part g && (q g && has set g)) ≡ (q g && has part g)
    both g =
        elim (cases_Bool (has part g)) [
          | inl inside ↦
              ap (λ b. b && (q g && has set g)) inside ∙ ap (λ b. q g && b) (sub g inside ∙ sym inside)
          | inr out ↦
              ap (λ b. b && (q g && has set g)) out ∙ sym (ap (λ b. q g && b) out ∙ none (q g))
        ]
      where
        none : (b : Bool) → (b && false) ≡ false
        none true = refl
        none false = refl

widths : (p : Problem) (set gs : List ℕ) (ws : List (List Bool)) → each_passes (λ g w. is_witness p (without set g) w) gs ws ≡ true
    → AllByRecursion (λ (w : List Bool). length w ≡ p.vars) ws
widths p set [] [] h = tt
widths p set [] (w ∷ ws) h = absurd (false≢true h)
widths p set (g ∷ gs) [] h = absurd (false≢true h)
widths p set (g ∷ gs) (w ∷ ws) h =
    let parts = and_parts (is_witness p (without set g) w) (each_passes (λ g w. is_witness p (without set g) w) gs ws) h in
    let width = (and_parts (eqb (length w) p.vars) (satisfies p (without set g) w) parts.0).0 in
    (eqb-true (length w) p.vars width, widths p set gs ws parts.1)

-- no group was tried yet
pub candidate-untried : (p : Problem) (c : Candidate) → IsGroupSet c.set → refutes p c.set c.proof ≡ true → c.witnesses ≡ []
    → IsCandidate p c.set [] c
candidate-untried p c is_set refuted none =
    record {
      is_set = is_set;
      within = λ g i. i;
      refuted = refuted;
      witnessed = ap (each_passes (λ g w. is_witness p (without c.set g) w) []) none;
    }

-- these groups were tried
pub candidate-tried : (o : OracleState) (old new : Candidate) (groups : List ℕ) (left : ℕ) (dry : Option (List ℕ)) → IsCandidate o.problem old.set [] old
    → dry ≡ None → TellsTried o old groups new left dry → IsCandidate o.problem old.set groups new
candidate-tried o old new groups left dry untried none told = subst (TellsTried o old groups new left) none told old.set [] untried

-- two lists of witnesses become one for all groups of the set
abbrev pub Merges : List ℕ → List ℕ → List (List Bool) → List (List Bool) → List (List Bool) → Type 0
Merges last set others lasts all =
    (test : ℕ → List Bool → Bool) → each_passes test (filter (λ g. not (has last g)) set) others ≡ true
    → each_passes test (filter (has last) set) lasts ≡ true → each_passes test set all ≡ true

-- the others were tried, and then the last ones
witnessed-merged : (p : Problem) (set last : List ℕ) (first then : Candidate) (all : List (List Bool)) → IsProblem p → IsGroupSet set
    → IsCandidate p set (filter (λ g. not (has last g)) set) first → IsCandidate p first.set (filter (has last) set) then
    → Merges last then.set first.witnesses then.witnesses all
    → each_passes (λ g w. is_witness p (without then.set g) w) then.set all ≡ true
witnessed-merged p set last first then all good ascends h k merges =
    let test : ℕ → List Bool → Bool = λ g w. is_witness p (without then.set g) w in
    let unsat = refutes-sound p then.set then.proof good k.is_set k.refuted in
    let within : IsSubset then.set set = λ g i. h.within g (k.within g i) in
    merges test
    (subst (λ gs. each_passes test gs first.witnesses ≡ true) (kept-passing (λ g. not (has last g)) set then.set ascends k.is_set within)
    (witnessed-core p first.set then.set (filter (λ g. not (has last g)) set) first.witnesses k.within unsat h.witnessed))
    (subst (λ gs. each_passes test gs then.witnesses ≡ true) (kept-passing (has last) set then.set ascends k.is_set within) k.witnessed)

pub AcceptsConflict-from_candidates : (p : Problem) (set last : List ℕ) (first then : Candidate) (all : List (List Bool)) → IsProblem p → IsGroupSet set
    → IsCandidate p set (filter (λ g. not (has last g)) set) first → IsCandidate p first.set (filter (has last) set) then
    → Merges last then.set first.witnesses then.witnesses all
    → AcceptsConflict p then.set then.proof all
AcceptsConflict-from_candidates p set last first then all good ascends h k merges =
    record { is_set = k.is_set; refuted = k.refuted; witnessed = witnessed-merged p set last first then all good ascends h k merges }

pub IsShaped-from_candidates : (p : Problem) (set last : List ℕ) (first then : Candidate) (all : List (List Bool)) → IsProblem p → IsGroupSet set
    → IsCandidate p set (filter (λ g. not (has last g)) set) first → IsCandidate p first.set (filter (has last) set) then
    → Merges last then.set first.witnesses then.witnesses all
    → (length all ≡ length then.set) × All (λ (w : List Bool). length w ≡ p.vars) all
IsShaped-from_candidates p set last first then all good ascends h k merges =
    let passes = witnessed-merged p set last first then all good ascends h k merges in (
      length-each_passes (λ g w. is_witness p (without then.set g) w) then.set all passes,
      All-from_recursion (λ (w : List Bool). length w ≡ p.vars) all (widths p then.set then.set all passes),
    )
