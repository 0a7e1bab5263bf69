-- Records that hold all minimal sets tell the role of each group, and so do those that settle it.
use Rattle.std.proofs.Common.{◌≡◌, ◌⊎◌, ℕ, ◌<◌, Bool, true, false, not, ◌&&◌, ◌||◌, cond, List, [], ◌∷◌, map, refl, sym, ◌∙◌, ap, ap₂, subst, inl, inr, eqb, arith, Vec, Global}
use Rattle.std.specs.Prelude.{Result, Ok, Err, IfOk}
use Rattle.std.specs.declared.alloc.AllocError.{AllocError}
use Rattle.std.specs.List.{list_any, list_all, AllByRecursion}
use Rattle.std.proofs.lemmas.Bool.{false≢true, or_cases, or_left, or_right, and_from, and_parts, cases_Bool, false_from_ne_true, true_from_ne_false, eqb-true, eq-eqb}
use Rattle.sat_base.specs.Members.{In}
use Rattle.sat_base.proofs.Members.{any_from}
use Rattle.gm_base.specs.Sets.{has, IsGroupSet, IsSubset, all_groups, complement, without, subsets}
use Rattle.gm_base.specs.Problem.{Problem, IsProblem, Sat}
use Rattle.gm_base.specs.Minimal.{IsConflict, IsCorrection, conflicts, is_conflict}
use Rattle.gm_base.specs.Laws.{IsSetOf, AreDisjoint}
use Rattle.gm_base.specs.Explored.{Found}
use Rattle.gm_base.specs.Roles.{role, is_met, is_lacked, lacks, is_alone, stands_alone, is_settled, are_settled}
use Rattle.gm_base.specs.declared.role.Role.{Role}
use Rattle.gm_base.specs.declared.role.Role.TheVariants.{InEvery, InSome, InNone}
use Rattle.gm_base.specs.declared.kind.Kind.{Kind}
use Rattle.gm_base.specs.declared.kind.Kind.TheVariants as kinds
use Rattle.gm_base.proofs.SetLemmas.{has-head, has-complement-parts, has-complement-from}
use Rattle.gm_base.proofs.SatLemmas.{Sat-subset}
use Rattle.gm_base.proofs.Singles.{IsProperSubset-without, IsSubset-complement}
use Rattle.gm_base.proofs.TestLemmas.{IsConflict-from_test}
use Rattle.gm_base.proofs.HittingLemmas.{holds-or_misses}
use Rattle.evidence_rec.specs.declared.record.Record.{Record}
use Rattle.evidence_rec.specs.declared.record.Record.TheVariants.{Conflict, Correction}
use Rattle.evidence_rec.specs.Records.{kind_of, set_of, found_of, founds, AllAccepted, IsRight}
use Rattle.evidence_rec.specs.Held.{HoldsAll, is_held, same_kind, same_set, and_also}
use Rattle.evidence_rec.proofs.AcceptedLemmas.{accepted-right}
use Rattle.evidence_rec.proofs.SetListLemmas.{filter-In, subsets-In, same-is}
use Rattle.map_core.specs.Laws.{told_role}
use Rattle.map_core.proofs.Roles.{role-told}
use Rattle.focus_roles.specs.Told.{TellRoles, roles}

-- ---- what is held is found

and_both : (a b : Bool) → and_also a b ≡ true → (a ≡ true) × (b ≡ true)
and_both true b h = (refl, h)
and_both false b h = absurd (false≢true h)

kind-is : (k kind : Kind) → same_kind k kind ≡ true → k ≡ kind
kind-is kinds.Conflict kinds.Conflict h = refl
kind-is kinds.Correction kinds.Correction h = refl
kind-is kinds.Conflict kinds.Correction h = absurd (false≢true h)
kind-is kinds.Correction kinds.Conflict h = absurd (false≢true h)

-- a test of a set that is held
held-found : (test : Kind → List ℕ → Bool) (rs : List Record) (kind : Kind) (set : List ℕ) → is_held rs kind set ≡ true → test kind set ≡ true
    → list_any (λ (f : Found). test f.kind f.set) (founds rs) ≡ true
held-found test [] kind set h t = absurd (false≢true h)
held-found test (r ∷ rs) kind set h t =
    elim (or_cases (and_also (same_kind (kind_of r) kind) (same_set (set_of r) set)) (is_held rs kind set) h) [
      | inl here ↦
          let (k, s) = and_both (same_kind (kind_of r) kind) (same_set (set_of r) set) here in
          or_left (test (kind_of r) (set_of r)) (list_any (λ (f : Found). test f.kind f.set) (founds rs))
          (ap₂ test (kind-is (kind_of r) kind k) (same-is (set_of r) set s) ∙ t)
      | inr more ↦
          or_right (test (kind_of r) (set_of r)) (list_any (λ (f : Found). test f.kind f.set) (founds rs)) (held-found test rs kind set more t)
    ]

-- a right record whose set has the group
right-met : (p : Problem) (rs : List Record) (g : ℕ) → AllByRecursion (IsRight p) rs → is_met (founds rs) g ≡ true
    → (r : Record) × IsRight p r × (has (set_of r) g ≡ true)
right-met p [] g all h = absurd (false≢true h)
right-met p (r ∷ rs) g all h =
    elim (or_cases (has (set_of r) g) (is_met (founds rs) g) h) [ inl e ↦ (r, all.0, e) | inr more ↦ right-met p rs g all.1 more ]

-- ---- a group of a set that is held, where all are

-- where a set has a group, not all groups can hold together
clashes : (p : Problem) (r : Record) (g : ℕ) → IsRight p r → has (set_of r) g ≡ true → ¬ Sat p (complement p.groups [])
clashes p (Conflict set proof ws) g right i sat =
    right.minimal.unsat (Sat-subset p set (complement p.groups []) (λ h j. has-complement-from p.groups [] h (right.within h j) refl) sat)
clashes p (Correction set w proofs) g right i sat =
    right.minimal.minimal (without set g) (IsProperSubset-without set g i)
    (Sat-subset p (complement p.groups (without set g)) (complement p.groups []) (IsSubset-complement p.groups [] (without set g) (λ h none. absurd (false≢true none))) sat)

-- a set of at most this one group
at_most : (c : List ℕ) (g : ℕ) → IsGroupSet c → ((h : ℕ) → has c h ≡ true → h ≡ g) → (c ≡ []) ⊎ (c ≡ g ∷ [])
at_most [] g is each = inl refl
at_most (h ∷ []) g is each = inr (ap (λ n. n ∷ []) (each h (has-head h [])))
at_most (h ∷ i ∷ c) g is each =
    let first : h ≡ g = each h (has-head h (i ∷ c)) in
    let second : i ≡ g = each i (or_right (eqb h i) (has (i ∷ c) i) (has-head i c)) in
    let above : h < i = is.1.0 in
    absurd (omega arith)

held-settled : (p : Problem) (rs : List Record) (g : ℕ) → AllByRecursion (IsRight p) rs → HoldsAll p rs → has (all_groups p.groups) g ≡ true
    → is_met (founds rs) g ≡ true → is_settled (founds rs) g ≡ true
held-settled p rs g right all within met =
    and_from (is_met (founds rs) g) (stands_alone (founds rs) g || is_lacked (founds rs) g) met
    (elim (holds-or_misses p (complement p.groups (g ∷ [])) (λ h i. (has-complement-parts p.groups (g ∷ []) h i).1)) [
      | inl (u, of, conflict, sub) ↦
          or_right (stands_alone (founds rs) g) (is_lacked (founds rs) g)
          (held-found (λ k s. lacks k s g) rs kinds.Conflict u (all.conflicts u of.0 of.1 conflict) (ap not (out u sub)))
      | inr (c, of, correction, apart) ↦
          elim (at_most c g of.0 (one c of.1 apart)) [
            | inl none ↦
                let (r, ok, i) = right-met p rs g right met in
                absurd (clashes p r g ok i (subst (λ s. Sat p (complement p.groups s)) none correction.sat))
            | inr lone ↦
                or_left (stands_alone (founds rs) g) (is_lacked (founds rs) g)
                (held-found (λ k s. is_alone k s g) rs kinds.Correction c (all.corrections c of.0 of.1 correction)
                (ap (λ s. is_alone kinds.Correction s g) lone ∙ eq-eqb g g refl))
          ]
    ])
  where
    -- a set outside the group lacks it
    out : (u : List ℕ) → IsSubset u (complement p.groups (g ∷ [])) → has u g ≡ false
    out u sub =
        false_from_ne_true (has u g)
        (λ i. false≢true (sym (has-complement-parts p.groups (g ∷ []) g (sub g i)).0 ∙ has-head g []))

    -- a set apart from all others has it alone
    one : (c : List ℕ) → IsSubset c (all_groups p.groups) → AreDisjoint c (complement p.groups (g ∷ [])) → (h : ℕ) → has c h ≡ true → h ≡ g
    one c of apart h i =
        elim (cases_Bool (eqb g h)) [
          | inl same ↦ sym (eqb-true g h same)
          | inr other ↦
              absurd (false≢true (sym (apart h i) ∙ has-complement-from p.groups (g ∷ []) h (of h i) (ap (λ b. b || false) other)))
        ]

-- ---- a group of none

-- it is in no conflict where all are held
unmet-none : (p : Problem) (rs : List Record) (g : ℕ) → HoldsAll p rs → is_met (founds rs) g ≡ false → list_any (λ set. has set g) (conflicts p) ≡ false
unfolding conflicts
unmet-none p rs g all unmet =
    false_from_ne_true (list_any (λ set. has set g) (conflicts p))
    (λ some.
    let (u, i, inside) = any_from (λ set. has set g) (conflicts p) some in
    let (there, test) = filter-In (is_conflict p) u (subsets p.groups) i in
    let of = subsets-In p.groups u there in
    false≢true (sym unmet ∙ held-found (λ k s. has s g) rs kinds.Conflict u (all.conflicts u of.0 of.1 (IsConflict-from_test p u of.0 test)) inside))

-- ---- each group

held-told : (p : Problem) (rs : List Record) (g : ℕ) → AllByRecursion (IsRight p) rs → HoldsAll p rs → has (all_groups p.groups) g ≡ true
    → told_role (founds rs) g ≡ role p g
held-told p rs g right all within =
    elim (cases_Bool (is_met (founds rs) g)) [
      | inl met ↦ sym (role-told p rs g right (held-settled p rs g right all within met))
      | inr unmet ↦
          ap (λ b. cond b (cond (stands_alone (founds rs) g) InEvery InSome) InNone) unmet
          ∙ sym (ap (λ b. cond b (cond (list_all (λ set. has set g) (conflicts p)) InEvery InSome) InNone) (unmet-none p rs g all unmet))
    ]

group-at : (q : ℕ → Bool) (gs : List ℕ) (g : ℕ) → list_all q gs ≡ true → has gs g ≡ true → q g ≡ true
group-at q [] g h i = absurd (false≢true i)
group-at q (x ∷ xs) g h i =
    let parts = and_parts (q x) (list_all q xs) h in
    elim (or_cases (eqb x g) (has xs g) i) [ inl e ↦ ap q (sym (eqb-true x g e)) ∙ parts.0 | inr more ↦ group-at q xs g parts.1 more ]

each-told : (p : Problem) (rs : List Record) (g : ℕ) → TellRoles p rs → has (all_groups p.groups) g ≡ true → told_role (founds rs) g ≡ role p g
each-told p rs g h within =
    let right = accepted-right p rs h.problem h.accepted in
    elim h.enough [
      | inl all ↦ held-told p rs g right all within
      | inr settled ↦ sym (role-told p rs g right (group-at (is_settled (founds rs)) (all_groups p.groups) g settled within))
    ]

map-by : (f h : ℕ → Role) (gs : List ℕ) → ((g : ℕ) → has gs g ≡ true → f g ≡ h g) → map f gs ≡ map h gs
map-by f h [] each = refl
map-by f h (g ∷ gs) each = ap₂ (λ r rs. r ∷ rs) (each g (has-head g gs)) (map-by f h gs (λ k i. each k (or_right (eqb g k) (has gs k) i)))

-- the roles that records tell are those of the problem
roles-told : (p : Problem) (groups : ℕ) (rs : List Record) (told : List Role) → p.groups ≡ groups → TellRoles p rs
    → told ≡ map (told_role (founds rs)) (all_groups groups) → told ≡ roles p
roles-told p groups rs told same h is =
    is ∙ ap (λ n. map (told_role (founds rs)) (all_groups n)) (sym same) ∙ map-by (told_role (founds rs)) (role p) (all_groups p.groups) (λ g i. each-told p rs g h i)

pub roles-result : (p : Problem) (groups : ℕ) (rs : List Record) (r : Result (Vec Role Global) AllocError) → p.groups ≡ groups → TellRoles p rs
    → IfOk r (λ told. told.items ≡ map (told_role (founds rs)) (all_groups groups)) → IfOk r (λ told. told.items ≡ roles p)
roles-result p groups rs (Ok told) same h is = roles-told p groups rs told.items same h is
roles-result p groups rs (Err _) same h is = tt
