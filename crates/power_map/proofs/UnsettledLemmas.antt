-- All groups but an unsettled one.
use Rattle.std.proofs.Common.{◌≡◌, ℕ, ◌+◌, ◌<◌, ◌≤◌, Bool, true, false, not, ◌||◌, eqb, List, [], ◌∷◌, ◌++◌, length, take, get_or, refl, sym, ◌∙◌, ap, subst, inl, inr, arith}
use Rattle.std.specs.List.{list_all, list_any, filter}
use Rattle.std.proofs.lemmas.Bool.{false≢true, false_from_ne_true, true_from_ne_false, or_left, or_right, and_parts, cases_Bool, cond-true, eqb-true, eq-eqb, not-true}
use Rattle.std.proofs.lemmas.List.{take_more}
use Rattle.std.proofs.lemmas.List.Folds.{list_any-append}
use Rattle.gm_base.specs.declared.kind.Side.{Side}
use Rattle.gm_base.specs.declared.kind.Side.TheVariants.{Up, Down}
use Rattle.sat_base.specs.Members.{In}
use Rattle.sat_base.proofs.Members.{all_at, all_from, any_at, any_from}
use Rattle.sat_base.proofs.DatabaseLemmas.{get_in}
use Rattle.gm_base.specs.Sets.{has, IsSubset, IsGroupSet, IsProperSubset, all_groups, complement}
use Rattle.gm_base.specs.Explored.{Found, block_of, explores, is_explored, IsUnexplored}
use Rattle.gm_base.proofs.SetLemmas.{has-complement-parts, has-complement-from, IsSubset-from_all, IsGroupSet-complement, AscendsAbove-same, AscendsAbove-range, has-head, has-filter, all_groups-has}
use Rattle.std.specs.Prelude.{ℤ}
use Rattle.lrat_steps.specs.Log.{inputs_of}
use Rattle.cdcl_core.specs.Solver.{Solver}
use Rattle.cdcl_core.specs.Answers.{IsHonestlyPaid}
use Rattle.power_map.specs.Blocks.{blocks_of}
use Rattle.evidence_rec.specs.Seeding.{IsSeed}
use Rattle.evidence_rec.proofs.BlockLemmas.{in_has}
use Rattle.power_map.specs.Unsettled.{leaves, unsettled_behind, IsUnsettled, AreUnsettled}

-- the group that is out
not_there : (groups g : ℕ) → has (complement groups (g ∷ [])) g ≡ true → ⊥
not_there groups g h = false≢true (sym (has-complement-parts groups (g ∷ []) g h).0 ∙ has-head g [])

-- another one
there : (groups g h : ℕ) → has (all_groups groups) h ≡ true → (h ≡ g → ⊥) → has (complement groups (g ∷ [])) h ≡ true
there groups g h all other =
    has-complement-from groups (g ∷ []) h all
    (false_from_ne_true (has (g ∷ []) h)
    (λ i. let (k, j, e) = any_from (λ x. eqb x h) (g ∷ []) i in elim j [ inl same ↦ other (sym (eqb-true k h e) ∙ same) | inr none ↦ none ]))

-- a block that leaves all groups but this one
not_explored : (groups : ℕ) (side : Side) (set : List ℕ) (g : ℕ) → IsSubset set (all_groups groups) → leaves side set g ≡ true
    → explores (block_of side set) (complement groups (g ∷ [])) ≡ false
not_explored groups Up set g within h =
    let rest = complement groups (g ∷ []) in
    false_from_ne_true (list_all (has rest) set) (λ a. not_there groups g (IsSubset-from_all set rest a g h))
not_explored groups Down set g within h =
    let rest = complement groups (g ∷ []) in
    let (k, i, e) = any_from (λ x. not (eqb x g)) set h in
    false_from_ne_true (list_all (λ x. not (has rest x)) set)
    (λ a.
    let out : has rest k ≡ false = not-true (has rest k) (all_at (λ x. not (has rest x)) set k a i) in
    let other : k ≡ g → ⊥ = λ same. false≢true (sym (not-true (eqb k g) e) ∙ eq-eqb k g same) in
    false≢true (sym out ∙ there groups g k (within k (in_has set k i)) other))

-- behind one block more
more : (found : List Found) (f : Found) (s : List ℕ) → is_explored (found ++ f ∷ []) s ≡ (is_explored found s || (explores f s || false))
more found f s = list_any-append (λ x. explores x s) found (f ∷ [])

or_none : (a b : Bool) → a ≡ false → b ≡ false → (a || (b || false)) ≡ false
or_none false false ha hb = refl
or_none false true ha hb = absurd (false≢true (sym hb))
or_none true b ha hb = absurd (false≢true (sym ha))

pub still_unsettled : (groups : ℕ) (found : List Found) (side : Side) (set : List ℕ) (g : ℕ) → IsSubset set (all_groups groups)
    → leaves side set g ≡ true → IsUnsettled groups found g → IsUnsettled groups (found ++ block_of side set ∷ []) g
still_unsettled groups found side set g within h u =
    let f = block_of side set in
    let rest = complement groups (g ∷ []) in
    record {
      low = u.low;
      left = more found f rest ∙ or_none (is_explored found rest) (explores f rest) u.left (not_explored groups side set g within h);
      all = more found f (all_groups groups) ∙ or_left (is_explored found (all_groups groups)) (explores f (all_groups groups) || false) u.all;
    }

-- behind the first block, where that is of a conflict
pub first_is_unsettled : (groups : ℕ) (set : List ℕ) (g : ℕ) → IsSubset set (all_groups groups) → has set g ≡ true
    → IsUnsettled groups (block_of Up set ∷ []) g
first_is_unsettled groups set g within h =
    let rest = complement groups (g ∷ []) in
    record {
      low = (all_groups-has groups g (within g h)).0;
      left = or_none false (explores (block_of Up set) rest) refl (not_explored groups Up set g within h);
      all = or_left (list_all (has (all_groups groups)) set) false (all_from (has (all_groups groups)) set (λ k i. within k (in_has set k i)));
    }

-- no set that is left properly holds all groups but this one
pub unsettled_seed : (groups : ℕ) (found : List Found) (g : ℕ) (set : List ℕ) → IsUnsettled groups found g → set ≡ complement groups (g ∷ [])
    → IsSeed true groups found set
unsettled_seed groups found g set u is =
    let rest = complement groups (g ∷ []) in
    subst (IsSeed true groups found) (sym is)
    (record {
      unexplored = record {
        is_set = IsGroupSet-complement groups (g ∷ []) rest refl;
        within = λ k i. (has-complement-parts groups (g ∷ []) k i).1;
        unexplored = u.left;
      };
      top = λ _ other out holds.
          let (k, inside, lacks) = holds.1 in
          let one : k ≡ g = same_group k lacks (out.within k inside) in
          let full : IsSubset (all_groups groups) other = λ h all.
          elim (cases_Bool (has rest h)) [
            | inl i ↦ holds.0 h i
            | inr n ↦ subst (λ x. has other x ≡ true) (one ∙ sym (same_group h n all)) inside
          ] in
          let same : other ≡ all_groups groups = AscendsAbove-same 0 other (all_groups groups) out.is_set (AscendsAbove-range 0 groups) out.within full in
          false≢true (sym out.unexplored ∙ ap (is_explored found) same ∙ u.all);
    })
  where
    same_group : (k : ℕ) → has (complement groups (g ∷ [])) k ≡ false → has (all_groups groups) k ≡ true → k ≡ g
    same_group k lacks all =
        elim (cases_Bool (eqb k g)) [
          | inl e ↦ eqb-true k g e
          | inr n ↦ absurd (false≢true (sym lacks ∙ there groups g k all (λ same. false≢true (sym n ∙ eq-eqb k g same))))
        ]

-- behind a block

pub unsettled_then : (groups : ℕ) (found : List Found) (begins : Bool) (side : Side) (set old new : List ℕ) → IsSubset set (all_groups groups)
    → (begins ≡ true → found ≡ []) → new ≡ unsettled_behind begins side set old → AreUnsettled groups found old
    → AreUnsettled groups (found ++ block_of side set ∷ []) new
unsettled_then groups found true Up set old new within begins is were g i =
    subst (λ (fs : List Found). IsUnsettled groups (fs ++ block_of Up set ∷ []) g) (sym (begins refl))
    (first_is_unsettled groups set g within (sym (ap (λ (gs : List ℕ). has gs g) is) ∙ i))
unsettled_then groups found true Down set old new within begins is were g i =
    absurd (false≢true (sym (ap (λ (gs : List ℕ). has gs g) is) ∙ i))
unsettled_then groups found false side set old new within begins is were g i =
    let both = and_parts (leaves side set g) (has old g) (sym (has-filter (leaves side set) old g) ∙ sym (ap (λ (gs : List ℕ). has gs g) is) ∙ i) in
    still_unsettled groups found side set g within both.0 (were g both.1)

-- one is handed out

pub last_of : (groups : ℕ) (found : List Found) (old new : List ℕ) (g : ℕ) → old ≡ new ++ g ∷ [] → AreUnsettled groups found old
    → IsUnsettled groups found g
last_of groups found old new g is were =
    were g
    (ap (λ (gs : List ℕ). has gs g) is ∙ list_any-append (λ h. eqb h g) new (g ∷ [])
    ∙ or_right (has new g) (has (g ∷ []) g) (has-head g []))

pub others_of : (groups : ℕ) (found : List Found) (old new tail : List ℕ) → old ≡ new ++ tail → AreUnsettled groups found old
    → AreUnsettled groups found new
others_of groups found old new tail is were k i =
    were k (ap (λ (gs : List ℕ). has gs k) is ∙ list_any-append (λ h. eqb h k) new tail ∙ or_left (has new k) (has tail k) i)

-- a search leaves them unsettled
pub unsettled_searched : (old new : Solver) (before left : ℕ) (sides : List Side) (unsettled : List ℕ) → IsHonestlyPaid old.log new.log before left
    → new.vars ≡ old.vars → AreUnsettled old.vars (blocks_of (inputs_of old.log) sides) unsettled
    → AreUnsettled new.vars (blocks_of (inputs_of new.log) sides) unsettled
unsettled_searched old new before left sides unsettled paid vars h =
    subst (λ n. AreUnsettled n (blocks_of (inputs_of new.log) sides) unsettled) (sym vars)
    (subst (λ (cs : List (List ℤ)). AreUnsettled old.vars (blocks_of cs sides) unsettled) (sym paid.paid.inputs) h)

-- a walk to the first other group

pub none_yet : (g : ℕ) (xs : List ℕ) (i : ℕ) → i < length xs → list_any (λ h. not (eqb h g)) (take i xs) ≡ false → get_or xs i 0 ≡ g
    → list_any (λ h. not (eqb h g)) (take (i + 1) xs) ≡ false
none_yet g xs i within none same =
    let p : ℕ → Bool = λ h. not (eqb h g) in
    ap (list_any p) (take_more xs i 0 within) ∙ list_any-append p (take i xs) (get_or xs i 0 ∷ [])
    ∙ or_none (list_any p (take i xs)) (p (get_or xs i 0)) none (ap not (eq-eqb (get_or xs i 0) g same))

pub one_here : (g : ℕ) (xs : List ℕ) (i : ℕ) → i < length xs → (get_or xs i 0 ≡ g → ⊥) → list_any (λ h. not (eqb h g)) xs ≡ true
one_here g xs i within other =
    any_at (λ h. not (eqb h g)) xs (get_or xs i 0) (get_in xs i 0 within)
    (ap not (false_from_ne_true (eqb (get_or xs i 0) g) (λ e. other (eqb-true (get_or xs i 0) g e))))

-- a correction of two groups has another one than each

pub has_other : (g : ℕ) (set : List ℕ) → IsGroupSet set → 2 ≤ length set → list_any (λ h. not (eqb h g)) set ≡ true
has_other g [] ascends two = absurd (omega arith)
has_other g (a ∷ []) ascends two = absurd (omega arith)
has_other g (a ∷ b ∷ rest) ascends two =
    elim (cases_Bool (eqb a g)) [
      | inr differs ↦ or_left (not (eqb a g)) (list_any (λ h. not (eqb h g)) (b ∷ rest)) (ap not differs)
      | inl first ↦
          let same : a ≡ g = eqb-true a g first in
          let above : a < b = ascends.1.0 in
          let other : eqb b g ≡ false = false_from_ne_true (eqb b g) (λ e. let too : b ≡ g = eqb-true b g e in absurd (omega arith)) in
          or_right (not (eqb a g)) (list_any (λ h. not (eqb h g)) (b ∷ rest)) (or_left (not (eqb b g)) (list_any (λ h. not (eqb h g)) rest) (ap not other))
    ]

pub filter-each : (test : ℕ → Bool) (xs : List ℕ) → ((g : ℕ) → test g ≡ true) → filter test xs ≡ xs
filter-each test [] each = refl
filter-each test (x ∷ xs) each = cond-true (test x) (x ∷ filter test xs) (filter test xs) (each x) ∙ ap (λ ys. x ∷ ys) (filter-each test xs each)

-- nothing is unsettled
pub none_unsettled : (groups : ℕ) (found : List Found) (unsettled : List ℕ) → unsettled ≡ [] → AreUnsettled groups found unsettled
none_unsettled groups found unsettled none g i = absurd (false≢true (sym (ap (λ gs. has gs g) none) ∙ i))
