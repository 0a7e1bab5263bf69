-- What a walk over records marks.
use Rattle.std.proofs.Common.{◌≡◌, ℕ, zero, suc, ◌+◌, ◌<◌, Bool, true, false, ◌||◌, cond, List, [], ◌∷◌, ◌++◌, length, take, get_or, map, replicate, refl, sym, ◌∙◌, ap, ap₂, subst, arith, eqb}
use Rattle.std.proofs.Math.Bool.{or-false}
use Rattle.std.specs.List.{list_any}
use Rattle.std.proofs.lemmas.Grind.{take_at_read}
use Rattle.std.proofs.lemmas.List.{get_or_default, get_or-replicate, length-replicate, map-append}
use Rattle.std.proofs.lemmas.List.Folds.{list_any-append}
use Rattle.gm_base.specs.Sets.{has, IsSubset, all_groups}
use Rattle.gm_base.proofs.SetLemmas.{range_with_len_more}
use Rattle.gm_base.specs.Explored.{Found}
use Rattle.gm_base.specs.Roles.{is_met, is_alone, stands_alone}
use Rattle.gm_base.specs.declared.role.Role.{Role}
use Rattle.gm_base.specs.declared.kind.Kind.{Kind}
use Rattle.gm_base.specs.declared.kind.Kind.TheVariants as kinds
use Rattle.evidence_rec.specs.declared.record.Record.{Record}
use Rattle.evidence_rec.specs.declared.record.Record.TheVariants.{Conflict, Correction}
use Rattle.evidence_rec.specs.Records.{kind_of, set_of, found_of, founds}
use Rattle.map_core.specs.Laws.{told_role}
use Rattle.map_core.specs.Tallies.{IsMet}
use Rattle.map_core.proofs.TallySteps.{IsMet-start}
use Rattle.focus_roles.specs.declared.roles.Marks.{Marks}
use Rattle.focus_roles.specs.Marked.{IsMarkedBy, AreMarked, lone_group, role_by}

-- at first nothing is marked
pub marked-none : (groups : ℕ) (test : ℕ → Bool) (marks : List Bool) → ((g : ℕ) → test g ≡ false) → marks ≡ replicate groups false → IsMarkedBy test groups marks
marked-none groups test marks none is = record {
  size = ap length is ∙ length-replicate groups false;
  at = λ i low. ap (λ ms. get_or ms i true) is ∙ get_or-replicate groups i false true low ∙ sym (none (i + 1));
}

-- the groups of a set are marked too
pub marked-set : (was now : ℕ → Bool) (groups : ℕ) (set : List ℕ) (old new : List Bool) → IsMarkedBy was groups old → IsMet set old new
    → ((g : ℕ) → now g ≡ (was g || has set g)) → IsMarkedBy now groups new
marked-set was now groups set old new marked met each = record {
  size = met.size ∙ marked.size;
  at = λ i low. met.at i (subst (λ n. i < n) (sym marked.size) low) ∙ ap (λ b. b || has set (i + 1)) (marked.at i low) ∙ sym (each (i + 1));
}

-- one record more
pub founds-more : (records : List Record) (k : ℕ) (d : Record) → k < length records
    → founds (take (k + 1) records) ≡ founds (take k records) ++ found_of (get_or records k d) ∷ []
founds-more records k d low =
    ap founds (take_at_read records k d low).1 ∙ map-append found_of (take k records) (get_or records k d ∷ [])

any-more : (test : Found → Bool) (sets : List Found) (f : Found) → list_any test (sets ++ f ∷ []) ≡ (list_any test sets || test f)
any-more test sets f = list_any-append test sets (f ∷ []) ∙ ap (λ b. list_any test sets || b) (or-false (test f))

lone-has : (r : Record) (g : ℕ) → is_alone (kind_of r) (set_of r) g ≡ has (lone_group r) g
lone-has (Conflict set proof ws) g = refl
lone-has (Correction [] w proofs) g = refl
lone-has (Correction (h ∷ []) w proofs) g = sym (or-false (eqb h g))
lone-has (Correction (h ∷ i ∷ set) w proofs) g = refl

pub met-more : (records : List Record) (k : ℕ) (d : Record) (g : ℕ) → k < length records
    → is_met (founds (take (k + 1) records)) g ≡ (is_met (founds (take k records)) g || has (set_of (get_or records k d)) g)
met-more records k d g low =
    ap (λ fs. is_met fs g) (founds-more records k d low) ∙ any-more (λ f. has f.set g) (founds (take k records)) (found_of (get_or records k d))

pub alone-more : (records : List Record) (k : ℕ) (d : Record) (g : ℕ) → k < length records
    → stands_alone (founds (take (k + 1) records)) g ≡ (stands_alone (founds (take k records)) g || has (lone_group (get_or records k d)) g)
alone-more records k d g low =
    ap (λ fs. stands_alone fs g) (founds-more records k d low)
    ∙ any-more (λ f. is_alone f.kind f.set g) (founds (take k records)) (found_of (get_or records k d))
    ∙ ap (λ b. stands_alone (founds (take k records)) g || b) (lone-has (get_or records k d) g)

-- the lone group of a correction of one group, and none of another record
pub lone-is : (r : Record) → kind_of r ≡ kinds.Correction → length (set_of r) ≡ 1 → lone_group r ≡ set_of r
lone-is (Conflict set proof ws) k one = let never : kinds.Conflict ≡ kinds.Correction = k in cc
lone-is (Correction [] w proofs) k one = absurd (omega arith)
lone-is (Correction (g ∷ []) w proofs) k one = refl
lone-is (Correction (g ∷ h ∷ set) w proofs) k one = absurd (omega arith)

pub lone-other : (r : Record) → ¬ ((kind_of r ≡ kinds.Correction) × (length (set_of r) ≡ 1)) → lone_group r ≡ []
lone-other (Conflict set proof ws) other = refl
lone-other (Correction [] w proofs) other = refl
lone-other (Correction (g ∷ []) w proofs) other = absurd (other (refl, refl))
lone-other (Correction (g ∷ h ∷ set) w proofs) other = refl

-- the role of one group more
pub roles-more : (sets : List Found) (k : ℕ) → map (told_role sets) (all_groups (k + 1)) ≡ map (told_role sets) (all_groups k) ++ told_role sets (k + 1) ∷ []
roles-more sets k =
    let one : k + 1 ≡ suc k = omega arith in
    let last : 1 + k ≡ k + 1 = omega arith in
    ap (λ n. map (told_role sets) (all_groups n)) one ∙ ap (map (told_role sets)) (range_with_len_more 1 k)
    ∙ map-append (told_role sets) (all_groups k) ((1 + k) ∷ []) ∙ ap (λ g. map (told_role sets) (all_groups k) ++ told_role sets g ∷ []) last

pub role-marked : (groups : ℕ) (sets : List Found) (marks : Marks) (i : ℕ) (met alone : Bool) → AreMarked groups sets marks → i < groups
    → met ≡ get_or marks.met.items i met → alone ≡ get_or marks.alone.items i alone → role_by met alone ≡ told_role sets (i + 1)
role-marked groups sets marks i met alone marked low here there =
    ap₂ role_by
    (here ∙ get_or_default marks.met.items i met true (subst (λ n. i < n) (sym marked.met.size) low) ∙ marked.met.at i low)
    (there ∙ get_or_default marks.alone.items i alone true (subst (λ n. i < n) (sym marked.alone.size) low) ∙ marked.alone.at i low)
