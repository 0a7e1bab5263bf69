-- What an old correction grows into has among the old groups just those of the correction.
use Rattle.std.proofs.Common.{◌≡◌, ℕ, true, false, List, sym, ◌∙◌, leb, arith}
use Rattle.std.specs.Prelude.{◌&&◌}
use Rattle.std.proofs.lemmas.Bool.{and_parts, and_from, false≢true, false_from_ne_true, true_from_ne_false, le-leb, leb-true}
use Rattle.gm_base.specs.Sets.{has, IsSubset, IsGroupSet, all_groups, complement}
use Rattle.gm_base.specs.Problem.{Problem, IsProblem, Sat}
use Rattle.gm_base.specs.Minimal.{IsCorrection}
use Rattle.gm_base.proofs.SetLemmas.{AscendsAbove-filter, AscendsAbove-has, AscendsAbove-same, has-filter, has-all_groups, all_groups-has, has-complement-from, has-complement-parts}
use Rattle.gm_base.proofs.SatLemmas.{Sat-subset}
use Rattle.edit_session.specs.Extends.{Extends}
use Rattle.edit_session.specs.Opening.{up_to}
use Rattle.edit_session.proofs.WitnessLemmas.{Sat-cut}

has-up_to : (groups : ℕ) (set : List ℕ) (g : ℕ) → has (up_to groups set) g ≡ (leb g groups && has set g)
has-up_to groups set g = has-filter (λ k. leb k groups) set g

pub regrown-old : (old new : Problem) (set grown : List ℕ) → IsProblem old → Extends old new → IsGroupSet set → IsSubset set (all_groups old.groups) → IsCorrection old set → IsGroupSet grown
    → Sat new (complement new.groups grown) → ((g : ℕ) → has grown g ≡ true → has (complement old.groups set) g ≡ false) → up_to old.groups grown ≡ set
regrown-old old new set grown ok e is_set within minimal is_grown sat outside =
    AscendsAbove-same 0 (up_to old.groups grown) set (AscendsAbove-filter (λ k. leb k old.groups) 0 grown is_grown) is_set inside
    (λ g on. true_from_ne_false (has (up_to old.groups grown) g) (λ off. minimal.minimal (up_to old.groups grown) (inside, (g, on, off)) satisfied))
  where
    inside : IsSubset (up_to old.groups grown) set
    inside g i =
        let parts = and_parts (leb g old.groups) (has grown g) (sym (has-up_to old.groups grown g) ∙ i) in
        let all = has-all_groups old.groups g (AscendsAbove-has 0 grown g is_grown parts.1) (leb-true g old.groups parts.0) in
        true_from_ne_false (has set g) (λ off. false≢true (sym (outside g parts.1) ∙ has-complement-from old.groups set g all off))

    satisfied : Sat old (complement old.groups (up_to old.groups grown))
    satisfied =
        Sat-subset old (complement old.groups (up_to old.groups grown)) (complement new.groups grown)
        (λ g i.
        let parts = has-complement-parts old.groups (up_to old.groups grown) g i in
        let range = all_groups-has old.groups g parts.1 in
        let low = range.0 in
        let high = range.1 in
        let more = e.groups in
        has-complement-from new.groups grown g (has-all_groups new.groups g low (omega arith))
        (false_from_ne_true (has grown g)
        (λ on. false≢true (sym parts.0 ∙ has-up_to old.groups grown g ∙ and_from (leb g old.groups) (has grown g) (le-leb g old.groups high) on))))
        (Sat-cut old new (complement new.groups grown) ok e sat)
