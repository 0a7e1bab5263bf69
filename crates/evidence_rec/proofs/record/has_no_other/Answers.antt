use Rattle.std.proofs.Common.{◌≡◌, ◌∙◌, List, ℕ, true, false, not, ap, sym, subst, arith}
use Rattle.std.proofs.lemmas.List.{take_all}
use Rattle.std.proofs.lemmas.List.Folds.{list_all_at}
use Rattle.gm_base.specs.Sets.{has, without}
use Rattle.evidence_rec.proofs.ApartLemmas.{are_apart, apart-sym}
use Rattle.evidence_rec.proofs.record.has_no_other.Goals as goal

-- another group is in both
pub returns-then-is_another : goal.returns-then-is_another
returns-then-is_another c =
    let set = c.as_slice-other-items.result.now in
    let failed : are_apart c.args.group set c.args.groups.now ≡ false =
    list_all_at (λ h. not (has (without c.args.groups.now c.args.group) h)) set c.loop-other.other-index 0 (omega arith)
    (ap not (sym c.is_another.ensures ∙ c.if-is_another.true)) in
    sym
    (apart-sym c.args.group c.args.groups.now c.args.set.now
    ∙ subst (λ (s : List ℕ). are_apart c.args.group s c.args.groups.now ≡ false) c.as_slice-other-items.ensures.groups failed)

-- no other group is in both
pub returns : goal.returns
returns c =
    let set = c.as_slice-other-items.result.now in
    let passed : are_apart c.args.group set c.args.groups.now ≡ true =
    subst (λ (s : List ℕ). are_apart c.args.group s c.args.groups.now ≡ true) (take_all c.loop-other.other-index set (omega arith)) c.loop-other.invariant in
    sym
    (apart-sym c.args.group c.args.groups.now c.args.set.now
    ∙ subst (λ (s : List ℕ). are_apart c.args.group s c.args.groups.now ≡ true) c.as_slice-other-items.ensures.groups passed)
