use Rattle.std.proofs.Common.{◌≡◌, ◌∙◌, ◌++◌, ◌∷◌, [], ℕ, List, true, get_or, ap, subst, sym}
use Rattle.std.specs.Prelude.{ℤ}
use Rattle.gm_base.specs.Sets.{has, IsGroupSet}
use Rattle.gm_base.specs.Explored.{block_of, block_clause}
use Rattle.gm_base.proofs.SetLemmas.{AscendsAbove-at}
use Rattle.sat_base.proofs.DatabaseLemmas.{get_in}
use Rattle.evidence_rec.proofs.BlockLemmas.{in_has, block_lits-next, block_lits-all}
use Rattle.evidence_rec.proofs.blocks.block_lits.Goals as goal

-- a group of a set is not the background
pub literal_of-requires-clause-not_background : goal.literal_of-requires-clause-not_background
literal_of-requires-clause-not_background c =
    let items = c.as_slice-group-items.result.now in
    AscendsAbove-at 0 items c.loop-group.group-index
    (subst IsGroupSet (sym c.as_slice-group-items.ensures.groups) c.as_slice-group-items.ensures.ascends) c.loop-group-test.true

pub literal_of-requires-clause-in_range : goal.literal_of-requires-clause-in_range
literal_of-requires-clause-in_range c =
    let items = c.as_slice-group-items.result.now in
    let g = get_or items c.loop-group.group-index 0 in
    c.requires g
    (subst (λ s. has s g ≡ true) c.as_slice-group-items.ensures.groups
    (in_has items g (get_in items c.loop-group.group-index 0 c.loop-group-test.true)))

-- one group more
pub loop-group-preserved : goal.loop-group-preserved
loop-group-preserved c =
    c.in_ok-push.ensures.items ∙ ap (λ (l : ℤ). c.loop-group.lits.items ++ l ∷ []) c.literal_of.ensures
    ∙ block_lits-next c.args.side c.as_slice-group-items.result.now c.loop-group.group-index c.loop-group.lits.items c.loop-group-test.true c.loop-group.invariant

-- all of them
pub returns : goal.returns
returns c =
    c.loop-group.invariant ∙ block_lits-all c.args.side c.as_slice-group-items.result.now c.loop-group.group-index c.loop-group-test.false
    ∙ ap (λ (set : List ℕ). block_clause (block_of c.args.side set)) c.as_slice-group-items.ensures.groups
