use Rattle.std.proofs.Common.{◌≡◌, ◌-◌, ◌<◌, ◌∙◌, ◌++◌, ◌∷◌, [], List, length, map, get_or, set, ap, sym, arith}
use Rattle.std.specs.Arc.{arc_value}
use Rattle.std.proofs.lemmas.List.{length-map, map-set, get_or-map}
use Rattle.std.proofs.Math.Seq.{map-set_same}
use Rattle.sat_base.specs.Derivation.{Step}
use Rattle.sat_base.proofs.BlockLemmas.{placed_longer, OnErr-always}
use Rattle.sat_base.proofs.step_arena.extend_last.Goals as goal

-- a step that was not added leaves its block
pub returns-in_err-push_alone-clause-err : goal.returns-in_err-push_alone-clause-err
returns-in_err-push_alone-clause-err c =
    OnErr-always c.from_residual-in_err-push_alone.result
    (map-set_same (λ b. arc_value b) c.args.blocks.now.items (c.in_ok-count.count - 1) c.push_alone.new.block c.index_mut.result.now
    (c.in_err-push_alone.ensures.err ∙ ap (λ b. arc_value b) c.index_mut.ensures.value))

pub returns-then-not-branch-clause-none : goal.returns-then-not-branch-clause-none
returns-then-not-branch-clause-none c =
    map-set_same (λ b. arc_value b) c.args.blocks.now.items (c.in_ok-count.count - 1) c.push_alone.new.block c.index_mut.result.now
    (c.in_ok-push_alone.ensures.held c.if-not-branch.true ∙ ap (λ b. arc_value b) c.index_mut.ensures.value)

-- the last block got longer
pub returns-clause-ok : goal.returns-clause-ok
returns-clause-ok c =
    let items = c.args.blocks.now.items in
    let n = c.in_ok-count.count - 1 in
    let s : Step = record { id = c.args.id; lits = c.args.lits.now; hints = c.args.hints.now } in
    let len = length-map items (λ b. arc_value b) in
    let lt : n < length items = omega arith in
    let old : List (List Step) = map (λ b. arc_value b) items in
    let looked : get_or old n [] ≡ arc_value c.index.result.now = get_or-map (λ b. arc_value b) items n c.index.result.now [] lt ∙ ap (λ b. arc_value b) (sym c.index.ensures) in
    let lent : get_or old n [] ≡ arc_value c.index_mut.result.now = get_or-map (λ b. arc_value b) items n c.index_mut.result.now [] lt ∙ ap (λ b. arc_value b) (sym c.index_mut.ensures.value) in
    let added : arc_value c.push_alone.new.block ≡ get_or old n [] ++ s ∷ [] =
    c.in_ok-push_alone.ensures.added c.if-not-branch.false ∙ ap (λ (b : List Step). b ++ s ∷ []) (sym lent) in
    placed_longer old (map (λ b. arc_value b) (set items n c.push_alone.new.block)) (record { block = n; at = c.len-at.result }) s (omega arith)
    (c.len-at.ensures ∙ ap (λ (b : List Step). length b) (c.deref.ensures ∙ sym looked))
    (map-set (λ b. arc_value b) items n c.push_alone.new.block ∙ ap (set old n) added)
