use Rattle.std.proofs.Common.{◌∙◌, List, ℕ, take, ap, sym, subst}
use Rattle.std.proofs.lemmas.List.{take_all}
use Rattle.gm_base.specs.Sets.{IsSubset, all_groups}
use Rattle.evidence_rec.specs.declared.record.Record.{Record}
use Rattle.evidence_rec.specs.Records.{kind_of, founds}
use Rattle.size_counter.specs.Names.{Naming, also, names_of}
use Rattle.size_counter.proofs.LevelLemmas.{names-order}
use Rattle.size_levels.proofs.LevelLemmas.{names_of-more}
use Rattle.size_levels.proofs.levels.level_of.Goals as goal

-- one record more
pub loop-record-preserved : goal.loop-record-preserved
loop-record-preserved c =
    let r = c.record-item.result in
    let i = c.loop-record.record-index in
    c.in_ok-add.ensures.ok
    ∙ ap (λ (n : Naming). also n c.kind.result c.as_slice.result.now) c.loop-record.invariant
    ∙ ap (λ k. also (names_of c.args.kind (founds (take i c.args.records.now))) k c.as_slice.result.now) c.kind.ensures
    ∙ ap (λ (set : List ℕ). also (names_of c.args.kind (founds (take i c.args.records.now))) (kind_of r) set) (c.as_slice.ensures.groups ∙ c.set.ensures)
    ∙ sym (names_of-more c.args.kind c.args.records.now i r c.loop-record-test.true c.record-item.is)

-- the records are about groups of the problem
pub level-requires : goal.level-requires
level-requires c =
    let is = c.loop-record.invariant
    ∙ ap (λ (rs : List Record). names_of c.args.kind (founds rs)) (take_all c.loop-record.record-index c.args.records.now c.loop-record-test.false) in
    subst (λ (n : Naming). IsSubset n.named (all_groups c.args.groups)) (sym is)
    (names-order c.args.kind c.args.groups (founds c.args.records.now) c.requires).within
