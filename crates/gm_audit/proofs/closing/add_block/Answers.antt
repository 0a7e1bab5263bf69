use Rattle.std.proofs.Common.{◌≡◌, ◌+◌, ℕ, List, [], ◌∷◌, ◌++◌, true, sym, ◌∙◌, ap, ap₂, subst, arith}
use Rattle.gm_base.specs.Sets.{has, IsSubset, all_groups}
use Rattle.std.specs.Prelude.{ℤ, OnOk}
use Rattle.gm_base.specs.declared.kind.Kind.{Kind}
use Rattle.gm_base.specs.Explored.{block_clause}
use Rattle.gm_base.proofs.SetLemmas.{all_groups-has}
use Rattle.sat_base.specs.Literals.{AreLiterals}
use Rattle.evidence_rec.specs.Records.{found_of}
use Rattle.evidence_rec.proofs.BlockLemmas.{block-over}
use Rattle.gm_audit.proofs.closing.add_block.Goals as goal

-- the groups of the set are variables
pub block_lits-requires : goal.block_lits-requires
block_lits-requires c =
    λ g inside.
    let there = c.requires.within g (subst (λ (s : List ℕ). has s g ≡ true) c.set.ensures inside) in
    let high = (all_groups-has c.args.checker.now.vars g there).1 in
    let small = c.vars-vars.ensures.small in
    let same = c.vars-vars.ensures.vars in
    omega arith

pub add_input-requires-clause-over : goal.add_input-requires-clause-over
add_input-requires-clause-over c =
    subst (AreLiterals c.args.checker.now.vars) (sym (c.as_slice.ensures.value ∙ c.in_ok-lits.ensures))
    (block-over c.args.checker.now.vars c.side_of-side.result c.set.result.now
    (subst (λ (s : List ℕ). IsSubset s (all_groups c.args.checker.now.vars)) (sym c.set.ensures) c.requires.within))

-- what is given is the block clause of the record's set, to the side of its kind
pub returns-clause-added : goal.returns-clause-added
returns-clause-added c =
    let before = c.args.checker.now in
    let set = c.set.result.now in
    let found = ap₂ (λ (k : Kind) (s : List ℕ). record { kind = k; set = s }) c.kind.ensures c.set.ensures in
    let lits : c.as_slice.result.now ≡ block_clause (found_of c.args.found.now) =
    c.as_slice.ensures.value ∙ c.in_ok-lits.ensures ∙ ap block_clause (c.side_of-side.ensures set ∙ found) in
    subst (λ (given : List ℤ). OnOk c.add_input.result (c.add_input.new.self.known ≡ before.known ++ (before.inputs + 1, given) ∷ [])) lits c.add_input.ensures.added
