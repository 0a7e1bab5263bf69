use Rattle.std.proofs.Common.{◌≡◌, ◌+◌, ◌-◌, ◌<◌, ◌∙◌, ℕ, List, Bool, true, [], length, take, drop, ap, subst, arith, length-drop}
use Rattle.std.specs.Prelude.{slice_index_or}
use Rattle.std.proofs.lemmas.List.{length-take}
use Rattle.gm_base.specs.Sets.{without}
use Rattle.gm_base.specs.Problem.{satisfies}
use Rattle.evidence_rec.specs.Columns.{is_set, assignment}
use Rattle.evidence_rec.proofs.ColumnLemmas.{witness-from, get_or-part}
use Rattle.evidence_rec.proofs.columns.part_holds.Goals as goal

-- the bit of a witness is set, and its column is it
pub returns : goal.returns
returns c = λ yes at within lt.
    let ws : List (List Bool) = c.args.witnesses.now in
    let columns : List ℕ = c.as_slice.result.now in
    let from : ℕ = c.args.from in
    let count : ℕ = c.min.result - from in
    let behind : at < count = omega (arith, c.min.ensures, c.requires.shaped, lt, within) in
    let inside : at < length (take count (drop from ws)) = omega (arith, length-take count (drop from ws), length-drop from ws, c.requires.shaped, lt, behind) in
    let bit : is_set c.others_column-column.result at ≡ true = c.are_set.ensures yes at inside in
    let same : assignment columns at ≡ slice_index_or ws (from + at) [] = ap (λ cs. assignment cs at) c.as_slice.ensures.value ∙ c.in_ok-columns.ensures.columns at inside ∙ get_or-part ws from count at behind in
    let holds : satisfies c.args.problem.now (without c.args.set.now (slice_index_or c.args.set.now (from + at) 0)) (assignment columns at) ≡ true =
    subst (λ gs. satisfies c.args.problem.now (without gs (slice_index_or gs (from + at) 0)) (assignment columns at) ≡ true) c.as_slice-2.ensures.groups
    (c.others_column-column.ensures at within bit) in
    witness-from c.args.problem.now c.args.set.now ws (from + at) (assignment columns at) same (omega (arith, c.requires.shaped, lt)) c.requires.values holds
