use Rattle.std.proofs.Common.{◌∙◌, ℕ, List, Some, length, sym, ap, arith}
use Rattle.std.specs.Prelude.{ℤ, slice_range}
use Rattle.lrat_steps.proofs.GivenLemmas.{ends_count, read_at}
use Rattle.lrat_steps.proofs.given.Clauses.lits.Goals as goal

-- each clause has an end
pub end_before-from-requires : goal.end_before-from-requires
end_before-from-requires c =
    let count = ends_count c.self.inside c.args.self.now c.self.view_is in
    let all = ap (λ (ends : List ℕ). length ends) c.as_slice.ensures.value in
    omega arith

pub index-to-requires : goal.index-to-requires
index-to-requires c = let count = ends_count c.self.inside c.args.self.now c.self.view_is in omega arith

-- and begins where the one before it ends
pub slice_bounds-result-count : goal.slice_bounds-result-count
slice_bounds-result-count c =
    (read_at c.self.inside c.args.self.now c.args.at c.as_slice.result.now c.end_before-from.result c.index-to.result.now c.self.invariant c.self.view_is c.requires
    c.as_slice.ensures.value c.end_before-from.ensures c.index-to.ensures).ordered

pub slice_bounds-result-start : goal.slice_bounds-result-start
slice_bounds-result-start c =
    (read_at c.self.inside c.args.self.now c.args.at c.as_slice.result.now c.end_before-from.result c.index-to.result.now c.self.invariant c.self.view_is c.requires
    c.as_slice.ensures.value c.end_before-from.ensures c.index-to.ensures).ordered

pub slice_bounds-result-end : goal.slice_bounds-result-end
slice_bounds-result-end c =
    let within = (read_at c.self.inside c.args.self.now c.args.at c.as_slice.result.now c.end_before-from.result c.index-to.result.now c.self.invariant c.self.view_is c.requires
    c.as_slice.ensures.value c.end_before-from.ensures c.index-to.ensures).within in
    let all = ap length c.deref.ensures.value in
    omega arith

pub returns : goal.returns
returns c =
    (read_at c.self.inside c.args.self.now c.args.at c.as_slice.result.now c.end_before-from.result c.index-to.result.now c.self.invariant c.self.view_is c.requires
    c.as_slice.ensures.value c.end_before-from.ensures c.index-to.ensures).clause
    ∙ ap (λ (ls : List ℤ). Some (slice_range ls c.end_before-from.result c.index-to.result.now)) (sym c.deref.ensures.value)
