use Rattle.std.proofs.Common.{◌∙◌, ℕ, List, Some, length, sym, ap, ap₂, arith}
use Rattle.std.specs.Prelude.{ℤ, slice_range}
use Rattle.sat_base.specs.declared.steps.StepSpan.{StepSpan}
use Rattle.sat_base.proofs.SpanLemmas.{spans_count, read_at}
use Rattle.sat_base.proofs.steps.Steps.kept.Goals as goal

-- each step has a span
pub span_before-before-requires : goal.span_before-before-requires
span_before-before-requires c =
    let count = spans_count c.self.inside c.args.self.now c.self.view_is in
    let all = ap (λ (spans : List StepSpan). length spans) c.as_slice.ensures.value in
    omega arith

pub index-span-requires : goal.index-span-requires
index-span-requires c = let count = spans_count c.self.inside c.args.self.now c.self.view_is in omega arith

-- which says, with the one before it, where its literals and hints lie
pub slice_bounds-result-count : goal.slice_bounds-result-count
slice_bounds-result-count c =
    (read_at c.self.inside c.args.self.now c.args.at c.as_slice.result.now c.span_before-before.result c.index-span.result.now c.self.invariant c.self.view_is c.requires
    c.as_slice.ensures.value c.span_before-before.ensures c.index-span.ensures).cut.lits_ordered

pub slice_bounds-result-start : goal.slice_bounds-result-start
slice_bounds-result-start c =
    (read_at c.self.inside c.args.self.now c.args.at c.as_slice.result.now c.span_before-before.result c.index-span.result.now c.self.invariant c.self.view_is c.requires
    c.as_slice.ensures.value c.span_before-before.ensures c.index-span.ensures).cut.lits_ordered

pub slice_bounds-result-end : goal.slice_bounds-result-end
slice_bounds-result-end c =
    let within = (read_at c.self.inside c.args.self.now c.args.at c.as_slice.result.now c.span_before-before.result c.index-span.result.now c.self.invariant c.self.view_is c.requires
    c.as_slice.ensures.value c.span_before-before.ensures c.index-span.ensures).cut.lits_within in
    let all = ap length c.deref.ensures.value in
    omega arith

pub range-requires-clause-ordered : goal.range-requires-clause-ordered
range-requires-clause-ordered c =
    (read_at c.self.inside c.args.self.now c.args.at c.as_slice.result.now c.span_before-before.result c.index-span.result.now c.self.invariant c.self.view_is c.requires
    c.as_slice.ensures.value c.span_before-before.ensures c.index-span.ensures).cut.hints_ordered

pub range-requires-clause-within : goal.range-requires-clause-within
range-requires-clause-within c =
    (read_at c.self.inside c.args.self.now c.args.at c.as_slice.result.now c.span_before-before.result c.index-span.result.now c.self.invariant c.self.view_is c.requires
    c.as_slice.ensures.value c.span_before-before.ensures c.index-span.ensures).cut.hints_within

-- and what is lent is the step there
pub returns : goal.returns
returns c =
    let b = c.span_before-before.result in
    let s = c.index-span.result.now in
    (read_at c.self.inside c.args.self.now c.args.at c.as_slice.result.now c.span_before-before.result c.index-span.result.now c.self.invariant c.self.view_is c.requires
    c.as_slice.ensures.value c.span_before-before.ensures c.index-span.ensures).step
    ∙ ap₂ (λ (ls : List ℤ) (hs : List ℕ). Some (record { id = s.id; lits = slice_range ls b.lits_to s.lits_to; hints = hs }))
    (sym c.deref.ensures.value) (sym c.range.ensures)
