use Rattle.std.proofs.Common.{Some, inl, inr, refl, subst, sym, ap, ◌∙◌}
use Rattle.std.proofs.lemmas.Option.{IfSome_then}
use Rattle.gm_io.specs.Endings.{finish_of}
use Rattle.gm_tool.specs.JournalSteps.{HasEnded, closing_in, course_for}
use Rattle.gm_tool.proofs.journal.end_listing.Goals as goal

-- memory was wanting
pub returns-in_default-clause-kept : goal.returns-in_default-clause-kept
returns-in_default-clause-kept g c = λ first ended. inl (refl, refl)

-- the journal failed
pub returns-then-is_broken-clause-closing : goal.returns-then-is_broken-clause-closing
returns-then-is_broken-clause-closing g c = ap closing_in c.in-Some.is

pub returns-then-is_broken-clause-kept : goal.returns-then-is_broken-clause-kept
returns-then-is_broken-clause-kept g c = λ first ended.
    let h = subst (HasEnded c.args.problem.now first c.args.bounds c.args.is_broken) c.in-Some.is ended in
    inr (inl (c.in-Some.left, refl, c.if-is_broken.true, h.closed, refl))

-- what is left is written
pub put_out-requires-clause-left : goal.put_out-requires-clause-left
put_out-requires-clause-left g c =
    let first = c.requires.left.0 in
    let h = subst (HasEnded c.args.problem.now first c.args.bounds c.args.is_broken) c.in-Some.is c.requires.left.1 in
    (first, c.args.bounds, h.whole c.if-is_broken.false)

pub returns-clause-closing : goal.returns-clause-closing
returns-clause-closing g c = IfSome_then (finish_of c.put_out.result).closing c.put_out.ensures.closing (λ closing is. ap closing_in c.in-Some.is ∙ ap Some (sym is))

pub returns-clause-kept : goal.returns-clause-kept
returns-clause-kept g c = λ first ended.
    let h = subst (HasEnded c.args.problem.now first c.args.bounds c.args.is_broken) c.in-Some.is ended in
    inr (inr (c.if-is_broken.false, c.put_out.ensures.lists (course_for first c.args.bounds) refl refl c.requires.all (h.whole c.if-is_broken.false)))
