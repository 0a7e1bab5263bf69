use Rattle.std.proofs.Common.{arith, ◌≡◌, subst, true, take, sym, ap, ◌∙◌, not, ◌&&◌}
use Rattle.std.proofs.lemmas.Bool.{false≢true}
use Rattle.lrat_check.proofs.MarkLemmas.{int_eq-same}
use Rattle.lrat_check.specs.Marks.{is_marked}
use Rattle.lrat_export.specs.Export.{is_selector}
use Rattle.lrat_export.specs.Walk.{opened}
use Rattle.lrat_export.proofs.OpenLemmas.{OpenSoFar, open_many}
use Rattle.lrat_export.proofs.looking.look.Goals as goal

-- the first one that is not false, and this one, which differs
pub returns-then-ne : goal.returns-then-ne
returns-then-ne c =
    let one = subst (OpenSoFar c.args.vars (opened c.args.vars c.args.marks.now (take c.loop-lit.lit-index c.args.clause.now))) c.in-Some.is c.loop-lit.invariant in
    let here : (not (is_selector c.args.vars c.lit-item.result) && not (is_marked c.args.marks.now c.lit-item.result)) ≡ true = sym c.is_open.ensures.is ∙ c.if-is_open.true in
    open_many c.args.vars c.args.marks.now c.args.clause.now c.loop-lit.lit-index c.lit-item.result c.in-Some.first (omega arith) c.lit-item.is here
    (λ same. false≢true (sym (c.ne.ensures ∙ ap not (int_eq-same c.in-Some.first c.lit-item.result same)) ∙ c.if-ne.true)) one.0
