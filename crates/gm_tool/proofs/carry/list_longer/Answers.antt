use Rattle.std.proofs.Common.{inl, inr, refl, subst}
use Rattle.gm_words.specs.Requests.{text_of}
use Rattle.gm_tool.specs.declared.carry.Over.TheVariants as over
use Rattle.gm_tool.specs.CarrySteps.{TellsOver}
use Rattle.gm_tool.proofs.CarryLemmas.{good-opening, within-budget}
use Rattle.gm_tool.proofs.carry.list_longer.Goals as goal

-- what was carried over is what the enumeration begins with
pub list_problem-requires-clause-first : goal.list_problem-requires-clause-first
list_problem-requires-clause-first g c κs within =
    let w = c.in-Ok-Opening in
    let l = c.args.longer in
    good-opening (subst (TellsOver l.old l.new l.records) w.field-0-is w.ensures).1

-- no more is learnt in all than may be
pub list_problem-requires-clause-few : goal.list_problem-requires-clause-few
list_problem-requires-clause-few g c κs within =
    let w = c.in-Ok-Opening in
    let l = c.args.longer in
    within-budget (subst (TellsOver l.old l.new l.records) w.field-0-is w.ensures).0

-- it is listed from there
pub returns-in-Ok-Opening : goal.returns-in-Ok-Opening
returns-in-Ok-Opening g c =
    let w = c.in-Ok-Opening in
    let l = c.args.longer in
    inr (over.Opening w.log w.first w.left, subst (TellsOver l.old l.new l.records) w.field-0-is w.ensures, c.list_problem.ensures)

-- or nothing is known of it
pub returns-in-Ok-Dry : goal.returns-in-Ok-Dry
returns-in-Ok-Dry g c =
    let w = c.in-Ok-Dry in
    let l = c.args.longer in
    inr (over.Dry w.log, subst (TellsOver l.old l.new l.records) w.field-0-is w.ensures, c.tell_dry.ensures)

-- memory was wanting
pub returns : goal.returns
returns g c = inl (refl, refl)
