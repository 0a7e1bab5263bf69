use Rattle.std.proofs.Common.{◌∙◌, ℕ, ap, sym, arith}
use Rattle.sat_base.specs.Derivation.{Step}
use Rattle.sat_base.specs.Hints.{ids_of}
use Rattle.lrat_export.specs.Export.{is_settled, known_of}
use Rattle.lrat_export.proofs.WalkLemmas.{goes-settled, goes-written}
use Rattle.lrat_export.proofs.lrat.push_if_stays.Goals as goal

-- a step that is true goes
pub returns-then-is_settled-clause-text : goal.returns-then-is_settled-clause-text
returns-then-is_settled-clause-text c =
    let source = c.args.source in
    let s : Step = record { id = c.args.step.id; lits = c.args.step.lits.now; hints = ids_of c.args.step.hints } in
    goes-settled source.problem.now.vars source.set.now (known_of source.problem.now source.set.now source.proof.now) c.args.out.now.items c.args.number s
    (ap (λ (v : ℕ). is_settled v source.set.now s.lits) (sym c.vars.ensures) ∙ sym c.is_settled.ensures ∙ c.if-is_settled.true)

-- another one is written, and the next one has the next number
pub returns-clause-text : goal.returns-clause-text
returns-clause-text c =
    let source = c.args.source in
    let s : Step = record { id = c.args.step.id; lits = c.args.step.lits.now; hints = ids_of c.args.step.hints } in
    goes-written source.problem.now.vars source.set.now (known_of source.problem.now source.set.now source.proof.now) c.args.out.now.items c.push_step.new.out.items c.args.number c.in-Some.next s
    (ap (λ (v : ℕ). is_settled v source.set.now s.lits) (sym c.vars.ensures) ∙ sym c.is_settled.ensures ∙ c.if-is_settled.false) (grind arith) c.in_ok-push_step.ensures.text
