use Rattle.std.proofs.Common.{◌≡◌, List, ℕ, Option, true, map, subst, []}
use Rattle.std.specs.Prelude.{IfSome}
use Rattle.sat_base.specs.Derivation.{Derivation}
use Rattle.gm_base.specs.Problem.{Problem}
use Rattle.gm_base.specs.Evidence.{refutes}
use Rattle.lawful_fakes.specs.Script.{clause_in}
use Rattle.lawful_fakes.proofs.ScriptLemmas.{shown_by}
use Rattle.lawful_fakes.proofs.scripted_map.is_ended.Goals as goal

-- an accepted conflict that has no groups refutes the background alone
pub returns : goal.returns
returns c = λ t.
    let made : c.in-Some.problem ≡ record { vars = c.args.groups; groups = 0; clauses = map clause_in c.args.blocks.now } =
    subst (λ (o : Option Problem). IfSome o (λ p. p ≡ record { vars = c.args.groups; groups = 0; clauses = map clause_in c.args.blocks.now })) c.in-Some.is c.in_ok-problem.ensures in
    let accepted = c.in_ok-verdict.ensures.accepts.0 (c.is_ok.ensures.0 t) in
    shown_by c.args.groups c.args.blocks.now c.in-Some.problem c.args.ending.now made
    (subst (λ (d : Derivation). refutes c.in-Some.problem [] d ≡ true) c.in_ok-copy.ensures
    (subst (λ (s : List ℕ). refutes c.in-Some.problem s c.in_ok-copy.field-0 ≡ true) c.new.ensures accepted.refuted))
