use Rattle.std.proofs.Common.{◌≡◌, ◌∙◌, Option, ap, sym, subst, true}
use Rattle.std.specs.Prelude.{IfSome}
use Rattle.gm_base.specs.Problem.{Problem}
use Rattle.gm_base.specs.Evidence.{is_witness}
use Rattle.evidence_rec.specs.Asking.{OracleState}
use Rattle.edit_session.specs.declared.corrections.Start.{Start}
use Rattle.gm_tool.proofs.carry.tell_starts.Goals as goal

-- what satisfies a set in the new problem does so in the oracle's, which stays
pub witnessed-requires : goal.witnessed-requires
witnessed-requires c =
    let told = subst (λ (o : Option Start). IfSome o (λ s. is_witness c.args.new.now s.set s.witness ≡ true)) c.in-Some.is c.in_ok-start.ensures in
    subst (λ (p : Problem). is_witness p c.in-Some.start.set c.in-Some.start.witness ≡ true) (sym (ap (λ (o : OracleState). o.problem) c.loop-at.invariant ∙ c.requires.problem)) told
