use Rattle.std.proofs.Common.{◌≡◌, ◌+◌, sym, ◌∙◌, subst, arith}
use Rattle.std.specs.Prelude.{IfOk}
use Rattle.sat_base.specs.Derivation.{Derivation}
use Rattle.gm_base.specs.Evidence.{selector_form}
use Rattle.sat_base.specs.Numbering.{Ascends}
use Rattle.edit_session.proofs.DerivationLemmas.{derives-ascend, derives-over, built}
use Rattle.edit_session.proofs.derivations.carried_proof.Goals as goal

pub carried_id-goal-requires-clause-ascend : goal.carried_id-goal-requires-clause-ascend
carried_id-goal-requires-clause-ascend c =
    let d = c.args.proof.now in
    let old = c.args.old.now in
    subst Ascends (sym (c.as_slice.ensures.value ∙ c.in_ok-ids.ensures)) (derives-ascend (old.vars + old.groups) (selector_form old) d c.requires.derives)

pub push_steps-requires-clause-ascend : goal.push_steps-requires-clause-ascend
push_steps-requires-clause-ascend c =
    let d = c.args.proof.now in
    let old = c.args.old.now in
    subst Ascends (sym (c.as_slice-2.ensures.value ∙ c.in_ok-ids.ensures)) (derives-ascend (old.vars + old.groups) (selector_form old) d c.requires.derives)

pub push_steps-requires-clause-over : goal.push_steps-requires-clause-over
push_steps-requires-clause-over c =
    let old = c.args.old.now in derives-over (old.vars + old.groups) (selector_form old) c.args.proof.now c.requires.derives

-- the steps and the goal have their numbers
pub returns : goal.returns
returns c =
    let old = c.args.old.now in
    let new = c.args.new.now in
    let d = c.args.proof.now in
    let ids = c.in_ok-ids.ids.items in
    let same : c.as_slice-2.result.now ≡ c.as_slice.result.now = c.as_slice-2.ensures.value ∙ sym c.as_slice.ensures.value in
    subst (λ (b : Derivation). IfOk c.finish.result (λ e. e ≡ b))
    (built old new d c.as_slice-2.result.now c.carried_id-goal.result c.new-builder.result c.push_steps.new.builder (c.as_slice-2.ensures.value ∙ c.in_ok-ids.ensures)
    (grind arith) c.new-builder.ensures c.in_ok-push_steps.ensures)
    c.finish.ensures
