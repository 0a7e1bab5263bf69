use Rattle.std.proofs.Common.{◌∙◌, ap}
use Rattle.gm_base.specs.Sets.{complement}
use Rattle.edit_session.proofs.OpeningLemmas.{start-satisfied, witness-fits}
use Rattle.edit_session.proofs.corrections.start_of.Goals as goal

pub carried_witness-requires : goal.carried_witness-requires
carried_witness-requires c =
    witness-fits c.args.old.now c.args.new.now c.args.known.now c.in-Correction.set c.in-Correction.witness _ c.requires.extends c.in-Correction.is c.requires.known

-- the witness satisfies what the correction leaves out
pub returns : goal.returns
returns c =
    start-satisfied c.args.old.now c.args.new.now c.args.known.now c.in-Correction.set c.in_ok-left.left c.in-Correction.witness c.in_ok-assign.assign _ c.requires.extends c.in-Correction.is
    c.requires.known (c.in_ok-left.ensures ∙ ap (λ n. complement n c.in-Correction.set) c.groups.ensures.count) c.in_ok-assign.ensures
