use Rattle.std.proofs.Common.{◌≡◌, None, sym, ◌∙◌, subst, ap}
use Rattle.gm_base.specs.Problem.{IsProblem}
use Rattle.gm_base.specs.Sets.{IsSubset, all_groups, complement}
use Rattle.evidence_rec.specs.declared.record.Record.{Record}
use Rattle.mss_grow.specs.Grown.{TellsGrown}
use Rattle.edit_session.specs.Opening.{TellsRegrown, TellsWidened, IsKnown}
use Rattle.edit_session.specs.Extends.{Extends}
use Rattle.edit_session.proofs.OpeningLemmas.{start-within, start-satisfied, witness-fits, regrown-one}
use Rattle.edit_session.proofs.WideningLemmas.{left-within, left-wider, outside-wider}
use Rattle.edit_session.proofs.corrections.regrow.Goals as goal

pub carried_witness-requires : goal.carried_witness-requires
carried_witness-requires g c =
    witness-fits c.args.old.now c.args.new.now c.args.known.now c.in-Correction.set c.in-Correction.witness _ c.requires.extends c.in-Correction.is c.requires.known

-- the start is what the correction leaves of the old groups
pub widen-requires-clause-old_start : goal.widen-requires-clause-old_start
widen-requires-clause-old_start g c =
    subst (λ n. IsSubset c.in_ok-complement.field-0 (all_groups n)) (sym c.groups-3.ensures.count)
    (left-within c.args.old.now.groups c.in-Correction.set c.in_ok-complement.field-0 (c.in_ok-complement.ensures ∙ ap (λ n. complement n c.in-Correction.set) c.groups.ensures.count))

-- and the wider set what it leaves of all groups
pub widen-requires-clause-within : goal.widen-requires-clause-within
widen-requires-clause-within g c =
    left-within c.args.new.now.groups c.in-Correction.set c.in_ok-wider.wider (c.in_ok-wider.ensures ∙ ap (λ n. complement n c.in-Correction.set) c.groups-2.ensures.count)

pub widen-requires-clause-wider : goal.widen-requires-clause-wider
widen-requires-clause-wider g c =
    let set = c.in-Correction.set in
    let start_is = c.in_ok-complement.ensures ∙ ap (λ n. complement n set) c.groups.ensures.count in
    left-wider c.args.old.now.groups c.args.new.now.groups set c.in_ok-complement.field-0 c.in_ok-wider.wider
    (start-within c.args.old.now c.args.new.now set c.in_ok-complement.field-0 c.requires.extends start_is) start_is
    (c.in_ok-wider.ensures ∙ ap (λ n. complement n set) c.groups-2.ensures.count)

pub widen-requires-clause-satisfied : goal.widen-requires-clause-satisfied
widen-requires-clause-satisfied g c =
    start-satisfied c.args.old.now c.args.new.now c.args.known.now c.in-Correction.set c.in_ok-complement.field-0 c.in-Correction.witness c.in_ok-carried_witness.field-0 _ c.requires.extends
    c.in-Correction.is c.requires.known (c.in_ok-complement.ensures ∙ ap (λ n. complement n c.in-Correction.set) c.groups.ensures.count) c.in_ok-carried_witness.ensures

-- what it grew into has just its groups among the old ones, since it is outside of what it left, and more
pub returns-in-Done-clause-regrown : goal.returns-in-Done-clause-regrown
returns-in-Done-clause-regrown g c =
    let o = g.O.Oracle.state c.grow.new.oracle in
    let old = c.args.old.now in
    let set = c.in-Correction.set in
    let given = c.in_ok-complement.field-0 in
    let wide = c.in-Start.start.set in
    let same : o.problem ≡ c.args.new.now = c.in_ok-made.ensures.spent.problem ∙ c.in_ok-start.ensures.spent.problem ∙ sym c.requires.problem in
    let start = c.in_ok-complement.ensures ∙ ap (λ n. complement n set) c.groups.ensures.count in
    let wider = (subst (TellsWidened (g.O.Oracle.state c.widen.new.oracle) given c.widen.new.purse.left) c.in-Start.is c.in_ok-start.ensures.widened).0 in
    let told = subst (TellsGrown o wide c.grow.new.purse.left) c.in-Done.is c.in_ok-made.ensures.grown in
    let known = subst (IsKnown old) c.in-Correction.is c.requires.known in
    subst (λ (r : Record). TellsRegrown o old r c.args.opening.now c.push.new.self c.grow.new.purse.left None) (sym c.in-Correction.is)
    (regrown-one o old set c.in-Correction.witness _ c.in-Done.made c.args.opening.now c.push.new.self c.grow.new.purse.left c.groups.ensures.well_formed
    (subst IsProblem (sym same) c.groups-groups.ensures.well_formed) (subst (Extends old) (sym same) c.requires.extends) known.right
    (outside-wider (complement old.groups set) wide c.in-Done.made (subst (λ s. IsSubset s wide) start wider) told.0) told.2 c.in_ok-push-in-Done.ensures.ok)
