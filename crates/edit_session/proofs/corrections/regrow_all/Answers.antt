use Rattle.std.proofs.Common.{◌≡◌, ◌+◌, List, take, sym, ◌∙◌, subst, arith}
use Rattle.std.proofs.lemmas.List.{take_all}
use Rattle.evidence_rec.specs.declared.record.Record.{Record}
use Rattle.gm_base.specs.Problem.{Problem}
use Rattle.evidence_rec.proofs.AskingLemmas.{IsSpent-same, IsSpent-then}
use Rattle.edit_session.specs.Opening.{TellsRegrown, IsSofar}
use Rattle.edit_session.proofs.OpeningLemmas.{known-at, sofar-start, sofar-next}
use Rattle.edit_session.proofs.corrections.regrow_all.Goals as goal

pub regrow-requires-clause-known : goal.regrow-requires-clause-known
regrow-requires-clause-known g c = known-at c.args.old.now c.args.records.now c.loop-at.at c.at-known.result.now c.groups-groups.ensures.well_formed c.requires.accepted c.at-known.ensures

pub loop-at-init : goal.loop-at-init
loop-at-init g c =
    record {
      sofar = sofar-start c.args.old.now c.args.new.now c.args.records.now c.args.opening.now c.requires.kept;
      honest = λ h. h;
      spent = IsSpent-same (g.O.Oracle.state c.args.oracle.now) c.args.purse.now.left;
    }

-- one record further
pub loop-at-preserved : goal.loop-at-preserved
loop-at-preserved g c =
    let new = g.O.Oracle.state c.regrow.new.oracle in
    let old = c.args.old.now in
    let r = c.at-known.result.now in
    let same : new.problem ≡ c.args.new.now = c.in_ok-asked.ensures.spent.problem ∙ c.loop-at.invariant.spent.problem ∙ sym c.requires.problem in
    let tells = subst (TellsRegrown new old r c.loop-at.opening c.regrow.new.opening c.regrow.new.purse.left) c.in_default.is c.in_ok-asked.ensures.regrown in
    record {
      sofar =
          subst (λ (q : Problem). IsSofar old q c.args.records.now (take (c.loop-at.at + 1) c.args.records.now) c.regrow.new.opening) same
          (sofar-next old new.problem c.args.records.now c.loop-at.opening c.regrow.new.opening c.loop-at.at r c.at-known.ensures
          (subst (λ (q : Problem). IsSofar old q c.args.records.now (take c.loop-at.at c.args.records.now) c.loop-at.opening) (sym same) c.loop-at.invariant.sofar)
          tells);
      honest = λ first. c.in_ok-asked.ensures.honest (c.loop-at.invariant.honest first);
      spent =
          IsSpent-then (g.O.Oracle.state c.args.oracle.now) (g.O.Oracle.state c.loop-at.oracle) new c.args.purse.now.left c.loop-at.purse.left c.regrow.new.purse.left c.loop-at.invariant.spent
          c.in_ok-asked.ensures.spent;
    }

pub returns-in_err-asked-clause-spent : goal.returns-in_err-asked-clause-spent
returns-in_err-asked-clause-spent g c =
    IsSpent-then (g.O.Oracle.state c.args.oracle.now) (g.O.Oracle.state c.loop-at.oracle) (g.O.Oracle.state c.regrow.new.oracle) c.args.purse.now.left c.loop-at.purse.left c.regrow.new.purse.left
    c.loop-at.invariant.spent c.in_err-asked.ensures.spent

pub returns-in-Some-clause-spent : goal.returns-in-Some-clause-spent
returns-in-Some-clause-spent g c =
    IsSpent-then (g.O.Oracle.state c.args.oracle.now) (g.O.Oracle.state c.loop-at.oracle) (g.O.Oracle.state c.regrow.new.oracle) c.args.purse.now.left c.loop-at.purse.left c.regrow.new.purse.left
    c.loop-at.invariant.spent c.in_ok-asked.ensures.spent

pub returns-in_err-asked-clause-honest : goal.returns-in_err-asked-clause-honest
returns-in_err-asked-clause-honest g c = λ first. c.in_err-asked.ensures.honest (c.loop-at.invariant.honest first)

pub returns-in-Some-clause-honest : goal.returns-in-Some-clause-honest
returns-in-Some-clause-honest g c = λ first. c.in_ok-asked.ensures.honest (c.loop-at.invariant.honest first)

-- the purse was empty
pub returns-in-Some-clause-regrown : goal.returns-in-Some-clause-regrown
returns-in-Some-clause-regrown g c =
    subst (TellsRegrown (g.O.Oracle.state c.regrow.new.oracle) c.args.old.now c.at-known.result.now c.loop-at.opening c.regrow.new.opening c.regrow.new.purse.left) c.in-Some.is
    c.in_ok-asked.ensures.regrown

-- all corrections have grown
pub returns-clause-regrown : goal.returns-clause-regrown
returns-clause-regrown g c =
    let records = c.args.records.now in
    let same : (g.O.Oracle.state c.loop-at.oracle).problem ≡ c.args.new.now = c.loop-at.invariant.spent.problem ∙ sym c.requires.problem in
    subst (λ (q : Problem). IsSofar c.args.old.now q records records c.loop-at.opening) (sym same)
    (subst (λ (passed : List Record). IsSofar c.args.old.now c.args.new.now records passed c.loop-at.opening) (take_all c.loop-at.at records (omega arith)) c.loop-at.invariant.sofar)
