use Rattle.std.proofs.Common.{◌≡◌, true, Some, List, [], ◌∷◌, ◌++◌, subst, sym, ap, ◌∙◌}
use Rattle.gm_base.specs.Sets.{IsSubset, IsGroupSet, all_groups, with_group}
use Rattle.gm_base.specs.Problem.{Problem}
use Rattle.evidence_rec.specs.declared.record.Refutation.{Refutation}
use Rattle.gm_base.specs.Index.{group_true}
use Rattle.gm_base.specs.Evidence.{is_witness}
use Rattle.evidence_rec.specs.Asking.{TellsAsked, IsDryAt, refuted_by}
use Rattle.evidence_rec.proofs.AskingLemmas.{IsSpent-same}
use Rattle.evidence_rec.proofs.WithLemmas.{with_group-positive}
use Rattle.mss_grow.specs.Growth.{IsGrowth}
use Rattle.mss_grow.proofs.GrowthLemmas.{put_in, leave, is_witness-with_group}
use Rattle.mss_grow.proofs.addition.settle.Goals as goal

pub put_in-requires : goal.put_in-requires
put_in-requires g c = with_group-positive c.args.problem.now.groups c.args.growth.now.set c.args.g c.requires.within

pub put_in-requires-in-Sat : goal.put_in-requires-in-Sat
put_in-requires-in-Sat g c = with_group-positive c.args.problem.now.groups c.args.growth.now.set c.args.g c.requires.within

pub with-requires : goal.with-requires
with-requires g c = with_group-positive c.args.problem.now.groups c.args.growth.now.set c.args.g c.requires.within

-- the assignment at hand satisfies the group too
pub returns-then-group_holds-clause-settled : goal.returns-then-group_holds-clause-settled
returns-then-group_holds-clause-settled g c set passed not_given not_passed h =
    let old = c.args.growth.now in
    let p = (g.O.Oracle.state c.args.oracle.now).problem in
    let made : group_true c.args.problem.now.clauses old.witness c.args.g ≡ true = cc in
    let held = is_witness-with_group c.args.problem.now old.set old.witness c.args.g c.requires.satisfied made in
    subst (IsGrowth p set (passed ++ c.args.g ∷ [])) (sym c.in_ok-put_in.ensures)
    (put_in p set passed old c.args.g old.witness not_passed h (subst (λ (q : Problem). is_witness q (with_group old.set c.args.g) old.witness ≡ true) c.requires.problem held))

-- without a question nothing is spent
pub returns-then-group_holds-clause-spent : goal.returns-then-group_holds-clause-spent
returns-then-group_holds-clause-spent g c = IsSpent-same (g.O.Oracle.state c.args.oracle.now) c.args.purse.now.left

pub returns-in_err-put_in-clause-spent : goal.returns-in_err-put_in-clause-spent
returns-in_err-put_in-clause-spent g c = IsSpent-same (g.O.Oracle.state c.args.oracle.now) c.args.purse.now.left

-- the oracle says that the group goes together with the set at hand
pub returns-in_ok-put_in-in-Sat-clause-settled : goal.returns-in_ok-put_in-in-Sat-clause-settled
returns-in_ok-put_in-in-Sat-clause-settled g c set passed not_given not_passed h =
    let new = g.O.Oracle.state c.ask_with.new.self in
    let old = c.args.growth.now in
    let answer = subst (TellsAsked new (with_group old.set c.args.g) c.ask_with.new.purse.left) c.in-Sat.is c.in_ok-witness.ensures.answer in
    subst (IsGrowth new.problem set (passed ++ c.args.g ∷ [])) (sym c.in_ok-put_in-in-Sat.ensures) (put_in new.problem set passed old c.args.g c.in-Sat.witness not_passed h answer)

-- the group does not go together with the set at hand
pub returns-in_ok-push-in-Unsat-clause-settled : goal.returns-in_ok-push-in-Unsat-clause-settled
returns-in_ok-push-in-Unsat-clause-settled g c set passed not_given not_passed h =
    let new = g.O.Oracle.state c.ask_with.new.self in
    let old = c.args.growth.now in
    let core = c.in-Unsat._core in
    let answer = subst (TellsAsked new (with_group old.set c.args.g) c.ask_with.new.purse.left) c.in-Unsat.is c.in_ok-witness.ensures.answer in
    let refuted : new.refuted ≡ Some core = c.in_ok-witness.ensures.refuted ∙ ap refuted_by c.in-Unsat.is in
    subst (λ (ds : List Refutation). IsGrowth new.problem set (passed ++ c.args.g ∷ []) (record { set = old.set; witness = old.witness; proofs = ds })) (sym c.in_ok-push-in-Unsat.ensures.ok)
    (leave new.problem set passed core old c.args.g c.in_ok-proof-in-Unsat.proof not_given not_passed h answer.1 (c.in_ok-proof-in-Unsat.ensures core refuted))

-- at an empty purse the set asked is told, and not passed over
pub returns-in_ok-asked-in-Dry-clause-settled : goal.returns-in_ok-asked-in-Dry-clause-settled
returns-in_ok-asked-in-Dry-clause-settled g c =
    let new = g.O.Oracle.state c.ask_with.new.self in
    let more = with_group c.args.growth.now.set c.args.g in
    let left = c.ask_with.new.purse.left in
    let answer = subst (TellsAsked new more left) c.in-Dry.is c.in_ok-witness.ensures.answer in
    let asked = c.in_ok-asked-in-Dry.ensures in
    subst (λ s. IsDryAt new s left) (sym asked)
    (record {
      is_set = subst IsGroupSet asked c.as_slice-groups.ensures.ascends;
      within = subst (λ (p : Problem). IsSubset more (all_groups p.groups)) (c.requires.problem ∙ sym c.in_ok-witness.ensures.spent.problem) c.requires.within;
      empty = answer.0;
      undecided = answer.1;
    })
