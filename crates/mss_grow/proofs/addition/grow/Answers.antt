use Rattle.std.proofs.Common.{◌≡◌, ◌+◌, take, get_or, subst, sym, ap, ◌∙◌, arith}
use Rattle.std.proofs.lemmas.List.{take_all, take_more}
use Rattle.gm_base.specs.Sets.{IsSubset, IsGroupSet, all_groups, complement}
use Rattle.gm_base.specs.Problem.{Problem}
use Rattle.evidence_rec.specs.Asking.{OracleState, IsHonestOver}
use Rattle.evidence_rec.proofs.AskingLemmas.{IsSpent-then}
use Rattle.mss_grow.specs.Growth.{IsGrowth, TellsSettled}
use Rattle.mss_grow.proofs.GrowthLemmas.{fresh, not-given, asked-within, AcceptsCorrection-from_growth, IsShaped-from_growth, outside-given}
use Rattle.mss_grow.proofs.addition.grow.Goals as goal

-- a question that keeps the log honest keeps it so over the problem, which stays
honest-then : (p : Problem) (old new : OracleState) → p ≡ old.problem → new.problem ≡ p → (IsHonestOver old.problem old.log → IsHonestOver new.problem new.log)
    → IsHonestOver p old.log → IsHonestOver p new.log
honest-then p old new before same keeps honest =
    subst (λ (q : Problem). IsHonestOver q new.log) same (keeps (subst (λ (q : Problem). IsHonestOver q old.log) before honest))

-- the set at hand has groups of the problem alone
pub settle-requires-clause-within : goal.settle-requires-clause-within
settle-requires-clause-within g c =
    let items = c.as_slice-g-items.result.now in
    asked-within c.args.problem.now.groups c.args.set.now items c.loop-g.growth.set c.loop-g.g-index c.requires.within
    (c.as_slice-g-items.ensures.groups ∙ c.in_ok-out.ensures ∙ ap (λ n. complement n c.args.set.now) c.groups.ensures.count) (omega arith) c.loop-g.invariant.growth.within

-- the group is settled too
pub loop-g-preserved : goal.loop-g-preserved
loop-g-preserved g c =
    let new = g.O.Oracle.state c.settle.new.oracle in
    let set = c.args.set.now in
    let items = c.as_slice-g-items.result.now in
    let passed = take c.loop-g.g-index items in
    let h = get_or items c.loop-g.g-index 0 in
    let is : items ≡ complement c.args.problem.now.groups set = c.as_slice-g-items.ensures.groups ∙ c.in_ok-out.ensures ∙ ap (λ n. complement n set) c.groups.ensures.count in
    let problem = c.args.problem.now in
    let before : problem ≡ (g.O.Oracle.state c.loop-g.oracle).problem = c.requires.problem ∙ sym c.loop-g.invariant.spent.problem in
    let same : new.problem ≡ problem = c.in_ok-asked.ensures.spent.problem ∙ c.loop-g.invariant.spent.problem ∙ sym c.requires.problem in
    let tells = subst (TellsSettled new c.loop-g.growth h c.settle.new.growth c.settle.new.purse.left) c.in_default.is c.in_ok-asked.ensures.settled in
    let next = tells set passed (not-given c.args.problem.now.groups set items c.loop-g.g-index is (omega arith))
    (fresh 0 items c.loop-g.g-index (subst IsGroupSet (sym c.as_slice-g-items.ensures.groups) c.as_slice-g-items.ensures.ascends) (omega arith))
    (subst (λ (q : Problem). IsGrowth q set passed c.loop-g.growth) (sym same) c.loop-g.invariant.growth) in
    record {
      growth =
          subst (λ (q : Problem). IsGrowth q set (take (c.loop-g.g-index + 1) items) c.settle.new.growth) same
          (subst (λ gs. IsGrowth new.problem set gs c.settle.new.growth) (sym (take_more items c.loop-g.g-index 0 (omega arith))) next);
      asks = omega (arith, c.in_ok-asked.ensures.asks, c.loop-g.invariant.asks);
      honest = λ first. honest-then problem (g.O.Oracle.state c.loop-g.oracle) new before same c.in_ok-asked.ensures.honest (c.loop-g.invariant.honest first);
      spent =
          IsSpent-then (g.O.Oracle.state c.args.oracle.now) (g.O.Oracle.state c.loop-g.oracle) new c.args.purse.now.left c.loop-g.purse.left c.settle.new.purse.left c.loop-g.invariant.spent
          c.in_ok-asked.ensures.spent;
    }

-- questions keep the log honest, also the last one
pub returns-in_err-asked-clause-honest : goal.returns-in_err-asked-clause-honest
returns-in_err-asked-clause-honest g c = λ first.
    let before = c.requires.problem ∙ sym c.loop-g.invariant.spent.problem in
    honest-then c.args.problem.now (g.O.Oracle.state c.loop-g.oracle) (g.O.Oracle.state c.settle.new.oracle) before (c.in_err-asked.ensures.spent.problem ∙ sym before) c.in_err-asked.ensures.honest
    (c.loop-g.invariant.honest first)

pub returns-in-Some-clause-honest : goal.returns-in-Some-clause-honest
returns-in-Some-clause-honest g c = λ first.
    let before = c.requires.problem ∙ sym c.loop-g.invariant.spent.problem in
    honest-then c.args.problem.now (g.O.Oracle.state c.loop-g.oracle) (g.O.Oracle.state c.settle.new.oracle) before (c.in_ok-asked.ensures.spent.problem ∙ sym before) c.in_ok-asked.ensures.honest
    (c.loop-g.invariant.honest first)

-- what the questions cost adds up
pub returns-in_err-asked-clause-spent : goal.returns-in_err-asked-clause-spent
returns-in_err-asked-clause-spent g c =
    IsSpent-then (g.O.Oracle.state c.args.oracle.now) (g.O.Oracle.state c.loop-g.oracle) (g.O.Oracle.state c.settle.new.oracle) c.args.purse.now.left c.loop-g.purse.left c.settle.new.purse.left c.loop-g.invariant.spent
    c.in_err-asked.ensures.spent

pub returns-in-Some-clause-spent : goal.returns-in-Some-clause-spent
returns-in-Some-clause-spent g c =
    IsSpent-then (g.O.Oracle.state c.args.oracle.now) (g.O.Oracle.state c.loop-g.oracle) (g.O.Oracle.state c.settle.new.oracle) c.args.purse.now.left c.loop-g.purse.left c.settle.new.purse.left c.loop-g.invariant.spent
    c.in_ok-asked.ensures.spent

-- all groups outside of the given set are settled
pub returns-clause-grown : goal.returns-clause-grown
returns-clause-grown g c =
    let p = (g.O.Oracle.state c.loop-g.oracle).problem in
    let set = c.args.set.now in
    let last = c.loop-g.growth in
    let items = c.as_slice-g-items.result.now in
    let out = c.in_ok-complement.field-0 in
    let same : c.args.problem.now ≡ p = c.requires.problem ∙ sym c.loop-g.invariant.spent.problem in
    let all : take c.loop-g.g-index items ≡ complement c.args.problem.now.groups set =
    take_all c.loop-g.g-index items (omega arith) ∙ c.as_slice-g-items.ensures.groups ∙ c.in_ok-out.ensures ∙ ap (λ n. complement n set) c.groups.ensures.count in
    let whole : IsGrowth c.args.problem.now set (complement c.args.problem.now.groups set) last = subst (λ gs. IsGrowth c.args.problem.now set gs last) all c.loop-g.invariant.growth in
    let growth : IsGrowth p set (complement p.groups set) last = subst (λ (q : Problem). IsGrowth q set (complement q.groups set) last) same whole in
    let within : IsSubset set (all_groups p.groups) = subst (λ (q : Problem). IsSubset set (all_groups q.groups)) same c.requires.within in
    let is : out ≡ complement p.groups last.set =
    c.in_ok-complement.ensures ∙ ap (λ n. complement n last.set) c.groups-2.ensures.count ∙ ap (λ (q : Problem). complement q.groups last.set) same in (
      outside-given p set out (complement p.groups set) last growth is,
      IsShaped-from_growth p set out last growth is,
      AcceptsCorrection-from_growth p set out last growth within is,
    )
