use Rattle.std.proofs.Common.{◌≡◌, [], ◌∷◌, ◌++◌, take, get_or, subst, sym, ◌∙◌, ap, arith, append-nil, append_assoc}
use Rattle.std.proofs.lemmas.List.{take_all, take_more}
use Rattle.gm_base.specs.Problem.{Problem}
use Rattle.gm_base.specs.Sets.{IsSubset, all_groups}
use Rattle.evidence_rec.proofs.AskingLemmas.{IsSpent-same, IsSpent-then}
use Rattle.mus_shrink.specs.Candidate.{IsCandidate, TellsTried}
use Rattle.mus_shrink.proofs.deletion.try_groups.Goals as goal

-- what is left of the candidate is a set of groups of the problem
pub try_group-requires-clause-is_set : goal.try_group-requires-clause-is_set
try_group-requires-clause-is_set g c = (c.loop-g.invariant.tried c.args.candidate.now.set [] c.requires.candidate).is_set

pub try_group-requires-clause-within : goal.try_group-requires-clause-within
try_group-requires-clause-within g c = λ h i.
    let part = c.loop-g.invariant.tried c.args.candidate.now.set [] c.requires.candidate in
    subst (λ (p : Problem). IsSubset c.args.candidate.now.set (all_groups p.groups)) (sym c.loop-g.invariant.spent.problem) c.requires.within h (part.within h i)

-- the group is tried too
pub loop-g-preserved : goal.loop-g-preserved
loop-g-preserved g c =
    let first = g.O.Oracle.state c.args.oracle.now in
    let new = g.O.Oracle.state c.try_group.new.oracle in
    let items = c.args.groups.now in
    let at = c.loop-g.g-index in
    let h = get_or items at 0 in
    let i = c.loop-g.invariant in
    let same : new.problem ≡ first.problem = c.in_ok-asked.ensures.spent.problem ∙ i.spent.problem in
    let tells = subst (TellsTried new c.loop-g.candidate (h ∷ []) c.try_group.new.candidate c.try_group.new.purse.left) c.in_default.is c.in_ok-asked.ensures.tried in
    record {
      tried = λ set tried was.
          subst (λ gs. IsCandidate first.problem set gs c.try_group.new.candidate)
          (append_assoc tried (take at items) (h ∷ []) ∙ ap (λ gs. tried ++ gs) (sym (take_more items at 0 (omega arith))))
          (subst (λ p. IsCandidate p set ((tried ++ take at items) ++ h ∷ []) c.try_group.new.candidate) same
          (tells set (tried ++ take at items)
          (subst (λ p. IsCandidate p set (tried ++ take at items) c.loop-g.candidate) (sym same) (i.tried set tried was))));
      asks = omega (arith, c.in_ok-asked.ensures.asks, i.asks);
      honest = λ was. c.in_ok-asked.ensures.honest (i.honest was);
      spent =
          IsSpent-then first (g.O.Oracle.state c.loop-g.oracle) new c.args.purse.now.left c.loop-g.purse.left c.try_group.new.purse.left i.spent
          c.in_ok-asked.ensures.spent;
    }

-- no group was tried, and nothing was asked
pub loop-g-init : goal.loop-g-init
loop-g-init g c =
    record {
      tried = λ set tried was. subst (λ gs. IsCandidate (g.O.Oracle.state c.args.oracle.now).problem set gs c.args.candidate.now) (sym (append-nil tried)) was;
      asks = omega arith;
      honest = λ was. was;
      spent = IsSpent-same (g.O.Oracle.state c.args.oracle.now) c.args.purse.now.left;
    }

-- all were tried
pub returns-clause-tried : goal.returns-clause-tried
returns-clause-tried g c = λ set tried was.
    let first = g.O.Oracle.state c.args.oracle.now in
    let last = g.O.Oracle.state c.loop-g.oracle in
    let i = c.loop-g.invariant in
    let items = c.args.groups.now in
    let all : take c.loop-g.g-index items ≡ items = take_all c.loop-g.g-index items (omega arith) in
    subst (λ p. IsCandidate p set (tried ++ items) c.loop-g.candidate) (sym i.spent.problem)
    (subst (λ gs. IsCandidate first.problem set (tried ++ gs) c.loop-g.candidate) all
    (i.tried set tried (subst (λ p. IsCandidate p set tried c.args.candidate.now) i.spent.problem was)))
