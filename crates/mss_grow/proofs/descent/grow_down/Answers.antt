use Rattle.std.proofs.Common.{◌≡◌, ◌≤◌, [], length, subst, sym, ap, ap₂, ◌∙◌, arith}
use Rattle.gm_base.specs.Sets.{IsSubset, all_groups, complement, without}
use Rattle.gm_base.specs.Problem.{Problem, Sat}
use Rattle.gm_base.proofs.SatLemmas.{Sat-subset}
use Rattle.evidence_rec.specs.Asking.{TellsAsked, IsHonestOver}
use Rattle.evidence_rec.proofs.AskingLemmas.{IsSpent-same, IsSpent-then}
use Rattle.mss_grow.specs.Growth.{left_out}
use Rattle.mss_grow.proofs.DescentLemmas.{keeps-all, within-all, keeps-without, within-without, left_out-all, left_out-falls, complement-fewer, asked_once-most}
use Rattle.mss_grow.proofs.descent.grow_down.Goals as goal

-- all groups keep the given set
pub cores-init : goal.cores-init
cores-init g c =
    let p = c.args.problem.now in
    let set = c.args.set.now in
    let is : c.in_ok-large.large ≡ complement p.groups [] = c.in_ok-large.ensures ∙ ap₂ complement c.groups.ensures.count c.new.ensures in
    record {
      keeps = subst (IsSubset set) (sym is) (keeps-all p.groups set c.requires.within);
      within = subst (λ gs. IsSubset gs (all_groups p.groups)) (sym is) (within-all p.groups);
      asks = omega (arith, ap (λ gs. length (left_out set gs)) is, ap length (left_out-all p.groups set));
      fewer = subst (λ gs. length (complement p.groups gs) ≤ length (complement p.groups set)) (sym is) (complement-fewer p.groups set (complement p.groups []) (keeps-all p.groups set c.requires.within));
      honest = λ first. first;
      spent = IsSpent-same (g.O.Oracle.state c.args.oracle.now) c.args.purse.now.left;
    }

-- the given set is satisfiable, and the core is not
pub one_outside-g-requires : goal.one_outside-g-requires
one_outside-g-requires g c = λ sub.
    let new = g.O.Oracle.state c.ask.new.self in
    let same : new.problem ≡ c.args.problem.now = c.in_ok-assign.ensures.spent.problem ∙ c.cores.invariant.spent.problem ∙ sym c.requires.problem in
    let answer = subst (TellsAsked new c.cores.large c.ask.new.purse.left) c.in-Unsat.is c.in_ok-assign.ensures.answer in
    answer.2 (Sat-subset new.problem c.in-Unsat.core c.args.set.now sub (subst (λ (q : Problem). Sat q c.args.set.now) (sym same) c.requires.satisfiable))

-- one group less is outside of the given set
pub cores-smaller : goal.cores-smaller
cores-smaller g c =
    let set = c.args.set.now in
    let large = c.cores.large in
    let h = c.one_outside-g.result in
    let answer = subst (TellsAsked (g.O.Oracle.state c.ask.new.self) large c.ask.new.purse.left) c.in-Unsat.is c.in_ok-assign.ensures.answer in
    let falls = left_out-falls set large h (answer.1 h c.one_outside-g.ensures.in_core) c.one_outside-g.ensures.outside in
    omega (arith, ap (λ gs. length (left_out set gs)) c.in_ok-large-in-Unsat.ensures, falls)

-- the group that is dropped is not in the given set
pub cores-preserved : goal.cores-preserved
cores-preserved g c =
    let old = g.O.Oracle.state c.cores.oracle in
    let new = g.O.Oracle.state c.ask.new.self in
    let p = c.args.problem.now in
    let set = c.args.set.now in
    let large = c.cores.large in
    let h = c.one_outside-g.result in
    let is : c.in_ok-large-in-Unsat.large ≡ without large h = c.in_ok-large-in-Unsat.ensures in
    let same : new.problem ≡ p = c.in_ok-assign.ensures.spent.problem ∙ c.cores.invariant.spent.problem ∙ sym c.requires.problem in
    let answer = subst (TellsAsked new large c.ask.new.purse.left) c.in-Unsat.is c.in_ok-assign.ensures.answer in
    let falls = left_out-falls set large h (answer.1 h c.one_outside-g.ensures.in_core) c.one_outside-g.ensures.outside in
    let keeps = keeps-without set large h c.cores.invariant.keeps c.one_outside-g.ensures.outside in
    record {
      keeps = subst (IsSubset set) (sym is) keeps;
      within = subst (λ gs. IsSubset gs (all_groups p.groups)) (sym is) (within-without large (all_groups p.groups) h c.cores.invariant.within);
      asks = omega (arith, ap (λ gs. length (left_out set gs)) is, falls, c.in_ok-assign.ensures.asks, asked_once-most old.asks, c.cores.invariant.asks);
      fewer = subst (λ gs. length (complement p.groups gs) ≤ length (complement p.groups set)) (sym is) (complement-fewer p.groups set (without large h) keeps);
      honest = λ first. subst (λ (q : Problem). IsHonestOver q new.log) same c.in_ok-assign.ensures.honest;
      spent =
          IsSpent-then (g.O.Oracle.state c.args.oracle.now) old new c.args.purse.now.left c.cores.purse.left c.ask.new.purse.left c.cores.invariant.spent
          c.in_ok-assign.ensures.spent;
    }
