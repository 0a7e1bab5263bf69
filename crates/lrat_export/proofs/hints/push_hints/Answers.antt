use Rattle.std.proofs.Common.{ℕ, true, false, arith, subst}
use Rattle.sat_base.specs.Hints.{ids_of}
use Rattle.lrat_export.specs.Export.{bared, known_of}
use Rattle.lrat_export.specs.Walk.{IsWalked}
use Rattle.lrat_export.proofs.WalkLemmas.{walked-ended, walked-further}
use Rattle.lrat_export.proofs.hints.push_hints.Goals as goal

-- a clause is false, so nothing is left
pub returns-then-ended-clause-text : goal.returns-then-ended-clause-text
returns-then-ended-clause-text c =
    let source = c.args.source in
    let known = known_of source.problem.now source.set.now source.proof.now in
    walked-ended known (bared source.problem.now.vars c.args.lits.now) (ids_of c.args.hints) c.loop-at.marks c.push_next.new.marks c.args.out.now.items c.loop-at.out.items c.push_next.new.out.items
    c.loop-at.at 0 (omega arith) c.loop-at.invariant.walked
    (λ g are. subst (λ (h : ℕ). IsWalked known g h c.loop-at.out.items c.push_next.new.out.items c.push_next.new.marks true) c.at.ensures
    (subst (IsWalked known g c.at.result c.loop-at.out.items c.push_next.new.out.items c.push_next.new.marks) c.if-ended.true (c.in_ok-ended.ensures.walked g are)))

pub loop-at-preserved : goal.loop-at-preserved
loop-at-preserved c =
    let source = c.args.source in
    let known = known_of source.problem.now source.set.now source.proof.now in
    record {
      places = c.in_ok-ended.ensures.places;
      walked = walked-further known (bared source.problem.now.vars c.args.lits.now) (ids_of c.args.hints) c.loop-at.marks c.push_next.new.marks c.args.out.now.items c.loop-at.out.items c.push_next.new.out.items
          c.loop-at.at 0 (omega arith) c.loop-at.invariant.walked
          (λ g are. subst (λ (h : ℕ). IsWalked known g h c.loop-at.out.items c.push_next.new.out.items c.push_next.new.marks false) c.at.ensures
          (subst (IsWalked known g c.at.result c.loop-at.out.items c.push_next.new.out.items c.push_next.new.marks) c.if-ended.false (c.in_ok-ended.ensures.walked g are)));
    }
