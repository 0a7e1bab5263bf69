use Rattle.std.proofs.Common.{◌≡◌, ◌<◌, ◌∙◌, ◌+◌, ◌-◌, ◌*◌, List, Option, IfSome, ℕ, suc, refl, sym, subst, arith}
use Rattle.sat_base.specs.Database.{StoredClause}
use Rattle.clause_store.specs.Links.{link_of}
use Rattle.propagate.specs.Propagation.{Grows}
use Rattle.propagate.specs.Walk.{IsWalk}
use Rattle.propagate.proofs.GrowsLemmas.{grows-refl, grows-trans}
use Rattle.propagate.proofs.WalkLemmas.{begin_walk, some_left, propagated}
use Rattle.propagate.proofs.StepLemmas.{keeps_same, keeps_trans}
use Rattle.propagate.proofs.LengthLemmas.{list_fits}
use Rattle.propagate.proofs.propagation.visit_all.Goals as goal

pub loop-cursor-init : goal.loop-cursor-init
loop-cursor-init c =
    let r = c.requires in
    let s = c.args.store.now in
    let long = c.len.ensures.len in
    record {
      walk = subst (λ (at : ℕ). IsWalk s c.args.trail.now c.args.falsified 0 at (2 * c.len.result + 2)) (sym c.head.ensures.head)
          (begin_walk s c.args.trail.now c.args.falsified (2 * c.len.result + 2) r.kept r.none r.literal r.waiting r.now (λ ns nodes apart ids. let fits = list_fits s.clauses ns apart ids in omega (arith, fits, long)));
      before_from_one = tt;
      from_one = c.head.ensures.from_one;
      grows = grows-refl s.clauses c.args.trail.now.entries;
      clauses = keeps_same s;
      done = refl;
      vars = refl;
      touched = refl;
      trail = c.vars-vars.ensures.trail;
      unasked = λ none. refl;
    }

pub step-requires-clause-walk : goal.step-requires-clause-walk
step-requires-clause-walk c =
    let l = c.loop-cursor in
    let before = link_of l.cursor.before in
    let w = subst (λ (at : Option ℕ). IsWalk l.store l.trail c.args.falsified before (link_of at) l.left) c.in-Some.is l.invariant.walk in
    let some : 0 < c.in-Some.id = subst (λ (at : Option ℕ). IfSome at (λ id. 0 < id)) c.in-Some.is l.invariant.from_one in
    let left = some_left l.store l.trail c.args.falsified before c.in-Some.id l.left some w in
    let same : l.left ≡ suc (l.left - 1) = omega (arith, left) in
    subst (λ (k : ℕ). IsWalk l.store l.trail c.args.falsified before c.in-Some.id k) same w

pub loop-cursor-preserved : goal.loop-cursor-preserved
loop-cursor-preserved c =
    let s = c.args.store.now in
    let i = c.loop-cursor.invariant in
    let e = c.in-Some-step.ensures in
    let grows = subst (λ (db : List StoredClause). Grows db c.loop-cursor.trail.entries c.step.new.trail.entries) i.clauses.clauses e.grows in
    record {
      walk = e.walk;
      before_from_one = e.from_one.0;
      from_one = e.from_one.1;
      grows = grows-trans s.clauses c.args.trail.now.entries c.loop-cursor.trail.entries c.step.new.trail.entries i.grows grows;
      clauses = keeps_trans s c.loop-cursor.store c.step.new.store i.clauses e.clauses;
      done = e.done ∙ i.done;
      vars = e.vars ∙ i.vars;
      touched = e.touched ∙ i.touched;
      trail = e.trail;
      unasked = λ none. e.unasked none ∙ i.unasked none;
    }

pub returns-in-None-clause-grows : goal.returns-in-None-clause-grows
returns-in-None-clause-grows c =
    let i = c.loop-cursor.invariant in
    let grows = subst (λ (db : List StoredClause). Grows db c.loop-cursor.trail.entries c.step.new.trail.entries) i.clauses.clauses c.step.ensures.grows in
    grows-trans c.args.store.now.clauses c.args.trail.now.entries c.loop-cursor.trail.entries c.step.new.trail.entries i.grows grows

-- at the end of the list the literal has been propagated
pub returns-clause-propagated : goal.returns-clause-propagated
returns-clause-propagated c =
    let l = c.loop-cursor in
    let w = subst (λ (at : Option ℕ). IsWalk l.store l.trail c.args.falsified (link_of l.cursor.before) (link_of at) l.left) c.in_default.is l.invariant.walk in
    propagated l.store l.trail c.args.falsified (link_of l.cursor.before) l.left l.invariant.trail w
