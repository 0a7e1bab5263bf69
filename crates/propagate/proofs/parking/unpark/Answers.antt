use Rattle.std.proofs.Common.{◌≡◌, ◌<◌, ◌+◌, ◌-◌, ◌*◌, ℕ, suc, sym, ◌∙◌, ap, subst, arith, length, Option, IfSome}
use Rattle.clause_store.specs.Clauses.{Clauses}
use Rattle.clause_store.specs.Links.{link_of}
use Rattle.propagate.specs.Walk.{IsReturning}
use Rattle.propagate.proofs.LengthLemmas.{list_fits}
use Rattle.propagate.proofs.ReturnLemmas.{begin_returning, rest_of_parks, step_left}
use Rattle.propagate.proofs.UnparkedLemmas.{unparked_under}
use Rattle.propagate.proofs.parking.unpark.Goals as goal

-- all of them are still to go back
pub loop-at-init : goal.loop-at-init
loop-at-init c =
    let s = c.args.store.now in
    let e = c.set_parked.ensures in
    let long : c.len.result ≡ length s.clauses = c.len.ensures.len ∙ ap (λ (x : Clauses). length x.clauses) e.rest in
    record {
      returning = subst (λ (k : ℕ). IsReturning c.set_parked.new.self c.args.trail.now c.args.lit k (2 * c.len.result + 2)) (sym c.parked-at.ensures.first)
          (begin_returning s c.set_parked.new.self c.args.trail.now c.args.lit (2 * c.len.result + 2) c.requires.hung c.requires.literal e.set e.others e.rest
          (λ ns apart ids. let fits = list_fits s.clauses ns apart ids in omega (arith, fits, long)));
      from_one = c.parked-at.ensures.from_one;
      others = e.others;
      rest = rest_of_parks s c.set_parked.new.self e.rest;
    }

pub release-at-requires-clause-returning : goal.release-at-requires-clause-returning
release-at-requires-clause-returning c =
    let l = c.loop-at in
    let r = subst (λ (o : Option ℕ). IsReturning l.store c.args.trail.now c.args.lit (link_of o) l.left) c.in-Some.is l.invariant.returning in
    let some : 0 < c.in-Some.id = subst (λ (o : Option ℕ). IfSome o (λ id. 0 < id)) c.in-Some.is l.invariant.from_one in
    let left = step_left l.store c.args.trail.now c.args.lit c.in-Some.id l.left some r in
    let same : l.left ≡ suc (l.left - 1) = omega (arith, left) in
    subst (λ (k : ℕ). IsReturning l.store c.args.trail.now c.args.lit c.in-Some.id k) same r

pub returns-clause-unparked : goal.returns-clause-unparked
returns-clause-unparked c =
    let i = c.loop-at.invariant in
    unparked_under c.args.store.now c.loop-at.store c.args.lit (ap (λ (x : Clauses). x.vars) i.rest) i.returning.taken i.others
