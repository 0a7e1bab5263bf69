use Rattle.std.proofs.Common.{◌≡◌, ◌∙◌, ◌+◌, ℕ, List, Option, inl, refl, sym, ap, subst, length, arith}
use Rattle.std.specs.Prelude.{ℤ, IfNone}
use Rattle.sat_base.specs.Members.{In}
use Rattle.sat_base.specs.Database.{StoredClause}
use Rattle.sat_base.specs.Units.{IsFixpoint}
use Rattle.clause_store.specs.Links.{link_of}
use Rattle.trail_book.specs.Trail.{Trail, trues, IsTrail}
use Rattle.trail_book.proofs.TrailLemmas.{trail_room, trail_vars}
use Rattle.propagate.specs.Propagation.{Grows}
use Rattle.propagate.specs.Watches.{IsKept}
use Rattle.propagate.proofs.GrowsLemmas.{grows-refl, grows-trans}
use Rattle.propagate.proofs.LevelLemmas.{oldest_in, literal_neg}
use Rattle.propagate.proofs.StepLemmas.{keeps_same, keeps_trans}
use Rattle.propagate.proofs.FixpointLemmas.{fixpoint, false_is_falsified}
use Rattle.propagate.proofs.propagation.propagate_by.Goals as goal

pub returns-in-Some-clause-grows : goal.returns-in-Some-clause-grows
returns-in-Some-clause-grows c = grows-refl c.args.store.now.clauses c.args.trail.now.entries

pub returns-in-Some-clause-answer : goal.returns-in-Some-clause-answer
returns-in-Some-clause-answer c = let e = c.in-Some.ensures in false_is_falsified c.args.store.now c.args.trail.now c.in-Some.id c.requires e.id e.from_one

pub loop-trail-init : goal.loop-trail-init
loop-trail-init c =
    let s = c.args.store.now in
    let t = c.args.trail.now in
    record {
      kept = c.requires;
      none = sym c.false_id.ensures.id ∙ ap link_of c.in_default.is;
      grows = grows-refl s.clauses t.entries;
      clauses = keeps_same s;
      vars = refl;
      touched = refl;
      trail = c.vars-vars.ensures.trail;
      unasked = λ none. refl;
    }

-- the literal at that place is one of the trail, and its negation is over the variables
pub visit_all-requires-clause-literal : goal.visit_all-requires-clause-literal
visit_all-requires-clause-literal c =
    let l = c.loop-trail in
    let t = l.trail in
    let lit = c.at.result in
    let on : In lit (trues t.entries) = oldest_in lit (c.done-done.result + 1) t.entries (subst (λ (ls : List ℤ). In lit ls) (sym c.at.ensures) (inl refl)) in
    let is = literal_neg t.vars lit (trail_vars t.vars t.entries l.invariant.trail lit on) in
    rw (c.negated-falsified.ensures, l.invariant.kept.vars) is

pub returns-in-Some-visit_all-clause-grows : goal.returns-in-Some-visit_all-clause-grows
returns-in-Some-visit_all-clause-grows c =
    let i = c.loop-trail.invariant in
    let grows = subst (λ (db : List StoredClause). Grows db c.loop-trail.trail.entries c.visit_all.new.trail.entries) i.clauses.clauses c.visit_all.ensures.grows in
    grows-trans c.args.store.now.clauses c.args.trail.now.entries c.loop-trail.trail.entries c.visit_all.new.trail.entries i.grows grows

pub loop-trail-smaller : goal.loop-trail-smaller
loop-trail-smaller c =
    let l = c.loop-trail in
    let t = l.trail in
    let v = c.visit_all.ensures in
    let room = trail_room t.vars t.entries l.invariant.trail in
    let new_done = ap (λ (x : Trail). x.done) c.set_done.ensures in
    let new_vars = ap (λ (x : Trail). x.vars) c.set_done.ensures in
    let vars = v.vars in
    let done = c.done-done.ensures in
    grind (arith, room, new_done, new_vars, vars, done)

-- where no clause of the list is falsified, its literal has been propagated
pub loop-trail-preserved : goal.loop-trail-preserved
loop-trail-preserved c =
    let i = c.loop-trail.invariant in
    let v = c.visit_all.ensures in
    let t = c.visit_all.new.trail in
    let s = c.args.store.now in
    let grows = subst (λ (db : List StoredClause). Grows db c.loop-trail.trail.entries t.entries) i.clauses.clauses v.grows in
    let e : c.set_done.new.self ≡ record t { done = t.done + 1 } = c.set_done.ensures ∙ ap (λ (d : ℕ). record t { done = d + 1 }) (c.done-done.ensures ∙ sym v.done) in
    let kept : IsKept c.visit_all.new.store (record t { done = t.done + 1 }) = subst (λ (o : Option ℕ). IfNone o (IsKept c.visit_all.new.store (record t { done = t.done + 1 }))) c.in_default-visit_all.is v.propagated in
    record {
      kept = subst (λ (x : Trail). IsKept c.visit_all.new.store x) (sym e) kept;
      none = v.clauses.false_id ∙ i.none;
      grows = subst (λ (x : Trail). Grows s.clauses c.args.trail.now.entries x.entries) (sym e) (grows-trans s.clauses c.args.trail.now.entries c.loop-trail.trail.entries t.entries i.grows grows);
      clauses = keeps_trans s c.loop-trail.store c.visit_all.new.store i.clauses v.clauses;
      vars = ap (λ (x : Trail). x.vars) e ∙ v.vars ∙ i.vars;
      touched = ap (λ (x : Trail). x.touched) e ∙ v.touched ∙ i.touched;
      trail = subst (λ (x : Trail). IsTrail x.vars x.entries) (sym e) v.trail;
      unasked = λ none. v.unasked none ∙ i.unasked none;
    }

-- where all values have been propagated, nothing is left
pub returns-clause-answer : goal.returns-clause-answer
returns-clause-answer c =
    let l = c.loop-trail in
    let i = l.invariant in
    let within = i.kept.done in
    let done : l.trail.done ≡ length l.trail.entries = grind (arith, within) in
    subst (λ (db : List StoredClause). IsFixpoint db (trues l.trail.entries)) i.clauses.clauses (fixpoint l.store l.trail i.kept done i.none)
