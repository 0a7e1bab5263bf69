use Rattle.std.proofs.Common.{◌∙◌, ℕ, suc, refl, sym, ap, subst, inl, inr, List}
use Rattle.std.specs.Prelude.{ℤ}
use Rattle.std.proofs.lemmas.Bool.{cases_eq, false≢true}
use Rattle.sat_base.specs.Literals.{IsLiteral}
use Rattle.sat_base.specs.Members.{In}
use Rattle.clause_store.specs.Clauses.{Clauses}
use Rattle.clause_store.specs.Links.{link_of}
use Rattle.trail_book.specs.Trail.{trues}
use Rattle.trail_book.specs.declared.entry.Entry.{Entry}
use Rattle.propagate.specs.Propagation.{Grows}
use Rattle.propagate.specs.Walk.{IsWalk}
use Rattle.propagate.proofs.GrowsLemmas.{grows-refl}
use Rattle.propagate.proofs.WalkLemmas.{at_id, at_live, at_watched, watch_pair, walk_assign}
use Rattle.propagate.proofs.StepLemmas.{reason_at, falsified_at, before_ok, node_at, stays, moved, moves_away, tail_after}
use Rattle.propagate.proofs.ParkLemmas.{parked_walk}
use Rattle.propagate.proofs.propagation.step.Goals as goal

pub place_of-place-requires-clause-id : goal.place_of-place-requires-clause-id
place_of-place-requires-clause-id c = let r = c.requires in at_id c.args.store.now c.args.trail.now c.args.falsified (link_of c.args.before) c.args.id (suc c.args.left) r.walk r.from_one

pub place_of-place-requires-clause-watched : goal.place_of-place-requires-clause-watched
place_of-place-requires-clause-watched c = let r = c.requires in at_watched c.args.store.now c.args.trail.now c.args.falsified (link_of c.args.before) c.args.id (suc c.args.left) r.walk r.from_one

pub visit-requires-clause-watch : goal.visit-requires-clause-watch
visit-requires-clause-watch c =
    let r = c.requires in
    let e = c.place_of-place.ensures in
    let place = c.place_of-place.result.0 in
    let other = c.place_of-place.result.1 in
    let at = node_at c.args.store.now c.args.trail.now c.args.falsified (link_of c.args.before) c.args.id c.args.left r.walk r.from_one place other e.place e.first e.second e.other in
    watch_pair c.args.store.now c.args.trail.now c.args.falsified (link_of c.args.before) c.args.id (suc c.args.left) r.walk r.from_one place other at e.place e.other

pub unlink-requires-clause-before : goal.unlink-requires-clause-before
unlink-requires-clause-before c = let r = c.requires in before_ok c.args.store.now c.args.trail.now c.args.falsified c.args.before c.args.id (suc c.args.left) r.walk r.before_from_one

pub unlink-requires-in-Moved-clause-before : goal.unlink-requires-in-Moved-clause-before
unlink-requires-in-Moved-clause-before c = let r = c.requires in before_ok c.args.store.now c.args.trail.now c.args.falsified c.args.before c.args.id (suc c.args.left) r.walk r.before_from_one

pub append-requires-clause-last : goal.append-requires-clause-last
append-requires-clause-last c =
    let r = c.requires in
    let s = c.args.store.now in
    let t = c.args.trail.now in
    let can = c.in-Moved.ensures in
    tail_after s c.unlink-in-Moved.new.store t c.args.falsified c.in-Moved.to (link_of c.args.before) c.args.id (suc c.args.left) (link_of c.next-at.result) r.walk
    (moves_away s t c.args.falsified c.in-Moved.to c.place_of-place.result.1 (link_of c.args.before) c.args.id (suc c.args.left) r.walk r.from_one can) can.literal c.unlink-in-Moved.ensures.unlinks c.unlink-in-Moved.ensures.rest

pub returns-in-Satisfied-clause-walk : goal.returns-in-Satisfied-clause-walk
returns-in-Satisfied-clause-walk c =
    let r = c.requires in
    let e = c.place_of-place.ensures in
    stays c.args.store.now c.args.trail.now c.args.falsified (link_of c.args.before) c.args.id c.args.left r.walk r.from_one c.place_of-place.result.0 c.place_of-place.result.1 e.place e.first e.second e.other c.in-Satisfied.ensures _ c.next-at.ensures.next

pub returns-in-Satisfied-clause-grows : goal.returns-in-Satisfied-clause-grows
returns-in-Satisfied-clause-grows c = grows-refl c.args.store.now.clauses c.args.trail.now.entries

pub returns-in-Falsified-clause-grows : goal.returns-in-Falsified-clause-grows
returns-in-Falsified-clause-grows c = grows-refl c.args.store.now.clauses c.args.trail.now.entries

pub returns-in-Moved-clause-grows : goal.returns-in-Moved-clause-grows
returns-in-Moved-clause-grows c = grows-refl c.args.store.now.clauses c.args.trail.now.entries

pub returns-in-Falsified-clause-falsified : goal.returns-in-Falsified-clause-falsified
returns-in-Falsified-clause-falsified c =
    let r = c.requires in
    let s = c.args.store.now in
    let t = c.args.trail.now in (
      r.walk.kept,
      falsified_at s.clauses (trues t.entries) c.args.id (at_id s t c.args.falsified (link_of c.args.before) c.args.id (suc c.args.left) r.walk r.from_one)
          (at_live s t c.args.falsified (link_of c.args.before) c.args.id (suc c.args.left) r.walk r.from_one) c.in-Falsified.ensures,
    )

pub returns-in-Moved-clause-walk : goal.returns-in-Moved-clause-walk
returns-in-Moved-clause-walk c =
    let r = c.requires in
    let e = c.place_of-place.ensures in
    subst (λ (s : Clauses). IsWalk s c.args.trail.now c.args.falsified (link_of c.args.before) (link_of c.next-at.result) c.args.left) (sym c.set_position.ensures)
    (moved c.args.store.now c.unlink-in-Moved.new.store c.append.new.store c.set_watched.new.self c.args.trail.now c.args.falsified c.in-Moved.to c.place_of-place.result.1 (link_of c.args.before) c.args.id c.args.left
    c.place_of-place.result.0 (link_of c.next-at.result) c.paired.result r.walk r.from_one e.place e.first e.second e.other c.vars-vars.ensures.trail c.in-Moved.ensures c.next-at.ensures.next
    c.unlink-in-Moved.ensures.unlinks c.unlink-in-Moved.ensures.rest c.append.ensures.appends c.append.ensures.rest c.set_watched.ensures.set c.set_watched.ensures.others c.set_watched.ensures.rest
    c.paired.ensures.first c.paired.ensures.second)

pub returns-in-Forcing-clause-walk : goal.returns-in-Forcing-clause-walk
returns-in-Forcing-clause-walk c =
    let r = c.requires in
    let e = c.place_of-place.ensures in
    let a = c.assign.ensures in
    let w = walk_assign c.args.store.now c.args.trail.now c.assign.new.self c.args.falsified (link_of c.args.before) c.args.id (suc c.args.left) c.place_of-place.result.1 c.args.id a.entries a.vars a.done r.walk in
    let on : In c.place_of-place.result.1 (trues c.assign.new.self.entries) = subst (λ (es : List Entry). In c.place_of-place.result.1 (trues es)) (sym a.entries) (inl refl) in
    stays c.args.store.now c.assign.new.self c.args.falsified (link_of c.args.before) c.args.id c.args.left w r.from_one c.place_of-place.result.0 c.place_of-place.result.1 e.place e.first e.second e.other on _ c.next-at.ensures.next

pub returns-in-Forcing-clause-grows : goal.returns-in-Forcing-clause-grows
returns-in-Forcing-clause-grows c =
    let r = c.requires in
    let e = c.place_of-place.ensures in
    let s = c.args.store.now in
    let t = c.args.trail.now in
    let place = c.place_of-place.result.0 in
    let other = c.place_of-place.result.1 in
    let at = node_at s t c.args.falsified (link_of c.args.before) c.args.id c.args.left r.walk r.from_one place other e.place e.first e.second e.other in
    let pair = watch_pair s t c.args.falsified (link_of c.args.before) c.args.id (suc c.args.left) r.walk r.from_one place other at e.place e.other in
    let reason = reason_at s.clauses (trues t.entries) c.args.id other (at_id s t c.args.falsified (link_of c.args.before) c.args.id (suc c.args.left) r.walk r.from_one)
    (at_live s t c.args.falsified (link_of c.args.before) c.args.id (suc c.args.left) r.walk r.from_one) pair.other_stands c.in-Forcing.ensures.1
    in
    subst (Grows s.clauses t.entries) (sym c.assign.ensures.entries) (inr (reason, refl, grows-refl s.clauses t.entries))

pub returns-in-Settled-clause-walk : goal.returns-in-Settled-clause-walk
returns-in-Settled-clause-walk c =
    let r = c.requires in
    let e = c.place_of-place.ensures in
    parked_walk c.args.store.now c.unlink.new.store c.park.new.store c.args.trail.now c.args.falsified c.place_of-place.result.1 (link_of c.args.before) c.args.id c.args.left c.place_of-place.result.0 (link_of c.next-at.result)
    r.walk r.from_one e.place e.first e.second e.other c.in-Settled.ensures.0 e.over c.next-at.ensures.next c.unlink.ensures.unlinks c.unlink.ensures.rest c.park.ensures.parks c.park.ensures.rest

-- it is parked only where that is asked for
pub returns-in-Settled-clause-unasked : goal.returns-in-Settled-clause-unasked
returns-in-Settled-clause-unasked c = λ none. absurd (false≢true (sym none ∙ c.in-Settled.ensures.1))

pub returns-in-Moved-clause-unasked : goal.returns-in-Moved-clause-unasked
returns-in-Moved-clause-unasked c = λ none.
    ap (λ (x : Clauses). x.parks) c.set_position.ensures ∙ ap (λ (x : Clauses). x.parks) c.set_watched.ensures.rest ∙ ap (λ (x : Clauses). x.parks) c.append.ensures.rest ∙ ap (λ (x : Clauses). x.parks) c.unlink-in-Moved.ensures.rest

pub returns-in-Settled-clause-grows : goal.returns-in-Settled-clause-grows
returns-in-Settled-clause-grows c = grows-refl c.args.store.now.clauses c.args.trail.now.entries

pub set_watched-requires-clause-pair : goal.set_watched-requires-clause-pair
set_watched-requires-clause-pair c =
    let can = c.in-Moved.ensures in
    let e = c.place_of-place.ensures in
    let p = c.paired.ensures in
    let vars = sym (ap (λ (x : Clauses). x.vars) c.append.ensures.rest ∙ ap (λ (x : Clauses). x.vars) c.unlink-in-Moved.ensures.rest) in
    let to = subst (λ (v : ℕ). IsLiteral v c.in-Moved.to) vars can.literal in
    let other = subst (λ (v : ℕ). IsLiteral v c.place_of-place.result.1) vars e.over in
    elim (cases_eq c.place_of-place.result.0 0) [
      | inl zero ↦ (subst (λ (l : ℤ). IsLiteral c.append.new.store.vars l) (sym (p.first zero).0) to, subst (λ (l : ℤ). IsLiteral c.append.new.store.vars l) (sym (p.first zero).1) other)
      | inr ne ↦ (subst (λ (l : ℤ). IsLiteral c.append.new.store.vars l) (sym (p.second ne).0) other, subst (λ (l : ℤ). IsLiteral c.append.new.store.vars l) (sym (p.second ne).1) to)
    ]
