use Rattle.std.proofs.Common.{List, Some, ap, sym, subst, refl, inl, inr, arith}
use Rattle.std.specs.Prelude.{ℤ, neg_ℤ}
use Rattle.sat_base.specs.Members.{In}
use Rattle.sat_base.specs.Database.{StoredClause}
use Rattle.sat_base.specs.Units.{AllFalseBut}
use Rattle.clause_store.specs.Clauses.{clause_at}
use Rattle.trail_book.specs.Trail.{trues, keep}
use Rattle.trail_book.proofs.TrailLemmas.{trail_consistent}
use Rattle.propagate.proofs.GrowsLemmas.{literal_in}
use Rattle.propagate.proofs.KeptLemmas.{kept_settled}
use Rattle.propagate.proofs.StepLemmas.{reason_at}
use Rattle.propagate.proofs.OpenLemmas.{open_guard}
use Rattle.propagate.proofs.EnterLemmas.{some_same, last_others, forced_true, forced_grows, forced_stays, forced_loose, forced_guard, forced_root}
use Rattle.propagate.proofs.entrance.enter_forcing.Goals as goal

pub last_false-requires : goal.last_false-requires
last_false-requires c = λ l i. elim (c.requires.others l i) [ inl is ↦ inl (ap (λ (k : ℤ). Some k) (sym is)) | inr f ↦ inr f ]

pub level_of-level-requires : goal.level_of-level-requires
level_of-level-requires c = subst (λ (m : ℤ). In m (trues c.args.trail.now.entries)) (sym c.negated.ensures) c.in-Some.ensures.some.is_false

pub force-requires-clause-literal : goal.force-requires-clause-literal
force-requires-clause-literal c = let r = c.requires in literal_in c.args.trail.now.vars c.args.lits.now c.args.first r.literals r.has

pub force-requires-in-None-clause-literal : goal.force-requires-in-None-clause-literal
force-requires-in-None-clause-literal c = let r = c.requires in literal_in c.args.trail.now.vars c.args.lits.now c.args.first r.literals r.has

pub watch-requires-clause-first : goal.watch-requires-clause-first
watch-requires-clause-first c = subst (λ (db : List StoredClause). In c.args.first (clause_at db c.args.id).lits) (sym c.force.ensures.clauses.clauses) (subst (λ (ls : List ℤ). In c.args.first ls) (sym c.requires.unwatched.lits_are) c.requires.has)

pub watch-requires-clause-second : goal.watch-requires-clause-second
watch-requires-clause-second c = subst (λ (db : List StoredClause). In c.in-Some.second (clause_at db c.args.id).lits) (sym c.force.ensures.clauses.clauses) (subst (λ (ls : List ℤ). In c.in-Some.second ls) (sym c.requires.unwatched.lits_are) c.in-Some.ensures.some.has)

pub watch-requires-clause-differ : goal.watch-requires-clause-differ
watch-requires-clause-differ c = λ e. c.in-Some.ensures.some.other (ap (λ (k : ℤ). Some k) e)

-- the first one is true
pub watch-requires-clause-first_guard : goal.watch-requires-clause-first_guard
watch-requires-clause-first_guard c =
    let es = c.args.trail.now.entries in
    let new = c.force.new.trail in
    let level = c.level_of-level.result in
    let on = forced_true es new.entries c.args.lits.now c.args.first level c.args.id c.level_of-level.ensures.within c.force.ensures.forced in
    open_guard new.entries new.done c.args.first c.in-Some.second (trail_consistent new.vars new.entries c.force.ensures.trail c.args.first on)

pub watch-requires-clause-second_guard : goal.watch-requires-clause-second_guard
watch-requires-clause-second_guard c =
    let es = c.args.trail.now.entries in
    let new = c.force.new.trail in
    let level = c.level_of-level.result in
    let second = c.in-Some.second in
    forced_guard es new.entries c.args.lits.now c.args.first level c.args.id c.level_of-level.ensures.within c.force.ensures.forced new.done second
    (λ k i. c.level_of-level.ensures.first k (subst (λ (m : ℤ). In m (trues (keep k es))) (sym c.negated.ensures) i))

pub returns-in-Some-clause-grows : goal.returns-in-Some-clause-grows
returns-in-Some-clause-grows c =
    let s = c.args.store.now in
    let es = c.args.trail.now.entries in
    let new = c.force.new.trail in
    let level = c.level_of-level.result in
    let n = c.requires.unwatched in
    let there : In (neg_ℤ c.in-Some.second) (trues (keep level es)) = subst (λ (m : ℤ). In m (trues (keep level es))) c.negated.ensures (c.level_of-level.ensures.there level (omega arith)) in
    let others : AllFalseBut (trues (keep level es)) (clause_at s.clauses c.args.id).lits c.args.first =
    subst (λ (ls : List ℤ). AllFalseBut (trues (keep level es)) ls c.args.first) (sym n.lits_are) (last_others es c.args.lits.now c.args.first c.in-Some.second level c.in-Some.ensures.some there) in
    let has = subst (λ (ls : List ℤ). In c.args.first ls) (sym n.lits_are) c.requires.has in
    let r = reason_at s.clauses (trues (keep level es)) c.args.id c.args.first n.is_id n.live has others in
    forced_grows es new.entries c.args.lits.now c.args.first level c.args.id c.level_of-level.ensures.within c.force.ensures.forced s.clauses r.0 r.1

pub returns-in-Some-clause-loose : goal.returns-in-Some-clause-loose
returns-in-Some-clause-loose c =
    let es = c.args.trail.now.entries in
    let new = c.force.new.trail in
    let level = c.level_of-level.result in
    let l = c.in-Some.ensures.some in
    forced_loose es new.entries c.args.lits.now c.args.first level c.args.id c.level_of-level.ensures.within c.force.ensures.forced c.requires.has c.requires.not_false
    (inr (c.in-Some.second, l.has, λ e. l.other (ap (λ (k : ℤ). Some k) e), λ k i. c.level_of-level.ensures.first k (subst (λ (m : ℤ). In m (trues (keep k es))) (sym c.negated.ensures) i)))

pub returns-in-Some-clause-stays : goal.returns-in-Some-clause-stays
returns-in-Some-clause-stays c =
    let es = c.args.trail.now.entries in
    let new = c.force.new.trail in
    let level = c.level_of-level.result in
    let there : In (neg_ℤ c.in-Some.second) (trues (keep level es)) = subst (λ (m : ℤ). In m (trues (keep level es))) c.negated.ensures (c.level_of-level.ensures.there level (omega arith)) in
    forced_stays es new.entries c.args.lits.now c.args.first level c.args.id c.level_of-level.ensures.within c.force.ensures.forced
    (last_others es c.args.lits.now c.args.first c.in-Some.second level c.in-Some.ensures.some there)

-- the clause is one literal, which is true at level 0 now
pub returns-in-None-clause-kept : goal.returns-in-None-clause-kept
returns-in-None-clause-kept c =
    let es = c.args.trail.now.entries in
    let new = c.force-in-None.new.trail in
    let has : In c.args.first (clause_at c.force-in-None.new.store.clauses c.args.id).lits = subst (λ (db : List StoredClause). In c.args.first (clause_at db c.args.id).lits) (sym c.force-in-None.ensures.clauses.clauses)
    (subst (λ (ls : List ℤ). In c.args.first ls) (sym c.requires.unwatched.lits_are) c.requires.has)
    in
    let on = forced_root es new.entries c.args.lits.now c.args.first 0 c.args.id (omega arith) c.force-in-None.ensures.forced refl in
    kept_settled c.force-in-None.new.store new c.args.id (λ live. (c.args.first, has, on)) (c.force-in-None.ensures.kept c.args.id c.requires.kept)

pub returns-in-None-clause-grows : goal.returns-in-None-clause-grows
returns-in-None-clause-grows c =
    let s = c.args.store.now in
    let es = c.args.trail.now.entries in
    let n = c.requires.unwatched in
    let others : AllFalseBut (trues (keep 0 es)) (clause_at s.clauses c.args.id).lits c.args.first =
    subst (λ (ls : List ℤ). AllFalseBut (trues (keep 0 es)) ls c.args.first) (sym n.lits_are) (λ l i. inl (sym (some_same c.args.first l (c.in-None.ensures.none l i)))) in
    let has = subst (λ (ls : List ℤ). In c.args.first ls) (sym n.lits_are) c.requires.has in
    let r = reason_at s.clauses (trues (keep 0 es)) c.args.id c.args.first n.is_id n.live has others in
    forced_grows es c.force-in-None.new.trail.entries c.args.lits.now c.args.first 0 c.args.id (omega arith) c.force-in-None.ensures.forced s.clauses r.0 r.1

pub returns-in-None-clause-loose : goal.returns-in-None-clause-loose
returns-in-None-clause-loose c =
    forced_loose c.args.trail.now.entries c.force-in-None.new.trail.entries c.args.lits.now c.args.first 0 c.args.id (omega arith) c.force-in-None.ensures.forced c.requires.has c.requires.not_false (inl refl)

pub returns-in-None-clause-stays : goal.returns-in-None-clause-stays
returns-in-None-clause-stays c =
    forced_stays c.args.trail.now.entries c.force-in-None.new.trail.entries c.args.lits.now c.args.first 0 c.args.id (omega arith) c.force-in-None.ensures.forced
    (λ l i. inl (sym (some_same c.args.first l (c.in-None.ensures.none l i))))

pub watch-requires-clause-kept : goal.watch-requires-clause-kept
watch-requires-clause-kept c = c.force.ensures.kept c.args.id c.requires.kept
