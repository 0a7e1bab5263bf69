use Rattle.std.proofs.Common.{◌≡◌, ap, subst, sym, arith, List, length}
use Rattle.std.specs.Prelude.{ℤ}
use Rattle.std.proofs.lemmas.Bool.{ltb-false, lt-ltb, le-ltb}
use Rattle.learn_step.specs.Analysis.{IsAboveUip}
use Rattle.learn_step.proofs.AnalysisLemmas.{taken_within, bound_of-step}
use Rattle.learn_step.proofs.LearntLemmas.{above_forced, above_step, uip_step}
use Rattle.learn_step.proofs.first_uip.to_first_uip.Goals as goal

pub highest_level-requires : goal.highest_level-requires
highest_level-requires c =
    taken_within c.loop-place.analysis.places c.take_place.new.self.places c.in-Some.place (length c.args.trail.now.entries) c.in-Some.ensures.taken c.loop-place.invariant.analysis.below

pub step-requires-clause-in_range : goal.step-requires-clause-in_range
step-requires-clause-in_range c = c.loop-place.invariant.analysis.below c.in-Some.place c.in-Some.ensures.taken.0.has

-- another literal is of the top level, so that this one is no decision
pub step-requires-clause-forced : goal.step-requires-clause-forced
step-requires-clause-forced c goes e at =
    above_forced c.args.trail.now.entries c.in-Some.place e c.loop-place.analysis.places c.take_place.new.self.places c.highest_level.result c.requires.level at
    c.in-Some.ensures.taken c.highest_level.ensures (let le = ltb-false c.highest_level.result c.top.result goes in omega (arith, le, c.top.ensures))

-- no other literal is of the top level
pub returns-then-stays : goal.returns-then-stays
returns-then-stays c =
    let db = c.args.store.now.clauses in
    let es = c.args.trail.now.entries in
    let old = c.loop-place.analysis in
    let mid = c.take_place.new.self in
    let new = c.step.new.self in
    let lits : mid.lits.items ≡ old.lits.items = ap (λ v. v.items) c.in-Some.ensures.lits in
    let hints : mid.hints.items ≡ old.hints.items = ap (λ v. v.items) c.in-Some.ensures.hints in
    uip_step c.args.trail.now.vars db es c.in-Some.place _ old.places mid.places new.places _ _ _ _ c.highest_level.result c.vars-vars.ensures.trail
    c.in-Some.ensures.taken c.highest_level.ensures (lt-ltb c.highest_level.result c.top.result c.if-stays.true) (omega (arith, c.if-stays.true, c.top.ensures)) c.in_ok-step.ensures
    (subst (λ (ls : List ℤ). IsAboveUip db es old.places ls mid.hints.items) (sym lits) (subst (IsAboveUip db es old.places old.lits.items) (sym hints) c.loop-place.invariant))

pub loop-place-smaller : goal.loop-place-smaller
loop-place-smaller c =
    bound_of-step c.args.store.now.clauses c.args.trail.now.entries c.in-Some.place _ c.loop-place.analysis.places c.take_place.new.self.places c.step.new.self.places
    _ _ _ _ c.in-Some.ensures.taken c.in_ok-step.ensures

pub loop-place-preserved : goal.loop-place-preserved
loop-place-preserved c =
    let db = c.args.store.now.clauses in
    let es = c.args.trail.now.entries in
    let old = c.loop-place.analysis in
    let mid = c.take_place.new.self in
    let new = c.step.new.self in
    let lits : mid.lits.items ≡ old.lits.items = ap (λ v. v.items) c.in-Some.ensures.lits in
    let hints : mid.hints.items ≡ old.hints.items = ap (λ v. v.items) c.in-Some.ensures.hints in
    above_step c.args.trail.now.vars db es c.in-Some.place _ old.places mid.places new.places _ _ _ _ c.highest_level.result c.vars-vars.ensures.trail c.requires.reasoned c.requires.level
    c.in-Some.ensures.taken c.highest_level.ensures (le-ltb c.highest_level.result c.top.result (omega (arith, c.if-stays.false))) (omega (arith, c.if-stays.false, c.top.ensures)) c.in_ok-step.ensures
    (subst (λ (ls : List ℤ). IsAboveUip db es old.places ls mid.hints.items) (sym lits) (subst (IsAboveUip db es old.places old.lits.items) (sym hints) c.loop-place.invariant))
