use Rattle.std.proofs.Common.{◌≡◌, ◌∙◌, ℕ, Bool, true, not, Option, Some, None, ap, subst, sym, arith, List}
use Rattle.std.specs.Prelude.{ℤ, is_some}
use Rattle.std.proofs.lemmas.Bool.{true≢false}
use Rattle.trail_book.specs.declared.entry.Entry.{Entry}
use Rattle.learn_step.specs.Places.{hint_of}
use Rattle.learn_step.specs.Analysis.{IsCoreAnalysis}
use Rattle.learn_step.proofs.AnalysisLemmas.{bound_of-step}
use Rattle.learn_step.proofs.CoreLemmas.{core_step}
use Rattle.learn_step.proofs.cores.to_decisions.Goals as goal

-- a value that has nothing to name for it
none_at : (e f : Entry) (hint : Option ℕ) (none : Bool) → e ≡ f → hint ≡ hint_of f → is_some hint ≡ not none → none ≡ true → hint_of e ≡ None
none_at e f None none same is tells stay = ap hint_of same ∙ sym is
none_at e f (Some id) none same is tells stay = absurd (true≢false (tells ∙ ap not stay))

-- all places are below the count
pub take_place-requires : goal.take_place-requires
take_place-requires c =
    λ p i. (let under = c.loop-place.invariant.analysis.below p i in let within = c.loop-place.invariant.within in omega (arith, under, within))

pub entry-requires : goal.entry-requires
entry-requires c =
    let under = c.loop-place.invariant.analysis.below c.in-Some.place c.in-Some.ensures.taken.0.has in
    let within = c.loop-place.invariant.within in
    omega (arith, under, within)

pub loop-place-smaller : goal.loop-place-smaller
loop-place-smaller c =
    bound_of-step c.args.store.now.clauses c.args.trail.now.entries c.in-Some.place _ c.loop-place.analysis.places c.take_place.new.self.places c.step.new.self.places
    _ _ _ _ c.in-Some.ensures.taken c.in_ok-step.ensures

pub loop-place-preserved : goal.loop-place-preserved
loop-place-preserved c =
    let db = c.args.store.now.clauses in
    let es = c.args.trail.now.entries in
    let start = c.args.analysis.now.lits.items in
    let old = c.loop-place.analysis in
    let mid = c.take_place.new.self in
    let new = c.step.new.self in
    let lits : mid.lits.items ≡ old.lits.items = ap (λ v. v.items) c.in-Some.ensures.lits in
    let hints : mid.hints.items ≡ old.hints.items = ap (λ v. v.items) c.in-Some.ensures.hints in
    core_step c.args.trail.now.vars db es start c.in-Some.place _ old.places mid.places new.places _ _ _ _ c.vars-vars.ensures.trail c.requires.reasoned (λ e at stay. none_at e c.entry.result c.hint.result c.is_none-stays.result (let same : e ≡ c.entry.result = cc in same) c.hint.ensures c.is_none-stays.ensures stay) c.in-Some.ensures.taken c.in_ok-step.ensures
    (subst (λ (ls : List ℤ). IsCoreAnalysis db es start old.places ls mid.hints.items) (sym lits) (subst (IsCoreAnalysis db es start old.places old.lits.items) (sym hints) c.loop-place.invariant))
