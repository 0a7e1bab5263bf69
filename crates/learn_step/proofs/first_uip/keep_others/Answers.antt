use Rattle.std.proofs.Common.{◌≡◌, ◌<◌, ◌∙◌, ap, subst, sym, max, List, length}
use Rattle.std.specs.Prelude.{ℤ}
use Rattle.std.proofs.lemmas.Bool.{true≢false}
use Rattle.learn_step.specs.Analysis.{IsAnalysis, AreKept}
use Rattle.learn_step.proofs.AnalysisLemmas.{analysis_step, bound_of-step}
use Rattle.learn_step.proofs.LearntLemmas.{kept_begun, kept_step}
use Rattle.learn_step.proofs.first_uip.keep_others.Goals as goal
use Rattle.learn_step.proofs.first_uip.keep_others.Goals.{then-stays, else-stays}

pub loop-place-init : goal.loop-place-init
loop-place-init c = record { analysis = c.requires.analysis; kept = kept_begun c.args.trail.now.entries c.args.analysis.now.places c.args.analysis.now.lits.items c.requires.level c.requires.lower }

pub stays_at-requires-clause-in_range : goal.stays_at-requires-clause-in_range
stays_at-requires-clause-in_range c = c.loop-place.invariant.analysis.below c.in-Some.place c.in-Some.ensures.taken.0.has

pub step-requires-clause-in_range : goal.step-requires-clause-in_range
step-requires-clause-in_range c = c.loop-place.invariant.analysis.below c.in-Some.place c.in-Some.ensures.taken.0.has

pub loop-place-smaller : goal.loop-place-smaller
loop-place-smaller c =
    bound_of-step c.args.store.now.clauses c.args.trail.now.entries c.in-Some.place _ c.loop-place.analysis.places c.take_place.new.self.places c.step.new.self.places
    _ _ _ _ c.in-Some.ensures.taken c.in_ok-step.ensures

pub loop-place-preserved : goal.loop-place-preserved
loop-place-preserved c =
    let db = c.args.store.now.clauses in
    let es = c.args.trail.now.entries in
    let old = c.loop-place.analysis in
    let mid = c.take_place.new.self in
    let new = c.step.new.self in
    let p = c.in-Some.place in
    let within : p < length es = c.loop-place.invariant.analysis.below p c.in-Some.ensures.taken.0.has in
    let lits : mid.lits.items ≡ old.lits.items = ap (λ v. v.items) c.in-Some.ensures.lits in
    let hints : mid.hints.items ≡ old.hints.items = ap (λ v. v.items) c.in-Some.ensures.hints in
    record {
      analysis =
          analysis_step c.args.trail.now.vars db es (length es) p _ old.places mid.places new.places _ _ _ _ c.vars-vars.ensures.trail c.requires.reasoned within c.in-Some.ensures.taken c.in_ok-step.ensures
          (subst (λ (ls : List ℤ). IsAnalysis db es (length es) old.places ls mid.hints.items) (sym lits)
          (subst (IsAnalysis db es (length es) old.places old.lits.items) (sym hints) c.loop-place.invariant.analysis));
      kept = kept_step db es p _ old.places mid.places new.places c.args.analysis.now.lits.items _ _ _ _ c.loop-place.level _ within c.in-Some.ensures.taken c.in_ok-stays.ensures.stays
          (λ stay. elim c.if-stays.branch [
            | then-stays w ↦ w.level-is ∙ w.higher-level.ensures ∙ ap (max c.loop-place.level) w.level_at.ensures
            | else-stays w ↦ absurd (true≢false (sym stay ∙ w.if-stays.false))
          ])
          (λ goes. elim c.if-stays.branch [
            | then-stays w ↦ absurd (true≢false (sym w.if-stays.true ∙ goes))
            | else-stays w ↦ w.level-is
          ])
          c.in_ok-step.ensures
          (subst (λ (ls : List ℤ). AreKept es c.args.analysis.now.lits.items old.places ls c.loop-place.level) (sym lits) c.loop-place.invariant.kept);
    }
