use Rattle.std.proofs.Common.{◌≡◌, ◌∷◌, [], ◌++◌, false, List, ℕ, subst, sym, ap, ◌∙◌}
use Rattle.std.specs.Prelude.{ℤ}
use Rattle.sat_base.specs.Members.{In}
use Rattle.sat_base.specs.Literals.{IsLiteral, AreLiterals}
use Rattle.learn_step.specs.Learnt.{start_of}
use Rattle.lrat_steps.specs.Log.{LogStep, Core}
use Rattle.cdcl_core.specs.Answers.{IsHonestlyPaid}
use Rattle.propagate.proofs.NewLemmas.{core_kept}
use Rattle.cdcl_core.proofs.StateLemmas.{literals_from, used_literal, core_recorded, paid_core}
use Rattle.cdcl_core.proofs.steps.log_core.Goals as goal

-- the literals of a core stand in the clauses
pub add_step-requires : goal.add_step-requires
add_step-requires c =
    let lits = c.in_ok-core.core.lits.items in
    let vars = c.args.trail.now.vars in
    let used = c.in_ok-core.ensures.core.used in
    let over : (l : ℤ) → In l lits → IsLiteral vars l = λ l i. used_literal vars c.args.store.now.clauses l c.requires.recorded.over (used l i) in
    subst (λ (n : ℕ). AreLiterals n c.deref.result.now) (sym c.requires.vars) (subst (AreLiterals vars) (sym c.deref.ensures.value) (literals_from vars lits over))

-- the clause of a core is not live
pub returns-clause-kept : goal.returns-clause-kept
returns-clause-kept c = λ kept.
    let s = c.args.store.now in
    let lits = c.in_ok-core.core.lits.items in
    let stored : c.add_step.new.store.clauses ≡ s.clauses ++ record { lits = lits; live = false } ∷ [] =
    c.in_ok-id.ensures.stored ∙ ap (λ (ls : List ℤ). s.clauses ++ record { lits = ls; live = false } ∷ []) c.deref.ensures.value in
    core_kept s c.add_step.new.store c.args.trail.now c.in_ok-id.id lits kept c.add_step.ensures.links stored c.add_step.ensures.vars c.in_ok-id.ensures.id

pub returns-clause-paid : goal.returns-clause-paid
returns-clause-paid c =
    let lits = c.in_ok-core.core.lits.items in
    let hints = c.in_ok-core.core.hints.items in
    let log = c.args.log.now in
    let hints_are : c.deref-2.result.now ≡ hints = cc in
    let logged : c.add_step.new.log ≡ log ++ Core lits hints ∷ [] =
    c.in_ok-id.ensures.logged ∙ ap (λ (ls : List ℤ). log ++ Core ls c.deref-2.result.now ∷ []) c.deref.ensures.value
    ∙ ap (λ (hs : List ℕ). log ++ Core lits hs ∷ []) hints_are in
    let recorded =
    core_recorded c.args.trail.now.vars c.args.store.now.clauses log c.args.trail.now.entries (start_of c.args.origin) lits hints c.requires.recorded c.in_ok-core.ensures.core in
    λ left. subst (λ (k : List LogStep). IsHonestlyPaid log k left left) (sym logged) (paid_core log lits hints left recorded.honest)
