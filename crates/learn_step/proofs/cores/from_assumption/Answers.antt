use Rattle.std.proofs.Common.{◌≡◌, ◌∷◌, ◌++◌, [], ◌∙◌, ap, subst, sym, ℕ, List}
use Rattle.std.specs.Prelude.{ℤ, neg_ℤ}
use Rattle.sat_base.specs.Literals.{var_of}
use Rattle.trail_book.specs.Trail.{IsPlace}
use Rattle.learn_step.proofs.AnalysisLemmas.{may_bring_in}
use Rattle.learn_step.proofs.CoreLemmas.{assumed_at, assumed_forced, core_assumed}
use Rattle.learn_step.proofs.cores.from_assumption.Goals as goal

-- the negation was not decided, so that it has a hint
pub unreachable-requires : goal.unreachable-requires
unreachable-requires c =
    let es = c.args.trail.now.entries in
    let m = c.args.assumed in
    let p = c.place-place.result in
    let e = c.entry-entry.result in
    let place : IsPlace es (var_of m) p = subst (λ (v : ℕ). IsPlace es v p) c.var.ensures.same c.place-place.ensures in
    let lit = assumed_at c.args.trail.now.vars es m p e c.vars-vars.ensures.trail c.requires.is_false place c.entry-entry.ensures in
    assumed_forced es m p e c.entry-entry.ensures lit c.requires.forced (sym c.hint.ensures ∙ c.in_default.is)

pub bring_in-requires-clause-id : goal.bring_in-requires-clause-id
bring_in-requires-clause-id c =
    (may_bring_in c.args.store.now.clauses c.args.trail.now.entries c.place-place.result c.entry-entry.result c.in-Some.id c.requires.reasoned c.place-place.ensures.within c.entry-entry.ensures
    (sym c.hint.ensures ∙ c.in-Some.is)).is_id

pub bring_in-requires-clause-values : goal.bring_in-requires-clause-values
bring_in-requires-clause-values c =
    (may_bring_in c.args.store.now.clauses c.args.trail.now.entries c.place-place.result c.entry-entry.result c.in-Some.id c.requires.reasoned c.place-place.ensures.within c.entry-entry.ensures
    (sym c.hint.ensures ∙ c.in-Some.is)).values

pub returns-clause-core : goal.returns-clause-core
returns-clause-core c =
    let db = c.args.store.now.clauses in
    let es = c.args.trail.now.entries in
    let m = c.args.assumed in
    let p = c.place-place.result in
    let e = c.entry-entry.result in
    let old = c.new-analysis.result in
    let new = c.bring_in.new.self in
    let place : IsPlace es (var_of m) p = subst (λ (v : ℕ). IsPlace es v p) c.var.ensures.same c.place-place.ensures in
    let lit = assumed_at c.args.trail.now.vars es m p e c.vars-vars.ensures.trail c.requires.is_false place c.entry-entry.ensures in
    let start : c.push.new.self.items ≡ neg_ℤ m ∷ [] =
    c.in_ok-push.ensures.items ∙ ap (λ (ls : List ℤ). ls ++ c.negated.result ∷ []) c.new-analysis.ensures.lits ∙ ap (λ (l : ℤ). l ∷ []) c.negated.ensures in
    let kept : new.lits.items ≡ c.push.new.self.items = ap (λ v. v.items) c.in_ok-bring_in.ensures.lits in
    let one : new.lits.items ≡ neg_ℤ m ∷ [] = kept ∙ start in
    core_assumed c.args.trail.now.vars db es m p e c.in-Some.id old.places new.places old.hints.items new.hints.items new.lits.items c.vars-vars.ensures.trail c.requires.reasoned c.requires.forced
    c.place-place.ensures.within c.entry-entry.ensures lit (sym c.hint.ensures ∙ c.in-Some.is) c.new-analysis.ensures.places one c.new-analysis.ensures.hints c.in_ok-bring_in.ensures.brought_in

pub returns-clause-lits : goal.returns-clause-lits
returns-clause-lits c =
    ap (λ v. v.items) c.in_ok-bring_in.ensures.lits
    ∙ c.in_ok-push.ensures.items ∙ ap (λ (ls : List ℤ). ls ++ c.negated.result ∷ []) c.new-analysis.ensures.lits ∙ ap (λ (l : ℤ). l ∷ []) c.negated.ensures
