use Rattle.std.proofs.Common.{◌≡◌, ◌∙◌, ◌∷◌, ◌<◌, Bool, List, length, ap, subst, sym, set, true}
use Rattle.std.specs.Prelude.{ℤ, neg_ℤ}
use Rattle.lrat_check.specs.Marks.{place_of, AreMarked}
use Rattle.lrat_check.proofs.MarkLemmas.{place_within, literal_negated, marked_more}
use Rattle.lrat_export.specs.Export.{known_of}
use Rattle.lrat_export.proofs.WalkLemmas.{walked-goes, walked-makes, walked-ends}
use Rattle.lrat_export.proofs.hints.push_next.Goals as goal

-- the literal that becomes true has a place, and so has its negation
pub mark-requires : goal.mark-requires
mark-requires c =
    let vars = c.args.source.problem.now.vars in
    subst (λ (l : ℤ). place_of l < length c.args.marks.now) (sym c.negated.ensures)
    (place_within vars c.args.marks.now (neg_ℤ c.in-Makes.lit) (literal_negated vars c.in-Makes.lit c.in-Makes.ensures.over) c.requires.places)

pub returns-in-Goes-clause-walked : goal.returns-in-Goes-clause-walked
returns-in-Goes-clause-walked c = λ falses are.
    let source = c.args.source in
    walked-goes (known_of source.problem.now source.set.now source.proof.now) falses c.args.hint c.args.out.now.items c.args.marks.now are (c.in-Goes.ensures.is falses are)

-- one more literal is false
pub returns-in_ok-push_hint-in-Makes-clause-walked : goal.returns-in_ok-push_hint-in-Makes-clause-walked
returns-in_ok-push_hint-in-Makes-clause-walked c = λ falses are.
    let source = c.args.source in
    let vars = source.problem.now.vars in
    let lit = c.in-Makes.lit in
    let within = place_within vars c.args.marks.now (neg_ℤ lit) (literal_negated vars lit c.in-Makes.ensures.over) c.requires.places in
    let is : c.mark.new.self ≡ set c.args.marks.now (place_of (neg_ℤ lit)) true = c.mark.ensures ∙ ap (λ (l : ℤ). set c.args.marks.now (place_of l) true) c.negated.ensures in
    walked-makes (known_of source.problem.now source.set.now source.proof.now) falses c.args.hint c.in-Makes.number lit c.args.out.now.items c.push_hint.new.out.items c.mark.new.self
    (c.in-Makes.ensures.is falses are) c.in_ok-push_hint-in-Makes.ensures
    (subst (λ (ms : List Bool). AreMarked ms (neg_ℤ lit ∷ falses)) (sym is) (marked_more c.args.marks.now falses (neg_ℤ lit) within are))

-- nothing may stand behind it
pub returns-in_ok-push_hint-in-Ends-clause-walked : goal.returns-in_ok-push_hint-in-Ends-clause-walked
returns-in_ok-push_hint-in-Ends-clause-walked c = λ falses are.
    let source = c.args.source in
    walked-ends (known_of source.problem.now source.set.now source.proof.now) falses c.args.hint c.in-Ends.number c.args.out.now.items c.push_hint-in-Ends.new.out.items c.args.marks.now
    (c.in-Ends.ensures.is falses are) c.in_ok-push_hint-in-Ends.ensures
