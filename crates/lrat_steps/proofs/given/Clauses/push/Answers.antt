use Rattle.std.proofs.Common.{ℕ, rules, ◌∷◌, [], ◌++◌, List, ap, ◌∙◌, arith}
use Rattle.std.specs.Prelude.{ℤ}
use Rattle.lrat_steps.specs.declared.given.Clauses.TheInside.{Inside}
use Rattle.lrat_steps.proofs.GivenLemmas.{IsPushed, clauses_pushed, cut_pushed}
use Rattle.lrat_steps.proofs.given.Clauses.push.Goals as goal

abbrev new_inside : goal.After-push_reserved → Inside
new_inside c = record { lits = c.extend_from_slice.new.self; ends = c.push_reserved.new.self }

pushed : (c : goal.After-push_reserved) → IsPushed c.self.inside (new_inside c) c.args.lits.now c.in_ok-to.to
pushed c =
    record {
      lits = search rules;
      ends = c.push_reserved.ensures.items ∙ ap (λ (es : List ℕ). es ++ c.in_ok-to.to ∷ []) c.reserve.ensures.items;
      last = omega arith;
      few = omega arith;
    }

-- the literals were added at the end, where the last clause begins
pub invariant_of-self-2 : goal.invariant_of-self-2
invariant_of-self-2 c = cut_pushed c.self.inside (new_inside c) c.args.lits.now c.in_ok-to.to c.self.invariant (pushed c)

pub returns-clause-ok : goal.returns-clause-ok
returns-clause-ok c =
    clauses_pushed c.self.inside (new_inside c) c.args.lits.now c.in_ok-to.to c.self.invariant (pushed c)
    ∙ ap (λ (cs : List (List ℤ)). cs ++ c.args.lits.now ∷ []) c.self.view_is
