use Rattle.std.proofs.Common.{◌∙◌, ap, sym, subst}
use Rattle.std.specs.Prelude.{All}
use Rattle.gm_base.specs.Problem.{Problem}
use Rattle.known_sets.specs.Entries.{IsSatisfied}
use Rattle.known_sets.proofs.memory.Memory.keep_satisfied.Goals as goal

-- with what it satisfies after some flips
pub returns-then-shrinking : goal.returns-then-shrinking
returns-then-shrinking c = λ p right h.
    c.keep_shrinking.ensures p
    (record { refuted = right.refuted; satisfied = subst (All (IsSatisfied p)) (sym c.answered.ensures) right.satisfied; models = c.count_answer.ensures p right.models })

-- with the set as it is
pub returns-else-shrinking : goal.returns-else-shrinking
returns-else-shrinking c = λ p right h.
    let models = c.count_answer.ensures p right.models in
    record {
      refuted = right.refuted;
      satisfied =
          c.insert_set.ensures p (ap (λ (q : Problem). q.groups) (sym models.problem) ∙ sym c.groups-groups.ensures) h
          (subst (All (IsSatisfied p)) (sym c.answered.ensures) right.satisfied);
      models = models;
    }
