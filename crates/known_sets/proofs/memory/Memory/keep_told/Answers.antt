use Rattle.std.proofs.Common.{◌∙◌, ap, sym}
use Rattle.gm_base.specs.Problem.{Problem}
use Rattle.known_sets.proofs.memory.Memory.keep_told.Goals as goal

-- the groups are those of the problem
pub returns-then-is_ok : goal.returns-then-is_ok
returns-then-is_ok c = λ p right h.
    record {
      refuted = right.refuted;
      satisfied = c.insert_set-kept.ensures p (ap (λ (q : Problem). q.groups) (sym right.models.problem) ∙ sym c.groups-groups.ensures) h right.satisfied;
      models = right.models;
    }

pub returns-else-is_ok : goal.returns-else-is_ok
returns-else-is_ok c = λ p right h.
    record {
      refuted = right.refuted;
      satisfied = c.insert_set-kept.ensures p (ap (λ (q : Problem). q.groups) (sym right.models.problem) ∙ sym c.groups-groups.ensures) h right.satisfied;
      models = right.models;
    }
