use Rattle.std.proofs.Common.{◌∙◌, ◌++◌, ◌∷◌, [], List, ap}
use Rattle.std.specs.Prelude.{ℤ}
use Rattle.size_counter.specs.Levels.{level_counter}
use Rattle.size_counter.proofs.LevelLemmas.{clauses-more}
use Rattle.size_counter.proofs.level.Level.add_clauses.Goals as goal

-- one clause more
pub loop-at-preserved : goal.loop-at-preserved
loop-at-preserved c =
    c.in_ok-push.ensures.ok ∙ ap (λ (cs : List (List ℤ)). cs ++ c.in_ok-clause.field-0 ∷ []) c.loop-at.invariant
    ∙ clauses-more (level_counter c.args.self.now) c.args.clauses.now c.loop-at.at c.in_ok-clause.field-0 c.in_ok-clause.ensures
