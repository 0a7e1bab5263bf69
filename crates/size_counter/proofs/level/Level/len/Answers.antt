use Rattle.std.proofs.Common.{◌≡◌, ℕ, ◌+◌, ◌*◌, ◌∙◌, min, sym, subst, ap}
use Rattle.size_counter.specs.Levels.{Level}
use Rattle.size_counter.proofs.LevelLemmas.{length-level}
use Rattle.size_counter.proofs.level.Level.len.Goals as goal

-- what the counter has
pub returns-then-is_counted : goal.returns-then-is_counted
returns-then-is_counted c =
    let n = c.counter_len.result in
    let rows = c.rows.result in
    length-level c.args.self.now n rows c.rows.ensures
    (subst (λ (b : ℕ). n + min rows (b + 1) * min rows (b + 1) ≡ 2 * rows * min rows (b + 1)) (ap (λ (l : Level). l.bound) c.self.view_is) c.counter_len.ensures)
    (sym c.is_counted.ensures ∙ c.if-is_counted.true)
