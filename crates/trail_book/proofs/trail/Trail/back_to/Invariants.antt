use Rattle.std.proofs.Common.{◌≡◌, length}
use Rattle.trail_book.specs.Trail.{keep, IsTrail}
use Rattle.trail_book.proofs.trail.Trail.back_to.Given as goal

-- what is left has the same entries up to the level
abbrev pub invariant-loop-self : goal.invariant-loop-self
invariant-loop-self l =
    (keep l.level l.self.entries ≡ keep l.level l.fn.self.entries) × (l.self.vars ≡ l.fn.self.vars) × IsTrail l.self.vars l.self.entries × (l.self.done ≡ l.fn.self.done)
    × (l.self.ranking ≡ l.fn.self.ranking) × (l.self.held ≡ l.fn.self.held) × (l.self.touched ≡ l.fn.self.touched)

abbrev pub decreases-loop-self : goal.decreases-loop-self
decreases-loop-self l = length l.self.entries
