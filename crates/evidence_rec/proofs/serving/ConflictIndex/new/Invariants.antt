use Rattle.std.proofs.Common.{◌≡◌, ◌+◌, ◌<◌, ℕ, [], length, get_or}
use Rattle.evidence_rec.proofs.serving.ConflictIndex.new.Given as goal

-- as many empty lists as rounds, and the one of the background
abbrev pub invariant-loop : goal.invariant-loop
invariant-loop l =
    record {
      count : length l.lists.items ≡ l.counter + 1;
      empty : (g : ℕ) → g < length l.lists.items → get_or l.lists.items g [] ≡ [];
    }
