use Rattle.std.proofs.Common.{◌≡◌, ◌≤◌, ◌+◌, ℕ, List, ◌++◌, length, take, arith, rules, sym, subst}
use Rattle.std.proofs.lemmas.Grind.{common_steps}
use Rattle.gm_ports.proofs.ReadingLemmas.{ReadSoFar, ReadSoFar-more, ReadSoFar-past, ReadSoFar-within}
use Rattle.gm_ports.proofs.whole.read_opened.Goals as goal

-- a read that gave nothing stands at the end
pub returns-then-count-eq0-clause-told : goal.returns-then-count-eq0-clause-told
returns-then-count-eq0-clause-told g c = search rules

-- the read that went past the limit was asked for one byte more than was left of it
pub returns-then-count-room-clause-told : goal.returns-then-count-room-clause-told
returns-then-count-room-clause-told g c =
    let one_more : length c.turns.bytes.items + length (take c.in-Ok-read.count c.read.new.into) ≡ c.args.limit + 1 = grind (arith, common_steps, c.in-Ok-read.ensures.bound) in
    ReadSoFar-past (g.F.Files.state c.args.files.now) (g.F.Files.state c.turns.files) (g.F.Files.state c.read.new.self) c.args.limit _ c.turns.bytes.items (take c.in-Ok-read.count c.read.new.into) c.turns.invariant c.in-Ok-read.ensures.bytes one_more

-- what was read in all is within the limit, kept or not
pub returns-then-is_err-clause-told : goal.returns-then-is_err-clause-told
returns-then-is_err-clause-told g c =
    let more : List ℕ = take c.in-Ok-read.count c.read.new.into in
    let fits : length c.turns.bytes.items + length more ≤ c.args.limit = grind (arith, common_steps, c.in-Ok-read.ensures.bound) in
    ReadSoFar-within (g.F.Files.state c.args.files.now) (g.F.Files.state c.read.new.self) c.args.limit c.turns.piece.len (c.turns.bytes.items ++ more)
    (ReadSoFar-more (g.F.Files.state c.args.files.now) (g.F.Files.state c.turns.files) (g.F.Files.state c.read.new.self) c.args.limit c.turns.piece.len c.turns.bytes.items more
    c.turns.invariant c.in-Ok-read.ensures.bytes c.in-Ok-read.ensures.leaves c.in-Ok-read.ensures.cause.quiet fits)

-- what was read comes behind what had been read
pub turns-preserved : goal.turns-preserved
turns-preserved g c =
    let more : List ℕ = take c.in-Ok-read.count c.read.new.into in
    let fits : length c.turns.bytes.items + length more ≤ c.args.limit = grind (arith, common_steps, c.in-Ok-read.ensures.bound) in
    let grew : c.extend_from_slice.new.self.items ≡ c.turns.bytes.items ++ more = grind (arith, common_steps) in
    subst (λ (bytes : List ℕ). ReadSoFar (g.F.Files.state c.args.files.now) (g.F.Files.state c.read.new.self) c.args.limit c.turns.piece.len bytes) (sym grew)
    (ReadSoFar-more (g.F.Files.state c.args.files.now) (g.F.Files.state c.turns.files) (g.F.Files.state c.read.new.self) c.args.limit c.turns.piece.len c.turns.bytes.items more
    c.turns.invariant c.in-Ok-read.ensures.bytes c.in-Ok-read.ensures.leaves c.in-Ok-read.ensures.cause.quiet fits)
