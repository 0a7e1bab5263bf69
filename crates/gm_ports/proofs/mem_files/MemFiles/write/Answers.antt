use Rattle.std.proofs.Common.{◌≤◌, ◌++◌, length, take, arith}
use Rattle.std.proofs.lemmas.Grind.{common_steps}
use Rattle.gm_ports.specs.MemFiles.{text_at, room_at}
use Rattle.gm_ports.proofs.MemFilesLemmas.{HoldsWhatIsWritten-of, AreMemFiles-writing, AreMemFiles-counted, AreMemFiles-inside}
use Rattle.gm_ports.proofs.MemFilesPort.{text_at-holding}
use Rattle.gm_ports.proofs.mem_files.MemFiles.write.Goals as goal

-- a write that failed leaves the files
pub returns-in_err-begin-clause-holds : goal.returns-in_err-begin-clause-holds
returns-in_err-begin-clause-holds c = HoldsWhatIsWritten-of _ (AreMemFiles-counted _ c.begin.new.self c.self.invariant)

-- what is taken of the piece fits the room
pub invariant_of-self-2 : goal.invariant_of-self-2
invariant_of-self-2 c =
    let fits : length (text_at c.self.inside.files c.in-Some.place ++ take c.min-count.result c.args.piece.now) ≤ room_at c.self.inside.files c.in-Some.place = grind (arith, common_steps) in
    AreMemFiles-writing _ c.in-Some.place _ c.append.new.self c.begin.new.self c.self.invariant c.in-Some.is c.append.ensures fits

pub returns-clause-holds : goal.returns-clause-holds
returns-clause-holds c =
    let fits : length (text_at c.self.inside.files c.in-Some.place ++ take c.min-count.result c.args.piece.now) ≤ room_at c.self.inside.files c.in-Some.place = grind (arith, common_steps) in
    HoldsWhatIsWritten-of _ (AreMemFiles-writing _ c.in-Some.place _ c.append.new.self c.begin.new.self c.self.invariant c.in-Some.is c.append.ensures fits)

-- the file at the output's place holds its old bytes and the new ones
pub returns-clause-grows : goal.returns-clause-grows
returns-clause-grows c =
    let there = AreMemFiles-inside _ c.in-Some.place c.self.invariant c.in-Some.is in
    let written = text_at-holding c.self.inside.files c.in-Some.place (text_at c.self.inside.files c.in-Some.place ++ take c.min-count.result c.args.piece.now) there in
    grind (arith, common_steps, written)
