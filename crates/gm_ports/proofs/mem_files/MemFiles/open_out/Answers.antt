use Rattle.std.proofs.Common.{◌≡◌, ◌<◌, None, length, subst}
use Rattle.std.specs.Prelude.{Some, IfSome, IsNone}
use Rattle.gm_ports.specs.MemFiles.{place_of, room_under}
use Rattle.gm_ports.proofs.MemFilesLemmas.{HoldsWhatIsWritten-of, AreMemFiles-opened}
use Rattle.gm_ports.proofs.mem_files.MemFiles.open_out.Goals as goal

-- the place is the name's, and has room
pub invariant_of-self-2 : goal.invariant_of-self-2
invariant_of-self-2 c =
    let files = c.self.inside.files in
    let room : ¬ (room_under files c.args.name.now ≡ None) = λ none. (let no = subst (λ found. IsNone found) c.in-Some.is (c.place_to_write-found.ensures.none.1 none) in cc) in
    let named = subst (λ found. IfSome found (λ i. (place_of files c.args.name.now ≡ Some i) × (i < length files))) c.in-Some.is c.place_to_write-found.ensures.found in
    AreMemFiles-opened _ c.args.name.now c.in-Some.place c.clear.new.self c.begin.new.self c.self.invariant named.0 room c.clear.ensures

pub returns-clause-holds : goal.returns-clause-holds
returns-clause-holds c = HoldsWhatIsWritten-of _ (invariant_of-self-2 c)
