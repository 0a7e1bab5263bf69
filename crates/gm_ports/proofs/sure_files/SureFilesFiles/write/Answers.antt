use Rattle.std.proofs.Common.{ap}
use Rattle.gm_ports.specs.SureFiles.{SureFilesState}
use Rattle.gm_ports.proofs.SureFilesLemmas.{write-output, write-leaves, told-holds}
use Rattle.gm_ports.proofs.sure_files.SureFilesFiles.write.Goals as goal

-- bytes that are kept come under the output's name, and once others are lost nothing is told any more
pub returns-clause-output : goal.returns-clause-output
returns-clause-output c =
    write-output c.args.self.now c.write.new.self c.args.piece.now _
    (λ none. (c.write.ensures.nothing none).1) (λ some room. let (count, now, grew) = c.write.ensures.kept some room in now)
    (λ some full. ap (λ (s : SureFilesState). s.tells) (c.write.ensures.lost some full).1)

pub returns-clause-holds : goal.returns-clause-holds
returns-clause-holds c = told-holds c.write.new.self c.write.ensures.holds

pub returns-clause-leaves : goal.returns-clause-leaves
returns-clause-leaves c =
    write-leaves c.args.self.now c.write.new.self c.args.piece.now _
    (λ none. (c.write.ensures.nothing none).1) (λ some room. let (count, now, grew) = c.write.ensures.kept some room in now)
    (λ some full. ap (λ (s : SureFilesState). s.tells) (c.write.ensures.lost some full).1)
