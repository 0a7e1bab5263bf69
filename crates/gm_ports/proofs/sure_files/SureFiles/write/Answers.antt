use Rattle.std.proofs.Common.{subst}
use Rattle.gm_ports.specs.FilesState.{HoldsWhatIsWritten}
use Rattle.gm_ports.specs.MemFiles.{files_state as mem_state}
use Rattle.gm_ports.specs.SureFiles.{SureFilesState}
use Rattle.gm_ports.proofs.sure_files.SureFiles.write.Goals as goal

-- nothing was written, so what held before holds
pub returns-then-is_empty-clause-holds : goal.returns-then-is_empty-clause-holds
returns-then-is_empty-clause-holds c =
    let (reads, writes, holds) = c.self.invariant in
    subst (λ (s : SureFilesState). HoldsWhatIsWritten (mem_state s.mem)) c.self.view_is holds
