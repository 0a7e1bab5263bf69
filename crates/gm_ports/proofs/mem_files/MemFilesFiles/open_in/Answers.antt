use Rattle.gm_ports.proofs.MemFilesPort.{unread_of-opened, on_ok, not_failed}
use Rattle.std.proofs.Common.{inr}
use Rattle.gm_ports.proofs.mem_files.MemFilesFiles.open_in.Goals as goal

-- an open that went well found a file
pub returns-clause-opened : goal.returns-clause-opened
returns-clause-opened c =
    on_ok c.open_in.result _ _ c.open_in.ensures.ok (λ x is now.
    unread_of-opened c.args.self.now c.open_in.new.self c.args.name.now _ now (λ none. not_failed c.open_in.result x is (c.open_in.ensures.fails.1 (inr none))))
