use Rattle.std.proofs.Common.{refl}
use Rattle.gm_ports.proofs.MemFilesPort.{either_way}
use Rattle.gm_ports.proofs.SureFilesLemmas.{IsSure-reads}
use Rattle.gm_ports.proofs.sure_files.SureFiles.open_in.Goals as goal

-- only the input changed
pub invariant_of-self : goal.invariant_of-self
invariant_of-self c =
    either_way c.open_in.result _ _ _ c.open_in.ensures.ok c.open_in.ensures.err
    (λ x is now. IsSure-reads c.self.inside.files c.open_in.new.self _ _ _ now refl c.self.invariant)
    (λ now. IsSure-reads c.self.inside.files c.open_in.new.self _ _ _ now refl c.self.invariant)
