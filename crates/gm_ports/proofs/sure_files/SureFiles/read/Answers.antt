use Rattle.std.proofs.Common.{refl}
use Rattle.gm_ports.proofs.MemFilesPort.{either_way}
use Rattle.gm_ports.proofs.SureFilesLemmas.{IsSure-reads}
use Rattle.gm_ports.proofs.sure_files.SureFiles.read.Goals as goal

-- only the input's place changed
pub invariant_of-self : goal.invariant_of-self
invariant_of-self c =
    either_way c.read.result _ _ _ c.read.ensures.ok c.read.ensures.err
    (λ n is now. IsSure-reads c.self.inside.files c.read.new.self _ _ _ now refl c.self.invariant)
    (λ now. IsSure-reads c.self.inside.files c.read.new.self _ _ _ now refl c.self.invariant)

pub invariant_of-self-2 : goal.invariant_of-self-2
invariant_of-self-2 c =
    either_way c.read.result _ _ _ c.read.ensures.ok c.read.ensures.err
    (λ n is now. IsSure-reads c.self.inside.files c.read.new.self _ _ _ now refl c.self.invariant)
    (λ now. IsSure-reads c.self.inside.files c.read.new.self _ _ _ now refl c.self.invariant)
