use Rattle.std.proofs.Common.{◌≡◌, [], Some, sym, ap, subst, refl}
use Rattle.gm_ports.specs.MemFiles.{MemFilesState, held_under, written_of}
use Rattle.gm_ports.proofs.MemFilesPort.{output_name-opened, written_of-opened, held_under-opened, held_under-others, on_ok, either_way}
use Rattle.gm_ports.proofs.mem_files.MemFilesFiles.open_out.Goals as goal

pub returns-clause-opened : goal.returns-clause-opened
returns-clause-opened c =
    on_ok c.open_out.result _ _ c.open_out.ensures.ok (λ x is out. output_name-opened c.args.self.now c.open_out.new.self c.args.name.now out)

pub returns-clause-made : goal.returns-clause-made
returns-clause-made c =
    on_ok c.open_out.result _ _ c.open_out.ensures.ok (λ x is out. held_under-opened c.args.self.now c.open_out.new.self c.args.name.now out)

-- either way nothing counts as written
pub returns-clause-written : goal.returns-clause-written
returns-clause-written c =
    either_way c.open_out.result _ _ _ c.open_out.ensures.ok c.open_out.ensures.err
    (λ x is out. written_of-opened c.args.self.now c.open_out.new.self c.args.name.now out)
    (λ now. subst (λ (s : MemFilesState). written_of s ≡ []) (sym now) refl)

-- only the name given holds something else
pub returns-clause-leaves : goal.returns-clause-leaves
returns-clause-leaves c = record {
  names = λ n differs. sym (ap Some (either_way c.open_out.result _ _ _ c.open_out.ensures.ok c.open_out.ensures.err
      (λ x is out. held_under-others c.args.self.now c.open_out.new.self c.args.name.now n out differs)
      (λ now. ap (λ (s : MemFilesState). held_under s.files n) now)));
  read_faults = either_way c.open_out.result _ _ _ c.open_out.ensures.ok c.open_out.ensures.err
      (λ x is out. ap (λ (s : MemFilesState). s.reads.faults) out.opened)
      (λ now. ap (λ (s : MemFilesState). s.reads.faults) now);
}
