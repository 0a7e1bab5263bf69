use Rattle.std.proofs.Common.{◌≡◌, true, Some, inl, inr, ◌∙◌, ap, sym}
use Rattle.gm_ports.specs.MemFiles.{MemFilesState, held_under, output_name}
use Rattle.gm_ports.proofs.MemFilesPort.{held_under-writing, output_name-writing, either_way, true_of, not_failed}
use Rattle.gm_ports.proofs.mem_files.MemFilesFiles.write.Goals as goal

pub returns-clause-output : goal.returns-clause-output
returns-clause-output c = sym (ap Some (either_way c.write.result _ _ _ c.write.ensures.ok c.write.ensures.err
    (λ n is now. output_name-writing c.args.self.now c.write.new.self _ _ now)
    (λ now. ap output_name now)))

-- a write that went well had an output, and changed what is held under its name
pub returns-clause-leaves : goal.returns-clause-leaves
returns-clause-leaves c = record {
  names = λ name other. sym (ap Some (either_way c.write.result _ _ _ c.write.ensures.ok c.write.ensures.err
      (λ n is now. (let opened : c.args.self.now.is_open ≡ true = true_of _ (λ closed. not_failed c.write.result n is (c.write.ensures.fails.1 (inr (inl closed)))) in
      ap (λ (s : MemFilesState). held_under s.files name) now ∙ held_under-writing c.args.self.now _ name opened (λ named. other (ap Some named))))
      (λ now. ap (λ (s : MemFilesState). held_under s.files name) now)));
  read_faults = either_way c.write.result _ _ _ c.write.ensures.ok c.write.ensures.err
      (λ n is now. ap (λ (s : MemFilesState). s.reads.faults) now)
      (λ now. ap (λ (s : MemFilesState). s.reads.faults) now);
}
