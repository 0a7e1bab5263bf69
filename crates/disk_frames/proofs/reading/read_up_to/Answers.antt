use Rattle.std.proofs.Common.{rules, ◌≡◌, ◌++◌, IfSome, length, take, drop, ℕ, List, Option, subst, ◌∙◌, arith}
use Rattle.gm_ports.proofs.Moments.{Looks-then}
use Rattle.disk_frames.proofs.FrontLemmas.{read_more}
use Rattle.disk_frames.proofs.reading.read_up_to.Goals as goal

-- what was read goes on where the bytes ended
pub turns-preserved : goal.turns-preserved
turns-preserved g c =
    let more : c.extend_from_slice.new.self.items ≡ c.turns.bytes.items ++ take c.in-Ok.count c.read.new.into = search rules in
    let at : c.len-in-turns.result ≡ length c.turns.bytes.items = omega arith in
    record {
      first = read_more _ c.turns.bytes.items c.read.new.into _ c.in-Ok.count c.turns.invariant.first
          (subst (λ (o : Option (List ℕ)). IfSome o (λ text. take c.in-Ok.count c.read.new.into ≡ take c.in-Ok.count (drop (length c.turns.bytes.items) text))) c.turns.invariant.looks.reads
          (subst (λ (k : ℕ). IfSome (g.D.Disk.state c.turns.disk).reads (λ text. take c.in-Ok.count c.read.new.into ≡ take c.in-Ok.count (drop k text))) at c.in-Ok.ensures.bytes))
          c.in-Ok.ensures.bound more;
      grown = search rules;
      looks = Looks-then _ _ _ (g.met.D.Disk.lawful c.args.disk.now) c.turns.invariant.looks c.read.ensures.looks;
      quiet = c.in-Ok.ensures.cause.quiet ∙ c.turns.invariant.quiet;
      piece = search rules;
    }
