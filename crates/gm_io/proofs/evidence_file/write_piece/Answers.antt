use Rattle.std.proofs.Common.{◌≤◌, ◌<◌, ◌+◌, ◌-◌, List, ℕ, arith, take, drop, length, sym, ◌∙◌, subst}
use Rattle.std.specs.Prelude.{Option}
use Rattle.std.proofs.Math.Seq.{take-add}
use Rattle.std.proofs.lemmas.List.{take_rest, length-drop, take-append-drop}
use Rattle.gm_ports.specs.Told.{ToldAppends, ToldGrowsWithin}
use Rattle.gm_ports.proofs.ToldLemmas.{ToldAppends-append}
use Rattle.gm_io.specs.Taking.{writes-then}
use Rattle.gm_io.proofs.WritingLemmas.{writes-call}
use Rattle.gm_io.proofs.evidence_file.write_piece.Goals as goal

-- what came before is a front part of the piece
front : (old new : Option (List ℕ)) (text : List ℕ) (at : ℕ) → ToldAppends old new (take at text) → ToldGrowsWithin old new text
front old new text at grew = record { taken = take at text; left = drop at text; parts = sym (take-append-drop at text); grew = grew }

-- a write that took the first bytes of what was left
more : (old mid new : Option (List ℕ)) (text : List ℕ) (at taken : ℕ) → ToldAppends old mid (take at text) → ToldAppends mid new (take taken (take (length text - at) (drop at text)))
    → ToldAppends old new (take (at + taken) text)
more old mid new text at taken before took =
    rw (take-add at taken text)
    (ToldAppends-append old mid new (take at text) (take taken (drop at text)) before
    (subst (λ piece. ToldAppends mid new (take taken piece)) (take_rest text at) took))

pub returns-then-taken-eq0-clause-failed : goal.returns-then-taken-eq0-clause-failed
returns-then-taken-eq0-clause-failed g c =
    front (g.F.Files.state c.args.files.now).written (g.F.Files.state c.write.new.self).written c.args.piece.now (c.loop-at.at + c.in-Ok.taken)
    (more (g.F.Files.state c.args.files.now).written (g.F.Files.state c.loop-at.files).written (g.F.Files.state c.write.new.self).written c.args.piece.now c.loop-at.at c.in-Ok.taken c.loop-at.invariant.got c.in-Ok.ensures.bytes)

pub loop-at-preserved : goal.loop-at-preserved
loop-at-preserved g c =
    let rest = take_rest c.args.piece.now c.loop-at.at in
    let within : c.in-Ok.taken ≤ length (drop c.loop-at.at c.args.piece.now) = subst (λ piece. c.in-Ok.taken ≤ length piece) rest c.in-Ok.ensures.bound in
    let left = length-drop c.loop-at.at c.args.piece.now in
    let some : 0 < c.in-Ok.taken = let other = c.if-taken-eq0.false in omega arith in
    let at = c.loop-at.invariant.in_range in
    record {
      in_range = omega arith;
      got = more (g.F.Files.state c.args.files.now).written (g.F.Files.state c.loop-at.files).written (g.F.Files.state c.write.new.self).written c.args.piece.now c.loop-at.at c.in-Ok.taken c.loop-at.invariant.got c.in-Ok.ensures.bytes;
      quiet = c.in-Ok.ensures.cause.quiet some ∙ c.loop-at.invariant.quiet;
      writes =
          writes-then (g.F.Files.state c.args.files.now) (g.F.Files.state c.loop-at.files) (g.F.Files.state c.write.new.self) c.loop-at.invariant.writes
          (writes-call (g.F.Files.state c.loop-at.files) (g.F.Files.state c.write.new.self) c.in-Ok.ensures.leaves c.in-Ok.ensures.output c.in-Ok.ensures.untold c.in-Ok.ensures.holds);
    }

-- a write that failed left what was written before
pub returns-in_default-clause-failed : goal.returns-in_default-clause-failed
returns-in_default-clause-failed g c =
    front (g.F.Files.state c.args.files.now).written (g.F.Files.state c.write.new.self).written c.args.piece.now c.loop-at.at
    (subst (λ new. ToldAppends (g.F.Files.state c.args.files.now).written new (take c.loop-at.at c.args.piece.now)) (sym c.in_default.ensures.failed) c.loop-at.invariant.got)
