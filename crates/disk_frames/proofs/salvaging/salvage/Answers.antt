use Rattle.std.proofs.Common.{rules, ◌≡◌, ◌<◌, ◌+◌, ◌^◌, ℕ, List, Option, IfSome, length, take, drop, sym, ◌∙◌, subst, arith, length-take, length-drop}
use Rattle.gm_ports.proofs.Moments.{Looks-then}
use Rattle.disk_frames.specs.Reading.{AreFirst, HasTextAt}
use Rattle.disk_frames.proofs.FrontLemmas.{sliced}
use Rattle.disk_frames.proofs.WalkLemmas.{walked_on, walked_refused}
use Rattle.disk_frames.proofs.salvaging.salvage.Goals as goal

-- the judge took the text, so the walk goes on behind it
pub frames-preserved : goal.frames-preserved
frames-preserved g c =
    let at = c.frames.at in
    let size = c.in-Text.size in
    let bytes = c.find.new.bytes.items in
    let text = take size (drop (at + 9) bytes) in
    let inside : at + 9 + size < length bytes = c.in-Text.ensures.within in
    let few : size < 2 ^ 64 = search rules in
    let small : length text < 2 ^ 64 = omega (arith, length-take size (drop (at + 9) bytes)) in
    let long : at + 9 + size ≡ at + 9 + length text = omega (arith, length-take size (drop (at + 9) bytes), length-drop (at + 9) bytes) in
    let slice = sliced c.deref.result.now bytes (at + 9) size c.deref.ensures.value in
    let there : IfSome (g.D.Disk.state c.args.disk.now).reads (λ told. HasTextAt told at text) =
    subst (λ (o : Option (List ℕ)). IfSome o (λ told. HasTextAt told at text)) c.frames.invariant.looks.reads c.in-Text.ensures.found in
    let fits = subst (λ r. g.J.Judge.fits r (g.J.Judge.kept c.frames.judge) text (g.J.Judge.kept c.take.new.self)) c.frames.invariant.rule
    (subst (λ (l : List ℕ). g.J.Judge.fits (g.J.Judge.rule c.frames.judge) (g.J.Judge.kept c.frames.judge) l (g.J.Judge.kept c.take.new.self)) slice (c.in-Ok-true.ensures.taken c.in-Ok-true.field-0-test)) in
    record {
      walked = walked_on (g.J.Judge.fits (g.J.Judge.rule c.args.judge.now)) _ _ _ at c.frames.invariant.walked text small there _ (at + 9 + size) fits long;
      first = subst (λ (o : Option (List ℕ)). AreFirst o bytes) c.frames.invariant.looks.reads c.find.ensures.first;
      inside = omega arith;
      size = c.frames.invariant.size;
      looks = Looks-then _ _ _ (g.met.D.Disk.lawful c.args.disk.now) c.frames.invariant.looks c.find.ensures.looks;
      quiet = c.in-Text.ensures.cause ∙ c.frames.invariant.quiet;
      rule = c.take.ensures.rule ∙ c.frames.invariant.rule;
      piece = c.frames.invariant.piece;
    }

-- it refused the text, so the gate is foreign
pub returns-in-Ok-false-clause-told : goal.returns-in-Ok-false-clause-told
returns-in-Ok-false-clause-told g c =
    let at = c.frames.at in
    let size = c.in-Text.size in
    let bytes = c.find.new.bytes.items in
    let text = take size (drop (at + 9) bytes) in
    let few : size < 2 ^ 64 = search rules in
    let small : length text < 2 ^ 64 = omega (arith, length-take size (drop (at + 9) bytes)) in
    let slice = sliced c.deref.result.now bytes (at + 9) size c.deref.ensures.value in
    let there : IfSome (g.D.Disk.state c.args.disk.now).reads (λ told. HasTextAt told at text) =
    subst (λ (o : Option (List ℕ)). IfSome o (λ told. HasTextAt told at text)) c.frames.invariant.looks.reads c.in-Text.ensures.found in
    walked_refused (g.J.Judge.fits (g.J.Judge.rule c.args.judge.now)) _ _ _ at c.frames.invariant.walked text small there
    (λ next fits. c.in-Ok-false.ensures.refused c.in-Ok-false.field-0-test next
    (subst (λ (l : List ℕ). g.J.Judge.fits (g.J.Judge.rule c.frames.judge) (g.J.Judge.kept c.frames.judge) l next) (sym slice)
    (subst (λ r. g.J.Judge.fits r (g.J.Judge.kept c.frames.judge) text next) (sym c.frames.invariant.rule) fits)))
