use Rattle.std.proofs.Common.{rules, ◌≡◌, ◌<◌, ◌≤◌, ◌+◌, ◌-◌, ◌^◌, length, get_or, take, drop, List, ℕ, Option, ◌∙◌, ap, subst, arith, refl}
use Rattle.disk_frames.specs.Frames.{length_bytes}
use Rattle.disk_frames.specs.Reading.{AreFirst}
use Rattle.disk_frames.proofs.FrontLemmas.{no_length, head_there, no_frame, text_there, sliced_from}
use Rattle.disk_frames.proofs.finding.find.Goals as goal

-- too few bytes for a length
pub returns-in_default-first_length-clause-found : goal.returns-in_default-first_length-clause-found
returns-in_default-first_length-clause-found g c =
    let bytes = c.read_up_to.new.bytes.items in
    let inside : c.args.at < length bytes = search rules in
    let opened : get_or bytes c.args.at 0 ≡ 1 = search rules in
    let short : length (drop (c.args.at + 1) bytes) < 8 =
    omega (arith, ap length (sliced_from c.deref-2.result.now bytes (c.args.at + 1) c.deref-2.ensures.value), c.in_default-first_length.ensures.none) in
    no_length (g.D.Disk.state c.args.disk.now).reads bytes c.args.at (c.args.at + 9) c.read_up_to.ensures.first c.in-Read.ensures.reaches inside opened short refl

-- a length that runs past the end
pub returns-then-size-left-clause-found : goal.returns-then-size-left-clause-found
returns-then-size-left-clause-found g c =
    let bytes = c.read_up_to.new.bytes.items in
    let size = c.in-Some-first_length.size in
    let inside : c.args.at < length bytes = search rules in
    let opened : get_or bytes c.args.at 0 ≡ 1 = search rules in
    let front = sliced_from c.deref-2.result.now bytes (c.args.at + 1) c.deref-2.ensures.value in
    let long : 8 ≤ length (drop (c.args.at + 1) bytes) = omega (arith, ap length front, c.in-Some-first_length.ensures.long) in
    let is : length_bytes size ≡ take 8 (drop (c.args.at + 1) bytes) = c.in-Some-first_length.ensures.some ∙ ap (λ (l : List ℕ). take 8 l) front in
    let fits : size < 2 ^ 64 = omega arith in
    let past : c.args.disk_len - (c.args.at + 9) ≤ size = omega (arith, c.if-size-left.true, c.saturating_sub-left.ensures) in
    no_frame (g.D.Disk.state c.args.disk.now).reads c.args.at size c.args.disk_len
    (head_there (g.D.Disk.state c.args.disk.now).reads bytes c.args.at size c.read_up_to.ensures.first inside opened long is) c.requires.sized fits past

-- a whole frame
pub returns-clause-found : goal.returns-clause-found
returns-clause-found g c =
    let bytes = c.read_up_to.new.bytes.items in
    let more = c.read_up_to-2.new.bytes.items in
    let size = c.in-Some-first_length.size in
    let inside : c.args.at < length bytes = search rules in
    let opened : get_or bytes c.args.at 0 ≡ 1 = search rules in
    let front = sliced_from c.deref-2.result.now bytes (c.args.at + 1) c.deref-2.ensures.value in
    let long : 8 ≤ length (drop (c.args.at + 1) bytes) = omega (arith, ap length front, c.in-Some-first_length.ensures.long) in
    let is : length_bytes size ≡ take 8 (drop (c.args.at + 1) bytes) = c.in-Some-first_length.ensures.some ∙ ap (λ (l : List ℕ). take 8 l) front in
    let first : AreFirst (g.D.Disk.state c.args.disk.now).reads more =
    subst (λ (o : Option (List ℕ)). AreFirst o more) c.read_up_to.ensures.looks.reads c.read_up_to-2.ensures.first in
    text_there (g.D.Disk.state c.args.disk.now).reads more c.args.at size first
    (head_there (g.D.Disk.state c.args.disk.now).reads bytes c.args.at size c.read_up_to.ensures.first inside opened long is)
    (omega (arith, c.if-len-end.false, c.len.ensures))
