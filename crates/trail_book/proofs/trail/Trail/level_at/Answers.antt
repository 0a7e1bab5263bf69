use Rattle.std.proofs.Common.{◌≡◌, ◌<◌, ◌+◌, length, arith, subst, sym}
use Rattle.trail_book.specs.Trail.{Trail, top, oldest}
use Rattle.trail_book.proofs.SlotLemmas.{length-entries, level_reads}
use Rattle.trail_book.proofs.trail.Trail.level_at.Goals as goal

-- each slot has the level of the entries up to it
pub returns : goal.returns
returns c =
    let slots = c.self.inside.slots.items in
    let within : c.args.place < length slots =
    omega (arith, subst (λ (t : Trail). c.args.place < length t.entries) (sym c.self.view_is) c.requires, length-entries slots) in
    subst (λ (t : Trail). c.index.result.now.level ≡ top (oldest (c.args.place + 1) t.entries)) c.self.view_is
    (level_reads c.self.inside.places.items slots c.args.place c.index.result.now c.self.invariant.slots within c.index.ensures)
