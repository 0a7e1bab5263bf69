use Rattle.std.proofs.Common.{◌≡◌, ◌<◌, ◌+◌, ◌∙◌, ℕ, length, arith, subst, sym}
use Rattle.std.specs.Prelude.{reverse}
use Rattle.trail_book.specs.Trail.{Trail, top, oldest, IsPlace}
use Rattle.trail_book.specs.Tables.{trail_of}
use Rattle.trail_book.proofs.SlotLemmas.{length-entries, level_reads, place_unique}
use Rattle.trail_book.proofs.trail.Trail.level.Goals as goal

-- a variable has one place, and the slot there has its level
pub returns : goal.returns
returns c =
    let slots = c.self.inside.slots.items in
    let es = (trail_of c.self.inside).entries in
    let kept = c.self.invariant.slots in
    let is = subst (λ (t : Trail). IsPlace t.entries c.args.var c.place.result) (sym c.self.view_is) c.place.ensures in
    let within : c.place.result < length slots = omega (arith, is.within, length-entries slots) in
    let level = level_reads c.self.inside.places.items slots c.place.result c.index.result.now kept within c.index.ensures in
    subst (λ (t : Trail). (place : ℕ) → IsPlace t.entries c.args.var place → c.index.result.now.level ≡ top (oldest (place + 1) t.entries)) c.self.view_is
    (λ place other.
    let same : c.place.result ≡ place =
    sym (place_unique c.self.inside.places.items (reverse slots) c.args.var c.place.result kept is)
    ∙ place_unique c.self.inside.places.items (reverse slots) c.args.var place kept other in
    subst (λ (n : ℕ). c.index.result.now.level ≡ top (oldest (n + 1) es)) same level)
