use Rattle.std.proofs.Common.{◌≡◌, ◌<◌, ◌+◌, ◌∷◌, length, arith, subst, sym, ap}
use Rattle.trail_book.specs.Trail.{Trail, trues, oldest}
use Rattle.trail_book.proofs.SlotLemmas.{length-entries, place_reads}
use Rattle.trail_book.proofs.trail.Trail.at.Goals as goal

-- the slot at a place holds the entry at that place
pub returns : goal.returns
returns c =
    let slots = c.self.inside.slots.items in
    let within : c.args.place < length slots =
    omega (arith, subst (λ (t : Trail). c.args.place < length t.entries) (sym c.self.view_is) c.requires, length-entries slots) in
    subst (λ (t : Trail). trues (oldest (c.args.place + 1) t.entries) ≡ c.index.result.now.lit ∷ trues (oldest c.args.place t.entries)) c.self.view_is
    (ap trues (place_reads slots c.args.place c.index.result.now within c.index.ensures))
