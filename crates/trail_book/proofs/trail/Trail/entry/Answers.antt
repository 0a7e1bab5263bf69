use Rattle.std.proofs.Common.{◌≡◌, ◌<◌, ◌+◌, ◌∷◌, length, arith, subst, sym}
use Rattle.trail_book.specs.declared.entry.Entry.{Entry}
use Rattle.trail_book.specs.Trail.{Trail, oldest}
use Rattle.trail_book.specs.Tables.{trail_of}
use Rattle.trail_book.proofs.SlotLemmas.{length-entries, place_reads}
use Rattle.trail_book.proofs.trail.Trail.entry.Goals as goal

-- the slot at a place holds the entry at that place
pub returns : goal.returns
returns c =
    let slots = c.self.inside.slots.items in
    let within : c.args.place < length slots =
    omega (arith, subst (λ (t : Trail). c.args.place < length t.entries) (sym c.self.view_is) c.requires, length-entries slots) in
    subst (λ (t : Trail). oldest (c.args.place + 1) t.entries ≡ c.entry.result ∷ oldest c.args.place t.entries) c.self.view_is
    (subst (λ (e : Entry). oldest (c.args.place + 1) (trail_of c.self.inside).entries ≡ e ∷ oldest c.args.place (trail_of c.self.inside).entries) (sym c.entry.ensures)
    (place_reads slots c.args.place c.index.result.now within c.index.ensures))
