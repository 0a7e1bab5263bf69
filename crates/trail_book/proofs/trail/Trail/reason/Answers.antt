use Rattle.std.proofs.Common.{◌≡◌, ◌∙◌, ap, subst, sym}
use Rattle.sat_base.specs.Literals.{var_of}
use Rattle.sat_base.specs.Members.{In}
use Rattle.trail_book.specs.declared.entry.Entry.{Entry}
use Rattle.trail_book.specs.Trail.{Trail, IsPlace}
use Rattle.trail_book.proofs.SlotLemmas.{entry_found}
use Rattle.trail_book.proofs.trail.Trail.reason.Goals as goal

-- the slot at the place of a variable holds its entry
pub returns : goal.returns
returns c =
    let is = subst (λ (t : Trail). IsPlace t.entries c.args.var c.place.result) (sym c.self.view_is) c.place.ensures in
    subst (λ (t : Trail). (e : Entry) → In e t.entries → var_of e.lit ≡ c.args.var → c.id.result ≡ e.reason) c.self.view_is
    (λ e i of_var.
    c.id.ensures
    ∙ ap (λ (e : Entry). e.reason)
    (entry_found c.self.inside.places.items c.self.inside.slots.items c.args.var c.place.result c.index.result.now e c.self.invariant.slots is c.index.ensures i of_var))
