use Rattle.std.proofs.Common.{rules, ◌≡◌, sym, ap, ◌∙◌, Some}
use Rattle.turn_lock.specs.declared.view.Stage.TheVariants.{Waits}
use Rattle.turn_lock.proofs.Steps.{may_look, first_held}
use Rattle.turn_lock.proofs.turn.look.Goals as goal

pub load-requires : goal.load-requires
load-requires g c = (search rules, search rules, may_look _ _ _ _ _ _ _ _ c.args.ticket c.requires.waits.0)

pub exchange-requires : goal.exchange-requires
exchange-requires g c =
    let waits : c.args.place.now.me.0.stage ≡ Waits c.load.result = c.requires.waits.0 ∙ ap Waits (sym c.if-load-ticket.true) in
    let k = c.load.ensures.2.0 waits in
    (search rules, (Some k.0, first_held _ _ (Some k.0) (ap (λ m. m.1) k.1)))
