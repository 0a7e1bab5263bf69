use Rattle.std.proofs.Common.{◌≡◌, ◌∷◌, [], List, ℕ, reverse, sym, ◌∙◌, ap, subst}
use Rattle.std.proofs.lemmas.List.{reverse-append}
use Rattle.lrat_steps.specs.Cone.{PutsDerived}
use Rattle.lrat_steps.proofs.ConeLemmas.{IsConeSoFar, cone_start, cone_more, limit_falls}
use Rattle.lrat_steps.specs.Log.{steps_of}
use Rattle.lrat_steps.proofs.cone.cone_of.Goals as goal

-- only the goal waits, unless it is an input
pub loop-id-init : goal.loop-id-init
loop-id-init c =
    let puts = subst (λ (work : List ℕ). PutsDerived (steps_of c.args.log.now) work (c.args.goal ∷ []) c.put.new.work) c.new-work.ensures c.in_ok-put.ensures in
    subst (λ (ids : List ℕ). IsConeSoFar (steps_of c.args.log.now) c.args.goal c.put.new.work (reverse ids)) (sym c.new-ids.ensures.items)
    (cone_start (steps_of c.args.log.now) c.args.goal c.put.new.work c.requires.from_one c.requires.within puts)

pub put_hints-requires-clause-from_one : goal.put_hints-requires-clause-from_one
put_hints-requires-clause-from_one c = (c.loop-id.invariant.waiting c.in-Some.id c.in-Some.ensures.0.has).from_one

pub put_hints-requires-clause-within : goal.put_hints-requires-clause-within
put_hints-requires-clause-within c = (c.loop-id.invariant.waiting c.in-Some.id c.in-Some.ensures.0.has).within

-- the greatest id that waits is handled
next : (c : goal.In_ok-put_hints) → IsConeSoFar (steps_of c.args.log.now) c.args.goal c.put_hints.new.work (c.in-Some.id ∷ reverse c.loop-id.ids.items)
next c =
    cone_more (steps_of c.args.log.now) c.args.goal c.in-Some.id c.loop-id.work c.take_greatest.new.self c.put_hints.new.work (reverse c.loop-id.ids.items) c.requires.backward c.loop-id.invariant
    c.in-Some.ensures.0 c.in-Some.ensures.1 c.in_ok-put_hints.ensures

pub loop-id-smaller : goal.loop-id-smaller
loop-id-smaller c = limit_falls (steps_of c.args.log.now) c.args.goal c.in-Some.id c.loop-id.work c.put_hints.new.work (reverse c.loop-id.ids.items) c.in-Some.ensures.0 (next c)

pub loop-id-preserved : goal.loop-id-preserved
loop-id-preserved c =
    let pushed : reverse c.push.new.self.items ≡ c.in-Some.id ∷ reverse c.loop-id.ids.items = ap reverse c.in_ok-push.ensures.items ∙ reverse-append c.loop-id.ids.items (c.in-Some.id ∷ []) in
    subst (IsConeSoFar (steps_of c.args.log.now) c.args.goal c.put_hints.new.work) (sym pushed) (next c)
