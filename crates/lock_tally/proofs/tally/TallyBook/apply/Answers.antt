use Rattle.std.proofs.Common.{◌≡◌, ◌+◌, ◌<◌, ◌≤◌, ◌^◌, ℕ, List, [], ◌∷◌, ◌++◌, arith, sym, subst, refl}
use Rattle.turn_lock.specs.Calls.{calls_by}
use Rattle.lock_tally.specs.declared.tally.Added.{Added}
use Rattle.lock_tally.specs.Tallies.{TallyView, who_of, may_add, IsLegal, IsSumOf}
use Rattle.lock_tally.proofs.Sums.{has_room, still_legal, still_sum}
use Rattle.lock_tally.proofs.tally.TallyBook.apply.Goals as goal

-- there are fewer than 100 entries for each seat, and each is small
pub overflow_add-reply : goal.overflow_add-reply
overflow_add-reply c =
    let seats : ℕ = c.self.inside.seats in
    let may : may_add seats c.args.who c.args.op (calls_by who_of c.args.who c.self.inside.entries.items) = subst (λ (t : TallyView). may_add t.seats c.args.who c.args.op (calls_by who_of c.args.who t.entries)) (sym c.self.view_is) c.requires in
    let i = c.self.invariant in
    let room = has_room seats c.self.inside.entries.items c.args.who i.1 may in
    let few : seats < 2 ^ 32 = c.self.ranges.0.1 in
    let is = i.0.is in
    let small = i.0.small in omega (arith, c.ranges.op.fits)

pub push_reserved-requires : goal.push_reserved-requires
push_reserved-requires c =
    let seats : ℕ = c.self.inside.seats in
    let may : may_add seats c.args.who c.args.op (calls_by who_of c.args.who c.self.inside.entries.items) = subst (λ (t : TallyView). may_add t.seats c.args.who c.args.op (calls_by who_of c.args.who t.entries)) (sym c.self.view_is) c.requires in
    let room = has_room seats c.self.inside.entries.items c.args.who c.self.invariant.1 may in omega (arith, c.self.invariant.2, c.self.inside.entries.ok.0)

pub invariant_of-self : goal.invariant_of-self
invariant_of-self c =
    let seats : ℕ = c.self.inside.seats in
    let may : may_add seats c.args.who c.args.op (calls_by who_of c.args.who c.self.inside.entries.items) = subst (λ (t : TallyView). may_add t.seats c.args.who c.args.op (calls_by who_of c.args.who t.entries)) (sym c.self.view_is) c.requires in
    let i = c.self.invariant in
    let es : List Added = c.self.inside.entries.items in
    let e : Added = record { who = c.args.who; amount = c.args.op; reply = c.self.inside.sum + c.args.op } in
    let items : c.push_reserved.new.self.items ≡ es ++ e ∷ [] = c.push_reserved.ensures.items in
    let small : c.args.op ≤ 65535 = omega (arith, c.ranges.op.fits) in
    let is = i.0.is in (
      subst (IsSumOf (c.self.inside.sum + c.args.op)) (sym items) (still_sum c.self.inside.sum c.args.op es e i.0 small refl),
      subst (IsLegal seats) (sym items) (still_legal seats es e i.1 may (omega arith)),
      omega (arith, i.2, c.push_reserved.ensures.capacity),
    )

pub returns-clause-legal : goal.returns-clause-legal
returns-clause-legal c =
    let seats : ℕ = c.self.inside.seats in
    let may : may_add seats c.args.who c.args.op (calls_by who_of c.args.who c.self.inside.entries.items) = subst (λ (t : TallyView). may_add t.seats c.args.who c.args.op (calls_by who_of c.args.who t.entries)) (sym c.self.view_is) c.requires in
    let es : List Added = c.self.inside.entries.items in
    let e : Added = record { who = c.args.who; amount = c.args.op; reply = c.self.inside.sum + c.args.op } in
    let is = c.self.invariant.0.is in
    subst (IsLegal seats) (sym c.push_reserved.ensures.items) (still_legal seats es e c.self.invariant.1 may (omega arith))
