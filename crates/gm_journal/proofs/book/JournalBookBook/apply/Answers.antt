use Rattle.std.proofs.Common.{rules, ◌≡◌, ℕ, ◌+◌, ◌≤◌, false, ◌++◌, ◌∷◌, [], List, length, Some, refl, sym, ◌∙◌, ap, subst, arith, length-append}
use Rattle.std.specs.Vec.{vec_len, vec_capacity}
use Rattle.gm_ports.specs.DiskState.{AtEachMoment}
use Rattle.turn_lock.specs.Calls.{calls_by}
use Rattle.gm_journal.specs.declared.entry.Appended.TheVariants as appended
use Rattle.gm_journal.specs.Entries.{EntryView, who_of}
use Rattle.gm_journal.specs.Histories.{kept_in, has_failed, MayAppend, Answers, Tells}
use Rattle.gm_journal.specs.Books.{BookState, KeepsWithOrWithout, IsGoneOn}
use Rattle.gm_journal.proofs.HistoryLemmas.{answers_of}
use Rattle.gm_journal.proofs.RoomLemmas.{seats_left-most}
use Rattle.gm_journal.proofs.Orders.{one_more, legal_after, kept_after, in_order_after, moments, gone_after}
use Rattle.gm_journal.proofs.Orders.{stopped_legal, stopped_kept, stopped_order, stopped_moments, has_place}
use Rattle.gm_journal.proofs.TracedLemmas.{whole_by}
use Rattle.gm_journal.proofs.book.JournalBookBook.apply.Goals as goal

-- the caller's seat has not ended, so there is a place for its entry
pub push_reserved-requires : goal.push_reserved-requires
push_reserved-requires g c =
    let may : MayAppend c.self.inside.opening c.args.who c.args.op (calls_by who_of c.args.who c.self.inside.history.items) =
    subst (λ (b : BookState _). MayAppend b.opening c.args.who c.args.op (calls_by who_of c.args.who b.history)) (sym c.self.view_is) c.requires in
    let place = has_place c.self.inside.opening c.self.inside.history.items c.args.who c.args.op (vec_capacity c.self.inside.history) may c.self.invariant.0.room in
    omega (arith, place)

pub invariant_of-self : goal.invariant_of-self
invariant_of-self g c =
    let may : MayAppend c.self.inside.opening c.args.who c.args.op (calls_by who_of c.args.who c.self.inside.history.items) =
    subst (λ (b : BookState _). MayAppend b.opening c.args.who c.args.op (calls_by who_of c.args.who b.history)) (sym c.self.view_is) c.requires in
    let at = (g.D.Disk.state c.self.inside.disk).moment in
    let e : EntryView = record { who = c.args.who; text = c.args.op; reply = appended.Memory; moment = at } in
    let all_are : c.push_reserved.new.self.items ≡ c.self.inside.history.items ++ e ∷ [] =
    one_more _ _ _ _ c.args.who _ c.args.op appended.Memory at c.push_reserved.ensures.items c.reserve.ensures.items c.at_end.ensures c.of-text.ensures in
    let lawful = g.met.D.Disk.lawful c.self.inside.disk in
    let gone : IsGoneOn (g.D.Disk.state c.self.inside.disk) c.self.inside.opening c.push_reserved.new.self.items =
    gone_after g.D.Disk.state c.self.inside.disk c.self.inside.disk c.self.inside.opening c.self.inside.history.items _ e c.self.inside.gate
    lawful lawful all_are c.self.invariant.0.gone_on tt
    (stopped_moments _ _ _ _ _ _ _ c.args.who c.args.op at _ 0 c.self.invariant.0 all_are may lawful)
    (stopped_kept _ _ _ _ _ _ _ c.args.who c.args.op at _ 0 c.self.invariant.0 all_are may) (λ un. refl) refl refl ((λ x. x), (λ x. x)) in
    (stopped_order _ _ _ _ _ _ _ c.args.who c.args.op at _ _ c.self.invariant.0 all_are may gone (omega arith), c.self.invariant.1)

pub returns-then-is_err-clause-legal : goal.returns-then-is_err-clause-legal
returns-then-is_err-clause-legal g c =
    let may : MayAppend c.self.inside.opening c.args.who c.args.op (calls_by who_of c.args.who c.self.inside.history.items) =
    subst (λ (b : BookState _). MayAppend b.opening c.args.who c.args.op (calls_by who_of c.args.who b.history)) (sym c.self.view_is) c.requires in
    let at = (g.D.Disk.state c.self.inside.disk).moment in
    let e : EntryView = record { who = c.args.who; text = c.args.op; reply = appended.Memory; moment = at } in
    let all_are : c.push_reserved.new.self.items ≡ c.self.inside.history.items ++ e ∷ [] =
    one_more _ _ _ _ c.args.who _ c.args.op appended.Memory at c.push_reserved.ensures.items c.reserve.ensures.items c.at_end.ensures c.of-text.ensures in
    stopped_legal _ _ _ _ _ _ _ c.args.who c.args.op at _ 0 c.self.invariant.0 all_are may

pub returns-then-is_err-clause-any_moment : goal.returns-then-is_err-clause-any_moment
returns-then-is_err-clause-any_moment g c =
    let may : MayAppend c.self.inside.opening c.args.who c.args.op (calls_by who_of c.args.who c.self.inside.history.items) =
    subst (λ (b : BookState _). MayAppend b.opening c.args.who c.args.op (calls_by who_of c.args.who b.history)) (sym c.self.view_is) c.requires in
    let at = (g.D.Disk.state c.self.inside.disk).moment in
    let e : EntryView = record { who = c.args.who; text = c.args.op; reply = appended.Memory; moment = at } in
    let all_are : c.push_reserved.new.self.items ≡ c.self.inside.history.items ++ e ∷ [] =
    one_more _ _ _ _ c.args.who _ c.args.op appended.Memory at c.push_reserved.ensures.items c.reserve.ensures.items c.at_end.ensures c.of-text.ensures in
    subst (λ (b : BookState _). has_failed b.history ≡ false → (bytes : List ℕ) → (g.D.Disk.state b.disk).reads ≡ Some bytes
    → AtEachMoment (g.D.Disk.state b.disk) (g.D.Disk.state c.self.inside.disk) (KeepsWithOrWithout b.opening (kept_in b.history) c.args.op)) c.self.view_is
    (stopped_moments _ _ _ _ _ _ _ c.args.who c.args.op at _ 0 c.self.invariant.0 all_are may (g.met.D.Disk.lawful c.self.inside.disk))

pub returns-then-is_err-clause-gone_on : goal.returns-then-is_err-clause-gone_on
returns-then-is_err-clause-gone_on g c =
    let may : MayAppend c.self.inside.opening c.args.who c.args.op (calls_by who_of c.args.who c.self.inside.history.items) =
    subst (λ (b : BookState _). MayAppend b.opening c.args.who c.args.op (calls_by who_of c.args.who b.history)) (sym c.self.view_is) c.requires in
    let at = (g.D.Disk.state c.self.inside.disk).moment in
    let e : EntryView = record { who = c.args.who; text = c.args.op; reply = appended.Memory; moment = at } in
    let all_are : c.push_reserved.new.self.items ≡ c.self.inside.history.items ++ e ∷ [] =
    one_more _ _ _ _ c.args.who _ c.args.op appended.Memory at c.push_reserved.ensures.items c.reserve.ensures.items c.at_end.ensures c.of-text.ensures in
    let lawful = g.met.D.Disk.lawful c.self.inside.disk in
    let gone : IsGoneOn (g.D.Disk.state c.self.inside.disk) c.self.inside.opening c.push_reserved.new.self.items =
    gone_after g.D.Disk.state c.self.inside.disk c.self.inside.disk c.self.inside.opening c.self.inside.history.items _ e c.self.inside.gate
    lawful lawful all_are c.self.invariant.0.gone_on tt
    (stopped_moments _ _ _ _ _ _ _ c.args.who c.args.op at _ 0 c.self.invariant.0 all_are may lawful)
    (stopped_kept _ _ _ _ _ _ _ c.args.who c.args.op at _ 0 c.self.invariant.0 all_are may) (λ un. refl) refl refl ((λ x. x), (λ x. x)) in
    gone

pub returns-then-is_err-clause-whole : goal.returns-then-is_err-clause-whole
returns-then-is_err-clause-whole g c =
    let may : MayAppend c.self.inside.opening c.args.who c.args.op (calls_by who_of c.args.who c.self.inside.history.items) =
    subst (λ (b : BookState _). MayAppend b.opening c.args.who c.args.op (calls_by who_of c.args.who b.history)) (sym c.self.view_is) c.requires in
    let at = (g.D.Disk.state c.self.inside.disk).moment in
    let e : EntryView = record { who = c.args.who; text = c.args.op; reply = appended.Memory; moment = at } in
    let all_are : c.push_reserved.new.self.items ≡ c.self.inside.history.items ++ e ∷ [] =
    one_more _ _ _ _ c.args.who _ c.args.op appended.Memory at c.push_reserved.ensures.items c.reserve.ensures.items c.at_end.ensures c.of-text.ensures in
    let lawful = g.met.D.Disk.lawful c.self.inside.disk in
    let gone : IsGoneOn (g.D.Disk.state c.self.inside.disk) c.self.inside.opening c.push_reserved.new.self.items =
    gone_after g.D.Disk.state c.self.inside.disk c.self.inside.disk c.self.inside.opening c.self.inside.history.items _ e c.self.inside.gate
    lawful lawful all_are c.self.invariant.0.gone_on tt
    (stopped_moments _ _ _ _ _ _ _ c.args.who c.args.op at _ 0 c.self.invariant.0 all_are may lawful)
    (stopped_kept _ _ _ _ _ _ _ c.args.who c.args.op at _ 0 c.self.invariant.0 all_are may) (λ un. refl) refl refl ((λ x. x), (λ x. x)) in
    λ told. whole_by (g.D.Disk.state c.self.inside.disk) c.self.inside.opening c.push_reserved.new.self.items lawful (gone.traced told)

-- the answer is the one that the entries before give, and it was made on the parts
pub invariant_of-self-2 : goal.invariant_of-self-2
invariant_of-self-2 g c =
    let may : MayAppend c.self.inside.opening c.args.who c.args.op (calls_by who_of c.args.who c.self.inside.history.items) =
    subst (λ (b : BookState _). MayAppend b.opening c.args.who c.args.op (calls_by who_of c.args.who b.history)) (sym c.self.view_is) c.requires in
    let at = (g.D.Disk.state c.answer-reply.new.disk).moment in
    let e : EntryView = record { who = c.args.who; text = c.args.op; reply = c.answer-reply.result; moment = at } in
    let all_are : c.push_reserved-2.new.self.items ≡ c.self.inside.history.items ++ e ∷ [] =
    one_more _ _ _ _ c.args.who _ c.args.op c.answer-reply.result at
    c.push_reserved-2.ensures.items c.reserve.ensures.items c.at_end-2.ensures c.of-text.ensures in
    let answers : Answers c.self.inside.opening c.self.inside.history.items c.args.op c.answer-reply.result =
    answers_of c.self.inside.opening c.self.inside.history.items c.self.inside.held c.self.inside.is_closed _ _ c.args.op c.answer-reply.result
    c.self.invariant.0.closed_is c.self.invariant.0.index c.self.invariant.0.count c.answer-reply.ensures.answers c.answer-reply.ensures.cause in
    let lawful = g.met.D.Disk.lawful c.answer-reply.new.disk in
    let gone : IsGoneOn (g.D.Disk.state c.answer-reply.new.disk) c.self.inside.opening c.push_reserved-2.new.self.items =
    gone_after g.D.Disk.state c.self.inside.disk c.answer-reply.new.disk c.self.inside.opening c.self.inside.history.items _ e c.answer-reply.new.gate
    (g.met.D.Disk.lawful c.self.inside.disk) lawful all_are c.self.invariant.0.gone_on answers
    (moments _ _ _ c.answer-reply.new.held _ _ _ _ _ _ _ e _ 0 c.self.invariant.0 all_are may answers c.answer-reply.ensures.closed
    c.answer-reply.ensures.settled c.answer-reply.ensures.small c.answer-reply.ensures.tells c.answer-reply.ensures.any_moment)
    (kept_after _ _ _ c.answer-reply.new.held _ _ _ _ _ _ _ e _ 0 c.self.invariant.0 all_are may answers c.answer-reply.ensures.closed
    c.answer-reply.ensures.settled c.answer-reply.ensures.small c.answer-reply.ensures.tells)
    c.answer-reply.ensures.untouched refl c.answer-reply.ensures.name c.answer-reply.ensures.tells in
    let size : length c.push_reserved-2.new.self.items ≡ length c.self.inside.history.items + 1 = ap length all_are ∙ length-append c.self.inside.history.items _ in
    let most = seats_left-most c.self.inside.opening.seats c.push_reserved-2.new.self.items in
    let space : vec_len c.reserve.new.self + (c.self.inside.seats + 1) ≤ vec_capacity c.reserve.new.self = search rules in (
      in_order_after _ _ _ _ _ _ _ _ _ _ _ e _ _ c.self.invariant.0 all_are may answers c.answer-reply.ensures.closed
          c.answer-reply.ensures.settled c.answer-reply.ensures.small c.answer-reply.ensures.tells gone
          c.answer-reply.ensures.held c.answer-reply.ensures.gate c.answer-reply.ensures.cause (omega (arith, size, most, space, c.self.invariant.1)),
      c.self.invariant.1,
    )

pub returns-clause-entry : goal.returns-clause-entry
returns-clause-entry g c =
    let at = (g.D.Disk.state c.answer-reply.new.disk).moment in
    let e : EntryView = record { who = c.args.who; text = c.args.op; reply = c.answer-reply.result; moment = at } in
    let all_are : c.push_reserved-2.new.self.items ≡ c.self.inside.history.items ++ e ∷ [] =
    one_more _ _ _ _ c.args.who _ c.args.op c.answer-reply.result at
    c.push_reserved-2.ensures.items c.reserve.ensures.items c.at_end-2.ensures c.of-text.ensures in
    let answers : Answers c.self.inside.opening c.self.inside.history.items c.args.op c.answer-reply.result =
    answers_of c.self.inside.opening c.self.inside.history.items c.self.inside.held c.self.inside.is_closed _ _ c.args.op c.answer-reply.result
    c.self.invariant.0.closed_is c.self.invariant.0.index c.self.invariant.0.count c.answer-reply.ensures.answers c.answer-reply.ensures.cause in
    subst (λ (b : BookState _). (x : EntryView) × (c.push_reserved-2.new.self.items ≡ b.history ++ x ∷ []) × (who_of x ≡ c.args.who) × Tells b.opening b.history c.args.op c.answer-reply.result x) c.self.view_is
    (e, all_are, refl, record { text_is = refl; reply_is = refl; answers = answers })

pub returns-clause-legal : goal.returns-clause-legal
returns-clause-legal g c =
    let may : MayAppend c.self.inside.opening c.args.who c.args.op (calls_by who_of c.args.who c.self.inside.history.items) =
    subst (λ (b : BookState _). MayAppend b.opening c.args.who c.args.op (calls_by who_of c.args.who b.history)) (sym c.self.view_is) c.requires in
    let at = (g.D.Disk.state c.answer-reply.new.disk).moment in
    let e : EntryView = record { who = c.args.who; text = c.args.op; reply = c.answer-reply.result; moment = at } in
    let all_are : c.push_reserved-2.new.self.items ≡ c.self.inside.history.items ++ e ∷ [] =
    one_more _ _ _ _ c.args.who _ c.args.op c.answer-reply.result at
    c.push_reserved-2.ensures.items c.reserve.ensures.items c.at_end-2.ensures c.of-text.ensures in
    let answers : Answers c.self.inside.opening c.self.inside.history.items c.args.op c.answer-reply.result =
    answers_of c.self.inside.opening c.self.inside.history.items c.self.inside.held c.self.inside.is_closed _ _ c.args.op c.answer-reply.result
    c.self.invariant.0.closed_is c.self.invariant.0.index c.self.invariant.0.count c.answer-reply.ensures.answers c.answer-reply.ensures.cause in
    legal_after _ _ _ c.answer-reply.new.held _ _ _ _ _ _ _ e _ 0 c.self.invariant.0 all_are may answers c.answer-reply.ensures.closed
    c.answer-reply.ensures.settled c.answer-reply.ensures.small c.answer-reply.ensures.tells

pub returns-clause-any_moment : goal.returns-clause-any_moment
returns-clause-any_moment g c =
    let may : MayAppend c.self.inside.opening c.args.who c.args.op (calls_by who_of c.args.who c.self.inside.history.items) =
    subst (λ (b : BookState _). MayAppend b.opening c.args.who c.args.op (calls_by who_of c.args.who b.history)) (sym c.self.view_is) c.requires in
    let at = (g.D.Disk.state c.answer-reply.new.disk).moment in
    let e : EntryView = record { who = c.args.who; text = c.args.op; reply = c.answer-reply.result; moment = at } in
    let all_are : c.push_reserved-2.new.self.items ≡ c.self.inside.history.items ++ e ∷ [] =
    one_more _ _ _ _ c.args.who _ c.args.op c.answer-reply.result at
    c.push_reserved-2.ensures.items c.reserve.ensures.items c.at_end-2.ensures c.of-text.ensures in
    let answers : Answers c.self.inside.opening c.self.inside.history.items c.args.op c.answer-reply.result =
    answers_of c.self.inside.opening c.self.inside.history.items c.self.inside.held c.self.inside.is_closed _ _ c.args.op c.answer-reply.result
    c.self.invariant.0.closed_is c.self.invariant.0.index c.self.invariant.0.count c.answer-reply.ensures.answers c.answer-reply.ensures.cause in
    subst (λ (b : BookState _). has_failed b.history ≡ false → (bytes : List ℕ) → (g.D.Disk.state b.disk).reads ≡ Some bytes
    → AtEachMoment (g.D.Disk.state b.disk) (g.D.Disk.state c.answer-reply.new.disk) (KeepsWithOrWithout b.opening (kept_in b.history) c.args.op)) c.self.view_is
    (moments _ _ _ c.answer-reply.new.held _ _ _ _ _ _ _ e _ 0 c.self.invariant.0 all_are may answers c.answer-reply.ensures.closed
    c.answer-reply.ensures.settled c.answer-reply.ensures.small c.answer-reply.ensures.tells
    c.answer-reply.ensures.any_moment)

pub returns-clause-kept : goal.returns-clause-kept
returns-clause-kept g c =
    let may : MayAppend c.self.inside.opening c.args.who c.args.op (calls_by who_of c.args.who c.self.inside.history.items) =
    subst (λ (b : BookState _). MayAppend b.opening c.args.who c.args.op (calls_by who_of c.args.who b.history)) (sym c.self.view_is) c.requires in
    let at = (g.D.Disk.state c.answer-reply.new.disk).moment in
    let e : EntryView = record { who = c.args.who; text = c.args.op; reply = c.answer-reply.result; moment = at } in
    let all_are : c.push_reserved-2.new.self.items ≡ c.self.inside.history.items ++ e ∷ [] =
    one_more _ _ _ _ c.args.who _ c.args.op c.answer-reply.result at
    c.push_reserved-2.ensures.items c.reserve.ensures.items c.at_end-2.ensures c.of-text.ensures in
    let answers : Answers c.self.inside.opening c.self.inside.history.items c.args.op c.answer-reply.result =
    answers_of c.self.inside.opening c.self.inside.history.items c.self.inside.held c.self.inside.is_closed _ _ c.args.op c.answer-reply.result
    c.self.invariant.0.closed_is c.self.invariant.0.index c.self.invariant.0.count c.answer-reply.ensures.answers c.answer-reply.ensures.cause in
    kept_after _ _ _ c.answer-reply.new.held _ _ _ _ _ _ _ e _ 0 c.self.invariant.0 all_are may answers c.answer-reply.ensures.closed
    c.answer-reply.ensures.settled c.answer-reply.ensures.small c.answer-reply.ensures.tells

pub returns-clause-gone_on : goal.returns-clause-gone_on
returns-clause-gone_on g c =
    let may : MayAppend c.self.inside.opening c.args.who c.args.op (calls_by who_of c.args.who c.self.inside.history.items) =
    subst (λ (b : BookState _). MayAppend b.opening c.args.who c.args.op (calls_by who_of c.args.who b.history)) (sym c.self.view_is) c.requires in
    let at = (g.D.Disk.state c.answer-reply.new.disk).moment in
    let e : EntryView = record { who = c.args.who; text = c.args.op; reply = c.answer-reply.result; moment = at } in
    let all_are : c.push_reserved-2.new.self.items ≡ c.self.inside.history.items ++ e ∷ [] =
    one_more _ _ _ _ c.args.who _ c.args.op c.answer-reply.result at
    c.push_reserved-2.ensures.items c.reserve.ensures.items c.at_end-2.ensures c.of-text.ensures in
    let answers : Answers c.self.inside.opening c.self.inside.history.items c.args.op c.answer-reply.result =
    answers_of c.self.inside.opening c.self.inside.history.items c.self.inside.held c.self.inside.is_closed _ _ c.args.op c.answer-reply.result
    c.self.invariant.0.closed_is c.self.invariant.0.index c.self.invariant.0.count c.answer-reply.ensures.answers c.answer-reply.ensures.cause in
    let lawful = g.met.D.Disk.lawful c.answer-reply.new.disk in
    let gone : IsGoneOn (g.D.Disk.state c.answer-reply.new.disk) c.self.inside.opening c.push_reserved-2.new.self.items =
    gone_after g.D.Disk.state c.self.inside.disk c.answer-reply.new.disk c.self.inside.opening c.self.inside.history.items _ e c.answer-reply.new.gate
    (g.met.D.Disk.lawful c.self.inside.disk) lawful all_are c.self.invariant.0.gone_on answers
    (moments _ _ _ c.answer-reply.new.held _ _ _ _ _ _ _ e _ 0 c.self.invariant.0 all_are may answers c.answer-reply.ensures.closed
    c.answer-reply.ensures.settled c.answer-reply.ensures.small c.answer-reply.ensures.tells c.answer-reply.ensures.any_moment)
    (kept_after _ _ _ c.answer-reply.new.held _ _ _ _ _ _ _ e _ 0 c.self.invariant.0 all_are may answers c.answer-reply.ensures.closed
    c.answer-reply.ensures.settled c.answer-reply.ensures.small c.answer-reply.ensures.tells)
    c.answer-reply.ensures.untouched refl c.answer-reply.ensures.name c.answer-reply.ensures.tells in
    gone

pub returns-clause-whole : goal.returns-clause-whole
returns-clause-whole g c =
    let may : MayAppend c.self.inside.opening c.args.who c.args.op (calls_by who_of c.args.who c.self.inside.history.items) =
    subst (λ (b : BookState _). MayAppend b.opening c.args.who c.args.op (calls_by who_of c.args.who b.history)) (sym c.self.view_is) c.requires in
    let at = (g.D.Disk.state c.answer-reply.new.disk).moment in
    let e : EntryView = record { who = c.args.who; text = c.args.op; reply = c.answer-reply.result; moment = at } in
    let all_are : c.push_reserved-2.new.self.items ≡ c.self.inside.history.items ++ e ∷ [] =
    one_more _ _ _ _ c.args.who _ c.args.op c.answer-reply.result at
    c.push_reserved-2.ensures.items c.reserve.ensures.items c.at_end-2.ensures c.of-text.ensures in
    let answers : Answers c.self.inside.opening c.self.inside.history.items c.args.op c.answer-reply.result =
    answers_of c.self.inside.opening c.self.inside.history.items c.self.inside.held c.self.inside.is_closed _ _ c.args.op c.answer-reply.result
    c.self.invariant.0.closed_is c.self.invariant.0.index c.self.invariant.0.count c.answer-reply.ensures.answers c.answer-reply.ensures.cause in
    let lawful = g.met.D.Disk.lawful c.answer-reply.new.disk in
    let gone : IsGoneOn (g.D.Disk.state c.answer-reply.new.disk) c.self.inside.opening c.push_reserved-2.new.self.items =
    gone_after g.D.Disk.state c.self.inside.disk c.answer-reply.new.disk c.self.inside.opening c.self.inside.history.items _ e c.answer-reply.new.gate
    (g.met.D.Disk.lawful c.self.inside.disk) lawful all_are c.self.invariant.0.gone_on answers
    (moments _ _ _ c.answer-reply.new.held _ _ _ _ _ _ _ e _ 0 c.self.invariant.0 all_are may answers c.answer-reply.ensures.closed
    c.answer-reply.ensures.settled c.answer-reply.ensures.small c.answer-reply.ensures.tells c.answer-reply.ensures.any_moment)
    (kept_after _ _ _ c.answer-reply.new.held _ _ _ _ _ _ _ e _ 0 c.self.invariant.0 all_are may answers c.answer-reply.ensures.closed
    c.answer-reply.ensures.settled c.answer-reply.ensures.small c.answer-reply.ensures.tells)
    c.answer-reply.ensures.untouched refl c.answer-reply.ensures.name c.answer-reply.ensures.tells in
    λ told. whole_by (g.D.Disk.state c.answer-reply.new.disk) c.self.inside.opening c.push_reserved-2.new.self.items lawful (gone.traced told)
