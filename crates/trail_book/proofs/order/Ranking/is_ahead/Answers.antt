use Rattle.std.proofs.Common.{◌≡◌, ◌∙◌, sym, arith}
use Rattle.std.proofs.lemmas.Bool.{ltb-true, ltb-false}
use Rattle.trail_book.proofs.OrderLemmas.{rank_by_activity, rank_by_position, rank_by_position_strict}
use Rattle.trail_book.proofs.order.Ranking.is_ahead.Goals as goal

-- equal activities leave it to the circle
pub returns-then-first-second-clause-yes : goal.returns-then-first-second-clause-yes
returns-then-first-second-clause-yes c = λ t.
    let lt = ltb-true c.position.result c.position-then-first-second.result t in
    rank_by_position_strict c.args.self.now c.args.one c.args.other (omega (arith, c.vars-vars.ensures.start, c.vars-vars.ensures.vars)) c.requires.one c.requires.other
    (sym c.activity-first.ensures ∙ c.if-first-second.true ∙ c.activity-second.ensures)
    (omega (arith, lt, c.position.ensures, c.position-then-first-second.ensures))

pub returns-then-first-second-clause-no : goal.returns-then-first-second-clause-no
returns-then-first-second-clause-no c = λ t.
    let le = ltb-false c.position.result c.position-then-first-second.result t in
    rank_by_position c.args.self.now c.args.other c.args.one
    (sym c.activity-second.ensures ∙ sym c.if-first-second.true ∙ c.activity-first.ensures)
    (omega (arith, le, c.position.ensures, c.position-then-first-second.ensures))

-- other activities decide
pub returns-else-first-second-clause-yes : goal.returns-else-first-second-clause-yes
returns-else-first-second-clause-yes c = λ t.
    let lt = ltb-true c.activity-second.result c.activity-first.result t in
    rank_by_activity c.args.self.now c.args.one c.args.other (omega (arith, c.vars-vars.ensures.start, c.vars-vars.ensures.vars)) c.requires.one c.requires.other
    (omega (arith, lt, c.activity-first.ensures, c.activity-second.ensures))

pub returns-else-first-second-clause-no : goal.returns-else-first-second-clause-no
returns-else-first-second-clause-no c = λ t.
    let le = ltb-false c.activity-second.result c.activity-first.result t in
    let apart : ¬ (c.activity-first.result ≡ c.activity-second.result) = c.if-first-second.false in
    let less = rank_by_activity c.args.self.now c.args.other c.args.one (omega (arith, c.vars-vars.ensures.start, c.vars-vars.ensures.vars)) c.requires.other c.requires.one
    (omega (arith, le, apart, c.activity-first.ensures, c.activity-second.ensures)) in
    omega (arith, less)
