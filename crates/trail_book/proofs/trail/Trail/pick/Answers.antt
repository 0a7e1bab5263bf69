use Rattle.std.proofs.Common.{◌≡◌, ◌<◌, ◌+◌, ◌-◌, ◌∙◌, ℕ, length, sym, subst, ap, arith}
use Rattle.std.specs.Prelude.{pos, slice_index_or}
use Rattle.std.proofs.lemmas.List.{get_or_read}
use Rattle.sat_base.specs.Literals.{var_of}
use Rattle.sat_base.specs.Units.{IsUnset}
use Rattle.trail_book.specs.Trail.{Trail, trues}
use Rattle.trail_book.specs.Order.{ComesFirst}
use Rattle.trail_book.specs.Tables.{trail_of}
use Rattle.trail_book.proofs.OrderLemmas.{unset_literal}
use Rattle.trail_book.proofs.WaitLemmas.{holding_unset}
use Rattle.trail_book.proofs.trail.Trail.pick.Goals as goal

-- what was noted last of a variable without value is what it last held
pub returns-clause-held : goal.returns-clause-held
returns-clause-held c =
    let a = c.self.inside in
    let inv = c.self.invariant in
    let index = c.in_ok-index.index in
    let is : trail_of a ≡ c.args.self.now = c.self.view_is ∙ c.first_unset.ensures.same in
    let some = subst (λ (t : Trail). IsUnset (trues t.entries) (pos (index + 1)) × (index < t.vars)) (sym is) c.in_ok-index.ensures.some in
    let within : index < length a.held.items = omega (arith, some.1, inv.one_held_each) in
    let read : c.index.result.now ≡ slice_index_or a.held.items index (pos 0) = get_or_read a.held.items index c.index.result.now within c.index.ensures (pos 0) in
    let of_var : var_of c.index.result.now - 1 ≡ index = omega (arith, ap var_of read, inv.of_vars index some.1) in
    read
    ∙ sym (holding_unset a.vars a.held.items (trail_of a).entries index inv.trail some.0)
    ∙ ap (λ (t : Trail). slice_index_or t.held index (pos 0)) is
    ∙ ap (λ (n : ℕ). slice_index_or c.args.self.now.held n (pos 0)) (sym of_var)

-- it is a literal of the variable that was picked, which has no value
pub returns-clause-some : goal.returns-clause-some
returns-clause-some c =
    let a = c.self.inside in
    let inv = c.self.invariant in
    let index = c.in_ok-index.index in
    let some = c.in_ok-index.ensures.some in
    let is : trail_of a ≡ c.args.self.now = c.self.view_is ∙ c.first_unset.ensures.same in
    let below : index < a.vars = subst (λ (t : Trail). index < t.vars) (sym is) some.1 in
    let within : index < length a.held.items = omega (arith, below, inv.one_held_each) in
    let read : c.index.result.now ≡ slice_index_or a.held.items index (pos 0) = get_or_read a.held.items index c.index.result.now within c.index.ensures (pos 0) in
    let of_var : var_of c.index.result.now ≡ index + 1 = omega (arith, ap var_of read, inv.of_vars index below) in
    (unset_literal (trues c.args.self.now.entries) c.index.result.now index of_var some.0, record { not_zero = omega (arith, of_var); in_range = omega (arith, of_var, some.1) })

-- no touched variable without value comes before the one that was picked
pub returns-clause-first : goal.returns-clause-first
returns-clause-first c = λ other is_lit touched unset.
    let a = c.self.inside in
    let inv = c.self.invariant in
    let index = c.in_ok-index.index in
    let is : trail_of a ≡ c.args.self.now = c.self.view_is ∙ c.first_unset.ensures.same in
    let below : index < a.vars = subst (λ (t : Trail). index < t.vars) (sym is) c.in_ok-index.ensures.some.1 in
    let within : index < length a.held.items = omega (arith, below, inv.one_held_each) in
    let read : c.index.result.now ≡ slice_index_or a.held.items index (pos 0) = get_or_read a.held.items index c.index.result.now within c.index.ensures (pos 0) in
    let of_var : var_of c.index.result.now ≡ index + 1 = omega (arith, ap var_of read, inv.of_vars index below) in
    let here : index + 1 - 1 ≡ var_of c.index.result.now - 1 = omega (arith, of_var) in
    subst (λ (n : ℕ). ComesFirst c.args.self.now.ranking n (var_of other - 1)) here (c.in_ok-index.ensures.first other is_lit touched unset)
