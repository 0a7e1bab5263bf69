use Rattle.std.proofs.Common.{ℕ, sym, subst, arith}
use Rattle.std.specs.Prelude.{ℤ, pos}
use Rattle.sat_base.specs.Members.{In}
use Rattle.sat_base.specs.Literals.{var_of}
use Rattle.sat_base.specs.Units.{HasValue}
use Rattle.trail_book.specs.Trail.{trues, keep, IsPlace}
use Rattle.trail_book.proofs.PlaceLemmas.{place_of_var}
use Rattle.propagate.proofs.EnterLemmas.{has_value, place_literal, level_there, level_first, level_within}
use Rattle.propagate.proofs.entrance.level_of.Goals as goal

pub level-requires : goal.level-requires
level-requires c =
    let t = c.args.trail.now in
    subst (λ (v : ℕ). HasValue (trues t.entries) (pos v)) (sym c.var.ensures.same) (has_value (trues t.entries) c.args.lit c.requires)

-- it is that of the place of its variable
pub returns-clause-there : goal.returns-clause-there
returns-clause-there c = λ k low.
    let t = c.args.trail.now in
    let lit = c.args.lit in
    let x = place_of_var t.entries (var_of lit) (has_value (trues t.entries) lit c.requires) in
    let level = c.level.ensures x.0 (subst (λ (v : ℕ). IsPlace t.entries v x.0) (sym c.var.ensures.same) x.1) in
    subst (λ (m : ℤ). In m (trues (keep k t.entries))) (place_literal t.vars t.entries lit x.0 x.1 c.vars-vars.ensures.trail c.requires)
    (level_there t.entries x.0 x.1.entry x.1.within x.1.at k (omega (arith, level, low)))

pub returns-clause-first : goal.returns-clause-first
returns-clause-first c = λ k i.
    let t = c.args.trail.now in
    let lit = c.args.lit in
    let x = place_of_var t.entries (var_of lit) (has_value (trues t.entries) lit c.requires) in
    let level = c.level.ensures x.0 (subst (λ (v : ℕ). IsPlace t.entries v x.0) (sym c.var.ensures.same) x.1) in
    let is = place_literal t.vars t.entries lit x.0 x.1 c.vars-vars.ensures.trail c.requires in
    let low = level_first t.vars t.entries x.0 x.1.entry c.vars-vars.ensures.trail x.1.within x.1.at k (subst (λ (m : ℤ). In m (trues (keep k t.entries))) (sym is) i) in
    omega (arith, level, low)

pub returns-clause-within : goal.returns-clause-within
returns-clause-within c =
    let t = c.args.trail.now in
    let lit = c.args.lit in
    let x = place_of_var t.entries (var_of lit) (has_value (trues t.entries) lit c.requires) in
    let level = c.level.ensures x.0 (subst (λ (v : ℕ). IsPlace t.entries v x.0) (sym c.var.ensures.same) x.1) in
    let high = level_within t.entries x.0 x.1.within in
    omega (arith, level, high)
