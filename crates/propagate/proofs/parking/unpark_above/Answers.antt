use Rattle.std.proofs.Common.{◌≡◌, ◌+◌, ◌-◌, ◌≤◌, ℕ, List, [], inl, inr, refl, sym, ◌∙◌, ap, subst, arith}
use Rattle.std.specs.Prelude.{ℤ}
use Rattle.sat_base.specs.Members.{In}
use Rattle.sat_base.specs.Literals.{IsLiteral}
use Rattle.clause_store.specs.Clauses.{Clauses}
use Rattle.trail_book.specs.declared.entry.Entry.{Entry}
use Rattle.trail_book.specs.Trail.{trues, top, oldest}
use Rattle.trail_book.proofs.TrailLemmas.{trail_vars}
use Rattle.propagate.proofs.LevelLemmas.{oldest_in}
use Rattle.propagate.proofs.ReturnLemmas.{oldest_within, oldest_none}
use Rattle.propagate.proofs.parking.unpark_above.Goals as goal

-- what is left is of no higher level
pub returns-then-level_at-level-clause-empty : goal.returns-then-level_at-level-clause-empty
returns-then-level_at-level-clause-empty c = λ lit i.
    let es = c.args.trail.now.entries in
    let l = c.loop-place in
    let some = c.loop-place-test.true in
    let next : l.place - 1 + 1 ≡ l.place = omega (arith, some) in
    let low : top (oldest l.place es) ≤ c.args.level = subst (λ (k : ℕ). top (oldest k es) ≤ c.args.level) next (omega (arith, c.level_at.ensures, c.if-level_at-level.true)) in
    elim (l.invariant.empty lit i) [
      | inl old ↦ inl (oldest_within l.place c.args.level es lit l.invariant.within low old)
      | inr none ↦ inr none
    ]

pub unpark-requires-clause-literal : goal.unpark-requires-clause-literal
unpark-requires-clause-literal c =
    let t = c.args.trail.now in
    let l = c.loop-place in
    let lit = c.at.result in
    let on : In lit (trues t.entries) = oldest_in lit _ t.entries (subst (λ (ls : List ℤ). In lit ls) (sym c.at.ensures) (inl refl)) in
    subst (λ (v : ℕ). IsLiteral v lit) (sym (ap (λ (x : Clauses). x.vars) l.invariant.rest ∙ c.requires.vars)) (trail_vars t.vars t.entries c.vars-vars.ensures.trail lit on)

-- at the first place nothing is left
pub returns-clause-empty : goal.returns-clause-empty
returns-clause-empty c = λ lit i.
    let es = c.args.trail.now.entries in
    let l = c.loop-place in
    let first : l.place ≡ 0 = omega (arith, c.loop-place-test.false) in
    let none : oldest l.place es ≡ [] = oldest_none l.place es first in
    elim (l.invariant.empty lit i) [
      | inl old ↦ absurd (subst (λ (xs : List Entry). In lit (trues xs)) none old)
      | inr none ↦ inr none
    ]
