use Rattle.std.proofs.Common.{◌≡◌, ◌-◌, ◌∙◌, ℕ, List, ap, sym, subst, arith}
use Rattle.std.specs.Prelude.{ℤ, neg_ℤ}
use Rattle.sat_base.specs.Members.{In}
use Rattle.sat_base.specs.Units.{AllFalse}
use Rattle.trail_book.specs.declared.entry.Entry.{Entry}
use Rattle.trail_book.specs.Trail.{trues, top, keep}
use Rattle.trail_book.proofs.TrailLemmas.{top-keep, top-keep_exact}
use Rattle.propagate.specs.Entrance.{StaysWhereOpen}
use Rattle.propagate.proofs.EnterLemmas.{last_all, back_stays}
use Rattle.propagate.proofs.entrance.below.Goals as goal

pub level_of-level-requires : goal.level_of-level-requires
level_of-level-requires c = subst (λ (m : ℤ). In m (trues c.args.trail.now.entries)) (sym c.negated.ensures) c.requires.last.is_false

-- all are false at level 0
pub returns-then-level-eq0-clause-none : goal.returns-then-level-eq0-clause-none
returns-then-level-eq0-clause-none c =
    let es = c.args.trail.now.entries in
    let new = c.back_to.new.trail.entries in
    let is = c.back_to.ensures.entries in
    let low = top-keep 0 es in
    let there : In (neg_ℤ c.args.last) (trues (keep 0 es)) = subst (λ (m : ℤ). In m (trues (keep 0 es))) c.negated.ensures (c.level_of-level.ensures.there 0 (omega (arith, c.if-level-eq0.true))) in
    ((let tops = ap top is in omega (arith, tops, low)), subst (λ (xs : List Entry). AllFalse (trues xs) c.args.lits.now) (sym is) (last_all es c.args.lits.now c.args.last 0 c.requires.last there))

pub returns-then-level-eq0-clause-entries : goal.returns-then-level-eq0-clause-entries
returns-then-level-eq0-clause-entries c =
    let es = c.args.trail.now.entries in
    let is = c.back_to.ensures.entries in
    let low = top-keep 0 es in
    let zero : top c.back_to.new.trail.entries ≡ 0 = (let tops = ap top is in omega (arith, tops, low)) in
    is ∙ ap (λ (n : ℕ). keep n es) (sym zero)

pub returns-then-level-eq0-clause-kept : goal.returns-then-level-eq0-clause-kept
returns-then-level-eq0-clause-kept c = c.back_to.ensures.kept

pub returns-then-level-eq0-clause-stays : goal.returns-then-level-eq0-clause-stays
returns-then-level-eq0-clause-stays c =
    let es = c.args.trail.now.entries in
    let there : In (neg_ℤ c.args.last) (trues (keep 0 es)) = subst (λ (m : ℤ). In m (trues (keep 0 es))) c.negated.ensures (c.level_of-level.ensures.there 0 (omega (arith, c.if-level-eq0.true))) in
    subst (λ (xs : List Entry). StaysWhereOpen es xs c.args.lits.now) (sym c.back_to.ensures.entries)
    (back_stays es c.args.lits.now 0 0 (last_all es c.args.lits.now c.args.last 0 c.requires.last there) (omega arith))

-- below its level the last one is not false
pub returns-clause-some : goal.returns-clause-some
returns-clause-some c =
    let es = c.args.trail.now.entries in (
      c.requires.last.has,
      λ i.
          let there = subst (λ (xs : List Entry). In (neg_ℤ c.args.last) (trues xs)) c.back_to-2.ensures.entries i in
          let high = c.level_of-level.ensures.first (c.level_of-level.result - 1) (subst (λ (m : ℤ). In m (trues (keep (c.level_of-level.result - 1) es))) (sym c.negated.ensures) there) in
          omega (arith, high, c.if-level-eq0.false),
    )

pub returns-clause-entries : goal.returns-clause-entries
returns-clause-entries c =
    let es = c.args.trail.now.entries in
    let is = c.back_to-2.ensures.entries in
    let exact = top-keep_exact (c.level_of-level.result - 1) es (omega (arith, c.level_of-level.ensures.within)) in
    is ∙ ap (λ (n : ℕ). keep n es) (sym (ap top is ∙ exact))

pub returns-clause-kept : goal.returns-clause-kept
returns-clause-kept c = c.back_to-2.ensures.kept

pub returns-clause-stays : goal.returns-clause-stays
returns-clause-stays c =
    let es = c.args.trail.now.entries in
    let level = c.level_of-level.result in
    let there : In (neg_ℤ c.args.last) (trues (keep level es)) = subst (λ (m : ℤ). In m (trues (keep level es))) c.negated.ensures (c.level_of-level.ensures.there level (omega arith)) in
    subst (λ (xs : List Entry). StaysWhereOpen es xs c.args.lits.now) (sym c.back_to-2.ensures.entries)
    (back_stays es c.args.lits.now level (level - 1) (last_all es c.args.lits.now c.args.last level c.requires.last there) (omega arith))
