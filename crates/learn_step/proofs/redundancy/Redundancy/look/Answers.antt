use Rattle.std.proofs.Common.{arith, subst, sym, ℕ}
use Rattle.std.specs.Prelude.{ℤ, pos}
use Rattle.sat_base.specs.Members.{In}
use Rattle.sat_base.specs.Units.{HasValue}
use Rattle.sat_base.proofs.DatabaseLemmas.{get_in}
use Rattle.trail_book.specs.Trail.{trues}
use Rattle.learn_step.specs.Places.{HaveValues}
use Rattle.learn_step.proofs.PlaceLemmas.{var_value}
use Rattle.learn_step.proofs.RedundancyLemmas.{may_look}
use Rattle.learn_step.proofs.redundancy.Redundancy.look.Goals as goal

-- what forced the value is a clause of the store
pub lits-lits-requires : goal.lits-lits-requires
lits-lits-requires c = (may_look c.args.store.now.clauses c.args.trail.now.entries c.args.stop c.requires.reasoned c.requires.stop).is_id

-- whose literals have values
pub place-place-requires : goal.place-place-requires
place-place-requires c =
    let db = c.args.store.now.clauses in
    let es = c.args.trail.now.entries in
    let l = c.index-lits-at.result in
    let values = subst (HaveValues (trues es)) (sym c.lits-lits.ensures.lits) (may_look db es c.args.stop c.requires.reasoned c.requires.stop).values in
    let here : In l c.lits-lits.result.now =
    subst (λ (m : ℤ). In m c.lits-lits.result.now) (sym c.index-lits-at.is) (get_in c.lits-lits.result.now c.loop-at.at l (omega arith)) in
    subst (λ (v : ℕ). HasValue (trues es) (pos v)) (sym c.var.ensures.same) (var_value (trues es) l (values l here))
