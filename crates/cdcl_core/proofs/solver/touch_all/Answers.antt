use Rattle.std.proofs.Common.{◌⊎◌, ◌∙◌, ap, sym, subst, inl, inr, arith}
use Rattle.std.specs.Prelude.{ℤ}
use Rattle.std.proofs.lemmas.List.{take_all}
use Rattle.sat_base.specs.Members.{In}
use Rattle.sat_base.specs.Literals.{IsLiteral}
use Rattle.sat_base.proofs.DatabaseLemmas.{get_in, In-take_more}
use Rattle.trail_book.specs.Trail.{Trail, IsTouched}
use Rattle.cdcl_core.specs.State.{IsTrueBy}
use Rattle.cdcl_core.proofs.StateLemmas.{literal_at}
use Rattle.cdcl_core.proofs.solver.touch_all.Goals as goal

pub touch_against-requires : goal.touch_against-requires
touch_against-requires c =
    let lit = c.lit-item.result in
    let literal = literal_at c.args.trail.now.vars c.args.lits.now lit c.requires (subst (λ (k : ℤ). In k c.args.lits.now) (sym c.lit-item.is) (get_in c.args.lits.now c.loop-lit.lit-index lit (omega arith))) in
    subst (λ (t : Trail). IsLiteral t.vars lit) (sym c.loop-lit.invariant.rest) literal

pub loop-lit-preserved : goal.loop-lit-preserved
loop-lit-preserved c =
    let lit = c.lit-item.result in
    let inv = c.loop-lit.invariant in
    let e = c.touch_against.ensures in
    let new = c.touch_against.new.trail in
    record {
      touched = λ l i. elim (In-take_more c.args.lits.now c.loop-lit.lit-index lit l (omega arith) i) [
        | inl before ↦ elim (inv.touched l before) [ inl t ↦ inl (e.stay l t) | inr free ↦ inr free ]
        | inr same ↦ subst (λ (k : ℤ). IsTouched new.touched k ⊎ IsTrueBy c.args.default k) (c.lit-item.is ∙ sym same) e.touched
      ];
      stay = λ l t. e.stay l (inv.stay l t);
      rest = e.rest ∙ ap (λ (t : Trail). record t { touched = new.touched }) inv.rest;
    }

pub returns-clause-touched : goal.returns-clause-touched
returns-clause-touched c = λ lit i.
    c.loop-lit.invariant.touched lit (subst (In lit) (sym (take_all c.loop-lit.lit-index c.args.lits.now (omega arith))) i)
