use Rattle.std.proofs.Common.{◌≡◌, sym, subst, arith}
use Rattle.std.proofs.lemmas.Option.{slice_get_within}
use Rattle.sat_base.specs.Literals.{var_of}
use Rattle.sat_base.specs.Members.{In}
use Rattle.model_flips.specs.Rotation.{listed}
use Rattle.model_flips.proofs.RotationLemmas.{AreListed-next}
use Rattle.model_flips.proofs.rotation.Rotation.new.Goals as goal

-- each clause was listed
pub returns : goal.returns
returns c = λ at clause lit there i.
    c.loop-at.invariant.each at clause lit (omega (arith, slice_get_within c.args.problem.now.clauses at clause there, c.loop-at-test.false, c.len-at-end.ensures)) there i

pub loop-at-preserved : goal.loop-at-preserved
loop-at-preserved c =
    let clause = c.clause.result.now in
    let new = c.list_clause.new.places.items in
    let place : c.in-Ok.place ≡ c.loop-at.at = omega (arith, c.in-Ok.ensures) in
    AreListed-next c.args.problem.now.clauses c.loop-at.at c.vars-vars.result c.loop-at.places.items new clause c.loop-at.invariant c.clause.ensures.same
    c.in_ok-list_clause.ensures.rows c.in_ok-list_clause.ensures.keeps
    (λ lit i.
    subst (λ k. In k (listed new (var_of lit))) place
    (c.in_ok-list_clause.ensures.lists lit (subst (In lit) (sym c.as_slice-lits.ensures) i)))
