use Rattle.std.proofs.Common.{◌≡◌, ◌⊎◌, ℕ, true, List, Option, Some, get_or, take, sym, subst, arith}
use Rattle.std.specs.Prelude.{IfSome, slice_get}
use Rattle.std.proofs.lemmas.List.{take_more, take_all}
use Rattle.sat_base.specs.Literals.{clause_true}
use Rattle.gm_base.specs.declared.clause.Clause.{Clause}
use Rattle.gm_base.specs.Sets.{has}
use Rattle.model_flips.specs.Rotation.{HasLost}
use Rattle.model_flips.proofs.RotationLemmas.{HasLost-next}
use Rattle.model_flips.proofs.rotation.with_lost.Goals as goal

pub loop-place-init : goal.loop-place-init
loop-place-init c = record { keeps = λ g h. h; lost = λ at clause none. absurd none }

pub loop-place-preserved : goal.loop-place-preserved
loop-place-preserved c =
    let places = c.args.places.now in
    let at = c.loop-place.place-index in
    let place = get_or places at 0 in
    let out = c.loop-place.out in
    let Keeps : List ℕ → Type 0 = λ more. (g : ℕ) → has out g ≡ true → has more g ≡ true in
    let Lost : List ℕ → Type 0 = λ more. (e : Clause) → slice_get c.args.problem.now.clauses place ≡ Some e → (clause_true c.args.values.now e.lits ≡ true) ⊎ (has more e.group ≡ true) in
    subst (HasLost c.args.problem.now c.args.values.now c.args.left c.in-Some.more) (sym (take_more places at 0 (omega arith)))
    (HasLost-next c.args.problem.now c.args.values.now c.args.left out c.in-Some.more (take at places) place c.loop-place.invariant
    (subst (λ (o : Option (List ℕ)). IfSome o Keeps) c.in-Some.is c.in_ok-more.ensures.keeps)
    (subst (λ (o : Option (List ℕ)). IfSome o Lost) c.in-Some.is c.in_ok-more.ensures.lost))

pub returns : goal.returns
returns c =
    subst (HasLost c.args.problem.now c.args.values.now c.args.left c.loop-place.out) (take_all c.loop-place.place-index c.args.places.now (omega arith)) c.loop-place.invariant
