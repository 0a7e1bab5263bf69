use Rattle.std.proofs.Common.{◌≡◌, ◌||◌, ◌∙◌, false, sym, ap}
use Rattle.sat_base.specs.Literals.{clause_true}
use Rattle.gm_base.specs.Sets.{has}
use Rattle.evidence_rec.proofs.witnessing.is_true_or_of.Goals as goal

-- a clause that is false passes where it is of the set
pub returns-else-makes_any_true : goal.returns-else-makes_any_true
returns-else-makes_any_true c =
    let failed : clause_true c.args.witness.now c.args.clause.now.lits ≡ false = cc in
    c.contains.ensures ∙ sym (ap (λ b. b || has c.args.set.now c.args.clause.now.group) failed)
