use Rattle.std.proofs.Common.{◌≡◌, ◌∙◌, Option, true, not, sym, ap, subst}
use Rattle.std.specs.Prelude.{IfSome}
use Rattle.std.specs.List.{list_all}
use Rattle.gm_base.specs.Sets.{has}
use Rattle.model_flips.specs.declared.rotation.Turned.{Turned}
use Rattle.model_flips.specs.Rotation.{Satisfies}
use Rattle.known_sets.proofs.MemoryLemmas.{is_witness-missing}
use Rattle.known_sets.proofs.memory.Memory.repaired_at.Goals as goal

-- the set has none of the groups that are left out
pub returns-clause-witness : goal.returns-clause-witness
returns-clause-witness c = λ p right within.
    let turned = c.in_ok-out.field-0 in
    let set = c.args.set.now in
    let found = subst (λ (o : Option Turned). IfSome o (λ t. Satisfies p t.out t.assign)) c.in_ok-out.was (c.in-Ok.ensures.found p right.models right.satisfied) in
    let apart : list_all (λ g. not (has set g)) turned.out ≡ true =
    ap (list_all (λ g. not (has set g))) (sym c.as_slice.ensures.groups) ∙ sym c.misses.ensures ∙ c.if-not-misses.false in
    is_witness-missing p set turned.out turned.assign within apart found
