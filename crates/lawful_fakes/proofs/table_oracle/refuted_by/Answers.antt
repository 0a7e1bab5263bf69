use Rattle.std.proofs.Common.{◌≡◌, List, ℕ, subst, sym}
use Rattle.sat_base.specs.Derivation.{Derivation}
use Rattle.gm_base.specs.Sets.{IsSubset}
use Rattle.evidence_rec.specs.Records.{IsAcceptedAlone}
use Rattle.lawful_fakes.specs.Table.{IsRefutation}
use Rattle.lawful_fakes.proofs.TableLemmas.{refuted_part, refuted_whole}
use Rattle.lawful_fakes.proofs.table_oracle.refuted_by.Goals as goal
use Rattle.lawful_fakes.proofs.table_oracle.refuted_by.Goals.{then-whole, else-whole}

-- the conflict is refuted, and so is each set that holds it
pub returns-in_ok-copy-in-Conflict-2 : goal.returns-in_ok-copy-in-Conflict-2
returns-in_ok-copy-in-Conflict-2 c =
    let p = c.args.problem.now in
    let set = c.args.set.now in
    let conflict = c.in-Conflict.conflict in
    let proof = c.in-Conflict.proof in
    let accepted = subst (IsAcceptedAlone p) c.in-Conflict.is c.requires in
    let within : IsSubset conflict set = c.is_subset.ensures.0 (let inside = c.if-not-is_subset.false in cc) in
    let core : IsRefutation p set c.if-whole.core.now proof =
    elim c.if-whole.branch [
      | then-whole w ↦
          let same : c.if-whole.core.now ≡ set = cc in
          subst (λ (s : List ℕ). IsRefutation p set s proof) (sym same)
          (refuted_whole p set conflict proof c.as_slice-groups.ensures.ascends within accepted.accepts.refuted)
      | else-whole w ↦
          let same : c.if-whole.core.now ≡ conflict = cc in
          subst (λ (s : List ℕ). IsRefutation p set s proof) (sym same)
          (refuted_part p set conflict proof accepted.accepts.is_set within accepted.accepts.refuted)
    ] in
    subst (λ (d : Derivation). IsRefutation p set c.in_ok-copy-in-Conflict.field-0 d) (sym c.in_ok-copy-in-Conflict-2.ensures)
    (subst (λ (s : List ℕ). IsRefutation p set s proof) (sym c.in_ok-copy-in-Conflict.ensures) core)
