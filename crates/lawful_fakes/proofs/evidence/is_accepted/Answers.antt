use Rattle.std.proofs.Common.{◌≡◌, List, ℕ, true, subst}
use Rattle.gm_base.specs.Sets.{has, IsSubset, all_groups}
use Rattle.evidence_rec.specs.declared.record.Record.{Record}
use Rattle.evidence_rec.specs.Records.{Accepts}
use Rattle.gm_base.proofs.SetLemmas.{has-complement-parts}
use Rattle.lawful_fakes.proofs.evidence.is_accepted.Goals as goal

pub returns : goal.returns
returns c = λ t.
    let p = c.args.problem.now in
    let sub : c.is_subset.result ≡ true = (let inside = c.if-not-is_subset.false in cc) in
    let within : IsSubset c.set.result.now (all_groups p.groups) =
    λ g h.
    subst (λ (n : ℕ). has (all_groups n) g ≡ true) c.groups.ensures.count
    (has-complement-parts c.groups.result c.new.result g
    (subst (λ (s : List ℕ). has s g ≡ true) c.in_ok-all.ensures (c.is_subset.ensures.0 sub g h))).1 in
    record {
      within = subst (λ (s : List ℕ). IsSubset s (all_groups p.groups)) c.set.ensures within;
      accepts = subst (λ (rs : List Record). Accepts p rs c.args.record.now) c.new-none.ensures (c.in_ok-verdict.ensures.accepts.0 (c.is_ok.ensures.0 t));
    }
