use Rattle.std.proofs.Common.{◌≡◌, ◌∙◌, true, sym, subst}
use Rattle.std.specs.Prelude.{All}
use Rattle.sat_base.specs.Derivation.{Derivation}
use Rattle.gm_base.specs.Sets.{with_group, IsSubset}
use Rattle.gm_base.proofs.SetLemmas.{IsSubset-from_all}
use Rattle.gm_base.specs.Evidence.{refutes}
use Rattle.known_sets.specs.declared.entry.Entry.{Entry}
use Rattle.known_sets.specs.Entries.{IsRefuted}
use Rattle.known_sets.proofs.MemoryLemmas.{All-at, IfSome-same}
use Rattle.known_sets.proofs.refuted.RefutedSets.found_with.Goals as goal

-- all its groups stand in the set with the group
pub returns-clause-within : goal.returns-clause-within
returns-clause-within c =
    let lent = c.in_ok-lent.lent in
    let more = with_group c.args.set.now c.args.group in
    let known : Entry Derivation = record { set = c.in_ok-known.known; evidence = lent.evidence.now } in
    IfSome-same (λ entry. IsSubset entry.set more) known c.with_proof.result c.with_proof.ensures
    (subst (λ s. IsSubset s more) (sym c.in_ok-known.ensures) (IsSubset-from_all lent.set.now more (sym c.are_within.ensures ∙ c.if-not-are_within.false)))

-- it is one of those that are known
pub returns-clause-refuted : goal.returns-clause-refuted
returns-clause-refuted c = λ p all.
    let lent = c.in_ok-lent.lent in
    let known : Entry Derivation = record { set = lent.set.now; evidence = lent.evidence.now } in
    IfSome-same (IsRefuted p) (record { set = c.in_ok-known.known; evidence = lent.evidence.now }) c.with_proof.result c.with_proof.ensures
    (subst (λ s. refutes p s lent.evidence.now ≡ true) (sym c.in_ok-known.ensures)
    (All-at (IsRefuted p) c.find-found.new.self c.in_ok-found.field-0 known (subst (All (IsRefuted p)) (sym c.find-found.ensures) all.sets) c.in_ok-lent.ensures))
