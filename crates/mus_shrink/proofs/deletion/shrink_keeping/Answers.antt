use Rattle.std.proofs.Common.{◌≡◌, true, not, length, sym, ◌∙◌, ap, subst, arith}
use Rattle.std.specs.List.{filter}
use Rattle.gm_base.specs.Sets.{IsSubset, IsGroupSet, has, all_groups}
use Rattle.gm_base.specs.Problem.{Problem, IsProblem}
use Rattle.gm_base.specs.Evidence.{refutes}
use Rattle.mus_shrink.specs.declared.candidate.Candidate.{Candidate}
use Rattle.mus_shrink.specs.Candidate.{IsCandidate}
use Rattle.mus_shrink.proofs.AskedLemmas.{parts_count}
use Rattle.mus_shrink.proofs.CandidateLemmas.{candidate-untried, candidate-tried, Merges, AcceptsConflict-from_candidates, IsShaped-from_candidates}
use Rattle.mus_shrink.proofs.deletion.shrink_keeping.Goals as goal

-- each group of the set is in one of the parts
pub returns-in_err-asked-clause-asks : goal.returns-in_err-asked-clause-asks
returns-in_err-asked-clause-asks g c =
    let parts = c.in_ok-parts.ensures in
    let count = parts_count c.args.set.now c.args.last.now c.in_ok-parts.parts.others.items c.in_ok-parts.parts.last.items parts.others parts.last in
    let first = ap length c.as_slice.ensures.value in
    let one = c.in_err-asked.ensures.asks in
    omega arith

pub returns-in-Some-clause-asks : goal.returns-in-Some-clause-asks
returns-in-Some-clause-asks g c =
    let parts = c.in_ok-parts.ensures in
    let count = parts_count c.args.set.now c.args.last.now c.in_ok-parts.parts.others.items c.in_ok-parts.parts.last.items parts.others parts.last in
    let first = ap length c.as_slice.ensures.value in
    let one = c.in_ok-asked.ensures.asks in
    omega arith

pub returns-in_err-asked-2-clause-asks : goal.returns-in_err-asked-2-clause-asks
returns-in_err-asked-2-clause-asks g c =
    let parts = c.in_ok-parts.ensures in
    let count = parts_count c.args.set.now c.args.last.now c.in_ok-parts.parts.others.items c.in_ok-parts.parts.last.items parts.others parts.last in
    let first = ap length c.as_slice.ensures.value in
    let then = ap length c.as_slice-2.ensures.value in
    let one = c.in_ok-asked.ensures.asks in
    let two = c.in_err-asked-2.ensures.asks in
    omega arith

pub returns-in-Some-2-clause-asks : goal.returns-in-Some-2-clause-asks
returns-in-Some-2-clause-asks g c =
    let parts = c.in_ok-parts.ensures in
    let count = parts_count c.args.set.now c.args.last.now c.in_ok-parts.parts.others.items c.in_ok-parts.parts.last.items parts.others parts.last in
    let first = ap length c.as_slice.ensures.value in
    let then = ap length c.as_slice-2.ensures.value in
    let one = c.in_ok-asked.ensures.asks in
    let two = c.in_ok-asked-2.ensures.asks in
    omega arith

pub returns-in_err-witnesses-clause-asks : goal.returns-in_err-witnesses-clause-asks
returns-in_err-witnesses-clause-asks g c =
    let parts = c.in_ok-parts.ensures in
    let count = parts_count c.args.set.now c.args.last.now c.in_ok-parts.parts.others.items c.in_ok-parts.parts.last.items parts.others parts.last in
    let first = ap length c.as_slice.ensures.value in
    let then = ap length c.as_slice-2.ensures.value in
    let one = c.in_ok-asked.ensures.asks in
    let two = c.in_ok-asked-2.ensures.asks in
    omega arith

pub returns-clause-asks : goal.returns-clause-asks
returns-clause-asks g c =
    let parts = c.in_ok-parts.ensures in
    let count = parts_count c.args.set.now c.args.last.now c.in_ok-parts.parts.others.items c.in_ok-parts.parts.last.items parts.others parts.last in
    let first = ap length c.as_slice.ensures.value in
    let then = ap length c.as_slice-2.ensures.value in
    let one = c.in_ok-asked.ensures.asks in
    let two = c.in_ok-asked-2.ensures.asks in
    omega arith

-- the candidate without witnesses is one of itself, of which no group was tried
pub try_groups-requires-2-clause-candidate : goal.try_groups-requires-2-clause-candidate
try_groups-requires-2-clause-candidate g c =
    let before = g.O.Oracle.state c.args.oracle.now in
    let one = g.O.Oracle.state c.try_groups.new.oracle in
    let fresh : Candidate = record { set = c.in_ok-copy.field-0; proof = c.in_ok-proof.field-0; witnesses = c.new.result } in
    let same : one.problem ≡ before.problem = c.in_ok-asked.ensures.spent.problem in
    let is_set = subst IsGroupSet (sym c.in_ok-copy.ensures) c.in_ok-parts.ensures.ascends in
    let refuted : refutes one.problem fresh.set fresh.proof ≡ true =
    subst (λ gs. refutes one.problem gs fresh.proof ≡ true) (sym c.in_ok-copy.ensures)
    (subst (λ (p : Problem). refutes p c.args.set.now fresh.proof ≡ true) (sym same) (c.in_ok-proof.ensures c.args.set.now c.requires.refuted)) in
    let first = candidate-tried one fresh c.try_groups.new.candidate c.as_slice.result.now c.try_groups.new.purse.left c.in_ok-asked.field-0
    (candidate-untried one.problem fresh is_set refuted c.new.ensures) c.in_default.is c.in_ok-asked.ensures.tried in
    candidate-untried one.problem (record c.try_groups.new.candidate { witnesses = c.replace-others.new.dest }) first.is_set first.refuted
    (c.replace-others.ensures.after ∙ c.new-2.ensures)

pub try_groups-requires-2-clause-within : goal.try_groups-requires-2-clause-within
try_groups-requires-2-clause-within g c =
    let before = g.O.Oracle.state c.args.oracle.now in
    let one = g.O.Oracle.state c.try_groups.new.oracle in
    let fresh : Candidate = record { set = c.in_ok-copy.field-0; proof = c.in_ok-proof.field-0; witnesses = c.new.result } in
    let same : one.problem ≡ before.problem = c.in_ok-asked.ensures.spent.problem in
    let is_set = subst IsGroupSet (sym c.in_ok-copy.ensures) c.in_ok-parts.ensures.ascends in
    let refuted : refutes one.problem fresh.set fresh.proof ≡ true =
    subst (λ gs. refutes one.problem gs fresh.proof ≡ true) (sym c.in_ok-copy.ensures)
    (subst (λ (p : Problem). refutes p c.args.set.now fresh.proof ≡ true) (sym same) (c.in_ok-proof.ensures c.args.set.now c.requires.refuted)) in
    let first = candidate-tried one fresh c.try_groups.new.candidate c.as_slice.result.now c.try_groups.new.purse.left c.in_ok-asked.field-0
    (candidate-untried one.problem fresh is_set refuted c.new.ensures) c.in_default.is c.in_ok-asked.ensures.tried in
    λ h i.
    subst (λ (p : Problem). IsSubset c.args.set.now (all_groups p.groups)) (c.requires.problem ∙ sym same) c.requires.within h
    (subst (λ gs. has gs h ≡ true) c.in_ok-copy.ensures (first.within h i))

-- all groups were tried
pub returns-clause-shrunk : goal.returns-clause-shrunk
returns-clause-shrunk g c =
    let before = g.O.Oracle.state c.args.oracle.now in
    let one = g.O.Oracle.state c.try_groups.new.oracle in
    let fresh : Candidate = record { set = c.in_ok-copy.field-0; proof = c.in_ok-proof.field-0; witnesses = c.new.result } in
    let same : one.problem ≡ before.problem = c.in_ok-asked.ensures.spent.problem in
    let is_set = subst IsGroupSet (sym c.in_ok-copy.ensures) c.in_ok-parts.ensures.ascends in
    let refuted : refutes one.problem fresh.set fresh.proof ≡ true =
    subst (λ gs. refutes one.problem gs fresh.proof ≡ true) (sym c.in_ok-copy.ensures)
    (subst (λ (p : Problem). refutes p c.args.set.now fresh.proof ≡ true) (sym same) (c.in_ok-proof.ensures c.args.set.now c.requires.refuted)) in
    let first = candidate-tried one fresh c.try_groups.new.candidate c.as_slice.result.now c.try_groups.new.purse.left c.in_ok-asked.field-0
    (candidate-untried one.problem fresh is_set refuted c.new.ensures) c.in_default.is c.in_ok-asked.ensures.tried in
    let two = g.O.Oracle.state c.try_groups-2.new.oracle in
    let set = c.args.set.now in
    let last = c.args.last.now in
    let then = c.try_groups-2.new.candidate in
    let again = c.in_ok-asked-2.ensures.spent.problem in
    let empty : Candidate = record c.try_groups.new.candidate { witnesses = c.replace-others.new.dest } in
    let refuted_then : refutes two.problem empty.set empty.proof ≡ true = subst (λ (p : Problem). refutes p empty.set empty.proof ≡ true) (sym again) first.refuted in
    let second = candidate-tried two empty then c.as_slice-2.result.now c.try_groups-2.new.purse.left c.in_ok-asked-2.field-0
    (candidate-untried two.problem empty first.is_set refuted_then (c.replace-others.ensures.after ∙ c.new-2.ensures)) c.in_default-2.is c.in_ok-asked-2.ensures.tried in
    let others : IsCandidate two.problem set (filter (λ k. not (has last k)) set) c.try_groups.new.candidate =
    subst (λ gs. IsCandidate two.problem set gs c.try_groups.new.candidate) (c.as_slice.ensures.value ∙ c.in_ok-parts.ensures.others)
    (subst (λ gs. IsCandidate two.problem gs c.as_slice.result.now c.try_groups.new.candidate) c.in_ok-copy.ensures
    (subst (λ (p : Problem). IsCandidate p fresh.set c.as_slice.result.now c.try_groups.new.candidate) (sym again) first)) in
    let lasts : IsCandidate two.problem c.try_groups.new.candidate.set (filter (has last) set) then =
    subst (λ gs. IsCandidate two.problem c.try_groups.new.candidate.set gs then) (c.as_slice-2.ensures.value ∙ c.in_ok-parts.ensures.last) second in
    let good : IsProblem two.problem = subst IsProblem (c.requires.problem ∙ sym same ∙ sym again) c.groups-groups.ensures.well_formed in
    let merges : Merges last then.set c.try_groups.new.candidate.witnesses then.witnesses c.in_ok-witnesses.witnesses =
    subst (λ ws. Merges last then.set ws then.witnesses c.in_ok-witnesses.witnesses) c.replace-others.ensures.value c.in_ok-witnesses.ensures in (
      λ h i. others.within h (lasts.within h i),
      IsShaped-from_candidates two.problem set last c.try_groups.new.candidate then c.in_ok-witnesses.witnesses good c.in_ok-parts.ensures.ascends others lasts merges,
      AcceptsConflict-from_candidates two.problem set last c.try_groups.new.candidate then c.in_ok-witnesses.witnesses good c.in_ok-parts.ensures.ascends others lasts merges,
    )
