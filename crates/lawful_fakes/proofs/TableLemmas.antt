-- What a table shows.
use Rattle.std.proofs.Common.{◌≡◌, ◌∙◌, ℕ, ◌+◌, true, List, [], ◌∷◌, ◌++◌, take, Some, ap, arith}
use Rattle.std.specs.Prelude.{ℤ, slice_get}
use Rattle.std.proofs.lemmas.List.{length-map, get_or-map, take_more}
use Rattle.std.proofs.lemmas.Option.{slice_get_within, get_or_from_slice_get}
use Rattle.sat_base.specs.Derivation.{Derivation}
use Rattle.gm_base.specs.declared.clause.Clause.{Clause}
use Rattle.gm_base.specs.Problem.{Problem, IsProblem, Sat}
use Rattle.gm_base.specs.Evidence.{with_selector, selector_form}
use Rattle.gm_base.specs.Sets.{IsGroupSet, IsSubset}
use Rattle.gm_base.specs.Evidence.{refutes}
use Rattle.gm_base.proofs.EvidenceLemmas.{refutes-sound}
use Rattle.evidence_rec.proofs.RefutesLemmas.{refutes-subset}
use Rattle.lawful_fakes.specs.Table.{IsRefutation}

-- one clause more with its selector
pub selectors_more : (p : Problem) (at : ℕ) (c : Clause) → slice_get p.clauses at ≡ Some c
    → take (at + 1) (selector_form p) ≡ take at (selector_form p) ++ with_selector p c ∷ []
selectors_more p at c is =
    let lt = slice_get_within p.clauses at c is in
    take_more (selector_form p) at (with_selector p c) (omega (arith, lt, length-map p.clauses (with_selector p)))
    ∙ ap (λ (lits : List ℤ). take at (selector_form p) ++ lits ∷ [])
    (get_or-map (with_selector p) p.clauses at c (with_selector p c) lt ∙ ap (with_selector p) (get_or_from_slice_get p.clauses at c c is))

-- what is refuted can't be satisfied
pub refuted_unsat : (p : Problem) (set part : List ℕ) (proof : Derivation) → IsProblem p → IsRefutation p set part proof → ¬ Sat p part
refuted_unsat p set part proof ok r = refutes-sound p part proof ok r.is_set r.refuted

pub refuted_part : (p : Problem) (set part : List ℕ) (proof : Derivation) → IsGroupSet part → IsSubset part set
    → refutes p part proof ≡ true → IsRefutation p set part proof
refuted_part p set part proof is_set within refuted = record { is_set = is_set; within = within; refuted = refuted }

-- what refutes a part refutes the whole
pub refuted_whole : (p : Problem) (set part : List ℕ) (proof : Derivation) → IsGroupSet set → IsSubset part set
    → refutes p part proof ≡ true → IsRefutation p set set proof
refuted_whole p set part proof is_set within refuted =
    record { is_set = is_set; within = λ g h. h; refuted = refutes-subset p part set proof within refuted }
