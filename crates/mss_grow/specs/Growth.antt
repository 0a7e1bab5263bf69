-- Growing sets: the groups passed are settled, and each of them is in the set at hand or left out.
use Rattle.std.specs.Prelude.{◌≡◌, ℕ, Bool, true, false, not, List, [], ◌∷◌, ◌++◌, Option, Some, None}
use Rattle.std.specs.List.{filter}
use Rattle.gm_base.specs.Sets.{IsSubset, has}
use Rattle.gm_base.specs.Problem.{Problem}
use Rattle.gm_base.specs.Evidence.{refutes, is_witness, each_passes}
use Rattle.evidence_rec.specs.declared.record.Refutation.{Refutation}
use Rattle.evidence_rec.specs.declared.record.Refutation.TheVariants.{Steps, Earlier}
use Rattle.evidence_rec.specs.Asking.{OracleState, IsDryAt}
use Rattle.mss_grow.specs.declared.growth.Growth.{Growth}

-- those of the groups that are not in the set
abbrev pub left_out : List ℕ → List ℕ → List ℕ
left_out set gs = filter (λ g. not (has set g)) gs

-- a derivation that the set can't be satisfied; the number of an earlier record is none
abbrev pub is_derivation_of : Problem → List ℕ → Refutation → Bool
is_derivation_of p set (Steps d) = refutes p set d
is_derivation_of p set (Earlier i) = false

-- the set at hand has all groups of the given one, and else only groups passed; the assignment satisfies it, and each
-- group that was left out has a proof that it does not go together with it
pub record IsGrowth (p : Problem) (set passed : List ℕ) (growth : Growth) : Type 0 where
  pub given : IsSubset set growth.set
  pub within : IsSubset growth.set (set ++ passed)
  pub witnessed : is_witness p growth.set growth.witness ≡ true
  pub refuted : each_passes (λ g r. is_derivation_of p (g ∷ growth.set) r) (left_out growth.set passed) growth.proofs ≡ true

-- one group more is settled, which was in neither; or the purse was empty
abbrev pub TellsSettled : OracleState → Growth → ℕ → Growth → ℕ → Option (List ℕ) → Type 0
TellsSettled o old g new left None =
    (set passed : List ℕ) → has set g ≡ false → has passed g ≡ false → IsGrowth o.problem set passed old → IsGrowth o.problem set (passed ++ g ∷ []) new
TellsSettled o old g new left (Some asked) = IsDryAt o asked left
