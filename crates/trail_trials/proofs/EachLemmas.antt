-- What holds of each literal of a clause, as far as it was looked at.
use Rattle.std.proofs.Common.{◌≡◌, ℕ, ◌+◌, ◌<◌, ◌≤◌, List, length, take, get_or, sym, ◌∙◌, subst, inl, inr}
use Rattle.std.specs.Prelude.{ℤ}
use Rattle.std.proofs.lemmas.List.{take_all}
use Rattle.sat_base.specs.Members.{In}
use Rattle.sat_base.proofs.DatabaseLemmas.{In-take_more}

-- what holds of each literal so far holds of one more
pub each_more : (P : ℤ → Type 0) (c : List ℤ) (i : ℕ) (x : ℤ) → i < length c → x ≡ get_or c i x → P x → ((m : ℤ) → In m (take i c) → P m)
    → (m : ℤ) → In m (take (i + 1) c) → P m
each_more P c i x h is f all m j = elim (In-take_more c i x m h j) [ inl old ↦ all m old | inr same ↦ subst P (is ∙ sym same) f ]

pub each_all : (P : ℤ → Type 0) (c : List ℤ) (i : ℕ) → length c ≤ i → ((m : ℤ) → In m (take i c) → P m) → (m : ℤ) → In m c → P m
each_all P c i h all = subst (λ (cs : List ℤ). (m : ℤ) → In m cs → P m) (take_all i c h) all
