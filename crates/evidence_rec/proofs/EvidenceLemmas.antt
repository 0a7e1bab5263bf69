-- Lemmas on witnesses, and on lists of evidence.
use Rattle.std.proofs.Common.{◌≡◌, ℕ, Bool, true, List, [], ◌∷◌, ◌++◌, length, refl, arith, eqb}
use Rattle.std.proofs.lemmas.Bool.{false≢true, and_parts, and_from, eqb-true}
use Rattle.gm_base.specs.Sets.{IsSubset}
use Rattle.gm_base.specs.Problem.{Problem, Sat, satisfies}
use Rattle.gm_base.specs.Evidence.{is_witness, each_passes}
use Rattle.gm_base.proofs.SatLemmas.{satisfies-subset}

-- a witness serves smaller sets
pub is_witness-subset : (p : Problem) (small large : List ℕ) (w : List Bool) → IsSubset small large → is_witness p large w ≡ true → is_witness p small w ≡ true
is_witness-subset p small large w sub h =
    let parts = and_parts (eqb (length w) p.vars) (satisfies p large w) h in
    and_from (eqb (length w) p.vars) (satisfies p small w) parts.0 (satisfies-subset p small large w sub parts.1)

pub Sat-from_witness : (p : Problem) (set : List ℕ) (w : List Bool) → is_witness p set w ≡ true → Sat p set
Sat-from_witness p set w h =
    let parts = and_parts (eqb (length w) p.vars) (satisfies p set w) h in
    (w, eqb-true (length w) p.vars parts.0, parts.1)

-- one group more, with its item
pub each_passes-push : {X : Type 0} (test : ℕ → X → Bool) (gs : List ℕ) (xs : List X) (g : ℕ) (x : X) → each_passes test gs xs ≡ true → test g x ≡ true
    → each_passes test (gs ++ g ∷ []) (xs ++ x ∷ []) ≡ true
each_passes-push test [] [] g x h ok = and_from (test g x) true ok refl
each_passes-push test [] (y ∷ ys) g x h ok = absurd (false≢true h)
each_passes-push test (k ∷ ks) [] g x h ok = absurd (false≢true h)
each_passes-push test (k ∷ ks) (y ∷ ys) g x h ok =
    let parts = and_parts (test k y) (each_passes test ks ys) h in
    and_from (test k y) (each_passes test (ks ++ g ∷ []) (ys ++ x ∷ [])) parts.0 (each_passes-push test ks ys g x parts.1 ok)

pub length-each_passes : {X : Type 0} (test : ℕ → X → Bool) (gs : List ℕ) (xs : List X) → each_passes test gs xs ≡ true → length xs ≡ length gs
length-each_passes test [] [] h = refl
length-each_passes test [] (x ∷ xs) h = absurd (false≢true h)
length-each_passes test (g ∷ gs) [] h = absurd (false≢true h)
length-each_passes test (g ∷ gs) (x ∷ xs) h =
    let rest : length xs ≡ length gs = length-each_passes test gs xs (and_parts (test g x) (each_passes test gs xs) h).1 in omega arith
