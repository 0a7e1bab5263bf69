-- An assignment that is written value by value over variables that are all false.
use Rattle.std.proofs.Common.{◌≡◌, ℕ, suc, ◌+◌, ◌-◌, ◌<◌, ◌≤◌, Bool, true, false, cond, List, [], ◌∷◌, ◌++◌, length, take, get_or, replicate, refl, sym, ◌∙◌, ap, ap₂, arith, append_assoc, append-nil}
use Rattle.std.specs.Prelude.{slice_set, pos}
use Rattle.sat_base.specs.Literals.{literal_true}
use Rattle.std.proofs.Math.Seq.{set-append_seam}
use Rattle.std.proofs.lemmas.List.{length-take, take_more, take_all}
use Rattle.gm_base.specs.Problem.{Problem}
use Rattle.edit_session.specs.Carried.{carried_witness}

-- none written yet
pub values-start : (w b : List Bool) (vars : ℕ) → b ≡ replicate vars false → b ≡ take 0 w ++ replicate (vars - 0) false
values-start w b vars is = is ∙ ap (λ n. replicate n false) (let same : vars ≡ vars - 0 = omega arith in same)

-- one value further
pub values-next : (w b b' : List Bool) (at vars : ℕ) → at < length w → length w ≤ vars → b ≡ take at w ++ replicate (vars - at) false
    → b' ≡ cond (get_or w at false) (slice_set b at true) b → b' ≡ take (at + 1) w ++ replicate (vars - (at + 1)) false
values-next w b b' at vars lt le sofar is =
    let rest = replicate (vars - (at + 1)) false in
    let more : vars - at ≡ suc (vars - (at + 1)) = omega arith in
    let long : b ≡ take at w ++ false ∷ rest = sofar ∙ ap (λ n. take at w ++ replicate n false) more in
    let len : length (take at w) ≡ at = length-take at w ∙ omega arith in
    let written : slice_set b at true ≡ take at w ++ true ∷ rest =
    ap (λ xs. slice_set xs at true) long ∙ ap (λ n. slice_set (take at w ++ false ∷ rest) n true) (sym len) ∙ set-append_seam (take at w) false rest true in
    let next : take (at + 1) w ++ rest ≡ take at w ++ get_or w at false ∷ rest =
    ap (λ xs. xs ++ rest) (take_more w at false lt) ∙ append_assoc (take at w) (get_or w at false ∷ []) rest in
    is ∙ ap₂ (cond (get_or w at false)) written long ∙ by (get_or w at false) rest ∙ sym next
  where
    by : (value : Bool) (rest : List Bool) → cond value (take at w ++ true ∷ rest) (take at w ++ false ∷ rest) ≡ take at w ++ value ∷ rest
    by true rest = refl
    by false rest = refl

pub values-end : (new : Problem) (w b : List Bool) (at : ℕ) → length w ≤ at → at ≤ length w → b ≡ take at w ++ replicate (new.vars - at) false → b ≡ carried_witness new w
values-end new w b at past upto sofar =
    let same : at ≡ length w = omega arith in
    sofar ∙ ap₂ (λ xs n. xs ++ replicate (new.vars - n) false) (take_all at w past) same

-- as many variables
pub values-same : (new : Problem) (w : List Bool) → length w ≡ new.vars → w ≡ carried_witness new w
values-same new w all =
    let none : 0 ≡ new.vars - length w = omega arith in
    sym (append-nil w) ∙ ap (λ n. w ++ replicate n false) none

-- the value of the variable behind so many
pub value_at : (w : List Bool) (at : ℕ) → literal_true w (pos (at + 1)) ≡ get_or w at false
value_at w at = let same : at + 1 - 1 ≡ at = omega arith in ap (λ i. get_or w i false) same

pub place_at : (b : List Bool) (at : ℕ) → slice_set b (at + 1 - 1) true ≡ slice_set b at true
place_at b at = let same : at + 1 - 1 ≡ at = omega arith in ap (λ i. slice_set b i true) same
