-- Items of a list, one after another, as a loop reads them.
use Rattle.std.proofs.Common.{◌≡◌, List, [], ◌∷◌, ◌++◌, Result, Ok, Err, refl, sym, ◌∙◌, ap, append_assoc}
use Rattle.std.proofs.lemmas.List.{append-nil}
use Rattle.lrat_check.specs.declared.why.Why.{Why}
use Rattle.evidence_text.specs.Text.{Word}
use Rattle.evidence_text.specs.Reading.{◌>>=◌}
use Rattle.evidence_text.specs.Cursors.{with_item}

-- what was read before, and what is still read
abbrev pub with_front : {X : Type 0} → List X → Result (List X × List Word) Why → Result (List X × List Word) Why
with_front front read = read >>= λ rest. Ok (front ++ rest.0, rest.1)

pub with_front-nil : {X : Type 0} (read : Result (List X × List Word) Why) → with_front [] read ≡ read
with_front-nil (Ok rest) = refl
with_front-nil (Err why) = refl

pub with_front-item : {X : Type 0} (front : List X) (x : X) (read : Result (List X × List Word) Why) → with_front front (with_item x read) ≡ with_front (front ++ x ∷ []) read
with_front-item front x (Ok rest) = ap (λ xs. Ok (xs, rest.1)) (sym (append_assoc front (x ∷ []) rest.0))
with_front-item front x (Err why) = refl

pub with_front-end : {X : Type 0} (front : List X) (left : List Word) (total read : Result (List X × List Word) Why) → with_front front read ≡ total → read ≡ Ok ([], left) → total ≡ Ok (front, left)
with_front-end front left total read so_far e =
    sym so_far ∙ ap (with_front front) e ∙ ap (λ xs. Ok (xs, left)) (append-nil front)

pub with_front-err : {X : Type 0} (front : List X) (why : Why) (total read : Result (List X × List Word) Why) → with_front front read ≡ total → read ≡ Err why → total ≡ Err why
with_front-err front why total read so_far e = sym so_far ∙ ap (with_front front) e

pub with_front-goes : {X : Type 0} (front : List X) (x : X) (total read next : Result (List X × List Word) Why) → with_front front read ≡ total → read ≡ with_item x next → with_front (front ++ x ∷ []) next ≡ total
with_front-goes front x total read next so_far e = sym (with_front-item front x next) ∙ ap (with_front front) (sym e) ∙ so_far
