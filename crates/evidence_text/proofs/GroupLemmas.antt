-- Witnesses and refutations, group by group, as a loop reads them.
use Rattle.std.proofs.Common.{◌≡◌, ℕ, ◌+◌, ◌<◌, Bool, List, [], ◌∷◌, ◌++◌, length, drop, get_or, Result, Ok, Err, refl, sym, subst, ◌∙◌, ap, append_assoc, add-one, drop-cons}
use Rattle.std.proofs.lemmas.List.{append-nil}
use Rattle.std.proofs.Math.Seq.{drop-length}
use Rattle.evidence_rec.specs.declared.record.Refutation.{Refutation}
use Rattle.evidence_text.specs.declared.offence.Offence.{Offence}
use Rattle.evidence_text.specs.declared.offence.Stop.{Stop}
use Rattle.evidence_text.specs.declared.offence.Stop.TheVariants as stop
use Rattle.evidence_text.specs.declared.version.Version.{Version}
use Rattle.evidence_text.specs.Reading.{◌>>=◌, Below, witness_line_at, witnesses_at, refutation_at, refutations_at}
use Rattle.std.proofs.lemmas.Bool.{false≢true}
use Rattle.std.specs.Result.{IsErr, IsErrAnd}
use Rattle.evidence_text.specs.Cursors.{Stops, Gives}

-- what was read before, and what is still read
abbrev pub after_front : {X : Type 0} → List X → Result (List X × Below) Offence → Result (List X × Below) Offence
after_front front read = read >>= λ rest. Ok (front ++ rest.0, rest.1)

after_front-one : {X : Type 0} (front : List X) (x : X) (read : Result (List X × Below) Offence)
    → after_front front (read >>= λ rest. Ok (x ∷ rest.0, rest.1)) ≡ after_front (front ++ x ∷ []) read
after_front-one front x (Ok rest) = ap (λ xs. Ok (xs, rest.1)) (sym (append_assoc front (x ∷ []) rest.0))
after_front-one front x (Err o) = refl

drop-at : (groups : List ℕ) (i : ℕ) → i < length groups → drop i groups ≡ get_or groups i 0 ∷ drop (i + 1) groups
drop-at groups i h = rw (add-one, drop-cons groups i 0)

pub witnesses-goes : (vars : ℕ) (groups : List ℕ) (i : ℕ) (front : List (List Bool)) (w : List Bool) (old new : Below) (total : Result (List (List Bool) × Below) Offence)
    → i < length groups → witness_line_at vars (get_or groups i 0) old.at old.lines ≡ Ok (w, new)
    → after_front front (witnesses_at vars (drop i groups) old.at old.lines) ≡ total
    → after_front (front ++ w ∷ []) (witnesses_at vars (drop (i + 1) groups) new.at new.lines) ≡ total
unfolding witnesses_at
witnesses-goes vars groups i front w old new total h read so_far =
    sym (after_front-one front w (witnesses_at vars (drop (i + 1) groups) new.at new.lines))
    ∙ sym (ap (λ gs. after_front front (witnesses_at vars gs old.at old.lines)) (drop-at groups i h)
    ∙ ap (λ r. after_front front (r >>= λ w. witnesses_at vars (drop (i + 1) groups) w.1.at w.1.lines >>= λ ws. Ok (w.0 ∷ ws.0, ws.1))) read)
    ∙ so_far

pub witnesses-stop : (vars : ℕ) (groups : List ℕ) (i : ℕ) (front : List (List Bool)) (s : Stop) (old : Below) (total : Result (List (List Bool) × Below) Offence)
    → i < length groups → Stops s (witness_line_at vars (get_or groups i 0) old.at old.lines)
    → after_front front (witnesses_at vars (drop i groups) old.at old.lines) ≡ total → Stops s total
unfolding witnesses_at
witnesses-stop vars groups i front (stop.Refused o) old total h e so_far =
    sym so_far
    ∙ ap (λ gs. after_front front (witnesses_at vars gs old.at old.lines)) (drop-at groups i h)
    ∙ ap (λ r. after_front front (r >>= λ w. witnesses_at vars (drop (i + 1) groups) w.1.at w.1.lines >>= λ ws. Ok (w.0 ∷ ws.0, ws.1))) e
witnesses-stop vars groups i front stop.Memory old total h e so_far = tt

pub witnesses-end : (vars : ℕ) (groups : List ℕ) (i : ℕ) (front : List (List Bool)) (left : Below) (total : Result (List (List Bool) × Below) Offence)
    → i ≡ length groups → after_front front (witnesses_at vars (drop i groups) left.at left.lines) ≡ total → total ≡ Ok (front, left)
unfolding witnesses_at
witnesses-end vars groups i front left total all so_far =
    sym so_far
    ∙ ap (λ gs. after_front front (witnesses_at vars gs left.at left.lines)) (ap (λ n. drop n groups) all ∙ drop-length groups)
    ∙ ap (λ xs. Ok (xs, left)) (append-nil front)

pub refutations-goes : (version : Version) (vars : ℕ) (groups : List ℕ) (i : ℕ) (front : List Refutation) (r : Refutation) (old new : Below) (total : Result (List Refutation × Below) Offence)
    → i < length groups → refutation_at version vars (get_or groups i 0) old.at old.lines ≡ Ok (r, new)
    → after_front front (refutations_at version vars (drop i groups) old.at old.lines) ≡ total
    → after_front (front ++ r ∷ []) (refutations_at version vars (drop (i + 1) groups) new.at new.lines) ≡ total
unfolding refutations_at
refutations-goes version vars groups i front r old new total h read so_far =
    sym (after_front-one front r (refutations_at version vars (drop (i + 1) groups) new.at new.lines))
    ∙ sym (ap (λ gs. after_front front (refutations_at version vars gs old.at old.lines)) (drop-at groups i h)
    ∙ ap (λ q. after_front front (q >>= λ r. refutations_at version vars (drop (i + 1) groups) r.1.at r.1.lines >>= λ rs. Ok (r.0 ∷ rs.0, rs.1))) read)
    ∙ so_far

pub refutations-stop : (version : Version) (vars : ℕ) (groups : List ℕ) (i : ℕ) (front : List Refutation) (s : Stop) (old : Below) (total : Result (List Refutation × Below) Offence)
    → i < length groups → Stops s (refutation_at version vars (get_or groups i 0) old.at old.lines)
    → after_front front (refutations_at version vars (drop i groups) old.at old.lines) ≡ total → Stops s total
unfolding refutations_at
refutations-stop version vars groups i front (stop.Refused o) old total h e so_far =
    sym so_far
    ∙ ap (λ gs. after_front front (refutations_at version vars gs old.at old.lines)) (drop-at groups i h)
    ∙ ap (λ q. after_front front (q >>= λ r. refutations_at version vars (drop (i + 1) groups) r.1.at r.1.lines >>= λ rs. Ok (r.0 ∷ rs.0, rs.1))) e
refutations-stop version vars groups i front stop.Memory old total h e so_far = tt

pub refutations-end : (version : Version) (vars : ℕ) (groups : List ℕ) (i : ℕ) (front : List Refutation) (left : Below) (total : Result (List Refutation × Below) Offence)
    → i ≡ length groups → after_front front (refutations_at version vars (drop i groups) left.at left.lines) ≡ total → total ≡ Ok (front, left)
unfolding refutations_at
refutations-end version vars groups i front left total all so_far =
    sym so_far
    ∙ ap (λ gs. after_front front (refutations_at version vars gs left.at left.lines)) (ap (λ n. drop n groups) all ∙ drop-length groups)
    ∙ ap (λ xs. Ok (xs, left)) (append-nil front)

-- a stop that is handed on tells the same
pub stopped : {X Y : Type 0} (view : X → Y) (result : Result X Stop) (s : Stop) (left : Below) (read : Result (Y × Below) Offence)
    → IsErr result → IsErrAnd result (λ t. t ≡ s) → Stops s read → Gives view result left read
stopped view (Ok x) s left read err is h = absurd (false≢true err)
stopped view (Err t) s left read err is h = subst (λ u. Stops u read) (sym is) h
