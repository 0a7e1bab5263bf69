-- What a crash may leave after the calls of a disk in memory, one call after the other: that it is lawful.
use Rattle.std.proofs.Common.{◌≡◌, ◌⊎◌, inl, inr, ℕ, ◌+◌, ◌-◌, ◌≤◌, List, [], ◌∷◌, ◌++◌, length, take, drop, refl, sym, ◌∙◌, ap, subst, arith, append_assoc, length-append, length-take, length-drop}
use Rattle.std.proofs.lemmas.List.{take_at, drop_at, take_all, drop_all, take-append-le, length-take-le, take-take, append-nil, length_push}
use Rattle.std.proofs.lemmas.Bool.{cases_lt}
use Rattle.gm_ports.specs.DiskState.{IsLawful, Elapses, Torn, written}
use Rattle.gm_ports.specs.MemDisk.{Change, Wrote, Synced, Nothing, moved, loosened, text_after, outcomes_after, MayLeave, LeftSince, MemDiskState, disk_state}

-- ---- one call more

pub text_after-push : (text : List ℕ) (xs : List Change) (x : Change) → text_after text (xs ++ x ∷ []) ≡ moved x (text_after text xs)
text_after-push text [] x = refl
text_after-push text (y ∷ ys) x = text_after-push (moved y text) ys x

pub outcomes_after-push : (outcomes : List ℕ → Type 0) (text : List ℕ) (xs : List Change) (x : Change)
    → outcomes_after outcomes text (xs ++ x ∷ []) ≡ loosened x (text_after text xs) (outcomes_after outcomes text xs)
outcomes_after-push outcomes text [] x = refl
outcomes_after-push outcomes text (y ∷ ys) x = outcomes_after-push (loosened y text outcomes) (moved y text) ys x

-- ---- what is written is one of the outcomes of writing it

pub Torn-written : (text : List ℕ) (at : ℕ) (piece : List ℕ) → Torn at (length piece) text (written text at piece)
Torn-written text at piece = elim (cases_lt (length text) at) [
  | inl past ↦
      let whole : take at text ≡ text = take_all at text (omega arith) in
      let none : drop (at + length piece) text ≡ [] = drop_all (at + length piece) text (omega arith) in
      let is : written text at piece ≡ text ++ piece = (λ i. (whole i ++ piece) ++ none i) ∙ append-nil (text ++ piece) in
      let long : length (written text at piece) ≡ length text + length piece = ap length is ∙ length-append text piece in
      let front : take (length text) (written text at piece) ≡ text = ap (λ (l : List ℕ). take (length text) l) is ∙ take_at text piece (length text) refl in
      record {
        no_shorter = omega arith;
        before = ap (λ (l : List ℕ). take at l) front;
        after = ap (λ (l : List ℕ). drop (at + length piece) l) front;
      }
  | inr within ↦
      let size : length (take at text) ≡ at = length-take-le at text within in
      let rest = drop (at + length piece) text in
      let split : written text at piece ≡ take at text ++ (piece ++ rest) = append_assoc (take at text) piece rest in
      let front : length (take at text ++ piece) ≡ at + length piece = omega (arith, length-append (take at text) piece) in
      let left : length rest ≡ length text - (at + length piece) = length-drop (at + length piece) text in
      let long : length (written text at piece) ≡ at + length piece + length rest = length-append (take at text ++ piece) rest ∙ omega arith in
      record {
        no_shorter = omega arith;
        before = take-take at (length text) (written text at piece) within ∙ ap (λ (l : List ℕ). take at l) split ∙ take_at (take at text) (piece ++ rest) at size;
        after = elim (cases_lt (at + length piece) (length text)) [
          | inl inside ↦ ap (λ (l : List ℕ). drop (at + length piece) l) (take_all (length text) (written text at piece) (omega arith)) ∙ drop_at (take at text ++ piece) rest (at + length piece) front
          | inr beyond ↦
              drop_all (at + length piece) (take (length text) (written text at piece)) (omega (arith, length-take (length text) (written text at piece)))
              ∙ sym (drop_all (at + length piece) text beyond)
        ];
      }
]

-- a write past the end makes the text longer by no more than its bytes
pub length-written : (text : List ℕ) (at : ℕ) (piece : List ℕ) → length (written text at piece) ≤ length text + length piece
length-written text at piece =
    omega (arith, length-append (take at text ++ piece) (drop (at + length piece) text), length-append (take at text) piece, length-take at text, length-drop (at + length piece) text)

-- so a crash may leave the disk as it reads
as_read_after : (outcomes : List ℕ → Type 0) (text : List ℕ) (xs : List Change) → outcomes text → outcomes_after outcomes text xs (text_after text xs)
as_read_after outcomes text [] here = here
as_read_after outcomes text (Wrote at piece ∷ xs) here =
    as_read_after (loosened (Wrote at piece) text outcomes) (written text at piece) xs (text, here, Torn-written text at piece)
as_read_after outcomes text (Synced ∷ xs) here = as_read_after (λ c. c ≡ text) text xs refl
as_read_after outcomes text (Nothing ∷ xs) here = as_read_after outcomes text xs here

-- ---- moments

pub lawful : (s : MemDiskState) → IsLawful (disk_state s)
lawful s = record {
  as_read = as_read_after (λ c. c ≡ s.first) s.first s.changes refl;
  counts_now = λ t c le now. record {
    calls = length s.changes;
    since = le;
    until = omega arith;
    left = subst (λ (l : List Change). MayLeave s.first l c) (sym (take_all (length s.changes) s.changes (omega arith))) now;
  };
  only_now = λ c left.
      let all : length s.changes ≤ left.calls = left.since in
      subst (λ (l : List Change). MayLeave s.first l c) (take_all left.calls s.changes all) left.left;
  ordered = λ t u c le left.
      let since : u ≤ left.calls = left.since in
      record { calls = left.calls; since = omega arith; until = left.until; left = left.left };
  named = refl;
}

pub Elapses-none : (s t : MemDiskState) → t.first ≡ s.first → t.changes ≡ s.changes → Elapses (disk_state s) (disk_state t)
Elapses-none s t first_is changes_are = record {
  later = omega (arith, ap length changes_are);
  nothing_else = λ u c le left. inl (subst (λ (l : List Change). LeftSince s.first l u c) changes_are (subst (λ (l : List ℕ). LeftSince l t.changes u c) first_is left));
  keeps = λ u c le left. subst (λ (l : List Change). LeftSince t.first l u c) (sym changes_are) (subst (λ (l : List ℕ). LeftSince l s.changes u c) (sym first_is) left);
}

module _ (first : List ℕ) (changes : List Change) (x : Change) where
  later_left : (u : ℕ) (c : List ℕ) → LeftSince first (changes ++ x ∷ []) u c → LeftSince first changes u c ⊎ MayLeave first (changes ++ x ∷ []) c
  later_left u c left = elim (cases_lt (length changes) left.calls) [
    | inl last ↦ inr (subst (λ (l : List Change). MayLeave first l c) (take_all left.calls (changes ++ x ∷ []) (omega (arith, length_push changes x))) left.left)
    | inr before ↦ inl (record {
      calls = left.calls;
      since = left.since;
      until = before;
      left = subst (λ (l : List Change). MayLeave first l c) (take-append-le left.calls changes (x ∷ []) before) left.left;
    })
  ]

  sooner_left : (u : ℕ) (c : List ℕ) → LeftSince first changes u c → LeftSince first (changes ++ x ∷ []) u c
  sooner_left u c left = record {
    calls = left.calls;
    since = left.since;
    until = omega (arith, left.until, length_push changes x);
    left = subst (λ (l : List Change). MayLeave first l c) (sym (take-append-le left.calls changes (x ∷ []) left.until)) left.left;
  }

pub Elapses-call : (s t : MemDiskState) (x : Change) → t.first ≡ s.first → t.changes ≡ s.changes ++ x ∷ [] → Elapses (disk_state s) (disk_state t)
Elapses-call s t x first_is changes_are = record {
  later = omega (arith, ap length changes_are, length_push s.changes x);
  nothing_else = λ u c le left.
      let moved_left = subst (λ (l : List Change). LeftSince s.first l u c) changes_are (subst (λ (l : List ℕ). LeftSince l t.changes u c) first_is left) in
      elim (later_left s.first s.changes x u c moved_left) [
        | inl was ↦ inl was
        | inr now ↦ inr (subst (λ (l : List Change). MayLeave t.first l c) (sym changes_are) (subst (λ (l : List ℕ). MayLeave l (s.changes ++ x ∷ []) c) (sym first_is) now))
      ];
  keeps = λ u c le left.
      subst (λ (l : List Change). LeftSince t.first l u c) (sym changes_are) (subst (λ (l : List ℕ). LeftSince l (s.changes ++ x ∷ []) u c) (sym first_is) (sooner_left s.first s.changes x u c left));
}
