-- How many seats have not ended, with one entry more.
use Rattle.std.proofs.Common.{◌≡◌, ◌≢◌, ℕ, zero, suc, ◌+◌, ◌<◌, ◌≤◌, ◌==◌, Bool, true, false, cond, ◌||◌, List, [], ◌∷◌, ◌++◌, refl, ap, ◌∙◌, subst, arith, append-nil, eq-eqb, ne_eqb}
use Rattle.std.proofs.lemmas.List.Elements.{filter-append}
use Rattle.std.proofs.lemmas.List.Folds.{list_any-append}
use mathlib.Core.Logic.{dite}
use native.Mathlib.Decide.{ℕ_discrete}
use Rattle.turn_lock.specs.Calls.{calls_by}
use Rattle.gm_journal.specs.Entries.{EntryView, who_of}
use Rattle.gm_journal.specs.Histories.{is_want, has_ended}
use Rattle.gm_journal.specs.Rooms.{left_at, seats_left}

abbrev one_or_none : Bool → ℕ
one_or_none b = cond b 0 1

cond_most : (b : Bool) → one_or_none b ≤ 1
cond_most true = omega arith
cond_most false = omega arith

pub seats_left-most : (n : ℕ) (es : List EntryView) → seats_left n es ≤ n
seats_left-most zero es = omega arith
seats_left-most (suc n) es = omega (arith, seats_left-most n es, cond_most (has_ended (calls_by who_of n es)))

-- an entry is none of another seat's
other_calls : (es : List EntryView) (e : EntryView) (k : ℕ) → e.who ≢ k → calls_by who_of k (es ++ e ∷ []) ≡ calls_by who_of k es
other_calls es e k other =
    filter-append (λ (x : EntryView). x.who == k) es (e ∷ [])
    ∙ ap (λ (b : Bool). calls_by who_of k es ++ cond b (e ∷ []) []) (ne_eqb e.who k other)
    ∙ append-nil (calls_by who_of k es)

own_calls : (es : List EntryView) (e : EntryView) → calls_by who_of e.who (es ++ e ∷ []) ≡ calls_by who_of e.who es ++ e ∷ []
own_calls es e =
    filter-append (λ (x : EntryView). x.who == e.who) es (e ∷ [])
    ∙ ap (λ (b : Bool). calls_by who_of e.who es ++ cond b (e ∷ []) []) (eq-eqb e.who e.who refl)

or_last : (a b : Bool) → b ≡ true → (a || (b || false)) ≡ true
or_last true b is = refl
or_last false b is = ap (λ (c : Bool). c || false) is

-- want of memory ends its seat
ended_own : (es : List EntryView) (e : EntryView) → is_want e.reply ≡ true → has_ended (calls_by who_of e.who (es ++ e ∷ [])) ≡ true
ended_own es e want =
    ap has_ended (own_calls es e)
    ∙ list_any-append (λ (x : EntryView). is_want x.reply) (calls_by who_of e.who es) (e ∷ [])
    ∙ or_last (has_ended (calls_by who_of e.who es)) (is_want e.reply) want

left_same : (n : ℕ) (es : List EntryView) (e : EntryView) → n ≤ e.who → seats_left n (es ++ e ∷ []) ≡ seats_left n es
left_same zero es e low = refl
left_same (suc n) es e low =
    let rest = left_same n es e (omega arith) in
    let last : left_at n (es ++ e ∷ []) ≡ left_at n es =
    ap (λ (l : List EntryView). one_or_none (has_ended l)) (other_calls es e n (λ same. omega arith)) in
    omega (arith, rest, last)

-- and there is one less then
pub one_less : (n : ℕ) (es : List EntryView) (e : EntryView) → e.who < n → has_ended (calls_by who_of e.who es) ≡ false → is_want e.reply ≡ true
    → seats_left n (es ++ e ∷ []) + 1 ≡ seats_left n es
one_less zero es e seat going want = absurd (omega arith)
one_less (suc n) es e seat going want =
    dite (ℕ_discrete e.who n)
    (λ here.
    let rest = left_same n es e (omega arith) in
    let was : left_at n es ≡ 1 = ap one_or_none (subst (λ (k : ℕ). has_ended (calls_by who_of k es) ≡ false) here going) in
    let now : left_at n (es ++ e ∷ []) ≡ 0 =
    ap one_or_none (subst (λ (k : ℕ). has_ended (calls_by who_of k (es ++ e ∷ [])) ≡ true) here (ended_own es e want)) in
    omega (arith, rest, was, now))
    (λ other.
    let rest = one_less n es e (omega arith) going want in
    let last : left_at n (es ++ e ∷ []) ≡ left_at n es =
    ap (λ (l : List EntryView). one_or_none (has_ended l)) (other_calls es e n other) in
    omega (arith, rest, last))
