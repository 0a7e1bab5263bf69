-- A tally with one entry more.
use Rattle.std.proofs.Common.{◌≡◌, ℕ, ◌+◌, ◌*◌, ◌<◌, ◌≤◌, ◌==◌, List, [], ◌∷◌, ◌++◌, length, All, refl, ap, ◌∙◌, subst, arith, eq-eqb, ne_eqb, length-append}
use Rattle.std.proofs.lemmas.List.Elements.{All-head, All-tail, All-cons, All-nil, All-append, filter-append}
use Rattle.std.proofs.lemmas.List.Sums.{sum_by-cons, sum_by_push}
use mathlib.Core.Logic.{dite}
use native.Mathlib.Decide.{ℕ_discrete}
use Rattle.turn_lock.specs.Calls.{calls_by}
use Rattle.lock_tally.specs.declared.tally.Added.{Added}
use Rattle.lock_tally.specs.Tallies.{who_of, amount_of, added_sum, SumsUp, IsLegal, may_add, IsSumOf}
use Rattle.lock_tally.proofs.Callers.{total_of-at_most, length-callers}

-- no seat has more than 100 entries, so there are at most 100 for each
all_fit : (seats : ℕ) (es : List Added) → IsLegal seats es → length es ≤ seats * 100
all_fit seats es l = let most = total_of-at_most (λ k. length (calls_by who_of k es)) 100 seats l.room in let whole = length-callers who_of seats es l.named in omega arith

sums_on : (total : ℕ) (es : List Added) (e : Added) → SumsUp total es → e.reply ≡ (total + added_sum es) + e.amount → SumsUp total (es ++ e ∷ [])
sums_on total [] e h is = (is ∙ omega arith, tt)
sums_on total (x ∷ xs) e h is =
    let sum = sum_by-cons amount_of x xs in
    let first = h.0 in
    (h.0, sums_on x.reply xs e h.1 (is ∙ omega arith))

-- an entry of a seat that had fewer than 100, with the sum for its reply
pub still_legal : (seats : ℕ) (es : List Added) (e : Added) → IsLegal seats es → may_add seats e.who e.amount (calls_by who_of e.who es) → e.reply ≡ added_sum es + e.amount → IsLegal seats (es ++ e ∷ [])
still_legal seats es e l may is = record {
  sums_up = sums_on 0 es e l.sums_up (is ∙ omega arith);
  named = All-append (λ (x : Added). x.who < seats) es (e ∷ []) l.named (All-cons (λ (x : Added). x.who < seats) e [] may.0 (All-nil (λ (x : Added). x.who < seats)));
  room = λ k.
      let parts = filter-append (λ (x : Added). x.who == k) es (e ∷ []) in
      let size = ap length parts ∙ length-append (calls_by who_of k es) (calls_by who_of k (e ∷ [])) in
      let most = l.room k in
      dite (ℕ_discrete e.who k)
      (λ y. let one : length (calls_by who_of k (e ∷ [])) ≡ 1 = rw (eq-eqb e.who k y) refl in let few = subst (λ (z : ℕ). length (calls_by who_of z es) < 100) y may.1 in omega arith)
      (λ z. let none_such : length (calls_by who_of k (e ∷ [])) ≡ 0 = rw (ne_eqb e.who k z) refl in omega arith);
}

-- so there was room for it
pub has_room : (seats : ℕ) (es : List Added) (who : ℕ) → IsLegal seats es → may_add seats who 0 (calls_by who_of who es) → length es < seats * 100
has_room seats es who l may =
    let e : Added = record { who = who; amount = 0; reply = added_sum es } in
    let fits = all_fit seats (es ++ e ∷ []) (still_legal seats es e l may (omega arith)) in
    let s = length-append es (e ∷ []) in omega arith

pub still_sum : (sum op : ℕ) (es : List Added) (e : Added) → IsSumOf sum es → op ≤ 65535 → e.amount ≡ op → IsSumOf (sum + op) (es ++ e ∷ [])
still_sum sum op es e s small is =
    let more = sum_by_push amount_of es e in
    let size = length-append es (e ∷ []) in
    let now = s.is in
    let few = s.small in
    record { is = omega arith; small = omega arith }

-- of entries that added 1 each, the sum is their number
pub sum-ones : (es : List Added) → All (λ (e : Added). e.amount ≡ 1) es → added_sum es ≡ length es
sum-ones [] h = refl
sum-ones (e ∷ es) h =
    let rest = sum-ones es (All-tail (λ (x : Added). x.amount ≡ 1) e es h) in
    let one = All-head (λ (x : Added). x.amount ≡ 1) e es h in
    let sum = sum_by-cons amount_of e es in omega arith
