-- Where no append failed, none was refused, and so no worker retired for the journal. That the seats have all appends is told
-- by closing the journal.
use Rattle.std.proofs.Common.{◌≡◌, ℕ, zero, suc, ◌<◌, Bool, true, false, ◌||◌, cond, List, [], ◌∷◌, ◌++◌, length, map, get_or, All, Option, Some, None, refl, sym, ◌∙◌, ap, arith, eqb, eq-eqb, append_assoc}
use Rattle.std.specs.List.{list_any, AllByRecursion}
use Rattle.std.proofs.lemmas.Bool.{or_from}
use Rattle.std.proofs.lemmas.List.Elements.{All-head, All-tail}
use Rattle.turn_lock.specs.Calls.{calls_by}
use Rattle.turn_lock.specs.Seats.{AreAll, HasAll}
use Rattle.map_core.specs.declared.entry.Entry.{Entry}
use Rattle.map_core.specs.Own.{caller_of, is_for_journal}
use Rattle.map_core.specs.Closings.{is_cut_off}
use Rattle.gm_journal.specs.declared.entry.Appended.{Appended}
use Rattle.gm_journal.specs.declared.entry.Appended.TheVariants as appended
use Rattle.gm_journal.specs.Entries.{OpeningView, EntryView, who_of}
use Rattle.gm_journal.specs.Histories.{Answers, MayStandAll, IsLegal, is_failure, has_failed}
use Rattle.worker_pool.specs.Pens.{JournalView, PenView, is_refused, failure_or, failure_in, first_some, failure_among}
use Rattle.worker_pool.specs.Outcomes.{AreWritten}

pub by_each : {A : Type 0} (P : A → Type 0) (es : List A) → All P es → AllByRecursion P es
by_each P [] h = tt
by_each P (e ∷ es) h = (All-head P e es h, by_each P es (All-tail P e es h))

-- ---- what no caller did, nobody did

first_not : (a b : Bool) → (a || b) ≡ false → a ≡ false
first_not false b e = refl
first_not true b e = absurd (cc)

rest_not : (a b : Bool) → (a || b) ≡ false → b ≡ false
rest_not false b e = e
rest_not true b e = absurd (cc)

behind : {E : Type 0} (f : E → Bool) (b : Bool) (e : E) (xs : List E) → list_any f (cond b (e ∷ xs) xs) ≡ false → list_any f xs ≡ false
behind f true e xs none = rest_not (f e) (list_any f xs) none
behind f false e xs none = none

pub none_in : {E : Type 0} (caller : E → ℕ) (f : E → Bool) (n : ℕ) (es : List E) → AllByRecursion (λ e. caller e < n) es → ((w : ℕ) → w < n → list_any f (calls_by caller w es) ≡ false) → list_any f es ≡ false
none_in caller f n [] named each = refl
none_in caller f n (e ∷ es) named each =
    or_from (f e) (list_any f es)
    (first_not (f e) (list_any f (calls_by caller (caller e) es))
    (ap (λ (b : Bool). list_any f (cond b (e ∷ calls_by caller (caller e) es) (calls_by caller (caller e) es))) (sym (eq-eqb (caller e) (caller e) refl)) ∙ each (caller e) named.0))
    (none_in caller f n es named.1 (λ w low. behind f (eqb (caller e) w) e (calls_by caller w es) (each w low)))

-- and what nobody did, no caller did
pub none_of : {E : Type 0} (caller : E → ℕ) (f : E → Bool) (w : ℕ) (es : List E) → list_any f es ≡ false → list_any f (calls_by caller w es) ≡ false
none_of caller f w [] none = refl
none_of caller f w (e ∷ es) none = pick (eqb (caller e) w) (none_of caller f w es (rest_not (f e) (list_any f es) none))
  where
    pick : (b : Bool) → list_any f (calls_by caller w es) ≡ false → list_any f (cond b (e ∷ calls_by caller w es) (calls_by caller w es)) ≡ false
    pick true rest = or_from (f e) (list_any f (calls_by caller w es)) (first_not (f e) (list_any f es) none) rest
    pick false rest = rest

-- ---- failures

quiet : (r : Appended) (other : Option ℕ) → failure_or other r ≡ None → (is_failure r ≡ false) × (other ≡ None)
quiet appended.Ok other e = (refl, e)
quiet appended.Already other e = (refl, e)
quiet appended.Closed other e = (refl, e)
quiet (appended.Failed count) other e = absurd (cc)
quiet appended.Memory other e = (refl, e)

none_failed_in : (ws : List EntryView) → failure_in ws ≡ None → has_failed ws ≡ false
none_failed_in [] e = refl
none_failed_in (x ∷ xs) e = let q = quiet x.reply (failure_in xs) e in or_from (is_failure x.reply) (has_failed xs) q.0 (none_failed_in xs q.1)

both : (a : Option ℕ) (rest : List (Option ℕ)) → first_some (a ∷ rest) ≡ None → (a ≡ None) × (first_some rest ≡ None)
both None rest is = (refl, is)
both (Some n) rest is = absurd (cc)

each_quiet : (pens : List PenView) → failure_among pens ≡ None → (k : ℕ) (d : PenView) → k < length pens → failure_in (get_or pens k d).mine ≡ None
each_quiet [] e k d low = absurd (omega arith)
each_quiet (s ∷ ss) e zero d low = (both (failure_in s.mine) (map (λ (pen : PenView). failure_in pen.mine) ss) e).0
each_quiet (s ∷ ss) e (suc k) d low = each_quiet ss (both (failure_in s.mine) (map (λ (pen : PenView). failure_in pen.mine) ss) e).1 k d (omega arith)

any-join : {A : Type 0} (f : A → Bool) (xs ys : List A) → list_any f (xs ++ ys) ≡ false → (list_any f xs ≡ false) × (list_any f ys ≡ false)
any-join f [] ys e = (refl, e)
any-join f (x ∷ xs) ys e =
    let rest = any-join f xs ys (rest_not (f x) (list_any f (xs ++ ys)) e) in (or_from (f x) (list_any f xs) (first_not (f x) (list_any f (xs ++ ys)) e) rest.0, rest.1)

open_by : (o : OpeningView) (before : List EntryView) (e : EntryView) (r : Appended) → Answers o before e.text r → has_failed before ≡ false → is_failure r ≡ false → is_refused r ≡ false
open_by o before e appended.Ok a quiet not = refl
open_by o before e appended.Already a quiet not = refl
open_by o before e appended.Closed a quiet not = absurd (apart (sym a ∙ quiet))
  where
    apart : true ≡ false → ⊥
    apart x = cc
open_by o before e (appended.Failed count) a quiet not = absurd (cc)
open_by o before e appended.Memory a quiet not = refl

-- while none failed none is refused
none_refused_in : (o : OpeningView) (before es : List EntryView) → MayStandAll o before es → has_failed (before ++ es) ≡ false → list_any (λ (e : EntryView). is_refused e.reply) es ≡ false
none_refused_in o before [] all none = refl
none_refused_in o before (e ∷ es) all none =
    let parts = any-join (λ (x : EntryView). is_failure x.reply) before (e ∷ es) none in
    or_from (is_refused e.reply) (list_any (λ (x : EntryView). is_refused x.reply) es) (open_by o before e e.reply all.0.answers parts.0 (first_not (is_failure e.reply) (has_failed es) parts.1))
    (none_refused_in o (before ++ e ∷ []) es all.1 (ap has_failed (append_assoc before (e ∷ []) es) ∙ none))

-- where no append of these seats failed, none of the history did
pub none_failed : (j : JournalView) (pens : List PenView) (log : List EntryView) → AreAll j pens → HasAll who_of IsLegal j.opening pens log → failure_among pens ≡ None → has_failed log ≡ false
none_failed j pens log all has none =
    let d : PenView = record { lock = j.id; opening = Some j.opening; number = 0; made = 0; seen = []; mine = [] } in
    none_in who_of (λ (e : EntryView). is_failure e.reply) (length pens) log (by_each (λ (e : EntryView). who_of e < length pens) log has.named) (λ w low.
    ap has_failed (ap (λ k. calls_by who_of k log) (sym (all.number w d low)) ∙ has.mine w d low) ∙ none_failed_in (get_or pens w d).mine (each_quiet pens none w d low))

-- no worker retired for the journal
pub not_cut_off : (j : JournalView) (pens : List PenView) (log : List EntryView) (history : List Entry) (n : ℕ) → AreAll j pens → HasAll who_of IsLegal j.opening pens log → failure_among pens ≡ None
    → AreWritten history pens → length pens ≡ n → All (λ (e : Entry). e.worker < n) history → is_cut_off history ≡ false
not_cut_off j pens log history n all has none written count named =
    let d : PenView = record { lock = j.id; opening = Some j.opening; number = 0; made = 0; seen = []; mine = [] } in
    let own : (w : ℕ) → w < length pens → calls_by who_of w log ≡ (get_or pens w d).mine = λ w low. ap (λ k. calls_by who_of k log) (sym (all.number w d low)) ∙ has.mine w d low in
    let refused = none_refused_in j.opening [] log has.is_legal (none_failed j pens log all has none) in
    none_in caller_of (λ (e : Entry). is_for_journal e.call) n history (by_each (λ (e : Entry). e.worker < n) history named) (λ w low.
    let i : w < length pens = omega arith in
    (written.each w d i).cut_off ∙ sym (ap (list_any (λ (e : EntryView). is_refused e.reply)) (own w i)) ∙ none_of who_of (λ (e : EntryView). is_refused e.reply) w log refused)
