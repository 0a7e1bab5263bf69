-- What a new clause has to show to be watched or settled.
use Rattle.std.proofs.Common.{◌≡◌, ℕ, ◌+◌, ◌<◌, ◌≤◌, List, length, take, get_or, sym, ◌∙◌, subst, inl, inr, arith, Option, Some, None, is_some}
use Rattle.std.specs.Prelude.{ℤ, neg_ℤ, Bool, true, false}
use Rattle.std.proofs.lemmas.Bool.{false≢true}
use Rattle.std.proofs.lemmas.List.{take_all}
use Rattle.sat_base.specs.Members.{In}
use Rattle.sat_base.specs.Units.{AllFalse, IsValue}
use Rattle.sat_base.proofs.DatabaseLemmas.{In-take_more}
use Rattle.trail_book.specs.declared.entry.Entry.{Entry}
use Rattle.trail_book.specs.Trail.{trues, top, keep}
use Rattle.trail_book.proofs.TrailLemmas.{keep-whole, lit-keep_in}
use Rattle.propagate.specs.Watches.{IsGuarded}

pub false_more : (t c : List ℤ) (i : ℕ) (x : ℤ) → i < length c → x ≡ get_or c i x → In (neg_ℤ x) t → AllFalse t (take i c) → AllFalse t (take (i + 1) c)
false_more t c i x h is f all m j = elim (In-take_more c i x m h j) [ inl old ↦ all m old | inr same ↦ subst (λ k. In (neg_ℤ k) t) (is ∙ sym same) f ]

pub false_all : (t c : List ℤ) (i : ℕ) → length c ≤ i → AllFalse t (take i c) → AllFalse t c
false_all t c i h f = subst (AllFalse t) (take_all i c h) f

-- a literal that is not false has nothing to guard
pub open_guard : (es : List Entry) (done : ℕ) (lit other : ℤ) → (¬ In (neg_ℤ lit) (trues es)) → IsGuarded es done lit other
open_guard es done lit other out was level i = absurd (out (lit-keep_in level es (neg_ℤ lit) i))

-- at level 0 all is of level 0
pub at_root : (es : List Entry) → top es ≡ 0 → keep 0 es ≡ es
at_root es level = keep-whole 0 es (omega (arith, level))

-- what has a value and is not false is true
pub value_is_true : (t : List ℤ) (l : ℤ) (v : Option Bool) → is_some v ≡ true → (¬ In (neg_ℤ l) t) → IsValue t l v → In l t
value_is_true t l None e out h = absurd (false≢true e)
value_is_true t l (Some true) e out h = h
value_is_true t l (Some false) e out h = absurd (out h)
