-- Clauses of two literals, and of three.
use Rattle.std.proofs.Common.{◌≡◌, ◌≢◌, ◌⊎◌, ℕ, ◌+◌, ◌<◌, ◌≤◌, List, [], ◌∷◌, length, take, get_or, sym, subst, ◌∙◌, inl, inr, arith}
use Rattle.std.proofs.lemmas.List.{take_all}
use Rattle.sat_base.proofs.DatabaseLemmas.{In-take_more}
use Rattle.std.specs.Prelude.{ℤ, neg_ℤ, Bool, true, false, Option, Some, None, IfSome, IfNone}
use Rattle.std.specs.Option.{option_eq}
use Rattle.std.proofs.lemmas.Bool.{false≢true}
use mathlib.Core.Bool.{beq}
use Rattle.sat_base.specs.Members.{In}
use Rattle.sat_base.specs.Literals.{IsLiteral}
use Rattle.sat_base.specs.Units.{AllFalse, AllFalseBut, IsUnset, IsValue}
use Rattle.lit_words.specs.Words.{AreWordsOf, IsOpen}
use Rattle.lit_words.specs.declared.lit_words.LitWords.{LitWords}
use Rattle.clause_store.specs.Thirds.{IsLeft}
use Rattle.propagate.specs.Walk.{CanWatch}

cases_two : (x y l : ℤ) → In l (x ∷ y ∷ []) → (l ≡ x) ⊎ (l ≡ y)
cases_two x y l i = elim i [ inl e ↦ inl e | inr j ↦ elim j [ inl e ↦ inr e | inr k ↦ absurd k ] ]

-- what is one of two is the one or the other, where these differ
of_two : (x y a b l : ℤ) → In a (x ∷ y ∷ []) → In b (x ∷ y ∷ []) → a ≢ b → In l (x ∷ y ∷ []) → (l ≡ b) ⊎ (l ≡ a)
of_two x y a b l i j ne k = elim (cases_two x y a i) [
  | inl ax ↦ elim (cases_two x y b j) [
    | inl bx ↦ absurd (ne (ax ∙ sym bx))
    | inr by_y ↦ elim (cases_two x y l k) [ inl lx ↦ inr (lx ∙ sym ax) | inr ly ↦ inl (ly ∙ sym by_y) ]
  ]
  | inr ay ↦ elim (cases_two x y b j) [
    | inl bx ↦ elim (cases_two x y l k) [ inl lx ↦ inl (lx ∙ sym bx) | inr ly ↦ inr (ly ∙ sym ay) ]
    | inr by_y ↦ absurd (ne (ay ∙ sym by_y))
  ]
]

pub pair_false : (t c : List ℤ) (a b : ℤ) → length c ≡ 2 → In a c → In b c → a ≢ b → In (neg_ℤ a) t → AllFalseBut t c b
pair_false t [] a b two i j ne f = λ l k. absurd k
pair_false t (x ∷ []) a b two i j ne f = absurd (omega (arith, two))
pair_false t (x ∷ y ∷ []) a b two i j ne f = λ l k. elim (of_two x y a b l i j ne k) [
  | inl e ↦ inl e
  | inr e ↦ inr (subst (λ (m : ℤ). In (neg_ℤ m) t) (sym e) f)
]
pair_false t (x ∷ y ∷ z ∷ zs) a b two i j ne f = absurd (omega (arith, two))

-- the third literal of a clause can be watched where it is neither false nor the other one
pub third_found : (vars : ℕ) (t c : List ℤ) (a b third : ℤ) (o : Option (ℤ × ℕ)) → IsLeft c a b third → IsLiteral vars third
    → IfSome o (λ at. (at.0 ≡ third) × (third ≢ b) × (¬ In (neg_ℤ third) t)) → IfSome o (λ at. CanWatch vars t c b at.0)
third_found vars t c a b third None left literal h = tt
third_found vars t c a b third (Some at) left literal h =
    subst (CanWatch vars t c b) (sym h.0) (record { stands = left.stands; differs = h.1; not_false = h.2; literal = literal })

-- and where it is one of these, all but the other one are false
pub third_false : (t c : List ℤ) (a b third : ℤ) (o : Option (ℤ × ℕ)) → IsLeft c a b third → In (neg_ℤ a) t
    → IfNone o ((third ≡ b) ⊎ In (neg_ℤ third) t) → IfNone o (AllFalseBut t c b)
third_false t c a b third (Some at) left f h = tt
third_false t c a b third None left f h = λ l i. elim (left.others l i) [
  | inl is_a ↦ inr (subst (λ (m : ℤ). In (neg_ℤ m) t) (sym is_a) f)
  | inr other ↦ elim other [
    | inl is_b ↦ inl is_b
    | inr is_third ↦ elim h [ inl third_b ↦ inl (is_third ∙ third_b) | inr g ↦ inr (subst (λ (m : ℤ). In (neg_ℤ m) t) (sym is_third) g) ]
  ]
]

pub but_of : (t c d : List ℤ) (b : ℤ) (o : Option (ℤ × ℕ)) → c ≡ d → IfNone o (AllFalseBut t c b) → IfNone o (AllFalseBut t d b)
but_of t c d b o same h = subst (λ (ls : List ℤ). IfNone o (AllFalseBut t ls b)) same h

-- one literal more that is false, or the one that is left out
pub but_more : (t c : List ℤ) (i : ℕ) (x other : ℤ) → i < length c → x ≡ get_or c i x → (x ≡ other) ⊎ In (neg_ℤ x) t → AllFalseBut t (take i c) other → AllFalseBut t (take (i + 1) c) other
but_more t c i x other h is f all m j = elim (In-take_more c i x m h j) [
  | inl old ↦ all m old
  | inr same ↦ elim f [ inl e ↦ inl (same ∙ sym is ∙ e) | inr g ↦ inr (subst (λ k. In (neg_ℤ k) t) (is ∙ sym same) g) ]
]

pub but_all : (t c : List ℤ) (i : ℕ) (other : ℤ) → length c ≤ i → AllFalseBut t (take i c) other → AllFalseBut t c other
but_all t c i other h f = subst (λ (ls : List ℤ). AllFalseBut t ls other) (take_all i c h) f

-- what a value is that is known by its tests
pub value_is_false : (t : List ℤ) (l : ℤ) (v : Option Bool) → option_eq beq v (Some false) ≡ true → IsValue t l v → In (neg_ℤ l) t
value_is_false t l None e h = absurd (false≢true e)
value_is_false t l (Some true) e h = absurd (false≢true e)
value_is_false t l (Some false) e h = h

pub value_is_none : (t : List ℤ) (l : ℤ) (v : Option Bool) → option_eq beq v (Some true) ≡ false → option_eq beq v (Some false) ≡ false → IsValue t l v → IsUnset t l
value_is_none t l None e f h = h
value_is_none t l (Some true) e f h = absurd (false≢true (sym e))
value_is_none t l (Some false) e f h = absurd (false≢true (sym f))

-- where the one that was left out is false, all are
pub but_false : (t c : List ℤ) (other : ℤ) → AllFalseBut t c other → In (neg_ℤ other) t → AllFalse t c
but_false t c other all f = λ l i. elim (all l i) [ inl e ↦ subst (λ (m : ℤ). In (neg_ℤ m) t) (sym e) f | inr g ↦ g ]

-- once around from a place
pub but_around : (t c : List ℤ) (from : ℕ) (other : ℤ) (o : Option (ℤ × ℕ)) → (AllFalseBut t (take from c) other → AllFalseBut t (take (length c) c) other)
    → IfNone o (AllFalseBut t (take 0 c) other → AllFalseBut t (take from c) other) → IfNone o (AllFalseBut t c other)
but_around t c from other (Some at) behind before = tt
but_around t c from other None behind before = but_all t c (length c) other (omega arith) (behind (before (λ l i. absurd i)))

-- by words: what is open can be watched
pub words_found : (vars : ℕ) (t c : List ℤ) (words trues : LitWords) (b : ℤ) (o : Option (ℤ × ℕ)) → AreWordsOf words c → AreWordsOf trues t → ((x : ℤ) → In x c → IsLiteral vars x)
    → IfSome o (λ at. IsOpen words trues b at.0) → IfSome o (λ at. CanWatch vars t c b at.0)
words_found vars t c words trues b None of_clause of_trail over h = tt
words_found vars t c words trues b (Some at) of_clause of_trail over h =
    let stands = (of_clause at.0).0 h.has in
    record { stands = stands; differs = h.differs; not_false = λ i. h.not_false ((of_trail (neg_ℤ at.0)).1 i); literal = over at.0 stands }
