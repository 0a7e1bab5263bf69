-- Lists of watches, where a watch leaves one or comes to one.
use Rattle.std.proofs.Common.{◌≡◌, ◌≢◌, ◌⊎◌, ℕ, ◌/◌, ◌<◌, List, [], ◌∷◌, ◌++◌, refl, ap, sym, subst, ◌∙◌, inl, inr, arith}
use Rattle.std.specs.Prelude.{ℤ, Bool, true, false, eqb, if◌then◌else◌}
use Rattle.std.proofs.lemmas.Bool.{false≢true}
use Rattle.std.proofs.lemmas.Bool.Decides.{eqb_tells}
use Rattle.sat_base.specs.Members.{In}
use Rattle.sat_base.proofs.Members.{In-append_left, In-append_right, In-append_cases}
use Rattle.clause_store.specs.Clauses.{Clauses}
use Rattle.clause_store.specs.Links.{next_of, head_of, tail_of}
use Rattle.propagate.specs.Lists.{IsApart, IsChain, last_of}
use Rattle.propagate.specs.Watches.{IsLinked}
use Rattle.propagate.specs.Walk.{Unlinks, Appends, Parks}

-- links that agree at each of the watches lead along the same ones
pub chain_same : (next next' : ℕ → ℕ) (h : ℕ) (ns : List ℕ) → ((m : ℕ) → In m ns → next' m ≡ next m) → IsChain next h ns → IsChain next' h ns
chain_same next next' h [] same c = c
chain_same next next' h (n ∷ ns) same c =
    (c.0, subst (λ (k : ℕ). IsChain next' k ns) (sym (same n (inl refl))) (chain_same next next' (next n) ns (λ m i. same m (inr i)) c.1))

pub last_in : (n : ℕ) (ns : List ℕ) → In (last_of n ns) (n ∷ ns)
last_in n [] = inl refl
last_in n (m ∷ ms) = inr (last_in m ms)

pub last_append : (b : ℕ) (xs : List ℕ) (y : ℕ) (ys : List ℕ) → last_of b (xs ++ y ∷ ys) ≡ last_of y ys
last_append b [] y ys = refl
last_append b (x ∷ xs) y ys = last_append x xs y ys

pub other_than : (n : ℕ) (ns : List ℕ) → ¬ In n ns → (m : ℕ) → In m ns → m ≢ n
other_than n ns out m i e = out (subst (λ (k : ℕ). In k ns) e i)

pub apart_left : (xs ys : List ℕ) → IsApart (xs ++ ys) → IsApart xs
apart_left [] ys a = tt
apart_left (x ∷ xs) ys a = (λ i. a.0 (In-append_left x xs ys i), apart_left xs ys a.1)

-- a watch in the midst is not among the others
pub apart_here : (n : ℕ) (xs ys : List ℕ) → IsApart (xs ++ n ∷ ys) → ¬ In n (xs ++ ys)
apart_here n [] ys a i = a.0 i
apart_here n (x ∷ xs) ys a i = elim i [
  | inl e ↦ a.0 (subst (λ (k : ℕ). In k (xs ++ n ∷ ys)) e (In-append_right n xs (n ∷ ys) (inl refl)))
  | inr j ↦ apart_here n xs ys a.1 j
]

-- without it
pub in_without : (m n : ℕ) (xs ys : List ℕ) → m ≢ n → In m (xs ++ n ∷ ys) → In m (xs ++ ys)
in_without m n [] ys ne i = elim i [ inl e ↦ absurd (ne e) | inr j ↦ j ]
in_without m n (x ∷ xs) ys ne i = elim i [ inl e ↦ inl e | inr j ↦ inr (in_without m n xs ys ne j) ]

pub in_with : (m n : ℕ) (xs ys : List ℕ) → In m (xs ++ ys) → In m (xs ++ n ∷ ys)
in_with m n [] ys i = inr i
in_with m n (x ∷ xs) ys i = elim i [ inl e ↦ inl e | inr j ↦ inr (in_with m n xs ys j) ]

pub apart_without : (n : ℕ) (xs ys : List ℕ) → IsApart (xs ++ n ∷ ys) → IsApart (xs ++ ys)
apart_without n [] ys a = a.1
apart_without n (x ∷ xs) ys a = (λ i. a.0 (in_with x n xs ys i), apart_without n xs ys a.1)

pub apart_push : (n : ℕ) (xs : List ℕ) → IsApart xs → ¬ In n xs → IsApart (xs ++ n ∷ [])
apart_push n [] a out = ((λ i. i), tt)
apart_push n (x ∷ xs) a out = (
  λ i. elim (In-append_cases x xs (n ∷ []) i) [
    | inl j ↦ a.0 j
    | inr j ↦ elim j [ inl e ↦ out (inl (sym e)) | inr x ↦ absurd x ]
  ],
  apart_push n xs a.1 (λ i. out (inr i)),
)

-- the same list, of which another end follows
chain_after : (next next' : ℕ → ℕ) (h l x : ℕ) (xs old new : List ℕ) → IsChain next h (x ∷ xs ++ old) → IsApart (x ∷ xs) → next' (last_of x xs) ≡ l
    → ((m : ℕ) → In m (x ∷ xs) → m ≢ last_of x xs → next' m ≡ next m) → IsChain next' l new → IsChain next' h (x ∷ xs ++ new)
chain_after next next' h l x [] old new c a e same d = (c.0, subst (λ (k : ℕ). IsChain next' k new) (sym e) d)
chain_after next next' h l x (y ∷ ys) old new c a e same d =
    let ne : x ≢ last_of y ys = λ f. a.0 (subst (λ (k : ℕ). In k (y ∷ ys)) (sym f) (last_in y ys)) in (
      c.0,
      subst (λ (k : ℕ). IsChain next' k (y ∷ ys ++ new)) (sym (same x (inl refl) ne))
          (chain_after next next' (next x) l y ys old new c.1 a.1 e (λ m i nm. same m (inr i) nm) d),
    )

-- no watch has the number 0
abbrev pub AreNodes : List ℕ → Type 0
AreNodes ns = (m : ℕ) → In m ns → 0 < m / 2

-- from the last of the first ones, or from the head where there is none, another end follows
pub chain_relinked : (next next' : ℕ → ℕ) (h h' l : ℕ) (seen old new : List ℕ) → AreNodes seen → IsChain next h (seen ++ old) → IsApart seen
    → (last_of 0 seen ≡ 0 → h' ≡ l) → (last_of 0 seen ≢ 0 → h' ≡ h) → (last_of 0 seen ≢ 0 → next' (last_of 0 seen) ≡ l)
    → ((m : ℕ) → In m seen → m ≢ last_of 0 seen → next' m ≡ next m) → IsChain next' l new → IsChain next' h' (seen ++ new)
chain_relinked next next' h h' l [] old new nodes c a begin stay link same d = subst (λ (k : ℕ). IsChain next' k new) (sym (begin refl)) d
chain_relinked next next' h h' l (x ∷ xs) old new nodes c a begin stay link same d =
    let some : 0 < last_of x xs / 2 = nodes (last_of x xs) (last_in x xs) in
    let ne : last_of x xs ≢ 0 = omega (arith, some) in
    subst (λ (k : ℕ). IsChain next' k (x ∷ xs ++ new)) (sym (stay ne)) (chain_after next next' h l x xs old new c a (link ne) same d)

-- where nothing follows the link is 0
pub chain_none : (next : ℕ → ℕ) (h : ℕ) (ns : List ℕ) → AreNodes ns → IsChain next h ns → h ≡ 0 → ns ≡ []
chain_none next h [] nodes c e = refl
chain_none next h (n ∷ ns) nodes c e = absurd (omega (arith, c.0, e, nodes n (inl refl)))

pub append_nil : (xs : List ℕ) → xs ++ [] ≡ xs
append_nil [] = refl
append_nil (x ∷ xs) = ap (λ (ys : List ℕ). x ∷ ys) (append_nil xs)

pub append_cons : (xs : List ℕ) (n : ℕ) (ys : List ℕ) → (xs ++ n ∷ []) ++ ys ≡ xs ++ n ∷ ys
append_cons [] n ys = refl
append_cons (x ∷ xs) n ys = ap (λ (zs : List ℕ). x ∷ zs) (append_cons xs n ys)

pub chain_behind : (next : ℕ → ℕ) (h : ℕ) (seen : List ℕ) (n : ℕ) (rest : List ℕ) → IsChain next h (seen ++ n ∷ rest) → IsChain next (next n) rest
chain_behind next h [] n rest c = c.1
chain_behind next h (x ∷ xs) n rest c = chain_behind next (next x) xs n rest c.1

nodes_left : (xs ys : List ℕ) → AreNodes (xs ++ ys) → AreNodes xs
nodes_left xs ys nodes = λ m i. nodes m (In-append_left m xs ys i)

-- what is in both parts stands twice
apart_parts : (xs ys : List ℕ) (m : ℕ) → IsApart (xs ++ ys) → In m xs → In m ys → ⊥
apart_parts [] ys m a i j = i
apart_parts (x ∷ xs) ys m a i j = elim i [
  | inl e ↦ a.0 (In-append_right x xs ys (subst (λ (k : ℕ). In k ys) e j))
  | inr h ↦ apart_parts xs ys m a.1 h j
]

pub last_before : (seen : List ℕ) (n : ℕ) (rest : List ℕ) → IsApart (seen ++ n ∷ rest) → AreNodes (seen ++ n ∷ rest) → (m : ℕ) → In m rest → m ≡ last_of 0 seen → ⊥
last_before [] n rest a nodes m i e = let some = nodes m (inr i) in omega (arith, some, e)
last_before (x ∷ xs) n rest a nodes m i e = apart_parts (x ∷ xs) (n ∷ rest) m a (subst (λ (k : ℕ). In k (x ∷ xs)) (sym e) (last_in x xs)) (inr i)

-- ---- a watch leaves its list

module _ (s s' : Clauses) (lit : ℤ) (node to : ℕ) (r : Unlinks s s' lit node to) where
  -- a list of which it is not
  pub unlinked_other : (y : ℤ) (ns : List ℕ) → y ≢ lit → AreNodes ns → ¬ In node ns → IsLinked s y ns → IsLinked s' y ns
  unlinked_other y ns ne nodes out l = record {
    chain = subst (λ (h : ℕ). IsChain (next_of s') h ns) (sym (r.heads y ne))
        (chain_same (next_of s) (next_of s') (head_of s y) ns (λ m i. let some = nodes m i in r.nexts m (omega (arith, some)) (other_than node ns out m i)) l.chain);
    end = r.tails y ne ∙ l.end;
    apart = l.apart;
  }

  -- its own
  pub unlinked : (seen : List ℕ) (n : ℕ) (rest : List ℕ) → node ≡ last_of 0 seen → to ≡ next_of s n → AreNodes (seen ++ n ∷ rest) → IsLinked s lit (seen ++ n ∷ rest) → IsLinked s' lit (seen ++ rest)
  unlinked seen n rest is goes nodes l =
      let behind : IsChain (next_of s) (next_of s n) rest = chain_behind (next_of s) (head_of s lit) seen n rest l.chain in
      let here : ¬ In n (seen ++ rest) = apart_here n seen rest l.apart in
      let rest_nodes : AreNodes rest = λ m i. nodes m (In-append_right m seen (n ∷ rest) (inr i)) in
      let far : (m : ℕ) → In m rest → m ≢ node = λ m i e. last_before seen n rest l.apart nodes m i (e ∙ is) in
      let low : IsChain (next_of s') to rest =
      subst (λ (h : ℕ). IsChain (next_of s') h rest) (sym goes)
      (chain_same (next_of s) (next_of s') (next_of s n) rest (λ m i. let some = rest_nodes m i in r.nexts m (omega (arith, some)) (far m i)) behind)
      in
      record {
        chain = chain_relinked (next_of s) (next_of s') (head_of s lit) (head_of s' lit) to seen (n ∷ rest) rest (nodes_left seen (n ∷ rest) nodes) l.chain (apart_left seen (n ∷ rest) l.apart)
            (λ e. r.head (is ∙ e)) (λ ne. r.head_kept (λ e. ne (sym is ∙ e))) (λ ne. ap (next_of s') (sym is) ∙ r.next (λ e. ne (sym is ∙ e)))
            (λ m i ne. let some = nodes m (In-append_left m seen (n ∷ rest) i) in r.nexts m (omega (arith, some)) (λ e. ne (e ∙ is))) low;
        end = at rest l.end rest_nodes behind;
        apart = apart_without n seen rest l.apart;
      }
    where
      at : (rest : List ℕ) → tail_of s lit ≡ last_of 0 (seen ++ n ∷ rest) / 2 → AreNodes rest → IsChain (next_of s) (next_of s n) rest → tail_of s' lit ≡ last_of 0 (seen ++ rest) / 2
      at [] end some c = r.tail (goes ∙ c) ∙ ap (λ (k : ℕ). k / 2) (is ∙ sym (ap (last_of 0) (append_nil seen)))
      at (m ∷ ms) end some c =
          let more = some m (inl refl) in
          let ne : to ≢ 0 = omega (arith, goes, c.0, more) in
          r.tail_kept ne ∙ end ∙ ap (λ (k : ℕ). k / 2) (last_append 0 seen n (m ∷ ms) ∙ sym (last_append 0 seen m ms))

-- ---- a watch comes to a list

last_else : (ns : List ℕ) → AreNodes ns → (last_of 0 ns ≢ 0) → {n : ℕ} → ¬ In n ns → last_of 0 ns ≡ n → ⊥
last_else [] nodes ne out e = ne refl
last_else (x ∷ xs) nodes ne out e = out (subst (λ (k : ℕ). In k (x ∷ xs)) e (last_in x xs))

module _ (s s' : Clauses) (lit : ℤ) (node n : ℕ) (r : Appends s s' lit node n) where
  -- a list of which it is not
  pub appended_other : (y : ℤ) (ns : List ℕ) → y ≢ lit → AreNodes ns → ¬ In node ns → ¬ In n ns → IsLinked s y ns → IsLinked s' y ns
  appended_other y ns ne nodes out out_n l = record {
    chain = subst (λ (h : ℕ). IsChain (next_of s') h ns) (sym (r.heads y ne))
        (chain_same (next_of s) (next_of s') (head_of s y) ns (λ m i. let some = nodes m i in r.nexts m (omega (arith, some)) (other_than node ns out m i) (other_than n ns out_n m i)) l.chain);
    end = r.tails y ne ∙ l.end;
    apart = l.apart;
  }

  pub appended : (ns : List ℕ) → node ≡ last_of 0 ns → AreNodes ns → ¬ In n ns → IsLinked s lit ns → IsLinked s' lit (ns ++ n ∷ [])
  appended ns is nodes out l = record {
    chain = chain_relinked (next_of s) (next_of s') (head_of s lit) (head_of s' lit) (n / 2) ns [] (n ∷ []) nodes (subst (λ (xs : List ℕ). IsChain (next_of s) (head_of s lit) xs) (sym (append_nil ns)) l.chain) l.apart
        (λ e. r.head (is ∙ e)) (λ ne. r.head_kept (λ e. ne (sym is ∙ e))) (λ ne. ap (next_of s') (sym is) ∙ r.next (λ e. ne (sym is ∙ e)) (λ e. last_else ns nodes (λ f. ne f) out (sym is ∙ e)))
        (λ m i ne. let some = nodes m i in r.nexts m (omega (arith, some)) (λ e. ne (e ∙ is)) (other_than n ns out m i)) (refl, r.last);
    end = r.tail ∙ ap (λ (k : ℕ). k / 2) (sym (last_append 0 ns n []));
    apart = apart_push n ns l.apart out;
  }

-- ---- a watch is parked

module _ (s s' : Clauses) (b : ℤ) (n : ℕ) (r : Parks s s' b n) (rest : s' ≡ record s { nexts = s'.nexts; parks = s'.parks }) where
  -- a list of which it is not
  pub parks_other : (y : ℤ) (ns : List ℕ) → ¬ In n ns → IsLinked s y ns → IsLinked s' y ns
  parks_other y ns out l = record {
    chain = subst (λ (h : ℕ). IsChain (next_of s') h ns) (sym (ap (λ (x : Clauses). head_of x y) rest)) (chain_same (next_of s) (next_of s') (head_of s y) ns (λ m i. r.nexts m (other_than n ns out m i)) l.chain);
    end = ap (λ (x : Clauses). tail_of x y) rest ∙ l.end;
    apart = l.apart;
  }

pub bool_cases : (b : Bool) → (b ≡ true) ⊎ (b ≡ false)
bool_cases true = inl refl
bool_cases false = inr refl

-- a watch that is parked is not the last one of those that are not
pub last_unparked : (parked : ℕ → Bool) (ns : List ℕ) (k : ℕ) → ((m : ℕ) → In m ns → parked m ≡ false) → parked k ≡ true → 0 < k / 2 → k ≢ last_of 0 ns
last_unparked parked [] k all is some e = omega (arith, e, some)
last_unparked parked (x ∷ xs) k all is some e = false≢true (sym (all (last_of x xs) (last_in x xs)) ∙ ap parked (sym e) ∙ is)

-- the same, but for one watch
pub set_at : (ℕ → Bool) → ℕ → Bool → ℕ → Bool
set_at parked n b m = if eqb m n then b else parked m

choose_same : (c x y : Bool) → c ≡ true → (if c then x else y) ≡ x
choose_same c x y e = rw e refl

choose_other : (c x y : Bool) → c ≡ false → (if c then x else y) ≡ y
choose_other c x y e = rw e refl

pub set_at-same : (parked : ℕ → Bool) (n : ℕ) (b : Bool) (m : ℕ) → m ≡ n → set_at parked n b m ≡ b
unfolding set_at
set_at-same parked n b m e = elim (eqb_tells m n) [ inl x ↦ choose_same (eqb m n) b (parked m) x.0 | inr x ↦ absurd (x.1 e) ]

pub set_at-other : (parked : ℕ → Bool) (n : ℕ) (b : Bool) (m : ℕ) → m ≢ n → set_at parked n b m ≡ parked m
unfolding set_at
set_at-other parked n b m ne = elim (eqb_tells m n) [ inl x ↦ absurd (ne x.1) | inr x ↦ choose_other (eqb m n) b (parked m) x.0 ]
