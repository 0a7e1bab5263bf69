-- Two literals of a clause of three tell the third.
use Rattle.std.proofs.Common.{◌≡◌, ◌≢◌, ℕ, ℤ, List, [], ◌∷◌, ◌⊎◌, inl, inr, refl, sym, ap, ◌∙◌, ◌<◌, arith, subst, Option, Some, None, is_some, IfSome, IfNone, length, get_or}
use Rattle.std.proofs.lemmas.Bool.{false≢true}
use Rattle.std.specs.Prelude.{bit_xor}
use Rattle.std.proofs.lemmas.Nat.{xor_comm}
use Rattle.std.specs.Int.Bits.{xor_assoc, xor_self, xor_zero_r}
use Rattle.sat_base.specs.Literals.{var_of, IsLiteral, AreLiterals}
use Rattle.sat_base.specs.Members.{In}
use Rattle.clause_store.specs.Links.{row_of}
use Rattle.clause_store.specs.Thirds.{mix_of, AreTwoOfThree, IsLeft}

-- what is mixed in twice is out again
out : (x y : ℕ) → bit_xor x (bit_xor x y) ≡ y
out x y = sym (xor_assoc x x y) ∙ ap (λ n. bit_xor n y) (xor_self x)

-- the order is free
swap : (x y z : ℕ) → bit_xor x (bit_xor y z) ≡ bit_xor y (bit_xor x z)
swap x y z = sym (xor_assoc x y z) ∙ ap (λ n. bit_xor n z) (xor_comm x y) ∙ xor_assoc y x z

turn : (n f s : ℕ) → bit_xor (bit_xor n f) s ≡ bit_xor s (bit_xor f n)
turn n f s = xor_comm (bit_xor n f) s ∙ ap (bit_xor s) (xor_comm n f)

-- two of three that are mixed leave the third: the first and the second one, ..
left_third : (a b c : ℕ) → bit_xor b (bit_xor a (bit_xor a (bit_xor b (bit_xor c 0)))) ≡ c
left_third a b c = ap (bit_xor b) (out a _) ∙ out b _ ∙ xor_zero_r c

left_second : (a b c : ℕ) → bit_xor c (bit_xor a (bit_xor a (bit_xor b (bit_xor c 0)))) ≡ b
left_second a b c = ap (bit_xor c) (out a _) ∙ swap c b _ ∙ ap (bit_xor b) (out c 0) ∙ xor_zero_r b

left_first : (a b c : ℕ) → bit_xor c (bit_xor b (bit_xor a (bit_xor b (bit_xor c 0)))) ≡ a
left_first a b c = ap (bit_xor c) (swap b a _ ∙ ap (bit_xor a) (out b _)) ∙ swap c a _ ∙ ap (bit_xor a) (out c 0) ∙ xor_zero_r a

-- the literal that is left, and its row
pub record Left (clause : List ℤ) (first second : ℤ) (row : ℕ) : Type 0 where
  pub lit : ℤ
  pub left : IsLeft clause first second lit
  pub row_is : row_of lit ≡ row

made : (a b c f s lit : ℤ) (row : ℕ) → In lit (a ∷ b ∷ c ∷ []) → row_of lit ≡ row
    → (a ≡ f) ⊎ (a ≡ s) ⊎ (a ≡ lit) → (b ≡ f) ⊎ (b ≡ s) ⊎ (b ≡ lit) → (c ≡ f) ⊎ (c ≡ s) ⊎ (c ≡ lit)
    → Left (a ∷ b ∷ c ∷ []) f s row
made a b c f s lit row stands is of_a of_b of_c = record { lit = lit; left = record { stands = stands; others = others }; row_is = is }
  where
    others : (x : ℤ) → In x (a ∷ b ∷ c ∷ []) → (x ≡ f) ⊎ (x ≡ s) ⊎ (x ≡ lit)
    others x (inl same) = subst (λ (z : ℤ). (z ≡ f) ⊎ (z ≡ s) ⊎ (z ≡ lit)) (sym same) of_a
    others x (inr (inl same)) = subst (λ (z : ℤ). (z ≡ f) ⊎ (z ≡ s) ⊎ (z ≡ lit)) (sym same) of_b
    others x (inr (inr (inr none))) = absurd none
    others x (inr (inr (inl same))) = subst (λ (z : ℤ). (z ≡ f) ⊎ (z ≡ s) ⊎ (z ≡ lit)) (sym same) of_c

-- the number that is left, where the two are these
row_left : (n : ℕ) (f s x y : ℤ) → f ≡ x → s ≡ y → bit_xor (bit_xor n (row_of f)) (row_of s) ≡ bit_xor (row_of y) (bit_xor (row_of x) n)
row_left n f s x y is_x is_y = rw (is_x, is_y) (turn n (row_of x) (row_of y))

three : (a b c f s : ℤ) → In f (a ∷ b ∷ c ∷ []) → In s (a ∷ b ∷ c ∷ []) → f ≢ s
    → Left (a ∷ b ∷ c ∷ []) f s (bit_xor (bit_xor (mix_of (a ∷ b ∷ c ∷ [])) (row_of f)) (row_of s))
three a b c f s (inl x) (inr (inr (inr none))) ne = absurd none
three a b c f s (inr (inl x)) (inr (inr (inr none))) ne = absurd none
three a b c f s (inr (inr (inl x))) (inr (inr (inr none))) ne = absurd none
three a b c f s (inr (inr (inr none))) i ne = absurd none
three a b c f s (inl x) (inl y) ne = absurd (ne (x ∙ sym y))
three a b c f s (inr (inl x)) (inr (inl y)) ne = absurd (ne (x ∙ sym y))
three a b c f s (inr (inr (inl x))) (inr (inr (inl y))) ne = absurd (ne (x ∙ sym y))
three a b c f s (inl x) (inr (inl y)) ne =
    made a b c f s c _ (inr (inr (inl refl))) (sym (row_left _ f s a b x y ∙ left_third (row_of a) (row_of b) (row_of c))) (inl (sym x)) (inr (inl (sym y))) (inr (inr refl))
three a b c f s (inr (inl x)) (inl y) ne =
    made a b c f s c _ (inr (inr (inl refl))) (sym (row_left _ f s b a x y ∙ swap (row_of a) (row_of b) _ ∙ left_third (row_of a) (row_of b) (row_of c))) (inr (inl (sym y))) (inl (sym x)) (inr (inr refl))
three a b c f s (inl x) (inr (inr (inl y))) ne =
    made a b c f s b _ (inr (inl refl)) (sym (row_left _ f s a c x y ∙ left_second (row_of a) (row_of b) (row_of c))) (inl (sym x)) (inr (inr refl)) (inr (inl (sym y)))
three a b c f s (inr (inr (inl x))) (inl y) ne =
    made a b c f s b _ (inr (inl refl)) (sym (row_left _ f s c a x y ∙ swap (row_of a) (row_of c) _ ∙ left_second (row_of a) (row_of b) (row_of c))) (inr (inl (sym y))) (inr (inr refl)) (inl (sym x))
three a b c f s (inr (inl x)) (inr (inr (inl y))) ne =
    made a b c f s a _ (inl refl) (sym (row_left _ f s b c x y ∙ left_first (row_of a) (row_of b) (row_of c))) (inr (inr refl)) (inl (sym x)) (inr (inl (sym y)))
three a b c f s (inr (inr (inl x))) (inr (inl y)) ne =
    made a b c f s a _ (inl refl) (sym (row_left _ f s c b x y ∙ swap (row_of b) (row_of c) _ ∙ left_first (row_of a) (row_of b) (row_of c))) (inr (inr refl)) (inr (inl (sym y))) (inl (sym x))

-- two of three literals tell the row of the one that is left
pub third_is : (clause : List ℤ) (f s : ℤ) → AreTwoOfThree clause f s → Left clause f s (bit_xor (bit_xor (mix_of clause) (row_of f)) (row_of s))
third_is [] f s two = absurd (omega (arith, two.three))
third_is (a ∷ []) f s two = absurd (omega (arith, two.three))
third_is (a ∷ b ∷ []) f s two = absurd (omega (arith, two.three))
third_is (a ∷ b ∷ c ∷ []) f s two = three a b c f s two.first_stands two.second_stands two.differ
third_is (a ∷ b ∷ c ∷ d ∷ rest) f s two = absurd (omega (arith, two.three))

literal_in : (vars : ℕ) (lits : List ℤ) (l : ℤ) → AreLiterals vars lits → In l lits → IsLiteral vars l
literal_in vars [] l h i = absurd i
literal_in vars (m ∷ ms) l h (inl same) = subst (IsLiteral vars) (sym same) h.0
literal_in vars (m ∷ ms) l h (inr later) = literal_in vars ms l h.1 later

abbrev or_else : ℤ → Option ℤ → ℤ
or_else x None = x
or_else x (Some y) = y

-- the literal of the row that is left is the one that is left
pub found : (vars n row : ℕ) (clause : List ℤ) (f s : ℤ) (o : Option ℤ) → AreLiterals vars clause
    → (AreTwoOfThree clause f s → n ≡ mix_of clause) → row ≡ bit_xor (bit_xor n (row_of f)) (row_of s)
    → ((lit : ℤ) → row_of lit ≡ row → 0 < var_of lit → o ≡ Some lit)
    → AreTwoOfThree clause f s → (l : Left clause f s row) × (o ≡ Some l.lit)
found vars n row clause f s o over mixed is gives two =
    let l = third_is clause f s two in
    let same : row_of l.lit ≡ row = l.row_is ∙ ap (λ (m : ℕ). bit_xor (bit_xor m (row_of f)) (row_of s)) (sym (mixed two)) ∙ sym is in
    (record { lit = l.lit; left = l.left; row_is = same }, gives l.lit same (literal_in vars clause l.lit over l.left.stands).not_zero)

pub is_left : (clause : List ℤ) (f s : ℤ) (row : ℕ) (o : Option ℤ)
    → (AreTwoOfThree clause f s → (l : Left clause f s row) × (o ≡ Some l.lit))
    → IfSome o (λ lit. AreTwoOfThree clause f s → IsLeft clause f s lit)
is_left clause f s row None h = tt
is_left clause f s row (Some lit) h = λ two. let l = h two in subst (IsLeft clause f s) (ap (or_else lit) (sym l.1)) l.0.left

pub none_left : (clause : List ℤ) (f s : ℤ) (row : ℕ) (o : Option ℤ)
    → (AreTwoOfThree clause f s → (l : Left clause f s row) × (o ≡ Some l.lit))
    → IfNone o (¬ AreTwoOfThree clause f s)
none_left clause f s row (Some lit) h = tt
none_left clause f s row None h = λ two. false≢true (ap is_some (h two).1)

-- three literals that are read one by one give the number of their rows
pub mix_read : (lits : List ℤ) (a b c : ℤ) (x y z : ℕ) → length lits ≡ 3 → a ≡ get_or lits 0 a → b ≡ get_or lits 1 b → c ≡ get_or lits 2 c
    → x ≡ row_of a → y ≡ row_of b → z ≡ row_of c → bit_xor x (bit_xor y z) ≡ mix_of lits
mix_read [] a b c x y z three first second third of_a of_b of_c = absurd (omega (arith, three))
mix_read (l ∷ []) a b c x y z three first second third of_a of_b of_c = absurd (omega (arith, three))
mix_read (l ∷ m ∷ []) a b c x y z three first second third of_a of_b of_c = absurd (omega (arith, three))
mix_read (l ∷ m ∷ n ∷ []) a b c x y z three first second third of_a of_b of_c =
    ap (λ (k : ℕ). bit_xor k (bit_xor y z)) (of_a ∙ ap row_of first)
    ∙ ap (λ (k : ℕ). bit_xor (row_of l) (bit_xor k z)) (of_b ∙ ap row_of second)
    ∙ ap (λ (k : ℕ). bit_xor (row_of l) (bit_xor (row_of m) k)) (of_c ∙ ap row_of third ∙ sym (xor_zero_r (row_of n)))
mix_read (l ∷ m ∷ n ∷ k ∷ ks) a b c x y z three first second third of_a of_b of_c = absurd (omega (arith, three))
