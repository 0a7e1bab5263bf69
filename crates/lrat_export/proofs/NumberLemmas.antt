-- Clauses that stay, and their numbers.
use Rattle.std.proofs.Common.{◌≡◌, ℕ, suc, ◌+◌, ◌<◌, ◌≤◌, Bool, true, false, cond, List, [], ◌∷◌, ◌++◌, length, Option, Some, None, refl, sym, ◌∙◌, ap, subst, eqb, arith, append-nil}
use Rattle.std.specs.Prelude.{ℤ}
use Rattle.std.specs.List.{find}
use Rattle.std.specs.Option.{option_map, option_map_or}
use Rattle.std.proofs.lemmas.Bool.{eq-eqb, ne_eqb}
use Rattle.sat_base.specs.Derivation.{clause_of}
use Rattle.lrat_export.specs.Export.{Numbered, is_settled, bared, renumbered, stays}
pub use Rattle.lrat_export.specs.Numbers.{kept, next_number}

-- what becomes of the clause of an id: it is true, or it stays under a number from this one on
abbrev pub Becomes : ℕ → List ℕ → ℕ → List (ℕ × List ℤ) → List ℤ → Option Numbered → Type 0
Becomes vars set low news c None = is_settled vars set c ≡ true
Becomes vars set low news c (Some k) = (is_settled vars set c ≡ false) × (k.1 ≡ bared vars c) × (low ≤ k.0) × (clause_of news k.0 ≡ Some (bared vars c))

-- a number above that of the first is looked for behind it
clause_of-later : (n number : ℕ) (c : List ℤ) (news : List (ℕ × List ℤ)) → number < n → clause_of ((number, c) ∷ news) n ≡ clause_of news n
clause_of-later n number c news lt = ap (λ b. option_map (λ (e : ℕ × List ℤ). e.1) (cond b (Some (number, c)) (find (λ (e : ℕ × List ℤ). eqb e.0 n) news))) (ne_eqb number n (λ same. omega arith))

clause_of-first : (number : ℕ) (c : List ℤ) (news : List (ℕ × List ℤ)) → clause_of ((number, c) ∷ news) number ≡ Some c
clause_of-first number c news = ap (λ b. option_map (λ (e : ℕ × List ℤ). e.1) (cond b (Some (number, c)) (find (λ (e : ℕ × List ℤ). eqb e.0 number) news))) (eq-eqb number number refl)

-- with a clause before them whose number is lower, the others are found as before
raised : (vars : ℕ) (set : List ℕ) (number : ℕ) (first : List ℤ) (news : List (ℕ × List ℤ)) (c : List ℤ) (o : Option Numbered) → Becomes vars set (number + 1) news c o
    → Becomes vars set number ((number, first) ∷ news) c o
raised vars set number first news c None h = h
raised vars set number first news c (Some k) h = (h.0, h.1, (let low = h.2 in omega arith), clause_of-later k.0 number first news (let low = h.2 in omega arith) ∙ h.3)

pub stays-here : (e id : ℕ) (o : Option Numbered) (rest : List (ℕ × Option Numbered)) → eqb e id ≡ true → stays ((e, o) ∷ rest) id ≡ o
stays-here e id o rest here = ap (λ b. option_map_or (λ (x : ℕ × Option Numbered). x.1) (cond b (Some (e, o)) (find (λ (x : ℕ × Option Numbered). eqb x.0 id) rest)) None) here

pub stays-later : (e id : ℕ) (o : Option Numbered) (rest : List (ℕ × Option Numbered)) → eqb e id ≡ false → stays ((e, o) ∷ rest) id ≡ stays rest id
stays-later e id o rest other = ap (λ b. option_map_or (λ (x : ℕ × Option Numbered). x.1) (cond b (Some (e, o)) (find (λ (x : ℕ × Option Numbered). eqb x.0 id) rest)) None) other

pub becomes : (vars : ℕ) (set : List ℕ) (number : ℕ) (known : List (ℕ × List ℤ)) (id : ℕ) (c : List ℤ) → clause_of known id ≡ Some c
    → Becomes vars set number (kept (renumbered vars set number known)) c (stays (renumbered vars set number known) id)
becomes vars set number [] id c is = cc
becomes vars set number (e ∷ es) id c is = by (eqb e.0 id) refl is (is_settled vars set e.1) refl (becomes vars set number es id c) (becomes vars set (number + 1) es id c)
  where
    by : (same : Bool) → eqb e.0 id ≡ same → option_map (λ (x : ℕ × List ℤ). x.1) (cond same (Some e) (find (λ (x : ℕ × List ℤ). eqb x.0 id) es)) ≡ Some c
        → (settled : Bool) → is_settled vars set e.1 ≡ settled
        → (clause_of es id ≡ Some c → Becomes vars set number (kept (renumbered vars set number es)) c (stays (renumbered vars set number es) id))
        → (clause_of es id ≡ Some c → Becomes vars set (number + 1) (kept (renumbered vars set (number + 1) es)) c (stays (renumbered vars set (number + 1) es) id))
        → Becomes vars set number (kept (cond settled ((e.0, None) ∷ renumbered vars set number es) ((e.0, Some (number, bared vars e.1)) ∷ renumbered vars set (number + 1) es))) c
        (stays (cond settled ((e.0, None) ∷ renumbered vars set number es) ((e.0, Some (number, bared vars e.1)) ∷ renumbered vars set (number + 1) es)) id)
    by true here found true settled same_number next_number =
        let same : e.1 ≡ c = cc in
        subst (Becomes vars set number (kept (renumbered vars set number es)) c) (sym (stays-here e.0 id None (renumbered vars set number es) here))
        (ap (is_settled vars set) (sym same) ∙ settled)
    by true here found false settled same_number next_number =
        let same : e.1 ≡ c = cc in
        subst (Becomes vars set number ((number, bared vars e.1) ∷ kept (renumbered vars set (number + 1) es)) c)
        (sym (stays-here e.0 id (Some (number, bared vars e.1)) (renumbered vars set (number + 1) es) here))
        (ap (is_settled vars set) (sym same) ∙ settled, ap (bared vars) same, omega arith, clause_of-first number (bared vars e.1) (kept (renumbered vars set (number + 1) es)) ∙ ap (λ d. Some (bared vars d)) same)
    by false here found true settled same_number next_number =
        subst (Becomes vars set number (kept (renumbered vars set number es)) c)
        (sym (stays-later e.0 id None (renumbered vars set number es) here))
        (same_number found)
    by false here found false settled same_number next_number =
        subst (Becomes vars set number ((number, bared vars e.1) ∷ kept (renumbered vars set (number + 1) es)) c)
        (sym (stays-later e.0 id (Some (number, bared vars e.1)) (renumbered vars set (number + 1) es) here))
        (raised vars set number (bared vars e.1) (kept (renumbered vars set (number + 1) es)) c (stays (renumbered vars set (number + 1) es) id) (next_number found))

-- more clauses behind them change nothing
pub stays-longer : (vars : ℕ) (set : List ℕ) (number : ℕ) (known more : List (ℕ × List ℤ)) (id : ℕ) (c : List ℤ) → clause_of known id ≡ Some c
    → stays (renumbered vars set number (known ++ more)) id ≡ stays (renumbered vars set number known) id
stays-longer vars set number [] more id c is = cc
stays-longer vars set number (e ∷ es) more id c is =
    by (eqb e.0 id) refl is (is_settled vars set e.1) (stays-longer vars set number es more id c) (stays-longer vars set (number + 1) es more id c)
  where
    by : (same : Bool) → eqb e.0 id ≡ same → option_map (λ (x : ℕ × List ℤ). x.1) (cond same (Some e) (find (λ (x : ℕ × List ℤ). eqb x.0 id) es)) ≡ Some c
        → (settled : Bool)
        → (clause_of es id ≡ Some c → stays (renumbered vars set number (es ++ more)) id ≡ stays (renumbered vars set number es) id)
        → (clause_of es id ≡ Some c → stays (renumbered vars set (number + 1) (es ++ more)) id ≡ stays (renumbered vars set (number + 1) es) id)
        → stays (cond settled ((e.0, None) ∷ renumbered vars set number (es ++ more)) ((e.0, Some (number, bared vars e.1)) ∷ renumbered vars set (number + 1) (es ++ more))) id
        ≡ stays (cond settled ((e.0, None) ∷ renumbered vars set number es) ((e.0, Some (number, bared vars e.1)) ∷ renumbered vars set (number + 1) es)) id
    by true here found true low high = stays-here e.0 id None (renumbered vars set number (es ++ more)) here ∙ sym (stays-here e.0 id None (renumbered vars set number es) here)
    by true here found false low high =
        stays-here e.0 id (Some (number, bared vars e.1)) (renumbered vars set (number + 1) (es ++ more)) here
        ∙ sym (stays-here e.0 id (Some (number, bared vars e.1)) (renumbered vars set (number + 1) es) here)
    by false here found true low high =
        stays-later e.0 id None (renumbered vars set number (es ++ more)) here ∙ low found ∙ sym (stays-later e.0 id None (renumbered vars set number es) here)
    by false here found false low high =
        stays-later e.0 id (Some (number, bared vars e.1)) (renumbered vars set (number + 1) (es ++ more)) here ∙ high found
        ∙ sym (stays-later e.0 id (Some (number, bared vars e.1)) (renumbered vars set (number + 1) es) here)

-- ---- the clauses that stay, as more come

kept-append : (xs ys : List (ℕ × Option Numbered)) → kept (xs ++ ys) ≡ kept xs ++ kept ys
kept-append [] ys = refl
kept-append ((id, None) ∷ xs) ys = kept-append xs ys
kept-append ((id, Some c) ∷ xs) ys = ap (λ (es : List (ℕ × List ℤ)). c ∷ es) (kept-append xs ys)

pub renumbered-append : (vars : ℕ) (set : List ℕ) (number : ℕ) (xs ys : List (ℕ × List ℤ))
    → renumbered vars set number (xs ++ ys) ≡ renumbered vars set number xs ++ renumbered vars set (number + length (kept (renumbered vars set number xs))) ys
renumbered-append vars set number [] ys = ap (λ n. renumbered vars set n ys) (omega arith)
renumbered-append vars set number (x ∷ xs) ys = by (is_settled vars set x.1) (renumbered-append vars set number xs ys) (renumbered-append vars set (number + 1) xs ys)
  where
    by : (settled : Bool)
        → (renumbered vars set number (xs ++ ys) ≡ renumbered vars set number xs ++ renumbered vars set (number + length (kept (renumbered vars set number xs))) ys)
        → (renumbered vars set (number + 1) (xs ++ ys) ≡ renumbered vars set (number + 1) xs ++ renumbered vars set (number + 1 + length (kept (renumbered vars set (number + 1) xs))) ys)
        → cond settled ((x.0, None) ∷ renumbered vars set number (xs ++ ys)) ((x.0, Some (number, bared vars x.1)) ∷ renumbered vars set (number + 1) (xs ++ ys))
        ≡ cond settled ((x.0, None) ∷ renumbered vars set number xs) ((x.0, Some (number, bared vars x.1)) ∷ renumbered vars set (number + 1) xs)
        ++ renumbered vars set (number + length (kept (cond settled ((x.0, None) ∷ renumbered vars set number xs) ((x.0, Some (number, bared vars x.1)) ∷ renumbered vars set (number + 1) xs)))) ys
    by true same_number next_number = ap (λ (es : List (ℕ × Option Numbered)). (x.0, None) ∷ es) same_number
    by false same_number next_number =
        ap (λ (es : List (ℕ × Option Numbered)). (x.0, Some (number, bared vars x.1)) ∷ es)
        (next_number
        ∙ ap (λ n. renumbered vars set (number + 1) xs ++ renumbered vars set n ys)
        (let count : ℕ = length (kept (renumbered vars set (number + 1) xs)) in
        let same : number + 1 + count ≡ number + suc count = omega arith in same))

pub kept-settled : (vars : ℕ) (set : List ℕ) (known : List (ℕ × List ℤ)) (e : ℕ × List ℤ) → is_settled vars set e.1 ≡ true
    → kept (renumbered vars set 1 (known ++ e ∷ [])) ≡ kept (renumbered vars set 1 known)
kept-settled vars set known e settled =
    ap kept (renumbered-append vars set 1 known (e ∷ []) ∙ ap (λ b. renumbered vars set 1 known ++ cond b ((e.0, None) ∷ []) ((e.0, Some (next_number vars set known, bared vars e.1)) ∷ [])) settled)
    ∙ kept-append (renumbered vars set 1 known) ((e.0, None) ∷ []) ∙ append-nil (kept (renumbered vars set 1 known))

pub kept-stays : (vars : ℕ) (set : List ℕ) (known : List (ℕ × List ℤ)) (e : ℕ × List ℤ) → is_settled vars set e.1 ≡ false
    → kept (renumbered vars set 1 (known ++ e ∷ [])) ≡ kept (renumbered vars set 1 known) ++ (next_number vars set known, bared vars e.1) ∷ []
kept-stays vars set known e settled =
    ap kept (renumbered-append vars set 1 known (e ∷ []) ∙ ap (λ b. renumbered vars set 1 known ++ cond b ((e.0, None) ∷ []) ((e.0, Some (next_number vars set known, bared vars e.1)) ∷ [])) settled)
    ∙ kept-append (renumbered vars set 1 known) ((e.0, Some (next_number vars set known, bared vars e.1)) ∷ [])
