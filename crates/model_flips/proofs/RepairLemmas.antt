-- Lemmas on the repair of models.
use Rattle.std.proofs.Common.{◌≡◌, ◌⊎◌, ◌∙◌, ℕ, zero, suc, ◌+◌, ◌-◌, ◌<◌, Bool, true, false, not, ◌||◌, List, [], ◌∷◌, ◌++◌, Some, length, set, sym, ap, subst, inl, inr, eqb, arith}
use Rattle.std.specs.Prelude.{slice_get}
use Rattle.std.proofs.lemmas.Bool.{cases_eq, cases_Bool, false≢true, or_left, or_right, or_cases, and_parts, and_from, eq-eqb}
use Rattle.std.proofs.lemmas.Option.{slice_get_within}
use Rattle.sat_base.specs.Literals.{IsLiteral, literal_true, clause_true, var_of}
use Rattle.sat_base.specs.Members.{In}
use Rattle.sat_base.proofs.Members.{In-append_cases, all_at, all_from, any_at, any_from}
use Rattle.gm_base.specs.declared.clause.Clause.{Clause}
use Rattle.gm_base.specs.Sets.{IsGroupSet, has, complement}
use Rattle.gm_base.specs.Problem.{Problem, IsClause, IsProblem, satisfies, is_present}
use Rattle.gm_base.proofs.SetLemmas.{has-all_groups, has-complement-from}
use Rattle.model_flips.specs.Rotation.{IsListing, listed, HasLost, Satisfies}
use Rattle.model_flips.specs.Repair.{IsFalseAmong, AreFalse}
use Rattle.model_flips.proofs.RotationLemmas.{In-slice_get, recursion_at, literal_true-other, not_left_out}

-- one clause more
pub IsFalseAmong-next : (p : Problem) (values : List Bool) (places old new : List ℕ) (place : ℕ) → IsFalseAmong p values places old → ((at : ℕ) → In at old → In at new)
    → ((c : Clause) → slice_get p.clauses place ≡ Some c → (clause_true values c.lits ≡ true) ⊎ In place new) → IsFalseAmong p values (places ++ place ∷ []) new
IsFalseAmong-next p values places old new place h keeps last = λ at c i there.
    elim (In-append_cases at places (place ∷ []) i) [
      | inl earlier ↦ elim (h at c earlier there) [
        | inl made ↦ inl made
        | inr listed_there ↦ inr (keeps at listed_there)
      ]
      | inr (inl same) ↦ subst (λ k. (clause_true values c.lits ≡ true) ⊎ In k new) (sym same) (last c (subst (λ k. slice_get p.clauses k ≡ Some c) same there))
      | inr (inr none) ↦ absurd none
    ]

-- what stands at a place is one of the clauses
In-at : (clauses : List Clause) (at : ℕ) (c : Clause) → slice_get clauses at ≡ Some c → In c clauses
In-at [] at c h = absurd (omega (arith, slice_get_within [] at c h))
In-at (x ∷ xs) zero c h = inl (some_same c x (sym h))
  where
    some_same : (a b : Clause) → Some a ≡ Some b → a ≡ b
    some_same a b e = cc
In-at (x ∷ xs) (suc at) c h = inr (In-at xs at c h)

-- after the flip of a variable: those that were false, and those that have the variable, were looked at
pub AreFalse-flipped : (p : Problem) (lists : List (List ℕ)) (w v : List Bool) (var : ℕ) (b : Bool) (before old new : List ℕ) → IsProblem p → 0 < var → v ≡ set w (var - 1) b
    → IsFalseAmong p v before old → ((at : ℕ) → In at old → In at new) → IsFalseAmong p v (listed lists var) new
    → IsListing p.clauses lists → AreFalse p w before → AreFalse p v new
AreFalse-flipped p lists w v var b before old new well_formed positive is still keeps lost listing h = λ at c there.
    elim (h at c there) [
      | inr listed_there ↦ elim (still at c listed_there there) [
        | inl made ↦ inl made
        | inr i ↦ inr (keeps at i)
      ]
      | inl true_before ↦
          let (lit, i, e) = any_from (literal_true w) c.lits true_before in
          elim (cases_eq (var_of lit) var) [
            | inl same ↦ lost at c (subst (λ k. In at (listed lists k)) same (listing at c lit there i)) there
            | inr other ↦
                let inside = In-at p.clauses at c there in
                let lits = (recursion_at (IsClause p.vars p.groups) p.clauses c well_formed inside).lits in
                let literal = recursion_at (IsLiteral p.vars) c.lits lit lits i in
                inl (any_at (literal_true v) c.lits lit i
                (ap (λ a. literal_true a lit) is
                ∙ literal_true-other w (var - 1) b lit literal.not_zero (λ (s : var_of lit ≡ var - 1 + 1). other (omega (arith, positive, s)))
                ∙ e))
          ]
    ]

-- a clause of a satisfied group is true
pub AreFalse-begun : (p : Problem) (out : List ℕ) (w : List Bool) (places falsified : List ℕ) → IsProblem p → ((at : ℕ) (c : Clause) → slice_get p.clauses at ≡ Some c → has out c.group ≡ true → In at places)
    → IsFalseAmong p w places falsified → Satisfies p out w → AreFalse p w falsified
AreFalse-begun p out w places falsified well_formed each among before = λ at c there.
    elim (cases_Bool (has out c.group)) [
      | inl was_out ↦ among at c (each at c there was_out) there
      | inr was_in ↦
          let inside = In-at p.clauses at c there in
          let parts = and_parts (eqb (length w) p.vars) (satisfies p (complement p.groups out) w) before in
          let present : is_present (complement p.groups out) c ≡ true =
          elim (cases_eq c.group 0) [
            | inl background ↦ or_left (eqb c.group 0) (has (complement p.groups out) c.group) (eq-eqb c.group 0 background)
            | inr group ↦
                or_right (eqb c.group 0) (has (complement p.groups out) c.group)
                (has-complement-from p.groups out c.group (has-all_groups p.groups c.group (omega (arith, group)) (recursion_at (IsClause p.vars p.groups) p.clauses c well_formed inside).group) was_in)
          ] in
          elim (or_cases (not (is_present (complement p.groups out) c)) (clause_true w c.lits) (all_at (λ (e : Clause). not (is_present (complement p.groups out) e) || clause_true w e.lits) p.clauses c parts.1 inside)) [
            | inl clash ↦ absurd (false≢true (sym (ap not present) ∙ clash))
            | inr it ↦ inl it
          ]
    ]

-- where none of the false clauses is of the background, the groups that they are of are those left out
pub Satisfies-finished : (p : Problem) (w : List Bool) (out falsified : List ℕ) → length w ≡ p.vars → IsGroupSet out → HasLost p w [] out falsified → AreFalse p w falsified → Satisfies p out w
Satisfies-finished p w out falsified len ascends lost h =
    and_from (eqb (length w) p.vars) (satisfies p (complement p.groups out) w) (eq-eqb (length w) p.vars len)
    (all_from (λ (c : Clause). not (is_present (complement p.groups out) c) || clause_true w c.lits) p.clauses
    (λ c inside.
    elim (cases_Bool (is_present (complement p.groups out) c)) [
      | inr absent ↦ or_left (not (is_present (complement p.groups out) c)) (clause_true w c.lits) (ap not absent)
      | inl present ↦ or_right (not (is_present (complement p.groups out) c)) (clause_true w c.lits) (made c inside (not_left_out p out c ascends present))
    ]))
  where
    made : (c : Clause) → In c p.clauses → has out c.group ≡ false → clause_true w c.lits ≡ true
    made c inside out_of =
        let (at, there) = In-slice_get p.clauses c inside in
        elim (h at c there) [
          | inl it ↦ it
          | inr i ↦ elim (lost.lost at c i there) [
            | inl it ↦ it
            | inr l ↦ absurd (false≢true (sym out_of ∙ l))
          ]
        ]
