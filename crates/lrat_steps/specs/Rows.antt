-- A worked log over two variables x and y, one that is not honest, and clauses that are undecided. Computed here, or shown
-- case by case.
use Rattle.std.specs.Prelude.{◌≡◌, ◌≢◌, true, false, List, [], ◌∷◌, take, pos, negsuc, neg_ℤ, ℤ}
use Rattle.std.proofs.Common.{refl, sym, ap, subst, inl, inr, arith}
use Rattle.sat_base.specs.Literals.{var_of}
use Rattle.sat_base.specs.Members.{In}
use Rattle.sat_base.specs.Database.{StoredClause}
use Rattle.sat_base.specs.Units.{IsLoose, IsFixpoint}
use Rattle.lrat_steps.specs.Log.{LogStep, Input, Learned, Core, Forgot, step_at, db_of, inputs_of, learned_count}
use Rattle.lrat_steps.specs.Forgetting.{live_count}
use Rattle.lrat_steps.specs.Honest.{HasVar, IsProper, IsDerived, IsNew, IsHonest, Subsumes}
use Rattle.lrat_steps.specs.Undecided.{Choice, Consequence, Undecided}

abbrev stored_live : List ℤ → StoredClause
stored_live lits = record { lits = lits; live = true }

-- "x or y", "x or not y" and so "x"; "not x or y" and so "y"; "not x or not y" and so the empty clause, twice: once by way
-- of "y", and once without it
abbrev pub worked_log : List LogStep
worked_log =
    Input (pos 1 ∷ pos 2 ∷ []) ∷ Input (pos 1 ∷ negsuc 1 ∷ []) ∷ Learned (pos 1 ∷ []) (1 ∷ 2 ∷ []) ∷ Input (negsuc 0 ∷ pos 2 ∷ [])
    ∷ Learned (pos 2 ∷ []) (3 ∷ 4 ∷ []) ∷ Input (negsuc 0 ∷ negsuc 1 ∷ []) ∷ Core [] (3 ∷ 4 ∷ 6 ∷ []) ∷ Core [] (3 ∷ 5 ∷ 6 ∷ []) ∷ []

pub worked_inputs :
    inputs_of worked_log ≡ (pos 1 ∷ pos 2 ∷ []) ∷ (pos 1 ∷ negsuc 1 ∷ []) ∷ (negsuc 0 ∷ pos 2 ∷ []) ∷ (negsuc 0 ∷ negsuc 1 ∷ []) ∷ []
worked_inputs = refl

pub worked_learned : learned_count worked_log ≡ 2
worked_learned = refl

other_from : (l m : ℤ) → l ≢ m → ¬ In l (m ∷ [])
other_from l m differs (inl same) = differs same
other_from l m differs (inr none) = none

one_proper : (m : ℤ) → neg_ℤ m ≢ m → HasVar (inputs_of worked_log) (var_of m) → IsProper (inputs_of worked_log) (m ∷ [])
one_proper m differs has = record { consistent = consistent; vars = vars }
  where
    consistent : (l : ℤ) → In l (m ∷ []) → ¬ In (neg_ℤ l) (m ∷ [])
    consistent l (inl same) = subst (λ k. ¬ In (neg_ℤ k) (m ∷ [])) (sym same) (other_from (neg_ℤ m) m differs)
    consistent l (inr none) = absurd none

    vars : (l : ℤ) → In l (m ∷ []) → HasVar (inputs_of worked_log) (var_of l)
    vars l (inl same) = subst (λ k. HasVar (inputs_of worked_log) (var_of k)) (sym same) has
    vars l (inr none) = absurd none

-- a clause with another literal subsumes nothing less
not_within : (lits c d : List ℤ) (l : ℤ) → In l d → ¬ In l lits → stored_live c ≡ stored_live d → ¬ Subsumes c lits
not_within lits c d l has lacks same sub = lacks (sub l (subst (In l) (sym (ap (λ (k : StoredClause). k.lits) same)) has))

x_is_new : IsNew (db_of (take 2 worked_log)) (pos 1 ∷ [])
x_is_new c (inl same) = not_within (pos 1 ∷ []) c (pos 1 ∷ pos 2 ∷ []) (pos 2) (inr (inl refl)) (other_from (pos 2) (pos 1) (λ e. cc)) same
x_is_new c (inr (inl same)) = not_within (pos 1 ∷ []) c (pos 1 ∷ negsuc 1 ∷ []) (negsuc 1) (inr (inl refl)) (other_from (negsuc 1) (pos 1) (λ e. cc)) same
x_is_new c (inr (inr none)) = absurd none

y_is_new : IsNew (db_of (take 4 worked_log)) (pos 2 ∷ [])
y_is_new c (inl same) = not_within (pos 2 ∷ []) c (pos 1 ∷ pos 2 ∷ []) (pos 1) (inl refl) (other_from (pos 1) (pos 2) (λ e. cc)) same
y_is_new c (inr (inl same)) = not_within (pos 2 ∷ []) c (pos 1 ∷ negsuc 1 ∷ []) (pos 1) (inl refl) (other_from (pos 1) (pos 2) (λ e. cc)) same
y_is_new c (inr (inr (inl same))) = not_within (pos 2 ∷ []) c (pos 1 ∷ []) (pos 1) (inl refl) (other_from (pos 1) (pos 2) (λ e. cc)) same
y_is_new c (inr (inr (inr (inl same)))) = not_within (pos 2 ∷ []) c (negsuc 0 ∷ pos 2 ∷ []) (negsuc 0) (inl refl) (other_from (negsuc 0) (pos 2) (λ e. cc)) same
y_is_new c (inr (inr (inr (inr none)))) = absurd none

empty_proper : IsProper (inputs_of worked_log) []
empty_proper = record { consistent = λ l i. absurd i; vars = λ l i. absurd i }

pub worked_honest : IsHonest worked_log
worked_honest =
    (tt, (tt, (x_step, (tt, (y_step, (tt, (empty_step, (empty_again, tt))))))))
  where
    x_step : IsDerived (inputs_of worked_log) (db_of (take 2 worked_log)) (pos 1 ∷ []) (1 ∷ 2 ∷ []) × IsNew (db_of (take 2 worked_log)) (pos 1 ∷ [])
    x_step = (record { follows = refl; proper = one_proper (pos 1) (λ e. cc) (pos 1 ∷ pos 2 ∷ [], pos 1, inl refl, inl refl, refl) }, x_is_new)

    y_step : IsDerived (inputs_of worked_log) (db_of (take 4 worked_log)) (pos 2 ∷ []) (3 ∷ 4 ∷ []) × IsNew (db_of (take 4 worked_log)) (pos 2 ∷ [])
    y_step = (record { follows = refl; proper = one_proper (pos 2) (λ e. cc) (pos 1 ∷ pos 2 ∷ [], pos 2, inl refl, inr (inl refl), refl) }, y_is_new)

    empty_step : IsDerived (inputs_of worked_log) (db_of (take 6 worked_log)) [] (3 ∷ 4 ∷ 6 ∷ [])
    empty_step = record { follows = refl; proper = empty_proper }

    empty_again : IsDerived (inputs_of worked_log) (db_of (take 7 worked_log)) [] (3 ∷ 5 ∷ 6 ∷ [])
    empty_again = record { follows = refl; proper = empty_proper }

-- "x or y" follows from "x", but is no new clause
pub subsumed_clause_is_not_honest : ¬ IsHonest (Input (pos 1 ∷ []) ∷ Input (pos 2 ∷ []) ∷ Learned (pos 1 ∷ pos 2 ∷ []) (1 ∷ []) ∷ [])
subsumed_clause_is_not_honest h = h.1.1.0.1 (pos 1 ∷ []) (inl refl) (λ l i. elim i [ inl same ↦ inl same | inr none ↦ absurd none ])

-- "x or y" and "x or not y", so "x", which is then forgotten, and "y or x": the mark takes no id, and the learnt clause stays
-- as it was but for being live
abbrev pub marked_log : List LogStep
marked_log =
    Input (pos 1 ∷ pos 2 ∷ []) ∷ Input (pos 1 ∷ negsuc 1 ∷ []) ∷ Learned (pos 1 ∷ []) (1 ∷ 2 ∷ []) ∷ Forgot 3 ∷ Input (pos 2 ∷ pos 1 ∷ []) ∷ []

pub marked_step : step_at marked_log 4 ≡ Input (pos 2 ∷ pos 1 ∷ [])
marked_step = refl

pub marked_db :
    db_of marked_log
    ≡ stored_live (pos 1 ∷ pos 2 ∷ []) ∷ stored_live (pos 1 ∷ negsuc 1 ∷ []) ∷ record { lits = pos 1 ∷ []; live = false } ∷ stored_live (pos 2 ∷ pos 1 ∷ []) ∷ []
marked_db = refl

pub marked_counts : (learned_count marked_log ≡ 1) × (live_count marked_log ≡ 0)
marked_counts = (refl, refl)

-- but one learnt clause is not so many that it may be forgotten
pub early_mark_is_not_honest : ¬ IsHonest marked_log
early_mark_is_not_honest h = absurd (omega (arith, h.1.1.1.0.enough))

-- the four clauses over x and y: propagation tells nothing until a literal is chosen, and then ends in a conflict
abbrev pub four_clauses : List StoredClause
four_clauses = stored_live (pos 1 ∷ pos 2 ∷ []) ∷ stored_live (pos 1 ∷ negsuc 1 ∷ []) ∷ stored_live (negsuc 0 ∷ pos 2 ∷ []) ∷ stored_live (negsuc 0 ∷ negsuc 1 ∷ []) ∷ []

two_open : (c : List ℤ) (one other : ℤ) → one ≢ other → stored_live c ≡ stored_live (one ∷ other ∷ []) → IsLoose [] c
two_open c one other differ same =
    subst (IsLoose []) (sym (ap (λ (k : StoredClause). k.lits) same))
    (inr
    (record {
      one = one;
      other = other;
      one_in = inl refl;
      other_in = inr (inl refl);
      differ = differ;
      one_open = λ i. i;
      other_open = λ i. i;
    }))

nothing_to_propagate : IsFixpoint four_clauses []
nothing_to_propagate c (inl same) = two_open c (pos 1) (pos 2) (λ e. cc) same
nothing_to_propagate c (inr (inl same)) = two_open c (pos 1) (negsuc 1) (λ e. cc) same
nothing_to_propagate c (inr (inr (inl same))) = two_open c (negsuc 0) (pos 2) (λ e. cc) same
nothing_to_propagate c (inr (inr (inr (inl same)))) = two_open c (negsuc 0) (negsuc 1) (λ e. cc) same
nothing_to_propagate c (inr (inr (inr (inr none)))) = absurd none

pub four_clauses_are_undecided : Undecided four_clauses []
four_clauses_are_undecided =
    record {
      list = (pos 2, Consequence) ∷ (pos 1, Choice) ∷ [];
      marks = (
        other_from (pos 2) (pos 1) (λ e. cc),
        other_from (negsuc 1) (pos 1) (λ e. cc),
        record {
          clause = negsuc 0 ∷ pos 2 ∷ [];
          live = inr (inr (inl refl));
          has = inr (inl refl);
          others = λ l i. elim i [ inl same ↦ inr (inl (ap neg_ℤ same)) | inr (inl same) ↦ inl same | inr (inr none) ↦ absurd none ];
        },
        (λ i. i, λ i. i, (λ l i. i, nothing_to_propagate), tt),
      );
      chosen = (pos 1, inr (inl refl));
      clause = negsuc 0 ∷ negsuc 1 ∷ [];
      live = inr (inr (inr (inl refl)));
      clashes = λ l i. elim i [ inl same ↦ inr (inl (ap neg_ℤ same)) | inr (inl same) ↦ inl (ap neg_ℤ same) | inr (inr none) ↦ absurd none ];
    }
