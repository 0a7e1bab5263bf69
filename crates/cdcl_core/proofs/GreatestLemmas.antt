-- A model whose decisions were all positive, and which makes true what has no value, has none above it.
use Rattle.std.proofs.Common.{◌≡◌, ◌⊎◌, ℕ, zero, suc, ◌∷◌, ◌+◌, ◌-◌, ◌<◌, Bool, true, false, not, List, [], length, Option, Some, None, refl, sym, ◌∙◌, ap, subst, inl, inr, arith}
use Rattle.std.specs.Prelude.{ℤ, pos, neg_ℤ, slice_index_or}
use Rattle.std.proofs.lemmas.Bool.{false≢true}
use Rattle.sat_base.specs.Members.{In}
use Rattle.sat_base.specs.Literals.{var_of, literal_true, clause_true}
use Rattle.sat_base.specs.Database.{StoredClause, IsLive}
use Rattle.sat_base.specs.Units.{HasValue}
use Rattle.sat_base.proofs.Members.{any_from}
use Rattle.sat_base.proofs.FollowsLemmas.{Holds, literal_true-neg}
use Rattle.trail_book.specs.declared.entry.Entry.{Entry}
use Rattle.trail_book.specs.Trail.{trues, top}
use Rattle.trail_book.specs.Order.{IsPositive}
use Rattle.trail_book.proofs.TrailLemmas.{trail_vars}
use Rattle.lrat_steps.specs.Log.{LogStep, db_of, inputs_of}
use Rattle.lrat_steps.proofs.LogLemmas.{input_in}
use Rattle.lrat_steps.proofs.SoundLemmas.{all_hold}
use Rattle.cdcl_core.specs.State.{IsSoundEntry, IsSound, IsPositiveAbove, ArePositive, IsState}
use Rattle.cdcl_core.specs.Answers.{IsGreatestModel}
use Rattle.cdcl_core.proofs.StateLemmas.{literal_at}

-- an assignment makes these literals true
abbrev pub MakesTrue : List Bool → List ℤ → Type 0
MakesTrue assign lits = (l : ℤ) → In l lits → literal_true assign l ≡ true

abbrev pub LiveHold : List Bool → List StoredClause → Type 0
LiveHold assign db = (c : List ℤ) → IsLive db c → Holds assign c

-- what is true stands in the list
index_within : (xs : List Bool) (index : ℕ) → slice_index_or xs index false ≡ true → index < length xs
index_within [] index h = absurd (false≢true h)
index_within (x ∷ xs) zero h = omega arith
index_within (x ∷ xs) (suc index) h = let rest = index_within xs index h in omega (arith, rest)

not_both : (b : Bool) → b ≡ true → not b ≡ true → ⊥
not_both true h k = false≢true k
not_both false h k = false≢true h

-- where the positive literals of the trail are true, so is each that was forced
pub agrees : (db : List StoredClause) (count : ℕ) (other : List Bool) (es : List Entry) → IsSound db [] count es → ArePositive count es
    → LiveHold other db → ((l : ℤ) → In l (trues es) → IsPositive l → literal_true other l ≡ true) → MakesTrue other (trues es)
agrees db count other [] s ps hold above l i = absurd i
agrees db count other (e ∷ es) s ps hold above l (inr i) = agrees db count other es s.2 ps.1 hold (λ m j. above m (inr j)) l i
agrees db count other (e ∷ es) s ps hold above l (inl same) =
    subst (λ (m : ℤ). literal_true other m ≡ true) (sym same) (go (agrees db count other es s.2 ps.1 hold (λ m j. above m (inr j))) e.reason s.0 ps.0)
  where
    go : MakesTrue other (trues es) → (r : Option ℕ) → IsSoundEntry db [] count es e.lit r → IsPositiveAbove count (top es + 1) e.lit r → literal_true other e.lit ≡ true
    go earlier None (inl d, f) p = absurd d.1
    go earlier None (inr d, f) p = above e.lit (inl refl) (p d.0)
    go earlier (Some id) h p =
        let k = h.1 in
        let holds = hold k.clause k.live in
        let (m, j, t) = any_from (literal_true other) k.clause holds.is_true in
        elim (k.others m j) [
          | inl is ↦ subst (λ (n : ℤ). literal_true other n ≡ true) is t
          | inr neg ↦ absurd (not_both (literal_true other m) t (sym (literal_true-neg other m (holds.not_zero m j)) ∙ earlier (neg_ℤ m) neg))
        ]

-- an assignment that makes the inputs true makes the live clauses true
live_hold : (vars : ℕ) (db : List StoredClause) (log : List LogStep) (es : List Entry) (count : ℕ) (other : List Bool)
    → IsState vars db log es [] count → ((c : List ℤ) → In c (inputs_of log) → clause_true other c ≡ true) → LiveHold other db
live_hold vars db log es count other s inputs c live =
    let w = s.recorded in
    let there : IsLive (db_of log) c = subst (λ (k : List StoredClause). IsLive k c) (sym w.same) live in
    all_hold other log w.honest
    (λ d j.
    let at : IsLive db d = subst (λ (k : List StoredClause). IsLive k d) w.same (input_in log d w.honest j) in
    record {
      is_true = inputs d j;
      not_zero = λ l k. (literal_at vars d l (w.over (record { lits = d; live = true }) at) k).not_zero;
    }) (record { lits = c; live = true }) there

-- the variable of an index is a positive literal
value_of : (assign : List Bool) (index : ℕ) → literal_true assign (pos (index + 1)) ≡ slice_index_or assign index false
value_of assign index = let same : index + 1 - 1 ≡ index = omega arith in ap (λ (i : ℕ). slice_index_or assign i false) same

pub greatest_of : (vars : ℕ) (db : List StoredClause) (log : List LogStep) (es : List Entry) (assumed : List ℤ) (count : ℕ) (assign : List Bool)
    → IsState vars db log es assumed count → ArePositive count es → assumed ≡ []
    → ((index : ℕ) → index < vars → HasValue (trues es) (pos (index + 1)) ⊎ (slice_index_or assign index false ≡ true)) → MakesTrue assign (trues es)
    → IsGreatestModel vars (inputs_of log) assign
greatest_of vars db log es assumed count assign state positive none others made other len inputs below index on =
    let s : IsState vars db log es [] count = subst (λ (a : List ℤ). IsState vars db log es a count) none state in
    let agree : MakesTrue other (trues es) = agrees db count other es s.sound positive (live_hold vars db log es count other s inputs) (λ l i p. above l i p) in
    elim (others index within) [
      | inl (inl t) ↦ sym (value_of assign index) ∙ made (pos (index + 1)) t
      | inl (inr f) ↦ absurd (not_both (literal_true other (pos (index + 1))) (value_of other index ∙ on)
          (sym (literal_true-neg other (pos (index + 1)) (omega arith)) ∙ agree (neg_ℤ (pos (index + 1))) f))
      | inr free ↦ free
    ]
  where
    above : (l : ℤ) → In l (trues es) → IsPositive l → literal_true other l ≡ true
    above l i p =
        let low = (trail_vars vars es state.trail l i).not_zero in
        let one : var_of l - 1 + 1 ≡ var_of l = omega (arith, low) in
        let at : pos (var_of l - 1 + 1) ≡ l = ap pos one ∙ sym p in
        subst (λ (m : ℤ). literal_true other m ≡ true) at
        (value_of other (var_of l - 1) ∙ below (var_of l - 1) (sym (value_of assign (var_of l - 1)) ∙ subst (λ (m : ℤ). literal_true assign m ≡ true) (sym at) (made l i)))

    within : index < vars
    within = let lt = index_within other index on in omega (arith, lt, len)

-- what has no value is true where choices are positive
pub true_others : (vars : ℕ) (es : List Entry) (a : List Bool) (other : Bool) → other ≡ true
    → ((index : ℕ) → index < vars → HasValue (trues es) (pos (index + 1)) ⊎ (slice_index_or a index false ≡ other))
    → (index : ℕ) → index < vars → HasValue (trues es) (pos (index + 1)) ⊎ (slice_index_or a index false ≡ true)
true_others vars es a other asked others index h = elim (others index h) [ inl has ↦ inl has | inr free ↦ inr (free ∙ asked) ]
