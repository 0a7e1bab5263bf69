-- Unit steps.
use Rattle.std.proofs.Common.{◌≡◌, ℕ, zero, suc, ◌-◌, false, List, [], ◌∷◌, map, length, Some, refl, sym, ◌∙◌, ap, subst, inl, inr, arith}
use Rattle.std.specs.Prelude.{ℤ, pos, negsuc, neg_ℤ, drop}
use Rattle.std.proofs.Math.IntN.{neg_ℤ-neg_ℤ}
use Rattle.std.proofs.lemmas.List.{length-map}
use Rattle.sat_base.specs.Members.{In}
use Rattle.sat_base.specs.Literals.{var_of}
use Rattle.sat_base.specs.Derivation.{clause_of}
use Rattle.sat_base.specs.Database.{StoredClause, known_of}
use Rattle.sat_base.specs.Units.{HasValue}
use Rattle.trail_book.specs.declared.entry.Entry.{Entry}
use Rattle.trail_book.specs.Trail.{Trail, trues, top, oldest, with_unit}
use Rattle.trail_book.proofs.TrailLemmas.{In-trues, trues-with_unit, top-with_unit, IsTrail-with_unit}
use Rattle.propagate.specs.Propagation.{Tells, IsDone}
use Rattle.propagate.specs.declared.propagated.Propagated.TheVariants as propagated
use Rattle.clause_store.specs.Clauses.{Clauses}
use Rattle.propagate.specs.declared.propagated.Propagated.{Propagated}
use Rattle.learn_step.specs.Reasons.{IsDecision}
use Rattle.lrat_steps.specs.Log.{LogStep}
use Rattle.cdcl_core.specs.State.{IsSoundEntry, IsSound, IsRoot}
use Rattle.cdcl_core.specs.declared.search.Search.{Search}
use Rattle.cdcl_core.specs.Search.{IsCoreAdded, KeepsValues}
use Rattle.cdcl_core.proofs.SearchLemmas.{sound_unit, root_undecided, tells_core}
use Rattle.cdcl_core.proofs.StateLemmas.{core_state, named_last}

-- the entry at a place of the trail
pub entry_in : (n : ℕ) (es : List Entry) (e : Entry) (low : List Entry) → oldest n es ≡ e ∷ low → In e es
entry_in n es e low is = from_drop (length es - n) es (subst (In e) (sym is) (inl refl))
  where
    from_drop : (k : ℕ) (xs : List Entry) → In e (drop k xs) → In e xs
    from_drop zero xs i = i
    from_drop (suc k) [] i = i
    from_drop (suc k) (x ∷ xs) i = inr (from_drop k xs i)

pub literal_in : (n : ℕ) (es : List Entry) (e : Entry) (low : List Entry) → oldest n es ≡ e ∷ low → In e.lit (trues es)
literal_in n es e low is = In-trues e es (entry_in n es e low is)

-- a reason names a clause
pub reason_named : (db : List StoredClause) (assumed : List ℤ) (count : ℕ) (es : List Entry) (e : Entry) (id : ℕ) → IsSound db assumed count es → In e es → e.reason ≡ Some id
    → (c : List ℤ) × (clause_of (known_of db) id ≡ Some c)
reason_named db assumed count [] e id s i is = absurd i
reason_named db assumed count (x ∷ xs) e id s (inr i) is = reason_named db assumed count xs e id s.2 i is
reason_named db assumed count (x ∷ xs) e id s (inl same) is =
    let r = subst (IsSoundEntry db assumed count xs x.lit) (sym (ap (λ (y : Entry). y.reason) same) ∙ is) s.0 in (r.0.clause, r.0.named)

pub has_value : (ts : List ℤ) (l : ℤ) → In l ts → HasValue ts (pos (var_of l))
has_value ts (pos v) i = inl i
has_value ts (negsuc v) i = inr i

-- at level 0 a core that begins with a literal is that literal
pub unit_named : (db new : List StoredClause) (log more : List LogStep) (es : List Entry) (l m : ℤ) (id : ℕ) → top es ≡ 0 → m ≡ neg_ℤ l → IsCoreAdded db new log more es (neg_ℤ m ∷ []) id
    → clause_of (known_of new) id ≡ Some (l ∷ [])
unit_named db new log more es l m id root turned r =
    let only : r.core.negated ≡ [] = none r.core.negated r.core.decided in
    let lits : r.lits ≡ l ∷ [] = r.core.is ∙ ap (λ (ls : List ℤ). neg_ℤ m ∷ ls) only ∙ ap (λ (k : ℤ). k ∷ []) (ap neg_ℤ turned ∙ neg_ℤ-neg_ℤ l) in
    ap (λ (k : List StoredClause). clause_of (known_of k) id) r.stored
    ∙ named_last db (record { lits = r.lits; live = false }) id (r.id_is ∙ ap length r.stored)
    ∙ ap Some lits
  where
    none : (ls : List ℤ) → ((k : ℤ) → In k ls → IsDecision es (neg_ℤ k)) → ls ≡ []
    none [] f = refl
    none (k ∷ ks) f = absurd (root_undecided es (neg_ℤ k) root (f k (inl refl)))

pub unit_root : (vars : ℕ) (db new : List StoredClause) (log more : List LogStep) (es : List Entry) (l m : ℤ) (id : ℕ) → IsRoot vars db log es → In l (trues es) → m ≡ neg_ℤ l
    → IsCoreAdded db new log more es (neg_ℤ m ∷ []) id → IsRoot vars new more (map (with_unit (var_of l) id) es)
unit_root vars db new log more es l m id r on turned added =
    let named = unit_named db new log more es l m id r.level turned added in
    let s = core_state vars db new log more es [] (neg_ℤ m ∷ []) 0 id r.state added in
    record {
      state = record {
        recorded = s.recorded;
        trail = IsTrail-with_unit vars (var_of l) id es s.trail;
        sound = sound_unit vars new [] 0 id l es s.trail on named s.sound;
        levels = omega arith;
      };
      level = top-with_unit (var_of l) id es ∙ r.level;
    }

pub unit_tells : (db new : List StoredClause) (log more : List LogStep) (es : List Entry) (start : List ℤ) (id v : ℕ) (p : Propagated) → IsCoreAdded db new log more es start id → Tells db (trues es) p
    → Tells new (trues (map (with_unit v id) es)) p
unit_tells db new log more es start id v p added t =
    subst (λ (ts : List ℤ). Tells new ts p) (sym (trues-with_unit v id es))
    (subst (λ (k : List StoredClause). Tells k (trues es) p) (sym added.stored) (tells_core db added.lits (trues es) p t))

-- all values have been propagated still
pub done_same : (s s' : Clauses) (t t' : Trail) (p : Propagated) → t'.done ≡ t.done → length t'.entries ≡ length t.entries → s'.false_id ≡ s.false_id → IsDone s t p → IsDone s' t' p
done_same s s' t t' propagated.Fixpoint done long none d = (done ∙ d.0 ∙ sym long, none ∙ d.1)
done_same s s' t t' (propagated.Conflict id) done long none d = tt

pub keeps-refl : (s : Search) → KeepsValues s s
keeps-refl s = record { trues_are = refl; levels_are = refl; reached_is = refl; tells = λ p t. t; all_done = λ p d. d }

pub keeps-join : (a b c : Search) → KeepsValues a b → KeepsValues b c → KeepsValues a c
keeps-join a b c h k = record {
  trues_are = k.trues_are ∙ h.trues_are;
  levels_are = k.levels_are ∙ h.levels_are;
  reached_is = k.reached_is ∙ h.reached_is;
  tells = λ p t. k.tells p (h.tells p t);
  all_done = λ p d. k.all_done p (h.all_done p d);
}

-- as many entries as literals
pub same_length : (es xs : List Entry) → trues xs ≡ trues es → length xs ≡ length es
same_length es xs is = sym (length-map xs (λ (e : Entry). e.lit)) ∙ ap length is ∙ length-map es (λ (e : Entry). e.lit)
