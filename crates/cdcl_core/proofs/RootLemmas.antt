-- Level 0, where the assumed literals do not matter.
use Rattle.std.proofs.Common.{◌≡◌, ℕ, true, List, [], ◌∷◌, ◌++◌, refl, sym, ◌∙◌, ap, subst, arith}
use Rattle.std.specs.Prelude.{ℤ}
use Rattle.sat_base.specs.Literals.{AreLiterals}
use Rattle.sat_base.specs.Database.{StoredClause}
use Rattle.trail_book.specs.declared.entry.Entry.{Entry}
use Rattle.trail_book.specs.Trail.{top, keep, IsTrail}
use Rattle.trail_book.proofs.TrailLemmas.{top-keep, IsTrail-keep}
use Rattle.propagate.specs.Propagation.{Grows}
use Rattle.lrat_steps.specs.Log.{LogStep, Input}
use Rattle.lrat_steps.proofs.LogLemmas.{db_of-push, honest-input}
use Rattle.cdcl_core.specs.State.{IsState, IsRoot}
use Rattle.propagate.proofs.GrowsLemmas.{top_grows}
use Rattle.cdcl_core.proofs.SearchLemmas.{sound_root, sound_keep, sound_learned}
use Rattle.cdcl_core.proofs.StateLemmas.{over-push, grown_state}

-- at first there is nothing
pub root_first : (vars : ℕ) → IsRoot vars [] [] []
root_first vars = record {
  state = record { recorded = record { same = refl; honest = tt; over = λ c i. absurd i }; trail = tt; sound = tt; levels = omega arith };
  level = refl;
}

pub root_start : (vars : ℕ) (db : List StoredClause) (log : List LogStep) (es : List Entry) (assumed : List ℤ) → IsRoot vars db log es → IsState vars db log es assumed 0
root_start vars db log es assumed r =
    let s = r.state in record { recorded = s.recorded; trail = s.trail; sound = sound_root db [] assumed 0 0 es r.level s.sound; levels = s.levels }

pub root_of : (vars : ℕ) (db : List StoredClause) (log : List LogStep) (es : List Entry) (assumed : List ℤ) (count : ℕ) → IsState vars db log es assumed count → top es ≡ 0 → IsRoot vars db log es
root_of vars db log es assumed count s level = record {
  state = record { recorded = s.recorded; trail = s.trail; sound = sound_root db assumed [] count 0 es level s.sound; levels = omega arith };
  level = level;
}

pub root_end : (vars : ℕ) (db : List StoredClause) (log : List LogStep) (es : List Entry) (assumed : List ℤ) (count : ℕ) → IsState vars db log es assumed count → IsRoot vars db log (keep 0 es)
root_end vars db log es assumed count s =
    let most = top-keep 0 es in
    let level : top (keep 0 es) ≡ 0 = omega (arith, most) in
    root_of vars db log (keep 0 es) assumed 0
    (record { recorded = s.recorded; trail = IsTrail-keep vars 0 es s.trail; sound = sound_root db assumed assumed count 0 (keep 0 es) level (sound_keep db assumed count 0 es s.sound); levels = omega arith })
    level

pub root_add : (vars : ℕ) (db : List StoredClause) (log : List LogStep) (es : List Entry) (lits : List ℤ) → IsRoot vars db log es → AreLiterals vars lits
    → IsRoot vars (db ++ record { lits = lits; live = true } ∷ []) (log ++ Input lits ∷ []) es
root_add vars db log es lits r over =
    let s = r.state in
    let level = r.level in
    record {
      state = record {
        recorded = record {
          same = db_of-push log (Input lits) ∙ ap (λ (k : List StoredClause). k ++ record { lits = lits; live = true } ∷ []) s.recorded.same;
          honest = honest-input log lits s.recorded.honest;
          over = over-push vars db (record { lits = lits; live = true }) s.recorded.over over;
        };
        trail = s.trail;
        sound = sound_learned db lits [] 0 es (λ up. absurd (omega (arith, up, level))) s.sound;
        levels = s.levels;
      };
      level = level;
    }

-- what the clauses force there
pub root_grows : (vars : ℕ) (db : List StoredClause) (log : List LogStep) (old es : List Entry) → IsRoot vars db log old → Grows db old es → IsTrail vars es → IsRoot vars db log es
root_grows vars db log old es r grows trail = record {
  state = grown_state vars db log old es [] 0 r.state grows trail;
  level = top_grows db old es grows ∙ r.level;
}

pub root_is : (vars w : ℕ) (db db2 : List StoredClause) (log log2 : List LogStep) (es es2 : List Entry) → w ≡ vars → db2 ≡ db → log2 ≡ log → es2 ≡ es → IsRoot vars db log es → IsRoot w db2 log2 es2
root_is vars w db db2 log log2 es es2 a b c d r =
    subst (λ (x : ℕ). IsRoot x db2 log2 es2) (sym a)
    (subst (λ (x : List StoredClause). IsRoot vars x log2 es2) (sym b)
    (subst (λ (x : List LogStep). IsRoot vars db x es2) (sym c) (subst (λ (x : List Entry). IsRoot vars db log x) (sym d) r)))
