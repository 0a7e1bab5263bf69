-- A search that goes back, to its assumed levels or to a level above them.
use Rattle.std.proofs.Common.{ℕ, ◌≤◌, List, take, sym, subst, inl, inr, arith}
use Rattle.std.specs.Prelude.{ℤ}
use Rattle.std.proofs.lemmas.Bool.{cases_lt}
use Rattle.sat_base.specs.Units.{AllTrue}
use Rattle.sat_base.specs.Database.{StoredClause}
use Rattle.trail_book.specs.declared.entry.Entry.{Entry}
use Rattle.trail_book.specs.Trail.{trues, top, keep}
use Rattle.trail_book.proofs.TrailLemmas.{keep-whole, top-keep_exact, IsTrail-keep}
use Rattle.lrat_steps.specs.Log.{LogStep}
use Rattle.cdcl_core.specs.State.{IsSound, IsState}
use Rattle.cdcl_core.proofs.SearchLemmas.{sound_keep}
use Rattle.cdcl_core.proofs.StateLemmas.{reached_below}

pub state_restart : (vars : ℕ) (db : List StoredClause) (log : List LogStep) (es : List Entry) (assumed : List ℤ) (count level : ℕ) → count ≤ level → IsState vars db log es assumed count
    → IsState vars db log (keep level es) assumed count
state_restart vars db log es assumed count level above s = record {
  recorded = s.recorded;
  trail = IsTrail-keep vars level es s.trail;
  sound = sound_keep db assumed count level es s.sound;
  levels = elim (cases_lt level (top es)) [
    | inl below ↦ let now = top-keep_exact level es (omega (arith, below)) in omega (arith, now, above)
    | inr within ↦ subst (λ (xs : List Entry). count ≤ top xs) (sym (keep-whole level es within)) s.levels
  ];
}

-- all assumed literals stay true
pub reached_restart : (db : List StoredClause) (assumed : List ℤ) (count level reached : ℕ) (es : List Entry) → count ≤ level → IsSound db assumed count es
    → AllTrue (trues es) (take reached assumed) → AllTrue (trues (keep level es)) (take reached assumed)
reached_restart db assumed count level reached es above s all = elim (cases_lt level (top es)) [
  | inl below ↦ reached_below db assumed count level reached es s below (inr above)
  | inr within ↦ subst (λ (xs : List Entry). AllTrue (trues xs) (take reached assumed)) (sym (keep-whole level es within)) all
]
