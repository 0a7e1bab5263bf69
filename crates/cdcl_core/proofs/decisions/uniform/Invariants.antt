use Rattle.std.proofs.Common.{◌≡◌, ◌<◌, ℕ, length, true, false}
use Rattle.std.specs.Prelude.{slice_index_or}
use Rattle.cdcl_core.proofs.decisions.uniform.Given as goal

-- the variables so far are true
abbrev pub invariant-loop-index : goal.invariant-loop-index
invariant-loop-index l = record {
  len : length l.builder ≡ l.vars;
  values : (index : ℕ) → index < l.index → slice_index_or l.builder index false ≡ true;
}
