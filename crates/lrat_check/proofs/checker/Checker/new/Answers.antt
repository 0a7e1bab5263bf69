use Rattle.std.proofs.Common.{◌∙◌, ◌+◌, ◌++◌, ◌∷◌, [], List, ℤ, ℕ, ap, ap₂, sym, arith, length}
use Rattle.lrat_check.proofs.KnownLemmas.{length-numbered, numbered_next}
use Rattle.lrat_check.proofs.checker.Checker.new.Goals as goal

pub add_input-requires-clause-no_steps : goal.add_input-requires-clause-no_steps
add_input-requires-clause-no_steps c =
    ap length c.loop-lits.invariant.known ∙ length-numbered c.loop-lits.lits-index 1 c.args.inputs.now (omega arith) ∙ sym c.loop-lits.invariant.inputs

pub loop-lits-preserved : goal.loop-lits-preserved
loop-lits-preserved c = record {
  vars = c.in_ok-add_input.ensures.vars ∙ c.loop-lits.invariant.vars;
  inputs = c.in_ok-add_input.ensures.inputs ∙ ap (λ (n : ℕ). n + 1) c.loop-lits.invariant.inputs;
  known = c.in_ok-add_input.ensures.added
      ∙ ap₂ (λ (known : List (ℕ × List ℤ)) (e : ℕ × List ℤ). known ++ e ∷ []) c.loop-lits.invariant.known
      (ap₂ (λ (n : ℕ) (ls : List ℤ). (n + 1, ls)) c.loop-lits.invariant.inputs (c.as_slice.ensures ∙ c.lits-item.is))
      ∙ sym (numbered_next c.loop-lits.lits-index 1 c.args.inputs.now c.lits-item.result (omega arith));
}
