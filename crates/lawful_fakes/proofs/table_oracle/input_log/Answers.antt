use Rattle.std.proofs.Common.{◌∙◌, ◌++◌, ◌∷◌, [], List, ap, subst, sym}
use Rattle.std.specs.Prelude.{ℤ}
use Rattle.gm_base.specs.Evidence.{with_selector}
use Rattle.lrat_steps.specs.Log.{Input, inputs_of, learned_count}
use Rattle.lrat_steps.specs.Honest.{IsHonest}
use Rattle.lrat_steps.proofs.LogLemmas.{inputs-push_input, honest-input, learned-push}
use Rattle.lawful_fakes.proofs.TableLemmas.{selectors_more}
use Rattle.lawful_fakes.proofs.table_oracle.input_log.Goals as goal

-- the next clause stands at the end
pub loop-at-preserved : goal.loop-at-preserved
loop-at-preserved c =
    let p = c.args.problem.now in
    let lits = with_selector p c.clause.result.now in
    let pushed = c.in_ok-push_clause.ensures in
    record {
      inputs =
          ap inputs_of pushed ∙ inputs-push_input c.loop-at.log lits
          ∙ ap (λ (cs : List (List ℤ)). cs ++ lits ∷ []) c.loop-at.invariant.inputs
          ∙ sym (selectors_more p c.loop-at.at c.clause.result.now c.clause.ensures.same);
      honest = subst IsHonest (sym pushed) (honest-input c.loop-at.log lits c.loop-at.invariant.honest);
      nothing = ap learned_count pushed ∙ learned-push c.loop-at.log (Input lits) ∙ c.loop-at.invariant.nothing;
    }
