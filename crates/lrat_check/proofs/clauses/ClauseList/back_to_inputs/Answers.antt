use Rattle.lrat_check.proofs.LayoutLemmas.{cuts_after_cut}
use Rattle.std.proofs.Common.{List, ℤ, ap, ap₂, ◌∙◌, map, take}
use Rattle.lrat_check.specs.State.{State}
use Rattle.lrat_check.specs.Ids.{cut_by}
use Rattle.lrat_check.specs.declared.clauses.ClauseRecord.{ClauseRecord}
use Rattle.lrat_check.proofs.clauses.ClauseList.back_to_inputs.Goals as goal

-- the clauses that were given are cut from the literals that came with them
pub returns-clause-known : goal.returns-clause-known
returns-clause-known c =
    let a = c.self.inside in
    ap₂ (λ (ls : List ℤ) (rs : List ClauseRecord). map (cut_by ls) rs) c.truncate-2.ensures.items c.truncate.ensures.items
    ∙ cuts_after_cut a.lits.items a.input_lits a.inputs a.records.items c.self.invariant.lits_counted c.self.invariant.inputs_within
    ∙ ap (λ (s : State). take s.inputs s.known) c.self.view_is
