use Rattle.std.proofs.Common.{◌≡◌, ◌<◌, ◌+◌, ◌∙◌, ℕ, sym, subst, arith, length}
use Rattle.std.proofs.lemmas.List.{length-map}
use Rattle.lrat_check.specs.Refusal.{last_id}
use Rattle.lrat_check.specs.State.{State}
use Rattle.lrat_check.specs.Ids.{cut_by}
use Rattle.lrat_check.proofs.LayoutLemmas.{last_numbered}
use Rattle.lrat_check.proofs.clauses.ClauseList.next_id.Goals as goal

-- the last id is the number of the clauses
pub returns-clause-rises : goal.returns-clause-rises
returns-clause-rises c =
    let a = c.self.inside in
    let all : length a.records.items ≡ a.inputs =
    sym (length-map a.records.items (cut_by a.lits.items)) ∙ subst (λ (s : State). length s.known ≡ s.inputs) (sym c.self.view_is) c.requires in
    let count : c.len.result ≡ length a.records.items = grind arith in
    let below = last_numbered a.vars a.inputs a.input_lits a.lits.items a.records.items c.self.invariant all in
    subst (λ (n : ℕ). last_id c.args.self.now.known < n + 1) (sym count)
    (subst (λ (s : State). last_id s.known < length a.records.items + 1) c.self.view_is below)
