use Rattle.std.proofs.Common.{◌≡◌, ◌<◌, ◌++◌, ◌∷◌, ◌∙◌, [], List, ℤ, ap, sym, subst, arith, length}
use Rattle.sat_base.specs.Literals.{AreLiterals}
use Rattle.lrat_check.specs.Refusal.{last_id}
use Rattle.lrat_check.specs.State.{State}
use Rattle.lrat_check.specs.Inner.{AreLaidOut, state_of}
use Rattle.lrat_check.specs.declared.clauses.ClauseRecord.{ClauseRecord}
use Rattle.lrat_check.proofs.IdLemmas.{cuts_after_add}
use Rattle.lrat_check.proofs.LayoutLemmas.{laid_out_push}
use Rattle.lrat_check.proofs.clauses.ClauseList.add.Goals as goal

-- the id is above the last, and the literals come behind all others
pub invariant_of-self-2 : goal.invariant_of-self-2
invariant_of-self-2 c =
    let a = c.self.inside in
    let r : ClauseRecord = record { id = c.args.id; start = c.len-start.result; end = c.len-end.result } in
    let lits_are : c.extend_from_slice.new.self.items ≡ a.lits.items ++ c.args.lits.now = c.in_ok-extend_from_slice.ensures.items in
    let records_are : c.push_reserved.new.self.items ≡ a.records.items ++ r ∷ [] =
    c.push_reserved.ensures.items ∙ ap (λ (rs : List ClauseRecord). rs ++ r ∷ []) c.in_ok-reserve.ensures.items in
    let over : AreLiterals a.vars c.args.lits.now = subst (λ (s : State). AreLiterals s.vars c.args.lits.now) (sym c.self.view_is) c.requires.over in
    let rises : last_id (state_of a).known < c.args.id = subst (λ (s : State). last_id s.known < c.args.id) (sym c.self.view_is) c.requires.rises in
    let ends : c.len-end.result ≡ length (a.lits.items ++ c.args.lits.now) = grind arith in
    subst (λ (rs : List ClauseRecord). AreLaidOut a.vars a.inputs a.input_lits c.extend_from_slice.new.self.items rs) (sym records_are)
    (subst (λ (ls : List ℤ). AreLaidOut a.vars a.inputs a.input_lits ls (a.records.items ++ r ∷ [])) (sym lits_are)
    (laid_out_push a.vars a.inputs a.input_lits a.lits.items c.args.lits.now a.records.items r c.self.invariant over rises (grind arith) ends))

-- the record of the new clause cuts just its literals, and all others what they cut before
pub returns-clause-added : goal.returns-clause-added
returns-clause-added c = grind (arith, cuts_after_add)
