use Rattle.std.proofs.Common.{◌≤◌, ◌∙◌, ◌-◌, length, arith, subst, sym}
use Rattle.std.proofs.lemmas.List.{length-map}
use Rattle.clause_store.specs.Clauses.{Clauses}
use Rattle.clause_store.specs.declared.store.ClauseRecord.{ClauseRecord}
use Rattle.clause_store.specs.Inner.{store_of, cut_by, IsWithin}
use Rattle.clause_store.proofs.NodeLemmas.{table-read}
use Rattle.clause_store.proofs.store.Store.next.Goals as goal

pub returns-clause-next : goal.returns-clause-next
returns-clause-next c =
    let a = c.self.inside in
    let r = c.index-record.result.now in
    let records = a.records.items in
    let le : c.args.id ≤ length (store_of a).clauses = subst (λ (s : Clauses). c.args.id ≤ length s.clauses) (sym c.self.view_is) c.requires.id.within in
    let within : c.args.id ≤ length records = omega (arith, le, length-map records (cut_by a.lits.items)) in
    let safe = subst (λ (x : ClauseRecord). IsWithin a.vars (length a.lits.items) (length records) x) (sym c.index-record.ensures) (c.self.invariant.within (c.args.id - 1) r (omega (arith, within, c.requires.id.from_one))) in
    rw (← c.self.view_is) (c.id_or_none.ensures.id ∙ grind arith ∙ sym (table-read (λ x. x.next) records r c.args.id c.args.place 0 0 c.requires.place c.requires.id.from_one within c.index-record.ensures safe.two_next))
