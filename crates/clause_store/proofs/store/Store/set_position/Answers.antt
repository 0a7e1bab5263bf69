use Rattle.std.proofs.Common.{◌≤◌, ◌<◌, ◌-◌, length, arith, subst, sym, ◌∙◌, refl}
use Rattle.std.proofs.lemmas.List.{length-map}
use Rattle.clause_store.specs.Clauses.{Clauses}
use Rattle.clause_store.specs.declared.store.ClauseRecord.{ClauseRecord}
use Rattle.clause_store.specs.Inner.{store_of, cut_by, watched_by, IsWithin, HasMix}
use Rattle.clause_store.proofs.NodeLemmas.{map-kept}
use Rattle.clause_store.proofs.RecordLemmas.{long_cut, laid_set}
use Rattle.clause_store.proofs.store.Store.set_position.Goals as goal

-- no table shows the place
pub returns : goal.returns
returns c =
    let a = c.self.inside in
    let r = c.index_mut-record.result.now in
    let records = a.records.items in
    let y : ClauseRecord = record { start = r.start; watched = r.watched; next = r.next; third = c.third_or-record.result; shape = r.shape } in
    rw (
      ← c.self.view_is,
      map-kept (cut_by a.lits.items) records y r (c.args.id - 1) c.index_mut-record.ensures.value refl,
      map-kept watched_by records y r (c.args.id - 1) c.index_mut-record.ensures.value refl,
      map-kept (λ x. x.next) records y r (c.args.id - 1) c.index_mut-record.ensures.value refl,
    ) refl

-- of a clause of three literals the number stays
pub invariant_of-self : goal.invariant_of-self
invariant_of-self c =
    let a = c.self.inside in
    let inv = c.self.invariant in
    let r = c.index_mut-record.result.now in
    let records = a.records.items in
    let le : c.args.id ≤ length (store_of a).clauses = subst (λ (s : Clauses). c.args.id ≤ length s.clauses) (sym c.self.view_is) c.requires.within in
    let i : c.args.id - 1 < length records = omega (arith, le, length-map records (cut_by a.lits.items), c.requires.from_one) in
    let safe = subst (λ (x : ClauseRecord). IsWithin a.vars (length a.lits.items) (length records) x) (sym c.index_mut-record.ensures.value) (inv.within (c.args.id - 1) r i) in
    let mixed = subst (λ (x : ClauseRecord). HasMix a.lits.items x) (sym c.index_mut-record.ensures.value) (inv.mixes (c.args.id - 1) r i) in
    let y : ClauseRecord = record { start = r.start; watched = r.watched; next = r.next; third = c.third_or-record.result; shape = r.shape } in
    laid_set a (c.args.id - 1) y r inv c.index_mut-record.ensures.value refl
    (record { within = safe.within; watched = safe.watched; next = safe.next; two_watched = safe.two_watched; two_next = safe.two_next })
    (λ three. c.third_or-record.ensures (c.literals.ensures ∙ sym (long_cut a.vars (length records) a.lits.items r safe) ∙ three) ∙ mixed three)
