use Rattle.std.proofs.Common.{◌≤◌, ◌<◌, ◌-◌, length, length-set, arith, subst, sym, refl, set, ◌∙◌}
use Rattle.std.proofs.lemmas.List.{length-map}
use Rattle.clause_store.specs.Clauses.{Clauses}
use Rattle.clause_store.specs.Links.{link_of}
use Rattle.std.proofs.lemmas.List.Elements.{All-set}
use Rattle.clause_store.specs.declared.store.ClauseRecord.{ClauseRecord}
use Rattle.clause_store.specs.Inner.{store_of, cut_by, watched_by, IsWithin, HasMix}
use Rattle.clause_store.proofs.RecordLemmas.{laid_set}
use Rattle.clause_store.proofs.NodeLemmas.{table-set_same, table-set_other, map-kept}
use Rattle.clause_store.proofs.store.Store.set_next.Goals as goal

pub returns-clause-set : goal.returns-clause-set
returns-clause-set c =
    let a = c.self.inside in
    let r = c.index_mut-record.result.now in
    let records = a.records.items in
    let le : c.args.id ≤ length (store_of a).clauses = subst (λ (s : Clauses). c.args.id ≤ length s.clauses) (sym c.self.view_is) c.requires.id.within in
    let within : c.args.id ≤ length records = omega (arith, le, length-map records (cut_by a.lits.items)) in
    let i : c.args.id - 1 < length records = omega (arith, c.requires.id.from_one) in
    let safe = subst (λ (x : ClauseRecord). IsWithin a.vars (length a.lits.items) (length records) x) (sym c.index_mut-record.ensures.value) (c.self.invariant.within (c.args.id - 1) r i) in
    table-set_same (λ x. x.next) records _ r c.args.id c.args.place _ _ refl c.requires.place c.requires.id.from_one within c.index_mut-record.ensures.value safe.two_next ∙ c.number_of-next.ensures

pub returns-clause-others : goal.returns-clause-others
returns-clause-others c = λ m ne.
    let a = c.self.inside in
    let r = c.index_mut-record.result.now in
    let records = a.records.items in
    let le : c.args.id ≤ length (store_of a).clauses = subst (λ (s : Clauses). c.args.id ≤ length s.clauses) (sym c.self.view_is) c.requires.id.within in
    let within : c.args.id ≤ length records = omega (arith, le, length-map records (cut_by a.lits.items)) in
    rw (← c.self.view_is) (table-set_other (λ x. x.next) records _ r c.args.id c.args.place _ _ refl c.requires.place c.requires.id.from_one within c.index_mut-record.ensures.value m ne)

pub returns-clause-rest : goal.returns-clause-rest
returns-clause-rest c =
    let a = c.self.inside in
    let r = c.index_mut-record.result.now in
    let records = a.records.items in
    let y : ClauseRecord = record { start = r.start; watched = r.watched; next = set r.next c.args.place c.number_of-next.result; third = r.third; shape = r.shape } in
    rw (
      ← c.self.view_is,
      map-kept (cut_by a.lits.items) records y r (c.args.id - 1) c.index_mut-record.ensures.value refl,
      map-kept watched_by records y r (c.args.id - 1) c.index_mut-record.ensures.value refl,
    ) refl

pub invariant_of-self : goal.invariant_of-self
invariant_of-self c =
    let a = c.self.inside in
    let inv = c.self.invariant in
    let r = c.index_mut-record.result.now in
    let records = a.records.items in
    let le : c.args.id ≤ length (store_of a).clauses = subst (λ (s : Clauses). c.args.id ≤ length s.clauses) (sym c.self.view_is) c.requires.id.within in
    let within : c.args.id ≤ length records = omega (arith, le, length-map records (cut_by a.lits.items)) in
    let i : c.args.id - 1 < length records = omega (arith, within, c.requires.id.from_one) in
    let safe = subst (λ (x : ClauseRecord). IsWithin a.vars (length a.lits.items) (length records) x) (sym c.index_mut-record.ensures.value) (inv.within (c.args.id - 1) r i) in
    let y : ClauseRecord = record { start = r.start; watched = r.watched; next = set r.next c.args.place c.number_of-next.result; third = r.third; shape = r.shape } in
    let to : c.number_of-next.result ≤ length records = omega (arith, c.number_of-next.ensures, subst (λ (s : Clauses). link_of c.args.to ≤ length s.clauses) (sym c.self.view_is) c.requires.to.within, length-map records (cut_by a.lits.items)) in
    let fits : IsWithin a.vars (length a.lits.items) (length records) y = record {
      within = safe.within;
      watched = safe.watched;
      next = All-set (λ id. id ≤ length records) r.next c.args.place c.number_of-next.result to safe.next;
      two_watched = safe.two_watched;
      two_next = length-set r.next c.args.place c.number_of-next.result ∙ safe.two_next;
    } in
    laid_set a (c.args.id - 1) y r inv c.index_mut-record.ensures.value refl fits (subst (λ (x : ClauseRecord). HasMix a.lits.items x) (sym c.index_mut-record.ensures.value) (inv.mixes (c.args.id - 1) r i))
