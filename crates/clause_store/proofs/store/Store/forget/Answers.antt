use Rattle.std.proofs.Common.{◌≡◌, ◌≤◌, ◌<◌, ◌-◌, [], map, length, get_or, set, false, arith, subst, sym, ◌∙◌, ap, refl}
use Rattle.std.proofs.lemmas.List.{length-map, get_or-map, map-set}
use Rattle.sat_base.specs.Database.{StoredClause}
use Rattle.sat_base.specs.Forgotten.{not_live}
use Rattle.clause_store.specs.Clauses.{Clauses}
use Rattle.clause_store.specs.declared.store.ClauseRecord.{ClauseRecord}
use Rattle.clause_store.specs.Inner.{store_of, cut_by, watched_by, IsWithin, HasMix}
use Rattle.clause_store.proofs.RecordLemmas.{laid_set, cuts_same, mix_same, dead_cut}
use Rattle.clause_store.proofs.NodeLemmas.{map-kept, watched_same}
use Rattle.clause_store.proofs.store.Store.forget.Goals as goal

-- the record cuts the same literals, of a clause that is not live
pub returns-clause-clauses : goal.returns-clause-clauses
returns-clause-clauses c =
    let a = c.self.inside in
    let r = c.index_mut-record.result.now in
    let records = a.records.items in
    let low = c.requires.from_one in
    let le : c.args.id ≤ length (store_of a).clauses = subst (λ (s : Clauses). c.args.id ≤ length s.clauses) (sym c.self.view_is) c.requires.within in
    let within : c.args.id - 1 < length records = omega (arith, le, length-map records (cut_by a.lits.items)) in
    let y : ClauseRecord = record { start = r.start; watched = r.watched; next = r.next; third = r.third; shape = c.dead-record.result } in
    let none : StoredClause = record { lits = []; live = false } in
    let old : get_or (map (cut_by a.lits.items) records) (c.args.id - 1) none ≡ cut_by a.lits.items r =
    get_or-map (cut_by a.lits.items) records (c.args.id - 1) r none within ∙ ap (cut_by a.lits.items) (sym c.index_mut-record.ensures.value) in
    rw (← c.self.view_is)
    (map-set (cut_by a.lits.items) records (c.args.id - 1) y
    ∙ ap (set (map (cut_by a.lits.items) records) (c.args.id - 1)) (dead_cut a.lits.items y r refl c.dead-record.ensures.literals c.dead-record.ensures.dead)
    ∙ ap (λ (k : StoredClause). set (map (cut_by a.lits.items) records) (c.args.id - 1) (not_live k)) (sym old))

-- and keeps what it watches, and its links
pub returns-clause-rest : goal.returns-clause-rest
returns-clause-rest c =
    let a = c.self.inside in
    let r = c.index_mut-record.result.now in
    let records = a.records.items in
    let y : ClauseRecord = record { start = r.start; watched = r.watched; next = r.next; third = r.third; shape = c.dead-record.result } in
    rw (
      ← c.self.view_is,
      map-kept watched_by records y r (c.args.id - 1) c.index_mut-record.ensures.value (watched_same y r refl c.dead-record.ensures.watched),
      map-kept (λ x. x.next) records y r (c.args.id - 1) c.index_mut-record.ensures.value refl,
    ) refl

pub invariant_of-self : goal.invariant_of-self
invariant_of-self c =
    let a = c.self.inside in
    let inv = c.self.invariant in
    let r = c.index_mut-record.result.now in
    let records = a.records.items in
    let le : c.args.id ≤ length (store_of a).clauses = subst (λ (s : Clauses). c.args.id ≤ length s.clauses) (sym c.self.view_is) c.requires.within in
    let i : c.args.id - 1 < length records = omega (arith, le, length-map records (cut_by a.lits.items), c.requires.from_one) in
    let safe = subst (λ (x : ClauseRecord). IsWithin a.vars (length a.lits.items) (length records) x) (sym c.index_mut-record.ensures.value) (inv.within (c.args.id - 1) r i) in
    let mixed = subst (λ (x : ClauseRecord). HasMix a.lits.items x) (sym c.index_mut-record.ensures.value) (inv.mixes (c.args.id - 1) r i) in
    let y : ClauseRecord = record { start = r.start; watched = r.watched; next = r.next; third = r.third; shape = c.dead-record.result } in
    laid_set a (c.args.id - 1) y r inv c.index_mut-record.ensures.value (cuts_same a.lits.items y r refl c.dead-record.ensures.literals)
    (record {
      within = omega (arith, safe.within, c.dead-record.ensures.literals);
      watched = λ is. safe.watched (sym c.dead-record.ensures.watched ∙ is);
      next = safe.next;
      two_watched = safe.two_watched;
      two_next = safe.two_next;
    })
    (mix_same a.lits.items y r refl c.dead-record.ensures.literals refl mixed)
