use Rattle.std.proofs.Common.{◌≤◌, ◌<◌, ◌-◌, length, arith, subst, sym, refl, ◌∙◌}
use Rattle.std.proofs.lemmas.List.{length-map}
use Rattle.clause_store.specs.Clauses.{Clauses}
use Rattle.clause_store.specs.declared.store.ClauseRecord.{ClauseRecord}
use Rattle.std.proofs.lemmas.Bool.{false≢true}
use Rattle.clause_store.specs.Inner.{store_of, cut_by, watched_by, IsWithin, HasMix}
use Rattle.clause_store.proofs.RecordLemmas.{laid_set, cut_same, cuts_same, mix_same}
use Rattle.clause_store.proofs.NodeLemmas.{row-same, row-other, map-kept, unwatched_if}
use Rattle.clause_store.proofs.store.Store.unwatch.Goals as goal

pub returns-clause-set : goal.returns-clause-set
returns-clause-set c =
    let a = c.self.inside in
    let r = c.index_mut-record.result.now in
    let records = a.records.items in
    let le : c.args.id ≤ length (store_of a).clauses = subst (λ (s : Clauses). c.args.id ≤ length s.clauses) (sym c.self.view_is) c.requires.within in
    let within : c.args.id ≤ length records = omega (arith, le, length-map records (cut_by a.lits.items)) in
    let y : ClauseRecord = record { start = r.start; watched = r.watched; next = r.next; third = r.third; shape = c.unwatched-record.result } in
    row-same watched_by records y c.args.id _ c.requires.from_one within ∙ unwatched_if y c.unwatched-record.ensures.unwatched

pub returns-clause-others : goal.returns-clause-others
returns-clause-others c = λ i ne.
    let a = c.self.inside in
    let r = c.index_mut-record.result.now in
    let y : ClauseRecord = record { start = r.start; watched = r.watched; next = r.next; third = r.third; shape = c.unwatched-record.result } in
    rw (← c.self.view_is) (row-other watched_by a.records.items y c.args.id i _ c.requires.from_one ne)

pub returns-clause-rest : goal.returns-clause-rest
returns-clause-rest c =
    let a = c.self.inside in
    let r = c.index_mut-record.result.now in
    let records = a.records.items in
    let y : ClauseRecord = record { start = r.start; watched = r.watched; next = r.next; third = r.third; shape = c.unwatched-record.result } in
    rw (
      ← c.self.view_is,
      map-kept (cut_by a.lits.items) records y r (c.args.id - 1) c.index_mut-record.ensures.value (cut_same a.lits.items y r refl c.unwatched-record.ensures.literals c.unwatched-record.ensures.live),
      map-kept (λ x. x.next) records y r (c.args.id - 1) c.index_mut-record.ensures.value refl,
    ) refl

pub invariant_of-self : goal.invariant_of-self
invariant_of-self c =
    let a = c.self.inside in
    let inv = c.self.invariant in
    let r = c.index_mut-record.result.now in
    let records = a.records.items in
    let le : c.args.id ≤ length (store_of a).clauses = subst (λ (s : Clauses). c.args.id ≤ length s.clauses) (sym c.self.view_is) c.requires.within in
    let i : c.args.id - 1 < length records = omega (arith, le, length-map records (cut_by a.lits.items), c.requires.from_one) in
    let safe = subst (λ (x : ClauseRecord). IsWithin a.vars (length a.lits.items) (length records) x) (sym c.index_mut-record.ensures.value) (inv.within (c.args.id - 1) r i) in
    let mixed = subst (λ (x : ClauseRecord). HasMix a.lits.items x) (sym c.index_mut-record.ensures.value) (inv.mixes (c.args.id - 1) r i) in
    let y : ClauseRecord = record { start = r.start; watched = r.watched; next = r.next; third = r.third; shape = c.unwatched-record.result } in
    laid_set a (c.args.id - 1) y r inv c.index_mut-record.ensures.value (cuts_same a.lits.items y r refl c.unwatched-record.ensures.literals)
    (record {
      within = omega (arith, safe.within, c.unwatched-record.ensures.literals);
      watched = λ e. absurd (false≢true (sym c.unwatched-record.ensures.unwatched ∙ e));
      next = safe.next;
      two_watched = safe.two_watched;
      two_next = safe.two_next;
    })
    (mix_same a.lits.items y r refl c.unwatched-record.ensures.literals refl mixed)
