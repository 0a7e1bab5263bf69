use Rattle.std.proofs.Common.{◌≡◌, ◌≢◌, ◌≤◌, ◌<◌, ◌-◌, ◌∙◌, ℕ, ℤ, length, arith, ap₂, subst, sym, refl, set, get_or, Some, pos, get_or-set_same, get_or-set_other, length-set}
use Rattle.std.proofs.lemmas.List.{length-map}
use Rattle.clause_store.specs.Clauses.{Clauses}
use Rattle.clause_store.specs.declared.store.ClauseRecord.{ClauseRecord}
use Rattle.clause_store.specs.Inner.{store_of, cut_by, watched_by, IsWithin, HasMix}
use Rattle.sat_base.specs.Literals.{IsLiteral}
use Rattle.clause_store.proofs.RecordLemmas.{laid_set, cut_same, cuts_same, mix_same}
use Rattle.clause_store.proofs.NodeLemmas.{row-same, row-other, map-kept, pair-set, watched_if}
use Rattle.clause_store.proofs.store.Store.watch.Goals as goal

pub returns-clause-set : goal.returns-clause-set
returns-clause-set c =
    let a = c.self.inside in
    let r = c.index_mut-record.result.now in
    let records = a.records.items in
    let le : c.args.id ≤ length (store_of a).clauses = subst (λ (s : Clauses). c.args.id ≤ length s.clauses) (sym c.self.view_is) c.requires.id.within in
    let within : c.args.id ≤ length records = omega (arith, le, length-map records (cut_by a.lits.items)) in
    let i : c.args.id - 1 < length records = omega (arith, within, c.requires.id.from_one) in
    let safe = subst (λ (x : ClauseRecord). IsWithin a.vars (length a.lits.items) (length records) x) (sym c.index_mut-record.ensures.value) (c.self.invariant.within (c.args.id - 1) r i) in
    let y : ClauseRecord = record { start = r.start; watched = set (set r.watched 0 c.args.first) 1 c.args.second; next = r.next; third = r.third; shape = c.watched-record.result } in
    let ne : ◌≢◌ {A = ℕ} 0 1 = omega arith in
    let first : get_or (set (set r.watched 0 c.args.first) 1 c.args.second) 0 (pos 0) ≡ c.args.first =
    get_or-set_other (set r.watched 0 c.args.first) 1 0 c.args.second (pos 0) ne ∙ get_or-set_same r.watched 0 c.args.first (pos 0) (omega (arith, safe.two_watched))
    in
    let second : get_or (set (set r.watched 0 c.args.first) 1 c.args.second) 1 (pos 0) ≡ c.args.second =
    get_or-set_same (set r.watched 0 c.args.first) 1 c.args.second (pos 0) (omega (arith, safe.two_watched, length-set r.watched 0 c.args.first))
    in
    row-same watched_by records y c.args.id _ c.requires.id.from_one within ∙ watched_if y c.watched-record.ensures.watched ∙ ap₂ (λ (x z : ℤ). Some (x, z)) first second

pub returns-clause-others : goal.returns-clause-others
returns-clause-others c = λ i ne.
    let a = c.self.inside in
    let r = c.index_mut-record.result.now in
    let y : ClauseRecord = record { start = r.start; watched = set (set r.watched 0 c.args.first) 1 c.args.second; next = r.next; third = r.third; shape = c.watched-record.result } in
    rw (← c.self.view_is) (row-other watched_by a.records.items y c.args.id i _ c.requires.id.from_one ne)

pub returns-clause-rest : goal.returns-clause-rest
returns-clause-rest c =
    let a = c.self.inside in
    let r = c.index_mut-record.result.now in
    let records = a.records.items in
    let y : ClauseRecord = record { start = r.start; watched = set (set r.watched 0 c.args.first) 1 c.args.second; next = r.next; third = r.third; shape = c.watched-record.result } in
    rw (
      ← c.self.view_is,
      map-kept (cut_by a.lits.items) records y r (c.args.id - 1) c.index_mut-record.ensures.value (cut_same a.lits.items y r refl c.watched-record.ensures.literals c.watched-record.ensures.live),
      map-kept (λ x. x.next) records y r (c.args.id - 1) c.index_mut-record.ensures.value refl,
    ) refl

pub invariant_of-self : goal.invariant_of-self
invariant_of-self c =
    let a = c.self.inside in
    let inv = c.self.invariant in
    let r = c.index_mut-record.result.now in
    let records = a.records.items in
    let le : c.args.id ≤ length (store_of a).clauses = subst (λ (s : Clauses). c.args.id ≤ length s.clauses) (sym c.self.view_is) c.requires.id.within in
    let within : c.args.id ≤ length records = omega (arith, le, length-map records (cut_by a.lits.items)) in
    let i : c.args.id - 1 < length records = omega (arith, within, c.requires.id.from_one) in
    let safe = subst (λ (x : ClauseRecord). IsWithin a.vars (length a.lits.items) (length records) x) (sym c.index_mut-record.ensures.value) (inv.within (c.args.id - 1) r i) in
    let y : ClauseRecord = record { start = r.start; watched = set (set r.watched 0 c.args.first) 1 c.args.second; next = r.next; third = r.third; shape = c.watched-record.result } in
    let first = subst (λ (s : Clauses). IsLiteral s.vars c.args.first) (sym c.self.view_is) c.requires.first in
    let second = subst (λ (s : Clauses). IsLiteral s.vars c.args.second) (sym c.self.view_is) c.requires.second in
    let fits : IsWithin a.vars (length a.lits.items) (length records) y = record {
      within = omega (arith, safe.within, c.watched-record.ensures.literals);
      watched = λ is. pair-set (IsLiteral a.vars) r.watched c.args.first c.args.second safe.two_watched first second;
      next = safe.next;
      two_watched = length-set (set r.watched 0 c.args.first) 1 c.args.second ∙ length-set r.watched 0 c.args.first ∙ safe.two_watched;
      two_next = safe.two_next;
    } in
    laid_set a (c.args.id - 1) y r inv c.index_mut-record.ensures.value (cuts_same a.lits.items y r refl c.watched-record.ensures.literals) fits
    (mix_same a.lits.items y r refl c.watched-record.ensures.literals refl (subst (λ (x : ClauseRecord). HasMix a.lits.items x) (sym c.index_mut-record.ensures.value) (inv.mixes (c.args.id - 1) r i)))
