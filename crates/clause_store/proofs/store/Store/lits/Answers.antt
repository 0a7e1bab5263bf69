use Rattle.std.proofs.Common.{◌≡◌, ◌≤◌, ◌<◌, ◌+◌, ◌-◌, ◌∙◌, List, ℕ, ℤ, length, ap, ap₂, subst, sym, slice_range, arith}
use Rattle.std.proofs.lemmas.List.{length-map, get_or-map}
use Rattle.clause_store.specs.Clauses.{Clauses, clause_at, no_clause}
use Rattle.clause_store.specs.Inner.{store_of, cut_by}
use Rattle.sat_base.specs.Literals.{AreLiterals}
use Rattle.clause_store.proofs.RecordLemmas.{over_cut}
use Rattle.clause_store.proofs.store.Store.lits.Goals as goal

-- the clause is cut from literals over the variables
pub returns-clause-over : goal.returns-clause-over
returns-clause-over c =
    let r = c.index-record.result.now in
    let end = r.start + c.literals.result in
    subst (λ (store : Clauses). AreLiterals store.vars (slice_range c.deref.result.now r.start end)) c.self.view_is
    (subst (λ (lits : List ℤ). AreLiterals c.self.inside.vars (slice_range lits r.start end)) (sym c.deref.ensures.value)
    (over_cut c.self.inside.vars c.self.inside.lits.items r.start end c.self.invariant.over))

-- the record cuts the literals of its clause
pub returns-clause-lits : goal.returns-clause-lits
returns-clause-lits c =
    let a = c.self.inside in
    let r = c.index-record.result.now in
    let records = a.records.items in
    let le : c.args.id ≤ length (store_of a).clauses = subst (λ (s : Clauses). c.args.id ≤ length s.clauses) (sym c.self.view_is) c.requires.within in
    let i : c.args.id - 1 < length records = omega (arith, le, length-map records (cut_by a.lits.items), c.requires.from_one) in
    let at : clause_at (store_of a).clauses c.args.id ≡ cut_by a.lits.items r =
    get_or-map (cut_by a.lits.items) records (c.args.id - 1) r no_clause i ∙ ap (cut_by a.lits.items) (sym c.index-record.ensures) in
    rw (← c.self.view_is, at) (ap₂ (λ (ls : List ℤ) (n : ℕ). slice_range ls r.start (r.start + n)) c.deref.ensures.value c.literals.ensures)
