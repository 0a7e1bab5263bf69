use Rattle.std.proofs.Common.{◌≡◌, ◌≤◌, ◌<◌, ◌+◌, ◌-◌, ◌∙◌, ap, ap₂, length, arith, subst, sym}
use Rattle.std.specs.Prelude.{ℕ, bit_xor}
use Rattle.std.proofs.lemmas.List.{length-map, get_or-map}
use Rattle.clause_store.specs.Clauses.{Clauses, clause_at, no_clause}
use Rattle.clause_store.specs.declared.store.ClauseRecord.{ClauseRecord}
use Rattle.clause_store.specs.Inner.{store_of, cut_by, HasMix}
use Rattle.clause_store.specs.Links.{row_of}
use Rattle.clause_store.specs.Shapes.{literals_in}
use Rattle.clause_store.proofs.RecordLemmas.{over_cut}
use Rattle.clause_store.proofs.ThirdLemmas.{found, is_left, none_left}
use Rattle.clause_store.proofs.store.Store.third.Goals as goal

-- the record has the mix of its clause, and of the row that is left comes the literal that is left
pub returns-then-literals-eq3-clause-left : goal.returns-then-literals-eq3-clause-left
returns-then-literals-eq3-clause-left c =
    let a = c.self.inside in
    let r = c.index-record.result.now in
    let records = a.records.items in
    let cut = (cut_by a.lits.items r).lits in
    let le : c.args.id ≤ length (store_of a).clauses = subst (λ (s : Clauses). c.args.id ≤ length s.clauses) (sym c.self.view_is) c.requires.within in
    let within : c.args.id ≤ length records = omega (arith, le, length-map records (cut_by a.lits.items)) in
    let i : c.args.id - 1 < length records = omega (arith, within, c.requires.from_one) in
    let at : clause_at (store_of a).clauses c.args.id ≡ cut_by a.lits.items r = get_or-map (cut_by a.lits.items) records (c.args.id - 1) r no_clause i ∙ ap (cut_by a.lits.items) (sym c.index-record.ensures) in
    let mixed : HasMix a.lits.items r = subst (λ (x : ClauseRecord). HasMix a.lits.items x) (sym c.index-record.ensures) (c.self.invariant.mixes (c.args.id - 1) r i) in
    let row : ℕ = bit_xor (bit_xor r.third c.row.result) c.row-then-literals-eq3.result in
    let is : row ≡ bit_xor (bit_xor r.third (row_of c.args.first)) (row_of c.args.second) = ap₂ (λ (x y : ℕ). bit_xor (bit_xor r.third x) y) c.row.ensures c.row-then-literals-eq3.ensures in
    let all = found a.vars r.third row cut c.args.first c.args.second c.literal_of.result (over_cut a.vars a.lits.items r.start (r.start + literals_in r.shape) c.self.invariant.over) (λ two. mixed two.three) is c.literal_of.ensures in
    rw (← c.self.view_is, at) (is_left cut c.args.first c.args.second row c.literal_of.result all)

pub returns-then-literals-eq3-clause-none : goal.returns-then-literals-eq3-clause-none
returns-then-literals-eq3-clause-none c =
    let a = c.self.inside in
    let r = c.index-record.result.now in
    let records = a.records.items in
    let cut = (cut_by a.lits.items r).lits in
    let le : c.args.id ≤ length (store_of a).clauses = subst (λ (s : Clauses). c.args.id ≤ length s.clauses) (sym c.self.view_is) c.requires.within in
    let within : c.args.id ≤ length records = omega (arith, le, length-map records (cut_by a.lits.items)) in
    let i : c.args.id - 1 < length records = omega (arith, within, c.requires.from_one) in
    let at : clause_at (store_of a).clauses c.args.id ≡ cut_by a.lits.items r = get_or-map (cut_by a.lits.items) records (c.args.id - 1) r no_clause i ∙ ap (cut_by a.lits.items) (sym c.index-record.ensures) in
    let mixed : HasMix a.lits.items r = subst (λ (x : ClauseRecord). HasMix a.lits.items x) (sym c.index-record.ensures) (c.self.invariant.mixes (c.args.id - 1) r i) in
    let row : ℕ = bit_xor (bit_xor r.third c.row.result) c.row-then-literals-eq3.result in
    let is : row ≡ bit_xor (bit_xor r.third (row_of c.args.first)) (row_of c.args.second) = ap₂ (λ (x y : ℕ). bit_xor (bit_xor r.third x) y) c.row.ensures c.row-then-literals-eq3.ensures in
    let all = found a.vars r.third row cut c.args.first c.args.second c.literal_of.result (over_cut a.vars a.lits.items r.start (r.start + literals_in r.shape) c.self.invariant.over) (λ two. mixed two.three) is c.literal_of.ensures in
    rw (← c.self.view_is, at) (none_left cut c.args.first c.args.second row c.literal_of.result all)
