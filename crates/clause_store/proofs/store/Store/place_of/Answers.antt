use Rattle.std.proofs.Common.{◌≡◌, ◌≢◌, ◌≤◌, ◌<◌, ◌-◌, ◌+◌, ◌*◌, ◌∙◌, ℕ, ℤ, Bool, not, length, arith, subst, sym, get_or, ap, refl}
use Rattle.std.specs.Prelude.{None, Decides, true, false}
use Rattle.std.proofs.lemmas.List.{length-map}
use Rattle.std.proofs.lemmas.Bool.{false≢true}
use Rattle.std.proofs.lemmas.Bool.Decides.{Decides-int_eq}
use mir.Val.{bool_byte}
use Rattle.sat_base.specs.Literals.{IsLiteral}
use Rattle.clause_store.specs.Clauses.{Clauses}
use Rattle.clause_store.specs.declared.store.ClauseRecord.{ClauseRecord}
use Rattle.clause_store.specs.Inner.{store_of, cut_by, IsWithin}
use Rattle.clause_store.specs.Links.{watched_at, watch_of}
use Rattle.clause_store.proofs.NodeLemmas.{watch-read, is_watched-at}
use Rattle.clause_store.proofs.store.Store.place_of.Goals as goal

-- the record of the clause has two literals, and its watches are those
module _ (c : goal.After-index-record-place) where
  abbrev r : ClauseRecord
  r = c.index-record.result.now

  within : c.args.id ≤ length c.self.inside.records.items
  within =
      let le : c.args.id ≤ length (store_of c.self.inside).clauses = subst (λ (s : Clauses). c.args.id ≤ length s.clauses) (sym c.self.view_is) c.requires.id.within in
      omega (arith, le, length-map c.self.inside.records.items (cut_by c.self.inside.lits.items))

  safe : IsWithin c.self.inside.vars (length c.self.inside.lits.items) (length c.self.inside.records.items) r
  safe =
      subst (λ (x : ClauseRecord). IsWithin c.self.inside.vars (length c.self.inside.lits.items) (length c.self.inside.records.items) x) (sym c.index-record.ensures)
      (c.self.invariant.within (c.args.id - 1) r (omega (arith, within, c.requires.id.from_one)))

  some : watched_at (store_of c.self.inside) c.args.id ≢ None
  some = subst (λ (s : Clauses). watched_at s c.args.id ≢ None) (sym c.self.view_is) c.requires.watched

  watches : (node p : ℕ) (e : ℤ) → node ≡ 2 * c.args.id + p → p < 2 → watch_of c.args.self.now node ≡ get_or r.watched p e
  watches node p e at two =
      subst (λ (s : Clauses). watch_of s node ≡ get_or r.watched p e) c.self.view_is
      (watch-read c.self.inside.records.items r c.args.id p node e at two c.requires.id.from_one within c.index-record.ensures safe.two_watched some)

first_same : (x y : ℤ) (test other : Bool) (n : ℕ) → Decides test (x ≡ y) → other ≡ not test → n ≡ bool_byte other → n ≡ 0 → x ≡ y
first_same x y true other n decides is byte zero = decides.0 refl
first_same x y false other n decides is byte zero = absurd (omega (arith, sym zero ∙ byte ∙ ap bool_byte is))

first_differs : (x y : ℤ) (test other : Bool) (n : ℕ) → Decides test (x ≡ y) → other ≡ not test → n ≡ bool_byte other → n ≡ 1 → x ≢ y
first_differs x y true other n decides is byte one = absurd (omega (arith, sym one ∙ byte ∙ ap bool_byte is))
first_differs x y false other n decides is byte one = λ same. false≢true (decides.1 same)

pub returns-clause-first : goal.returns-clause-first
returns-clause-first c = λ zero.
    let first = get_or (r c).watched 0 c.index-record-0.result in
    watches c (2 * c.args.id) 0 c.index-record-0.result (omega arith) (omega arith)
    ∙ first_same first c.args.lit _ _ _ (Decides-int_eq first c.args.lit) c.ne.ensures c.from-place.ensures zero

pub returns-clause-second : goal.returns-clause-second
returns-clause-second c = λ one same.
    let first = get_or (r c).watched 0 c.index-record-0.result in
    first_differs first c.args.lit _ _ _ (Decides-int_eq first c.args.lit) c.ne.ensures c.from-place.ensures one
    (sym (watches c (2 * c.args.id) 0 c.index-record-0.result (omega arith) (omega arith)) ∙ same)

pub returns-clause-other : goal.returns-clause-other
returns-clause-other c = sym (watches c _ (1 - c.from-place.result) c.index-record-place.result refl (omega arith))

pub returns-clause-over : goal.returns-clause-over
returns-clause-over c =
    let long = (safe c).two_watched in
    let watched = is_watched-at c.self.inside.records.items (r c) c.args.id c.requires.id.from_one (within c) c.index-record.ensures (some c) in
    subst (λ (s : Clauses). IsLiteral s.vars (get_or (r c).watched (1 - c.from-place.result) c.index-record-place.result)) c.self.view_is
    ((safe c).watched watched (1 - c.from-place.result) c.index-record-place.result (omega (arith, long)))
