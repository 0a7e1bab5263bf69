use Rattle.std.proofs.Common.{◌≡◌, List, true, ap, subst, sym, arith}
use Rattle.std.specs.Prelude.{ℤ, neg_ℤ}
use Rattle.sat_base.specs.Members.{In}
use Rattle.sat_base.specs.Database.{StoredClause}
use Rattle.clause_store.specs.Clauses.{Clauses, clause_at, IsId}
use Rattle.propagate.specs.Propagation.{Grows}
use Rattle.trail_book.specs.declared.entry.Entry.{Entry}
use Rattle.trail_book.specs.Trail.{trues, top, keep}
use Rattle.propagate.proofs.GrowsLemmas.{grows-from}
use Rattle.propagate.proofs.KeptLemmas.{kept_false}
use Rattle.propagate.proofs.OpenLemmas.{at_root}
use Rattle.propagate.proofs.EnterLemmas.{joined_grows, joined_loose, joined_stays}
use Rattle.propagate.proofs.UnparkedLemmas.{unparked_same}
use Rattle.propagate.proofs.entrance.enter.Goals as goal

-- all its literals are false, at level 0
pub returns-in-None-clause-kept : goal.returns-in-None-clause-kept
returns-in-None-clause-kept c =
    let r = c.requires in
    let s = c.reopen.new.store in
    let t = c.reopen.new.trail in
    let n = r.unwatched in
    let f = c.in-None.ensures.none in
    let same = sym c.reopen.ensures.clauses.clauses in
    kept_false s c.set_false_id.new.self t c.args.id c.set_false_id.ensures (record {
      is_id = subst (λ (db : List StoredClause). IsId db c.args.id) same n.is_id;
      live = subst (λ (db : List StoredClause). (clause_at db c.args.id).live ≡ true) same n.live;
      is_false = λ l i. subst (λ (es : List Entry). In (neg_ℤ l) (trues es)) (sym (at_root t.entries f.0))
          (f.1 l (subst (λ (ls : List ℤ). In l ls) n.lits_are (subst (λ (db : List StoredClause). In l (clause_at db c.args.id).lits) (sym same) i)));
    }) (c.reopen.ensures.kept c.args.id r.kept)

pub returns-in-None-clause-grows : goal.returns-in-None-clause-grows
returns-in-None-clause-grows c = grows-from c.args.store.now.clauses (keep (top c.reopen.new.trail.entries) c.args.trail.now.entries) c.reopen.new.trail.entries c.reopen.ensures.entries

pub returns-in-None-clause-loose : goal.returns-in-None-clause-loose
returns-in-None-clause-loose c = λ k below. let zero = c.in-None.ensures.none.0 in absurd (omega (arith, below, zero))

pub enter_open-requires-clause-kept : goal.enter_open-requires-clause-kept
enter_open-requires-clause-kept c = c.reopen.ensures.kept c.args.id c.requires.kept

pub returns-in-Some-clause-grows : goal.returns-in-Some-clause-grows
returns-in-Some-clause-grows c =
    joined_grows c.args.store.now.clauses c.args.trail.now.entries c.reopen.new.trail.entries c.enter_open.new.trail.entries c.args.lits.now c.reopen.ensures.entries
    (subst (λ (db : List StoredClause). Grows db (keep (top c.enter_open.new.trail.entries) c.reopen.new.trail.entries) c.enter_open.new.trail.entries) c.reopen.ensures.clauses.clauses c.enter_open.ensures.grows)

pub returns-in-Some-clause-loose : goal.returns-in-Some-clause-loose
returns-in-Some-clause-loose c =
    joined_loose c.args.store.now.clauses c.args.trail.now.entries c.reopen.new.trail.entries c.enter_open.new.trail.entries c.args.lits.now c.reopen.ensures.entries
    (subst (λ (db : List StoredClause). Grows db (keep (top c.enter_open.new.trail.entries) c.reopen.new.trail.entries) c.enter_open.new.trail.entries) c.reopen.ensures.clauses.clauses c.enter_open.ensures.grows) c.enter_open.ensures.loose

pub returns-in-Some-clause-stays : goal.returns-in-Some-clause-stays
returns-in-Some-clause-stays c =
    joined_stays c.args.store.now.clauses c.args.trail.now.entries c.reopen.new.trail.entries c.enter_open.new.trail.entries c.args.lits.now c.reopen.ensures.entries
    (subst (λ (db : List StoredClause). Grows db (keep (top c.enter_open.new.trail.entries) c.reopen.new.trail.entries) c.enter_open.new.trail.entries) c.reopen.ensures.clauses.clauses c.enter_open.ensures.grows) c.reopen.ensures.stays
    c.enter_open.ensures.stays

pub returns-in-None-clause-unparked : goal.returns-in-None-clause-unparked
returns-in-None-clause-unparked c = λ none.
    let rest = c.set_false_id.ensures in
    unparked_same c.reopen.new.store c.set_false_id.new.self (ap (λ (x : Clauses). x.vars) rest) (ap (λ (x : Clauses). x.parks) rest) (c.reopen.ensures.unparked none)
