use Rattle.std.proofs.Common.{List, subst, sym}
use Rattle.std.specs.Prelude.{ℤ}
use Rattle.sat_base.proofs.DatabaseLemmas.{named_at}
use Rattle.clause_store.specs.Clauses.{clause_at, no_clause}
use Rattle.trail_book.specs.Trail.{trues}
use Rattle.learn_step.specs.Places.{HaveValues, HasPlaces}
use Rattle.learn_step.proofs.analysis.Analysis.bring_in.Goals as goal

-- the store gives the clause of that id
pub insert_below-requires : goal.insert_below-requires
insert_below-requires c = subst (HaveValues (trues c.args.trail.now.entries)) (sym c.lits.ensures.lits) c.requires.values

pub returns-clause-brought_in : goal.returns-clause-brought_in
returns-clause-brought_in c = record {
  clause = (clause_at c.args.store.now.clauses c.args.id).lits;
  named = named_at c.args.store.now.clauses c.args.id no_clause c.requires.id.from_one c.requires.id.within;
  places =
      subst (λ (ls : List ℤ). HasPlaces c.args.trail.now.entries ls c.args.below c.args.self.now.places c.insert_below.new.places) c.lits.ensures.lits
      c.in_ok-insert_below.ensures;
  hint = c.in_ok-push.ensures.ok;
}
