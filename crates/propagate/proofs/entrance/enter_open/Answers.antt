use Rattle.std.proofs.Common.{sym, inr, arith}
use Rattle.std.specs.Prelude.{neg_ℤ}
use Rattle.trail_book.specs.Trail.{top, keep}
use Rattle.trail_book.proofs.TrailLemmas.{keep-whole, lit-keep_in}
use Rattle.propagate.proofs.GrowsLemmas.{grows-from}
use Rattle.propagate.proofs.OpenLemmas.{open_guard}
use Rattle.propagate.proofs.entrance.enter_open.Goals as goal

-- nothing goes back
pub returns-in-Some-clause-grows : goal.returns-in-Some-clause-grows
returns-in-Some-clause-grows c = let es = c.args.trail.now.entries in grows-from c.args.store.now.clauses (keep (top es) es) es (sym (keep-whole (top es) es (omega arith)))

pub returns-in-Some-clause-loose : goal.returns-in-Some-clause-loose
returns-in-Some-clause-loose c = λ k below.
    let es = c.args.trail.now.entries in
    let x = c.in-Some.ensures.found in
    inr (record {
      one = c.args.first;
      other = c.in-Some.second;
      one_in = c.requires.has;
      other_in = x.stands;
      differ = λ e. x.differs (sym e);
      one_open = λ i. c.requires.not_false (lit-keep_in k es (neg_ℤ c.args.first) i);
      other_open = λ i. x.not_false (lit-keep_in k es (neg_ℤ c.in-Some.second) i);
    })

pub watch-requires-clause-first_guard : goal.watch-requires-clause-first_guard
watch-requires-clause-first_guard c = let t = c.args.trail.now in open_guard t.entries t.done c.args.first c.in-Some.second c.requires.not_false

pub watch-requires-clause-second_guard : goal.watch-requires-clause-second_guard
watch-requires-clause-second_guard c = let t = c.args.trail.now in open_guard t.entries t.done c.in-Some.second c.args.first c.in-Some.ensures.found.not_false
