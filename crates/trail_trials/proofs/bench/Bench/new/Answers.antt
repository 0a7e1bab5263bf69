use Rattle.std.proofs.Common.{◌∙◌, ap, sym}
use Rattle.trail_book.specs.Trail.{Trail}
use Rattle.propagate.proofs.NewLemmas.{kept_first}
use Rattle.trail_trials.proofs.bench.Bench.new.Goals as goal

-- no clause, no value, and nothing parked
pub invariant_of-result : goal.invariant_of-result
invariant_of-result c =
    let store = c.in_ok-new.field-0 in
    let trail = c.in_ok-new-2.field-0 in
    let s = c.in_ok-new.ensures in
    let vars = ap (λ (t : Trail). t.vars) c.in_ok-new-2.ensures.trail in (
      kept_first store trail (s.vars ∙ sym vars) s.clauses s.watched s.heads s.tails s.parks s.false_id (ap (λ (t : Trail). t.entries) c.in_ok-new-2.ensures.trail) (ap (λ (t : Trail). t.done) c.in_ok-new-2.ensures.trail),
      λ none. record { empty = λ lit is. s.parks lit },
    )
