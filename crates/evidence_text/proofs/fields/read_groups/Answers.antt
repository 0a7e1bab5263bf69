use Rattle.std.proofs.Common.{◌≡◌, ◌++◌, ◌∷◌, []}
use Rattle.evidence_text.proofs.ReadingLemmas.{with_front-goes}
use Rattle.evidence_text.proofs.SetLemmas.{EndsBy-push, AscendsAbove-push}
use Rattle.evidence_text.proofs.fields.read_groups.Goals as goal

pub push-requires : goal.push-requires
push-requires c =
    let above = rw c.in-Some.is at c.in_ok-g.ensures.above in
    AscendsAbove-push c.loop-set.last 0 c.in-Some.g c.loop-set.set c.loop-set.invariant.ends above

pub loop-set-preserved : goal.loop-set-preserved
loop-set-preserved c =
    let grown : c.push.new.self ≡ c.loop-set.set ++ c.in-Some.g ∷ [] = c.in_ok-push.ensures.ok in
    let above = rw c.in-Some.is at c.in_ok-g.ensures.above in
    let told = rw c.in-Some.is at c.in_ok-g.ensures.ascending in
    let read = rw c.from.ensures at told in
    rw grown
    (record {
      read = with_front-goes _ _ _ _ _ c.loop-set.invariant.read read;
      ends = EndsBy-push c.loop-set.last 0 c.in-Some.g c.loop-set.set c.loop-set.invariant.ends above;
    })
