use Rattle.std.proofs.Common.{rules}
use Rattle.std.proofs.lemmas.List.Sorted.{answers_always}
use Rattle.evidence_rec.proofs.PlaceLemmas.{halved_ok, halved_err}
use Rattle.evidence_rec.proofs.places.by_halving.Goals as goal

pub returns-in-Ok-clause-some : goal.returns-in-Ok-clause-some
returns-in-Ok-clause-some c =
    halved_ok c.args.blocks.now c.args.at c.in-Ok.here c.in-Ok.ensures.bound
    (c.in-Ok.ensures.position (λ b. b.at) (answers_always _ _ _ (λ f a r g called. search rules)))

pub returns-in-Err-clause-none : goal.returns-in-Err-clause-none
returns-in-Err-clause-none c =
    halved_err c.args.blocks.now c.args.at c.in-Err.field-0 c.requires
    (c.in-Err.ensures.position (λ b. b.at) (answers_always _ _ _ (λ f a r g called. search rules)))
