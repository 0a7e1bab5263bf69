use Rattle.std.proofs.Common.{rules}
use Rattle.std.proofs.lemmas.List.Sorted.{answers_always}
use Rattle.lrat_export.proofs.EntryLemmas.{halved_ok, halved_err}
use Rattle.lrat_export.proofs.numbering.by_halving.Goals as goal

pub returns-in-Ok-clause-some : goal.returns-in-Ok-clause-some
returns-in-Ok-clause-some c =
    halved_ok c.args.entries.now c.args.id c.in-Ok.place c.in-Ok.ensures.bound
    (c.in-Ok.ensures.position (λ r. r.id) (answers_always _ _ _ (λ f a r g called. search rules)))

pub returns-in-Err-clause-none : goal.returns-in-Err-clause-none
returns-in-Err-clause-none c =
    halved_err c.args.entries.now c.args.id c.in-Err.field-0 c.requires
    (c.in-Err.ensures.position (λ r. r.id) (answers_always _ _ _ (λ f a r g called. search rules)))
