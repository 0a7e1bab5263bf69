use Rattle.std.proofs.Common.{sym, ◌∙◌, ap, drop, take}
use Rattle.std.proofs.lemmas.List.Folds.{length-prefix_len}
use Rattle.evidence_text.specs.Scan.{is_inner}
use Rattle.evidence_text.proofs.words.word_and_rest.Goals as goal

pub returns-clause-word : goal.returns-clause-word
returns-clause-word c = ap (λ n. take n c.args.bytes.now) c.word_end-end.ensures.end

pub returns-clause-rest : goal.returns-clause-rest
returns-clause-rest c =
    c.behind.ensures ∙ ap (λ n. drop n c.args.bytes.now) (c.word_end-end.ensures.end ∙ sym (length-prefix_len is_inner c.args.bytes.now))
