use Rattle.std.proofs.Common.{◌+◌, ◌*◌, ◌∙◌, ◌&&◌, ◌||◌, not, [], sym, ap, get_or}
use Rattle.std.proofs.lemmas.Bool.{eq-eqb, ne_eqb}
use Rattle.std.proofs.lemmas.List.{get_or_read}
use Rattle.gm_base.specs.Sets.{has}
use Rattle.evidence_rec.specs.Columns.{is_set}
use Rattle.evidence_rec.proofs.ServingLemmas.{apart-none}
use Rattle.evidence_rec.proofs.serving.bits_without.Goals as goal

-- the group itself takes nothing
pub returns-then-other-group : goal.returns-then-other-group
returns-then-other-group c = λ i lt.
    apart-none (is_set c.args.bits i)
    ∙ ap (λ e. is_set c.args.bits i && (e || not (has (get_or c.args.lists.now c.args.other []) (32 * c.args.at + i)))) (sym (eq-eqb c.args.other c.args.group c.if-other-group.true))

-- another one takes the places that it has
pub returns : goal.returns
returns c = λ i lt.
    c.without.ensures i lt
    ∙ ap (λ b. is_set c.args.bits i && not b)
    (c.bits_at.ensures i lt ∙ ap (λ l. has l (32 * c.args.at + i)) (get_or_read c.args.lists.now c.args.other c.index-lists-other.result c.requires c.index-lists-other.is []))
    ∙ ap (λ e. is_set c.args.bits i && (e || not (has (get_or c.args.lists.now c.args.other []) (32 * c.args.at + i)))) (sym (ne_eqb c.args.other c.args.group c.if-other-group.false))
