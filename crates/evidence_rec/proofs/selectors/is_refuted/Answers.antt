use Rattle.std.proofs.Common.{◌∙◌, sym, ap, not}
use Rattle.evidence_rec.proofs.LeftOutLemmas.{refuted-own, refuted-other, refuted-beyond}
use Rattle.evidence_rec.proofs.selectors.is_refuted.Goals as goal

pub returns-then-not-is_group : goal.returns-then-not-is_group
returns-then-not-is_group c =
    sym (refuted-beyond c.args.groups c.args.set.now c.args.own c.in-Some.own c.args.group c.in-Some.is
    (λ both. let made = c.is_group.ensures.1 both in let none = c.if-not-is_group.true in cc))

-- it is the group of its own
pub returns-then-group-own : goal.returns-then-group-own
returns-then-group-own c =
    let none = c.if-not-is_group.false in
    let group = c.is_group.ensures.0 (cc) in
    sym (refuted-own c.args.groups c.args.set.now c.args.own c.in-Some.own c.args.group c.in-Some.is group.0 group.1 c.if-group-own.true)

pub returns : goal.returns
returns c =
    let none = c.if-not-is_group.false in
    let group = c.is_group.ensures.0 (cc) in
    ap not c.contains-2.ensures
    ∙ sym (refuted-other c.args.groups c.args.set.now c.args.own c.in-Some.own c.args.group c.in-Some.is group.0 group.1 c.if-group-own.false)
