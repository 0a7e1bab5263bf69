use Rattle.std.proofs.Common.{◌∙◌, sym, ap}
use Rattle.gm_base.specs.Sets.{has}
use Rattle.evidence_rec.proofs.WithLemmas.{with_group-positive}
use Rattle.evidence_rec.proofs.oracle.Oracle.ask_with.Goals as goal

-- the group is one of the problem's
pub with-requires : goal.with-requires
with-requires g c = with_group-positive _ c.args.set.now c.args.group c.requires

-- and so are those of the set with it
pub ask-requires : goal.ask-requires
ask-requires g c h i = c.requires h (sym (ap (λ r. has r h) c.in_ok-more.ensures) ∙ i)
