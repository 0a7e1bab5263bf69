use Rattle.std.proofs.Common.{ap, sym}
use Rattle.gm_base.specs.declared.kind.Kind.{Kind}
use Rattle.gm_audit.proofs.closing.side_of.Goals as goal

-- conflicts block all sets above
pub returns-in-Conflict : goal.returns-in-Conflict
returns-in-Conflict c = λ set. ap (λ (k : Kind). record { kind = k; set = set }) (sym c.in-Conflict.is)
