use Rattle.std.proofs.Common.{sym, subst}
use Rattle.map_core.specs.Opens.{IsWithin}
use Rattle.gm_tool.specs.Closed.{IsLeft}
use Rattle.gm_tool.proofs.RolesLemmas.{tells-roles, within-closed}
use Rattle.gm_tool.proofs.roles.prepare.Goals as goal

-- the sets of what is left have groups of the problem alone
pub text_of-requires : goal.text_of-requires
text_of-requires g c =
    subst (λ n. IsWithin n c.in_ok-left.left.closing.records) (sym c.groups.ensures.count) (within-closed c.in_ok-left.ensures.closed)

-- nothing is known at first, and where all is told the text has the roles
pub returns : goal.returns
returns g c =
    let left = c.in_ok-left.left in
    record {
      over =
          record {
            left = subst (λ first. IsLeft c.args.problem.now first c.args.bounds left) c.new.ensures c.in_ok-left.ensures;
            enough_memory = c.in_ok-line.ensures.enough_memory;
          };
      line = c.in_ok-line.ensures.line;
      text = c.in_ok-text.ensures c.args.problem.now (sym c.groups.ensures.count) (λ told. tells-roles c.in_ok-left.ensures.closed told);
    }
