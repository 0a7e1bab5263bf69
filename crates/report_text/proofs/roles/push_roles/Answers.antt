use Rattle.std.proofs.Common.{◌≡◌, ◌+◌, ◌<◌, ◌++◌, length, take, get_or, ap, sym, ◌∙◌, arith}
use Rattle.std.proofs.lemmas.List.{append_assoc}
use Rattle.gm_base.specs.declared.role.Role.TheVariants.{InEvery}
use Rattle.report_text.specs.Roles.{role_line, role_lines}
use Rattle.report_text.proofs.RoleLines.{role_lines-more}
use Rattle.report_text.proofs.roles.push_roles.Goals as goal

-- one line more
pub loop-role-preserved : goal.loop-role-preserved
loop-role-preserved c =
    let at = c.loop-role.role-index in
    let roles = c.args.roles.now in
    let old = c.args.out.now.items in
    let before = role_lines 1 (take at roles) in
    let here = get_or roles at InEvery in
    let count = c.loop-role.invariant.group in
    let number : c.loop-role.group + 1 ≡ 1 + at = omega arith in
    record {
      group = ap (λ n. n + 1) count;
      lines =
          c.in_ok-push_role.ensures ∙ ap (λ lines. lines ++ role_line (c.loop-role.group + 1) here) c.loop-role.invariant.lines
          ∙ append_assoc old before (role_line (c.loop-role.group + 1) here) ∙ ap (λ n. old ++ (before ++ role_line n here)) number
          ∙ ap (λ lines. old ++ lines) (sym (role_lines-more 1 roles at InEvery (omega arith)));
    }
