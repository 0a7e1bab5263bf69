use Rattle.std.proofs.Common.{◌≡◌, ◌++◌, take}
use Rattle.report_text.specs.Roles.{role_lines}
use Rattle.report_text.proofs.roles.push_roles.Given as goal

-- the lines of the groups so far
abbrev pub invariant-loop-role : goal.invariant-loop-role
invariant-loop-role l = record {
  group : l.group ≡ l.role-index;
  lines : l.out.items ≡ l.fn.out.items ++ role_lines 1 (take l.role-index l.roles);
}
