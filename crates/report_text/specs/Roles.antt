-- The text of the roles of groups, for the list of them from group 1 on.
use Rattle.std.specs.Prelude.{ℕ, suc, List, [], ◌∷◌, ◌++◌, length, codes}
use Rattle.std.specs.Fmt.{decimal}
use Rattle.gm_base.specs.declared.role.Role.{Role}
use Rattle.gm_base.specs.declared.role.Role.TheVariants.{InEvery, InSome, InNone}

-- how a line ends that tells a role
abbrev pub end_of : Role → List ℕ
end_of InEvery = codes " every\n"
end_of InSome = codes " some\n"
end_of InNone = codes " none\n"

-- the line of a group
abbrev pub role_line : ℕ → Role → List ℕ
role_line group role = codes "r " ++ decimal group ++ end_of role

-- a line for each role, the first of which is that of this group
abbrev pub role_lines : ℕ → List Role → List ℕ
role_lines group [] = []
role_lines group (role ∷ roles) = role_line group role ++ role_lines (suc group) roles

-- how many groups there are, and a line for each
unfoldable pub roles_text : List Role → List ℕ
roles_text roles = codes "p roles " ++ decimal (length roles) ++ codes "\n" ++ role_lines 1 roles
