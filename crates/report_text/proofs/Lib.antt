mod RoleLines
