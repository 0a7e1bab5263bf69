-- The lines of roles, one more at a time.
use Rattle.std.proofs.Common.{◌≡◌, ℕ, zero, suc, ◌+◌, ◌<◌, List, [], ◌∷◌, ◌++◌, length, take, get_or, ap, sym, ◌∙◌, arith}
use Rattle.std.proofs.lemmas.List.{append_assoc, append-nil}
use Rattle.gm_base.specs.declared.role.Role.{Role}
use Rattle.report_text.specs.Roles.{role_line, role_lines}

pub role_lines-more : (group : ℕ) (roles : List Role) (k : ℕ) (d : Role) → k < length roles
    → role_lines group (take (k + 1) roles) ≡ role_lines group (take k roles) ++ role_line (group + k) (get_or roles k d)
role_lines-more group [] k d low = absurd (omega arith)
role_lines-more group (r ∷ rs) zero d low =
    let same : group ≡ group + 0 = omega arith in append-nil (role_line group r) ∙ ap (λ n. role_line n r) same
role_lines-more group (r ∷ rs) (suc k) d low =
    let same : suc group + k ≡ group + suc k = omega arith in
    let one : suc k + 1 ≡ suc (k + 1) = omega arith in
    ap (λ n. role_lines group (take n (r ∷ rs))) one
    ∙ ap (λ lines. role_line group r ++ lines) (role_lines-more (suc group) rs k d (omega arith) ∙ ap (λ n. role_lines (suc group) (take k rs) ++ role_line n (get_or rs k d)) same)
    ∙ sym (append_assoc (role_line group r) (role_lines (suc group) (take k rs)) (role_line (group + suc k) (get_or rs k d)))
