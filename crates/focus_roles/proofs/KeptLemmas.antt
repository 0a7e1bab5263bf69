-- What is kept of clauses, one after the other.
use Rattle.std.proofs.Common.{◌≡◌, ℕ, ◌+◌, ◌<◌, ◌≤◌, Bool, true, false, cond, List, [], ◌∷◌, ◌++◌, length, take, append-nil, sym, ◌∙◌, ap, subst, inl, inr}
use Rattle.std.specs.Prelude.{Some, slice_get}
use Rattle.std.specs.List.{filter, AllByRecursion}
use Rattle.std.proofs.lemmas.Bool.{cases_Bool, cond-true, cond-false}
use Rattle.std.proofs.lemmas.List.{take_all}
use Rattle.std.proofs.lemmas.List.Elements.{filter_more}
use Rattle.std.proofs.lemmas.Option.{get_or_from_slice_get, slice_get_within}
use Rattle.gm_base.specs.declared.clause.Clause.{Clause}
use Rattle.gm_base.specs.Problem.{Problem, IsClause, IsProblem, is_present}

kept-further : (set : List ℕ) (cs : List Clause) (i : ℕ) (c : Clause) → slice_get cs i ≡ Some c
    → filter (is_present set) (take (i + 1) cs) ≡ filter (is_present set) (take i cs) ++ cond (is_present set c) (c ∷ []) []
kept-further set cs i c here =
    let lt : i < length cs = slice_get_within cs i c here in
    filter_more (is_present set) cs i c lt
    ∙ ap (λ (x : Clause). filter (is_present set) (take i cs) ++ cond (is_present set x) (x ∷ []) []) (get_or_from_slice_get cs i c c here)

pub kept-more : (set : List ℕ) (cs old new : List Clause) (i : ℕ) (c copy : Clause) → slice_get cs i ≡ Some c → true ≡ is_present set c
    → old ≡ filter (is_present set) (take i cs) → copy ≡ c → new ≡ old ++ copy ∷ [] → new ≡ filter (is_present set) (take (i + 1) cs)
kept-more set cs old new i c copy here stays so_far same pushed =
    pushed ∙ ap (λ (xs : List Clause). xs ++ copy ∷ []) so_far ∙ ap (λ (x : Clause). filter (is_present set) (take i cs) ++ x ∷ []) same
    ∙ sym (kept-further set cs i c here ∙ ap (λ (b : Bool). filter (is_present set) (take i cs) ++ cond b (c ∷ []) []) (sym stays))

pub kept-same : (set : List ℕ) (cs old : List Clause) (i : ℕ) (c : Clause) → slice_get cs i ≡ Some c → false ≡ is_present set c
    → old ≡ filter (is_present set) (take i cs) → old ≡ filter (is_present set) (take (i + 1) cs)
kept-same set cs old i c here goes so_far =
    so_far
    ∙ sym (
    kept-further set cs i c here ∙ ap (λ (b : Bool). filter (is_present set) (take i cs) ++ cond b (c ∷ []) []) (sym goes)
    ∙ append-nil (filter (is_present set) (take i cs)))

AllByRecursion-filter : (P : Clause → Type 0) (test : Clause → Bool) (cs : List Clause) → AllByRecursion P cs → AllByRecursion P (filter test cs)
AllByRecursion-filter P test [] all = tt
AllByRecursion-filter P test (c ∷ cs) all =
    let rest = AllByRecursion-filter P test cs all.1 in
    elim (cases_Bool (test c)) [
      | inl stays ↦ subst (AllByRecursion P) (sym (cond-true (test c) (c ∷ filter test cs) (filter test cs) stays)) (all.0, rest)
      | inr goes ↦ subst (AllByRecursion P) (sym (cond-false (test c) (c ∷ filter test cs) (filter test cs) goes)) rest
    ]

pub kept-fit : (p : Problem) (set : List ℕ) (i vars groups : ℕ) (clauses : List Clause) → IsProblem p → vars ≡ p.vars → groups ≡ p.groups
    → clauses ≡ filter (is_present set) (take i p.clauses) → length p.clauses ≤ i → IsProblem (record { vars = vars; groups = groups; clauses = clauses })
kept-fit p set i vars groups clauses ok same_vars same_groups kept past =
    let all = AllByRecursion-filter (IsClause p.vars p.groups) (is_present set) p.clauses ok in
    let is : clauses ≡ filter (is_present set) p.clauses = kept ∙ ap (filter (is_present set)) (take_all i p.clauses past) in
    subst (AllByRecursion (IsClause vars groups)) (sym is)
    (subst (λ n. AllByRecursion (IsClause n groups) (filter (is_present set) p.clauses)) (sym same_vars)
    (subst (λ n. AllByRecursion (IsClause p.vars n) (filter (is_present set) p.clauses)) (sym same_groups) all))
