-- The clauses of a CNF, as they are counted and written one after the other.
use Rattle.std.proofs.Common.{◌≡◌, ℕ, ◌+◌, ◌<◌, Bool, true, false, cond, List, [], ◌∷◌, ◌++◌, map, length, take, Some, refl, sym, ◌∙◌, ap}
use Rattle.std.specs.Prelude.{slice_get, codes}
use Rattle.std.specs.List.{filter, flat_map}
use Rattle.std.specs.Fmt.{decimal}
use Rattle.std.proofs.lemmas.List.{flat_map_more, take_more, length-map}
use Rattle.std.proofs.lemmas.Option.{get_or_from_slice_get, slice_get_within}
use Rattle.std.proofs.lemmas.List.Filters.{length-filter_more}
use Rattle.gm_base.specs.declared.clause.Clause.{Clause}
use Rattle.gm_base.specs.Problem.{Problem, is_present}
use Rattle.lrat_export.specs.Cnf.{clauses_of, cnf_text, lits_text, line_of, lines_of}

-- one clause further, one more is counted where it is present
pub count-further : (set : List ℕ) (cs : List Clause) (i : ℕ) (c : Clause) → slice_get cs i ≡ Some c
    → length (filter (is_present set) (take (i + 1) cs)) ≡ length (filter (is_present set) (take i cs)) + cond (is_present set c) 1 0
count-further set cs i c here =
    let lt : i < length cs = slice_get_within cs i c here in
    length-filter_more (is_present set) cs i c lt ∙ ap (λ (x : Clause). length (filter (is_present set) (take i cs)) + cond (is_present set x) 1 0) (get_or_from_slice_get cs i c c here)

-- one clause further, its line comes behind
pub lines-further : (out old : List ℕ) (set : List ℕ) (cs : List Clause) (i : ℕ) (c : Clause) → slice_get cs i ≡ Some c
    → old ≡ out ++ lines_of set (take i cs) → old ++ line_of set c ≡ out ++ lines_of set (take (i + 1) cs)
lines-further out old set cs i c here so_far =
    let lt : i < length cs = slice_get_within cs i c here in
    ap (λ (t : List ℕ). t ++ line_of set c) so_far
    ∙ flat_map_more (line_of set) out (take i cs) c
    ∙ ap (λ (ds : List Clause). out ++ flat_map (line_of set) ds) (sym (take_more cs i c lt ∙ ap (λ (x : Clause). take i cs ++ x ∷ []) (get_or_from_slice_get cs i c c here)))

-- the lines of all are those of the clauses that are present
pub lines-present : (set : List ℕ) (cs : List Clause) → lines_of set cs ≡ flat_map (λ ls. lits_text ls ++ codes "\n") (map (λ (c : Clause). c.lits) (filter (is_present set) cs))
lines-present set [] = refl
lines-present set (c ∷ cs) = by (is_present set c) (lines-present set cs)
  where
    by : (b : Bool) → lines_of set cs ≡ flat_map (λ ls. lits_text ls ++ codes "\n") (map (λ (c : Clause). c.lits) (filter (is_present set) cs))
        → cond b (lits_text c.lits ++ codes "\n") [] ++ lines_of set cs
        ≡ flat_map (λ ls. lits_text ls ++ codes "\n") (map (λ (c : Clause). c.lits) (cond b (c ∷ filter (is_present set) cs) (filter (is_present set) cs)))
    by true later = ap (λ (t : List ℕ). (lits_text c.lits ++ codes "\n") ++ t) later
    by false later = later

-- the header that counts what is present, and then the lines
pub text-made : (p : Problem) (set : List ℕ) (clauses : ℕ) → clauses ≡ length (filter (is_present set) p.clauses)
    → (codes "p cnf " ++ decimal p.vars ++ codes " " ++ decimal clauses ++ codes "\n") ++ lines_of set p.clauses ≡ cnf_text p set
text-made p set clauses count =
    ap (λ n. (codes "p cnf " ++ decimal p.vars ++ codes " " ++ decimal n ++ codes "\n") ++ lines_of set p.clauses)
    (count ∙ sym (length-map (filter (is_present set) p.clauses) (λ (c : Clause). c.lits)))
    ∙ ap (λ t. (codes "p cnf " ++ decimal p.vars ++ codes " " ++ decimal (length (clauses_of p set)) ++ codes "\n") ++ t) (lines-present set p.clauses)
