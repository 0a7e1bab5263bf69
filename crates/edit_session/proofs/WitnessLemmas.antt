-- Assignments of the old problem and of the new one: with new variables false, or without them, each satisfies what the
-- other does of the old groups.
use Rattle.std.proofs.Common.{◌≡◌, ℕ, ◌-◌, ◌<◌, Bool, true, false, not, List, [], ◌∷◌, ◌++◌, map, length, take, get_or, replicate, refl, sym, ◌∙◌, ap, ap₂, inl, inr, eqb, arith}
use Rattle.std.specs.Prelude.{ℤ, pos, negsuc, ◌&&◌, ◌||◌}
use Rattle.std.specs.List.{list_all, AllByRecursion}
use Rattle.std.proofs.lemmas.Bool.{and_parts, and_from, or_left, or_from, false≢true, eqb-true, eq-eqb, ne_eqb, false_from_ne_true, cases_lt}
use Rattle.std.proofs.lemmas.List.{length-append, length-replicate, length-take, get_or-take, get_or_append_left, get_or-append_right, get_or-replicate, get_or_past}
use Rattle.std.proofs.lemmas.List.Folds.{list_all-append}
use Rattle.sat_base.specs.Literals.{literal_true, clause_true, IsLiteral, AreLiterals}
use Rattle.gm_base.specs.declared.clause.Clause.{Clause}
use Rattle.gm_base.specs.Sets.{has, IsSubset, all_groups, without}
use Rattle.gm_base.specs.Problem.{Problem, IsProblem, IsClause, Sat, satisfies, is_present}
use Rattle.gm_base.specs.Evidence.{is_witness, each_passes, AcceptsConflict}
use Rattle.gm_base.proofs.SetLemmas.{all_groups-has, has-without}
use Rattle.sat_base.specs.Derivation.{Derivation}
use Rattle.edit_session.specs.Extends.{Extends}
use Rattle.edit_session.specs.Carried.{carried_witness, carried_proof}
use Rattle.edit_session.proofs.StepLemmas.{refutes-carried}

-- ---- new variables that are false

value-padded : (w : List Bool) (more i : ℕ) → get_or (w ++ replicate more false) i false ≡ get_or w i false
value-padded w more i =
    elim (cases_lt i (length w)) [
      | inl among ↦ get_or_append_left w (replicate more false) false i among
      | inr behind ↦ get_or-append_right w (replicate more false) (length w) i false refl behind ∙ pad (i - length w) ∙ sym (get_or_past w i false behind)
    ]
  where
    pad : (k : ℕ) → get_or (replicate more false) k false ≡ false
    pad k =
        elim (cases_lt k more) [
          | inl among ↦ get_or-replicate more k false false among
          | inr behind ↦ get_or_past (replicate more false) k false (let n = length-replicate more false in omega arith)
        ]

literal-padded : (w : List Bool) (more : ℕ) (l : ℤ) → literal_true (w ++ replicate more false) l ≡ literal_true w l
literal-padded w more (pos v) = value-padded w more (v - 1)
literal-padded w more (negsuc v) = ap not (value-padded w more v)

clause-padded : (w : List Bool) (more : ℕ) (lits : List ℤ) → clause_true (w ++ replicate more false) lits ≡ clause_true w lits
clause-padded w more [] = refl
clause-padded w more (l ∷ ls) = ap₂ (λ a b. a || b) (literal-padded w more l) (clause-padded w more ls)

all-padded : (set : List ℕ) (w : List Bool) (more : ℕ) (cs : List Clause)
    → list_all (λ c. not (is_present set c) || clause_true (w ++ replicate more false) c.lits) cs ≡ list_all (λ c. not (is_present set c) || clause_true w c.lits) cs
all-padded set w more [] = refl
all-padded set w more (c ∷ cs) = ap₂ (λ a b. (not (is_present set c) || a) && b) (clause-padded w more c.lits) (all-padded set w more cs)

-- clauses of new groups are not asked for
new-absent : (groups : ℕ) (set : List ℕ) (w : List Bool) (more : List Clause) → IsSubset set (all_groups groups) → AllByRecursion (λ (c : Clause). groups < c.group) more
    → list_all (λ c. not (is_present set c) || clause_true w c.lits) more ≡ true
new-absent groups set w [] within above = refl
new-absent groups set w (c ∷ cs) within above =
    let high = above.0 in
    let gone : has set c.group ≡ false = false_from_ne_true (has set c.group) (λ on. let range = all_groups-has groups c.group (within c.group on) in let low = range.1 in omega arith) in
    let absent : is_present set c ≡ false = or_from (eqb c.group 0) (has set c.group) (ne_eqb c.group 0 (λ none. omega arith)) gone in
    and_from (not (is_present set c) || clause_true w c.lits) (list_all (λ c. not (is_present set c) || clause_true w c.lits) cs)
    (or_left (not (is_present set c)) (clause_true w c.lits) (ap not absent)) (new-absent groups set w cs within above.1)

pub witness-carried : (old new : Problem) (set : List ℕ) (w : List Bool) → Extends old new → IsSubset set (all_groups old.groups) → is_witness old set w ≡ true
    → is_witness new set (carried_witness new w) ≡ true
witness-carried old new set w e within h =
    let parts = and_parts (eqb (length w) old.vars) (satisfies old set w) h in
    let count = eqb-true (length w) old.vars parts.0 in
    let more = e.vars in
    let pad = length-replicate (new.vars - length w) false in
    let whole = length-append w (replicate (new.vars - length w) false) in
    let test : List Bool → Clause → Bool = λ a c. not (is_present set c) || clause_true a c.lits in
    let wide = carried_witness new w in
    and_from (eqb (length wide) new.vars) (satisfies new set wide) (eq-eqb (length wide) new.vars (omega arith))
    (ap (list_all (test wide)) e.clauses ∙ list_all-append (test wide) old.clauses e.more
    ∙ and_from (list_all (test wide) old.clauses) (list_all (test wide) e.more) (all-padded set w (new.vars - length w) old.clauses ∙ parts.1)
    (new-absent old.groups set wide e.more within e.above))

witnesses-carried : (old new : Problem) (set gs : List ℕ) (ws : List (List Bool)) → Extends old new → IsSubset set (all_groups old.groups)
    → each_passes (λ g w. is_witness old (without set g) w) gs ws ≡ true → each_passes (λ g w. is_witness new (without set g) w) gs (map (carried_witness new) ws) ≡ true
witnesses-carried old new set [] [] e within h = refl
witnesses-carried old new set [] (w ∷ ws) e within h = absurd (false≢true h)
witnesses-carried old new set (g ∷ gs) [] e within h = absurd (false≢true h)
witnesses-carried old new set (g ∷ gs) (w ∷ ws) e within h =
    let parts = and_parts (is_witness old (without set g) w) (each_passes (λ g w. is_witness old (without set g) w) gs ws) h in
    and_from (is_witness new (without set g) (carried_witness new w)) (each_passes (λ g w. is_witness new (without set g) w) gs (map (carried_witness new) ws))
    (witness-carried old new (without set g) w e (λ k i. within k (and_parts (not (eqb k g)) (has set k) (sym (has-without set g k) ∙ i)).1) parts.0)
    (witnesses-carried old new set gs ws e within parts.1)

-- a conflict, carried over
pub kept-accepted : (old new : Problem) (set : List ℕ) (proof : Derivation) (witnesses : List (List Bool)) → IsProblem old → Extends old new → IsSubset set (all_groups old.groups)
    → AcceptsConflict old set proof witnesses → AcceptsConflict new set (carried_proof old new proof) (map (carried_witness new) witnesses)
kept-accepted old new set proof witnesses ok e within h =
    record {
      is_set = h.is_set;
      refuted = refutes-carried old new ok e set proof h.is_set h.refuted;
      witnessed = witnesses-carried old new set set witnesses e within h.witnessed;
    }

-- ---- without the new variables

literal-cut : (a : List Bool) (vars : ℕ) (l : ℤ) → IsLiteral vars l → literal_true (take vars a) l ≡ literal_true a l
literal-cut a vars (pos v) h = let low = h.not_zero in let high = h.in_range in get_or-take vars a (v - 1) false (omega arith)
literal-cut a vars (negsuc v) h = let high = h.in_range in ap not (get_or-take vars a v false (omega arith))

clause-cut : (a : List Bool) (vars : ℕ) (lits : List ℤ) → AreLiterals vars lits → clause_true (take vars a) lits ≡ clause_true a lits
clause-cut a vars [] h = refl
clause-cut a vars (l ∷ ls) h = ap₂ (λ a b. a || b) (literal-cut a vars l h.0) (clause-cut a vars ls h.1)

all-cut : (set : List ℕ) (a : List Bool) (vars groups : ℕ) (cs : List Clause) → AllByRecursion (IsClause vars groups) cs
    → list_all (λ c. not (is_present set c) || clause_true (take vars a) c.lits) cs ≡ list_all (λ c. not (is_present set c) || clause_true a c.lits) cs
all-cut set a vars groups [] h = refl
all-cut set a vars groups (c ∷ cs) h = ap₂ (λ a b. (not (is_present set c) || a) && b) (clause-cut a vars c.lits h.0.lits) (all-cut set a vars groups cs h.1)

-- what can be satisfied in the longer problem can in the old one
pub Sat-cut : (old new : Problem) (set : List ℕ) → IsProblem old → Extends old new → Sat new set → Sat old set
Sat-cut old new set ok e sat =
    let a = sat.0 in
    let count = sat.1 in
    let more = e.vars in
    let len = length-take old.vars a in
    let test : Clause → Bool = λ c. not (is_present set c) || clause_true a c.lits in (
      take old.vars a,
      omega arith,
      all-cut set a old.vars old.groups old.clauses ok
          ∙ (and_parts (list_all test old.clauses) (list_all test e.more) (sym (list_all-append test old.clauses e.more) ∙ sym (ap (list_all test) e.clauses) ∙ sat.2)).0,
    )
