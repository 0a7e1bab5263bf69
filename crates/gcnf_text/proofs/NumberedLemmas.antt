-- The groups of clauses: in CNF each clause has its place as its group.
use Rattle.std.proofs.Common.{◌≡◌, ℕ, suc, ◌+◌, List, [], ◌∷◌, ◌++◌, map, length, refl, sym, ◌∙◌, ap, subst, arith}
use Rattle.std.specs.List.{range_with_len}
use Rattle.std.proofs.lemmas.List.{length-append, map-append}
use Rattle.gm_base.specs.declared.clause.Clause.{Clause}
use Rattle.gm_base.specs.Problem.{Problem}
use Rattle.gm_base.specs.Sets.{all_groups}
use Rattle.gm_base.proofs.SetLemmas.{range_with_len_more}
use Rattle.gcnf_text.specs.declared.form.Form.{Form}
use Rattle.gcnf_text.specs.declared.form.Form.TheVariants.{Gcnf, Cnf}
use Rattle.gcnf_text.specs.Grammar.{HasGroups}
use Rattle.gcnf_text.specs.Table.{Sofar}
use Rattle.gcnf_text.specs.Steps.{AreNumbered, IsGroupOf}

abbrev pub groups_of : List Clause → List ℕ
groups_of clauses = map (λ (c : Clause). c.group) clauses

-- a clause in this place
abbrev pub IsAt : Form → ℕ → Clause → Type 0
IsAt Gcnf i c = Unit {0}
IsAt Cnf i c = c.group ≡ i

-- clauses from this place on
abbrev pub AreNumberedFrom : Form → ℕ → List Clause → Type 0
AreNumberedFrom Gcnf i clauses = Unit {0}
AreNumberedFrom Cnf i clauses = groups_of clauses ≡ range_with_len i (length clauses)

pub at_first : (form : Form) (i : ℕ) (c : Clause) (cs : List Clause) → AreNumberedFrom form i (c ∷ cs) → IsAt form i c
at_first Gcnf i c cs are = tt
at_first Cnf i c cs are = cc

pub at_rest : (form : Form) (i : ℕ) (c : Clause) (cs : List Clause) → AreNumberedFrom form i (c ∷ cs) → AreNumberedFrom form (i + 1) cs
at_rest Gcnf i c cs are = tt
at_rest Cnf i c cs are = cc

pub at_all : (form : Form) (i : ℕ) (c : Clause) (cs : List Clause) → IsAt form i c → AreNumberedFrom form (i + 1) cs → AreNumberedFrom form i (c ∷ cs)
at_all Gcnf i c cs first rest = tt
at_all Cnf i c cs first rest = ap (λ g. g ∷ groups_of cs) first ∙ ap (λ gs. i ∷ gs) rest

-- the clauses of a problem are numbered
pub numbered : (form : Form) (p : Problem) → HasGroups form p → AreNumberedFrom form 1 p.clauses
numbered Gcnf p has = tt
numbered Cnf p has = has.1 ∙ ap all_groups has.0

-- and a problem whose clauses are has its groups
pub has_groups : (form : Form) (p : Problem) → (form ≡ Cnf → p.groups ≡ length p.clauses) → AreNumbered form p.clauses → HasGroups form p
has_groups Gcnf p count are = tt
has_groups Cnf p count are = (count refl, are ∙ ap all_groups (sym (count refl)))

-- a clause more, of the group that is due
pub numbered_next : (form f : Form) (s : Sofar) (cs : List Clause) (c : Clause) → f ≡ form → s.ended ≡ length cs → AreNumbered form cs
    → IsGroupOf f s c.group → AreNumbered form (cs ++ c ∷ [])
numbered_next Gcnf f s cs c same ended are is = tt
numbered_next Cnf f s cs c same ended are is =
    let place : c.group ≡ s.ended + 1 = subst (λ g. IsGroupOf g s c.group) same is in
    let count : length (cs ++ c ∷ []) ≡ suc (length cs) = omega (arith, length-append cs (c ∷ [])) in
    let next : c.group ≡ 1 + length cs = omega (arith, place, ended) in
    map-append (λ (d : Clause). d.group) cs (c ∷ []) ∙ ap (λ gs. gs ++ c.group ∷ []) are
    ∙ ap (λ g. all_groups (length cs) ++ g ∷ []) next ∙ sym (range_with_len_more 1 (length cs)) ∙ ap all_groups (sym count)
