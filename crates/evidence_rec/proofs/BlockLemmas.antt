-- Block clauses name the groups of their sets.
use Rattle.std.proofs.Common.{◌≡◌, ℕ, zero, suc, ◌+◌, ◌<◌, ◌≤◌, true, eqb, List, [], ◌∷◌, ◌++◌, map, length, take, get_or, refl, sym, ◌∙◌, ap, ap₂, inl, inr, add-one}
use Rattle.std.specs.Prelude.{ℤ}
use Rattle.std.proofs.Math.Seq.{take-suc}
use Rattle.std.proofs.lemmas.Bool.{eq-eqb}
use Rattle.std.proofs.lemmas.List.{map_push, take_all}
use Rattle.gm_base.specs.declared.kind.Kind.{Kind}
use Rattle.gm_base.specs.declared.kind.Kind.TheVariants.{Conflict, Correction}
use Rattle.gm_base.specs.declared.kind.Side.{Side}
use Rattle.gm_base.specs.declared.kind.Side.TheVariants.{Up, Down}
use Rattle.sat_base.specs.Members.{In}
use Rattle.sat_base.specs.Literals.{var_of, IsLiteral, AreLiterals}
use Rattle.gm_base.specs.Sets.{has, IsSubset, all_groups}
use Rattle.gm_base.specs.Explored.{Found, block_of, block_clause}
use Rattle.sat_base.proofs.Members.{In-from_map, any_at}
use Rattle.gm_base.proofs.SetLemmas.{all_groups-has}
use Rattle.evidence_rec.specs.Blocks.{block_lit}

pub in_has : (set : List ℕ) (g : ℕ) → In g set → has set g ≡ true
in_has set g i = any_at (λ h. eqb h g) set g i (eq-eqb g g refl)

-- a clause has a literal for each group
pub block_clause-lits : (side : Side) (set : List ℕ) → block_clause (block_of side set) ≡ map (block_lit side) set
block_clause-lits Up set = refl
block_clause-lits Down set = refl

-- the literals of one group more
pub block_lits-next : (side : Side) (set : List ℕ) (at : ℕ) (lits : List ℤ) → at < length set → lits ≡ map (block_lit side) (take at set)
    → lits ++ block_lit side (get_or set at 0) ∷ [] ≡ map (block_lit side) (take (at + 1) set)
block_lits-next side set at lits within is =
    ap (λ (ls : List ℤ). ls ++ block_lit side (get_or set at 0) ∷ []) is ∙ sym (map_push (block_lit side) (take at set) (get_or set at 0))
    ∙ ap (map (block_lit side)) (sym (take-suc set at 0 within) ∙ ap (λ n. take n set) (sym (add-one at)))

-- the literals of all groups
pub block_lits-all : (side : Side) (set : List ℕ) (at : ℕ) → length set ≤ at → map (block_lit side) (take at set) ≡ block_clause (block_of side set)
block_lits-all side set at all = ap (map (block_lit side)) (take_all at set all) ∙ sym (block_clause-lits side set)

pub var_of-block_lit : (side : Side) (g : ℕ) → var_of (block_lit side g) ≡ g
var_of-block_lit Up zero = refl
var_of-block_lit Up (suc g) = refl
var_of-block_lit Down g = refl

pub vars_of-lits : (side : Side) (set : List ℕ) → map var_of (map (block_lit side) set) ≡ set
vars_of-lits side [] = refl
vars_of-lits side (g ∷ gs) = ap₂ (λ (h : ℕ) (hs : List ℕ). h ∷ hs) (var_of-block_lit side g) (vars_of-lits side gs)

pub vars_of-block_clause : (side : Side) (set : List ℕ) → map var_of (block_clause (block_of side set)) ≡ set
vars_of-block_clause side set = ap (map var_of) (block_clause-lits side set) ∙ vars_of-lits side set

-- the variable of a literal of a block clause is a group of the set
pub block_clause-in : (f : Found) (l : ℤ) → In l (block_clause f) → has f.set (var_of l) ≡ true
block_clause-in f l = by f.kind
  where
    named : (side : Side) → In l (map (block_lit side) f.set) → has f.set (var_of l) ≡ true
    named side i =
        let (g, j, e) = In-from_map (block_lit side) l f.set i in
        ap (has f.set) (ap var_of e ∙ var_of-block_lit side g) ∙ in_has f.set g j

    of : Kind → Found
    of kind = record { kind = kind; set = f.set }

    by : (kind : Kind) → In l (block_clause (of kind)) → has f.set (var_of l) ≡ true
    by Conflict = named Up
    by Correction = named Down

-- a block clause is over the groups
pub block_clause-literal : (groups : ℕ) (f : Found) (l : ℤ) → IsSubset f.set (all_groups groups) → In l (block_clause f)
    → IsLiteral groups l
block_clause-literal groups f l within i =
    let (low, high) = all_groups-has groups (var_of l) (within (var_of l) (block_clause-in f l i)) in
    record { not_zero = low; in_range = high }

over_from : (vars : ℕ) (lits : List ℤ) → ((l : ℤ) → In l lits → IsLiteral vars l) → AreLiterals vars lits
over_from vars [] h = tt
over_from vars (l ∷ ls) h = (h l (inl refl), over_from vars ls (λ m i. h m (inr i)))

pub block_clause-over : (groups : ℕ) (f : Found) → IsSubset f.set (all_groups groups)
    → AreLiterals groups (block_clause f)
block_clause-over groups f within = over_from groups (block_clause f) (λ l i. block_clause-literal groups f l within i)

pub block-over : (groups : ℕ) (side : Side) (set : List ℕ) → IsSubset set (all_groups groups)
    → AreLiterals groups (block_clause (block_of side set))
block-over groups Up set within = block_clause-over groups (block_of Up set) within
block-over groups Down set within = block_clause-over groups (block_of Down set) within
