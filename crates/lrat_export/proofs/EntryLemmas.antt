-- Entries found by their ids, and what they say of the clauses that stay.
use Rattle.std.proofs.Common.{◌≡◌, ◌≢◌, ℕ, zero, suc, ◌+◌, ◌-◌, ◌<◌, ◌≤◌, Bool, true, false, ◌&&◌, cond, ltb, List, [], ◌∷◌, ◌++◌, map, length, get_or, Option, Some, None, Ok, Err, refl, sym, ◌∙◌, ap, ap₂, subst, arith, All, length-append}
use Rattle.std.specs.Prelude.{ℤ, slice_get}
use Rattle.std.specs.List.Sorted.{IsBinarySearchResult, IsSearchInRange}
use Rattle.std.specs.Option.{option_map_or}
use Rattle.std.specs.Ordering.{nat_cmp}
use Rattle.std.proofs.lemmas.Bool.{eq-eqb, ne_eqb, and_parts, ltb-true}
use Rattle.std.proofs.lemmas.List.{length-map, get_or-map}
use Rattle.std.proofs.Math.Seq.{get_or-append_right}
use Rattle.std.proofs.lemmas.List.Kept.{AllPairs-cons}
use Rattle.std.proofs.lemmas.Option.{get_or_from_slice_get, slice_get_within}
use Rattle.gm_base.specs.declared.clause.Clause.{Clause}
use Rattle.gm_base.specs.Problem.{Problem, IsClause}
use Rattle.gm_base.specs.Evidence.{with_selector, selector_form, refutes}
use Rattle.sat_base.specs.Derivation.{Step, Derivation, numbered, all_known, follows, is_step_clause, steps_follow, is_derivation}
use Rattle.lrat_export.specs.Export.{Numbered, is_settled, bared, renumbered, stays, known_of}
use Rattle.lrat_export.specs.Numbers.{entry_of, Ascend, AreNumbers, IsAt, HasNoId}
use Rattle.lrat_export.specs.declared.numbering.Entry.{Entry}
use Rattle.lrat_check.proofs.HalvingLemmas.{halved_here, halved_nowhere}
use Rattle.lrat_export.proofs.NumberLemmas.{stays-here, stays-later}
use Rattle.lrat_export.proofs.StepLemmas.{clauses_in}
use Rattle.lrat_export.proofs.CnfLemmas.{length-numbered, clause-bared, plain-bared}

-- ---- entries found by halving

pub halved_ok : (entries : List Entry) (id place : ℕ) → IsSearchInRange (Ok place) (length entries) → IsBinarySearchResult (λ (r : Entry). nat_cmp r.id id) entries (Ok place)
    → IsAt entries id place
halved_ok entries id place within equal = record { within = within; here = halved_here (λ (r : Entry). r.id) entries id place equal }

pub halved_err : (entries : List Entry) (id place : ℕ) → Ascend entries → IsBinarySearchResult (λ (r : Entry). nat_cmp r.id id) entries (Err place)
    → HasNoId entries id
halved_err entries id place up parted = halved_nowhere (λ (r : Entry). r.id) entries id place up parted

-- ---- the ids of an accepted proof ascend

abbrev AreAbove : ℕ → List Entry → Type 0
AreAbove low entries = All (λ (e : Entry). low < e.id) entries × Ascend entries

cons-above : (low : ℕ) (e : Entry) (es : List Entry) → low < e.id → AreAbove e.id es → AreAbove low (e ∷ es)
cons-above low e es up rest = (at, AllPairs-cons (λ (a b : Entry). a.id < b.id) e es rest.0 rest.1)
  where
    at : All (λ (x : Entry). low < x.id) (e ∷ es)
    at zero d lt = up
    at (suc k) d lt = let here = rest.0 k d (omega arith) in omega arith

renumbered-above : (vars : ℕ) (set : List ℕ) (n low : ℕ) (e : ℕ × List ℤ) (es : List (ℕ × List ℤ)) → low < e.0
    → ((n : ℕ) → AreAbove e.0 (map entry_of (renumbered vars set n es))) → AreAbove low (map entry_of (renumbered vars set n (e ∷ es)))
renumbered-above vars set n low e es up rest = by (is_settled vars set e.1)
  where
    by : (b : Bool) → AreAbove low (map entry_of (cond b ((e.0, None) ∷ renumbered vars set n es) ((e.0, Some (n, bared vars e.1)) ∷ renumbered vars set (n + 1) es)))
    by true = cons-above low (entry_of (e.0, None)) (map entry_of (renumbered vars set n es)) up (rest n)
    by false = cons-above low (entry_of (e.0, Some (n, bared vars e.1))) (map entry_of (renumbered vars set (n + 1) es)) up (rest (n + 1))

none-above : (low : ℕ) → AreAbove low []
none-above low = (λ k d lt. absurd (omega arith), λ i j d lt within. absurd (omega arith))

steps-ascend : (vars all : ℕ) (set : List ℕ) (last : ℕ) (known : List (ℕ × List ℤ)) (ss : List Step) → steps_follow all last known ss ≡ true
    → (n : ℕ) → AreAbove last (map entry_of (renumbered vars set n (clauses_in ss)))
steps-ascend vars all set last known [] h n = none-above last
steps-ascend vars all set last known (s ∷ ss) h n =
    let outer = and_parts (ltb last s.id && is_step_clause all s.lits && follows known s.lits s.hints) (steps_follow all s.id (known ++ (s.id, s.lits) ∷ []) ss) h in
    let inner = and_parts (ltb last s.id && is_step_clause all s.lits) (follows known s.lits s.hints) outer.0 in
    let up = ltb-true last s.id (and_parts (ltb last s.id) (is_step_clause all s.lits) inner.0).0 in
    renumbered-above vars set n last (s.id, s.lits) (clauses_in ss) up (steps-ascend vars all set s.id (known ++ (s.id, s.lits) ∷ []) ss outer.1)

given-ascend : (vars : ℕ) (set : List ℕ) (from : ℕ) (cs : List (List ℤ)) (rest : List (ℕ × List ℤ))
    → ((n : ℕ) → AreAbove (from + length cs) (map entry_of (renumbered vars set n rest)))
    → (n : ℕ) → AreAbove from (map entry_of (renumbered vars set n (numbered (from + 1) cs ++ rest)))
given-ascend vars set from [] rest above n =
    let same : from + 0 ≡ from = omega arith in
    subst (λ (low : ℕ). AreAbove low (map entry_of (renumbered vars set n rest))) same (above n)
given-ascend vars set from (c ∷ cs) rest above n =
    let same : from + suc (length cs) ≡ from + 1 + length cs = omega arith in
    renumbered-above vars set n from (from + 1, c) (numbered (from + 1 + 1) cs ++ rest) (omega arith)
    (given-ascend vars set (from + 1) cs rest (λ m. subst (λ (low : ℕ). AreAbove low (map entry_of (renumbered vars set m rest))) same (above m)))

pub numbers-ascend : (p : Problem) (set : List ℕ) (d : Derivation) → refutes p set d ≡ true → Ascend (map entry_of (known_of p set d))
numbers-ascend p set d h =
    let derives : is_derivation (p.vars + p.groups) (selector_form p) d ≡ true = (and_parts (is_derivation (p.vars + p.groups) (selector_form p) d) _ h).0 in
    let last : length (selector_form p) ≡ 0 + length (selector_form p) = omega arith in
    (given-ascend p.vars set 0 (selector_form p) (clauses_in d.steps)
    (λ n. subst (λ (low : ℕ). AreAbove low (map entry_of (renumbered p.vars set n (clauses_in d.steps)))) last
    (steps-ascend p.vars (p.vars + p.groups) set (length (selector_form p)) (numbered 1 (selector_form p)) d.steps derives n)) 1).1

-- ---- what an entry says

stays-at : (known : List (ℕ × Option Numbered)) (id place : ℕ) (d : ℕ × Option Numbered) → Ascend (map entry_of known) → IsAt (map entry_of known) id place → stays known id ≡ (get_or known place d).1
stays-at [] id place d up at = let none = at.within in absurd (omega arith)
stays-at ((i, o) ∷ known) id zero d up at = stays-here i id o known (eq-eqb i id (at.here (entry_of (i, o))))
stays-at ((i, o) ∷ known) id (suc place) d up at =
    let within = at.within in
    let here = at.here (entry_of (i, o)) in
    let below = up 0 (suc place) (entry_of (i, o)) (omega arith) within in
    stays-later i id o known (ne_eqb i id (λ same. absurd (omega arith)))
    ∙ stays-at known id place d (λ a b e lt most. up (suc a) (suc b) e (omega arith) (omega arith)) (record { within = omega arith; here = at.here })

stays-nowhere : (known : List (ℕ × Option Numbered)) (id : ℕ) → HasNoId (map entry_of known) id → stays known id ≡ None
stays-nowhere [] id none = refl
stays-nowhere ((i, o) ∷ known) id none =
    stays-later i id o known (ne_eqb i id (none 0 (entry_of (i, o)) (omega arith))) ∙ stays-nowhere known id (λ k d lt. none (suc k) d (omega arith))

-- a clause that stays has its number, which is this one or above, and what is left of it
abbrev IsNumberOf : ℕ → ℕ → List ℤ → Option Numbered → Type 0
IsNumberOf vars low lits None = 0 ≤ low
IsNumberOf vars low lits (Some k) = (low ≤ k.0) × (k.1 ≡ bared vars lits)

renumbered-at : (vars : ℕ) (set : List ℕ) (n : ℕ) (known : List (ℕ × List ℤ)) (i : ℕ) (d : ℕ × Option Numbered) (e : ℕ × List ℤ) → i < length known
    → IsNumberOf vars n (get_or known i e).1 (get_or (renumbered vars set n known) i d).1
renumbered-at vars set n [] i d e lt = absurd (omega arith)
renumbered-at vars set n (x ∷ xs) zero d e lt = by (is_settled vars set x.1)
  where
    by : (b : Bool) → IsNumberOf vars n x.1 (get_or (cond b ((x.0, None) ∷ renumbered vars set n xs) ((x.0, Some (n, bared vars x.1)) ∷ renumbered vars set (n + 1) xs)) 0 d).1
    by true = omega arith
    by false = (omega arith, refl)
renumbered-at vars set n (x ∷ xs) (suc i) d e lt = by (is_settled vars set x.1) (renumbered-at vars set n xs i d e (omega arith)) (renumbered-at vars set (n + 1) xs i d e (omega arith))
  where
    lower : (o : Option Numbered) → IsNumberOf vars (n + 1) (get_or xs i e).1 o → IsNumberOf vars n (get_or xs i e).1 o
    lower None h = omega arith
    lower (Some k) h = ((let low = h.0 in omega arith), h.1)

    by : (b : Bool) → IsNumberOf vars n (get_or xs i e).1 (get_or (renumbered vars set n xs) i d).1 → IsNumberOf vars (n + 1) (get_or xs i e).1 (get_or (renumbered vars set (n + 1) xs) i d).1
        → IsNumberOf vars n (get_or xs i e).1 (get_or (cond b ((x.0, None) ∷ renumbered vars set n xs) ((x.0, Some (n, bared vars x.1)) ∷ renumbered vars set (n + 1) xs)) (suc i) d).1
    by true same next = same
    by false same next = lower (get_or (renumbered vars set (n + 1) xs) i d).1 next

length-renumbered : (vars : ℕ) (set : List ℕ) (n : ℕ) (known : List (ℕ × List ℤ)) → length (renumbered vars set n known) ≡ length known
length-renumbered vars set n [] = refl
length-renumbered vars set n (x ∷ xs) = by (is_settled vars set x.1) (length-renumbered vars set n xs) (length-renumbered vars set (n + 1) xs)
  where
    by : (b : Bool) → length (renumbered vars set n xs) ≡ length xs → length (renumbered vars set (n + 1) xs) ≡ length xs
        → length (cond b ((x.0, None) ∷ renumbered vars set n xs) ((x.0, Some (n, bared vars x.1)) ∷ renumbered vars set (n + 1) xs)) ≡ suc (length xs)
    by true same next = ap suc same
    by false same next = ap suc next

said : (vars number : ℕ) (lits : List ℤ) (o : Option Numbered) → number ≡ option_map_or (λ (c : Numbered). c.0) o 0 → IsNumberOf vars 1 lits o
    → (number ≡ 0 → o ≡ None) × (number ≢ 0 → o ≡ Some (number, bared vars lits))
said vars number lits None is h = (λ none. refl, λ some. absurd (some is))
said vars number lits (Some (k, ls)) is h = (
  λ none. let low = h.0 in absurd (omega arith),
  λ some. ap₂ (λ (a : ℕ) (b : List ℤ). Some (a, b)) (sym is) h.1,
)

module _ (p : Problem) (set : List ℕ) (d : Derivation) (entries : List Entry) (are : AreNumbers p set d entries) where
  pub numbers-nowhere : (id : ℕ) → HasNoId entries id → stays (known_of p set d) id ≡ None
  numbers-nowhere id none = stays-nowhere (known_of p set d) id (subst (λ (es : List Entry). HasNoId es id) are.numbered none)

  counted : length entries ≡ length p.clauses + length d.steps
  counted =
      ap length are.numbered ∙ length-map (known_of p set d) entry_of ∙ length-renumbered p.vars set 1 (all_known (selector_form p) d.steps)
      ∙ length-append (numbered 1 (selector_form p)) (clauses_in d.steps)
      ∙ ap₂ (λ (a b : ℕ). a + b) (length-numbered 1 (selector_form p) ∙ length-map p.clauses (with_selector p)) (length-map d.steps (λ (s : Step). (s.id, s.lits)))

  pub numbers-within : (id place : ℕ) → IsAt entries id place → place < length p.clauses + length d.steps
  numbers-within id place at = let within = at.within in let all = counted in omega arith

  numbers-say : (id place : ℕ) (e : Entry) → IsAt entries id place
      → ((get_or entries place e).number ≡ 0 → stays (known_of p set d) id ≡ None)
      × ((get_or entries place e).number ≢ 0 → stays (known_of p set d) id ≡ Some ((get_or entries place e).number, bared p.vars (get_or (all_known (selector_form p) d.steps) place (0, [])).1))
  numbers-say id place e at =
      let known : List (ℕ × List ℤ) = all_known (selector_form p) d.steps in
      let none : ℕ × Option Numbered = (0, None) in
      let within : place < length entries = at.within in
      let in_known : place < length known_here = omega (arith, ap length are.numbered, length-map (known_of p set d) entry_of, length-renumbered p.vars set 1 known) in
      let in_numbers : place < length (known_of p set d) = omega (arith, ap length are.numbered, length-map (known_of p set d) entry_of) in
      let there = stays-at (known_of p set d) id place none (subst Ascend are.numbered are.ascend) (subst (λ (es : List Entry). IsAt es id place) are.numbered at) in
      let number : (get_or entries place e).number ≡ option_map_or (λ (c : Numbered). c.0) (get_or (known_of p set d) place none).1 0 =
      ap (λ (es : List Entry). (get_or es place e).number) are.numbered ∙ ap (λ (x : Entry). x.number) (get_or-map entry_of (known_of p set d) place none e in_numbers) in
      let both = said p.vars (get_or entries place e).number (get_or known place (0, [])).1 (get_or (known_of p set d) place none).1 number (renumbered-at p.vars set 1 known place none (0, []) in_known) in
      (λ zero. there ∙ both.0 zero, λ some. there ∙ both.1 some)
    where
      known_here : List (ℕ × List ℤ)
      known_here = all_known (selector_form p) d.steps

  pub numbers-goes : (id place : ℕ) (e : Entry) → IsAt entries id place → (get_or entries place e).number ≡ 0 → stays (known_of p set d) id ≡ None
  numbers-goes id place e at = (numbers-say id place e at).0

  pub numbers-stays : (id place : ℕ) (e : Entry) (ls : List ℤ) → IsAt entries id place → (get_or entries place e).number ≢ 0
      → bared p.vars ls ≡ bared p.vars (get_or (all_known (selector_form p) d.steps) place (0, [])).1
      → stays (known_of p set d) id ≡ Some ((get_or entries place e).number, bared p.vars ls)
  numbers-stays id place e ls at some same = (numbers-say id place e at).1 some ∙ ap (λ (b : List ℤ). Some ((get_or entries place e).number, b)) (sym same)

-- ---- the literals at a place

given-at : (from : ℕ) (cs : List (List ℤ)) (rest : List (ℕ × List ℤ)) (i : ℕ) (d : ℕ × List ℤ) (e : List ℤ) → i < length cs → (get_or (numbered from cs ++ rest) i d).1 ≡ get_or cs i e
given-at from [] rest i d e lt = absurd (omega arith)
given-at from (c ∷ cs) rest zero d e lt = refl
given-at from (c ∷ cs) rest (suc i) d e lt = given-at (from + 1) cs rest i d e (omega arith)

pub lits-given : (p : Problem) (d : Derivation) (place : ℕ) (c : Clause) → slice_get p.clauses place ≡ Some c → IsClause p.vars p.groups c
    → bared p.vars c.lits ≡ bared p.vars (get_or (all_known (selector_form p) d.steps) place (0, [])).1
lits-given p d place c here fits =
    let within : place < length p.clauses = slice_get_within p.clauses place c here in
    plain-bared p.vars c.lits fits.lits ∙ sym (clause-bared p c fits)
    ∙ ap (bared p.vars)
    (ap (with_selector p) (sym (get_or_from_slice_get p.clauses place c c here))
    ∙ sym (get_or-map (with_selector p) p.clauses place c [] within)
    ∙ sym (given-at 1 (selector_form p) (clauses_in d.steps) place (0, []) [] (omega (arith, length-map p.clauses (with_selector p)))))

pub lits-step : (p : Problem) (d : Derivation) (place : ℕ) (s : Step) → length p.clauses ≤ place → slice_get d.steps (place - length p.clauses) ≡ Some s
    → bared p.vars s.lits ≡ bared p.vars (get_or (all_known (selector_form p) d.steps) place (0, [])).1
lits-step p d place s behind here =
    let at : ℕ = place - length p.clauses in
    let within = slice_get_within d.steps (place - length p.clauses) s here in
    let given : length (numbered 1 (selector_form p)) ≡ length p.clauses = length-numbered 1 (selector_form p) ∙ length-map p.clauses (with_selector p) in
    ap (bared p.vars)
    (ap (λ (t : Step). t.lits) (sym (get_or_from_slice_get d.steps (place - length p.clauses) s s here))
    ∙ ap (λ (e : ℕ × List ℤ). e.1) (sym (get_or-map (λ (t : Step). (t.id, t.lits)) d.steps (place - length p.clauses) s (0, []) within))
    ∙ ap (λ (n : ℕ). (get_or (clauses_in d.steps) (place - n) (0, [])).1) (sym given)
    ∙ ap (λ (e : ℕ × List ℤ). e.1) (sym (get_or-append_right (numbered 1 (selector_form p)) (clauses_in d.steps) place (0, []) (omega (arith, given)))))
