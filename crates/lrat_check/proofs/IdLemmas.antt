-- Clauses found by their ids.
use Rattle.std.proofs.Common.{◌≡◌, ◌≢◌, ℕ, zero, suc, ◌-◌, ◌<◌, ◌≤◌, eqb, List, [], ◌∷◌, ◌++◌, map, length, get_or, drop, Some, None, Ok, Err, refl, ◌∙◌, ap, ap₂, inl, inr, arith, All, slice_range}
use Rattle.std.specs.Prelude.{ℤ}
use Rattle.std.specs.List.{find}
use Rattle.std.specs.List.Sorted.{IsBinarySearchResult, IsSearchInRange}
use Rattle.std.specs.Option.{option_map}
use Rattle.std.specs.Ordering.{nat_cmp}
use Rattle.std.proofs.lemmas.Bool.{cond-true, cond-false, eq-eqb, ne_eqb, cases_eq}
use Rattle.std.proofs.lemmas.List.{map_push, length-map, get_or-map}
use Rattle.std.proofs.lemmas.List.Elements.{All-drop, All-take}
use Rattle.std.proofs.lemmas.List.Quantifiers.{all_pairs_push}
use Rattle.sat_base.specs.Literals.{IsLiteral, AreLiterals}
use Rattle.sat_base.specs.Derivation.{clause_of}
use Rattle.sat_base.proofs.SpanLemmas.{range_before, range_at_end}
use Rattle.std.proofs.lemmas.List.Elements.{recursion_from_All}
use Rattle.lrat_check.specs.Refusal.{last_id}
use Rattle.lrat_check.specs.State.{IdsAscend}
use Rattle.lrat_check.specs.Ids.{cut_by, IsWithin, Ascend, IsAt, HasNoId}
use Rattle.lrat_check.proofs.HalvingLemmas.{halved_here, halved_nowhere}
use Rattle.lrat_check.specs.declared.clauses.ClauseRecord.{ClauseRecord}

known_here : (lits : List ℤ) (r : ClauseRecord) (records : List ClauseRecord) (id : ℕ) → r.id ≡ id
    → clause_of (map (cut_by lits) (r ∷ records)) id ≡ Some (slice_range lits r.start r.end)
known_here lits r records id same =
    ap (option_map (λ (e : ℕ × List ℤ). e.1))
    (cond-true (eqb r.id id) (Some (cut_by lits r)) (find (λ (e : ℕ × List ℤ). eqb e.0 id) (map (cut_by lits) records)) (eq-eqb r.id id same))

known_later : (lits : List ℤ) (r : ClauseRecord) (records : List ClauseRecord) (id : ℕ) → r.id ≢ id
    → clause_of (map (cut_by lits) (r ∷ records)) id ≡ clause_of (map (cut_by lits) records) id
known_later lits r records id other =
    ap (option_map (λ (e : ℕ × List ℤ). e.1))
    (cond-false (eqb r.id id) (Some (cut_by lits r)) (find (λ (e : ℕ × List ℤ). eqb e.0 id) (map (cut_by lits) records)) (ne_eqb r.id id other))

ascend_rest : (r : ClauseRecord) (records : List ClauseRecord) → Ascend (r ∷ records) → Ascend records
ascend_rest r records up i j d lt within = up (suc i) (suc j) d (omega arith) (omega arith)

-- the record with the id gives the clause, since no other has it
pub known_at : (lits : List ℤ) (records : List ClauseRecord) (id place : ℕ) (d : ClauseRecord) → Ascend records → IsAt records id place
    → clause_of (map (cut_by lits) records) id ≡ Some (slice_range lits (get_or records place d).start (get_or records place d).end)
known_at lits [] id place d up at = let none = at.within in absurd (omega arith)
known_at lits (r ∷ records) id zero d up at = known_here lits r records id (at.here r)
known_at lits (r ∷ records) id (suc place) d up at =
    let within = at.within in
    let here = at.here r in
    let below = up 0 (suc place) r (omega arith) within in
    known_later lits r records id (λ same. absurd (omega arith))
    ∙ known_at lits records id place d (ascend_rest r records up) (record { within = omega arith; here = at.here })

pub known_nowhere : (lits : List ℤ) (records : List ClauseRecord) (id : ℕ) → HasNoId records id → clause_of (map (cut_by lits) records) id ≡ None
known_nowhere lits [] id none = refl
known_nowhere lits (r ∷ records) id none =
    known_later lits r records id (none 0 r (omega arith)) ∙ known_nowhere lits records id (λ i d lt. none (suc i) d (omega arith))

-- halving finds the record with the id, or shows that there is none
pub halved_ok : (records : List ClauseRecord) (id place : ℕ) → IsSearchInRange (Ok place) (length records) → IsBinarySearchResult (λ (r : ClauseRecord). nat_cmp r.id id) records (Ok place)
    → IsAt records id place
halved_ok records id place within equal = record { within = within; here = halved_here (λ (r : ClauseRecord). r.id) records id place equal }

pub halved_err : (records : List ClauseRecord) (id place : ℕ) → Ascend records → IsBinarySearchResult (λ (r : ClauseRecord). nat_cmp r.id id) records (Err place)
    → HasNoId records id
halved_err records id place up parted = halved_nowhere (λ (r : ClauseRecord). r.id) records id place up parted

-- what is cut from literals over the variables is over them
pub over_cut : (vars : ℕ) (lits : List ℤ) (start end : ℕ) → All (IsLiteral vars) lits → AreLiterals vars (slice_range lits start end)
over_cut vars lits start end over =
    recursion_from_All (IsLiteral vars) (slice_range lits start end)
    (All-take (IsLiteral vars) (end - start) (drop start lits) (All-drop (IsLiteral vars) start lits over))

-- the clauses stay where literals come behind theirs
pub cuts_before : (ls ms : List ℤ) (records : List ClauseRecord) → All (IsWithin (length ls)) records → map (cut_by (ls ++ ms)) records ≡ map (cut_by ls) records
cuts_before ls ms [] within = refl
cuts_before ls ms (r ∷ records) within =
    let here = within 0 r (omega arith) in
    ap₂ (λ (cut : List ℤ) (rest : List (ℕ × List ℤ)). (r.id, cut) ∷ rest) (range_before ls ms r.start r.end here.ordered here.within)
    (cuts_before ls ms records (λ k d lt. within (suc k) d (omega arith)))

-- and the record of what was added cuts just that
pub cuts_after_add : (ls ms : List ℤ) (records : List ClauseRecord) (r : ClauseRecord)
    → All (IsWithin (length ls)) records → r.start ≡ length ls → r.end ≡ length (ls ++ ms)
    → map (cut_by (ls ++ ms)) (records ++ r ∷ []) ≡ map (cut_by ls) records ++ (r.id, ms) ∷ []
cuts_after_add ls ms records r within starts ends =
    map_push (cut_by (ls ++ ms)) records r
    ∙ ap₂ (λ (known : List (ℕ × List ℤ)) (cut : List ℤ). known ++ (r.id, cut) ∷ []) (cuts_before ls ms records within) (rw starts (range_at_end ls ms r.end ends))

-- the id of the last record
pub last_known : (lits : List ℤ) (records : List ClauseRecord) (d : ClauseRecord) → 0 < length records → last_id (map (cut_by lits) records) ≡ (get_or records (length records - 1) d).id
last_known lits records d some =
    ap (λ (n : ℕ). (get_or (map (cut_by lits) records) (n - 1) (0, [])).0) (length-map records (cut_by lits))
    ∙ ap (λ (e : ℕ × List ℤ). e.0) (get_or-map (cut_by lits) records (length records - 1) d (0, []) (omega arith))

-- a record with a greater id may come next
pub ascend_push : (lits : List ℤ) (records : List ClauseRecord) (r : ClauseRecord) → Ascend records → last_id (map (cut_by lits) records) < r.id → Ascend (records ++ r ∷ [])
ascend_push lits records r up above =
    all_pairs_push (λ (s t : ClauseRecord). s.id < t.id) records r up
    (λ k d lt.
    let last = last_known lits records d (omega arith) in
    elim (cases_eq k (length records - 1)) [
      | inl same ↦ let here = ap (λ (n : ℕ). (get_or records n d).id) same in omega arith
      | inr other ↦ let below = up k (length records - 1) d (omega arith) (omega arith) in omega arith
    ])

-- a longer list of literals holds what a shorter one does
pub within_more : (count more : ℕ) (records : List ClauseRecord) → count ≤ more → All (IsWithin count) records → All (IsWithin more) records
within_more count more records le all k d lt = let here = all k d lt in record { ordered = here.ordered; within = omega (arith, here.within) }

-- what comes behind does not change what is in front
pub front_push : (records : List ClauseRecord) (r d : ClauseRecord) (i : ℕ) → i < length records → get_or (records ++ r ∷ []) i d ≡ get_or records i d
front_push [] r d i lt = absurd (omega arith)
front_push (s ∷ records) r d zero lt = refl
front_push (s ∷ records) r d (suc i) lt = front_push records r d i (omega arith)

-- the ids of the clauses ascend as those of the records do
pub ids_ascend : (lits : List ℤ) (records : List ClauseRecord) → Ascend records → IdsAscend (map (cut_by lits) records)
ids_ascend lits records up i j d lt within =
    let most : j < length records = within_map within in
    let none : ClauseRecord = record { id = 0; start = 0; end = 0 } in
    let first = ap (λ (c : ℕ × List ℤ). c.0) (get_or-map (cut_by lits) records i none d (omega arith)) in
    let second = ap (λ (c : ℕ × List ℤ). c.0) (get_or-map (cut_by lits) records j none d most) in
    let rises = up i j none lt most in
    omega arith
  where
    within_map : j < length (map (cut_by lits) records) → j < length records
    within_map low = simp length-map at low
