-- How clauses stay laid out.
use Rattle.std.proofs.Common.{◌≡◌, ℕ, ◌+◌, ◌-◌, ◌<◌, ◌≤◌, List, [], ◌∷◌, ◌++◌, map, length, take, drop, sym, ◌∙◌, ap, subst, arith, All, length-append, length-take}
use Rattle.std.specs.Prelude.{ℤ}
use Rattle.std.proofs.lemmas.List.{take-map, take-append-drop, take-append-le}
use Rattle.std.proofs.lemmas.List.Elements.{All-push, All-append, All-from_recursion}
use Rattle.sat_base.specs.Literals.{IsLiteral, AreLiterals}
use Rattle.lrat_check.specs.Refusal.{last_id}
use Rattle.lrat_check.specs.Ids.{cut_by, IsWithin}
use Rattle.lrat_check.specs.Inner.{AreLaidOut}
use Rattle.lrat_check.specs.declared.clauses.ClauseRecord.{ClauseRecord}
use Rattle.lrat_check.proofs.IdLemmas.{cuts_before, ascend_push, within_more, front_push, last_known}

-- records whose literals are among the first cut the same from the first alone
pub cuts_after_cut : (lits : List ℤ) (count inputs : ℕ) (records : List ClauseRecord) → count ≤ length lits → All (IsWithin count) (take inputs records)
    → map (cut_by (take count lits)) (take inputs records) ≡ take inputs (map (cut_by lits) records)
cuts_after_cut lits count inputs records le within =
    let len : length (take count lits) ≡ count = omega (arith, length-take count lits) in
    sym (cuts_before (take count lits) (drop count lits) (take inputs records) (subst (λ (n : ℕ). All (IsWithin n) (take inputs records)) (sym len) within))
    ∙ ap (λ (ls : List ℤ). map (cut_by ls) (take inputs records)) (take-append-drop count lits)
    ∙ sym (take-map (cut_by lits) inputs records)

-- a clause over the variables comes last, under an id above all others
pub laid_out_push : (vars inputs input_lits : ℕ) (ls ms : List ℤ) (records : List ClauseRecord) (r : ClauseRecord) → AreLaidOut vars inputs input_lits ls records
    → AreLiterals vars ms → last_id (map (cut_by ls) records) < r.id → r.start ≡ length ls → r.end ≡ length (ls ++ ms)
    → AreLaidOut vars inputs input_lits (ls ++ ms) (records ++ r ∷ [])
laid_out_push vars inputs input_lits ls ms records r old over rises starts ends =
    let counted = old.counted in
    let more : length ls ≤ length (ls ++ ms) = omega (arith, length-append ls ms) in
    record {
      small = old.small;
      over = All-append (IsLiteral vars) ls ms old.over (All-from_recursion (IsLiteral vars) ms over);
      within = All-push (IsWithin (length (ls ++ ms))) records r (within_more (length ls) (length (ls ++ ms)) records more old.within)
          (record { ordered = omega arith; within = omega arith });
      ascend = ascend_push ls records r old.ascend rises;
      counted = omega (arith, length-append records (r ∷ []));
      lits_counted = omega (arith, old.lits_counted);
      numbered = λ i d lt. ap (λ (x : ClauseRecord). x.id) (front_push records r d i (omega arith)) ∙ old.numbered i d lt;
      inputs_within = subst (All (IsWithin input_lits)) (sym (take-append-le inputs records (r ∷ []) counted)) old.inputs_within;
    }

-- where no step was taken, the ids are numbers from 1
pub last_numbered : (vars inputs input_lits : ℕ) (lits : List ℤ) (records : List ClauseRecord) → AreLaidOut vars inputs input_lits lits records → length records ≡ inputs
    → last_id (map (cut_by lits) records) < length records + 1
last_numbered vars inputs input_lits lits [] old all = omega arith
last_numbered vars inputs input_lits lits (r ∷ records) old all =
    let is = last_known lits (r ∷ records) r (omega arith) in
    let number = old.numbered (length (r ∷ records) - 1) r (omega arith) in
    omega arith
