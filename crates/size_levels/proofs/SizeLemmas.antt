-- Lists of sets by their sizes, as often as each set is there.
use Rattle.std.proofs.Common.{◌≡◌, ℕ, zero, suc, ◌+◌, ◌<◌, ◌≤◌, subst, Bool, true, false, cond, List, [], ◌∷◌, length, refl, sym, ◌∙◌, ap, inl, inr, arith, eqb, leb}
use Rattle.std.specs.Prelude.{nat_eq}
use Rattle.std.specs.List.{filter}
use Rattle.std.specs.List.Sorted.{IsPermutation}
use Rattle.std.specs.Cmp.Lexicographic.{pointwise}
use Rattle.std.proofs.lemmas.Bool.{cases_Bool, cases_lt, cases_order, cases_eq, leb-true, leb-false, cond-true, cond-false, eq-eqb, ne_eqb, le-leb, lt-leb}
use Rattle.evidence_rec.proofs.SetListLemmas.{one_if, times, same-is, times-append, IsPermutation-same}
use Rattle.gm_base.specs.Problem.{Problem}
use Rattle.gm_base.specs.declared.kind.Kind.{Kind}
use Rattle.size_levels.specs.Sizes.{up_to, of_size, by_size, minimal_sets, size_for_count, level_for}
use Rattle.size_levels.specs.Laws.{IsLevelFor}

-- a set that passes is there as often as before, and another one not
pub times-filter_is : (test : List ℕ → Bool) (s : List ℕ) (xs : List (List ℕ)) → times s (filter test xs) ≡ cond (test s) (times s xs) 0
times-filter_is test s [] = none (test s)
  where
    none : (b : Bool) → ◌≡◌ {A = ℕ} 0 (cond b 0 0)
    none true = refl
    none false = refl
times-filter_is test s (x ∷ xs) =
    let rest = times-filter_is test s xs in
    elim (cases_Bool (test x)) [
      | inl kept ↦
          ap (times s) (cond-true (test x) (x ∷ filter test xs) (filter test xs) kept)
          ∙ elim (cases_Bool (test s)) [
            | inl passes ↦
                let is = rest ∙ ap (λ b. cond b (times s xs) 0) passes in
                let all = ap (λ b. cond b (times s (x ∷ xs)) 0) passes in
                omega arith
            | inr fails ↦
                let other : one_if (pointwise nat_eq x s) ≡ 0 = ap one_if (apart (λ same. absurd (differ kept fails same))) in
                let is = rest ∙ ap (λ b. cond b (times s xs) 0) fails in
                let all = ap (λ b. cond b (times s (x ∷ xs)) 0) fails in
                omega arith
          ]
      | inr dropped ↦
          ap (times s) (cond-false (test x) (x ∷ filter test xs) (filter test xs) dropped)
          ∙ elim (cases_Bool (test s)) [
            | inl passes ↦
                let other : one_if (pointwise nat_eq x s) ≡ 0 = ap one_if (apart (λ same. absurd (differ' dropped passes same))) in
                let is = rest ∙ ap (λ b. cond b (times s xs) 0) passes in
                let all = ap (λ b. cond b (times s (x ∷ xs)) 0) passes in
                omega arith
            | inr fails ↦
                let is = rest ∙ ap (λ b. cond b (times s xs) 0) fails in
                let all = ap (λ b. cond b (times s (x ∷ xs)) 0) fails in
                omega arith
          ]
    ]
  where
    apart : (x ≡ s → ⊥) → pointwise nat_eq x s ≡ false
    apart f =
        elim (cases_Bool (pointwise nat_eq x s)) [
          | inl same ↦ absurd (f (same-is x s same))
          | inr other ↦ other
        ]

    differ : test x ≡ true → test s ≡ false → x ≡ s → ⊥
    differ a b same = let e = ap test same in cc

    differ' : test x ≡ false → test s ≡ true → x ≡ s → ⊥
    differ' a b same = let e = ap test same in cc

-- a set with at most so many groups stands in the part of its own size, and in no other
times-by_size : (bound : ℕ) (sets : List (List ℕ)) (s : List ℕ) → times s (by_size bound sets) ≡ times s (up_to bound sets)
times-by_size zero sets s =
    times-filter_is (λ x. eqb (length x) 0) s sets
    ∙ ap (λ b. cond b (times s sets) 0) (test (length s))
    ∙ sym (times-filter_is (λ x. leb (length x) 0) s sets)
  where
    test : (n : ℕ) → eqb n 0 ≡ leb n 0
    test n =
        elim (cases_eq n 0) [
          | inl is ↦ eq-eqb n 0 is ∙ sym (le-leb n 0 (omega arith))
          | inr other ↦ ne_eqb n 0 other ∙ sym (lt-leb n 0 (positive n other))
        ]
      where
        positive : (n : ℕ) → (n ≡ 0 → ⊥) → 0 < n
        positive zero f = absurd (f refl)
        positive (suc n) f = omega arith
times-by_size (suc b) sets s =
    let front = times-by_size b sets s ∙ times-filter_is (λ x. leb (length x) b) s sets in
    let last = times-filter_is (λ x. eqb (length x) (suc b)) s sets in
    let split = times-append s (by_size b sets) (of_size (suc b) sets) in
    let whole = times-filter_is (λ x. leb (length x) (suc b)) s sets in
    let parts = sum (length s) (times s sets) in
    omega arith
  where
    sum : (n t : ℕ) → cond (leb n b) t 0 + cond (eqb n (suc b)) t 0 ≡ cond (leb n (suc b)) t 0
    sum n t =
        elim (cases_order n (suc b)) [
          | inl is ↦
              let no = cond-false (leb n b) t 0 (lt-leb n b (omega arith)) in
              let yes = cond-true (eqb n (suc b)) t 0 (eq-eqb n (suc b) is) in
              let all = cond-true (leb n (suc b)) t 0 (le-leb n (suc b) (omega arith)) in
              omega arith
          | inr other ↦
              elim other [
                | inl below ↦
                    let yes = cond-true (leb n b) t 0 (le-leb n b (omega arith)) in
                    let no = cond-false (eqb n (suc b)) t 0 (ne_eqb n (suc b) (λ e. absurd (omega arith))) in
                    let all = cond-true (leb n (suc b)) t 0 (le-leb n (suc b) (omega arith)) in
                    omega arith
                | inr above ↦
                    let no = cond-false (leb n b) t 0 (lt-leb n b (omega arith)) in
                    let none = cond-false (eqb n (suc b)) t 0 (ne_eqb n (suc b) (λ e. absurd (omega arith))) in
                    let not_all = cond-false (leb n (suc b)) t 0 (lt-leb n (suc b) above) in
                    omega arith
              ]
        ]

-- two lists are one up to the order if each set is in both as often
pub by_size-all : (bound : ℕ) (sets : List (List ℕ)) → IsPermutation (by_size bound sets) (up_to bound sets)
by_size-all bound sets = IsPermutation-same (by_size bound sets) (up_to bound sets) (times-by_size bound sets)

-- the size up to which as many as wanted are there
record FirstFrom (sets : List (List ℕ)) (wanted size end found : ℕ) : Type 0 where
  from : size ≤ found
  within : found ≤ end
  enough : found < end → wanted ≤ length (up_to found sets)
  least : (lesser : ℕ) → size ≤ lesser → lesser < found → length (up_to lesser sets) < wanted

-- sizes are tried upwards, so where the search stops each lesser one had too few sets
first-from : (sets : List (List ℕ)) (wanted size more : ℕ) → FirstFrom sets wanted size (size + more) (size_for_count sets wanted size more)
first-from sets wanted size zero =
    record {
      from = omega arith;
      within = omega arith;
      enough = λ lt. absurd (omega arith);
      least = λ lesser low lt. absurd (omega arith);
    }
first-from sets wanted size (suc more) =
    elim (cases_Bool (leb wanted (length (up_to size sets)))) [
      | inl enough ↦
          subst (FirstFrom sets wanted size (size + suc more)) (sym (cond-true (leb wanted (length (up_to size sets))) size (size_for_count sets wanted (suc size) more) enough))
          (record {
            from = omega arith;
            within = omega arith;
            enough = λ lt. leb-true wanted (length (up_to size sets)) enough;
            least = λ lesser low lt. absurd (omega arith);
          })
      | inr few ↦
          let rest = first-from sets wanted (suc size) more in
          let from = rest.from in
          let within = rest.within in
          subst (FirstFrom sets wanted size (size + suc more)) (sym (cond-false (leb wanted (length (up_to size sets))) size (size_for_count sets wanted (suc size) more) few))
          (record {
            from = omega arith;
            within = omega arith;
            enough = λ lt. rest.enough (omega arith);
            least = λ lesser low lt.
                elim (cases_lt size lesser) [
                  | inl behind ↦ rest.least lesser behind lt
                  | inr at ↦
                      let same : size ≡ lesser = omega arith in
                      subst (λ n. length (up_to n sets) < wanted) same (leb-false wanted (length (up_to size sets)) few)
                ];
          })
    ]

-- that search begins at size 0, and goes no further than the number of groups
pub level_for-least : (p : Problem) (kind : Kind) (wanted : ℕ) → IsLevelFor p kind wanted (level_for p kind wanted)
level_for-least p kind wanted =
    let f = first-from (minimal_sets p kind) wanted 0 p.groups in
    let within = f.within in
    record {
      within = omega arith;
      enough = λ lt. f.enough (omega arith);
      least = λ lesser lt. f.least lesser (omega arith) lt;
    }
