-- A conflict by its number in the report, and its record.
use Rattle.std.proofs.Common.{◌≡◌, ℕ, suc, zero, ◌+◌, ◌<◌, ◌≤◌, ◌-◌, true, List, [], ◌∷◌, ◌++◌, length, get_or, Option, Some, None, refl, sym, ◌∙◌, ap, subst, inl, inr, arith}
use Rattle.std.specs.Borrow.{Bor}
use Rattle.std.proofs.lemmas.Bool.{false≢true}
use Rattle.std.proofs.lemmas.List.{get_or-map, length-map}
use Rattle.sat_base.specs.Members.{In}
use Rattle.gm_base.specs.Problem.{Problem, IsProblem}
use Rattle.gm_base.specs.declared.kind.Kind.TheVariants as kinds
use Rattle.gm_base.specs.Lent.{lists_of}
use Rattle.gm_base.specs.Minimal.{conflicts}
use Rattle.report_text.specs.Sorted.{IsSortedOf}
use Rattle.evidence_rec.specs.declared.record.Record.{Record}
use Rattle.evidence_rec.specs.declared.record.Record.TheVariants.{Conflict, Correction}
use Rattle.evidence_rec.specs.Held.{is_held, conflicts_in}
use Rattle.evidence_rec.specs.Records.{Accepts, AllAcceptedBehind, kind_of, set_of}
use Rattle.evidence_rec.proofs.SetListLemmas.{filter-In, same-is}
use Rattle.gm_io.specs.Numbered.{IsNumbered, shown_conflicts, IsConflictOf, IsNumberedIn, is_of}
use Rattle.gm_io.specs.Resuming.{AreGoodFirst}
use Rattle.gm_io.proofs.OrderLemmas.{shown_conflicts-from}

-- what stands at a place is among them
pub In-at : (records : List Record) (i : ℕ) (r : Record) → i < length records → get_or records i r ≡ r → In r records
In-at [] i r lt is = absurd (omega arith)
In-at (s ∷ rs) zero r lt is = inl (sym is)
In-at (s ∷ rs) (suc i) r lt is = inr (In-at rs i r (omega arith) is)

-- the set at a place has the number behind the place
numbered-at : (sets : List (List ℕ)) (i : ℕ) (s : List ℕ) → i < length sets → get_or sets i s ≡ s → IsNumbered sets (i + 1) s
numbered-at [] i s lt is = absurd (omega arith)
numbered-at (t ∷ ts) zero s lt is = record { before = []; behind = ts; parts = ap (λ u. u ∷ ts) is; place = refl }
numbered-at (t ∷ ts) (suc i) s lt is =
    let h = numbered-at ts i s (omega arith) is in
    let place = h.place in
    record { before = t ∷ h.before; behind = h.behind; parts = ap (λ us. t ∷ us) h.parts; place = omega arith }

In-numbered : (before behind : List (List ℕ)) (s : List ℕ) → In s (before ++ s ∷ behind)
In-numbered [] behind s = inl refl
In-numbered (t ∷ before) behind s = inr (In-numbered before behind s)

-- a record of this kind and set
is_of-is : (set : List ℕ) (r : Record) → is_of kinds.Conflict set r ≡ true → (kind_of r ≡ kinds.Conflict) × (set_of r ≡ set)
is_of-is set (Conflict groups proof witnesses) same = (refl, same-is groups set same)
is_of-is set (Correction groups witness proofs) same = absurd (false≢true same)

-- the record of a set that has a number is found
found-at : (p : Problem) (records : List Record) (number : ℕ) (set : List ℕ) (result : Option (Bor Record)) → IsNumbered (shown_conflicts p records) number set
    → IsConflictOf records set result → IsNumberedIn p records number result
found-at p records number set None numbered none =
    let among = subst (In set) (sym numbered.parts) (In-numbered numbered.before numbered.behind set) in
    absurd (false≢true (sym none ∙ (filter-In (is_held records kinds.Conflict) set (conflicts p) among).1))
found-at p records number set (Some found) numbered h =
    let (kind, same) = is_of-is set found.now h.1 in
    record { held = h.0; kind = kind; numbered = subst (IsNumbered (shown_conflicts p records) number) (sym same) numbered }

module _ (p : Problem) (records : List Record) (ok : IsProblem p) (good : AreGoodFirst p records) (found us : List (List ℕ)) (kept : found ≡ conflicts_in records)
    (sorted : IsSortedOf found us) (number : ℕ) (some : 0 < number) where
  shown : us ≡ shown_conflicts p records
  shown = shown_conflicts-from p records us ok good.accepted good.distinct (subst (λ sets. IsSortedOf sets us) kept sorted)

  found-numbered : (set : List ℕ) (result : Option (Bor Record)) → number - 1 < length us → get_or us (number - 1) set ≡ set
      → IsConflictOf records set result → IsNumberedIn p records number result
  found-numbered set result lt is h =
      let one : number - 1 + 1 ≡ number = omega arith in
      found-at p records number set result (subst (λ sets. IsNumbered sets number set) shown (subst (λ n. IsNumbered us n set) one (numbered-at us (number - 1) set lt is))) h

  missing-numbered : length us ≤ number - 1 → length (shown_conflicts p records) < number
  missing-numbered le = let same = ap length shown in omega arith

-- a conflict that is accepted among others is accepted alone
alone : (p : Problem) (earlier : List Record) (r : Record) → kind_of r ≡ kinds.Conflict → Accepts p earlier r → Accepts p [] r
alone p earlier (Conflict set proof witnesses) kind h = h
alone p earlier (Correction set witness proofs) kind h = let never : ⊥ = cc in absurd never

pub accepted-alone : (p : Problem) (earlier records : List Record) (r : Record) → AllAcceptedBehind p earlier records → In r records → kind_of r ≡ kinds.Conflict
    → Accepts p [] r
accepted-alone p earlier [] r all among kind = absurd among
accepted-alone p earlier (s ∷ rs) r all (inl here) kind = alone p earlier r kind (subst (Accepts p earlier) (sym here) all.0.accepts)
accepted-alone p earlier (s ∷ rs) r all (inr later) kind = accepted-alone p (earlier ++ s ∷ []) rs r all.1 later kind

-- ---- the same of sets that are lent

module _ (p : Problem) (records : List Record) (ok : IsProblem p) (good : AreGoodFirst p records) (found : List (List ℕ)) (kept : found ≡ conflicts_in records)
    (slice items : List (Bor (List ℕ))) (is : slice ≡ items) (sorted : IsSortedOf found (lists_of items)) (number : ℕ) (some : 0 < number) where
  sorted-slice : IsSortedOf found (lists_of slice)
  sorted-slice = subst (λ lent. IsSortedOf found (lists_of lent)) (sym is) sorted

  pub found-lent : (set : Bor (List ℕ)) (result : Option (Bor Record)) → number - 1 < length slice → set ≡ get_or slice (number - 1) set
      → IsConflictOf records set.now result → IsNumberedIn p records number result
  found-lent set result lt at h =
      found-numbered p records ok good found (lists_of slice) kept sorted-slice number some set.now result
      (subst (λ n. number - 1 < n) (sym (length-map slice (λ (s : Bor (List ℕ)). s.now))) lt)
      (get_or-map (λ (s : Bor (List ℕ)). s.now) slice (number - 1) set set.now lt ∙ ap (λ (s : Bor (List ℕ)). s.now) (sym at)) h

  pub missing-lent : length slice ≤ number - 1 → length (shown_conflicts p records) < number
  missing-lent le =
      missing-numbered p records ok good found (lists_of slice) kept sorted-slice number some
      (subst (λ n. n ≤ number - 1) (sym (length-map slice (λ (s : Bor (List ℕ)). s.now))) le)
