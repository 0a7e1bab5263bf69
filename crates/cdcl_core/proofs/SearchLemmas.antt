-- What keeps a trail sound.
use Rattle.std.proofs.Common.{◌≡◌, ◌⊎◌, ℕ, ◌+◌, ◌-◌, ◌<◌, ◌≤◌, true, false, cond, List, [], ◌∷◌, ◌++◌, map, length, Option, Some, None, refl, sym, ◌∙◌, ap, subst, inl, inr, arith}
use Rattle.std.specs.Prelude.{ℤ, neg_ℤ, nat_le}
use Rattle.std.proofs.lemmas.Bool.{cond-true, cond-false, cases_eq}
use Rattle.std.proofs.lemmas.Bool.Decides.{leb_tells}
use Rattle.sat_base.specs.Members.{In}
use Rattle.sat_base.specs.Literals.{var_of}
use Rattle.sat_base.specs.Derivation.{clause_of}
use Rattle.sat_base.specs.Database.{StoredClause, known_of, IsLive}
use Rattle.sat_base.specs.Units.{IsUnset, AllTrue, AllFalse, AllFalseBut, HasTwo, IsLoose, IsFixpoint, IsReason, IsConsequence}
use Rattle.sat_base.proofs.Members.{In-append_cases, In-append_left}
use Rattle.sat_base.proofs.DatabaseLemmas.{named_more}
use Rattle.trail_book.specs.declared.entry.Entry.{Entry}
use Rattle.trail_book.specs.Trail.{trues, level_after, top, keep, IsTrail, with_unit}
use Rattle.trail_book.proofs.TrailLemmas.{keep-whole, keep-skip, lit-keep_in, trail_consistent, level_after-at_least, same_var, In-trues, with_unit-same, with_unit-other, trues-with_unit, top-with_unit}
use Rattle.lrat_steps.specs.Honest.{Subsumes}
use Rattle.lrat_steps.specs.Undecided.{Mark, Given, Consequence, Choice, IsMarked, marked_lits, IsMarkedList}
use Rattle.propagate.specs.Propagation.{Grows, Tells}
use Rattle.propagate.proofs.GrowsLemmas.{forced}
use Rattle.propagate.specs.declared.propagated.Propagated.{Propagated}
use Rattle.propagate.specs.declared.propagated.Propagated.TheVariants as propagated
use Rattle.learn_step.specs.Reasons.{HasReason, HasUnit, AreReasoned, before_last, IsDecision}
use Rattle.cdcl_core.specs.State.{IsDecided, IsSoundEntry, IsSound}

-- propagation
pub sound_grows : (db : List StoredClause) (assumed : List ℤ) (count : ℕ) (old new : List Entry) → Grows db old new → IsSound db assumed count old → IsSound db assumed count new
sound_grows db assumed count old [] g s = tt
sound_grows db assumed count old (e ∷ es) (inl same) s = subst (IsSound db assumed count) same s
sound_grows db assumed count old (e ∷ es) (inr g) s =
    let (id, is, r, k) = forced db (trues es) e.lit e.reason e.unit g.0 in (
      subst (IsSoundEntry db assumed count es e.lit) (sym is) (r, k),
      subst (HasUnit db e.lit) (sym g.1) tt,
      sound_grows db assumed count old es g.2 s,
    )

pub in_grows : (db : List StoredClause) (old new : List Entry) (l : ℤ) → Grows db old new → In l (trues old) → In l (trues new)
in_grows db old [] l g h = subst (λ (es : List Entry). In l (trues es)) g h
in_grows db old (e ∷ es) l (inl same) h = subst (λ (es : List Entry). In l (trues es)) same h
in_grows db old (e ∷ es) l (inr g) h = inr (in_grows db old es l g.2 h)

pub length_grows : (db : List StoredClause) (old new : List Entry) → Grows db old new → length old ≤ length new
length_grows db old [] g = let e = ap length g in omega (arith, e)
length_grows db old (e ∷ es) (inl same) = let e = ap length same in omega (arith, e)
length_grows db old (e ∷ es) (inr g) = let rest = length_grows db old es g.2 in omega (arith, rest)

-- backtracking
pub sound_keep : (db : List StoredClause) (assumed : List ℤ) (count k : ℕ) (es : List Entry) → IsSound db assumed count es → IsSound db assumed count (keep k es)
sound_keep db assumed count k [] s = s
sound_keep db assumed count k (e ∷ es) s = elim (leb_tells (top (e ∷ es)) k) [
  | inl kept ↦ subst (IsSound db assumed count) (sym (keep-whole k (e ∷ es) kept.1)) s
  | inr above ↦ subst (IsSound db assumed count) (sym (keep-skip k e es above.1)) (sound_keep db assumed count k es s.2)
]

-- another count that separates the same levels
pub sound_recount : (db : List StoredClause) (assumed : List ℤ) (count new : ℕ) (es : List Entry) → new ≤ count → ((n : ℕ) → n ≤ top es → n ≤ count → n ≤ new) → IsSound db assumed count es → IsSound db assumed new es
sound_recount db assumed count new [] le same s = tt
sound_recount db assumed count new (e ∷ es) le same s =
    (entry e.reason same s.0, s.1, sound_recount db assumed count new es le (λ n h. same n (let more = level_after-at_least e.reason (top es) in omega (arith, more, h))) s.2)
  where
    entry : (r : Option ℕ) → ((n : ℕ) → n ≤ level_after r (top es) → n ≤ count → n ≤ new) → IsSoundEntry db assumed count es e.lit r → IsSoundEntry db assumed new es e.lit r
    entry (Some id) k h = h
    entry None k (inl d, f) = (inl (k (top es + 1) (omega arith) d.0, d.1), f)
    entry None k (inr d, f) = let d0 = d.0 in (inr (omega (arith, le, d0), d.1), f)

-- at level 0 the assumptions and the count do not matter
pub sound_root : (db : List StoredClause) (assumed new : List ℤ) (count other : ℕ) (es : List Entry) → top es ≡ 0 → IsSound db assumed count es → IsSound db new other es
sound_root db assumed new count other [] z s = tt
sound_root db assumed new count other (e ∷ es) z s = go e.reason z s.0 (λ zero. sound_root db assumed new count other es zero s.2)
  where
    go : (r : Option ℕ) → level_after r (top es) ≡ 0 → IsSoundEntry db assumed count es e.lit r → (top es ≡ 0 → IsSound db new other es)
        → IsSoundEntry db new other es e.lit r × HasUnit db e.lit e.unit × IsSound db new other es
    go None z h rest = absurd (omega arith)
    go (Some id) z h rest = (h, s.1, rest z)

-- more clauses
pub record IsMore (db more : List StoredClause) : Type 0 where
  pub names : (id : ℕ) (c : List ℤ) → clause_of (known_of db) id ≡ Some c → clause_of (known_of more) id ≡ Some c
  pub lives : (c : List ℤ) → IsLive db c → IsLive more c

pub more-append : (db new : List StoredClause) → IsMore db (db ++ new)
more-append db new = record { names = λ id c h. named_more db new id c h; lives = λ c h. In-append_left (record { lits = c; live = true }) db new h }

pub reason_more : (db more : List StoredClause) (trues : List ℤ) (l : ℤ) (id : ℕ) → IsMore db more → IsReason db trues l id → IsReason more trues l id
reason_more db more trues l id m r = record { clause = r.clause; named = m.names id r.clause r.named; has = r.has; others = r.others }

pub consequence_more : (db more : List StoredClause) (trues : List ℤ) (l : ℤ) → IsMore db more → IsConsequence db trues l → IsConsequence more trues l
consequence_more db more trues l m r = record { clause = r.clause; live = m.lives r.clause r.live; has = r.has; others = r.others }

-- a fact at each decision, of the entries before it
abbrev pub AtDecision : (List Entry → Type 0) → List Entry → Option ℕ → Type 0
AtDecision P es None = P es
AtDecision P es (Some id) = Unit {0}

abbrev pub AtDecisions : (List Entry → Type 0) → List Entry → Type 0
AtDecisions P [] = Unit {0}
AtDecisions P (e ∷ es) = AtDecision P es e.reason × AtDecisions P es

-- what is new is loose before each decision
abbrev pub NewIsLoose : List StoredClause → List StoredClause → List Entry → Type 0
NewIsLoose db more es = (c : List ℤ) → IsLive more c → IsLive db c ⊎ IsLoose (trues es) c

pub sound_more : (db more : List StoredClause) (assumed : List ℤ) (count : ℕ) (es : List Entry) → IsMore db more → AtDecisions (NewIsLoose db more) es → IsSound db assumed count es → IsSound more assumed count es
sound_more db more assumed count [] m n s = tt
sound_more db more assumed count (e ∷ es) m n s = (entry e.reason n.0 s.0, unit e.unit s.1, sound_more db more assumed count es m n.1 s.2)
  where
    unit : (u : Option ℕ) → HasUnit db e.lit u → HasUnit more e.lit u
    unit None h = tt
    unit (Some id) h = m.names id (e.lit ∷ []) h

    entry : (r : Option ℕ) → AtDecision (NewIsLoose db more) es r → IsSoundEntry db assumed count es e.lit r → IsSoundEntry more assumed count es e.lit r
    entry None new (d, fix) = (d, λ c live. elim (new c live) [ inl old ↦ fix c old | inr loose ↦ loose ])
    entry (Some id) new r = (reason_more db more (trues es) e.lit id m r.0, consequence_more db more (trues es) e.lit m r.1)

-- a clause that is not live changes nothing
pub at_all : (P : List Entry → Type 0) (es : List Entry) → ((xs : List Entry) → P xs) → AtDecisions P es
at_all P [] h = tt
at_all P (e ∷ es) h = (at e.reason, at_all P es h)
  where
    at : (r : Option ℕ) → AtDecision P es r
    at None = h es
    at (Some id) = tt

live_core : (db : List StoredClause) (c d : List ℤ) → IsLive (db ++ record { lits = c; live = false } ∷ []) d → IsLive db d
live_core db c d h = elim (In-append_cases (record { lits = d; live = true }) db (record { lits = c; live = false } ∷ []) h) [
  | inl there ↦ there
  | inr (inl same) ↦ (let marks : true ≡ false = ap (λ (k : StoredClause). k.live) same in cc)
  | inr (inr none) ↦ absurd none
]

pub sound_core : (db : List StoredClause) (c : List ℤ) (assumed : List ℤ) (count : ℕ) (es : List Entry) → IsSound db assumed count es → IsSound (db ++ record { lits = c; live = false } ∷ []) assumed count es
sound_core db c assumed count es s =
    sound_more db (db ++ record { lits = c; live = false } ∷ []) assumed count es (more-append db (record { lits = c; live = false } ∷ []))
    (at_all (NewIsLoose db (db ++ record { lits = c; live = false } ∷ [])) es (λ xs d live. inl (live_core db c d live))) s

pub tells_core : (db : List StoredClause) (c trues : List ℤ) (p : Propagated) → Tells db trues p → Tells (db ++ record { lits = c; live = false } ∷ []) trues p
tells_core db c trues propagated.Fixpoint t = λ d live. t d (live_core db c d live)
tells_core db c trues (propagated.Conflict id) t = record {
  clause = t.clause;
  named = named_more db (record { lits = c; live = false } ∷ []) id t.clause t.named;
  live = In-append_left (record { lits = t.clause; live = true }) db (record { lits = c; live = false } ∷ []) t.live;
  is_false = t.is_false;
}

-- a unit step changes what is known of one literal
entry_same : (db : List StoredClause) (assumed : List ℤ) (count : ℕ) (es xs : List Entry) (l : ℤ) (r : Option ℕ) → trues xs ≡ trues es → top xs ≡ top es → IsSoundEntry db assumed count es l r
    → IsSoundEntry db assumed count xs l r
entry_same db assumed count es xs l None t n (d, f) = (
  subst (λ (k : ℕ). IsDecided assumed count (k + 1) (trues xs) l) (sym n) (subst (λ (ts : List ℤ). IsDecided assumed count (top es + 1) ts l) (sym t) d),
  subst (IsFixpoint db) (sym t) f,
)
entry_same db assumed count es xs l (Some id) t n (r, k) =
    (subst (λ (ts : List ℤ). IsReason db ts l id) (sym t) r, subst (λ (ts : List ℤ). IsConsequence db ts l) (sym t) k)

sound_unit_by : (db : List StoredClause) (assumed : List ℤ) (count id : ℕ) (l : ℤ) (es : List Entry) → clause_of (known_of db) id ≡ Some (l ∷ []) → ((e : Entry) → In e es → var_of e.lit ≡ var_of l → e.lit ≡ l)
    → IsSound db assumed count es → IsSound db assumed count (map (with_unit (var_of l) id) es)
sound_unit_by db assumed count id l [] named alone s = tt
sound_unit_by db assumed count id l (e ∷ es) named alone s =
    let v = var_of l in
    let xs = map (with_unit v id) es in
    let rest = sound_unit_by db assumed count id l es named (λ x i. alone x (inr i)) s.2 in
    let entry = entry_same db assumed count es xs e.lit e.reason (trues-with_unit v id es) (top-with_unit v id es) s.0 in
    elim (cases_eq (var_of e.lit) v) [
      | inl same ↦
          subst (λ (x : Entry). IsSoundEntry db assumed count xs x.lit x.reason × HasUnit db x.lit x.unit × IsSound db assumed count xs) (sym (with_unit-same v id e same))
          (entry, named ∙ ap (λ (m : ℤ). Some (m ∷ [])) (sym (alone e (inl refl) same)), rest)
      | inr other ↦
          subst (λ (x : Entry). IsSoundEntry db assumed count xs x.lit x.reason × HasUnit db x.lit x.unit × IsSound db assumed count xs) (sym (with_unit-other v id e other))
          (entry, s.1, rest)
    ]

pub sound_unit : (vars : ℕ) (db : List StoredClause) (assumed : List ℤ) (count id : ℕ) (l : ℤ) (es : List Entry) → IsTrail vars es → In l (trues es) → clause_of (known_of db) id ≡ Some (l ∷ [])
    → IsSound db assumed count es → IsSound db assumed count (map (with_unit (var_of l) id) es)
sound_unit vars db assumed count id l es t on named s =
    sound_unit_by db assumed count id l es named
    (λ e i same. elim (same_var e.lit l same) [ inl is ↦ is | inr turned ↦ absurd (trail_consistent vars es t l on (subst (λ m. In m (trues es)) turned (In-trues e es i))) ])
    s

-- what stands before the last decision
pub before_none : (e : Entry) (es : List Entry) → e.reason ≡ None → before_last (e ∷ es) ≡ es
before_none e es is =
    let level : top (e ∷ es) ≡ top es + 1 = ap (λ (r : Option ℕ). level_after r (top es)) is in
    keep-skip (top (e ∷ es) - 1) e es (omega arith) ∙ keep-whole (top (e ∷ es) - 1) es (omega arith)

pub before_some : (e : Entry) (es : List Entry) (id : ℕ) → e.reason ≡ Some id → 0 < top es → before_last (e ∷ es) ≡ before_last es
before_some e es id is h =
    let level : top (e ∷ es) ≡ top es = ap (λ (r : Option ℕ). level_after r (top es)) is in
    keep-skip (top (e ∷ es) - 1) e es (omega arith) ∙ ap (λ (n : ℕ). keep (n - 1) es) level

pub before_in : (es : List Entry) (l : ℤ) → In l (trues (before_last es)) → In l (trues es)
before_in es l h = lit-keep_in (top es - 1) es l h

pub fixpoint_before : (db : List StoredClause) (assumed : List ℤ) (count : ℕ) (es : List Entry) → IsSound db assumed count es → 0 < top es → IsFixpoint db (trues (before_last es))
fixpoint_before db assumed count [] s h = absurd (omega arith)
fixpoint_before db assumed count (e ∷ es) s h = go e.reason refl s.0 (λ more. fixpoint_before db assumed count es s.2 more)
  where
    go : (r : Option ℕ) → e.reason ≡ r → IsSoundEntry db assumed count es e.lit r → (0 < top es → IsFixpoint db (trues (before_last es))) → IsFixpoint db (trues (before_last (e ∷ es)))
    go None is entry rest = subst (λ (xs : List Entry). IsFixpoint db (trues xs)) (sym (before_none e es is)) entry.1
    go (Some id) is entry rest =
        let level : top (e ∷ es) ≡ top es = ap (λ (r : Option ℕ). level_after r (top es)) is in
        let up : 0 < top es = omega (arith, level, h) in
        subst (λ (xs : List Entry). IsFixpoint db (trues xs)) (sym (before_some e es id is up)) (rest up)

-- two literals that are not false stay so with fewer true ones
pub two_fewer : (large small c : List ℤ) → AllTrue large small → HasTwo large c → HasTwo small c
two_fewer large small c sub t = record {
  one = t.one;
  other = t.other;
  one_in = t.one_in;
  other_in = t.other_in;
  differ = t.differ;
  one_open = λ h. t.one_open (sub (neg_ℤ t.one) h);
  other_open = λ h. t.other_open (sub (neg_ℤ t.other) h);
}

abbrev pub HasTwoAt : List ℤ → List Entry → Type 0
HasTwoAt c es = HasTwo (trues es) c

-- so what holds before the last decision holds before each
pub two_at_all : (c : List ℤ) (es : List Entry) → (0 < top es → HasTwo (trues (before_last es)) c) → AtDecisions (HasTwoAt c) es
two_at_all c [] h = tt
two_at_all c (e ∷ es) h = go e.reason refl (λ k. two_at_all c es k)
  where
    go : (r : Option ℕ) → e.reason ≡ r → ((0 < top es → HasTwo (trues (before_last es)) c) → AtDecisions (HasTwoAt c) es) → AtDecision (HasTwoAt c) es r × AtDecisions (HasTwoAt c) es
    go None is rest =
        let level : top (e ∷ es) ≡ top es + 1 = ap (λ (r : Option ℕ). level_after r (top es)) is in
        let here : HasTwo (trues es) c = subst (λ (xs : List Entry). HasTwo (trues xs) c) (before_none e es is) (h (omega arith)) in
        (here, rest (λ _. two_fewer (trues es) (trues (before_last es)) c (λ l i. before_in es l i) here))
    go (Some id) is rest =
        let level : top (e ∷ es) ≡ top es = ap (λ (r : Option ℕ). level_after r (top es)) is in
        (tt, rest (λ up. subst (λ (xs : List Entry). HasTwo (trues xs) c) (before_some e es id is up) (h (omega (arith, level, up)))))

pub at_weaken : (P Q : List Entry → Type 0) (es : List Entry) → ((xs : List Entry) → P xs → Q xs) → AtDecisions P es → AtDecisions Q es
at_weaken P Q [] f h = tt
at_weaken P Q (e ∷ es) f h = (at e.reason h.0, at_weaken P Q es f h.1)
  where
    at : (r : Option ℕ) → AtDecision P es r → AtDecision Q es r
    at None p = f es p
    at (Some id) p = tt

-- a learned clause with two literals open before the last decision that is left
pub sound_learned : (db : List StoredClause) (c : List ℤ) (assumed : List ℤ) (count : ℕ) (es : List Entry) → (0 < top es → HasTwo (trues (before_last es)) c) → IsSound db assumed count es
    → IsSound (db ++ record { lits = c; live = true } ∷ []) assumed count es
sound_learned db c assumed count es two s =
    sound_more db (db ++ record { lits = c; live = true } ∷ []) assumed count es (more-append db (record { lits = c; live = true } ∷ []))
    (at_weaken (HasTwoAt c) (NewIsLoose db (db ++ record { lits = c; live = true } ∷ [])) es (λ xs t d live. new xs t d live) (two_at_all c es two)) s
  where
    new : (xs : List Entry) → HasTwo (trues xs) c → (d : List ℤ) → IsLive (db ++ record { lits = c; live = true } ∷ []) d → IsLive db d ⊎ IsLoose (trues xs) d
    new xs t d h = elim (In-append_cases (record { lits = d; live = true }) db (record { lits = c; live = true } ∷ []) h) [
      | inl there ↦ inl there
      | inr (inl same) ↦ inr (inr (subst (HasTwo (trues xs)) (sym (ap (λ (k : StoredClause). k.lits) same)) t))
      | inr (inr none) ↦ absurd none
    ]

-- No live clause is a subset of a clause that forces a literal after a fixpoint.
pub not_subsumed : (vars : ℕ) (db : List StoredClause) (es : List Entry) (c : List ℤ) (u : ℤ) → IsTrail vars es → IsFixpoint db (trues es) → AllFalseBut (trues es) c u → IsUnset (trues es) u
    → (d : List ℤ) → IsLive db d → ¬ Subsumes d c
not_subsumed vars db es c u trail fix others fresh d live sub = elim (fix d live) [
  | inl (l, i, t) ↦ elim (others l (sub l i)) [
    | inl same ↦ fresh.not_true (subst (λ m. In m (trues es)) same t)
    | inr f ↦ trail_consistent vars es trail l t f
  ]
  | inr two ↦ elim (others two.one (sub two.one two.one_in)) [
    | inl same ↦ elim (others two.other (sub two.other two.other_in)) [ inl also ↦ two.differ (same ∙ sym also) | inr f ↦ two.other_open f ]
    | inr f ↦ two.one_open f
  ]
]

-- a false clause has a literal that was not false before the last decision
pub top_literal : (vars : ℕ) (db : List StoredClause) (es : List Entry) (c : List ℤ) → IsTrail vars es → IsFixpoint db (trues (before_last es)) → IsLive db c → AllFalse (trues es) c
    → (l : ℤ) × In l c × (¬ In (neg_ℤ l) (trues (before_last es)))
top_literal vars db es c trail fix live false_all = elim (fix c live) [
  | inl (l, i, t) ↦ absurd (trail_consistent vars es trail l (before_in es l t) (false_all l i))
  | inr two ↦ (two.one, two.one_in, two.one_open)
]

-- where all levels are assumed, each decision is an assumed literal
pub decisions_assumed : (db : List StoredClause) (assumed : List ℤ) (count : ℕ) (es : List Entry) (l : ℤ) → top es ≤ count → IsSound db assumed count es → IsDecision es l → In l assumed
decisions_assumed db assumed count [] l h s (x, i, lit, none) = absurd i
decisions_assumed db assumed count (e ∷ es) l h s (x, inr i, lit, none) =
    decisions_assumed db assumed count es l (let more = level_after-at_least e.reason (top es) in omega (arith, more, h)) s.2 (x, i, lit, none)
decisions_assumed db assumed count (e ∷ es) l h s (x, inl same, lit, none) =
    subst (λ k. In k assumed) (sym (ap (λ (y : Entry). y.lit) same) ∙ lit) (at e.reason (sym (ap (λ (y : Entry). y.reason) same) ∙ none) h s.0)
  where
    at : (r : Option ℕ) → r ≡ None → level_after r (top es) ≤ count → IsSoundEntry db assumed count es e.lit r → In e.lit assumed
    at (Some id) is h k = cc
    at None is h (inl d, f) = d.1
    at None is h (inr d, f) = let d0 = d.0 in absurd (omega (arith, d0, h))

-- at level 0 nothing is decided
pub root_undecided : (es : List Entry) (l : ℤ) → top es ≡ 0 → ¬ IsDecision es l
root_undecided [] l z (x, i, lit, none) = i
root_undecided (e ∷ es) l z (x, inl same, lit, none) =
    let level : level_after e.reason (top es) ≡ top es + 1 = ap (λ (r : Option ℕ). level_after r (top es)) (sym (ap (λ (y : Entry). y.reason) same) ∙ none) in absurd (omega (arith, level, z))
root_undecided (e ∷ es) l z (x, inr i, lit, none) = root_undecided es l (let more = level_after-at_least e.reason (top es) in omega (arith, more, z)) (x, i, lit, none)

pub sound_reasoned : (db : List StoredClause) (assumed : List ℤ) (count : ℕ) (es : List Entry) → IsSound db assumed count es → AreReasoned db es
sound_reasoned db assumed count [] s = tt
sound_reasoned db assumed count (e ∷ es) s = (at e.reason s.0, s.1, sound_reasoned db assumed count es s.2)
  where
    at : (r : Option ℕ) → IsSoundEntry db assumed count es e.lit r → HasReason db (trues es) e.lit r
    at None h = tt
    at (Some id) h = h.0

-- The trail with marks.
abbrev pub mark_of : ℕ → ℕ → Option ℕ → Mark
mark_of count level None = cond (nat_le level count) Given Choice
mark_of count level (Some id) = Consequence

abbrev pub marked : ℕ → List Entry → List (ℤ × Mark)
marked count [] = []
marked count (e ∷ es) = (e.lit, mark_of count (top es + 1) e.reason) ∷ marked count es

pub marked-lits : (count : ℕ) (es : List Entry) → marked_lits (marked count es) ≡ trues es
marked-lits count [] = refl
marked-lits count (e ∷ es) = ap (λ (ls : List ℤ). e.lit ∷ ls) (marked-lits count es)

pub marked-list : (vars : ℕ) (db : List StoredClause) (assumed : List ℤ) (count : ℕ) (es : List Entry) → IsTrail vars es → IsSound db assumed count es → IsMarkedList db assumed (marked count es)
marked-list vars db assumed count [] t s = tt
marked-list vars db assumed count (e ∷ es) t s = (
  subst (λ (ls : List ℤ). ¬ In e.lit ls) (sym (marked-lits count es)) t.0.not_true,
  subst (λ (ls : List ℤ). ¬ In (neg_ℤ e.lit) ls) (sym (marked-lits count es)) t.0.not_false,
  subst (λ (ls : List ℤ). IsMarked db assumed ls e.lit (mark_of count (top es + 1) e.reason)) (sym (marked-lits count es)) (mark e.reason s.0),
  marked-list vars db assumed count es t.2 s.2,
)
  where
    mark : (r : Option ℕ) → IsSoundEntry db assumed count es e.lit r → IsMarked db assumed (trues es) e.lit (mark_of count (top es + 1) r)
    mark (Some id) h = h.1
    mark None (inl d, f) = subst (IsMarked db assumed (trues es) e.lit) (sym (cond-true (nat_le (top es + 1) count) Given Choice (yes_le (top es + 1) count d.0))) d.1
      where
        yes_le : (a b : ℕ) → a ≤ b → nat_le a b ≡ true
        yes_le a b h = elim (leb_tells a b) [ inl kept ↦ kept.0 | inr above ↦ absurd (omega (arith, above.1, h)) ]
    mark None (inr d, f) = subst (IsMarked db assumed (trues es) e.lit) (sym (cond-false (nat_le (top es + 1) count) Given Choice (no_le (top es + 1) count d.0))) (d.1, f)
      where
        no_le : (a b : ℕ) → b < a → nat_le a b ≡ false
        no_le a b h = elim (leb_tells a b) [ inl kept ↦ absurd (omega (arith, kept.1, h)) | inr above ↦ above.0 ]

pub marked-choice : (count : ℕ) (es : List Entry) → count < top es → (l : ℤ) × In (l, Choice) (marked count es)
marked-choice count [] h = absurd (omega arith)
marked-choice count (e ∷ es) h = go e.reason h (λ k. marked-choice count es k)
  where
    go : (r : Option ℕ) → count < level_after r (top es) → (count < top es → (l : ℤ) × In (l, Choice) (marked count es))
        → (l : ℤ) × In (l, Choice) ((e.lit, mark_of count (top es + 1) r) ∷ marked count es)
    go (Some id) h rest = let (l, i) = rest h in (l, inr i)
    go None h rest = elim (leb_tells (top es + 1) count) [
      | inl kept ↦ absurd (omega (arith, kept.1, h))
      | inr above ↦ (e.lit, inl (ap (λ (m : Mark). (e.lit, m)) (sym (cond-false (nat_le (top es + 1) count) Given Choice above.0))))
    ]
