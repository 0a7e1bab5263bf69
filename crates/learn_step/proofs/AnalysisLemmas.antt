-- Steps of an analysis: a literal is kept, or resolved with the clause that forced its negation.
use Rattle.std.proofs.Common.{◌≡◌, ◌⊎◌, ℕ, ◌+◌, ◌-◌, ◌<◌, ◌≤◌, Bool, true, false, List, [], ◌∷◌, ◌++◌, length, Option, Some, None, refl, sym, ◌∙◌, ap, subst, inl, inr, arith, max}
use Rattle.std.specs.Prelude.{ℤ, neg_ℤ, reverse}
use Rattle.std.specs.Ordering.{int_eq}
use Rattle.std.proofs.Math.IntN.{neg_ℤ-neg_ℤ}
use Rattle.std.proofs.lemmas.Bool.{false_from_ne_true, cases_lt, cases_eq}
use Rattle.std.proofs.lemmas.Bool.Decides.{Decides-int_eq}
use Rattle.std.proofs.lemmas.List.{reverse-append}
use Rattle.sat_base.specs.Members.{In}
use Rattle.sat_base.specs.Literals.{var_of}
use Rattle.sat_base.specs.Derivation.{clause_of, contains_lit, follows}
use Rattle.sat_base.specs.Database.{StoredClause, known_of}
use Rattle.sat_base.specs.Units.{AllFalse, IsReason, IsUnset}
use Rattle.sat_base.specs.Work.{TakesGreatest}
use Rattle.sat_base.proofs.Members.{any_at, any_from, In-append_left, In-append_right, In-append_cases}
use Rattle.sat_base.proofs.DatabaseLemmas.{get_in, named_range, named_is}
use Rattle.clause_store.specs.Clauses.{no_clause, clause_at, IsId}
use Rattle.trail_book.specs.declared.entry.Entry.{Entry}
use Rattle.trail_book.specs.Trail.{trues, oldest, IsTrail}
use Rattle.trail_book.proofs.TrailLemmas.{trail_consistent, same_var}
use Rattle.learn_step.specs.Reasons.{HasReason, HasUnit, AreReasoned}
use Rattle.learn_step.specs.Learnt.{IsUsed}
use Rattle.learn_step.specs.Leading.{Leads}
use Rattle.learn_step.specs.Places.{literal_at, false_at, AreBelow, at_hand, HaveValues, HasPlaces, IsPlaceOf, first_some, hint_of}
use Rattle.learn_step.specs.Analysis.{IsBroughtIn, IsStep, IsAnalysis}
use Rattle.learn_step.proofs.Backward.{Leads-more, Leads-back, follows-from_Leads}
use Rattle.learn_step.proofs.PlaceLemmas.{oldest_all, lit_oldest_all, trail_oldest, reasoned_oldest, literal_of, literal_in, literal_true, unset_at, place_lower, place_false, hand_place, hand_lit, hand_cases}

pub lit_in : (xs : List ℤ) (m : ℤ) → In m xs → contains_lit xs m ≡ true
lit_in xs m i = any_at (λ (k : ℤ). int_eq k m) xs m i ((Decides-int_eq m m).1 refl)

pub in_lit : (xs : List ℤ) (m : ℤ) → contains_lit xs m ≡ true → In m xs
in_lit xs m h = let (x, i, e) = any_from (λ (k : ℤ). int_eq k m) xs h in subst (λ k. In k xs) ((Decides-int_eq x m).0 e) i

pub same_some : {X : Type 0} (a b : X) → Some a ≡ Some b → a ≡ b
same_some a b h = cc

-- The clauses of hints.

-- a literal of a named clause
pub named_used : (db : List StoredClause) (id : ℕ) (c : List ℤ) (m : ℤ) → clause_of (known_of db) id ≡ Some c → In m c → IsUsed db m
named_used db id c m named i =
    let range = named_range db id c named in
    let low = range.0 in
    let high = range.1 in
    record { clause = clause_at db id; in_db = get_in db (id - 1) no_clause (omega arith); has = subst (In m) (sym (named_is db id no_clause c named)) i }

pub named_id : (db : List StoredClause) (id : ℕ) (c : List ℤ) → clause_of (known_of db) id ≡ Some c → IsId db id
named_id db id c named = let range = named_range db id c named in record { from_one = range.0; within = range.1 }

pub named_values : (db : List StoredClause) (id : ℕ) (c t : List ℤ) → clause_of (known_of db) id ≡ Some c → HaveValues t c → HaveValues t (clause_at db id).lits
named_values db id c t named h = subst (HaveValues t) (sym (named_is db id no_clause c named)) h

pub false_values : (t c : List ℤ) → AllFalse t c → HaveValues t c
false_values t c f l i = inr (f l i)

-- what the hint of an entry names forces its literal
pub hint_forces : (db : List StoredClause) (es : List Entry) (p : ℕ) (e : Entry) (id : ℕ) → AreReasoned db es → oldest (p + 1) es ≡ e ∷ oldest p es → hint_of e ≡ Some id
    → IsReason db (trues (oldest p es)) e.lit id
hint_forces db es p e id r at is =
    let here : AreReasoned db (e ∷ oldest p es) = subst (AreReasoned db) at (reasoned_oldest db (p + 1) es r) in
    go e.unit e.reason here.0 here.1 is
  where
    go : (unit reason : Option ℕ) → HasReason db (trues (oldest p es)) e.lit reason → HasUnit db e.lit unit → first_some unit reason ≡ Some id → IsReason db (trues (oldest p es)) e.lit id
    go None None a b h = cc
    go None (Some k) a b h = let same : k ≡ id = same_some k id h in subst (IsReason db (trues (oldest p es)) e.lit) same a
    go (Some k) reason a b h =
        let same : k ≡ id = same_some k id h in
        subst (IsReason db (trues (oldest p es)) e.lit) same
        (record { clause = e.lit ∷ []; named = b; has = inl refl; others = λ m i. elim i [ inl s ↦ inl s | inr none ↦ absurd none ] })

pub hint_none : (e : Entry) → hint_of e ≡ None → e.reason ≡ None
hint_none e h = go e.unit e.reason h
  where
    go : (unit reason : Option ℕ) → first_some unit reason ≡ None → reason ≡ None
    go None reason h = h
    go (Some k) reason h = cc

pub reason_values : (db : List StoredClause) (es : List Entry) (p id : ℕ) (l : ℤ) (r : IsReason db (trues (oldest p es)) l id) → In l (trues es) → HaveValues (trues es) r.clause
reason_values db es p id l r on m i = elim (r.others m i) [
  | inl same ↦ inl (subst (λ (k : ℤ). In k (trues es)) (sym same) on)
  | inr f ↦ inr (lit_oldest_all (neg_ℤ m) p es f)
]

-- what `bring_in` requires, where an entry has a hint
pub record MayBringIn (db : List StoredClause) (es : List Entry) (id : ℕ) : Type 0 where
  pub is_id : IsId db id
  pub values : HaveValues (trues es) (clause_at db id).lits

pub may_bring_in : (db : List StoredClause) (es : List Entry) (p : ℕ) (e : Entry) (id : ℕ) → AreReasoned db es → p < length es → oldest (p + 1) es ≡ e ∷ oldest p es → hint_of e ≡ Some id
    → MayBringIn db es id
may_bring_in db es p e id r lt at is =
    let f = hint_forces db es p e id r at is in
    let on : In e.lit (trues es) = subst (λ (l : ℤ). In l (trues es)) (literal_of es p e at) (literal_true es p lt) in
    record { is_id = named_id db id f.clause f.named; values = named_values db id f.clause (trues es) f.named (reason_values db es p id e.lit f on) }

-- Steps.

-- only the literals at hand count
analysis_same : (db : List StoredClause) (es : List Entry) (count : ℕ) (old new : List ℕ) (lits more : List ℤ) (hints : List ℕ)
    → ((m : ℤ) → In m (at_hand es old lits) → In m (at_hand es new more)) → ((m : ℤ) → In m (at_hand es new more) → In m (at_hand es old lits)) → AreBelow new count
    → IsAnalysis db es count old lits hints → IsAnalysis db es count new more hints
analysis_same db es count old new lits more hints sub sup below a = record {
  leads =
      Leads-more (known_of db) (trues (oldest count es)) (at_hand es old lits) (at_hand es new more) (reverse hints)
      (λ m h. lit_in (at_hand es new more) m (sub m (in_lit (at_hand es old lits) m h))) a.leads;
  used = λ l i. a.used l (sup l i);
  below = below;
}

-- the places that are left are lower
pub taken_below : (old new : List ℕ) (p : ℕ) → TakesGreatest old new (Some p) → AreBelow new p
taken_below old new p t q i =
    let (was, other) = (t.1 q).0 i in
    let le = t.0.above q was in
    elim (cases_lt q p) [ inl less ↦ less | inr more ↦ absurd (other (omega (arith, le, more))) ]

pub taken_within : (old new : List ℕ) (p bound : ℕ) → TakesGreatest old new (Some p) → AreBelow old bound → AreBelow new bound
taken_within old new p bound t below q i = below q ((t.1 q).0 i).0

-- one place was taken out, of all others nothing changed
pub taken_cases : (old new : List ℕ) (p q : ℕ) → TakesGreatest old new (Some p) → In q old → (q ≡ p) ⊎ In q new
taken_cases old new p q t i = elim (cases_eq q p) [ inl same ↦ inl same | inr other ↦ inr ((t.1 q).1 (i, other)) ]

-- the literal at the place that was taken is kept
pub analysis_kept : (db : List StoredClause) (es : List Entry) (count p : ℕ) (e : Entry) (old new : List ℕ) (lits : List ℤ) (hints : List ℕ) → oldest (p + 1) es ≡ e ∷ oldest p es
    → TakesGreatest old new (Some p) → IsAnalysis db es count old lits hints → IsAnalysis db es count new (lits ++ neg_ℤ e.lit ∷ []) hints
analysis_kept db es count p e old new lits hints at t a =
    analysis_same db es count old new lits (lits ++ neg_ℤ e.lit ∷ []) hints sub sup (taken_within old new p count t a.below) a
  where
    is : false_at es p ≡ neg_ℤ e.lit
    is = ap neg_ℤ (literal_of es p e at)

    sub : (m : ℤ) → In m (at_hand es old lits) → In m (at_hand es new (lits ++ neg_ℤ e.lit ∷ []))
    sub m i = elim (hand_cases es old lits m i) [
      | inl f ↦
          (let (q, there, same) = f in
          elim (taken_cases old new p q t there) [
            | inl here ↦ hand_lit es new (lits ++ neg_ℤ e.lit ∷ []) m (In-append_right m lits (neg_ℤ e.lit ∷ []) (inl (same ∙ ap (false_at es) here ∙ is)))
            | inr left ↦ subst (λ (k : ℤ). In k (at_hand es new (lits ++ neg_ℤ e.lit ∷ []))) (sym same) (hand_place es new (lits ++ neg_ℤ e.lit ∷ []) q left)
          ])
      | inr kept ↦ hand_lit es new (lits ++ neg_ℤ e.lit ∷ []) m (In-append_left m lits (neg_ℤ e.lit ∷ []) kept)
    ]

    sup : (m : ℤ) → In m (at_hand es new (lits ++ neg_ℤ e.lit ∷ [])) → In m (at_hand es old lits)
    sup m i = elim (hand_cases es new (lits ++ neg_ℤ e.lit ∷ []) m i) [
      | inl f ↦ (let (q, there, same) = f in subst (λ (k : ℤ). In k (at_hand es old lits)) (sym same) (hand_place es old lits q ((t.1 q).0 there).0))
      | inr kept ↦ elim (In-append_cases m lits (neg_ℤ e.lit ∷ []) kept) [
        | inl before ↦ hand_lit es old lits m before
        | inr (inl same) ↦ subst (λ (k : ℤ). In k (at_hand es old lits)) (is ∙ sym same) (hand_place es old lits p t.0.has)
        | inr (inr none) ↦ absurd none
      ]
    ]

-- what a clause brought in: each of its literals that is false below the place is at hand
pub brought_false : (vars : ℕ) (es : List Entry) (clause : List ℤ) (below : ℕ) (old new : List ℕ) (m : ℤ) → IsTrail vars es → HasPlaces es clause below old new → In m clause
    → In (neg_ℤ m) (trues (oldest below es)) → (q : ℕ) × In q new × (m ≡ false_at es q)
brought_false vars es clause below old new m t h i f =
    let e = h.each m i in
    let whole : In (neg_ℤ m) (trues es) = lit_oldest_all (neg_ℤ m) below es f in
    let is : false_at es e.place ≡ m = place_false vars es m e.place t e.is whole in
    let turned : literal_at es e.place ≡ neg_ℤ m = sym (neg_ℤ-neg_ℤ (literal_at es e.place)) ∙ ap neg_ℤ is in
    let lower : e.place < below = place_lower vars es e.place below t e.is.within (subst (λ (k : ℤ). In k (trues (oldest below es))) (sym turned) f) in
    (e.place, e.entered lower, sym is)

pub brought_below : (es : List Entry) (clause : List ℤ) (below : ℕ) (old new : List ℕ) → AreBelow old below → HasPlaces es clause below old new → AreBelow new below
brought_below es clause below old new old_below h q i = elim (h.only q i) [ inl before ↦ old_below q before | inr f ↦ f.lower ]

-- a place that was brought in is that of a false literal of the clause, but for the literal that it forces
pub brought_from : (vars : ℕ) (es : List Entry) (clause : List ℤ) (below q : ℕ) (l : ℤ) → IsTrail vars es → l ≡ literal_at es below → below < length es
    → ((m : ℤ) → In m clause → (m ≡ l) ⊎ In (neg_ℤ m) (trues (oldest below es))) → IsPlaceOf es clause below q → In (false_at es q) clause
brought_from vars es clause below q l t is lt others f = elim (others f.lit f.has) [
  | inl same ↦ absurd (no_own same)
  | inr false1 ↦
      subst (λ (k : ℤ). In k clause) (sym (place_false vars es f.lit q t f.is (lit_oldest_all (neg_ℤ f.lit) below es false1))) f.has
]
  where
    unset : IsUnset (trues (oldest below es)) l
    unset = subst (IsUnset (trues (oldest below es))) (sym is) (unset_at vars es below t lt)

    here : In f.is.entry.lit (trues (oldest below es))
    here = subst (λ (k : ℤ). In k (trues (oldest below es))) (literal_of es q f.is.entry f.is.at) (literal_in es q below f.is.within f.lower)

    no_own : f.lit ≡ l → ⊥
    no_own same = elim (same_var f.is.entry.lit l (f.is.of_var ∙ ap var_of same)) [
      | inl s ↦ unset.not_true (subst (λ (k : ℤ). In k (trues (oldest below es))) s here)
      | inr s ↦ unset.not_false (subst (λ (k : ℤ). In k (trues (oldest below es))) s here)
    ]

-- the literal at the place that was taken is resolved away
pub analysis_resolved : (vars : ℕ) (db : List StoredClause) (es : List Entry) (count p : ℕ) (e : Entry) (id : ℕ) (old mid new : List ℕ) (lits : List ℤ) (hints more : List ℕ) → IsTrail vars es
    → AreReasoned db es → p < length es → oldest (p + 1) es ≡ e ∷ oldest p es → hint_of e ≡ Some id → TakesGreatest old mid (Some p) → IsBroughtIn db es id p mid new hints more
    → IsAnalysis db es count old lits hints → IsAnalysis db es count new lits more
analysis_resolved vars db es count p e id old mid new lits hints more trail reasoned lt at hint t b a = record {
  leads = subst (Leads (known_of db) (trues (oldest count es)) (at_hand es new lits)) (sym (ap reverse b.hint ∙ reverse-append hints (id ∷ []))) (go (reverse hints) a.leads);
  used = λ m i. elim (hand_cases es new lits m i) [
    | inl f ↦ (let (q, there, is) = f in elim (b.places.only q there) [
      | inl before ↦ a.used m (subst (λ (k : ℤ). In k (at_hand es old lits)) (sym is) (hand_place es old lits q ((t.1 q).0 before).0))
      | inr fresh ↦ named_used db id b.clause m b.named (subst (λ (k : ℤ). In k b.clause) (sym is) (brought_from vars es b.clause p q e.lit trail (sym lit) lt own fresh))
    ])
    | inr k ↦ a.used m (hand_lit es old lits m k)
  ];
  below = λ q i. (let less = brought_below es b.clause p mid new (taken_below old mid p t) b.places q i in let under = a.below p t.0.has in omega (arith, less, under));
}
  where
    r : IsReason db (trues (oldest p es)) e.lit id
    r = hint_forces db es p e id reasoned at hint

    same : r.clause ≡ b.clause
    same = same_some r.clause b.clause (sym r.named ∙ b.named)

    lit : literal_at es p ≡ e.lit
    lit = literal_of es p e at

    own : (m : ℤ) → In m b.clause → (m ≡ e.lit) ⊎ In (neg_ℤ m) (trues (oldest p es))
    own m i = r.others m (subst (In m) (sym same) i)

    on : In e.lit (trues (oldest count es))
    on = subst (λ (k : ℤ). In k (trues (oldest count es))) lit (literal_in es p count lt (a.below p t.0.has))

    others : (m : ℤ) → In m b.clause → (m ≡ e.lit) ⊎ In m (at_hand es new lits)
    others m i = elim (own m i) [
      | inl own ↦ inl own
      | inr f ↦ (let (q, there, is) = brought_false vars es b.clause p mid new m trail b.places i f in inr (subst (λ (k : ℤ). In k (at_hand es new lits)) (sym is) (hand_place es new lits q there)))
    ]

    kept : (m : ℤ) → In m (at_hand es old lits) → (m ≡ neg_ℤ e.lit) ⊎ In m (at_hand es new lits)
    kept m i = elim (hand_cases es old lits m i) [
      | inl f ↦
          (let (q, there, is) = f in
          elim (taken_cases old mid p q t there) [
            | inl here ↦ inl (is ∙ ap (false_at es) here ∙ ap neg_ℤ lit)
            | inr left ↦ inr (subst (λ (k : ℤ). In k (at_hand es new lits)) (sym is) (hand_place es new lits q (b.places.kept q left)))
          ])
      | inr h ↦ inr (hand_lit es new lits m h)
    ]

    go : (hs : List ℕ) → Leads (known_of db) (trues (oldest count es)) (at_hand es old lits) hs → Leads (known_of db) (trues (oldest count es)) (at_hand es new lits) (id ∷ hs)
    go [] h = absurd h
    go (h0 ∷ hs) h =
        Leads-back (known_of db) (trues (oldest count es)) (at_hand es old lits) (at_hand es new lits) b.clause e.lit id h0 hs b.named (subst (In e.lit) same r.has) (lit_in (trues (oldest count es)) e.lit on)
        (λ m i. elim (others m i) [ inl s ↦ inl s | inr k ↦ inr (lit_in (at_hand es new lits) m k) ])
        (λ m i. elim (kept m (in_lit (at_hand es old lits) m i)) [
          | inl s ↦ lit_in (neg_ℤ e.lit ∷ at_hand es new lits) m (inl s)
          | inr k ↦ lit_in (neg_ℤ e.lit ∷ at_hand es new lits) m (inr k)
        ])
        h

-- one step
pub analysis_step : (vars : ℕ) (db : List StoredClause) (es : List Entry) (count p : ℕ) (stays : Bool) (old mid new : List ℕ) (lits after : List ℤ) (hints more : List ℕ) → IsTrail vars es
    → AreReasoned db es → p < length es → TakesGreatest old mid (Some p) → IsStep db es p stays mid new lits after hints more → IsAnalysis db es count old lits hints
    → IsAnalysis db es count new after more
analysis_step vars db es count p true old mid new lits after hints more trail reasoned lt t s a =
    let (places, kept, same) = s.becomes in
    subst (λ (ps : List ℕ). IsAnalysis db es count ps after more) (sym places)
    (subst (λ (ls : List ℤ). IsAnalysis db es count mid ls more) (sym kept)
    (subst (IsAnalysis db es count mid (lits ++ neg_ℤ s.entry.lit ∷ [])) (sym same) (analysis_kept db es count p s.entry old mid lits hints s.at t a)))
analysis_step vars db es count p false old mid new lits after hints more trail reasoned lt t s a =
    let (same, replaced) = s.becomes in
    let (id, forced, b) = replaced in
    subst (λ (ls : List ℤ). IsAnalysis db es count new ls more) (sym same)
    (analysis_resolved vars db es count p s.entry id old mid new lits hints more trail reasoned lt s.at forced t b a)

-- Beginnings.

-- with a clause whose literals are at hand
pub analysis_begun : (db : List StoredClause) (es : List Entry) (count id : ℕ) (clause : List ℤ) (new : List ℕ) (lits : List ℤ) (more : List ℕ) → clause_of (known_of db) id ≡ Some clause → more ≡ id ∷ []
    → ((m : ℤ) → In m clause → In m (at_hand es new lits)) → ((m : ℤ) → In m (at_hand es new lits) → In m clause) → AreBelow new count → IsAnalysis db es count new lits more
analysis_begun db es count id clause new lits more named hint sub sup below = record {
  leads = subst (λ (hs : List ℕ). Leads (known_of db) (trues (oldest count es)) (at_hand es new lits) (reverse hs)) (sym hint) (clause, named, λ m i. lit_in (at_hand es new lits) m (sub m i));
  used = λ m i. named_used db id clause m named (sup m i);
  below = below;
}

-- with a clause that is false
pub analysis_false : (vars : ℕ) (db : List StoredClause) (es : List Entry) (id : ℕ) (clause : List ℤ) (old new hints more : List ℕ) (lits : List ℤ) → IsTrail vars es
    → clause_of (known_of db) id ≡ Some clause → AllFalse (trues es) clause → old ≡ [] → lits ≡ [] → hints ≡ [] → IsBroughtIn db es id (length es) old new hints more
    → IsAnalysis db es (length es) new lits more
analysis_false vars db es id clause old new hints more lits trail named false1 no_old no_lits no_hints b =
    analysis_begun db es (length es) id b.clause new lits more b.named (b.hint ∙ ap (λ (hs : List ℕ). hs ++ id ∷ []) no_hints) sub sup (brought_below es b.clause (length es) old new none b.places)
  where
    none : AreBelow old (length es)
    none q i = absurd (subst (In q) no_old i)

    same : clause ≡ b.clause
    same = same_some clause b.clause (sym named ∙ b.named)

    whole : oldest (length es) es ≡ es
    whole = oldest_all es

    all_false : (m : ℤ) → In m b.clause → In (neg_ℤ m) (trues es)
    all_false m i = false1 m (subst (In m) (sym same) i)

    sub : (m : ℤ) → In m b.clause → In m (at_hand es new lits)
    sub m i =
        let (q, there, is) = brought_false vars es b.clause (length es) old new m trail b.places i (subst (λ (xs : List Entry). In (neg_ℤ m) (trues xs)) (sym whole) (all_false m i)) in
        subst (λ (k : ℤ). In k (at_hand es new lits)) (sym is) (hand_place es new lits q there)

    sup : (m : ℤ) → In m (at_hand es new lits) → In m b.clause
    sup m i = elim (hand_cases es new lits m i) [
      | inl f ↦
          (let (q, there, is) = f in
          elim (b.places.only q there) [
            | inl before ↦ absurd (subst (In q) no_old before)
            | inr g ↦ subst (λ (k : ℤ). In k b.clause) (sym (is ∙ place_false vars es g.lit q trail g.is (all_false g.lit g.has))) g.has
          ])
      | inr kept ↦ absurd (subst (In m) no_lits kept)
    ]

-- with the clause that forced a literal, which stays
pub analysis_forced : (vars : ℕ) (db : List StoredClause) (es : List Entry) (p : ℕ) (e : Entry) (id : ℕ) (old new hints more : List ℕ) (lits : List ℤ) → IsTrail vars es → AreReasoned db es
    → p < length es → oldest (p + 1) es ≡ e ∷ oldest p es → hint_of e ≡ Some id → old ≡ [] → lits ≡ e.lit ∷ [] → hints ≡ [] → IsBroughtIn db es id p old new hints more
    → IsAnalysis db es p new lits more
analysis_forced vars db es p e id old new hints more lits trail reasoned lt at hint no_old one no_hints b =
    analysis_begun db es p id b.clause new lits more b.named (b.hint ∙ ap (λ (hs : List ℕ). hs ++ id ∷ []) no_hints) sub sup (brought_below es b.clause p old new none b.places)
  where
    none : AreBelow old p
    none q i = absurd (subst (In q) no_old i)

    r : IsReason db (trues (oldest p es)) e.lit id
    r = hint_forces db es p e id reasoned at hint

    same : r.clause ≡ b.clause
    same = same_some r.clause b.clause (sym r.named ∙ b.named)

    own : (m : ℤ) → In m b.clause → (m ≡ e.lit) ⊎ In (neg_ℤ m) (trues (oldest p es))
    own m i = r.others m (subst (In m) (sym same) i)

    sub : (m : ℤ) → In m b.clause → In m (at_hand es new lits)
    sub m i = elim (own m i) [
      | inl s ↦ hand_lit es new lits m (subst (In m) (sym one) (inl s))
      | inr f ↦ (let (q, there, is) = brought_false vars es b.clause p old new m trail b.places i f in subst (λ (k : ℤ). In k (at_hand es new lits)) (sym is) (hand_place es new lits q there))
    ]

    sup : (m : ℤ) → In m (at_hand es new lits) → In m b.clause
    sup m i = elim (hand_cases es new lits m i) [
      | inl f ↦
          (let (q, there, is) = f in
          elim (b.places.only q there) [
            | inl before ↦ absurd (subst (In q) no_old before)
            | inr g ↦ subst (λ (k : ℤ). In k b.clause) (sym is) (brought_from vars es b.clause p q e.lit trail (sym (literal_of es p e at)) lt own g)
          ])
      | inr kept ↦ elim (subst (In m) one kept) [ inl s ↦ subst (λ (k : ℤ). In k b.clause) (sym s) (subst (In e.lit) same r.has) | inr never ↦ absurd never ]
    ]

-- Measures.

-- one more than the greatest place
abbrev pub bound_of : List ℕ → ℕ
bound_of [] = 0
bound_of (p ∷ ps) = max (p + 1) (bound_of ps)

pub lt-bound_of : (p : ℕ) (ps : List ℕ) → In p ps → p < bound_of ps
lt-bound_of p [] i = absurd i
lt-bound_of p (q ∷ ps) (inl same) = omega (arith, same)
lt-bound_of p (q ∷ ps) (inr later) = (let less = lt-bound_of p ps later in omega (arith, less))

pub bound_of-le : (n : ℕ) (ps : List ℕ) → AreBelow ps n → bound_of ps ≤ n
bound_of-le n [] h = omega arith
bound_of-le n (p ∷ ps) h =
    let here = h p (inl refl) in
    let rest = bound_of-le n ps (λ q i. h q (inr i)) in
    omega (arith, here, rest)

pub bound_of-taken : (old new : List ℕ) (p : ℕ) → TakesGreatest old new (Some p) → bound_of new < bound_of old
bound_of-taken old new p t =
    let here = lt-bound_of p old t.0.has in
    let rest = bound_of-le p new (taken_below old new p t) in
    omega (arith, here, rest)

pub bound_of-brought : (es : List Entry) (clause : List ℤ) (old mid new : List ℕ) (p : ℕ) → TakesGreatest old mid (Some p) → HasPlaces es clause p mid new → bound_of new < bound_of old
bound_of-brought es clause old mid new p t h =
    let here = lt-bound_of p old t.0.has in
    let rest = bound_of-le p new (brought_below es clause p mid new (taken_below old mid p t) h) in
    omega (arith, here, rest)

pub bound_of-step : (db : List StoredClause) (es : List Entry) (p : ℕ) (stays : Bool) (old mid new : List ℕ) (lits after : List ℤ) (hints more : List ℕ) → TakesGreatest old mid (Some p)
    → IsStep db es p stays mid new lits after hints more → bound_of new < bound_of old
bound_of-step db es p true old mid new lits after hints more t s =
    let (places, kept, same) = s.becomes in
    subst (λ (ps : List ℕ). bound_of ps < bound_of old) (sym places) (bound_of-taken old mid p t)
bound_of-step db es p false old mid new lits after hints more t s =
    let (same, replaced) = s.becomes in
    let (id, forced, b) = replaced in
    bound_of-brought es b.clause old mid new p t b.places

-- The end.

-- hints that lead are hints by which the clause follows
pub analysis_follows : (vars : ℕ) (db : List StoredClause) (es : List Entry) (count : ℕ) (lits : List ℤ) (hints : List ℕ) → IsTrail vars es → ((m : ℤ) → In m lits → ¬ In m (trues (oldest count es)))
    → IsAnalysis db es count [] lits hints → follows (known_of db) lits (reverse hints) ≡ true
analysis_follows vars db es count lits hints trail none a =
    let low = trues (oldest count es) in
    let low_trail = trail_oldest vars count es trail in
    follows-from_Leads (known_of db) low (reverse hints) lits
    (λ l h. false_from_ne_true (contains_lit low (neg_ℤ l)) (λ t. trail_consistent vars (oldest count es) low_trail l (in_lit low l h) (in_lit low (neg_ℤ l) t)))
    (λ m h. false_from_ne_true (contains_lit lits m) (λ t. none m (in_lit lits m t) (in_lit low m h))) a.leads
