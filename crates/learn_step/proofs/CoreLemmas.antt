-- Steps down to the decisions.
use Rattle.std.proofs.Common.{◌≡◌, ◌⊎◌, ℕ, ◌+◌, ◌<◌, Bool, true, false, List, [], ◌∷◌, ◌++◌, length, Some, None, refl, sym, ◌∙◌, ap, subst, inl, inr, arith, append_assoc}
use Rattle.std.specs.Prelude.{ℤ, neg_ℤ, reverse}
use Rattle.std.proofs.Math.IntN.{neg_ℤ-neg_ℤ}
use Rattle.sat_base.specs.Members.{In}
use Rattle.sat_base.specs.Literals.{var_of}
use Rattle.sat_base.specs.Database.{StoredClause}
use Rattle.sat_base.specs.Work.{TakesGreatest}
use Rattle.sat_base.proofs.Members.{In-append_cases}
use Rattle.trail_book.specs.declared.entry.Entry.{Entry}
use Rattle.trail_book.specs.Trail.{trues, oldest, IsTrail, IsPlace}
use Rattle.trail_book.proofs.TrailLemmas.{trail_consistent, In-trues}
use Rattle.learn_step.specs.Reasons.{AreReasoned, IsDecision, IsFalseClause}
use Rattle.learn_step.specs.Learnt.{IsCore}
use Rattle.learn_step.specs.Places.{literal_at, hint_of}
use Rattle.learn_step.specs.Analysis.{IsBroughtIn, IsStep, IsCoreAnalysis}
use Rattle.learn_step.proofs.PlaceLemmas.{oldest_in, lit_oldest_all, literal_of, literal_true, unset_at, place_negated, hand_lit}
use Rattle.learn_step.proofs.AnalysisLemmas.{analysis_false, analysis_forced, analysis_kept, analysis_resolved, analysis_follows, hint_none}

-- an entry without hint was decided
decision_at : (es : List Entry) (p : ℕ) (e : Entry) (l : ℤ) → oldest (p + 1) es ≡ e ∷ oldest p es → e.lit ≡ l → hint_of e ≡ None → IsDecision es l
decision_at es p e l at lit none = (e, oldest_in e (p + 1) es (subst (In e) (sym at) (inl refl)), lit, hint_none e none)

decision_true : (es : List Entry) (l : ℤ) → IsDecision es l → In l (trues es)
decision_true es l d = let (e, i, lit, none) = d in subst (λ (k : ℤ). In k (trues es)) lit (In-trues e es i)

-- The clause that is false.
pub core_false : (vars : ℕ) (db : List StoredClause) (es : List Entry) (id : ℕ) (old new hints more : List ℕ) (lits : List ℤ) → IsTrail vars es → IsFalseClause db es id
    → old ≡ [] → lits ≡ [] → hints ≡ [] → IsBroughtIn db es id (length es) old new hints more → IsCoreAnalysis db es [] new lits more
core_false vars db es id old new hints more lits trail f no_old no_lits no_hints b = record {
  count = length es;
  within = omega arith;
  analysis = analysis_false vars db es id f.clause old new hints more lits trail f.named f.is_false no_old no_lits no_hints b;
  negated = [];
  is = no_lits;
  decided = λ l i. absurd i;
  start_unset = λ l i. absurd i;
  start_true = λ l i. absurd i;
  start_forced = λ l i. absurd i;
}

-- The entry of the negation of what is assumed.
pub assumed_at : (vars : ℕ) (es : List Entry) (m : ℤ) (p : ℕ) (e : Entry) → IsTrail vars es → In (neg_ℤ m) (trues es) → IsPlace es (var_of m) p → oldest (p + 1) es ≡ e ∷ oldest p es → e.lit ≡ neg_ℤ m
assumed_at vars es m p e trail h q at = sym (literal_of es p e at) ∙ literal_of es p q.entry q.at ∙ place_negated vars es m p q trail h

pub assumed_forced : (es : List Entry) (m : ℤ) (p : ℕ) (e : Entry) → oldest (p + 1) es ≡ e ∷ oldest p es → e.lit ≡ neg_ℤ m → ¬ IsDecision es (neg_ℤ m) → ¬ (hint_of e ≡ None)
assumed_forced es m p e at lit forced none = forced (decision_at es p e (neg_ℤ m) at lit none)

pub core_assumed : (vars : ℕ) (db : List StoredClause) (es : List Entry) (m : ℤ) (p : ℕ) (e : Entry) (id : ℕ) (old new hints more : List ℕ) (lits : List ℤ) → IsTrail vars es → AreReasoned db es
    → ¬ IsDecision es (neg_ℤ m) → p < length es → oldest (p + 1) es ≡ e ∷ oldest p es → e.lit ≡ neg_ℤ m → hint_of e ≡ Some id → old ≡ [] → lits ≡ neg_ℤ m ∷ [] → hints ≡ []
    → IsBroughtIn db es id p old new hints more → IsCoreAnalysis db es (neg_ℤ m ∷ []) new lits more
core_assumed vars db es m p e id old new hints more lits trail reasoned forced lt at lit hint no_old one no_hints b = record {
  count = p;
  within = omega (arith, lt);
  analysis = analysis_forced vars db es p e id old new hints more lits trail reasoned lt at hint no_old (one ∙ ap (λ (l : ℤ). l ∷ []) (sym lit)) no_hints b;
  negated = [];
  is = one;
  decided = λ l i. absurd i;
  start_unset = λ l i t. elim i [ inl s ↦ (unset_at vars es p trail lt).not_true (subst (λ (k : ℤ). In k (trues (oldest p es))) (s ∙ sym here) t) | inr none ↦ absurd none ];
  start_true = λ l i. elim i [ inl s ↦ subst (λ (k : ℤ). In k (trues es)) (here ∙ sym s) (literal_true es p lt) | inr none ↦ absurd none ];
  start_forced = λ l i d. elim i [ inl s ↦ forced (subst (IsDecision es) s d) | inr none ↦ absurd none ];
}
  where
    here : literal_at es p ≡ neg_ℤ m
    here = literal_of es p e at ∙ lit

-- a decision's negation is kept
pub core_kept : (db : List StoredClause) (es : List Entry) (start : List ℤ) (p : ℕ) (e : Entry) (old new : List ℕ) (lits : List ℤ) (hints : List ℕ) → oldest (p + 1) es ≡ e ∷ oldest p es
    → hint_of e ≡ None → TakesGreatest old new (Some p) → IsCoreAnalysis db es start old lits hints → IsCoreAnalysis db es start new (lits ++ neg_ℤ e.lit ∷ []) hints
core_kept db es start p e old new lits hints at none t c = record {
  count = c.count;
  within = c.within;
  analysis = analysis_kept db es c.count p e old new lits hints at t c.analysis;
  negated = c.negated ++ neg_ℤ e.lit ∷ [];
  is = ap (λ (ls : List ℤ). ls ++ neg_ℤ e.lit ∷ []) c.is ∙ append_assoc start c.negated (neg_ℤ e.lit ∷ []);
  decided = λ l i. elim (In-append_cases l c.negated (neg_ℤ e.lit ∷ []) i) [
    | inl before ↦ c.decided l before
    | inr (inl s) ↦ decision_at es p e (neg_ℤ l) at (sym (neg_ℤ-neg_ℤ e.lit) ∙ ap neg_ℤ (sym s)) none
    | inr (inr never) ↦ absurd never
  ];
  start_unset = c.start_unset;
  start_true = c.start_true;
  start_forced = c.start_forced;
}

-- what was forced is resolved away
pub core_resolved : (vars : ℕ) (db : List StoredClause) (es : List Entry) (start : List ℤ) (p : ℕ) (e : Entry) (id : ℕ) (old mid new : List ℕ) (lits : List ℤ) (hints more : List ℕ) → IsTrail vars es
    → AreReasoned db es → oldest (p + 1) es ≡ e ∷ oldest p es → hint_of e ≡ Some id → TakesGreatest old mid (Some p) → IsBroughtIn db es id p mid new hints more
    → IsCoreAnalysis db es start old lits hints → IsCoreAnalysis db es start new lits more
core_resolved vars db es start p e id old mid new lits hints more trail reasoned at hint t b c = record {
  count = c.count;
  within = c.within;
  analysis =
      (let under = c.analysis.below p t.0.has in
      let within = c.within in
      analysis_resolved vars db es c.count p e id old mid new lits hints more trail reasoned (omega (arith, under, within)) at hint t b c.analysis);
  negated = c.negated;
  is = c.is;
  decided = c.decided;
  start_unset = c.start_unset;
  start_true = c.start_true;
  start_forced = c.start_forced;
}

-- one step, by which decisions stay
pub core_step : (vars : ℕ) (db : List StoredClause) (es : List Entry) (start : List ℤ) (p : ℕ) (stays : Bool) (old mid new : List ℕ) (lits after : List ℤ) (hints more : List ℕ) → IsTrail vars es
    → AreReasoned db es → ((e : Entry) → oldest (p + 1) es ≡ e ∷ oldest p es → stays ≡ true → hint_of e ≡ None) → TakesGreatest old mid (Some p)
    → IsStep db es p stays mid new lits after hints more → IsCoreAnalysis db es start old lits hints → IsCoreAnalysis db es start new after more
core_step vars db es start p true old mid new lits after hints more trail reasoned decided t s c =
    let (places, kept, same) = s.becomes in
    subst (λ (ps : List ℕ). IsCoreAnalysis db es start ps after more) (sym places)
    (subst (λ (ls : List ℤ). IsCoreAnalysis db es start mid ls more) (sym kept)
    (subst (IsCoreAnalysis db es start mid (lits ++ neg_ℤ s.entry.lit ∷ [])) (sym same)
    (core_kept db es start p s.entry old mid lits hints s.at (decided s.entry s.at refl) t c)))
core_step vars db es start p false old mid new lits after hints more trail reasoned decided t s c =
    let (same, replaced) = s.becomes in
    let (id, forced, b) = replaced in
    subst (λ (ls : List ℤ). IsCoreAnalysis db es start new ls more) (sym same)
    (core_resolved vars db es start p s.entry id old mid new lits hints more trail reasoned s.at forced t b c)

-- nothing is left to look at
pub core_of_analysis : (vars : ℕ) (db : List StoredClause) (es : List Entry) (start lits : List ℤ) (hints : List ℕ) → IsTrail vars es → IsCoreAnalysis db es start [] lits hints → IsCore db es start lits (reverse hints)
core_of_analysis vars db es start lits hints trail c = record {
  negated = c.negated;
  is = c.is;
  decided = c.decided;
  follows = analysis_follows vars db es c.count lits hints trail none_true c.analysis;
  used = λ l i. c.analysis.used l (hand_lit es [] lits l i);
  consistent = λ l i j. both l (cases l i) (cases (neg_ℤ l) j);
}
  where
    cases : (l : ℤ) → In l lits → In l start ⊎ In l c.negated
    cases l i = In-append_cases l start c.negated (subst (In l) c.is i)

    true_of : (l : ℤ) → In l c.negated → In (neg_ℤ l) (trues es)
    true_of l i = decision_true es (neg_ℤ l) (c.decided l i)

    none_true : (m : ℤ) → In m lits → ¬ In m (trues (oldest c.count es))
    none_true m i t = elim (cases m i) [
      | inl s ↦ c.start_unset m s t
      | inr d ↦ trail_consistent vars es trail m (lit_oldest_all m c.count es t) (true_of m d)
    ]

    both : (l : ℤ) → In l start ⊎ In l c.negated → In (neg_ℤ l) start ⊎ In (neg_ℤ l) c.negated → ⊥
    both l (inl s) (inl s2) = trail_consistent vars es trail l (c.start_true l s) (c.start_true (neg_ℤ l) s2)
    both l (inl s) (inr d) = c.start_forced l s (subst (IsDecision es) (neg_ℤ-neg_ℤ l) (c.decided (neg_ℤ l) d))
    both l (inr d) (inl s) = c.start_forced (neg_ℤ l) s (c.decided l d)
    both l (inr d) (inr d2) = trail_consistent vars es trail (neg_ℤ l) (true_of l d) (true_of (neg_ℤ l) d2)
