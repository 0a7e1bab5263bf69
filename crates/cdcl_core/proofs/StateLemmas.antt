-- One step of a search.
use Rattle.std.proofs.Common.{◌≡◌, ◌⊎◌, ℕ, zero, suc, ◌+◌, ◌-◌, ◌<◌, ◌≤◌, min, Bool, true, false, not, eqb, List, [], ◌∷◌, ◌++◌, map, length, get_or, take, Option, Some, None, refl, sym, ◌∙◌, ap, subst, inl, inr, arith, length-append}
use Rattle.std.specs.Prelude.{ℤ, pos, negsuc, neg_ℤ, slice_get}
use Rattle.std.specs.List.{find}
use Rattle.std.specs.Option.{option_map}
use Rattle.std.proofs.lemmas.Bool.{cases_lt, cond-true, cond-false, eq-eqb, ne_eqb}
use Rattle.std.proofs.lemmas.Bool.Decides.{leb_tells}
use Rattle.sat_base.specs.Members.{In}
use Rattle.sat_base.specs.Literals.{var_of, IsLiteral, AreLiterals, literal_true}
use Rattle.sat_base.specs.Derivation.{numbered, clause_of, follows}
use Rattle.sat_base.specs.Database.{StoredClause, known_of, IsLive, AreOver}
use Rattle.sat_base.specs.Units.{IsUnset, HasValue, AllTrue, AllFalse, IsLoose, IsFixpoint, IsFalsified}
use Rattle.sat_base.proofs.Members.{In-append_right, In-append_cases, any_at}
use Rattle.trail_book.specs.declared.entry.Entry.{Entry}
use Rattle.trail_book.specs.Trail.{trues, level_after, top, keep, IsTrail, IsTouched}
use Rattle.trail_book.proofs.TrailLemmas.{same_var, keep-whole, keep-skip, top-keep_exact, lit-keep_more, IsTrail-keep, trail_consistent, level_after-at_least}
use Rattle.lrat_steps.specs.Log.{LogStep, Learned, Core, steps_of, db_of, inputs_of}
use Rattle.lrat_steps.specs.Honest.{HasVar, IsHonest}
use Rattle.lrat_steps.specs.Undecided.{Undecided}
use Rattle.lrat_steps.proofs.LogLemmas.{db_len, steps-append, db_of-push, inputs-push_learned, inputs-push_core, learned-push, honest-learned, honest-core, honest_vars, input_in}
use Rattle.propagate.specs.Propagation.{Grows}
use Rattle.learn_step.specs.Reasons.{before_last, IsConflict, IsDecision}
use Rattle.learn_step.specs.Learnt.{IsUsed, IsLearnt, IsCore}
use Rattle.cdcl_core.specs.State.{IsSoundEntry, IsSound, IsRecorded, IsState, IsTrueBy, AreTouched}
use Rattle.lrat_steps.proofs.PaidLemmas.{IsPaid-none, IsPaid-then}
use Rattle.cdcl_core.specs.Answers.{IsConsistent, IsModel, IsRefuted, IsHonestlyPaid}
use Rattle.cdcl_core.specs.Search.{IsCoreAdded}
use Rattle.propagate.proofs.GrowsLemmas.{top_grows}
use Rattle.cdcl_core.proofs.SearchLemmas.{sound_grows, sound_keep, sound_recount, sound_learned, sound_core, fixpoint_before, not_subsumed, top_literal, decisions_assumed, marked, marked-lits, marked-list, marked-choice}

-- the last clause has the last id
last_of : (from : ℕ) (cs : List (List ℤ)) (c : List ℤ) → clause_of (numbered from (cs ++ c ∷ [])) (from + length cs) ≡ Some c
last_of from [] c =
    let same : from + 0 ≡ from = omega arith in
    ap (clause_of (numbered from (c ∷ []))) same ∙ ap (option_map (λ (e : ℕ × List ℤ). e.1)) (cond-true (eqb from from) (Some (from, c)) None (eq-eqb from from refl))
last_of from (d ∷ cs) c =
    let next : from + length (d ∷ cs) ≡ from + 1 + length cs = omega arith in
    ap (clause_of (numbered from (d ∷ (cs ++ c ∷ [])))) next
    ∙ ap (option_map (λ (e : ℕ × List ℤ). e.1))
    (cond-false (eqb from (from + 1 + length cs)) (Some (from, d)) (find (λ (e : ℕ × List ℤ). eqb e.0 (from + 1 + length cs)) (numbered (from + 1) (cs ++ c ∷ [])))
    (ne_eqb from (from + 1 + length cs) (λ e. absurd (omega (arith, e)))))
    ∙ last_of (from + 1) cs c

lits_push : (db : List StoredClause) (c : StoredClause) → map (λ (k : StoredClause). k.lits) (db ++ c ∷ []) ≡ map (λ (k : StoredClause). k.lits) db ++ c.lits ∷ []
lits_push [] c = refl
lits_push (d ∷ db) c = ap (λ (cs : List (List ℤ)). d.lits ∷ cs) (lits_push db c)

lits_len : (db : List StoredClause) → length (map (λ (k : StoredClause). k.lits) db) ≡ length db
lits_len [] = refl
lits_len (d ∷ db) = ap suc (lits_len db)

pub named_last : (db : List StoredClause) (c : StoredClause) (id : ℕ) → id ≡ length (db ++ c ∷ []) → clause_of (known_of (db ++ c ∷ [])) id ≡ Some c.lits
named_last db c id is =
    let len = length-append db (c ∷ []) in
    let count = lits_len db in
    let at : id ≡ 1 + length (map (λ (k : StoredClause). k.lits) db) = omega (arith, len, is, count) in
    ap (λ (cs : List (List ℤ)). clause_of (numbered 1 cs) id) (lits_push db c)
    ∙ ap (clause_of (numbered 1 (map (λ (k : StoredClause). k.lits) db ++ c.lits ∷ []))) at
    ∙ last_of 1 (map (λ (k : StoredClause). k.lits) db) c.lits

pub keep-keep : (a b : ℕ) (es : List Entry) → a ≤ b → keep a (keep b es) ≡ keep a es
keep-keep a b [] h = refl
keep-keep a b (e ∷ es) h = elim (leb_tells (top (e ∷ es)) b) [
  | inl kept ↦ ap (keep a) (keep-whole b (e ∷ es) kept.1)
  | inr above ↦ ap (keep a) (keep-skip b e es above.1) ∙ keep-keep a b es h ∙ sym (keep-skip a e es (omega (arith, above.1, h)))
]

-- literals
pub abs_neg : (m : ℤ) → var_of (neg_ℤ m) ≡ var_of m
abs_neg (pos zero) = refl
abs_neg (pos (suc n)) = omega arith
abs_neg (negsuc n) = omega arith

pub literal_at : (vars : ℕ) (lits : List ℤ) (l : ℤ) → AreLiterals vars lits → In l lits → IsLiteral vars l
literal_at vars [] l a i = absurd i
literal_at vars (x ∷ xs) l a (inl same) = subst (IsLiteral vars) (sym same) a.0
literal_at vars (x ∷ xs) l a (inr i) = literal_at vars xs l a.1 i

pub literals_from : (vars : ℕ) (lits : List ℤ) → ((l : ℤ) → In l lits → IsLiteral vars l) → AreLiterals vars lits
literals_from vars [] f = tt
literals_from vars (x ∷ xs) f = (f x (inl refl), literals_from vars xs (λ l i. f l (inr i)))

pub over-push : (vars : ℕ) (db : List StoredClause) (c : StoredClause) → AreOver vars db → AreLiterals vars c.lits → AreOver vars (db ++ c ∷ [])
over-push vars db c old new d i = elim (In-append_cases d db (c ∷ []) i) [
  | inl k ↦ old d k
  | inr (inl same) ↦ subst (λ (k : StoredClause). AreLiterals vars k.lits) (sym same) new
  | inr (inr none) ↦ absurd none
]

pub used_literal : (vars : ℕ) (db : List StoredClause) (l : ℤ) → AreOver vars db → IsUsed db l → IsLiteral vars l
used_literal vars db l over u = literal_at vars u.clause.lits l (over u.clause u.in_db) u.has

used_has_var : (log : List LogStep) (db : List StoredClause) (l : ℤ) → db_of log ≡ db → IsHonest log → IsUsed db l → HasVar (inputs_of log) (var_of l)
used_has_var log db l same honest u = honest_vars log honest u.clause (subst (In u.clause) (sym same) u.in_db) l u.has

-- what was logged is paid
pub paid_none : (log : List LogStep) (left : ℕ) → IsHonest log → IsHonestlyPaid log log left left
paid_none log left honest = record { paid = IsPaid-none log left; honest = honest }

pub paid_learned : (log : List LogStep) (lits : List ℤ) (hints : List ℕ) (before left : ℕ) → IsHonest (log ++ Learned lits hints ∷ []) → left + 1 ≡ before
    → IsHonestlyPaid log (log ++ Learned lits hints ∷ []) before left
paid_learned log lits hints before left honest paid =
    let one = learned-push log (Learned lits hints) in
    record { paid = record { more = Learned lits hints ∷ []; grown = refl; inputs = inputs-push_learned log lits hints; paid = omega (arith, one, paid) }; honest = honest }

pub paid_core : (log : List LogStep) (lits : List ℤ) (hints : List ℕ) (left : ℕ) → IsHonest (log ++ Core lits hints ∷ []) → IsHonestlyPaid log (log ++ Core lits hints ∷ []) left left
paid_core log lits hints left honest =
    let one = learned-push log (Core lits hints) in
    record { paid = record { more = Core lits hints ∷ []; grown = refl; inputs = inputs-push_core log lits hints; paid = omega (arith, one) }; honest = honest }

pub paid_join : (a b c : List LogStep) (before mid left : ℕ) → IsHonestlyPaid a b before mid → IsHonestlyPaid b c mid left → IsHonestlyPaid a c before left
paid_join a b c before mid left h k = record { paid = IsPaid-then a b c before mid left h.paid k.paid; honest = k.honest }

-- the facts that `learn` asks for
pub conflict_of : (vars : ℕ) (db : List StoredClause) (log : List LogStep) (es : List Entry) (assumed : List ℤ) (count id : ℕ) → IsState vars db log es assumed count → IsFalsified db (trues es) id → count < top es
    → IsConflict db es id
conflict_of vars db log es assumed count id s f choice =
    let (one, has, still) = top_literal vars db es f.clause s.trail (fixpoint_before db assumed count es s.sound (omega (arith, choice))) f.live f.is_false in
    record { clause = f.clause; named = f.named; is_false = f.is_false; some_open = record { one = one; has = has; still_open = still } }

-- the log and the clauses after a learnt clause
pub learned_recorded : (vars : ℕ) (db : List StoredClause) (log : List LogStep) (es : List Entry) (assumed : List ℤ) (count back : ℕ) (lits : List ℤ) (hints : List ℕ) → IsState vars db log es assumed count
    → IsLearnt db es lits hints back → count < top es → IsRecorded vars (db ++ record { lits = lits; live = true } ∷ []) (log ++ Learned lits hints ∷ [])
learned_recorded vars db log es assumed count back lits hints s r choice =
    let c : StoredClause = record { lits = lits; live = true } in
    let w = s.recorded in
    let fixpoint = fixpoint_before db assumed count es s.sound (omega (arith, choice)) in
    record {
      same = db_of-push log (Learned lits hints) ∙ ap (λ (k : List StoredClause). k ++ c ∷ []) w.same;
      honest =
          honest-learned log lits hints w.honest (
            record {
              follows = subst (λ (k : List StoredClause). follows (known_of k) lits hints ≡ true) (sym w.same) r.follows;
              proper = record {
                consistent = λ l i j. trail_consistent vars es s.trail (neg_ℤ l) (r.is_false l i) (r.is_false (neg_ℤ l) j);
                vars = λ l i. used_has_var log db l w.same w.honest (r.used l i);
              };
            },
            λ d live. not_subsumed vars db (before_last es) lits r.first (IsTrail-keep vars (top es - 1) es s.trail) fixpoint r.others r.unset d (subst (λ (k : List StoredClause). IsLive k d) w.same live),
          );
      over = over-push vars db c w.over (literals_from vars lits (λ l i. used_literal vars db l w.over (r.used l i)));
    }

pub learned_first : (vars : ℕ) (db : List StoredClause) (log : List LogStep) (es : List Entry) (assumed : List ℤ) (count back : ℕ) (lits : List ℤ) (hints : List ℕ) → IsState vars db log es assumed count
    → (r : IsLearnt db es lits hints back) → IsUnset (trues (keep back es)) r.first × IsLiteral vars r.first
learned_first vars db log es assumed count back lits hints s r =
    let below = r.back.below in
    let deeper : (l : ℤ) → In l (trues (keep back es)) → In l (trues (before_last es)) = λ l i. lit-keep_more back (top es - 1) es l (omega (arith, below)) i in (
      record { not_true = λ h. r.unset.not_true (deeper r.first h); not_false = λ h. r.unset.not_false (deeper (neg_ℤ r.first) h) },
      used_literal vars db r.first s.recorded.over (r.used r.first (subst (In r.first) (sym r.is) (inl refl))),
    )

-- the state after a learnt clause
pub learned_state : (vars : ℕ) (db : List StoredClause) (log : List LogStep) (es : List Entry) (assumed : List ℤ) (count id back new : ℕ) (lits : List ℤ) (hints : List ℕ) → IsState vars db log es assumed count
    → (r : IsLearnt db es lits hints back) → count < top es → id ≡ length (db ++ record { lits = lits; live = true } ∷ []) → new ≡ min count back
    → IsState vars (db ++ record { lits = lits; live = true } ∷ []) (log ++ Learned lits hints ∷ []) (record { lit = r.first; reason = Some id; unit = None } ∷ keep back es) assumed new
learned_state vars db log es assumed count id back new lits hints s r choice id_is new_is =
    let c : StoredClause = record { lits = lits; live = true } in
    let low = keep back es in
    let below = r.back.below in
    let level : top low ≡ back = top-keep_exact back es (omega (arith, below)) in
    let first = learned_first vars db log es assumed count back lits hints s r in
    let has : In r.first lits = subst (In r.first) (sym r.is) (inl refl) in
    record {
      recorded = learned_recorded vars db log es assumed count back lits hints s r choice;
      trail = (first.0, first.1, IsTrail-keep vars back es s.trail);
      sound = (
        (
          record { clause = lits; named = named_last db c id id_is; has = has; others = r.back.others },
          record { clause = lits; live = In-append_right c db (c ∷ []) (inl refl); has = has; others = r.back.others },
        ),
        tt,
        sound_learned db lits assumed new low
            (λ up.
            let second = r.back.second (omega (arith, up, level)) in
            let inner : keep (top low - 1) low ≡ keep (back - 1) es = ap (λ (n : ℕ). keep (n - 1) low) level ∙ keep-keep (back - 1) back es (omega arith) in
            let into : (l : ℤ) → In l (trues (before_last low)) → In l (trues (keep (back - 1) es)) = λ l i. subst (λ (xs : List Entry). In l (trues xs)) inner i in
            record {
              one = r.first;
              other = second.one;
              one_in = has;
              other_in = second.has;
              differ = λ e. second.other (sym e);
              one_open = λ h. r.unset.not_false (lit-keep_more (back - 1) (top es - 1) es (neg_ℤ r.first) (omega (arith, below)) (into (neg_ℤ r.first) h));
              other_open = λ h. second.still_open (into (neg_ℤ second.one) h);
            })
            (sound_recount db assumed count new low (omega (arith, new_is)) (λ n a b. omega (arith, new_is, level, a, b)) (sound_keep db assumed count back es s.sound)),
      );
      levels = omega (arith, new_is, level);
    }

-- below a choice all assumed literals are true
pub true_below : (db : List StoredClause) (assumed : List ℤ) (count back : ℕ) (es : List Entry) → IsSound db assumed count es → count ≤ back → back < top es → AllTrue (trues (keep back es)) assumed
true_below db assumed count back [] s low h l i = absurd (omega arith)
true_below db assumed count back (e ∷ es) s low h l i =
    subst (λ (xs : List Entry). In l (trues xs)) (sym (keep-skip back e es h)) (go e.reason h s.0 (λ k. true_below db assumed count back es s.2 low k))
  where
    go : (r : Option ℕ) → back < level_after r (top es) → IsSoundEntry db assumed count es e.lit r → (back < top es → AllTrue (trues (keep back es)) assumed) → In l (trues (keep back es))
    go (Some id) k entry rest = rest k l i
    go None k (inl d, f) rest = elim (cases_lt back (top es)) [
      | inl more ↦ rest more l i
      | inr less ↦ (let d0 = d.0 in absurd (omega (arith, d0, less, low, k)))
    ]
    go None k (inr d, f) rest = elim (cases_lt back (top es)) [
      | inl more ↦ rest more l i
      | inr less ↦ subst (λ (xs : List Entry). In l (trues xs)) (sym (keep-whole back es less)) (d.1 l i)
    ]

pub reached_below : (db : List StoredClause) (assumed : List ℤ) (count back reached : ℕ) (es : List Entry) → IsSound db assumed count es → back < top es → (reached ≡ 0) ⊎ (count ≤ back)
    → AllTrue (trues (keep back es)) (take reached assumed)
reached_below db assumed count back reached es s h (inl none) = subst (λ (n : ℕ). AllTrue (trues (keep back es)) (take n assumed)) (sym none) (λ l i. absurd i)
reached_below db assumed count back reached es s h (inr low) = λ l i. true_below db assumed count back es s low h l (In-from_take reached assumed l i)
  where
    In-from_take : (n : ℕ) (xs : List ℤ) (x : ℤ) → In x (take n xs) → In x xs
    In-from_take zero xs x i = absurd i
    In-from_take (suc n) [] x i = i
    In-from_take (suc n) (y ∷ ys) x (inl same) = inl same
    In-from_take (suc n) (y ∷ ys) x (inr i) = inr (In-from_take n ys x i)

-- the log and the clauses after a core
pub core_recorded : (vars : ℕ) (db : List StoredClause) (log : List LogStep) (es : List Entry) (start : List ℤ) (lits : List ℤ) (hints : List ℕ) → IsRecorded vars db log → IsCore db es start lits hints
    → IsRecorded vars (db ++ record { lits = lits; live = false } ∷ []) (log ++ Core lits hints ∷ [])
core_recorded vars db log es start lits hints w r =
    let c : StoredClause = record { lits = lits; live = false } in
    record {
      same = db_of-push log (Core lits hints) ∙ ap (λ (k : List StoredClause). k ++ c ∷ []) w.same;
      honest =
          honest-core log lits hints w.honest
          (record {
            follows = subst (λ (k : List StoredClause). follows (known_of k) lits hints ≡ true) (sym w.same) r.follows;
            proper = record { consistent = r.consistent; vars = λ l i. used_has_var log db l w.same w.honest (r.used l i) };
          });
      over = over-push vars db c w.over (literals_from vars lits (λ l i. used_literal vars db l w.over (r.used l i)));
    }

pub core_state : (vars : ℕ) (db new : List StoredClause) (log more : List LogStep) (es : List Entry) (assumed start : List ℤ) (count id : ℕ) → IsState vars db log es assumed count → IsCoreAdded db new log more es start id
    → IsState vars new more es assumed count
core_state vars db new log more es assumed start count id s r =
    subst (λ (k : List StoredClause). IsState vars k more es assumed count) (sym r.stored)
    (subst (λ (k : List LogStep). IsState vars (db ++ record { lits = r.lits; live = false } ∷ []) k es assumed count) (sym r.logged)
    (record {
      recorded = core_recorded vars db log es start r.lits r.hints s.recorded r.core;
      trail = s.trail;
      sound = sound_core db r.lits assumed count es s.sound;
      levels = s.levels;
    }))

get_last : (log : List LogStep) (s : LogStep) (n : ℕ) → n ≡ length log → slice_get (log ++ s ∷ []) n ≡ Some s
get_last [] s zero h = refl
get_last [] s (suc n) h = absurd (omega arith)
get_last (x ∷ log) s zero h = absurd (omega arith)
get_last (x ∷ log) s (suc n) h = get_last log s n (omega arith)

-- a core of assumed literals only
pub refuted_of : (vars : ℕ) (db new : List StoredClause) (log more : List LogStep) (es : List Entry) (assumed start : List ℤ) (count id : ℕ) → IsState vars db log es assumed count → IsCoreAdded db new log more es start id
    → top es ≤ count → ((l : ℤ) → In l start → In (neg_ℤ l) assumed) → IsRefuted more assumed id
refuted_of vars db new log more es assumed start count id s r all first =
    let len = ap length s.recorded.same in
    let grown = length-append db (record { lits = r.lits; live = false } ∷ []) in
    let same = db_len log in
    let is = r.id_is in
    let new_len = ap length r.stored in
    record {
      lits = r.lits;
      hints = r.hints;
      from_one = omega (arith, grown, is, new_len);
      step = ap (λ (k : List LogStep). slice_get (steps_of k) (id - 1)) r.logged
          ∙ ap (λ (k : List LogStep). slice_get k (id - 1)) (steps-append log (Core r.lits r.hints ∷ []))
          ∙ get_last (steps_of log) (Core r.lits r.hints) (id - 1) (omega (arith, len, grown, same, is, new_len));
      negated = λ l i. elim (In-append_cases l start r.core.negated (subst (In l) r.core.is i)) [
        | inl x ↦ first l x
        | inr d ↦ decisions_assumed db assumed count es (neg_ℤ l) all s.sound (r.core.decided l d)
      ];
    }

-- at a choice all assumed literals are true
pub assumed_true : (db : List StoredClause) (assumed : List ℤ) (count : ℕ) (es : List Entry) → IsSound db assumed count es → count < top es → AllTrue (trues es) assumed
assumed_true db assumed count [] s h = absurd (omega arith)
assumed_true db assumed count (e ∷ es) s h = go e.reason h s.0 (λ k. assumed_true db assumed count es s.2 k)
  where
    go : (r : Option ℕ) → count < level_after r (top es) → IsSoundEntry db assumed count es e.lit r → (count < top es → AllTrue (trues es) assumed) → AllTrue (e.lit ∷ trues es) assumed
    go (Some id) h entry rest l i = inr (rest h l i)
    go None h (inl d, f) rest l i = let d0 = d.0 in absurd (omega (arith, d0, h))
    go None h (inr d, f) rest l i = inr (d.1 l i)

pub all_levels_assumed : (vars : ℕ) (db : List StoredClause) (log : List LogStep) (es : List Entry) (assumed : List ℤ) (count : ℕ) (a : ℤ) → IsState vars db log es assumed count → In a assumed → ¬ In a (trues es) → top es ≤ count
all_levels_assumed vars db log es assumed count a s i out = elim (cases_lt count (top es)) [ inl more ↦ absurd (out (assumed_true db assumed count es s.sound more a i)) | inr less ↦ less ]

-- an assumed literal is decided
pub assumed_state : (vars : ℕ) (db : List StoredClause) (log : List LogStep) (es : List Entry) (assumed : List ℤ) (count : ℕ) (a : ℤ) → IsState vars db log es assumed count → IsFixpoint db (trues es) → In a assumed
    → IsUnset (trues es) a → IsLiteral vars a → IsState vars db log (record { lit = a; reason = None; unit = None } ∷ es) assumed (count + 1)
assumed_state vars db log es assumed count a s fix i unset lit =
    let all = all_levels_assumed vars db log es assumed count a s i unset.not_true in
    let levels = s.levels in
    record {
      recorded = s.recorded;
      trail = (unset, lit, s.trail);
      sound = ((inl (omega arith, i), fix), tt, more es all s.sound);
      levels = omega arith;
    }
  where
    more : (xs : List Entry) → top xs ≤ count → IsSound db assumed count xs → IsSound db assumed (count + 1) xs
    more [] h k = tt
    more (x ∷ xs) h k = (entry x.reason h k.0, k.1, more xs (let up = level_after-at_least x.reason (top xs) in omega (arith, up, h)) k.2)
      where
        entry : (r : Option ℕ) → level_after r (top xs) ≤ count → IsSoundEntry db assumed count xs x.lit r → IsSoundEntry db assumed (count + 1) xs x.lit r
        entry (Some id) h e = e
        entry None h (inl d, f) = (inl (omega arith, d.1), f)
        entry None h (inr d, f) = let d0 = d.0 in absurd (omega (arith, d0, h))

-- a variable is chosen
pub chosen_state : (vars : ℕ) (db : List StoredClause) (log : List LogStep) (es : List Entry) (assumed : List ℤ) (count : ℕ) (l : ℤ) → IsState vars db log es assumed count → IsFixpoint db (trues es)
    → AllTrue (trues es) assumed → IsUnset (trues es) l → IsLiteral vars l → IsState vars db log (record { lit = l; reason = None; unit = None } ∷ es) assumed count
chosen_state vars db log es assumed count l s fix all unset lit =
    let levels = s.levels in
    record {
      recorded = s.recorded;
      trail = (unset, lit, s.trail);
      sound = ((inr (omega arith, all), fix), tt, s.sound);
      levels = omega arith;
    }

-- propagation
pub grown_state : (vars : ℕ) (db : List StoredClause) (log : List LogStep) (old es : List Entry) (assumed : List ℤ) (count : ℕ) → IsState vars db log old assumed count → Grows db old es → IsTrail vars es
    → IsState vars db log es assumed count
grown_state vars db log old es assumed count s g t =
    let level = top_grows db old es g in
    let levels = s.levels in
    record { recorded = s.recorded; trail = t; sound = sound_grows db assumed count old es g s.sound; levels = omega (arith, level, levels) }

-- no unit is left, and nothing is decided yet
pub dry_of : (vars : ℕ) (db : List StoredClause) (log : List LogStep) (es : List Entry) (assumed : List ℤ) (count id : ℕ) → IsState vars db log es assumed count → IsFalsified db (trues es) id → count < top es
    → Undecided (db_of log) assumed
dry_of vars db log es assumed count id s f choice =
    subst (λ (k : List StoredClause). Undecided k assumed) (sym s.recorded.same)
    (record {
      list = marked count es;
      marks = marked-list vars db assumed count es s.trail s.sound;
      chosen = marked-choice count es choice;
      clause = f.clause;
      live = f.live;
      clashes = subst (λ (ls : List ℤ). AllFalse ls f.clause) (sym (marked-lits count es)) f.is_false;
    })

-- a model

-- a literal has a value where its variable has
has_value : (ts : List ℤ) (l m : ℤ) → var_of l ≡ var_of m → HasValue ts l → HasValue ts m
has_value ts l m same (inl t) = elim (same_var l m same) [
  | inl is ↦ inl (subst (λ k. In k ts) is t)
  | inr turned ↦ inr (subst (λ k. In k ts) turned t)
]
has_value ts l m same (inr f) = elim (same_var m l (sym same)) [
  | inl is ↦ inr (subst (λ k. In (neg_ℤ k) ts) (sym is) f)
  | inr turned ↦ inl (subst (λ k. In k ts) (sym turned) f)
]

true_by : (assign : List Bool) (default : Bool) (l : ℤ) → IsTrueBy default l → get_or assign (var_of l - 1) false ≡ default → literal_true assign l ≡ true
true_by assign default (pos v) is at = at ∙ is
true_by assign default (negsuc v) is at = let down : suc v - 1 ≡ v = omega arith in ap not (ap (λ (i : ℕ). get_or assign i false) (sym down) ∙ at ∙ is)

-- what has no value is as it is by default
settled : (vars : ℕ) (touched : List Bool) (default : Bool) (ts : List ℤ) (assign : List Bool) (l : ℤ) → IsLiteral vars l → IsTouched touched l ⊎ IsTrueBy default l
    → ((m : ℤ) → IsLiteral vars m → IsTouched touched m → HasValue ts m) → ((index : ℕ) → index < vars → HasValue ts (pos (index + 1)) ⊎ (get_or assign index false ≡ default))
    → HasValue ts l ⊎ (literal_true assign l ≡ true)
settled vars touched default ts assign l literal (inl t) full others = inl (full l literal t)
settled vars touched default ts assign l literal (inr is) full others =
    let low = literal.not_zero in
    let high = literal.in_range in
    elim (others (var_of l - 1) (omega (arith, low, high))) [
      | inl has ↦ inl (has_value ts (pos (var_of l - 1 + 1)) l (omega (arith, low)) has)
      | inr free ↦ inr (true_by assign default l is free)
    ]

not_false_true : (ts : List ℤ) (assign : List Bool) (l : ℤ) → ¬ In (neg_ℤ l) ts → (In l ts → literal_true assign l ≡ true) → HasValue ts l ⊎ (literal_true assign l ≡ true) → literal_true assign l ≡ true
not_false_true ts assign l unfalse value (inl (inl t)) = value t
not_false_true ts assign l unfalse value (inl (inr f)) = absurd (unfalse f)
not_false_true ts assign l unfalse value (inr holds) = holds

-- a clause that is loose has a true literal
loose_true_lit : (ts : List ℤ) (c : List ℤ) (assign : List Bool) → ((l : ℤ) → In l c → HasValue ts l ⊎ (literal_true assign l ≡ true)) → ((l : ℤ) → In l ts → literal_true assign l ≡ true)
    → IsLoose ts c → (l : ℤ) × In l c × (literal_true assign l ≡ true)
loose_true_lit ts c assign each values (inl (l, j, t)) = (l, j, values l t)
loose_true_lit ts c assign each values (inr two) = (two.one, two.one_in, not_false_true ts assign two.one two.one_open (values two.one) (each two.one two.one_in))

pub model_of : (vars : ℕ) (touched : List Bool) (default : Bool) (db : List StoredClause) (log : List LogStep) (es : List Entry) (assumed : List ℤ) (count : ℕ) (assign : List Bool) → IsState vars db log es assumed count
    → IsFixpoint db (trues es) → AllTrue (trues es) assumed → AreTouched default touched (inputs_of log) → ((l : ℤ) → IsLiteral vars l → IsTouched touched l → HasValue (trues es) l) → length assign ≡ vars
    → ((l : ℤ) → In l (trues es) → literal_true assign l ≡ true) → ((index : ℕ) → index < vars → HasValue (trues es) (pos (index + 1)) ⊎ (get_or assign index false ≡ default))
    → IsModel vars (inputs_of log) assumed assign
model_of vars touched default db log es assumed count assign s fix all are full total values others = record {
  total = total;
  clauses_true = λ c i.
      let live : IsLive db c = subst (λ (k : List StoredClause). IsLive k c) s.recorded.same (input_in log c s.recorded.honest i) in
      let over = s.recorded.over (record { lits = c; live = true }) live in
      let (l, j, t) = loose_true_lit (trues es) c assign (λ m k. settled vars touched default (trues es) assign m (literal_at vars c m over k) (are c i m k) full others) values (fix c live) in
      any_at (literal_true assign) c l j t;
  assumed_true = λ l i. values l (all l i);
}

-- the same of other names
pub touched_is : (default other : Bool) (touched others : List Bool) (clauses more : List (List ℤ)) → other ≡ default → others ≡ touched → more ≡ clauses → AreTouched default touched clauses → AreTouched other others more
touched_is default other touched others clauses more same a b are =
    subst (λ (d : Bool). AreTouched d others more) (sym same) (subst (λ (bs : List Bool). AreTouched default bs more) (sym a) (subst (AreTouched default touched) (sym b) are))

-- the same state by other names
pub state_is : (v w n : ℕ) (d d2 : List StoredClause) (l l2 : List LogStep) (e e2 : List Entry) (assumed : List ℤ) → w ≡ v → d2 ≡ d → l2 ≡ l → e2 ≡ e → IsState v d l e assumed n → IsState w d2 l2 e2 assumed n
state_is v w n d d2 l l2 e e2 assumed a b c f s =
    subst (λ (x : ℕ). IsState x d2 l2 e2 assumed n) (sym a)
    (subst (λ (x : List StoredClause). IsState v x l2 e2 assumed n) (sym b)
    (subst (λ (x : List LogStep). IsState v d x e2 assumed n) (sym c) (subst (λ (x : List Entry). IsState v d l x assumed n) (sym f) s)))

pub first_is : (ls rest : List ℤ) (d f : ℤ) → ls ≡ f ∷ rest → d ≡ get_or ls 0 d → d ≡ f
first_is ls rest d f is at = at ∙ ap (λ (k : List ℤ). get_or k 0 d) is

-- an assumed literal that is false is so by propagation from assumed ones
pub failed_levels : (vars : ℕ) (db : List StoredClause) (log : List LogStep) (es : List Entry) (assumed : List ℤ) (count : ℕ) (a : ℤ) → IsState vars db log es assumed count → In a assumed → In (neg_ℤ a) (trues es)
    → top es ≤ count
failed_levels vars db log es assumed count a s i f = all_levels_assumed vars db log es assumed count a s i (λ t. trail_consistent vars es s.trail a t f)

pub failed_reason : (vars : ℕ) (db : List StoredClause) (log : List LogStep) (es : List Entry) (assumed : List ℤ) (count : ℕ) (a : ℤ) → IsState vars db log es assumed count → IsConsistent assumed → In a assumed
    → In (neg_ℤ a) (trues es) → ¬ IsDecision es (neg_ℤ a)
failed_reason vars db log es assumed count a s consistent i f d =
    consistent a i (decisions_assumed db assumed count es (neg_ℤ a) (failed_levels vars db log es assumed count a s i f) s.sound d)
