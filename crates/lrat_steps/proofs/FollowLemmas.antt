-- Lemmas on honest logs: what they say of a derived step, and that its hints name earlier steps.
use Rattle.std.proofs.Common.{◌≡◌, ℕ, ◌-◌, ◌<◌, ◌≤◌, Bool, true, false, List, [], ◌∷◌, ◌++◌, map, length, take, Option, Some, None, refl, sym, ◌∙◌, ap, subst, inl, inr, arith}
use Rattle.std.specs.Prelude.{ℤ, neg_ℤ}
use Rattle.std.specs.Option.{option_map_or}
use Rattle.std.proofs.lemmas.Bool.{cases_Bool, cases_lt, false≢true}
use Rattle.std.proofs.lemmas.List.{append-nil, length-take, length-map, length_push, map_push, take-append-le, take_all, get_or_append_left, get_or_push}
use Rattle.sat_base.specs.Members.{In}
use Rattle.sat_base.specs.Derivation.{numbered, clause_of, open_lits, only_lit, is_nil, follows}
use Rattle.sat_base.specs.Database.{StoredClause, known_of}
use Rattle.sat_base.proofs.DatabaseLemmas.{named_range}
use Rattle.lrat_steps.specs.Log.{LogStep, Input, Learned, Core, Forgot, lits_of, hints_of, steps_of, step_in, stored, db_of, inputs_of}
use Rattle.lrat_steps.specs.Honest.{IsDerived, IsHonestStep, IsHonest}
use Rattle.lrat_steps.specs.Cone.{is_input, lits_at, hints_at, is_input_at, IsBackward, IsDerivedId}
use Rattle.lrat_steps.proofs.LogLemmas.{steps-append, lits_all, honest-fold}

-- what an honest log says of a derived step

-- of steps without marks: each derived one follows from those before it by its hints
abbrev pub AreDerived : List (List ℤ) → List LogStep → Type 0
AreDerived inputs steps = (id : ℕ) → IsDerivedId steps id → IsDerived inputs (take (id - 1) (map stored steps)) (lits_at steps id) (hints_at steps id)

lits-stored : (steps : List LogStep) → map (λ (c : StoredClause). c.lits) (map stored steps) ≡ map lits_of steps
lits-stored [] = refl
lits-stored (s ∷ steps) = ap (λ (rest : List (List ℤ)). lits_of s ∷ rest) (lits-stored steps)

-- what the clauses of a log are known as does not tell which are live
pub known_all : (log : List LogStep) → known_of (db_of log) ≡ known_of (map stored (steps_of log))
known_all log = ap (numbered 1) (lits_all log ∙ sym (lits-stored (steps_of log)))

derived_old : (inputs : List (List ℤ)) (steps : List LogStep) (s : LogStep) (id : ℕ) → AreDerived inputs steps → id ≤ length steps → IsDerivedId (steps ++ s ∷ []) id
    → IsDerived inputs (take (id - 1) (map stored (steps ++ s ∷ []))) (lits_at (steps ++ s ∷ []) id) (hints_at (steps ++ s ∷ []) id)
derived_old inputs steps s id all high d =
    let low = d.from_one in
    let len = length-map steps stored in
    let same : step_in (steps ++ s ∷ []) id ≡ step_in steps id = get_or_append_left steps (s ∷ []) (Input []) (id - 1) (omega arith) in
    let old : take (id - 1) (map stored (steps ++ s ∷ [])) ≡ take (id - 1) (map stored steps) =
    ap (take (id - 1)) (map_push stored steps s) ∙ take-append-le (id - 1) (map stored steps) (stored s ∷ []) (omega arith) in
    let is = all id (record { from_one = low; within = high; derived = sym (ap is_input same) ∙ d.derived }) in
    subst (λ (db : List StoredClause). IsDerived inputs db (lits_at (steps ++ s ∷ []) id) (hints_at (steps ++ s ∷ []) id)) (sym old)
    (subst (λ (t : LogStep). IsDerived inputs (take (id - 1) (map stored steps)) (lits_of t) (hints_of t)) (sym same) is)

derived_new : (inputs : List (List ℤ)) (steps : List LogStep) (s : LogStep) (id : ℕ) → length steps < id → IsDerivedId (steps ++ s ∷ []) id
    → (is_input s ≡ false → IsDerived inputs (map stored steps) (lits_of s) (hints_of s))
    → IsDerived inputs (take (id - 1) (map stored (steps ++ s ∷ []))) (lits_at (steps ++ s ∷ []) id) (hints_at (steps ++ s ∷ []) id)
derived_new inputs steps s id past d here =
    let high = d.within in
    let longer = length_push steps s in
    let len = length-map steps stored in
    let same : step_in (steps ++ s ∷ []) id ≡ s = get_or_push steps s (Input []) (id - 1) (omega arith) in
    let all : take (id - 1) (map stored (steps ++ s ∷ [])) ≡ map stored steps =
    ap (take (id - 1)) (map_push stored steps s) ∙ take-append-le (id - 1) (map stored steps) (stored s ∷ []) (omega arith) ∙ take_all (id - 1) (map stored steps) (omega arith) in
    subst (λ (db : List StoredClause). IsDerived inputs db (lits_at (steps ++ s ∷ []) id) (hints_at (steps ++ s ∷ []) id)) (sym all)
    (subst (λ (t : LogStep). IsDerived inputs (map stored steps) (lits_of t) (hints_of t)) (sym same) (here (sym (ap is_input same) ∙ d.derived)))

derived_more : (inputs : List (List ℤ)) (steps : List LogStep) (s : LogStep) → AreDerived inputs steps → (is_input s ≡ false → IsDerived inputs (map stored steps) (lits_of s) (hints_of s))
    → AreDerived inputs (steps ++ s ∷ [])
derived_more inputs steps s all here id d =
    elim (cases_lt (length steps) id) [
      | inl past ↦ derived_new inputs steps s id past d here
      | inr high ↦ derived_old inputs steps s id all high d
    ]

-- only what the clauses are known as counts
derived_known : (inputs : List (List ℤ)) (before : List LogStep) (lits : List ℤ) (hints : List ℕ) → IsDerived inputs (db_of before) lits hints → IsDerived inputs (map stored (steps_of before)) lits hints
derived_known inputs before lits hints h =
    record { follows = subst (λ (known : List (ℕ × List ℤ)). follows known lits hints ≡ true) (known_all before) h.follows; proper = h.proper }

derived_step : (inputs : List (List ℤ)) (before : List LogStep) (s : LogStep) → AreDerived inputs (steps_of before) → IsHonestStep inputs before s → AreDerived inputs (steps_of before ++ steps_of (s ∷ []))
derived_step inputs before (Input c) all h = derived_more inputs (steps_of before) (Input c) all (λ e. absurd (false≢true (sym e)))
derived_step inputs before (Learned c hints) all h = derived_more inputs (steps_of before) (Learned c hints) all (λ e. derived_known inputs before c hints h.0)
derived_step inputs before (Core c hints) all h = derived_more inputs (steps_of before) (Core c hints) all (λ e. derived_known inputs before c hints h)
derived_step inputs before (Forgot id) all h = subst (AreDerived inputs) (sym (append-nil (steps_of before))) all

pub derived_all : (log : List LogStep) → IsHonest log → AreDerived (inputs_of log) (steps_of log)
derived_all log honest =
    honest-fold (inputs_of log) (λ e. AreDerived (inputs_of log) (steps_of e)) [] log (λ id d. let low = d.from_one in let high = d.within in absurd (omega arith))
    (λ before s i all h. subst (AreDerived (inputs_of log)) (sym (steps-append before (s ∷ []))) (derived_step (inputs_of log) before s all h))
    honest

-- a hint names a known clause

some_of : {X : Type 0} (o : Option X) (test : X → Bool) → option_map_or test o false ≡ true → (x : X) × (o ≡ Some x) × (test x ≡ true)
some_of None test e = absurd (false≢true e)
some_of (Some x) test e = (x, refl, e)

-- where the other hints begin: the clause of the first, and its one literal that is not false
pub record IsStart (known : List (ℕ × List ℤ)) (falses : List ℤ) (first next : ℕ) (hints : List ℕ) : Type 0 where
  pub clause : List ℤ
  pub lit : ℤ
  pub named : clause_of known first ≡ Some clause
  pub only : only_lit (open_lits falses clause) ≡ Some lit
  pub rest : follows known (neg_ℤ lit ∷ falses) (next ∷ hints) ≡ true

start_of : (known : List (ℕ × List ℤ)) (falses : List ℤ) (first next : ℕ) (hints : List ℕ) → follows known falses (first ∷ next ∷ hints) ≡ true → IsStart known falses first next hints
start_of known falses first next hints f =
    let (c, named, more) =
    some_of (clause_of known first) (λ (c : List ℤ). option_map_or (λ (l : ℤ). follows known (neg_ℤ l ∷ falses) (next ∷ hints)) (only_lit (open_lits falses c)) false) f in
    let (l, only, rest) = some_of (only_lit (open_lits falses c)) (λ (l : ℤ). follows known (neg_ℤ l ∷ falses) (next ∷ hints)) more in
    record { clause = c; lit = l; named = named; only = only; rest = rest }

pub hint_known : (known : List (ℕ × List ℤ)) (falses : List ℤ) (hints : List ℕ) (h : ℕ) → follows known falses hints ≡ true → In h hints → (c : List ℤ) × (clause_of known h ≡ Some c)
hint_known known falses [] h f i = absurd i
hint_known known falses (x ∷ []) h f (inl same) =
    let (c, named, more) = some_of (clause_of known x) (λ (c : List ℤ). is_nil (open_lits falses c)) f in (c, ap (clause_of known) same ∙ named)
hint_known known falses (x ∷ []) h f (inr none) = absurd none
hint_known known falses (x ∷ y ∷ hints) h f (inl same) = let start = start_of known falses x y hints f in (start.clause, ap (clause_of known) same ∙ start.named)
hint_known known falses (x ∷ y ∷ hints) h f (inr i) =
    let start = start_of known falses x y hints f in hint_known known (neg_ℤ start.lit ∷ falses) (y ∷ hints) h start.rest i

-- following depends on the clauses of the hints alone
pub follows_renamed : (known new : List (ℕ × List ℤ)) (name : ℕ → ℕ) (falses : List ℤ) (hints : List ℕ) → ((h : ℕ) → In h hints → clause_of new (name h) ≡ clause_of known h)
    → follows known falses hints ≡ true → follows new falses (map name hints) ≡ true
follows_renamed known new name falses [] same f = f
follows_renamed known new name falses (x ∷ []) same f = ap (λ (o : Option (List ℤ)). option_map_or (λ (c : List ℤ). is_nil (open_lits falses c)) o false) (same x (inl refl)) ∙ f
follows_renamed known new name falses (x ∷ y ∷ hints) same f =
    let start = start_of known falses x y hints f in
    ap
    (λ (o : Option (List ℤ)).
    option_map_or (λ (c : List ℤ). option_map_or (λ (l : ℤ). follows new (neg_ℤ l ∷ falses) (map name (y ∷ hints))) (only_lit (open_lits falses c)) false) o false)
    (same x (inl refl) ∙ start.named)
    ∙ ap (λ (o : Option ℤ). option_map_or (λ (l : ℤ). follows new (neg_ℤ l ∷ falses) (map name (y ∷ hints))) o false) start.only
    ∙ follows_renamed known new name (neg_ℤ start.lit ∷ falses) (y ∷ hints) (λ h i. same h (inr i)) start.rest

no_hints : (s : LogStep) (h : ℕ) → is_input s ≡ true → In h (hints_of s) → ⊥
no_hints (Input lits) h e i = i
no_hints (Learned lits hints) h e i = false≢true e
no_hints (Core lits hints) h e i = false≢true e
no_hints (Forgot id) h e i = i

-- each hint names an earlier step
pub backward_of : (inputs : List (List ℤ)) (steps : List LogStep) → AreDerived inputs steps → IsBackward steps
backward_of inputs steps all id low high h i =
    elim (cases_Bool (is_input_at steps id)) [
      | inl input ↦ absurd (no_hints (step_in steps id) h input i)
      | inr derived ↦
          let d = all id (record { from_one = low; within = high; derived = derived }) in
          let (c, named) = hint_known (known_of (take (id - 1) (map stored steps))) (lits_at steps id) (hints_at steps id) h d.follows i in
          let range = named_range (take (id - 1) (map stored steps)) h c named in
          let first = range.0 in
          let last = range.1 in
          let len = length-take (id - 1) (map stored steps) in
          (first, omega arith)
    ]
