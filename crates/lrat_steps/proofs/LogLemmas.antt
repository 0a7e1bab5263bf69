-- One more step of an honest log, or one more mark.
use Rattle.std.proofs.Common.{◌≡◌, ◌≢◌, ℕ, suc, ◌+◌, ◌-◌, ◌<◌, ◌≤◌, true, false, List, [], ◌∷◌, ◌++◌, map, length, get_or, Some, refl, sym, ◌∙◌, ap, subst, inl, inr, arith, append_assoc}
use Rattle.std.specs.Prelude.{ℤ}
use Rattle.std.proofs.lemmas.Bool.{false≢true, cases_lt}
use Rattle.std.proofs.lemmas.List.{append-nil, length_push, map_push, get_or_push, get_or_append_left, get_or-map, length-map}
use Rattle.sat_base.specs.Literals.{var_of}
use Rattle.sat_base.specs.Database.{StoredClause, known_of, IsLive}
use Rattle.sat_base.specs.Derivation.{clause_of}
use Rattle.sat_base.specs.Forgotten.{forgotten}
use Rattle.sat_base.specs.Members.{In}
use Rattle.sat_base.proofs.Members.{In-append_left, In-append_cases}
use Rattle.sat_base.proofs.DatabaseLemmas.{get_in, named_at}
use Rattle.sat_base.proofs.ForgottenLemmas.{length-forgotten, lits-forgotten, clause-before, get_or-forgotten_other}
use Rattle.lrat_steps.specs.declared.step.StepKind.TheVariants as step_kind
use Rattle.lrat_steps.specs.Log.{LogStep, Input, Learned, Core, Forgot, lits_of, kind_of, steps_of, step_at, inputs_of, learned_count, stored, db_after, db_from, db_of}
use Rattle.lrat_steps.specs.Forgetting.{IsForgettable}
use Rattle.lrat_steps.specs.Honest.{HasVar, IsHonestStep, HonestFrom, IsHonest}
use Rattle.lrat_steps.specs.Cone.{is_input}

db_from-push : (db : List StoredClause) (log : List LogStep) (s : LogStep) → db_from db (log ++ s ∷ []) ≡ db_after (db_from db log) s
db_from-push db [] s = refl
db_from-push db (x ∷ log) s = db_from-push (db_after db x) log s

pub db_of-push : (log : List LogStep) (s : LogStep) → db_of (log ++ s ∷ []) ≡ db_after (db_of log) s
db_of-push log s = db_from-push [] log s

pub steps-append : (log more : List LogStep) → steps_of (log ++ more) ≡ steps_of log ++ steps_of more
steps-append [] more = refl
steps-append (Input c ∷ log) more = ap (λ (steps : List LogStep). Input c ∷ steps) (steps-append log more)
steps-append (Learned c h ∷ log) more = ap (λ (steps : List LogStep). Learned c h ∷ steps) (steps-append log more)
steps-append (Core c h ∷ log) more = ap (λ (steps : List LogStep). Core c h ∷ steps) (steps-append log more)
steps-append (Forgot id ∷ log) more = steps-append log more

-- a mark is no step
pub steps-push_forgot : (log : List LogStep) (id : ℕ) → steps_of (log ++ Forgot id ∷ []) ≡ steps_of log
steps-push_forgot log id = steps-append log (Forgot id ∷ []) ∙ append-nil (steps_of log)

-- each step has its clause

abbrev lits_in : List StoredClause → List (List ℤ)
lits_in db = map (λ (c : StoredClause). c.lits) db

lits_after : (db : List StoredClause) (s : LogStep) → lits_in (db_after db s) ≡ lits_in db ++ map lits_of (steps_of (s ∷ []))
lits_after db (Input c) = map_push (λ (k : StoredClause). k.lits) db (stored (Input c))
lits_after db (Learned c h) = map_push (λ (k : StoredClause). k.lits) db (stored (Learned c h))
lits_after db (Core c h) = map_push (λ (k : StoredClause). k.lits) db (stored (Core c h))
lits_after db (Forgot id) = lits-forgotten db id ∙ sym (append-nil (lits_in db))

map-append : {X Y : Type 0} (f : X → Y) (xs ys : List X) → map f (xs ++ ys) ≡ map f xs ++ map f ys
map-append f [] ys = refl
map-append f (x ∷ xs) ys = ap (λ rest. f x ∷ rest) (map-append f xs ys)

lits_from : (db : List StoredClause) (log : List LogStep) → lits_in (db_from db log) ≡ lits_in db ++ map lits_of (steps_of log)
lits_from db [] = sym (append-nil (lits_in db))
lits_from db (s ∷ log) =
    lits_from (db_after db s) log
    ∙ ap (λ (cs : List (List ℤ)). cs ++ map lits_of (steps_of log)) (lits_after db s)
    ∙ append_assoc (lits_in db) (map lits_of (steps_of (s ∷ []))) (map lits_of (steps_of log))
    ∙ ap (λ (cs : List (List ℤ)). lits_in db ++ cs) (sym (map-append lits_of (steps_of (s ∷ [])) (steps_of log)) ∙ ap (map lits_of) (sym (steps-append (s ∷ []) log)))

-- the clauses of a log are those of its steps, live or not
pub lits_all : (log : List LogStep) → map (λ (c : StoredClause). c.lits) (db_of log) ≡ map lits_of (steps_of log)
lits_all log = lits_from [] log

db_from-len : (db : List StoredClause) (log : List LogStep) → length (db_from db log) ≡ length db + length (steps_of log)
db_from-len db [] = omega arith
db_from-len db (Input c ∷ log) = let rest = db_from-len (db_after db (Input c)) log in let one = length_push db (stored (Input c)) in omega arith
db_from-len db (Learned c h ∷ log) = let rest = db_from-len (db_after db (Learned c h)) log in let one = length_push db (stored (Learned c h)) in omega arith
db_from-len db (Core c h ∷ log) = let rest = db_from-len (db_after db (Core c h)) log in let one = length_push db (stored (Core c h)) in omega arith
db_from-len db (Forgot id ∷ log) = let rest = db_from-len (forgotten db id) log in let same = length-forgotten db id in omega arith

pub db_len : (log : List LogStep) → length (db_of log) ≡ length (steps_of log)
db_len log = let n : 0 + length (steps_of log) ≡ length (steps_of log) = omega arith in db_from-len [] log ∙ n

get_or-lits : (db : List StoredClause) (steps : List LogStep) (at : ℕ) (c : StoredClause) (s : LogStep) → lits_in db ≡ map lits_of steps → at < length steps → (get_or db at c).lits ≡ lits_of (get_or steps at s)
get_or-lits db steps at c s same lt =
    let len = length-map steps lits_of in
    let db_len = length-map db (λ (k : StoredClause). k.lits) in
    let all = ap length same in
    sym (get_or-map (λ (k : StoredClause). k.lits) db at c [] (omega arith)) ∙ ap (λ (cs : List (List ℤ)). get_or cs at []) same ∙ get_or-map lits_of steps at s [] lt

-- the clause of an id is that of its step
pub named_step : (log : List LogStep) (id : ℕ) → 0 < id → id ≤ length (steps_of log) → clause_of (known_of (db_of log)) id ≡ Some (lits_of (step_at log id))
named_step log id low high =
    let len = db_len log in
    named_at (db_of log) id (record { lits = []; live = false }) low (omega arith)
    ∙ ap Some (get_or-lits (db_of log) (steps_of log) (id - 1) (record { lits = []; live = false }) (Input []) (lits_all log) (omega arith))

-- what a step adds
abbrev inputs_with : List (List ℤ) → LogStep → List (List ℤ)
inputs_with cs (Input c) = cs ++ c ∷ []
inputs_with cs (Learned c h) = cs
inputs_with cs (Core c h) = cs
inputs_with cs (Forgot id) = cs

abbrev learned_with : ℕ → LogStep → ℕ
learned_with n (Input c) = n
learned_with n (Learned c h) = n + 1
learned_with n (Core c h) = n
learned_with n (Forgot id) = n

pub inputs-push_input : (log : List LogStep) (c : List ℤ) → inputs_of (log ++ Input c ∷ []) ≡ inputs_of log ++ c ∷ []
inputs-push_input [] c = refl
inputs-push_input (Input d ∷ log) c = ap (λ (cs : List (List ℤ)). d ∷ cs) (inputs-push_input log c)
inputs-push_input (Learned d h ∷ log) c = inputs-push_input log c
inputs-push_input (Core d h ∷ log) c = inputs-push_input log c
inputs-push_input (Forgot id ∷ log) c = inputs-push_input log c

pub inputs-push_learned : (log : List LogStep) (c : List ℤ) (hints : List ℕ) → inputs_of (log ++ Learned c hints ∷ []) ≡ inputs_of log
inputs-push_learned [] c hints = refl
inputs-push_learned (Input d ∷ log) c hints = ap (λ (cs : List (List ℤ)). d ∷ cs) (inputs-push_learned log c hints)
inputs-push_learned (Learned d h ∷ log) c hints = inputs-push_learned log c hints
inputs-push_learned (Core d h ∷ log) c hints = inputs-push_learned log c hints
inputs-push_learned (Forgot id ∷ log) c hints = inputs-push_learned log c hints

pub inputs-push_core : (log : List LogStep) (c : List ℤ) (hints : List ℕ) → inputs_of (log ++ Core c hints ∷ []) ≡ inputs_of log
inputs-push_core [] c hints = refl
inputs-push_core (Input d ∷ log) c hints = ap (λ (cs : List (List ℤ)). d ∷ cs) (inputs-push_core log c hints)
inputs-push_core (Learned d h ∷ log) c hints = inputs-push_core log c hints
inputs-push_core (Core d h ∷ log) c hints = inputs-push_core log c hints
inputs-push_core (Forgot id ∷ log) c hints = inputs-push_core log c hints

pub inputs-push_forgot : (log : List LogStep) (id : ℕ) → inputs_of (log ++ Forgot id ∷ []) ≡ inputs_of log
inputs-push_forgot [] id = refl
inputs-push_forgot (Input d ∷ log) id = ap (λ (cs : List (List ℤ)). d ∷ cs) (inputs-push_forgot log id)
inputs-push_forgot (Learned d h ∷ log) id = inputs-push_forgot log id
inputs-push_forgot (Core d h ∷ log) id = inputs-push_forgot log id
inputs-push_forgot (Forgot k ∷ log) id = inputs-push_forgot log id

pub learned-push : (log : List LogStep) (s : LogStep) → learned_count (log ++ s ∷ []) ≡ learned_with (learned_count log) s
learned-push [] (Input c) = refl
learned-push [] (Learned c h) = refl
learned-push [] (Core c h) = refl
learned-push [] (Forgot id) = refl
learned-push (Input d ∷ log) s = learned-push log s
learned-push (Core d h ∷ log) s = learned-push log s
learned-push (Forgot id ∷ log) s = learned-push log s
learned-push (Learned d h ∷ log) s = ap (λ n. n + 1) (learned-push log s) ∙ swap s
  where
    swap : (s : LogStep) → learned_with (learned_count log) s + 1 ≡ learned_with (learned_count log + 1) s
    swap (Input c) = refl
    swap (Learned c h) = refl
    swap (Core c h) = refl
    swap (Forgot id) = refl

-- more inputs leave steps honest
has_var_more : (inputs more : List (List ℤ)) (v : ℕ) → HasVar inputs v → HasVar (inputs ++ more) v
has_var_more inputs more v h = let (c, m, i, j, is) = h in (c, m, In-append_left c inputs more i, j, is)

step_more : (inputs more : List (List ℤ)) (earlier : List LogStep) (s : LogStep) → IsHonestStep inputs earlier s → IsHonestStep (inputs ++ more) earlier s
step_more inputs more earlier (Input c) h = tt
step_more inputs more earlier (Forgot id) h = h
step_more inputs more earlier (Core c hints) h =
    record { follows = h.follows; proper = record { consistent = h.proper.consistent; vars = λ l i. has_var_more inputs more (var_of l) (h.proper.vars l i) } }
step_more inputs more earlier (Learned c hints) (h, new) =
    (record { follows = h.follows; proper = record { consistent = h.proper.consistent; vars = λ l i. has_var_more inputs more (var_of l) (h.proper.vars l i) } }, new)

honest_more : (inputs more : List (List ℤ)) (earlier log : List LogStep) → HonestFrom inputs earlier log → HonestFrom (inputs ++ more) earlier log
honest_more inputs more earlier [] h = tt
honest_more inputs more earlier (s ∷ log) h = (step_more inputs more earlier s h.0, honest_more inputs more (earlier ++ s ∷ []) log h.1)

honest-push : (inputs : List (List ℤ)) (earlier log : List LogStep) (s : LogStep) → HonestFrom inputs earlier log → IsHonestStep inputs (earlier ++ log) s → HonestFrom inputs earlier (log ++ s ∷ [])
honest-push inputs earlier [] s h new = (subst (λ (before : List LogStep). IsHonestStep inputs before s) (append-nil earlier) new, tt)
honest-push inputs earlier (x ∷ log) s h new = (
  h.0,
  honest-push inputs (earlier ++ x ∷ []) log s h.1
      (subst (λ (before : List LogStep). IsHonestStep inputs before s) (sym (append_assoc earlier (x ∷ []) log)) new),
)

pub honest-learned : (log : List LogStep) (c : List ℤ) (hints : List ℕ) → IsHonest log → IsHonestStep (inputs_of log) log (Learned c hints) → IsHonest (log ++ Learned c hints ∷ [])
honest-learned log c hints h new =
    subst (λ (inputs : List (List ℤ)). HonestFrom inputs [] (log ++ Learned c hints ∷ [])) (sym (inputs-push_learned log c hints)) (honest-push (inputs_of log) [] log (Learned c hints) h new)

pub honest-core : (log : List LogStep) (c : List ℤ) (hints : List ℕ) → IsHonest log → IsHonestStep (inputs_of log) log (Core c hints) → IsHonest (log ++ Core c hints ∷ [])
honest-core log c hints h new =
    subst (λ (inputs : List (List ℤ)). HonestFrom inputs [] (log ++ Core c hints ∷ [])) (sym (inputs-push_core log c hints)) (honest-push (inputs_of log) [] log (Core c hints) h new)

pub honest-input : (log : List LogStep) (c : List ℤ) → IsHonest log → IsHonest (log ++ Input c ∷ [])
honest-input log c h =
    subst (λ (inputs : List (List ℤ)). HonestFrom inputs [] (log ++ Input c ∷ [])) (sym (inputs-push_input log c))
    (honest-push (inputs_of log ++ c ∷ []) [] log (Input c) (honest_more (inputs_of log) (c ∷ []) [] log h) tt)

pub honest-forgot : (log : List LogStep) (id : ℕ) → IsHonest log → IsForgettable log id → IsHonest (log ++ Forgot id ∷ [])
honest-forgot log id h may =
    subst (λ (inputs : List (List ℤ)). HonestFrom inputs [] (log ++ Forgot id ∷ [])) (sym (inputs-push_forgot log id)) (honest-push (inputs_of log) [] log (Forgot id) h may)

-- what holds of the empty log, and behind each step and mark of an honest one, holds behind all of it
pub honest-fold : (inputs : List (List ℤ)) (P : List LogStep → Type 0) (earlier log : List LogStep) → P earlier
    → ((before : List LogStep) (s : LogStep) → In s log → P before → IsHonestStep inputs before s → P (before ++ s ∷ [])) → HonestFrom inputs earlier log → P (earlier ++ log)
honest-fold inputs P earlier [] start step h = subst P (sym (append-nil earlier)) start
honest-fold inputs P earlier (s ∷ log) start step h =
    subst P (append_assoc earlier (s ∷ []) log)
    (honest-fold inputs P (earlier ++ s ∷ []) log (step earlier s (inl refl) start h.0) (λ before t i. step before t (inr i)) h.1)

pub input_of_log : (log : List LogStep) (c : List ℤ) → In (Input c) log → In c (inputs_of log)
input_of_log [] c i = absurd i
input_of_log (Input d ∷ log) c (inl same) = inl (ap lits_of same)
input_of_log (Input d ∷ log) c (inr i) = inr (input_of_log log c i)
input_of_log (Learned d h ∷ log) c (inl same) = cc
input_of_log (Learned d h ∷ log) c (inr i) = input_of_log log c i
input_of_log (Core d h ∷ log) c (inl same) = cc
input_of_log (Core d h ∷ log) c (inr i) = input_of_log log c i
input_of_log (Forgot id ∷ log) c (inl same) = cc
input_of_log (Forgot id ∷ log) c (inr i) = input_of_log log c i

-- each input is live

no_step : LogStep
no_step = Input []

abbrev no_stored : StoredClause
no_stored = record { lits = []; live = false }

learned_no_input : (s : LogStep) → kind_of s ≡ step_kind.Learned → is_input s ≡ false
learned_no_input (Input c) e = cc
learned_no_input (Learned c h) e = refl
learned_no_input (Core c h) e = refl
learned_no_input (Forgot id) e = refl

abbrev InputsStand : List LogStep → List StoredClause → Type 0
InputsStand steps db = (at : ℕ) → at < length steps → is_input (get_or steps at (Input [])) ≡ true → get_or db at no_stored ≡ stored (get_or steps at (Input []))

stand_more : (steps : List LogStep) (db : List StoredClause) (s : LogStep) → length db ≡ length steps → InputsStand steps db → InputsStand (steps ++ s ∷ []) (db ++ stored s ∷ [])
stand_more steps db s len stand at lt e =
    let longer = length_push steps s in
    elim (cases_lt at (length steps)) [
      | inl before ↦
          let same : get_or (steps ++ s ∷ []) at (Input []) ≡ get_or steps at (Input []) = get_or_append_left steps (s ∷ []) (Input []) at before in
          get_or_append_left db (stored s ∷ []) no_stored at (omega arith)
          ∙ stand at before (sym (ap is_input same) ∙ e)
          ∙ ap stored (sym same)
      | inr here ↦ get_or_push db (stored s) no_stored at (omega arith) ∙ ap stored (sym (get_or_push steps s (Input []) at (omega arith)))
    ]

stand_step : (inputs : List (List ℤ)) (before : List LogStep) (s : LogStep) → InputsStand (steps_of before) (db_of before) → IsHonestStep inputs before s
    → InputsStand (steps_of before ++ steps_of (s ∷ [])) (db_after (db_of before) s)
stand_step inputs before (Input c) stand h = stand_more (steps_of before) (db_of before) (Input c) (db_len before) stand
stand_step inputs before (Learned c hints) stand h = stand_more (steps_of before) (db_of before) (Learned c hints) (db_len before) stand
stand_step inputs before (Core c hints) stand h = stand_more (steps_of before) (db_of before) (Core c hints) (db_len before) stand
stand_step inputs before (Forgot id) stand h = λ at lt e.
    let same : steps_of before ++ [] ≡ steps_of before = append-nil (steps_of before) in
    let within : at < length (steps_of before) = subst (λ (steps : List LogStep). at < length steps) same lt in
    let is : is_input (get_or (steps_of before) at (Input [])) ≡ true = subst (λ (steps : List LogStep). is_input (get_or steps at (Input [])) ≡ true) same e in
    let none : is_input (get_or (steps_of before) (id - 1) (Input [])) ≡ false = learned_no_input (get_or (steps_of before) (id - 1) (Input [])) h.live.learned in
    let other : at ≢ id - 1 = λ here. false≢true (sym none ∙ ap (λ k. is_input (get_or (steps_of before) k (Input []))) (sym here) ∙ is) in
    get_or-forgotten_other (db_of before) id at no_stored other
    ∙ stand at within is
    ∙ ap (λ (steps : List LogStep). stored (get_or steps at (Input []))) (sym same)

inputs_stand : (log : List LogStep) → IsHonest log → InputsStand (steps_of log) (db_of log)
inputs_stand log h =
    honest-fold (inputs_of log) (λ e. InputsStand (steps_of e) (db_of e)) [] log (λ at lt e. absurd (omega arith))
    (λ before s i stand honest.
    subst (λ (steps : List LogStep). InputsStand steps (db_of (before ++ s ∷ []))) (sym (steps-append before (s ∷ [])))
    (subst (λ (db : List StoredClause). InputsStand (steps_of before ++ steps_of (s ∷ [])) db) (sym (db_of-push before s)) (stand_step (inputs_of log) before s stand honest)))
    h

input_stands : (log : List LogStep) (c : List ℤ) → In c (inputs_of log) → (at : ℕ) × (at < length (steps_of log)) × (get_or (steps_of log) at (Input []) ≡ Input c)
input_stands [] c i = absurd i
input_stands (Input d ∷ log) c (inl same) = (0, omega arith, ap Input (sym same))
input_stands (Input d ∷ log) c (inr i) = let (at, lt, is) = input_stands log c i in (suc at, omega arith, is)
input_stands (Learned d h ∷ log) c i = let (at, lt, is) = input_stands log c i in (suc at, omega arith, is)
input_stands (Core d h ∷ log) c i = let (at, lt, is) = input_stands log c i in (suc at, omega arith, is)
input_stands (Forgot id ∷ log) c i = input_stands log c i

pub input_in : (log : List LogStep) (c : List ℤ) → IsHonest log → In c (inputs_of log) → IsLive (db_of log) c
input_in log c honest i =
    let (at, lt, is) = input_stands log c i in
    let len = db_len log in
    let stands : get_or (db_of log) at no_stored ≡ record { lits = c; live = true } = inputs_stand log honest at lt (ap is_input is) ∙ ap stored is in
    subst (λ (k : StoredClause). In k (db_of log)) stands (get_in (db_of log) at no_stored (omega arith))

-- only variables of the inputs stand in an honest log

abbrev VarsOf : List (List ℤ) → List ℤ → Type 0
VarsOf inputs c = (l : ℤ) → In l c → HasVar inputs (var_of l)

abbrev AllVarsOf : List (List ℤ) → List StoredClause → Type 0
AllVarsOf inputs db = (c : StoredClause) → In c db → VarsOf inputs c.lits

vars_more : (inputs : List (List ℤ)) (db : List StoredClause) (s : LogStep) → AllVarsOf inputs db → VarsOf inputs (lits_of s) → AllVarsOf inputs (db ++ stored s ∷ [])
vars_more inputs db s all here c i =
    elim (In-append_cases c db (stored s ∷ []) i) [
      | inl old ↦ all c old
      | inr (inl same) ↦ subst (λ (k : StoredClause). VarsOf inputs k.lits) (sym same) here
      | inr (inr none) ↦ absurd none
    ]

vars_step : (log before : List LogStep) (s : LogStep) → In s log → AllVarsOf (inputs_of log) (db_of before) → IsHonestStep (inputs_of log) before s
    → AllVarsOf (inputs_of log) (db_after (db_of before) s)
vars_step log before (Input c) i all h = vars_more (inputs_of log) (db_of before) (Input c) all (λ l j. (c, l, input_of_log log c i, j, refl))
vars_step log before (Learned c hints) i all h = vars_more (inputs_of log) (db_of before) (Learned c hints) all h.0.proper.vars
vars_step log before (Core c hints) i all h = vars_more (inputs_of log) (db_of before) (Core c hints) all h.proper.vars
vars_step log before (Forgot id) i all h = λ c j.
    let (d, k, same) = clause-before (db_of before) id c j in subst (VarsOf (inputs_of log)) same (all d k)

pub honest_vars : (log : List LogStep) → IsHonest log → (c : StoredClause) → In c (db_of log) → (l : ℤ) → In l c.lits → HasVar (inputs_of log) (var_of l)
honest_vars log h =
    honest-fold (inputs_of log) (λ e. AllVarsOf (inputs_of log) (db_of e)) [] log (λ c i. absurd i)
    (λ before s i all honest. subst (AllVarsOf (inputs_of log)) (sym (db_of-push before s)) (vars_step log before s i all honest))
    h
