-- What was looked at is what conflict analysis requires.
use Rattle.std.proofs.Common.{◌≡◌, ℕ, zero, suc, ◌<◌, List, Some, Option, true, refl, sym, ◌∙◌, ap, subst, arith}
use Rattle.std.specs.Prelude.{ℤ, pos, negsuc, neg_ℤ, is_some}
use Rattle.std.proofs.lemmas.Bool.{false≢true}
use Rattle.sat_base.specs.Members.{In}
use Rattle.sat_base.specs.Literals.{var_of}
use Rattle.sat_base.specs.Derivation.{clause_of}
use Rattle.sat_base.specs.Database.{StoredClause, known_of}
use Rattle.sat_base.specs.Units.{AllFalse, AllFalseBut, IsReason}
use Rattle.sat_base.proofs.DatabaseLemmas.{named_at}
use Rattle.clause_store.specs.Clauses.{IsId, clause_at, no_clause}
use Rattle.trail_book.specs.declared.entry.Entry.{Entry}
use Rattle.trail_book.specs.Trail.{trues, oldest, IsTrail, IsPlace}
use Rattle.learn_step.specs.Reasons.{HasOpen, IsConflict, IsFalseClause, IsDecision}
use Rattle.learn_step.proofs.PlaceLemmas.{literal_of, literal_in, place_negated}

-- a literal that is false by a value at a lower place
pub false_below : (vars : ℕ) (es : List Entry) (m : ℤ) (p n : ℕ) → IsTrail vars es → IsPlace es (var_of m) p → In (neg_ℤ m) (trues es) → p < n → In (neg_ℤ m) (trues (oldest n es))
false_below vars es m p n t q h lt =
    subst (λ (l : ℤ). In l (trues (oldest n es))) (literal_of es p q.entry q.at ∙ place_negated vars es m p q t h) (literal_in es p n q.within lt)

-- the clause that a store gives for an id is the one of that name
pub named : (db : List StoredClause) (id : ℕ) (clause : List ℤ) → IsId db id → clause ≡ (clause_at db id).lits → clause_of (known_of db) id ≡ Some clause
named db id clause is same = named_at db id no_clause is.from_one is.within ∙ ap (λ (c : List ℤ). Some c) (sym same)

pub reason_of : (db : List StoredClause) (trues : List ℤ) (lit : ℤ) (id : ℕ) (clause : List ℤ) → IsId db id → clause ≡ (clause_at db id).lits → In lit clause → AllFalseBut trues clause lit → IsReason db trues lit id
reason_of db trues lit id clause is same has others = record { clause = clause; named = named db id clause is same; has = has; others = others }

pub false_of : (db : List StoredClause) (es : List Entry) (id : ℕ) (clause : List ℤ) → IsId db id → clause ≡ (clause_at db id).lits → AllFalse (trues es) clause → IsFalseClause db es id
false_of db es id clause is same falses = record { clause = clause; named = named db id clause is same; is_false = falses }

pub conflict_of : (db : List StoredClause) (es : List Entry) (id : ℕ) (clause : List ℤ) → IsId db id → clause ≡ (clause_at db id).lits → AllFalse (trues es) clause → HasOpen es clause → IsConflict db es id
conflict_of db es id clause is same falses some = record { clause = clause; named = named db id clause is same; is_false = falses; some_open = some }

var_of-neg : (m : ℤ) → var_of (neg_ℤ m) ≡ var_of m
var_of-neg (pos zero) = refl
var_of-neg (pos (suc n)) = omega arith
var_of-neg (negsuc n) = omega arith

-- a value with a reason was not decided
pub not_decided : (es : List Entry) (l : ℤ) (reason : Option ℕ) → is_some reason ≡ true → ((e : Entry) → In e es → var_of e.lit ≡ var_of l → reason ≡ e.reason)
    → ¬ IsDecision es (neg_ℤ l)
not_decided es l reason some at d =
    let (e, i, is, none) = d in
    false≢true (sym (ap is_some (at e i (ap var_of is ∙ var_of-neg l) ∙ none)) ∙ some)
