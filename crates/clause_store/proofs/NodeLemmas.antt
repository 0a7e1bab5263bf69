-- Reading and writing a table by clause and place.
use Rattle.std.proofs.Common.{◌≡◌, ◌≢◌, ℕ, suc, zero, ◌+◌, ◌-◌, ◌*◌, ◌/◌, ◌%◌, ◌<◌, ◌≤◌, inl, inr, List, [], ◌∷◌, ◌++◌, length, refl, ap, ap₂, sym, ◌∙◌, arith, All, get_or, set, map, get_or-set_same, get_or-set_other}
use Rattle.std.proofs.lemmas.Bool.{cases_eq, true_from_ne_false}
use Rattle.std.specs.Prelude.{ℤ, pos, Option, Some, None, Bool, true, false, if◌then◌else◌, slice_index_or}
use Rattle.std.proofs.lemmas.List.{get_or-map, map-set, length-map, map_push}
use Rattle.std.proofs.Math.Seq.{map-set_same}
use Rattle.clause_store.specs.declared.store.ClauseRecord.{ClauseRecord}
use Rattle.std.specs.List.{AllByRecursion}
use Rattle.clause_store.specs.Inner.{IsWithin, watched_by}
use Rattle.clause_store.specs.Shapes.{is_watched}
use Rattle.clause_store.specs.Links.{literal_by}

half : (id p : ℕ) → p < 2 → (2 * id + p) / 2 ≡ id
half id p h = omega arith

rest : (id p : ℕ) → p < 2 → (2 * id + p) % 2 ≡ p
rest id p h = omega arith

-- the rows of the clauses stand behind that of id 0
pub behind : {X : Type 0} (none : X) (xs : List X) (id : ℕ) → 0 < id → get_or (none ∷ xs) id none ≡ get_or xs (id - 1) none
behind none xs zero h = absurd (omega (arith, h))
behind none xs (suc k) h = let e : suc k - 1 ≡ k = omega arith in rw e refl

read-at : {X : Type 0} (xs : List (List X)) (id p : ℕ) (d : X) → p < 2 → 0 < id → get_or (get_or ([] ∷ xs) ((2 * id + p) / 2) []) ((2 * id + p) % 2) d ≡ get_or (get_or xs (id - 1) []) p d
read-at xs id p d h k = rw (half id p h, rest id p h, behind [] xs id k) refl

module _ {X : Type 0} (f : ClauseRecord → List X) (records : List ClauseRecord) (y r : ClauseRecord) (id p : ℕ) (v d : X) (here : f y ≡ set (f r) p v) (two : p < 2) (from_one : 0 < id) (within : id ≤ length records) (is : r ≡ get_or records (id - 1) r) where
  place : id - 1 < length (map f records)
  place = omega (arith, within, from_one, length-map records f)

  moved : map f (set records (id - 1) y) ≡ set (map f records) (id - 1) (set (f r) p v)
  moved = map-set f records (id - 1) y ∙ ap (set (map f records) (id - 1)) here

  row_is : f r ≡ get_or (map f records) (id - 1) []
  row_is = ap f is ∙ sym (get_or-map f records (id - 1) r [] (omega (arith, within, from_one)))

  pub table-set_same : length (f r) ≡ 2 → get_or (get_or ([] ∷ map f (set records (id - 1) y)) ((2 * id + p) / 2) []) ((2 * id + p) % 2) d ≡ v
  table-set_same two_long =
      read-at (map f (set records (id - 1) y)) id p d two from_one
      ∙ ap (λ (t : List (List X)). get_or (get_or t (id - 1) []) p d) moved
      ∙ ap (λ (zs : List X). get_or zs p d) (get_or-set_same (map f records) (id - 1) (set (f r) p v) [] place)
      ∙ get_or-set_same (f r) p v d (omega (arith, two_long, two))

  pub table-set_other : (m : ℕ) → m ≢ 2 * id + p → get_or (get_or ([] ∷ map f (set records (id - 1) y)) (m / 2) []) (m % 2) d ≡ get_or (get_or ([] ∷ map f records) (m / 2) []) (m % 2) d
  table-set_other m ne = ap (λ (t : List (List X)). get_or (get_or ([] ∷ t) (m / 2) []) (m % 2) d) moved ∙ other
    where
      other : get_or (get_or ([] ∷ set (map f records) (id - 1) (set (f r) p v)) (m / 2) []) (m % 2) d ≡ get_or (get_or ([] ∷ map f records) (m / 2) []) (m % 2) d
      other = elim (cases_eq (m / 2) id) [
        | inl e ↦
            let np : m % 2 ≢ p = omega (arith, ne, e) in
            rw (e, behind [] (set (map f records) (id - 1) (set (f r) p v)) id from_one, behind [] (map f records) id from_one, get_or-set_same (map f records) (id - 1) (set (f r) p v) [] place, get_or-set_other (f r) p (m % 2) v d np)
            (ap (λ zs. get_or zs (m % 2) d) row_is)
        | inr ne_half ↦ elim (cases_eq (m / 2) 0) [
          | inl z ↦ rw z refl
          | inr some ↦
              let more : 0 < m / 2 = omega (arith, some) in
              let ni : m / 2 - 1 ≢ id - 1 = omega (arith, ne_half, more, from_one) in
              rw (behind [] (set (map f records) (id - 1) (set (f r) p v)) (m / 2) more, behind [] (map f records) (m / 2) more, get_or-set_other (map f records) (id - 1) (m / 2 - 1) (set (f r) p v) [] ni) refl
        ]
      ]

-- a table that does not show the change
pub map-kept : {B : Type 0} (f : ClauseRecord → B) (records : List ClauseRecord) (y r : ClauseRecord) (i : ℕ) → r ≡ get_or records i r → f y ≡ f r → map f (set records i y) ≡ map f records
map-kept f records y r i is e = map-set_same f records i y r (e ∙ ap f is)

any_default : {X : Type 0} (xs : List X) (i : ℕ) (d e : X) → i < length xs → get_or xs i d ≡ get_or xs i e
any_default [] i d e h = absurd (omega (arith, h))
any_default (x ∷ xs) zero d e h = refl
any_default (x ∷ xs) (suc i) d e h = any_default xs i d e (omega (arith, h))

pub table-read : {X : Type 0} (f : ClauseRecord → List X) (records : List ClauseRecord) (r : ClauseRecord) (id p : ℕ) (d e : X) → p < 2 → 0 < id → id ≤ length records → r ≡ get_or records (id - 1) r → length (f r) ≡ 2
    → get_or (get_or ([] ∷ map f records) ((2 * id + p) / 2) []) ((2 * id + p) % 2) d ≡ get_or (f r) p e
table-read f records r id p d e two from_one within is two_long =
    let i : id - 1 < length records = omega (arith, within, from_one) in
    let row : get_or (map f records) (id - 1) [] ≡ f r = get_or-map f records (id - 1) r [] i ∙ sym (ap f is) in
    read-at (map f records) id p d two from_one ∙ ap (λ ys. get_or ys p d) row ∙ any_default (f r) p d e (omega (arith, two_long, two))

-- a row as a whole
pub row-same : {X : Type 0} (f : ClauseRecord → X) (records : List ClauseRecord) (y : ClauseRecord) (id : ℕ) (d : X) → 0 < id → id ≤ length records → get_or (d ∷ map f (set records (id - 1) y)) id d ≡ f y
row-same f records y id d from_one within =
    let i : id - 1 < length (map f records) = omega (arith, within, from_one, length-map records f) in
    ap (λ (t : List _). get_or (d ∷ t) id d) (map-set f records (id - 1) y) ∙ behind d (set (map f records) (id - 1) (f y)) id from_one ∙ get_or-set_same (map f records) (id - 1) (f y) d i

pub row-other : {X : Type 0} (f : ClauseRecord → X) (records : List ClauseRecord) (y : ClauseRecord) (id i : ℕ) (d : X) → 0 < id → i ≢ id → get_or (d ∷ map f (set records (id - 1) y)) i d ≡ get_or (d ∷ map f records) i d
row-other f records y id i d from_one ne = ap (λ (t : List _). get_or (d ∷ t) i d) (map-set f records (id - 1) y) ∙ elim (cases_eq i 0) [
  | inl z ↦ rw z refl
  | inr some ↦
      let more : 0 < i = omega (arith, some) in
      let ni : i - 1 ≢ id - 1 = omega (arith, ne, more, from_one) in
      rw (behind d (set (map f records) (id - 1) (f y)) i more, behind d (map f records) i more, get_or-set_other (map f records) (id - 1) (i - 1) (f y) d ni) refl
]

-- what came at the end reads as nothing, where nothing was there
pub row-push : {X : Type 0} (xs : List X) (d : X) (i : ℕ) → get_or (xs ++ d ∷ []) i d ≡ get_or xs i d
row-push [] d zero = refl
row-push [] d (suc i) = refl
row-push (x ∷ xs) d zero = refl
row-push (x ∷ xs) d (suc i) = row-push xs d i

no_link : (p : ℕ) → get_or {A = ℕ} (0 ∷ 0 ∷ []) p 0 ≡ 0
no_link zero = refl
no_link (suc zero) = refl
no_link (suc (suc p)) = refl

pub links-push : (xs : List (List ℕ)) (i p : ℕ) → get_or (get_or (xs ++ (0 ∷ 0 ∷ []) ∷ []) i []) p 0 ≡ get_or (get_or xs i []) p 0
links-push [] zero p = no_link p
links-push [] (suc i) p = refl
links-push (x ∷ xs) zero p = refl
links-push (x ∷ xs) (suc i) p = links-push xs i p

-- all rows
pub watches-push : (rows : List ClauseRecord) (f : ClauseRecord → Option (ℤ × ℤ)) (y : ClauseRecord) → f y ≡ None → (id : ℕ) → get_or (None ∷ map f (rows ++ y ∷ [])) id None ≡ get_or (None ∷ map f rows) id None
watches-push rows f y none id = rw (map_push f rows y, none) (row-push (None ∷ map f rows) None id)

pub nexts-push : (rows : List ClauseRecord) (f : ClauseRecord → List ℕ) (y : ClauseRecord) → f y ≡ 0 ∷ 0 ∷ [] → (i p : ℕ) → get_or (get_or ([] ∷ map f (rows ++ y ∷ [])) i []) p 0 ≡ get_or (get_or ([] ∷ map f rows) i []) p 0
nexts-push rows f y none i p = rw (map_push f rows y, none) (links-push ([] ∷ map f rows) i p)

-- both places of a pair written anew
pub pair-set : (P : ℤ → Type 0) (xs : List ℤ) (a b : ℤ) → length xs ≡ 2 → P a → P b → All P (set (set xs 0 a) 1 b)
pair-set P [] a b e pa pb = λ k d h. absurd (omega (arith, e))
pair-set P (x ∷ []) a b e pa pb = λ k d h. absurd (omega (arith, e))
pair-set P (x ∷ y ∷ z ∷ zs) a b e pa pb = λ k d h. absurd (omega (arith, e))
pair-set P (x ∷ y ∷ []) a b e pa pb = at
  where
    at : (k : ℕ) (d : ℤ) → k < 2 → P (get_or (a ∷ b ∷ []) k d)
    at zero d h = pa
    at (suc zero) d h = pb
    at (suc (suc k)) d h = absurd (omega (arith, h))

-- a record stays within what grows
pub within-more : (vars count last more later : ℕ) (r : ClauseRecord) → count ≤ more → last ≤ later → IsWithin vars count last r → IsWithin vars more later r
within-more vars count last more later r le le' w = record {
  within = omega (arith, w.within, le);
  watched = w.watched;
  next = λ k d h. omega (arith, w.next k d h, le');
  two_watched = w.two_watched;
  two_next = w.two_next;
}

pub all-more : {X : Type 0} (P Q : X → Type 0) (xs : List X) → ((x : X) → P x → Q x) → All P xs → All Q xs
all-more P Q xs f all = λ k d h. f (get_or xs k d) (all k d h)

pub from_recursion : {X : Type 0} (P : X → Type 0) (xs : List X) → AllByRecursion P xs → All P xs
from_recursion P [] a = λ k d h. absurd (omega (arith, h))
from_recursion P (x ∷ xs) a = at (from_recursion P xs a.1)
  where
    at : All P xs → (k : ℕ) (d : _) → k < length (x ∷ xs) → P (get_or (x ∷ xs) k d)
    at rest zero d h = a.0
    at rest (suc k) d h = rest k d (omega (arith, h))

-- the watched literals of a record, or nothing
pair_if : ClauseRecord → Bool → Option (ℤ × ℤ)
pair_if r is = if is then Some (slice_index_or r.watched 0 (pos 0), slice_index_or r.watched 1 (pos 0)) else None

-- what a record watches that says that it does, and one that says that it does not
pub watched_if : (r : ClauseRecord) → is_watched r.shape ≡ true → watched_by r ≡ Some (slice_index_or r.watched 0 (pos 0), slice_index_or r.watched 1 (pos 0))
unfolding pair_if
watched_if r is = ap (pair_if r) is

pub unwatched_if : (r : ClauseRecord) → is_watched r.shape ≡ false → watched_by r ≡ None
unfolding pair_if
unwatched_if r is = ap (pair_if r) is

-- a record with the same flag watches the same
pub watched_same : (y r : ClauseRecord) → y.watched ≡ r.watched → is_watched y.shape ≡ is_watched r.shape → watched_by y ≡ watched_by r
watched_same y r lits flag = ap₂ (λ (ls : List ℤ) (is : Bool). if is then Some (slice_index_or ls 0 (pos 0), slice_index_or ls 1 (pos 0)) else None) lits flag

is_watched-from : (r : ClauseRecord) → watched_by r ≢ None → is_watched r.shape ≡ true
unfolding pair_if
is_watched-from r some = true_from_ne_false (is_watched r.shape) (λ e. some (ap (pair_if r) e))

literal-row : (r : ClauseRecord) (p : ℕ) (e : ℤ) → p < 2 → length r.watched ≡ 2 → is_watched r.shape ≡ true → literal_by (watched_by r) p ≡ get_or r.watched p e
unfolding pair_if
literal-row r p e two long is = ap (λ b. literal_by (pair_if r b) p) is ∙ by p two
  where
    by : (q : ℕ) → q < 2 → literal_by (Some (slice_index_or r.watched 0 (pos 0), slice_index_or r.watched 1 (pos 0))) q ≡ get_or r.watched q e
    by zero h = any_default r.watched 0 (pos 0) e (omega (arith, long))
    by (suc zero) h = any_default r.watched 1 (pos 0) e (omega (arith, long))
    by (suc (suc q)) h = absurd (omega (arith, h))

watched-row : (rows : List ClauseRecord) (r : ClauseRecord) (id : ℕ) → 0 < id → id ≤ length rows → r ≡ get_or rows (id - 1) r → get_or (None ∷ map watched_by rows) id None ≡ watched_by r
watched-row rows r id from_one within is =
    let i : id - 1 < length rows = omega (arith, within, from_one) in
    behind None (map watched_by rows) id from_one ∙ get_or-map watched_by rows (id - 1) r None i ∙ sym (ap watched_by is)

-- the record of a clause that watches something
pub is_watched-at : (rows : List ClauseRecord) (r : ClauseRecord) (id : ℕ) → 0 < id → id ≤ length rows → r ≡ get_or rows (id - 1) r → get_or (None ∷ map watched_by rows) id None ≢ None → is_watched r.shape ≡ true
is_watched-at rows r id from_one within is some = is_watched-from r (λ none. some (watched-row rows r id from_one within is ∙ none))

-- what a clause that is watched watches by a place
pub watch-read : (rows : List ClauseRecord) (r : ClauseRecord) (id p node : ℕ) (e : ℤ) → node ≡ 2 * id + p → p < 2 → 0 < id → id ≤ length rows → r ≡ get_or rows (id - 1) r → length r.watched ≡ 2
    → get_or (None ∷ map watched_by rows) id None ≢ None → literal_by (get_or (None ∷ map watched_by rows) (node / 2) None) (node % 2) ≡ get_or r.watched p e
watch-read rows r id p node e at two from_one within is long some =
    ap (λ (n : ℕ). literal_by (get_or (None ∷ map watched_by rows) (n / 2) None) (n % 2)) at
    ∙ ap (λ (n : ℕ). literal_by (get_or (None ∷ map watched_by rows) n None) ((2 * id + p) % 2)) (half id p two)
    ∙ ap (λ (n : ℕ). literal_by (get_or (None ∷ map watched_by rows) id None) n) (rest id p two)
    ∙ ap (λ w. literal_by w p) (watched-row rows r id from_one within is)
    ∙ literal-row r p e two long (is_watched-at rows r id from_one within is some)
