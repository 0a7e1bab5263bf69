-- The chain that a seed makes: link by link, how many groups it has, and that its clauses are over its variables and groups.
use Rattle.std.proofs.Common.{◌≡◌, ◌≢◌, ℕ, zero, suc, ◌+◌, ◌-◌, ◌*◌, ◌%◌, ◌<◌, ◌≤◌, Bool, true, false, ◌&&◌, cond, eqb, List, [], ◌∷◌, ◌++◌, length, refl, sym, ◌∙◌, ap, subst, arith, ℤ, pos, append_assoc}
use Rattle.std.specs.Prelude.{neg_ℤ, nat_lt, replicate}
use Rattle.std.specs.List.{AllByRecursion}
use Rattle.std.proofs.lemmas.Bool.{and_parts, eqb-false, ltb-true}
use Rattle.std.proofs.lemmas.List.{length-append}
use Rattle.gm_base.specs.Problem.{IsClause, IsProblem}
use Rattle.sat_base.specs.Literals.{AreLiterals, IsLiteral}
use Rattle.gcnf_text.specs.Chain.{chain, chain_widths, clauses_from, core, core_or, group_clauses, links_from, most_wide, next_state, signed_clauses, states, widths}

-- ---- link by link

-- the groups of a link come behind those so far
pub links-further : (out whole : List ℕ) (link left n room less width a b : ℕ) → b ≡ next_state a
    → ((later : List ℕ) → widths room (b ∷ later) ≡ width ∷ widths less later) → left ≡ suc n
    → out ++ links_from link (widths room (states left a)) ≡ whole
    → (out ++ replicate width link) ++ links_from (link + 1) (widths less (states n b)) ≡ whole
links-further out whole link left n room less width a b is step count so_far =
    append_assoc out (replicate width link) (links_from (link + 1) (widths less (states n b)))
    ∙ ap (λ (ws : List ℕ). out ++ links_from link ws) (sym (step (states n b)))
    ∙ ap (λ (c : ℕ). out ++ links_from link (widths room (c ∷ states n c))) is
    ∙ ap (λ (m : ℕ). out ++ links_from link (widths room (states m a))) (sym count)
    ∙ so_far

-- ---- how many groups

length-states : (n a : ℕ) → length (states n a) ≡ n
length-states zero a = refl
length-states (suc n) a = omega (arith, length-states n (next_state a))

length-widths : (room : ℕ) (xs : List ℕ) → length (widths room xs) ≡ length xs
length-widths room [] = refl
length-widths room (a ∷ later) = by (eqb (a % 3) 0 && nat_lt 0 room) (length-widths (room - 1) later) (length-widths room later)
  where
    by : (wide : Bool) → length (widths (room - 1) later) ≡ length later → length (widths room later) ≡ length later
        → length (cond wide (2 ∷ widths (room - 1) later) (1 ∷ widths room later)) ≡ length (a ∷ later)
    by true less same = omega (arith, less)
    by false less same = omega (arith, same)

-- one for each link, and one more for each that is wide
length-links : (first room : ℕ) (xs : List ℕ) → length (links_from first (widths room xs)) ≤ length xs + room
length-links first room [] = omega arith
length-links first room (a ∷ later) =
    by (eqb (a % 3) 0 && nat_lt 0 room) refl (length-links (first + 1) (room - 1) later) (length-links (first + 1) room later)
  where
    by : (wide : Bool) → (eqb (a % 3) 0 && nat_lt 0 room) ≡ wide
        → length (links_from (first + 1) (widths (room - 1) later)) ≤ length later + (room - 1)
        → length (links_from (first + 1) (widths room later)) ≤ length later + room
        → length (links_from first (cond wide (2 ∷ widths (room - 1) later) (1 ∷ widths room later))) ≤ length (a ∷ later) + room
    by true wide less same =
        let some : 0 < room = ltb-true 0 room (and_parts (eqb (a % 3) 0) (nat_lt 0 room) wide).1 in omega (arith, some, less)
    by false narrow less same = omega (arith, same)

length-chain : (seed size : ℕ) → length (links_from 0 (chain_widths seed size)) ≤ size + 9
length-chain seed size = omega (arith, length-links 0 most_wide (states (size + 1) (seed % 65_537)), length-states (size + 1) (seed % 65_537))

-- those so far are no more than all
pub few-links : (out behind : List ℕ) (seed size : ℕ) → out ++ behind ≡ links_from 0 (chain_widths seed size) → length out ≤ size + 9
few-links out behind seed size all = omega (arith, length-append out behind, ap length all, length-chain seed size)

-- ---- the links are those of the chain

all-append : {X : Type 0} (P : X → Type 0) (xs ys : List X) → AllByRecursion P xs → AllByRecursion P ys → AllByRecursion P (xs ++ ys)
all-append P [] ys all more = more
all-append P (x ∷ xs) ys all more = (all.0, all-append P xs ys all.1 more)

all-front : {X : Type 0} (P : X → Type 0) (xs ys : List X) → AllByRecursion P (xs ++ ys) → AllByRecursion P xs
all-front P [] ys all = tt
all-front P (x ∷ xs) ys all = (all.0, all-front P xs ys all.1)

all-replicate : {X : Type 0} (P : X → Type 0) (n : ℕ) (x : X) → P x → AllByRecursion P (replicate n x)
all-replicate P zero x is = tt
all-replicate P (suc n) x is = (is, all-replicate P n x is)

links-in_range : (size first : ℕ) (ws : List ℕ) → first + length ws ≤ size + 1 → AllByRecursion (λ link. link ≤ size) (links_from first ws)
links-in_range size first [] few = tt
links-in_range size first (w ∷ ws) few =
    all-append (λ link. link ≤ size) (replicate w first) (links_from (first + 1) ws)
    (all-replicate (λ link. link ≤ size) w first (omega arith)) (links-in_range size (first + 1) ws (omega arith))

pub links-of_chain : (out behind : List ℕ) (seed size : ℕ) → out ++ behind ≡ links_from 0 (chain_widths seed size)
    → AllByRecursion (λ link. link ≤ size) out
links-of_chain out behind seed size all =
    let a : ℕ = seed % 65_537 in
    let count = length-states (size + 1) a in
    let few : 0 + length (chain_widths seed size) ≤ size + 1 = omega (arith, length-widths most_wide (states (size + 1) a), count) in
    all-front (λ link. link ≤ size) out behind
    (subst (λ (ls : List ℕ). AllByRecursion (λ link. link ≤ size) ls) (sym all) (links-in_range size 0 (chain_widths seed size) few))

-- ---- the clauses are over the chain's variables and groups

is-pos : (vars v : ℕ) → 0 < v → v ≤ vars → IsLiteral vars (pos v)
is-pos vars v some high = record { not_zero = some; in_range = high }

is-neg : (vars v : ℕ) → 0 < v → v ≤ vars → IsLiteral vars (neg_ℤ (pos v))
is-neg vars zero some high = absurd (omega arith)
is-neg vars (suc v) some high = record { not_zero = some; in_range = high }

core-fits : (size vars link : ℕ) → size ≤ vars → link ≤ size → AreLiterals vars (core size link)
core-fits size vars link room is =
    all-append (IsLiteral vars) (cond (eqb link 0) [] (neg_ℤ (pos link) ∷ [])) (cond (eqb link size) [] (pos (link + 1) ∷ []))
    (first (eqb link 0) refl) (second (eqb link size) refl)
  where
    first : (none : Bool) → eqb link 0 ≡ none → AreLiterals vars (cond none [] (neg_ℤ (pos link) ∷ []))
    first true none = tt
    first false some = let other : link ≢ 0 = eqb-false link 0 some in (is-neg vars link (omega (arith, other)) (omega arith), tt)

    second : (last : Bool) → eqb link size ≡ last → AreLiterals vars (cond last [] (pos (link + 1) ∷ []))
    second true last = tt
    second false inner = let other : link ≢ size = eqb-false link size inner in (is-pos vars (link + 1) (omega arith) (omega (arith, other)), tt)

core_or-fits : (vars groups g : ℕ) (lits : List ℤ) (p q : ℤ) → g ≤ groups → AreLiterals vars lits → IsLiteral vars p → IsLiteral vars q
    → IsClause vars groups (core_or g lits p q)
core_or-fits vars groups g lits p q few are p_is q_is =
    record { group = few; lits = all-append (IsLiteral vars) lits (p ∷ q ∷ []) are (p_is, (q_is, tt)) }

signed-fit : (vars groups g : ℕ) (lits : List ℤ) (p q : ℕ) → g ≤ groups → AreLiterals vars lits → 0 < p → p ≤ vars → 0 < q → q ≤ vars
    → AllByRecursion (IsClause vars groups) (signed_clauses g lits p q)
signed-fit vars groups g lits p q few are p_some p_high q_some q_high =
    let p_pos = is-pos vars p p_some p_high in
    let p_neg = is-neg vars p p_some p_high in
    let q_pos = is-pos vars q q_some q_high in
    let q_neg = is-neg vars q q_some q_high in (
      core_or-fits vars groups g lits (pos p) (pos q) few are p_pos q_pos,
      (
        core_or-fits vars groups g lits (pos p) (neg_ℤ (pos q)) few are p_pos q_neg,
        (
          core_or-fits vars groups g lits (neg_ℤ (pos p)) (pos q) few are p_neg q_pos,
          (core_or-fits vars groups g lits (neg_ℤ (pos p)) (neg_ℤ (pos q)) few are p_neg q_neg, tt),
        ),
      ),
    )

clauses-fit : (size groups first : ℕ) (links : List ℕ) → 1 ≤ first → first + length links ≤ groups + 1
    → AllByRecursion (λ link. link ≤ size) links → AllByRecursion (IsClause (size + 2 * groups) groups) (clauses_from size first links)
clauses-fit size groups first [] some few in_range = tt
clauses-fit size groups first (i ∷ is) some few in_range =
    let vars : ℕ = size + 2 * groups in
    all-append (IsClause vars groups) (group_clauses size first i) (clauses_from size (first + 1) is)
    (signed-fit vars groups first (core size i) (size + 2 * first - 1) (size + 2 * first) (omega arith) (core-fits size vars i (omega arith) in_range.0)
    (omega arith) (omega arith) (omega arith) (omega arith))
    (clauses-fit size groups (first + 1) is (omega arith) (omega arith) in_range.1)

pub chain-is_problem : (size : ℕ) (links : List ℕ) → AllByRecursion (λ link. link ≤ size) links → IsProblem (chain size links)
chain-is_problem size links in_range = clauses-fit size (length links) 1 links (omega arith) (omega arith) in_range
