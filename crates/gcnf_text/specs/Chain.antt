-- The problem that a number makes: a chain of links that clash together, whose minimal sets are known beforehand.
--
-- The links of a chain are numbered from 0 to its size. The first says that variable 1 is true, link i that variable i implies
-- variable i + 1, and the last that the variable of its number is false. So all links clash, and without any one of them they
-- don't. A link is said by one group or, over again, by two. So a conflict takes one group of each link, and a correction all
-- groups of one link: where w links have two groups, there are 2 to the power of w conflicts, and as many corrections as links.
--
-- Which links have two is said by a linear congruential generator, the one of the Sinclair ZX81: a goes on to 75 a + 74 modulo
-- 65,537.
use Rattle.std.specs.Prelude.{ℕ, zero, suc, ◌+◌, ◌-◌, ◌*◌, ◌%◌, ◌==◌, ◌&&◌, List, [], ◌∷◌, ◌++◌, length, replicate, ℤ, pos, neg_ℤ, nat_lt, if◌then◌else◌}
use Rattle.std.specs.List.{flat_map, enumerate_from}
use Rattle.gm_base.specs.declared.clause.Clause.{Clause}
use Rattle.gm_base.specs.Problem.{Problem}

-- ---- the generator

abbrev pub modulus : ℕ
modulus = 65_537

-- the state behind a state
abbrev pub next_state : ℕ → ℕ
next_state a = (75 * a + 74) % modulus

-- so many states behind this one
abbrev pub states : ℕ → ℕ → List ℕ
states zero a = []
states (suc n) a = next_state a ∷ states n (next_state a)

-- ---- the links

-- how many links may have two groups
abbrev pub most_wide : ℕ
most_wide = 8

-- the widths of links with these states, of which so many may still be wide: 2 where the state is divisible by 3, and else 1
abbrev pub widths : ℕ → List ℕ → List ℕ
widths room [] = []
widths room (a ∷ later) = if (a % 3 == 0) && nat_lt 0 room then 2 ∷ widths (room - 1) later else 1 ∷ widths room later

-- the widths of all links: the first has the state behind that of the seed
abbrev pub chain_widths : ℕ → ℕ → List ℕ
chain_widths seed size = widths most_wide (states (size + 1) (seed % modulus))

-- the link of each group, in the order of groups, where the links are numbered from here on: a link has as many as it is wide
abbrev pub links_from : ℕ → List ℕ → List ℕ
links_from first ws = flat_map (λ (l : ℕ × ℕ). replicate l.1 l.0) (enumerate_from first ws)

-- ---- the clauses

-- what a link says: the variable of its number is false, or the next one is true; the first and the last link lack one of these
abbrev pub core : ℕ → ℕ → List ℤ
core size link = (if link == 0 then [] else neg_ℤ (pos link) ∷ []) ++ (if link == size then [] else pos (link + 1) ∷ [])

-- a clause that says so, or that one of two further literals is true
abbrev pub core_or : ℕ → List ℤ → ℤ → ℤ → Clause
core_or group lits p q = record { group = group; lits = lits ++ p ∷ q ∷ [] }

-- with both signs of two variables there are four, which say together what the core says
abbrev pub signed_clauses : ℕ → List ℤ → ℕ → ℕ → List Clause
signed_clauses group lits p q =
    core_or group lits (pos p) (pos q) ∷ core_or group lits (pos p) (neg_ℤ (pos q))
    ∷ core_or group lits (neg_ℤ (pos p)) (pos q) ∷ core_or group lits (neg_ℤ (pos p)) (neg_ℤ (pos q)) ∷ []

-- the clauses of a group, whose two variables are its own
abbrev pub group_clauses : ℕ → ℕ → ℕ → List Clause
group_clauses size group link = signed_clauses group (core size link) (size + 2 * group - 1) (size + 2 * group)

-- the clauses of groups with these links, which are numbered from here on
abbrev pub clauses_from : ℕ → ℕ → List ℕ → List Clause
clauses_from size first links = flat_map (λ (g : ℕ × ℕ). group_clauses size g.0 g.1) (enumerate_from first links)

-- ---- the problem

-- a chain of this size whose groups have these links
abbrev pub chain : ℕ → List ℕ → Problem
chain size links = record { vars = size + 2 * length links; groups = length links; clauses = clauses_from size 1 links }

-- the problem that a seed makes
abbrev pub made_case : ℕ → ℕ → Problem
made_case seed size = chain size (links_from 0 (chain_widths seed size))
