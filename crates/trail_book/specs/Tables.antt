-- How the tables of a trail are seen, and what is always true of them.
use Rattle.std.specs.Prelude.{◌≡◌, ◌≤◌, ◌<◌, ◌+◌, ◌-◌, ◌^◌, ◌↔◌, ℕ, ℤ, Bool, true, false, List, [], ◌∷◌, length, reverse, vec_capacity, pos, slice_index_or, slice_set}
use Rattle.sat_base.specs.Literals.{var_of}
use Rattle.trail_book.specs.declared.trail.Trail.TheInside.{Inside}
use Rattle.trail_book.specs.declared.order.Ranking.TheInside as ranking
use Rattle.trail_book.specs.declared.value.Value.{Value}
use Rattle.trail_book.specs.declared.value.Value.TheVariants.{Unset}
use Rattle.trail_book.specs.Trail.{Trail, trues, IsTrail}
use Rattle.trail_book.specs.Slots.{entries_of, AreKept}
use Rattle.trail_book.specs.Values.{AreValues}
use Rattle.trail_book.specs.Order.{Ranking, rank}
use Rattle.lit_words.specs.Words.{AreWordsOf}
use Rattle.trail_book.specs.Heap.{Heap, IsHeap, Holds, Admits}

-- what callers see of a ranking
abbrev pub ranking_of : ranking.Inside → Ranking
ranking_of inside = record { activities = inside.activities.items; increment = inside.increment; start = inside.start }

pub record IsRanking (inside : ranking.Inside) : Type 0 where
  pub small : length inside.activities.items < 2 ^ 31
  pub start : inside.start ≤ length inside.activities.items

-- the heap may hold the touched variables, and no others
abbrev pub AreAdmitted : List Bool → Heap → Type 0
AreAdmitted touched heap = (index : ℕ) → Admits heap index ↔ (slice_index_or touched index false ≡ true)

-- each touched variable that has no value waits in the heap
abbrev pub AreWaiting : List Value → List Bool → Heap → Type 0
AreWaiting values touched heap =
    (index : ℕ) → slice_index_or touched index false ≡ true → slice_index_or values index Unset ≡ Unset → Holds heap index

-- the literal of each variable is one of it
abbrev pub AreOfVars : ℕ → List ℤ → Type 0
AreOfVars vars lits = (index : ℕ) → index < vars → var_of (slice_index_or lits index (pos 0)) ≡ index + 1

-- the literals of variables, where each of these takes its variable's place
abbrev pub holding : List ℤ → List ℤ → List ℤ
holding held [] = held
holding held (lit ∷ lits) = slice_set (holding held lits) (var_of lit - 1) lit

-- what callers see of the tables: what is true counts as held, and is noted as held when it is taken back
abbrev pub trail_of : Inside → Trail
trail_of inside = record {
  vars = inside.vars;
  entries = entries_of (reverse inside.slots.items);
  done = inside.done;
  ranking = inside.ranking;
  held = holding inside.held.items (trues (entries_of (reverse inside.slots.items)));
  touched = inside.touched.items;
}

-- the tables are those of a trail: slots, values and places agree, there is room, and decisions find the first in their order
pub record AreTables (inside : Inside) : Type 0 where
  pub trail : IsTrail inside.vars (entries_of (reverse inside.slots.items))
  pub slots : AreKept inside.places.items (reverse inside.slots.items)
  pub values : AreValues inside.vars inside.values.items (trues (entries_of (reverse inside.slots.items)))
  pub one_value_each : length inside.values.items ≡ inside.vars
  pub one_place_each : length inside.places.items ≡ inside.vars
  pub one_held_each : length inside.held.items ≡ inside.vars
  pub one_touched_each : length inside.touched.items ≡ inside.vars
  pub small : inside.vars < 2 ^ 31
  pub room : inside.vars ≤ vec_capacity inside.slots
  pub of_vars : AreOfVars inside.vars inside.held.items
  pub ranked : length inside.ranking.activities ≡ inside.vars
  pub sized : length inside.heap.items ≡ inside.vars
  pub heap : IsHeap (rank inside.ranking) inside.heap
  pub words : inside.vars ≤ 64 → AreWordsOf inside.words (trues (entries_of (reverse inside.slots.items)))
  pub admitted : AreAdmitted inside.touched.items inside.heap
  pub waiting : AreWaiting inside.values.items inside.touched.items inside.heap
