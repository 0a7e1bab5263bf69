-- The walk that looks for redundant literals.
use Rattle.std.specs.Prelude.{◌≡◌, ◌+◌, ◌<◌, List, ◌∷◌, length, Some}
use Rattle.trail_book.specs.declared.entry.Entry.{Entry}
use Rattle.trail_book.specs.Trail.{oldest}
use Rattle.learn_step.specs.Places.{hint_of}
use Rattle.learn_step.specs.declared.redundancy.Stop.{Stop}
use Rattle.learn_step.specs.declared.redundancy.Look.{Look}
use Rattle.learn_step.specs.declared.redundancy.Look.TheVariants as look

-- a place of the trail, and what names the clause that forced the value there
pub record IsStop (es : List Entry) (stop : Stop) : Type 0 where
  pub within : stop.place < length es
  pub forced : (e : Entry) → oldest (stop.place + 1) es ≡ e ∷ oldest stop.place es → hint_of e ≡ Some stop.id

-- where a walk goes on, it does so from places whose values were forced
abbrev pub Continues : List Entry → Look → Type 0
Continues es (look.Deeper seen next) = IsStop es seen × IsStop es next
Continues es look.Redundant = Unit {0}
Continues es look.Needed = Unit {0}
