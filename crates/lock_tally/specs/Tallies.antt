-- A tally: what was added, and what each call replied.
use Rattle.std.specs.Prelude.{◌≡◌, ℕ, ◌+◌, ◌*◌, ◌<◌, ◌≤◌, List, [], ◌∷◌, length, sum_by, All}
use Rattle.turn_lock.specs.Calls.{calls_by}
use Rattle.lock_tally.specs.declared.tally.Added.{Added}

-- how many seats it is for, and its entries, oldest first
pub record TallyView : Type 0 where
  pub seats : ℕ
  pub entries : List Added

-- the seat that added it
abbrev pub who_of : Added → ℕ
who_of e = e.who

-- how much it added
abbrev pub amount_of : Added → ℕ
amount_of e = e.amount

-- what the seat was told
abbrev pub reply_of : Added → ℕ
reply_of e = e.reply

-- all that was added
abbrev pub added_sum : List Added → ℕ
added_sum entries = sum_by amount_of entries

-- each entry's reply is the sum so far, its own amount included, where the sum was `total` before the first
abbrev pub SumsUp : ℕ → List Added → Type 0
SumsUp total [] = Unit {0}
SumsUp total (e ∷ es) = (e.reply ≡ total + e.amount) × SumsUp e.reply es

-- the histories of a tally for so many seats: the replies sum up, each entry is a seat's, and no seat has more than 100
pub record IsLegal (seats : ℕ) (entries : List Added) : Type 0 where
  pub sums_up : SumsUp 0 entries
  pub named : All (λ (e : Added). e.who < seats) entries
  pub room : (k : ℕ) → length (calls_by who_of k entries) ≤ 100

-- the caller is a seat that made fewer than 100 entries
abbrev pub may_add : ℕ → ℕ → ℕ → List Added → Type 0
may_add seats who op mine = (who < seats) × (length mine < 100)

-- the reply is the sum with the amount, and the entry says both
abbrev pub adds : List Added → ℕ → ℕ → Added → Type 0
adds before op reply e = (reply ≡ added_sum before + op) × (e.reply ≡ reply) × (e.amount ≡ op)

-- a number is the sum of the entries, of which each is small
pub record IsSumOf (sum : ℕ) (entries : List Added) : Type 0 where
  pub is : sum ≡ added_sum entries
  pub small : added_sum entries ≤ 65535 * length entries
