-- Which entries a journal can have, one behind another.
--
-- A record is in the journal where its set stands in an opening record of its kind, or in an entry that was answered Ok. Where
-- an append failed, nothing is written any more, since nobody knows what a crash would leave.
use Rattle.std.specs.Prelude.{◌≡◌, ℕ, ◌<◌, Bool, true, false, List, [], ◌∷◌, ◌++◌, map}
use Rattle.std.specs.List.{list_any, flat_map}
use Rattle.gm_base.specs.Problem.{Problem}
use Rattle.gm_base.specs.Explored.{Found}
use Rattle.gm_ports.specs.Faults.{Rose}
use Rattle.turn_lock.specs.Calls.{calls_by}
use Rattle.evidence_rec.specs.declared.record.Record.{Record}
use Rattle.evidence_rec.specs.Records.{founds, IsAcceptedAlone}
use Rattle.evidence_rec.specs.Held.{same_kind, same_set, and_also}
use Rattle.evidence_text.specs.Alone.{Written, written_of, IsTextOf}
use Rattle.gm_journal.specs.declared.entry.Appended.{Appended}
use Rattle.gm_journal.specs.declared.entry.Appended.TheVariants as appended
use Rattle.gm_journal.specs.Entries.{OpeningView, EntryView, who_of}

-- the lines, the kind and the set of a record that is accepted for the problem with none before it
pub record IsOfRecord (p : Problem) (w : Written) : Type 0 where
  pub found : Record
  pub written : w ≡ written_of found
  pub accepted : IsAcceptedAlone p found
  pub is_text : IsTextOf p found w.text

-- what an entry puts into the journal
abbrev pub kept_by : Appended → Written → List Written
kept_by appended.Ok w = w ∷ []
kept_by appended.Already w = []
kept_by appended.Closed w = []
kept_by (appended.Failed count) w = []
kept_by appended.Memory w = []

-- what was put into the journal, in order
abbrev pub kept_in : List EntryView → List Written
kept_in entries = flat_map (λ (e : EntryView). kept_by e.reply e.text) entries

-- what an entry appended, be it acknowledged or not
abbrev pub tried_by : Appended → Written → List Written
tried_by appended.Ok w = w ∷ []
tried_by appended.Already w = []
tried_by appended.Closed w = []
tried_by (appended.Failed count) w = w ∷ []
tried_by appended.Memory w = []

-- what was appended, in order: what was put into the journal, and then what failed
abbrev pub tried_in : List EntryView → List Written
tried_in entries = flat_map (λ (e : EntryView). tried_by e.reply e.text) entries

-- the disk's moment at the end of the last of these entries, and where there is none this one
abbrev pub last_moment : ℕ → List EntryView → ℕ
last_moment moment [] = moment
last_moment moment (e ∷ es) = last_moment e.moment es

-- the kinds and the sets that the journal has: the opening's, and then those that were put into it
abbrev pub founds_in : OpeningView → List EntryView → List Found
founds_in o before = founds o.records ++ map (λ (w : Written). w.found) (kept_in before)

-- some of these is of the same kind and set
abbrev pub is_among : List Found → Found → Bool
is_among among f = list_any (λ (g : Found). and_also (same_kind g.kind f.kind) (same_set g.set f.set)) among

abbrev pub is_failure : Appended → Bool
is_failure appended.Ok = false
is_failure appended.Already = false
is_failure appended.Closed = false
is_failure (appended.Failed count) = true
is_failure appended.Memory = false

-- an append failed
abbrev pub has_failed : List EntryView → Bool
has_failed entries = list_any (λ (e : EntryView). is_failure e.reply) entries

abbrev pub is_want : Appended → Bool
is_want appended.Ok = false
is_want appended.Already = false
is_want appended.Closed = false
is_want (appended.Failed count) = false
is_want appended.Memory = true

-- a seat of these entries has ended: memory was wanting
abbrev pub has_ended : List EntryView → Bool
has_ended mine = list_any (λ (e : EntryView). is_want e.reply) mine

-- the disk's count of faults after an answer, and after these entries
abbrev pub count_after : ℕ → Appended → ℕ
count_after n appended.Ok = n
count_after n appended.Already = n
count_after n appended.Closed = n
count_after n (appended.Failed count) = count
count_after n appended.Memory = n

abbrev pub count_in : ℕ → List EntryView → ℕ
count_in n [] = n
count_in n (e ∷ es) = count_in (count_after n e.reply) es

-- when each answer comes, by the entries before. That memory was wanting may be answered at any time
abbrev pub Answers : OpeningView → List EntryView → Written → Appended → Type 0
Answers o before w appended.Ok = (has_failed before ≡ false) × (is_among (founds_in o before) w.found ≡ false)
Answers o before w appended.Already = (has_failed before ≡ false) × (is_among (founds_in o before) w.found ≡ true)
Answers o before w appended.Closed = has_failed before ≡ true
Answers o before w (appended.Failed count) = (has_failed before ≡ false) × (is_among (founds_in o before) w.found ≡ false) × Rose o.faults count
Answers o before w appended.Memory = Unit {0}

-- an append that a seat of these entries may make
pub record MayAppend (o : OpeningView) (who : ℕ) (w : Written) (mine : List EntryView) : Type 0 where
  pub seat : who < o.seats
  pub going : has_ended mine ≡ false
  pub text : IsOfRecord o.problem w

-- an entry that may stand behind these
pub record MayStand (o : OpeningView) (before : List EntryView) (e : EntryView) : Type 0 where
  pub may : MayAppend o e.who e.text (calls_by who_of e.who before)
  pub answers : Answers o before e.text e.reply

abbrev pub MayStandAll : OpeningView → List EntryView → List EntryView → Type 0
MayStandAll o before [] = Unit {0}
MayStandAll o before (e ∷ es) = MayStand o before e × MayStandAll o (before ++ e ∷ []) es

-- the histories of a journal
abbrev pub IsLegal : OpeningView → List EntryView → Type 0
IsLegal o entries = MayStandAll o [] entries

-- the entry has the text and the answer, and the answer is the one that a journal with the entries before gives
pub record Tells (o : OpeningView) (before : List EntryView) (w : Written) (reply : Appended) (e : EntryView) : Type 0 where
  pub text_is : e.text ≡ w
  pub reply_is : e.reply ≡ reply
  pub answers : Answers o before w reply

-- an answer for which the disk was not asked
abbrev pub IsUnasked : Appended → Type 0
IsUnasked appended.Ok = ⊥
IsUnasked appended.Already = Unit {0}
IsUnasked appended.Closed = Unit {0}
IsUnasked (appended.Failed count) = ⊥
IsUnasked appended.Memory = Unit {0}

-- what an answer says of the disk's counts of faults: a failure's rose and is the one that is answered, any other leaves it
abbrev pub AppendHasCause : ℕ → ℕ → Appended → Type 0
AppendHasCause before now appended.Ok = now ≡ before
AppendHasCause before now appended.Already = now ≡ before
AppendHasCause before now appended.Closed = now ≡ before
AppendHasCause before now (appended.Failed count) = Rose before now × (count ≡ now)
AppendHasCause before now appended.Memory = now ≡ before
