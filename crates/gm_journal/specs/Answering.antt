-- What one append does to the parts of a journal.
use Rattle.std.specs.Prelude.{◌≡◌, ℕ, ◌^◌, ◌<◌, Bool, true, false, List, [], ◌∷◌, length}
use Rattle.gm_base.specs.Explored.{Found}
use Rattle.disk_frames.specs.Frames.{HoldsTexts, HoldsWithOrWithout}
use Rattle.evidence_rec.specs.declared.held.Held.{Held}
use Rattle.evidence_rec.specs.Index.{holds, Gains, IsSameHeld}
use Rattle.gm_journal.specs.declared.entry.Appended.{Appended}
use Rattle.gm_journal.specs.declared.entry.Appended.TheVariants as appended

-- when each answer comes, by the sets that are held and whether the journal is closed
abbrev pub AnswersBy : Held → Bool → Found → Appended → Type 0
AnswersBy held closed f appended.Ok = (closed ≡ false) × (holds held f.kind f.set ≡ false)
AnswersBy held closed f appended.Already = (closed ≡ false) × (holds held f.kind f.set ≡ true)
AnswersBy held closed f appended.Closed = closed ≡ true
AnswersBy held closed f (appended.Failed count) = (closed ≡ false) × (holds held f.kind f.set ≡ false)
AnswersBy held closed f appended.Memory = closed ≡ false

-- the sets that are held then, until an append failed
abbrev pub IsHeldAfter : Found → Appended → Held → Held → Type 0
IsHeldAfter f appended.Ok old new = Gains f.kind f.set old new
IsHeldAfter f appended.Already old new = IsSameHeld old new
IsHeldAfter f appended.Closed old new = IsSameHeld old new
IsHeldAfter f (appended.Failed count) old new = Unit {0}
IsHeldAfter f appended.Memory old new = IsSameHeld old new

-- whether it is closed then
abbrev pub closed_after : Bool → Appended → Bool
closed_after closed appended.Ok = closed
closed_after closed appended.Already = closed
closed_after closed appended.Closed = closed
closed_after closed (appended.Failed count) = true
closed_after closed appended.Memory = closed

-- the texts that it puts onto the disk
abbrev pub texts_by : Appended → List ℕ → List (List ℕ)
texts_by appended.Ok text = text ∷ []
texts_by appended.Already text = []
texts_by appended.Closed text = []
texts_by (appended.Failed count) text = []
texts_by appended.Memory text = []

-- what a crash may leave at any moment of it, where these texts were on the disk
abbrev pub MayLeave : Appended → List (List ℕ) → List ℕ → List ℕ → Type 0
MayLeave appended.Ok texts text bytes = HoldsWithOrWithout texts text bytes
MayLeave appended.Already texts text bytes = HoldsTexts texts bytes
MayLeave appended.Closed texts text bytes = HoldsTexts texts bytes
MayLeave (appended.Failed count) texts text bytes = HoldsWithOrWithout texts text bytes
MayLeave appended.Memory texts text bytes = HoldsTexts texts bytes

-- a text that may stand on the disk has a length that 8 bytes can say
abbrev pub IsSmallText : List ℕ → Appended → Type 0
IsSmallText text appended.Ok = length text < 2 ^ 64
IsSmallText text appended.Already = Unit {0}
IsSmallText text appended.Closed = Unit {0}
IsSmallText text (appended.Failed count) = length text < 2 ^ 64
IsSmallText text appended.Memory = Unit {0}
