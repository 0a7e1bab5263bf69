-- The core's calls as operations of a book.
use Rattle.std.specs.Prelude.{◌≡◌, ℕ, List}
use Rattle.gm_base.specs.Sets.{IsSubset, all_groups}
use Rattle.gm_base.specs.Problem.{Problem}
use Rattle.evidence_rec.specs.Records.{kind_of, set_of, IsAcceptedAlone}
use Rattle.map_core.specs.declared.entry.Call.{Call}
use Rattle.map_core.specs.declared.entry.Call.TheVariants as call
use Rattle.map_core.specs.declared.entry.Reply.{Reply}
use Rattle.map_core.specs.declared.entry.Reply.TheVariants as reply
use Rattle.map_core.specs.declared.entry.Entry.{Entry}
use Rattle.map_core.specs.declared.entry.Opening.{Opening}
use Rattle.map_core.specs.Own.{CanCall}
use Rattle.map_core.specs.Replies.{take_reply, refill_reply, post_reply}
use Rattle.board.specs.declared.book.Op.{Op}
use Rattle.board.specs.declared.book.Op.TheVariants as op
use Rattle.board.specs.declared.book.Answer.{Answer}
use Rattle.board.specs.declared.book.Answer.TheVariants as answer

-- what was used of the purse before the call
abbrev pub used_of : Op → ℕ
used_of (op.Take used) = used
used_of (op.Refill used asked) = used
used_of (op.Post used finding) = used
used_of (op.Retire used why) = used

-- what the core asks of the arguments
abbrev pub AreArguments : Problem → Op → Type 0
AreArguments p (op.Take used) = Unit {0}
AreArguments p (op.Refill used asked) = IsSubset asked (all_groups p.groups)
AreArguments p (op.Post used finding) = IsAcceptedAlone p finding
AreArguments p (op.Retire used why) = Unit {0}

-- the worker may make the call: by the opening, its number, and its own entries
abbrev pub MayApply : Opening → ℕ → Op → List Entry → Type 0
MayApply o who operation mine = CanCall o who (used_of operation) mine × AreArguments o.problem operation

-- the entry is of this call, with what was used and the reply
pub record IsEntryOf (call : Call) (used : ℕ) (reply : Reply) (e : Entry) : Type 0 where
  pub call_is : e.call ≡ call
  pub used_is : e.used ≡ used
  pub reply_is : e.reply ≡ reply

-- the answer is one of the operation's call, and the entry keeps both
abbrev pub Tells : Op → Answer → Entry → Type 0
Tells (op.Take used) (answer.Taken told) e = IsEntryOf call.Take used (take_reply told) e
Tells (op.Refill used asked) (answer.Refilled told) e = IsEntryOf (call.Refill asked) used (refill_reply told) e
Tells (op.Post used finding) (answer.Posted told) e = IsEntryOf (call.Post (kind_of finding) (set_of finding) finding) used (post_reply told) e
Tells (op.Retire used why) answer.Retired e = IsEntryOf (call.Retire why) used reply.Retired e
Tells _ _ e = ⊥
