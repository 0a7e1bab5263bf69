-- What the calls of a disk in memory do to what it tells.
use Rattle.std.proofs.Common.{◌≡◌, ◌⊎◌, inl, inr, ⊎_elim, ℕ, suc, ◌+◌, ◌≤◌, ◌<◌, Bool, true, false, nat_lt, if◌then◌else◌, List, [], ◌∷◌, ◌++◌, length, take, drop, Some, refl, sym, ◌∙◌, ap, subst, arith, length-append, length-drop}
use Rattle.std.specs.Prelude.{Result, Ok, Err, OnErr}
use Rattle.std.proofs.lemmas.List.{take_all, take-append-le, drop-append-le, append-nil, length_push}
use Rattle.std.proofs.lemmas.Bool.{cases_lt}
use Rattle.std.proofs.lemmas.Bool.Decides.{nat_tests}
use Rattle.gm_ports.specs.DiskState.{IsUnopened, Looks, Writes, Only, Torn, written}
use Rattle.gm_ports.specs.MemDisk.{Change, Wrote, Synced, Nothing, text_after, MayLeave, MemDiskState, disk_state, IsInStep, moved, bytes_of, sizes, changes_of, with_call, with_fault, after_fault, after_look, after_write, after_sync}
use Rattle.gm_ports.specs.Schedule.{ScheduleState}
use Rattle.gm_ports.specs.Schedule as schedule
use Rattle.gm_ports.specs.declared.disk_call.DiskCall.{DiskCall}
use Rattle.gm_ports.specs.declared.disk_call.DiskCall.TheVariants as kept
use Rattle.gm_ports.specs.MemDiskLaws.{text_after-push, outcomes_after-push, Elapses-none, Elapses-call, lawful, length-written}

-- ---- kept calls

pub length-changes_of : (calls : List DiskCall) (pieces : List ℕ) → length (changes_of calls pieces) ≡ length calls
length-changes_of [] pieces = refl
length-changes_of (kept.Looked ∷ calls) pieces = ap suc (length-changes_of calls pieces)
length-changes_of (kept.Wrote at size ∷ calls) pieces = ap suc (length-changes_of calls (drop size pieces))
length-changes_of (kept.Synced ∷ calls) pieces = ap suc (length-changes_of calls pieces)
length-changes_of (kept.Failed ∷ calls) pieces = ap suc (length-changes_of calls pieces)

-- one call more, and the bytes that it took
pub changes_of-push : (calls : List DiskCall) (call : DiskCall) (pieces piece : List ℕ) → sizes calls ≡ length pieces
    → changes_of (calls ++ call ∷ []) (pieces ++ piece) ≡ changes_of calls pieces ++ changes_of (call ∷ []) piece
changes_of-push [] call [] piece parted = refl
changes_of-push [] call (p ∷ pieces) piece parted = absurd (omega arith)
changes_of-push (kept.Looked ∷ calls) call pieces piece parted = ap (λ (l : List Change). Nothing ∷ l) (changes_of-push calls call pieces piece (omega arith))
changes_of-push (kept.Wrote at size ∷ calls) call pieces piece parted =
    let fits : size ≤ length pieces = omega arith in
    (λ i. Wrote at (take-append-le size pieces piece fits i) ∷ changes_of (calls ++ call ∷ []) (drop-append-le size pieces piece fits i))
    ∙ ap (λ (l : List Change). Wrote at (take size pieces) ∷ l) (changes_of-push calls call (drop size pieces) piece (omega (arith, length-drop size pieces)))
changes_of-push (kept.Synced ∷ calls) call pieces piece parted = ap (λ (l : List Change). Synced ∷ l) (changes_of-push calls call pieces piece (omega arith))
changes_of-push (kept.Failed ∷ calls) call pieces piece parted = ap (λ (l : List Change). Nothing ∷ l) (changes_of-push calls call pieces piece (omega arith))

pub sizes-push : (calls : List DiskCall) (call : DiskCall) → sizes (calls ++ call ∷ []) ≡ sizes calls + bytes_of call
sizes-push [] call = omega arith
sizes-push (c ∷ calls) call = omega (arith, sizes-push calls call)

-- ---- what the calls do

-- a call that only looked or failed, kept or not
pub looks : (s t : MemDiskState) → t.first ≡ s.first → t.name ≡ s.name → (t.changes ≡ s.changes ++ Nothing ∷ []) ⊎ (t.changes ≡ s.changes) → Looks (disk_state s) (disk_state t)
looks s t first_is name_is (inl more) = record {
  reads = ap Some ((λ i. text_after (first_is i) (more i)) ∙ text_after-push s.first s.changes Nothing);
  crash = λ c left.
      let moved = subst (λ (l : List Change). MayLeave s.first l c) more (subst (λ (l : List ℕ). MayLeave l t.changes c) first_is left) in
      subst (λ (P : List ℕ → Type 0). P c) (outcomes_after-push (λ d. d ≡ s.first) s.first s.changes Nothing) moved;
  time = Elapses-call s t Nothing first_is more;
  name = ap Some name_is;
}
looks s t first_is name_is (inr same) = record {
  reads = ap Some (λ i. text_after (first_is i) (same i));
  crash = λ c left. subst (λ (l : List Change). MayLeave s.first l c) same (subst (λ (l : List ℕ). MayLeave l t.changes c) first_is left);
  time = Elapses-none s t first_is same;
  name = ap Some name_is;
}

pub Torn-none : (at n : ℕ) (c : List ℕ) → Torn at n c c
Torn-none at n c =
    let whole : take (length c) c ≡ c = take_all (length c) c (omega arith) in
    record { no_shorter = omega arith; before = ap (λ (l : List ℕ). take at l) whole; after = ap (λ (l : List ℕ). drop (at + n) l) whole }

-- a write that failed
pub not_written : (s t : MemDiskState) (at n : ℕ) → t.first ≡ s.first → t.name ≡ s.name → (t.changes ≡ s.changes ++ Nothing ∷ []) ⊎ (t.changes ≡ s.changes) → Writes at n (disk_state s) (disk_state t)
not_written s t at n first_is name_is changes_are =
    let looked = looks s t first_is name_is changes_are in
    record {
      tells = (λ h. refl, λ h. refl);
      crash = λ c left. (c, looked.crash c left, Torn-none at n c);
      time = looked.time;
      name = ap Some name_is;
    }

pub wrote : (s t : MemDiskState) (at : ℕ) (piece : List ℕ) → t.first ≡ s.first → t.name ≡ s.name → t.changes ≡ s.changes ++ Wrote at piece ∷ [] → Writes at (length piece) (disk_state s) (disk_state t)
wrote s t at piece first_is name_is more = record {
  tells = (λ h. refl, λ h. refl);
  crash = λ c left.
      let moved = subst (λ (l : List Change). MayLeave s.first l c) more (subst (λ (l : List ℕ). MayLeave l t.changes c) first_is left) in
      subst (λ (P : List ℕ → Type 0). P c) (outcomes_after-push (λ d. d ≡ s.first) s.first s.changes (Wrote at piece)) moved;
  time = Elapses-call s t (Wrote at piece) first_is more;
  name = ap Some name_is;
}

pub wrote_text : (s t : MemDiskState) (at : ℕ) (piece : List ℕ) → t.first ≡ s.first → t.changes ≡ s.changes ++ Wrote at piece ∷ []
    → text_after t.first t.changes ≡ written (text_after s.first s.changes) at piece
wrote_text s t at piece first_is more = (λ i. text_after (first_is i) (more i)) ∙ text_after-push s.first s.changes (Wrote at piece)

pub synced : (s t : MemDiskState) → t.first ≡ s.first → t.name ≡ s.name → t.changes ≡ s.changes ++ Synced ∷ [] → Looks (disk_state s) (disk_state t) × Only (text_after s.first s.changes) (MayLeave t.first t.changes)
synced s t first_is name_is more = (
  record {
    reads = ap Some ((λ i. text_after (first_is i) (more i)) ∙ text_after-push s.first s.changes Synced);
    crash = λ c left. subst (MayLeave s.first s.changes) (sym (only c left)) (lawful s).as_read;
    time = Elapses-call s t Synced first_is more;
    name = ap Some name_is;
  },
  only,
)
  where
    only : (c : List ℕ) → MayLeave t.first t.changes c → c ≡ text_after s.first s.changes
    only c left =
        let moved = subst (λ (l : List Change). MayLeave s.first l c) more (subst (λ (l : List ℕ). MayLeave l t.changes c) first_is left) in
        subst (λ (P : List ℕ → Type 0). P c) (outcomes_after-push (λ d. d ≡ s.first) s.first s.changes Synced) moved

-- ---- what stays in step

nat_lt-true : (m n : ℕ) → m < n → nat_lt m n ≡ true
nat_lt-true m n h = grind (arith, nat_tests)

nat_lt-false : (m n : ℕ) → n ≤ m → nat_lt m n ≡ false
nat_lt-false m n h = grind (arith, nat_tests)

-- one call more that wrote nothing
pub changes_of-quiet : (calls : List DiskCall) (call : DiskCall) (pieces : List ℕ) (x : Change) → sizes calls ≡ length pieces → changes_of (call ∷ []) [] ≡ x ∷ []
    → changes_of (calls ++ call ∷ []) pieces ≡ changes_of calls pieces ++ x ∷ []
changes_of-quiet calls call pieces x parted is =
    ap (λ (l : List ℕ). changes_of (calls ++ call ∷ []) l) (sym (append-nil pieces)) ∙ changes_of-push calls call pieces [] parted ∙ ap (λ (l : List Change). changes_of calls pieces ++ l) is

module _ (first bytes pieces : List ℕ) (calls : List DiskCall) (call_room byte_room calls_taken bytes_taken pieces_taken : ℕ)
    (step : IsInStep first bytes pieces calls call_room byte_room calls_taken bytes_taken pieces_taken) where
  pub quiet_step : (call : DiskCall) (x : Change) (more : List DiskCall) (taken : ℕ) → changes_of (call ∷ []) [] ≡ x ∷ [] → ((text : List ℕ) → moved x text ≡ text) → bytes_of call ≡ 0
      → more ≡ calls ++ call ∷ [] → length calls < call_room → calls_taken ≤ taken
      → IsInStep first bytes pieces more call_room byte_room taken bytes_taken pieces_taken
  quiet_step call x more taken is stays none more_is room space = record {
    reads = step.reads ∙ sym (stays (text_after first (changes_of calls pieces))) ∙ sym (text_after-push first (changes_of calls pieces) x)
        ∙ ap (λ (l : List Change). text_after first l) (sym (ap (λ (l : List DiskCall). changes_of l pieces) more_is ∙ changes_of-quiet calls call pieces x step.parted is));
    parted = ap sizes more_is ∙ omega (arith, sizes-push calls call, step.parted);
    calls_fit = omega (arith, ap length more_is, length_push calls call);
    pieces_fit = step.pieces_fit;
    grown = step.grown;
    call_space = omega (arith, step.call_space);
    piece_space = step.piece_space;
    byte_space = step.byte_space;
  }

  pub fault_step : (more : List DiskCall) (taken : ℕ) → more ≡ with_call call_room calls kept.Failed → calls_taken ≤ taken
      → IsInStep first bytes pieces more call_room byte_room taken bytes_taken pieces_taken
      × (changes_of more pieces ≡ (if nat_lt (length (changes_of calls pieces)) call_room then changes_of calls pieces ++ Nothing ∷ [] else changes_of calls pieces))
  fault_step more taken more_is space = elim (cases_lt (length calls) call_room) [
    | inl room ↦
        let few : nat_lt (length calls) call_room ≡ true = nat_lt-true (length calls) call_room room in
        let more_are : more ≡ calls ++ kept.Failed ∷ [] = more_is ∙ ap (λ (b : Bool). if b then calls ++ kept.Failed ∷ [] else calls) few in (
          quiet_step kept.Failed Nothing more taken refl (λ t. refl) refl more_are room space,
          ap (λ (l : List DiskCall). changes_of l pieces) more_are ∙ changes_of-quiet calls kept.Failed pieces Nothing step.parted refl
              ∙ sym (ap (λ (b : Bool). if b then changes_of calls pieces ++ Nothing ∷ [] else changes_of calls pieces) (ap (λ (n : ℕ). nat_lt n call_room) (length-changes_of calls pieces) ∙ few)),
        )
    | inr full ↦
        let many : nat_lt (length calls) call_room ≡ false = nat_lt-false (length calls) call_room full in
        let more_are : more ≡ calls = more_is ∙ ap (λ (b : Bool). if b then calls ++ kept.Failed ∷ [] else calls) many in (
          record {
            reads = step.reads ∙ ap (λ (l : List DiskCall). text_after first (changes_of l pieces)) (sym more_are);
            parted = ap sizes more_are ∙ step.parted;
            calls_fit = omega (arith, ap length more_are, step.calls_fit);
            pieces_fit = step.pieces_fit;
            grown = step.grown;
            call_space = omega (arith, step.call_space);
            piece_space = step.piece_space;
            byte_space = step.byte_space;
          },
          ap (λ (l : List DiskCall). changes_of l pieces) more_are
              ∙ sym (ap (λ (b : Bool). if b then changes_of calls pieces ++ Nothing ∷ [] else changes_of calls pieces) (ap (λ (n : ℕ). nat_lt n call_room) (length-changes_of calls pieces) ∙ many)),
        )
  ]

  -- one call more that wrote
  pub changes_of-wrote : (at : ℕ) (piece : List ℕ) → changes_of (calls ++ kept.Wrote at (length piece) ∷ []) (pieces ++ piece) ≡ changes_of calls pieces ++ Wrote at piece ∷ []
  changes_of-wrote at piece =
      changes_of-push calls (kept.Wrote at (length piece)) pieces piece step.parted ∙ ap (λ (l : List ℕ). changes_of calls pieces ++ Wrote at l ∷ []) (take_all (length piece) piece (omega arith))

  pub write_step : (at : ℕ) (piece new_bytes new_pieces : List ℕ) (more : List DiskCall) (taken_calls taken_bytes taken_pieces : ℕ)
      → new_bytes ≡ written bytes at piece → new_pieces ≡ pieces ++ piece → more ≡ calls ++ kept.Wrote at (length piece) ∷ []
      → length calls < call_room → at ≤ length bytes → length pieces + length piece ≤ byte_room
      → calls_taken ≤ taken_calls → bytes_taken ≤ taken_bytes → pieces_taken ≤ taken_pieces
      → IsInStep first new_bytes new_pieces more call_room byte_room taken_calls taken_bytes taken_pieces
  write_step at piece new_bytes new_pieces more taken_calls taken_bytes taken_pieces bytes_are pieces_are more_are room inside fits calls_space bytes_space pieces_space = record {
    reads = bytes_are ∙ ap (λ (l : List ℕ). written l at piece) step.reads ∙ sym (text_after-push first (changes_of calls pieces) (Wrote at piece))
        ∙ ap (λ (l : List Change). text_after first l) (sym ((λ i. changes_of (more_are i) (pieces_are i)) ∙ changes_of-wrote at piece));
    parted = ap sizes more_are ∙ omega (arith, sizes-push calls (kept.Wrote at (length piece)), step.parted, ap length pieces_are, length-append pieces piece);
    calls_fit = omega (arith, ap length more_are, length_push calls (kept.Wrote at (length piece)));
    pieces_fit = omega (arith, ap length pieces_are, length-append pieces piece);
    grown = omega (arith, ap length bytes_are, length-written bytes at piece, step.grown, ap length pieces_are, length-append pieces piece);
    call_space = omega (arith, step.call_space);
    piece_space = omega (arith, step.piece_space);
    byte_space = omega (arith, step.byte_space);
  }

-- the whole after a change
pub with_changes : (s now : MemDiskState) (x : Change) (more : List Change) → s ≡ now → more ≡ s.changes ++ x ∷ [] → record s { changes = more } ≡ record now { changes = now.changes ++ x ∷ [] }
with_changes s now x more is more_is = ap (λ (l : List Change). record s { changes = l }) more_is ∙ ap (λ (t : MemDiskState). record t { changes = t.changes ++ x ∷ [] }) is

pub with_piece : (s now : MemDiskState) (at : ℕ) (piece : List ℕ) (more : List Change) (taken : ℕ) → s ≡ now → more ≡ s.changes ++ Wrote at piece ∷ [] → taken ≡ s.taken + length piece
    → record s { changes = more; taken = taken } ≡ record now { changes = now.changes ++ Wrote at piece ∷ []; taken = now.taken + length piece }
with_piece s now at piece more taken is more_is taken_is =
    (λ i. record s { changes = more_is i; taken = taken_is i }) ∙ ap (λ (t : MemDiskState). record t { changes = t.changes ++ Wrote at piece ∷ []; taken = t.taken + length piece }) is

pub with_fault_counted : (s now : MemDiskState) (more : List Change) (calls : ScheduleState) → s ≡ now → more ≡ with_fault s → calls ≡ schedule.after_fault s.calls
    → record s { changes = more; calls = calls } ≡ after_fault now
with_fault_counted s now more calls is more_is calls_are =
    (λ i. record s { changes = more_is i; calls = calls_are i }) ∙ ap after_fault is

-- ---- the calls, by what they leave

fault_cases : (s : MemDiskState) → (with_fault s ≡ s.changes ++ Nothing ∷ []) ⊎ (with_fault s ≡ s.changes)
fault_cases s = elim (cases_lt (length s.changes) s.call_room) [
  | inl room ↦ inl (ap (λ (b : Bool). if b then s.changes ++ Nothing ∷ [] else s.changes) (nat_lt-true (length s.changes) s.call_room room))
  | inr full ↦ inr (ap (λ (b : Bool). if b then s.changes ++ Nothing ∷ [] else s.changes) (nat_lt-false (length s.changes) s.call_room full))
]

pub looks_fault : (s t : MemDiskState) → t ≡ after_fault s → Looks (disk_state s) (disk_state t)
looks_fault s t is = looks s t (ap (λ (u : MemDiskState). u.first) is) (ap (λ (u : MemDiskState). u.name) is)
    (⊎_elim (λ more. inl (ap (λ (u : MemDiskState). u.changes) is ∙ more)) (λ same. inr (ap (λ (u : MemDiskState). u.changes) is ∙ same)) (fault_cases s))

pub looks_look : (s t : MemDiskState) → t ≡ after_look s → Looks (disk_state s) (disk_state t)
looks_look s t is = looks s t (ap (λ (u : MemDiskState). u.first) is) (ap (λ (u : MemDiskState). u.name) is) (inl (ap (λ (u : MemDiskState). u.changes) is))

-- a disk that could not be opened is as it was
pub unopened_fault : (s t : MemDiskState) → t ≡ after_fault s → IsUnopened (disk_state s) (disk_state t)
unopened_fault s t is =
    let looked = looks_fault s t is in
    record { looks = looked; held = λ name. looked.reads }

pub on_err : {T E P : Type 0} (r : Result T E) → P → OnErr r P
on_err (Ok x) p = tt
on_err (Err e) p = p

pub writes_fault : (s t : MemDiskState) (at n : ℕ) → t ≡ after_fault s → Writes at n (disk_state s) (disk_state t)
writes_fault s t at n is = not_written s t at n (ap (λ (u : MemDiskState). u.first) is) (ap (λ (u : MemDiskState). u.name) is)
    (⊎_elim (λ more. inl (ap (λ (u : MemDiskState). u.changes) is ∙ more)) (λ same. inr (ap (λ (u : MemDiskState). u.changes) is ∙ same)) (fault_cases s))

pub writes_write : (s t : MemDiskState) (at : ℕ) (piece : List ℕ) → t ≡ after_write s at piece → Writes at (length piece) (disk_state s) (disk_state t)
writes_write s t at piece is = wrote s t at piece (ap (λ (u : MemDiskState). u.first) is) (ap (λ (u : MemDiskState). u.name) is) (ap (λ (u : MemDiskState). u.changes) is)

pub text_write : (s t : MemDiskState) (at : ℕ) (piece : List ℕ) → t ≡ after_write s at piece → (disk_state t).reads ≡ Some (written (text_after s.first s.changes) at piece)
text_write s t at piece is = ap Some (wrote_text s t at piece (ap (λ (u : MemDiskState). u.first) is) (ap (λ (u : MemDiskState). u.changes) is))

pub syncs : (s t : MemDiskState) → t ≡ after_sync s → Looks (disk_state s) (disk_state t) × Only (text_after s.first s.changes) (disk_state t).may_leave
syncs s t is = synced s t (ap (λ (u : MemDiskState). u.first) is) (ap (λ (u : MemDiskState). u.name) is) (ap (λ (u : MemDiskState). u.changes) is)

pub text_look : (s t : MemDiskState) → t ≡ after_look s → text_after t.first t.changes ≡ text_after s.first s.changes
text_look s t is = ap (λ (u : MemDiskState). text_after u.first u.changes) is ∙ text_after-push s.first s.changes Nothing
