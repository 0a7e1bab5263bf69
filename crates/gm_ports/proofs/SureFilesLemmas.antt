-- Files in memory of which no call fails: what their exact clauses say as those of `Files`.
use Rattle.std.proofs.Common.{◌≡◌, ℕ, zero, suc, ◌+◌, Bool, true, false, List, [], ◌∷◌, take, drop, Option, Some, None, refl, sym, ◌∙◌, ap, subst, inl, inr, arith}
use Rattle.std.specs.Prelude.{IfSome, unwrap_or, option_and_then}
use Rattle.std.specs.Option.{option_map}
use Rattle.std.proofs.lemmas.Bool.{cases_Bool, true≢false}
use Rattle.gm_ports.specs.FilesState.{HoldsWhatIsWritten, StaysAsTold, WritingLeaves, told_bytes}
use Rattle.gm_ports.specs.MemFiles.{MemFilesState, place_of, held_under, room_under, text_at, unread_of, written_of, output_name, room_left, writing, IsOpenedOut, files_state as mem_state}
use Rattle.gm_ports.specs.Schedule.{ScheduleState}
use Rattle.gm_ports.specs.SureFiles.{SureFilesState, bytes_under, told_if, files_state, input_place, HasRoom}
use Rattle.gm_ports.specs.Told.{ToldConsumes, IsEmptyWhereTold}
use Rattle.gm_ports.proofs.MemFilesPort.{unread_of-opened, unread_of-read, output_name-opened, written_of-opened, held_under-opened, held_under-others, held_under-writing, output_name-writing}

-- ---- what always holds

-- no call is told to fail, and the output's name holds what was written
abbrev pub IsSure : MemFilesState → Type 0
IsSure s = (s.reads.failing ≡ []) × (s.writes.failing ≡ []) × HoldsWhatIsWritten (mem_state s)

-- a call that reads keeps it
pub IsSure-reads : (old new : MemFilesState) (input : Option ℕ) (at : ℕ) (reads : ScheduleState) → new ≡ record old { input = input; at = at; reads = reads }
    → reads.failing ≡ old.reads.failing → IsSure old → IsSure new
IsSure-reads old new input at reads now same sure =
    let (first, second, holds) = sure in
    subst IsSure (sym now) (same ∙ first, second, record { holds = holds.holds; output_told = holds.output_told })

-- ---- told, or not

if_told : {A : Type 0} (t : Bool) (x : A) (P : A → Type 0) → P x → IfSome (told_if t x) P
if_told true x P p = p
if_told false x P p = tt

stays : {A : Type 0} (t : Bool) (x y : A) → x ≡ y → StaysAsTold (told_if t x) (told_if t y)
stays true x y e = ap Some e
stays false x y e = tt

-- what holds of files in memory holds of these, as far as they tell
pub told-holds : (s : SureFilesState) → HoldsWhatIsWritten (mem_state s.mem) → HoldsWhatIsWritten (files_state s)
told-holds s h = record { holds = λ name text o w. holds s.tells name text o w; output_told = λ o name. untold s.tells o name }
  where
    holds : (t : Bool) (name text : List ℕ) → told_if t (output_name s.mem) ≡ Some (Some name) → told_if t (written_of s.mem) ≡ Some text
        → IfSome (told_if t (Some (bytes_under s.mem.files name))) (λ file. file ≡ Some text)
    holds true name text o w = ap (λ (b : Option (List ℕ)). Some (unwrap_or b [])) (h.holds name text o w)
    holds false name text o w = tt

    untold : (t : Bool) → told_if t (output_name s.mem) ≡ None → (name : List ℕ) → told_if t (Some (bytes_under s.mem.files name)) ≡ None
    untold true o name = cc
    untold false o name = refl

-- ---- reading

-- an opened input is unread from its front on, and a name that is not held is an empty one
unread_place : (s : MemFilesState) (name : List ℕ) (reads : ScheduleState) (h : Option (List ℕ)) → held_under s.files name ≡ h
    → unwrap_or (option_map (λ i. drop 0 (text_at s.files i)) (option_and_then (λ bytes. place_of s.files name) h)) [] ≡ unwrap_or h []
unread_place s name reads None is = refl
unread_place s name reads (Some b) is =
    ap (λ (o : Option (List ℕ)). unwrap_or o [])
    (unread_of-opened s (record s { input = place_of s.files name; at = 0; reads = reads }) name reads refl (λ none. (let clash = sym is ∙ none in cc)) ∙ is)

pub unread-opened : (old new : SureFilesState) (name : List ℕ) (reads : ScheduleState)
    → new ≡ record old { mem = record old.mem { input = input_place old.mem.files name; at = 0; reads = reads } }
    → told_if new.tells (unread_of new.mem) ≡ told_bytes (told_if old.tells (Some (bytes_under old.mem.files name)))
unread-opened old new name reads now =
    subst (λ (s : SureFilesState). told_if s.tells (unread_of s.mem) ≡ told_bytes (told_if old.tells (Some (bytes_under old.mem.files name)))) (sym now) (go old.tells)
  where
    go : (t : Bool) → told_if t (unread_of (record old.mem { input = input_place old.mem.files name; at = 0; reads = reads })) ≡ told_bytes (told_if t (Some (bytes_under old.mem.files name)))
    go true = ap Some (unread_place old.mem name reads (held_under old.mem.files name) refl)
    go false = refl

pub unread-read : (old new : SureFilesState) (n : ℕ) (given : List ℕ) (reads : ScheduleState)
    → new ≡ record old { mem = record old.mem { at = old.mem.at + n; reads = reads } } → given ≡ take n (unread_of old.mem)
    → ToldConsumes (told_if old.tells (unread_of old.mem)) (told_if new.tells (unread_of new.mem)) given
unread-read old new n given reads now front =
    subst (λ (s : SureFilesState). ToldConsumes (told_if old.tells (unread_of old.mem)) (told_if s.tells (unread_of s.mem)) given) (sym now) (go old.tells)
  where
    go : (t : Bool) → ToldConsumes (told_if t (unread_of old.mem)) (told_if t (unread_of (record old.mem { at = old.mem.at + n; reads = reads }))) given
    go true = unread_of-read old.mem (record old.mem { at = old.mem.at + n; reads = reads }) n given reads refl front
    go false = refl

-- ---- opening an output

-- the name has room, and is the output; or nothing is told any more
abbrev pub Opens : SureFilesState → SureFilesState → List ℕ → Type 0
Opens old new name = (new.tells ≡ old.tells) × IsOpenedOut old.mem new.mem name

pub opened_cases : (old new : SureFilesState) (name : List ℕ) (writes : ScheduleState) (G : Type 0)
    → (¬ (room_under old.mem.files name ≡ None) → Opens old new name)
    → (room_under old.mem.files name ≡ None → new ≡ record old { tells = false; mem = record old.mem { output = None; is_open = false; writes = writes } })
    → (Opens old new name → G) → (new.tells ≡ false → G) → G
opened_cases old new name writes G kept lost opens ends = go (room_under old.mem.files name) refl
  where
    go : (room : Option ℕ) → room_under old.mem.files name ≡ room → G
    go None is = ends (ap (λ (s : SureFilesState). s.tells) (lost is))
    go (Some r) is = opens (kept (λ none. (let clash = sym is ∙ none in cc)))

untold_now : {A : Type 0} (t : Bool) (x : A) (P : A → Type 0) → t ≡ false → IfSome (told_if t x) P
untold_now t x P no_more = subst (λ (b : Bool). IfSome (told_if b x) P) (sym no_more) tt

module _ (old new : SureFilesState) (name : List ℕ) (writes : ScheduleState)
    (kept : ¬ (room_under old.mem.files name ≡ None) → Opens old new name)
    (lost : room_under old.mem.files name ≡ None → new ≡ record old { tells = false; mem = record old.mem { output = None; is_open = false; writes = writes } }) where
  pub opened-output : IfSome (told_if new.tells (output_name new.mem)) (λ output. output ≡ Some name)
  opened-output = opened_cases old new name writes _ kept lost
      (λ out. if_told new.tells (output_name new.mem) (λ output. output ≡ Some name) (output_name-opened old.mem new.mem name out.1))
      (untold_now new.tells (output_name new.mem) (λ output. output ≡ Some name))

  pub opened-made : IfSome (told_if new.tells (Some (bytes_under new.mem.files name))) (λ file. file ≡ Some [])
  opened-made = opened_cases old new name writes _ kept lost
      (λ out. if_told new.tells (Some (bytes_under new.mem.files name)) (λ file. file ≡ Some [])
      (ap (λ (b : Option (List ℕ)). Some (unwrap_or b [])) (held_under-opened old.mem new.mem name out.1)))
      (untold_now new.tells (Some (bytes_under new.mem.files name)) (λ file. file ≡ Some []))

  pub opened-written : IsEmptyWhereTold (told_if new.tells (written_of new.mem))
  opened-written = opened_cases old new name writes _ kept lost
      (λ out. if_told new.tells (written_of new.mem) (λ bytes. bytes ≡ []) (written_of-opened old.mem new.mem name out.1))
      (untold_now new.tells (written_of new.mem) (λ bytes. bytes ≡ []))

  pub opened-leaves : WritingLeaves (λ n. n ≡ name) (files_state old) (files_state new)
  opened-leaves = record {
    names = λ n differs. opened_cases old new name writes _ kept lost
        (λ out. subst (λ (t : Bool). StaysAsTold (told_if t (Some (bytes_under old.mem.files n))) (told_if new.tells (Some (bytes_under new.mem.files n)))) out.0
        (stays new.tells (Some (bytes_under old.mem.files n)) (Some (bytes_under new.mem.files n))
        (ap (λ (b : Option (List ℕ)). Some (unwrap_or b [])) (sym (held_under-others old.mem new.mem name n out.1 differs)))))
        (untold_now new.tells (Some (bytes_under new.mem.files n)) (λ now. told_if old.tells (Some (bytes_under old.mem.files n)) ≡ Some now));
    read_faults = refl;
  }

-- ---- writing

-- nothing is written, or there is room, or there is none
pub write_cases : (piece : List ℕ) (s : MemFilesState) (G : Type 0)
    → (piece ≡ [] → G) → (¬ (piece ≡ []) → HasRoom s → G) → (¬ (piece ≡ []) → ¬ HasRoom s → G) → G
write_cases [] s G nothing kept lost = nothing refl
write_cases (b ∷ bs) s G nothing kept lost =
    elim (cases_Bool s.is_open) [
      | inl opened ↦ room (room_left s) refl opened
      | inr closed ↦ lost (λ e. cc) (λ has. true≢false (sym has.opened ∙ closed))
    ]
  where
    room : (n : ℕ) → room_left s ≡ n → s.is_open ≡ true → G
    room zero is opened = lost (λ e. cc) (λ has. (let some = has.room in absurd (omega (arith, is))))
    room (suc n) is opened = kept (λ e. cc) (record { opened = opened; room = omega (arith, is) })

-- what a write makes of the files
abbrev pub Writes : SureFilesState → SureFilesState → List ℕ → Type 0
Writes old new bytes = new ≡ record old { mem = record old.mem { files = writing old.mem bytes; writes = new.mem.writes } }

module _ (old new : SureFilesState) where
  same-output : new ≡ old → StaysAsTold (told_if old.tells (output_name old.mem)) (told_if new.tells (output_name new.mem))
  same-output now =
      subst (λ (s : SureFilesState). StaysAsTold (told_if old.tells (output_name old.mem)) (told_if s.tells (output_name s.mem))) (sym now)
      (stays old.tells (output_name old.mem) (output_name old.mem) refl)

  kept-output : (bytes : List ℕ) (writes : ScheduleState) → new ≡ record old { mem = record old.mem { files = writing old.mem bytes; writes = writes } }
      → StaysAsTold (told_if old.tells (output_name old.mem)) (told_if new.tells (output_name new.mem))
  kept-output bytes writes now =
      subst (λ (s : SureFilesState). StaysAsTold (told_if old.tells (output_name old.mem)) (told_if s.tells (output_name s.mem))) (sym now)
      (stays old.tells (output_name old.mem) (output_name (record old.mem { files = writing old.mem bytes; writes = writes }))
      (sym (output_name-writing old.mem (record old.mem { files = writing old.mem bytes; writes = writes }) bytes writes refl)))

  same-name : (n : List ℕ) → new ≡ old → StaysAsTold (told_if old.tells (Some (bytes_under old.mem.files n))) (told_if new.tells (Some (bytes_under new.mem.files n)))
  same-name n now =
      subst (λ (s : SureFilesState). StaysAsTold (told_if old.tells (Some (bytes_under old.mem.files n))) (told_if s.tells (Some (bytes_under s.mem.files n)))) (sym now)
      (stays old.tells (Some (bytes_under old.mem.files n)) (Some (bytes_under old.mem.files n)) refl)

  kept-name : (n bytes : List ℕ) (writes : ScheduleState) → new ≡ record old { mem = record old.mem { files = writing old.mem bytes; writes = writes } }
      → old.mem.is_open ≡ true → ¬ (told_if old.tells (output_name old.mem) ≡ Some (Some n))
      → StaysAsTold (told_if old.tells (Some (bytes_under old.mem.files n))) (told_if new.tells (Some (bytes_under new.mem.files n)))
  kept-name n bytes writes now opened other =
      subst (λ (s : SureFilesState). StaysAsTold (told_if old.tells (Some (bytes_under old.mem.files n))) (told_if s.tells (Some (bytes_under s.mem.files n)))) (sym now)
      (go old.tells other)
    where
      go : (t : Bool) → ¬ (told_if t (output_name old.mem) ≡ Some (Some n))
          → StaysAsTold (told_if t (Some (bytes_under old.mem.files n))) (told_if t (Some (bytes_under (writing old.mem bytes) n)))
      go true differs = ap (λ (b : Option (List ℕ)). Some (Some (unwrap_or b []))) (sym (held_under-writing old.mem bytes n opened (λ named. differs (ap Some named))))
      go false differs = tt

-- what the three answers of a write leave
module _ (old new : SureFilesState) (piece bytes : List ℕ)
    (nothing : piece ≡ [] → new ≡ old)
    (kept : ¬ (piece ≡ []) → HasRoom old.mem → Writes old new bytes)
    (lost : ¬ (piece ≡ []) → ¬ HasRoom old.mem → new.tells ≡ false) where
  pub write-output : StaysAsTold (told_if old.tells (output_name old.mem)) (told_if new.tells (output_name new.mem))
  write-output = write_cases piece old.mem _
      (λ none. same-output old new (nothing none))
      (λ some room. kept-output old new bytes new.mem.writes (kept some room))
      (λ some full. untold_now new.tells (output_name new.mem) (λ now. told_if old.tells (output_name old.mem) ≡ Some now) (lost some full))

  pub write-leaves : WritingLeaves (λ n. told_if old.tells (output_name old.mem) ≡ Some (Some n)) (files_state old) (files_state new)
  write-leaves = record {
    names = λ n other. write_cases piece old.mem _
        (λ none. same-name old new n (nothing none))
        (λ some room. kept-name old new n bytes new.mem.writes (kept some room) room.opened other)
        (λ some full. untold_now new.tells (Some (bytes_under new.mem.files n)) (λ now. told_if old.tells (Some (bytes_under old.mem.files n)) ≡ Some now) (lost some full));
    read_faults = refl;
  }
