-- Files in memory: a file is found by its name, and new bytes at its place change no other name.
use Rattle.std.proofs.Common.{◌≡◌, inl, inr, ℕ, ◌+◌, zero, suc, ◌<◌, ◌≤◌, Bool, true, false, not, cond, if◌then◌else◌, get_or, List, [], ◌∷◌, ◌++◌, length, Option, Some, None, refl, sym, ◌∙◌, ap, subst, arith}
use Rattle.std.proofs.lemmas.List.Folds.{find_at}
use Rattle.std.proofs.lemmas.Option.{slice_get_past, slice_get_read, slice_get_cases, slice_get_within}
use Rattle.std.proofs.lemmas.Slice.Eq.{bytes_eq-Decides}
use Rattle.std.proofs.lemmas.Grind.{common_steps}
use Rattle.std.specs.Prelude.{map, IfSome, unwrap_or, slice_get, slice_set, find, position, option_and_then}
use Rattle.std.specs.Option.{option_map}
use Rattle.std.specs.List.{position_or_len, prefix_len}
use Rattle.std.specs.Str.{bytes_eq}
use Rattle.gm_ports.specs.FilesState.{HoldsWhatIsWritten}
use Rattle.gm_ports.specs.MemFiles.{MemFileState, MemFilesState, place_of, file_named, held_under, room_under, text_at, room_at, holding, AreMemFiles, IsOutputAt, files_state, output_name, written_of, file_with, file_without}
use Rattle.gm_ports.specs.Texts.{NamedText, NamedRoom, text_named, room_named}
use Rattle.gm_ports.specs.Schedule.{ScheduleState}

-- a test's place is inside the list, and has what the test finds
pub position-some : {X : Type 0} (p : X → Bool) (xs : List X) (i : ℕ) → position p xs ≡ Some i
    → (i < length xs) × (find p xs ≡ slice_get xs i)
position-some p xs i is =
    let found : find p xs ≡ slice_get xs (position_or_len p xs) = find_at p xs in
    grind (arith, common_steps, found)

-- without a place there is nothing to find
pub position-none : {X : Type 0} (p : X → Bool) (xs : List X) → position p xs ≡ None → find p xs ≡ None
position-none p xs is =
    let found : find p xs ≡ slice_get xs (position_or_len p xs) = find_at p xs in
    let past : length xs ≤ position_or_len p xs → slice_get xs (position_or_len p xs) ≡ None = slice_get_past xs (position_or_len p xs) in
    grind (arith, common_steps, found, past)

-- what is found passes
pub find_passes : {X : Type 0} (p : X → Bool) (xs : List X) (x : X) → find p xs ≡ Some x → p x ≡ true
find_passes p [] x is = cc
find_passes p (y ∷ ys) x is =
    (elim (p y) as (λ b. p y ≡ b → cond b (Some y) (find p ys) ≡ Some x → p x ≡ true) [
      | true ↦ λ passes found. cc
      | false ↦ λ fails found. find_passes p ys x found
    ]) refl is

pub set-holding : (files : List MemFileState) (i : ℕ) (file : MemFileState) (bytes : List ℕ) → slice_get files i ≡ Some file
    → slice_set files i (record file { bytes = Some bytes }) ≡ holding files i bytes
set-holding [] i file bytes is = cc
set-holding (f ∷ fs) zero file bytes is = cc
set-holding (f ∷ fs) (suc i) file bytes is = ap (λ (more : List MemFileState). f ∷ more) (set-holding fs i file bytes is)

pub length-holding : (files : List MemFileState) (i : ℕ) (bytes : List ℕ) → length (holding files i bytes) ≡ length files
length-holding [] i bytes = refl
length-holding (f ∷ fs) zero bytes = refl
length-holding (f ∷ fs) (suc i) bytes = ap suc (length-holding fs i bytes)

-- the file at a name's place is the file of that name
pub file_named-place : (files : List MemFileState) (name : List ℕ) (i : ℕ) (file : MemFileState) → place_of files name ≡ Some i
    → file ≡ get_or files i file → file_named files name ≡ Some file
file_named-place files name i file place is =
    let at_place = position-some (λ (f : MemFileState). bytes_eq f.name name) files i place in
    at_place.1 ∙ slice_get_read files (length files) i file refl at_place.0 is

-- a file that was given other bytes
pub set-text : (files : List MemFileState) (i : ℕ) (file : MemFileState) (bytes : List ℕ) → i < length files → file ≡ get_or files i file
    → slice_set files i (record file { bytes = Some bytes }) ≡ holding files i bytes
set-text files i file bytes there is = set-holding files i file bytes (slice_get_read files (length files) i file refl there is)

-- a file that got bytes behind its own
pub set-longer : (files : List MemFileState) (i : ℕ) (file : MemFileState) (piece : List ℕ) → i < length files → file ≡ get_or files i file
    → slice_set files i (record file { bytes = Some (unwrap_or file.bytes [] ++ piece) }) ≡ holding files i (text_at files i ++ piece)
set-longer files i file piece there is =
    let at_place : slice_get files i ≡ Some file = slice_get_read files (length files) i file refl there is in
    set-holding files i file (unwrap_or file.bytes [] ++ piece) at_place
    ∙ ap (λ (f : Option MemFileState). holding files i (unwrap_or (option_and_then (λ g. g.bytes) f) [] ++ piece)) (sym at_place)

pub slice_get-holding : (files : List MemFileState) (i : ℕ) (file : MemFileState) (bytes : List ℕ) → slice_get files i ≡ Some file
    → slice_get (holding files i bytes) i ≡ Some (record file { bytes = Some bytes })
slice_get-holding [] i file bytes is = cc
slice_get-holding (f ∷ fs) zero file bytes is = cc
slice_get-holding (f ∷ fs) (suc i) file bytes is = slice_get-holding fs i file bytes is

-- a name's place stays
prefix_len-holding : (files : List MemFileState) (i : ℕ) (bytes name : List ℕ)
    → prefix_len (λ (f : MemFileState). not (bytes_eq f.name name)) (holding files i bytes) ≡ prefix_len (λ (f : MemFileState). not (bytes_eq f.name name)) files
prefix_len-holding [] i bytes name = refl
prefix_len-holding (f ∷ fs) zero bytes name = refl
prefix_len-holding (f ∷ fs) (suc i) bytes name =
    ap (λ (n : ℕ). cond (not (bytes_eq f.name name)) (1 + n) 0) (prefix_len-holding fs i bytes name)

pub place_of-holding : (files : List MemFileState) (i : ℕ) (bytes name : List ℕ) → place_of (holding files i bytes) name ≡ place_of files name
place_of-holding files i bytes name =
    let same_len = length-holding files i bytes in
    let same_place = prefix_len-holding files i bytes name in cc

-- another name finds the same file
pub file_named-holding : (files : List MemFileState) (i : ℕ) (file : MemFileState) (bytes name : List ℕ) → slice_get files i ≡ Some file
    → bytes_eq file.name name ≡ false → file_named (holding files i bytes) name ≡ file_named files name
file_named-holding [] i file bytes name is other = refl
file_named-holding (f ∷ fs) zero file bytes name is other =
    let fails : bytes_eq f.name name ≡ false = cc in
    rw fails refl
file_named-holding (f ∷ fs) (suc i) file bytes name is other =
    ap (λ (found : Option MemFileState). cond (bytes_eq f.name name) (Some f) found) (file_named-holding fs i file bytes name is other)

-- a file that is found has the name
pub has_name : (files : List MemFileState) (name : List ℕ) (file : MemFileState) → file_named files name ≡ Some file → file.name ≡ name
has_name files name file found =
    (bytes_eq-Decides file.name name).0 (find_passes (λ (f : MemFileState). bytes_eq f.name name) files file found)

-- the file at a name's place, and that it has the name
pub file_at_place : (files : List MemFileState) (name : List ℕ) (i : ℕ) → place_of files name ≡ Some i
    → (file : MemFileState) × (slice_get files i ≡ Some file) × (file.name ≡ name)
file_at_place files name i place =
    let at_place = position-some (λ (f : MemFileState). bytes_eq f.name name) files i place in
    (elim (slice_get_cases files i).1 as (λ _. (file : MemFileState) × (slice_get files i ≡ Some file) × (file.name ≡ name)) [
      | inl here ↦ (here.0, here.2, has_name files name here.0 (at_place.1 ∙ here.2))
      | inr past ↦ absurd (omega (arith, at_place.0, past.0))
    ])

-- the place of a name that is held
pub held_under-place : (files : List MemFileState) (i : ℕ) (name : List ℕ) → place_of files name ≡ Some i
    → held_under files name ≡ option_and_then (λ (f : MemFileState). f.bytes) (slice_get files i)
held_under-place files i name place =
    ap (λ (found : Option MemFileState). option_and_then (λ (f : MemFileState). f.bytes) found)
    (position-some (λ (f : MemFileState). bytes_eq f.name name) files i place).1

pub room_under-place : (files : List MemFileState) (i : ℕ) (name : List ℕ) → place_of files name ≡ Some i
    → room_under files name ≡ option_and_then (λ (f : MemFileState). f.room) (slice_get files i)
room_under-place files i name place =
    ap (λ (found : Option MemFileState). option_and_then (λ (f : MemFileState). f.room) found)
    (position-some (λ (f : MemFileState). bytes_eq f.name name) files i place).1

-- an output that holds other bytes, which its room has place for
pub IsOutputAt-holding : (files : List MemFileState) (i : ℕ) (bytes : List ℕ) (out : IsOutputAt files i) → length bytes ≤ out.room
    → IsOutputAt (holding files i bytes) i
IsOutputAt-holding files i bytes out fits = record {
  file = record out.file { bytes = Some bytes };
  text = bytes;
  room = out.room;
  there = slice_get-holding files i out.file bytes out.there;
  first = place_of-holding files i bytes out.file.name ∙ out.first;
  text_is = refl;
  room_is = out.room_is;
  fits = fits;
}

-- what the opened output's name holds
held_output : (files : List MemFileState) (output : Option ℕ) (is_open : Bool) (name text : List ℕ) → IfSome output (λ i. IsOutputAt files i)
    → (if is_open then option_map (λ (f : MemFileState). f.name) (option_and_then (slice_get files) output) else None) ≡ Some name
    → unwrap_or (option_map (λ i. text_at files i) output) [] ≡ text → held_under files name ≡ Some text
held_output files None true name text out named written = cc
held_output files None false name text out named written = cc
held_output files (Some i) false name text out named written = cc
held_output files (Some i) true name text out named written =
    let same_name : out.file.name ≡ name = grind (arith, common_steps, out.there) in
    let place : place_of files name ≡ Some i = subst (λ (n : List ℕ). place_of files n ≡ Some i) same_name out.first in
    let held = held_under-place files i name place in
    grind (arith, common_steps, held, out.there, out.text_is)

-- files in memory hold what is written
pub HoldsWhatIsWritten-of : (s : MemFilesState) → AreMemFiles s → HoldsWhatIsWritten (files_state s)
HoldsWhatIsWritten-of s sound = record {
  holds = λ name text named written.
      let is_named : output_name s ≡ Some name = cc in
      let is_written : written_of s ≡ text = cc in
      held_output s.files s.output s.is_open name text sound.output is_named is_written;
  output_told = λ untold. cc;
}

some_of : (o : Option ℕ) → ¬ (o ≡ None) → (n : ℕ) × (o ≡ Some n)
some_of None some = absurd (some refl)
some_of (Some n) some = (n, refl)

-- the input's place is inside the list still
places_stay : (files : List MemFileState) (i : ℕ) (bytes : List ℕ) (input : Option ℕ) → IfSome input (λ j. j < length files)
    → IfSome input (λ j. j < length (holding files i bytes))
places_stay files i bytes input inside =
    subst (λ (n : ℕ). IfSome input (λ j. j < n)) (sym (length-holding files i bytes)) inside

-- a write leaves files in memory
pub AreMemFiles-writing : (s : MemFilesState) (i : ℕ) (bytes : List ℕ) (files : List MemFileState) (writes : ScheduleState) → AreMemFiles s → s.output ≡ Some i
    → files ≡ holding s.files i bytes → length bytes ≤ room_at s.files i → AreMemFiles (record s { files = files; writes = writes })
AreMemFiles-writing s i bytes files writes sound output now fits =
    let out : IsOutputAt s.files i = subst (λ (o : Option ℕ). IfSome o (λ j. IsOutputAt s.files j)) output sound.output in
    let has_room : length bytes ≤ out.room = grind (arith, common_steps, out.there, out.room_is) in
    subst (λ (fs : List MemFileState). AreMemFiles (record s { files = fs; writes = writes })) (sym now) (record {
      input = places_stay s.files i bytes s.input sound.input;
      output = subst (λ (o : Option ℕ). IfSome o (λ j. IsOutputAt (holding s.files i bytes) j)) (sym output) (IsOutputAt-holding s.files i bytes out has_room);
      opened = sound.opened;
      reads_some = sound.reads_some;
      writes_some = sound.writes_some;
    })

-- opening an output leaves files in memory
pub AreMemFiles-opened : (s : MemFilesState) (name : List ℕ) (i : ℕ) (files : List MemFileState) (writes : ScheduleState) → AreMemFiles s
    → place_of s.files name ≡ Some i → ¬ (room_under s.files name ≡ None) → files ≡ holding s.files i []
    → AreMemFiles (record s { files = files; output = Some i; is_open = true; writes = writes })
AreMemFiles-opened s name i files writes sound place room now =
    let at_place = file_at_place s.files name i place in
    let same_room : room_under s.files name ≡ at_place.0.room = room_under-place s.files i name place ∙ ap (λ (f : Option MemFileState). option_and_then (λ (g : MemFileState). g.room) f) at_place.1 in
    let some_room = some_of at_place.0.room (λ none. room (same_room ∙ none)) in
    subst (λ (fs : List MemFileState). AreMemFiles (record s { files = fs; output = Some i; is_open = true; writes = writes })) (sym now) (record {
      input = places_stay s.files i [] s.input sound.input;
      output = record {
        file = record at_place.0 { bytes = Some [] };
        text = [];
        room = some_room.0;
        there = slice_get-holding s.files i at_place.0 [] at_place.1;
        first = place_of-holding s.files i [] at_place.0.name ∙ subst (λ (n : List ℕ). place_of s.files n ≡ Some i) (sym at_place.2) place;
        text_is = refl;
        room_is = some_room.1;
        fits = omega arith;
      };
      opened = λ _. refl;
      reads_some = sound.reads_some;
      writes_some = sound.writes_some;
    })

-- the output's place is inside the list
pub AreMemFiles-inside : (s : MemFilesState) (i : ℕ) → AreMemFiles s → s.output ≡ Some i → i < length s.files
AreMemFiles-inside s i sound output =
    let out : IsOutputAt s.files i = subst (λ (o : Option ℕ). IfSome o (λ j. IsOutputAt s.files j)) output sound.output in
    slice_get_within s.files i out.file out.there

-- a call that is only counted leaves files in memory
pub AreMemFiles-counted : (s : MemFilesState) (writes : ScheduleState) → AreMemFiles s → AreMemFiles (record s { writes = writes })
AreMemFiles-counted s writes sound = record {
  input = sound.input;
  output = sound.output;
  opened = sound.opened;
  reads_some = sound.reads_some;
  writes_some = sound.writes_some;
}

-- a name without a text is not held
held_under-without : (rooms : List NamedRoom) (name : List ℕ) → held_under (map file_without rooms) name ≡ None
held_under-without [] name = refl
held_under-without (r ∷ rs) name =
    elim (bytes_eq r.name name) as (λ b. option_and_then (λ (f : MemFileState). f.bytes) (cond b (Some (file_without r)) (file_named (map file_without rs) name)) ≡ None) [
      | true ↦ refl
      | false ↦ held_under-without rs name
    ]

room_under-without : (rooms : List NamedRoom) (name : List ℕ) → room_under (map file_without rooms) name ≡ room_named rooms name
room_under-without [] name = refl
room_under-without (r ∷ rs) name =
    elim (bytes_eq r.name name) as (λ b. option_and_then (λ (f : MemFileState). f.room) (cond b (Some (file_without r)) (file_named (map file_without rs) name))
    ≡ option_map (λ (s : NamedRoom). s.room) (cond b (Some r) (find (λ (s : NamedRoom). bytes_eq s.name name) rs))) [
      | true ↦ refl
      | false ↦ room_under-without rs name
    ]

-- what the files of a new object hold, and their rooms
pub held_under-made : (held : List NamedText) (all rooms : List NamedRoom) (name : List ℕ)
    → held_under (map (file_with all) held ++ map file_without rooms) name ≡ text_named held name
held_under-made [] all rooms name = held_under-without rooms name
held_under-made (t ∷ ts) all rooms name =
    elim (bytes_eq t.name name) as (λ b. option_and_then (λ (f : MemFileState). f.bytes) (cond b (Some (file_with all t)) (file_named (map (file_with all) ts ++ map file_without rooms) name))
    ≡ option_map (λ (u : NamedText). u.bytes) (cond b (Some t) (find (λ (u : NamedText). bytes_eq u.name name) ts))) [
      | true ↦ refl
      | false ↦ held_under-made ts all rooms name
    ]

pub room_under-made : (held : List NamedText) (rooms : List NamedRoom) (name : List ℕ)
    → room_under (map (file_with rooms) held ++ map file_without rooms) name ≡ room_named rooms name
room_under-made [] rooms name = room_under-without rooms name
room_under-made (t ∷ ts) rooms name =
    (elim (bytes_eq t.name name) as (λ b. bytes_eq t.name name ≡ b
    → option_and_then (λ (f : MemFileState). f.room) (cond b (Some (file_with rooms t)) (file_named (map (file_with rooms) ts ++ map file_without rooms) name)) ≡ room_named rooms name) [
      | true ↦ λ same. ap (λ (n : List ℕ). room_named rooms n) ((bytes_eq-Decides t.name name).0 same)
      | false ↦ λ _. room_under-made ts rooms name
    ]) refl

-- what is held under a name is the text at its place
pub text_at-held : (files : List MemFileState) (name : List ℕ) (i : ℕ) → place_of files name ≡ Some i → ¬ (held_under files name ≡ None)
    → Some (text_at files i) ≡ held_under files name
text_at-held files name i place held =
    let at_place = held_under-place files i name place in
    some_text (option_and_then (λ (f : MemFileState). f.bytes) (slice_get files i)) (λ none. held (at_place ∙ none)) ∙ sym at_place
  where
    some_text : (o : Option (List ℕ)) → ¬ (o ≡ None) → Some (unwrap_or o []) ≡ o
    some_text None some = absurd (some refl)
    some_text (Some text) some = refl
