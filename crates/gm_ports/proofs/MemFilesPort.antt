-- What the exact clauses of files in memory say as those of `Files`.
use Rattle.std.proofs.Common.{◌≡◌, ℕ, ◌+◌, zero, suc, ◌<◌, Bool, true, false, if◌then◌else◌, List, [], ◌∷◌, ◌++◌, length, take, drop, Option, Some, None, Ok, Err, Result, refl, sym, ◌∙◌, ap, subst, arith}
use Rattle.std.proofs.lemmas.Grind.{common_steps}
use Rattle.std.proofs.lemmas.List.{take-append-drop, drop-drop}
use Rattle.std.proofs.lemmas.Slice.Eq.{bytes_eq-Decides}
use Rattle.std.specs.Prelude.{IfOk, IsErr, OnOk, OnErr, unwrap_or, slice_get, option_and_then}
use Rattle.std.specs.Option.{option_map}
use Rattle.std.specs.Str.{bytes_eq}
use Rattle.gm_ports.specs.MemFiles.{MemFileState, MemFilesState, place_of, held_under, text_at, holding, unread_of, written_of, output_name, writing, IsOpenedOut}
use Rattle.gm_ports.specs.Schedule.{ScheduleState}
use Rattle.gm_ports.proofs.MemFilesLemmas.{position-some, position-none, file_at_place, held_under-place, text_at-held, slice_get-holding, place_of-holding, file_named-holding}

-- an opened input is unread from its front on
unread_place : (files : List MemFileState) (name : List ℕ) (place : Option ℕ) → place_of files name ≡ place → ¬ (held_under files name ≡ None)
    → Some (unwrap_or (option_map (λ i. drop 0 (text_at files i)) place) []) ≡ held_under files name
unread_place files name None is held =
    absurd (held (ap (λ (f : Option MemFileState). option_and_then (λ (g : MemFileState). g.bytes) f) (position-none (λ (f : MemFileState). bytes_eq f.name name) files is)))
unread_place files name (Some i) is held = text_at-held files name i is held

pub unread_of-opened : (old new : MemFilesState) (name : List ℕ) (reads : ScheduleState)
    → new ≡ record old { input = place_of old.files name; at = 0; reads = reads } → ¬ (held_under old.files name ≡ None)
    → Some (unread_of new) ≡ held_under old.files name
unread_of-opened old new name reads now held =
    subst (λ (s : MemFilesState). Some (unread_of s) ≡ held_under old.files name) (sym now) (unread_place old.files name (place_of old.files name) refl held)

split_at : (text : List ℕ) (at n : ℕ) → drop at text ≡ take n (drop at text) ++ drop (at + n) text
split_at text at n = sym (take-append-drop n (drop at text)) ∙ ap (λ (rest : List ℕ). take n (drop at text) ++ rest) (drop-drop n at text)

-- a read takes from the front of what is unread
unread_rest : (files : List MemFileState) (input : Option ℕ) (at n : ℕ)
    → unwrap_or (option_map (λ i. drop at (text_at files i)) input) []
    ≡ take n (unwrap_or (option_map (λ i. drop at (text_at files i)) input) []) ++ unwrap_or (option_map (λ i. drop (at + n) (text_at files i)) input) []
unread_rest files None at n = grind (arith, common_steps)
unread_rest files (Some i) at n = split_at (text_at files i) at n

pub unread_of-read : (old new : MemFilesState) (n : ℕ) (given : List ℕ) (reads : ScheduleState)
    → new ≡ record old { at = old.at + n; reads = reads } → given ≡ take n (unread_of old)
    → Some (unread_of old) ≡ Some (given ++ unread_of new)
unread_of-read old new n given reads now front =
    subst (λ (s : MemFilesState). Some (unread_of old) ≡ Some (given ++ unread_of s)) (sym now)
    (ap Some (unread_rest old.files old.input old.at n) ∙ ap (λ (g : List ℕ). Some (g ++ unwrap_or (option_map (λ i. drop (old.at + n) (text_at old.files i)) old.input) [])) (sym front))

-- other bytes at a place leave each name
pub name_at-holding : (files : List MemFileState) (i j : ℕ) (bytes : List ℕ)
    → option_map (λ (f : MemFileState). f.name) (slice_get (holding files i bytes) j) ≡ option_map (λ (f : MemFileState). f.name) (slice_get files j)
name_at-holding [] i j bytes = refl
name_at-holding (f ∷ fs) zero zero bytes = refl
name_at-holding (f ∷ fs) zero (suc j) bytes = refl
name_at-holding (f ∷ fs) (suc i) zero bytes = refl
name_at-holding (f ∷ fs) (suc i) (suc j) bytes = name_at-holding fs i j bytes

pub text_at-holding : (files : List MemFileState) (i : ℕ) (bytes : List ℕ) → i < length files → text_at (holding files i bytes) i ≡ bytes
text_at-holding [] i bytes inside = absurd (omega arith)
text_at-holding (f ∷ fs) zero bytes inside = refl
text_at-holding (f ∷ fs) (suc i) bytes inside = text_at-holding fs i bytes (omega arith)

-- past the end there is nothing to change
holding-past : (files : List MemFileState) (i : ℕ) (bytes : List ℕ) → slice_get files i ≡ None → holding files i bytes ≡ files
holding-past [] i bytes past = refl
holding-past (f ∷ fs) zero bytes past = cc
holding-past (f ∷ fs) (suc i) bytes past = ap (λ (more : List MemFileState). f ∷ more) (holding-past fs i bytes past)

-- a name that is not the changed file's holds what it held
pub held_under-holding : (files : List MemFileState) (i : ℕ) (bytes name : List ℕ)
    → ¬ (option_map (λ (f : MemFileState). f.name) (slice_get files i) ≡ Some name) → held_under (holding files i bytes) name ≡ held_under files name
held_under-holding files i bytes name other = go (slice_get files i) refl
  where
    go : (there : Option MemFileState) → slice_get files i ≡ there → held_under (holding files i bytes) name ≡ held_under files name
    go None is = ap (λ (fs : List MemFileState). held_under fs name) (holding-past files i bytes is)
    go (Some f) is =
        ap (λ (found : Option MemFileState). option_and_then (λ (g : MemFileState). g.bytes) found) (file_named-holding files i f bytes name is (not_named f is))
      where
        not_named : (f : MemFileState) → slice_get files i ≡ Some f → bytes_eq f.name name ≡ false
        not_named f is = elim (bytes_eq f.name name) as (λ b. bytes_eq f.name name ≡ b → b ≡ false) [
          | true ↦ λ same. absurd (other (ap (option_map (λ (g : MemFileState). g.name)) is ∙ ap Some ((bytes_eq-Decides f.name name).0 same)))
          | false ↦ λ _. refl
        ] refl

-- a write changes no name but the output's
pub held_under-writing : (s : MemFilesState) (bytes name : List ℕ) → s.is_open ≡ true → ¬ (output_name s ≡ Some name)
    → held_under (writing s bytes) name ≡ held_under s.files name
held_under-writing s bytes name opened other = go s.output refl
  where
    go : (output : Option ℕ) → s.output ≡ output → held_under (unwrap_or (option_map (λ i. holding s.files i bytes) output) s.files) name ≡ held_under s.files name
    go None is = refl
    go (Some i) is = held_under-holding s.files i bytes name (λ named. other (
        ap (λ (b : Bool). if b then option_map (λ (f : MemFileState). f.name) (option_and_then (slice_get s.files) s.output) else None) opened
        ∙ ap (λ (o : Option ℕ). option_map (λ (f : MemFileState). f.name) (option_and_then (slice_get s.files) o)) is ∙ named))

-- a write leaves the output's name
names_stay : (files : List MemFileState) (output : Option ℕ) (bytes : List ℕ)
    → option_map (λ (f : MemFileState). f.name) (option_and_then (slice_get (unwrap_or (option_map (λ i. holding files i bytes) output) files)) output)
    ≡ option_map (λ (f : MemFileState). f.name) (option_and_then (slice_get files) output)
names_stay files None bytes = refl
names_stay files (Some i) bytes = name_at-holding files i i bytes

pub output_name-writing : (old new : MemFilesState) (bytes : List ℕ) (writes : ScheduleState)
    → new ≡ record old { files = writing old bytes; writes = writes } → output_name new ≡ output_name old
output_name-writing old new bytes writes now =
    subst (λ (s : MemFilesState). output_name s ≡ output_name old) (sym now)
    (ap (λ (n : Option (List ℕ)). if old.is_open then n else None) (names_stay old.files old.output bytes))

-- what an opened output is, has, and leaves
pub output_name-opened : (old new : MemFilesState) (name : List ℕ) → IsOpenedOut old new name → output_name new ≡ Some name
output_name-opened old new name out =
    let at_place = file_at_place old.files name out.place out.named in
    subst (λ (s : MemFilesState). output_name s ≡ Some name) (sym out.opened)
    (name_at-holding old.files out.place out.place [] ∙ ap (option_map (λ (f : MemFileState). f.name)) at_place.1 ∙ ap Some at_place.2)

pub written_of-opened : (old new : MemFilesState) (name : List ℕ) → IsOpenedOut old new name → written_of new ≡ []
written_of-opened old new name out =
    subst (λ (s : MemFilesState). written_of s ≡ []) (sym out.opened)
    (text_at-holding old.files out.place [] (position-some (λ (f : MemFileState). bytes_eq f.name name) old.files out.place out.named).0)

pub held_under-opened : (old new : MemFilesState) (name : List ℕ) → IsOpenedOut old new name → held_under new.files name ≡ Some []
held_under-opened old new name out =
    let at_place = file_at_place old.files name out.place out.named in
    subst (λ (s : MemFilesState). held_under s.files name ≡ Some []) (sym out.opened)
    (held_under-place (holding old.files out.place []) out.place name (place_of-holding old.files out.place [] name ∙ out.named)
    ∙ ap (option_and_then (λ (f : MemFileState). f.bytes)) (slice_get-holding old.files out.place at_place.0 [] at_place.1))

pub held_under-others : (old new : MemFilesState) (name other : List ℕ) → IsOpenedOut old new name → ¬ (other ≡ name)
    → held_under new.files other ≡ held_under old.files other
held_under-others old new name other out differs =
    let at_place = file_at_place old.files name out.place out.named in
    subst (λ (s : MemFilesState). held_under s.files other ≡ held_under old.files other) (sym out.opened)
    (held_under-holding old.files out.place [] other
    (λ same. let is_other : Some at_place.0.name ≡ Some other = sym (ap (option_map (λ (f : MemFileState). f.name)) at_place.1) ∙ same in
    differs (let named = at_place.2 in cc)))

-- a fact that follows where a call went well, and one that follows either way
pub on_ok : {T E : Type 0} (r : Result T E) (A P : Type 0) → OnOk r A → ((x : T) → r ≡ Ok x → A → P) → OnOk r P
on_ok (Ok x) A P fact go = go x refl fact
on_ok (Err e) A P fact go = tt

pub if_ok : {T E : Type 0} (r : Result T E) (A B P : T → Type 0) → IfOk r A → IfOk r B → ((x : T) → A x → B x → P x) → IfOk r P
if_ok (Ok x) A B P first second go = go x first second
if_ok (Err e) A B P first second go = tt

pub either_way : {T E : Type 0} (r : Result T E) (A : T → Type 0) (B P : Type 0) → IfOk r A → OnErr r B
    → ((x : T) → r ≡ Ok x → A x → P) → (B → P) → P
either_way (Ok x) A B P ok err went failed = went x refl ok
either_way (Err e) A B P ok err went failed = failed err

pub true_of : (b : Bool) → ¬ (b ≡ false) → b ≡ true
true_of true some = refl
true_of false some = absurd (some refl)

pub not_failed : {T E : Type 0} (r : Result T E) (x : T) → r ≡ Ok x → IsErr r → ⊥
not_failed (Ok y) x is failed = cc
not_failed (Err e) x is failed = cc
