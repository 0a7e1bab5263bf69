-- What the first bytes of a disk say of what stands at a gate.
use Rattle.std.proofs.Common.{◌≡◌, ◌⊎◌, ⊎_elim, ℕ, zero, suc, ◌+◌, ◌-◌, ◌^◌, ◌<◌, ◌≤◌, List, [], ◌∷◌, ◌++◌, length, get_or, take, drop, Option, Some, None, IfSome, refl, sym, ◌∙◌, ap, arith, append_assoc, length-append, length-drop, take-append-drop}
use Rattle.std.proofs.lemmas.List.{take_at, drop_at, take_all, drop_all, drop_more, drop-drop, take-take, drop-take, drop-append-le, length-take-le, append-nil}
use Rattle.disk_frames.specs.Frames.{length_bytes, body}
use Rattle.disk_frames.specs.Salvage.{first_of}
use Rattle.disk_frames.specs.Reading.{AreFirst, EndsBy, HasTextAt, HasNoTextAt}
use Rattle.disk_frames.proofs.FrameLemmas.{length-length_bytes, length_bytes-injective, length-body}

-- ---- reading on

-- a front of a text is a shorter front and what comes next
take_sum : (at n : ℕ) (text : List ℕ) → take (at + n) text ≡ take at text ++ take n (drop at text)
take_sum at n text =
    sym (take-append-drop at (take (at + n) text)) ∙ (λ i. take-take at (at + n) text (omega arith) i ++ drop-take at n text i)

-- one read more
pub read_more : (told : Option (List ℕ)) (bytes into more : List ℕ) (n : ℕ) → AreFirst told bytes
    → IfSome told (λ text. take n into ≡ take n (drop (length bytes) text)) → n ≤ length into → more ≡ bytes ++ take n into → AreFirst told more
read_more None bytes into more n so_far read fits more_is = tt
read_more (Some text) bytes into more n so_far read fits more_is =
    let size : length more ≡ length bytes + n = omega (arith, ap length more_is, length-append bytes (take n into), length-take-le n into fits) in
    more_is ∙ (λ i. so_far i ++ read i) ∙ sym (take_sum (length bytes) n text) ∙ ap (λ (k : ℕ). take k text) (sym size)

-- ---- bytes that a gate stands in

-- the text is its first bytes and the others
split : (text bytes : List ℕ) → bytes ≡ take (length bytes) text → text ≡ bytes ++ drop (length bytes) text
split text bytes first = sym (take-append-drop (length bytes) text) ∙ ap (λ (l : List ℕ). l ++ drop (length bytes) text) (sym first)

-- from a place within the first bytes on it is the rest of them and the others
split_at : (text bytes : List ℕ) (at : ℕ) → bytes ≡ take (length bytes) text → at ≤ length bytes → drop at text ≡ drop at bytes ++ drop (length bytes) text
split_at text bytes at first inside =
    ap (λ (l : List ℕ). drop at l) (split text bytes first) ∙ drop-append-le at bytes (drop (length bytes) text) inside

-- no byte stands behind the last one
pub nothing_there : (told : Option (List ℕ)) (bytes : List ℕ) (at wanted : ℕ) → (wanted ≤ length bytes) ⊎ EndsBy told (length bytes) → length bytes ≤ at → at < wanted
    → IfSome told (λ text. None ≡ first_of (drop at text))
nothing_there None bytes at wanted reaches past short = tt
nothing_there (Some text) bytes at wanted reaches past short =
    let whole : length text ≤ length bytes = ⊎_elim (λ enough. absurd (omega arith)) (λ all. all) reaches in
    ap first_of (sym (drop_all at text (omega arith)))

-- the gate is the byte there
pub gate_there : (told : Option (List ℕ)) (bytes : List ℕ) (at : ℕ) → AreFirst told bytes → at < length bytes → IfSome told (λ text. Some (get_or bytes at 0) ≡ first_of (drop at text))
gate_there None bytes at first inside = tt
gate_there (Some text) bytes at first inside =
    ap first_of (ap (λ (l : List ℕ). l ++ drop (length bytes) text) (sym (drop_more bytes at 0 inside)) ∙ sym (split_at text bytes at first (omega arith)))

-- too few bytes for a length
pub no_length : (told : Option (List ℕ)) (bytes : List ℕ) (at wanted : ℕ) → AreFirst told bytes → (wanted ≤ length bytes) ⊎ EndsBy told (length bytes)
    → at < length bytes → get_or bytes at 0 ≡ 1 → length (drop (at + 1) bytes) < 8 → wanted ≡ at + 9 → IfSome told (λ text. HasNoTextAt text at)
no_length None bytes at wanted first reaches inside opened short wanted_is = tt
no_length (Some text) bytes at wanted first reaches inside opened short wanted_is =
    let few : length bytes < at + 9 = omega (arith, length-drop (at + 1) bytes) in
    let whole : length text ≤ length bytes = ⊎_elim (λ enough. absurd (omega arith)) (λ all. all) reaches in
    let none : drop (length bytes) text ≡ [] = drop_all (length bytes) text whole in
    let parts : drop at text ≡ 1 ∷ drop (at + 1) bytes =
    split_at text bytes at first (omega arith) ∙ (λ i. drop_more bytes at 0 inside i ++ none i) ∙ append-nil (get_or bytes at 0 ∷ drop (at + 1) bytes)
    ∙ ap (λ (b : ℕ). b ∷ drop (at + 1) bytes) opened in
    record {
      behind = drop (at + 1) bytes;
      parts = parts;
      none = λ found rest small gate is. absurd (omega (arith, ap length is, length-append (body found) rest, length-body found));
    }

-- an open gate and a length
pub record HasHead (text : List ℕ) (at size : ℕ) : Type 0 where
  pub parts : drop at text ≡ 1 ∷ (length_bytes size ++ drop (at + 9) text)

pub head_there : (told : Option (List ℕ)) (bytes : List ℕ) (at size : ℕ) → AreFirst told bytes → at < length bytes → get_or bytes at 0 ≡ 1
    → 8 ≤ length (drop (at + 1) bytes) → length_bytes size ≡ take 8 (drop (at + 1) bytes) → IfSome told (λ text. HasHead text at size)
head_there None bytes at size first inside opened long is = tt
head_there (Some text) bytes at size first inside opened long is =
    let others = drop (length bytes) text in
    let enough : at + 9 ≤ length bytes = omega (arith, length-drop (at + 1) bytes) in
    let behind : drop 8 (drop (at + 1) bytes) ≡ drop (at + 9) bytes = drop-drop 8 (at + 1) bytes ∙ ap (λ (k : ℕ). drop k bytes) (omega arith) in
    let rest : drop (at + 1) bytes ≡ length_bytes size ++ drop (at + 9) bytes = sym (take-append-drop 8 (drop (at + 1) bytes)) ∙ (λ i. sym is i ++ behind i) in
    let front : drop at bytes ≡ 1 ∷ (length_bytes size ++ drop (at + 9) bytes) = drop_more bytes at 0 inside ∙ (λ i. opened i ∷ rest i) in
    record {
      parts =
          split_at text bytes at first (omega arith) ∙ ap (λ (l : List ℕ). l ++ others) front
          ∙ ap (λ (l : List ℕ). 1 ∷ l) (append_assoc (length_bytes size) (drop (at + 9) bytes) others ∙ ap (λ (l : List ℕ). length_bytes size ++ l) (sym (split_at text bytes (at + 9) first enough)));
    }

-- a length that runs to the end of the disk or past it
pub no_frame : (told : Option (List ℕ)) (at size disk_len : ℕ) → IfSome told (λ text. HasHead text at size) → IfSome told (λ text. disk_len ≡ length text)
    → size < 2 ^ 64 → disk_len - (at + 9) ≤ size → IfSome told (λ text. HasNoTextAt text at)
no_frame None at size disk_len head sized fits long = tt
no_frame (Some text) at size disk_len head sized fits long = record {
  behind = length_bytes size ++ drop (at + 9) text;
  parts = head.parts;
  none = λ found rest small gate same.
      let parts : length_bytes size ++ drop (at + 9) text ≡ length_bytes (length found) ++ (found ++ rest) = same ∙ append_assoc (length_bytes (length found)) found rest in
      let heads : length_bytes size ≡ length_bytes (length found) =
      sym (take_at (length_bytes size) (drop (at + 9) text) 8 (length-length_bytes size)) ∙ ap (λ (l : List ℕ). take 8 l) parts
      ∙ take_at (length_bytes (length found)) (found ++ rest) 8 (length-length_bytes (length found)) in
      let tails : drop (at + 9) text ≡ found ++ rest =
      sym (drop_at (length_bytes size) (drop (at + 9) text) 8 (length-length_bytes size)) ∙ ap (λ (l : List ℕ). drop 8 l) parts
      ∙ drop_at (length_bytes (length found)) (found ++ rest) 8 (length-length_bytes (length found)) in
      let sizes : size ≡ length found = length_bytes-injective size (length found) fits small heads in
      absurd (omega (arith, sized, ap length tails, length-append found rest, length-drop (at + 9) text));
}

-- fewer bytes than the disk said: one that tells says what it has
pub not_cut_short : (told : Option (List ℕ)) (bytes : List ℕ) (at size disk_len wanted : ℕ) → IfSome told (λ text. disk_len ≡ length text) → size < disk_len - (at + 9)
    → (wanted ≤ length bytes) ⊎ EndsBy told (length bytes) → wanted ≡ at + 9 + size + 1 → length bytes ≤ at + 9 + size → IfSome told (λ text. HasNoTextAt text at)
not_cut_short None bytes at size disk_len wanted sized room reaches wanted_is short = tt
not_cut_short (Some text) bytes at size disk_len wanted sized room reaches wanted_is short =
    let whole : length text ≤ length bytes = ⊎_elim (λ enough. absurd (omega arith)) (λ all. all) reaches in
    absurd (omega (arith, sized))

-- a frame that was read whole
pub text_there : (told : Option (List ℕ)) (bytes : List ℕ) (at size : ℕ) → AreFirst told bytes → IfSome told (λ text. HasHead text at size) → at + 9 + size < length bytes
    → IfSome told (λ text. HasTextAt text at (take size (drop (at + 9) bytes)))
text_there None bytes at size first head inside = tt
text_there (Some text) bytes at size first head inside =
    let others = drop (length bytes) text in
    let found = take size (drop (at + 9) bytes) in
    let rest = drop size (drop (at + 9) bytes) ++ others in
    let long : length found ≡ size = length-take-le size (drop (at + 9) bytes) (omega (arith, length-drop (at + 9) bytes)) in
    let behind : drop (at + 9) text ≡ found ++ rest =
    split_at text bytes (at + 9) first (omega arith) ∙ ap (λ (l : List ℕ). l ++ others) (sym (take-append-drop size (drop (at + 9) bytes)))
    ∙ append_assoc found (drop size (drop (at + 9) bytes)) others in
    record {
      rest = rest;
      parts = head.parts ∙ ap (λ (l : List ℕ). 1 ∷ l) ((λ i. length_bytes (sym long i) ++ behind i) ∙ sym (append_assoc (length_bytes (length found)) found rest));
      gate = omega (arith, length-append (drop size (drop (at + 9) bytes)) others, length-drop size (drop (at + 9) bytes), length-drop (at + 9) bytes);
    }

-- ---- bytes

-- the first eight of a list of bytes are bytes
pub first_eight : (xs : List ℕ) → ((i : ℕ) → get_or xs i 0 < 256) → (i : ℕ)
    → get_or (get_or xs 0 0 ∷ get_or xs 1 0 ∷ get_or xs 2 0 ∷ get_or xs 3 0 ∷ get_or xs 4 0 ∷ get_or xs 5 0 ∷ get_or xs 6 0 ∷ get_or xs 7 0 ∷ []) i 0 < 256
first_eight xs all zero = all 0
first_eight xs all (suc zero) = all 1
first_eight xs all (suc (suc zero)) = all 2
first_eight xs all (suc (suc (suc zero))) = all 3
first_eight xs all (suc (suc (suc (suc zero)))) = all 4
first_eight xs all (suc (suc (suc (suc (suc zero))))) = all 5
first_eight xs all (suc (suc (suc (suc (suc (suc zero)))))) = all 6
first_eight xs all (suc (suc (suc (suc (suc (suc (suc zero))))))) = all 7
first_eight xs all (suc (suc (suc (suc (suc (suc (suc (suc i)))))))) = omega arith

-- they are its front
pub eight_are_first : (xs : List ℕ) → 8 ≤ length xs
    → get_or xs 0 0 ∷ get_or xs 1 0 ∷ get_or xs 2 0 ∷ get_or xs 3 0 ∷ get_or xs 4 0 ∷ get_or xs 5 0 ∷ get_or xs 6 0 ∷ get_or xs 7 0 ∷ [] ≡ take 8 xs
eight_are_first [] long = absurd (omega arith)
eight_are_first (a ∷ []) long = absurd (omega arith)
eight_are_first (a ∷ b ∷ []) long = absurd (omega arith)
eight_are_first (a ∷ b ∷ c ∷ []) long = absurd (omega arith)
eight_are_first (a ∷ b ∷ c ∷ d ∷ []) long = absurd (omega arith)
eight_are_first (a ∷ b ∷ c ∷ d ∷ e ∷ []) long = absurd (omega arith)
eight_are_first (a ∷ b ∷ c ∷ d ∷ e ∷ f ∷ []) long = absurd (omega arith)
eight_are_first (a ∷ b ∷ c ∷ d ∷ e ∷ f ∷ g ∷ []) long = absurd (omega arith)
eight_are_first (a ∷ b ∷ c ∷ d ∷ e ∷ f ∷ g ∷ h ∷ rest) long = refl

-- ---- slices

-- a slice from a place on
pub sliced_from : (xs bytes : List ℕ) (at : ℕ) → xs ≡ bytes → take (length xs - at) (drop at xs) ≡ drop at bytes
sliced_from xs bytes at is = take_all (length xs - at) (drop at xs) (omega (arith, length-drop at xs)) ∙ ap (λ (l : List ℕ). drop at l) is

-- a slice of so many bytes
pub sliced : (xs bytes : List ℕ) (at size : ℕ) → xs ≡ bytes → take (at + size - at) (drop at xs) ≡ take size (drop at bytes)
sliced xs bytes at size is =
    let count : at + size - at ≡ size = omega arith in
    λ i. take (count i) (drop at (is i))
