-- Lists of frames.
use Rattle.std.proofs.Common.{◌≡◌, ℕ, ◌+◌, ◌-◌, ◌^◌, ◌<◌, List, [], ◌∷◌, ◌++◌, length, take, drop, refl, sym, ◌∙◌, ap, arith, length-append}
use Rattle.std.proofs.lemmas.List.{append_assoc, append-nil, take_at, take_all, drop_at, drop_all}
use Rattle.std.proofs.lemmas.Nat.{from_be_bytes-to_be_bytes_8}
use Rattle.std.specs.Int.{from_be_bytes, w64}
use Rattle.disk_frames.specs.Frames.{length_bytes, body, frames, piece_of, framed}

pub length-length_bytes : (n : ℕ) → length (length_bytes n) ≡ 8
unfolding length_bytes
length-length_bytes n = refl

-- a length is read back
pub length_bytes-injective : (m n : ℕ) → m < 2 ^ 64 → n < 2 ^ 64 → length_bytes m ≡ length_bytes n → m ≡ n
unfolding length_bytes
length_bytes-injective m n small fits same =
    sym (from_be_bytes-to_be_bytes_8 m small) ∙ ap (λ (bytes : List ℕ). from_be_bytes w64 bytes) same ∙ from_be_bytes-to_be_bytes_8 n fits

pub length-body : (text : List ℕ) → length (body text) ≡ length text + 8
length-body text = omega (arith, length-append (length_bytes (length text)) text, length-length_bytes (length text))

-- one frame more
pub frames-push : (texts : List (List ℕ)) (text rest : List ℕ) → frames (texts ++ text ∷ []) ++ rest ≡ frames texts ++ 1 ∷ (body text ++ rest)
frames-push [] text rest = ap (λ (l : List ℕ). 1 ∷ (l ++ rest)) (append-nil (body text))
frames-push (t ∷ texts) text rest =
    ap (λ (l : List ℕ). 1 ∷ l)
    (append_assoc (body t) (frames (texts ++ text ∷ [])) rest ∙ ap (λ (l : List ℕ). body t ++ l) (frames-push texts text rest) ∙ sym (append_assoc (body t) (frames texts) (1 ∷ (body text ++ rest))))

pub length-frames-push : (texts : List (List ℕ)) (text : List ℕ) → length (frames (texts ++ text ∷ [])) ≡ length (frames texts) + 9 + length text
length-frames-push texts text =
    let split : frames (texts ++ text ∷ []) ≡ frames texts ++ 1 ∷ body text =
    sym (append-nil (frames (texts ++ text ∷ []))) ∙ frames-push texts text [] ∙ ap (λ (l : List ℕ). frames texts ++ 1 ∷ l) (append-nil (body text)) in
    omega (arith, ap length split, length-append (frames texts) (1 ∷ body text), length-body text)

-- what an append writes gives its text back
pub length-piece_of : (text : List ℕ) → length (piece_of text) ≡ length text + 9
length-piece_of text = omega (arith, length-append (body text) (0 ∷ []), length-body text)

pub framed-piece_of : (text : List ℕ) → framed (piece_of text) ≡ text
framed-piece_of text =
    let size : length (piece_of text) - 9 ≡ length text = omega (arith, length-piece_of text) in
    let rest : drop 8 (piece_of text) ≡ text ++ 0 ∷ [] =
    ap (λ (l : List ℕ). drop 8 l) (append_assoc (length_bytes (length text)) text (0 ∷ [])) ∙ drop_at (length_bytes (length text)) (text ++ 0 ∷ []) 8 (length-length_bytes (length text)) in
    (λ i. take (size i) (rest i)) ∙ take_at text (0 ∷ []) (length text) refl

pub piece_of-framed : (piece text : List ℕ) → piece ≡ piece_of text → piece ≡ piece_of (framed piece)
piece_of-framed piece text is = is ∙ ap piece_of (sym (framed-piece_of text) ∙ ap framed (sym is))

-- bytes in the place of as many others
pub all_written : (items new : List ℕ) (n : ℕ) → length new ≡ length items → n ≡ length items → take n (new ++ drop (length new) items) ≡ new
all_written items new n same size =
    ap (λ (l : List ℕ). take n (new ++ l)) (drop_all (length new) items (omega arith)) ∙ ap (λ (l : List ℕ). take n l) (append-nil new) ∙ take_all n new (omega arith)
