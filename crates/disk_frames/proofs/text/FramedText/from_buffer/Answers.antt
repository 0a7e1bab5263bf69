use Rattle.std.proofs.Common.{◌≡◌, ◌∙◌, ap, ℕ, ◌-◌, ◌++◌, length, drop, List, [], ◌∷◌, arith, length-append, length-drop}
use Rattle.disk_frames.specs.Frames.{length_bytes, piece_of, framed}
use Rattle.disk_frames.proofs.FrameLemmas.{length-length_bytes, all_written, framed-piece_of, piece_of-framed}
use Rattle.disk_frames.proofs.text.FramedText.from_buffer.Goals as goal

-- the length stands in front of the text, and a closed gate behind it
pub invariant_of-result : goal.invariant_of-result
invariant_of-result c =
    let text : List ℕ = drop 8 c.args.buffer.items in
    let size : c.len.result - 8 ≡ length text = omega (arith, length-drop 8 c.args.buffer.items) in
    let front : c.put_length.new.bytes ≡ length_bytes (length text) ++ text =
    c.put_length.ensures ∙ (λ i. length_bytes (size i) ++ drop 8 (c.as_mut_slice.ensures.value i)) in
    let long : length c.put_length.new.bytes ≡ length c.args.buffer.items = omega (arith, ap length front, length-append (length_bytes (length text)) text, length-length_bytes (length text), length-drop 8 c.args.buffer.items, c.requires.front) in
    let is : c.push_reserved.new.self.items ≡ piece_of text =
    c.push_reserved.ensures.items ∙ ap (λ (l : List ℕ). l ++ 0 ∷ []) (all_written c.args.buffer.items c.put_length.new.bytes _ long (omega arith) ∙ front) in
    piece_of-framed c.push_reserved.new.self.items text is

pub returns-clause-text : goal.returns-clause-text
returns-clause-text c =
    let text : List ℕ = drop 8 c.args.buffer.items in
    let size : c.len.result - 8 ≡ length text = omega (arith, length-drop 8 c.args.buffer.items) in
    let front : c.put_length.new.bytes ≡ length_bytes (length text) ++ text =
    c.put_length.ensures ∙ (λ i. length_bytes (size i) ++ drop 8 (c.as_mut_slice.ensures.value i)) in
    let long : length c.put_length.new.bytes ≡ length c.args.buffer.items = omega (arith, ap length front, length-append (length_bytes (length text)) text, length-length_bytes (length text), length-drop 8 c.args.buffer.items, c.requires.front) in
    let is : c.push_reserved.new.self.items ≡ piece_of text =
    c.push_reserved.ensures.items ∙ ap (λ (l : List ℕ). l ++ 0 ∷ []) (all_written c.args.buffer.items c.put_length.new.bytes _ long (omega arith) ∙ front) in
    ap framed is ∙ framed-piece_of text
