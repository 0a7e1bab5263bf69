-- The next answer, by what is left at the place where white space and comments end.
use Rattle.std.proofs.Common.{◌≡◌, ℕ, ◌+◌, ◌-◌, ◌<◌, ◌≤◌, false, List, [], ◌∷◌, length, get_or, drop, refl, sym, ◌∙◌, ap, arith, add-one, drop-cons, Some}
use Rattle.std.proofs.lemmas.List.{drop-drop, length-drop}
use Rattle.token_text.specs.Kinds.{Kind, Word, Number, OpenBrace, CloseBrace, kind_of}
use Rattle.token_text.specs.Tokens.{is_space, token_at, token_bytes}
use Rattle.token_text.specs.Left.{Left}
use Rattle.token_text.specs.Answers.{Tells, place, token}
use Rattle.token_text.specs.Run.{first_kind, kind_found}
use Rattle.token_text.specs.Cursor.{IsWithin, left_at, left_from}
use Rattle.token_text.specs.declared.answer.Found.{Found}
use Rattle.token_text.specs.declared.answer.Found.TheVariants as found
use Rattle.token_text.specs.declared.cursor.Before.{Before}
use Rattle.token_text.specs.declared.cursor.Before.TheVariants.{Others}
use Rattle.token_text.specs.declared.cursor.Cursor.{Cursor}
use Rattle.token_text.proofs.CursorLemmas.{is_taken}

-- no white space comes first
abbrev pub IsSolid : List ℕ → Type 0
IsSolid [] = Unit {0}
IsSolid (b ∷ bs) = is_space b ≡ false

-- what is left behind the token that begins here, if one does
abbrev behind : ℕ → ℕ → List ℕ → Left
behind line byte bytes = left_from Others line (byte + length (token_bytes bytes)) (drop (length (token_bytes bytes)) bytes)

ends_here : (line byte : ℕ) (old new : Left) → old ≡ left_from Others line byte [] → new ≡ behind line byte []
    → (old.tokens ≡ []) × (new.tokens ≡ []) × (place line byte ≡ old.end)
ends_here line byte old new was is =
    let same : byte ≡ byte + 0 = omega arith in
    (ap (λ (l : Left). l.tokens) was, ap (λ (l : Left). l.tokens) is, ap (place line) same ∙ sym (ap (λ (l : Left). l.end) was))

begins_here : (line byte b : ℕ) (bs : List ℕ) (old new : Left) (k : Kind) → old ≡ left_from Others line byte (b ∷ bs) → new ≡ behind line byte (b ∷ bs)
    → is_space b ≡ false → Some k ≡ Some (kind_of (token_bytes (b ∷ bs))) → old.tokens ≡ token k line byte ∷ new.tokens
begins_here line byte b bs old new k was is solid kind =
    let same : k ≡ kind_of (token_bytes (b ∷ bs)) = cc in
    ap (λ (l : Left). l.tokens) was ∙ (is_taken line byte b bs solid).tokens
    ∙ ap (λ (l : Left). token_at line byte (b ∷ bs) ∷ l.tokens) (sym is)
    ∙ ap (λ k. token k line byte ∷ new.tokens) (sym same)

tells : (line byte : ℕ) (bytes : List ℕ) (f : Found) (old new : Left) → old ≡ left_from Others line byte bytes → new ≡ behind line byte bytes
    → IsSolid bytes → kind_found f ≡ first_kind bytes → Tells old new line byte f
tells line byte [] found.End old new was is solid kind = ends_here line byte old new was is
tells line byte [] (found.Word w) old new was is solid kind = cc
tells line byte [] (found.Number n) old new was is solid kind = cc
tells line byte [] found.OpenBrace old new was is solid kind = cc
tells line byte [] found.CloseBrace old new was is solid kind = cc
tells line byte (b ∷ bs) found.End old new was is solid kind = let none : ⊥ = cc in absurd none
tells line byte (b ∷ bs) (found.Word w) old new was is solid kind = begins_here line byte b bs old new (Word w.now) was is solid kind
tells line byte (b ∷ bs) (found.Number n) old new was is solid kind = begins_here line byte b bs old new (Number n) was is solid kind
tells line byte (b ∷ bs) found.OpenBrace old new was is solid kind = begins_here line byte b bs old new OpenBrace was is solid kind
tells line byte (b ∷ bs) found.CloseBrace old new was is solid kind = begins_here line byte b bs old new CloseBrace was is solid kind

end_stays : (line byte : ℕ) (bytes : List ℕ) → IsSolid bytes → (behind line byte bytes).end ≡ (left_from Others line byte bytes).end
end_stays line byte [] solid = let same : byte + 0 + 0 ≡ byte + 0 = omega arith in ap (place line) same
end_stays line byte (b ∷ bs) solid = (is_taken line byte b bs solid).end

solid_at : (text bytes : List ℕ) (at : ℕ) → drop at text ≡ bytes → (at < length text → is_space (get_or text at 0) ≡ false) → IsSolid bytes
solid_at text [] at e stops = tt
solid_at text (b ∷ bs) at e stops =
    let long : length (drop at text) ≡ length (b ∷ bs) = ap length e in
    let within : at < length text = omega (arith, long, length-drop at text) in
    let first : get_or text at 0 ∷ drop (at + 1) text ≡ b ∷ bs = sym (rw (add-one, drop-cons text at 0) refl) ∙ e in
    let same : get_or text at 0 ≡ b = cc in
    ap is_space (sym same) ∙ stops within

-- the cursor behind what is found
behind_at : (text : List ℕ) (start : Cursor) (end : ℕ) → start.before ≡ Others → start.line_start ≤ start.at
    → end ≡ start.at + length (token_bytes (drop start.at text))
    → left_at text (record start { at = end }) ≡ behind start.line (start.at - start.line_start + 1) (drop start.at text)
behind_at text start end others within ends =
    let n = length (token_bytes (drop start.at text)) in
    let far : end - start.line_start + 1 ≡ start.at - start.line_start + 1 + n = omega (arith, ends) in
    ap (λ (before : Before). left_from before start.line (end - start.line_start + 1) (drop end text)) others
    ∙ ap (λ k. left_from Others start.line k (drop end text)) far
    ∙ ap (λ k. left_from Others start.line (start.at - start.line_start + 1 + n) (drop k text)) ends
    ∙ ap (left_from Others start.line (start.at - start.line_start + 1 + n)) (sym (drop-drop n start.at text))

-- the answer, and what it leaves
pub record IsNext (old new : Left) (line byte : ℕ) (f : Found) : Type 0 where
  pub found : Tells old new line byte f
  pub end : new.end ≡ old.end

pub is_next : (text : List ℕ) (old : Left) (start : Cursor) (f : Found) (end : ℕ) → left_at text start ≡ old → start.before ≡ Others
    → IsWithin text start → (start.at < length text → is_space (get_or text start.at 0) ≡ false)
    → kind_found f ≡ first_kind (drop start.at text) → end ≡ start.at + length (token_bytes (drop start.at text))
    → IsNext old (left_at text (record start { at = end })) start.line (start.at - start.line_start + 1) f
is_next text old start f end left others within stops kind ends =
    let byte = start.at - start.line_start + 1 in
    let bytes = drop start.at text in
    let was : old ≡ left_from Others start.line byte bytes =
    sym left ∙ ap (λ (before : Before). left_from before start.line byte bytes) others in
    let is = behind_at text start end others within.start ends in
    let solid = solid_at text bytes start.at refl stops in
    record {
      found = tells start.line byte bytes f old (left_at text (record start { at = end })) was is solid kind;
      end = ap (λ (l : Left). l.end) is ∙ end_stays start.line byte bytes solid ∙ sym (ap (λ (l : Left). l.end) was);
    }
