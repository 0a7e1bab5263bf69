-- The bytes of a disk say in one way what a salvage gives.
use Rattle.std.proofs.Common.{◌≡◌, ◌≢◌, ℕ, ◌^◌, ◌<◌, List, [], ◌∷◌, ◌++◌, length, take, drop, Option, Some, refl, sym, ◌∙◌, ap, subst, arith, append_assoc}
use Rattle.std.proofs.lemmas.List.{take_at, drop_at}
use Rattle.disk_frames.specs.Frames.{length_bytes, body, frames, HoldsTexts}
use Rattle.disk_frames.specs.Salvage.{IsNext, AreNext, first_of, IsSalvaged, HasFrame, IsForeign}
use Rattle.disk_frames.proofs.FrameLemmas.{length-length_bytes, length_bytes-injective}

-- the length says where the text ends
pub body-injective : (text other rest after : List ℕ) → length text < 2 ^ 64 → length other < 2 ^ 64
    → body text ++ rest ≡ body other ++ after → (text ≡ other) × (rest ≡ after)
body-injective text other rest after small fits same =
    let left : body text ++ rest ≡ length_bytes (length text) ++ (text ++ rest) = append_assoc (length_bytes (length text)) text rest in
    let right : body other ++ after ≡ length_bytes (length other) ++ (other ++ after) = append_assoc (length_bytes (length other)) other after in
    let split : length_bytes (length text) ++ (text ++ rest) ≡ length_bytes (length other) ++ (other ++ after) = sym left ∙ same ∙ right in
    let heads : length_bytes (length text) ≡ length_bytes (length other) =
    sym (take_at (length_bytes (length text)) (text ++ rest) 8 (length-length_bytes (length text))) ∙ ap (λ (l : List ℕ). take 8 l) split
    ∙ take_at (length_bytes (length other)) (other ++ after) 8 (length-length_bytes (length other)) in
    let tails : text ++ rest ≡ other ++ after =
    sym (drop_at (length_bytes (length text)) (text ++ rest) 8 (length-length_bytes (length text))) ∙ ap (λ (l : List ℕ). drop 8 l) split
    ∙ drop_at (length_bytes (length other)) (other ++ after) 8 (length-length_bytes (length other)) in
    let sizes : length text ≡ length other = length_bytes-injective (length text) (length other) small fits heads in (
      sym (take_at text rest (length text) refl) ∙ ap (λ (l : List ℕ). take (length text) l) tails ∙ take_at other after (length text) (sym sizes),
      sym (drop_at text rest (length text) refl) ∙ ap (λ (l : List ℕ). drop (length text) l) tails ∙ drop_at other after (length text) (sym sizes),
    )

tail_of : (a b : ℕ) (xs ys : List ℕ) → a ∷ xs ≡ b ∷ ys → xs ≡ ys
tail_of a b xs ys e = cc

longer : (texts : List (List ℕ)) (behind : List ℕ) → 0 < length (frames texts ++ 1 ∷ behind)
longer [] behind = omega arith
longer (t ∷ texts) behind = omega arith

-- a list with one text more ends with a byte behind it
more_or_whole : (o : List ℕ) (others : List (List ℕ)) (rest : List ℕ) → (rest ≡ [] → o ∷ others ≡ []) → 0 < length (frames others ++ rest)
more_or_whole o (p ∷ others) rest whole = omega arith
more_or_whole o [] (b ∷ rest) whole = omega arith
more_or_whole o [] [] whole = let none = whole refl in cc

module _ {K : Type 0} (Fits : K → List ℕ → K → Type 0) where
  -- one text more
  pub AreNext-push : (first : K) (texts : List (List ℕ)) (kept : K) (text : List ℕ) (after : K)
      → AreNext Fits first texts kept → IsNext Fits kept text after → AreNext Fits first (texts ++ text ∷ []) after
  AreNext-push first [] kept text after all next = (after, subst (λ (k : K). IsNext Fits k text after) all next, refl)
  AreNext-push first (t ∷ texts) kept text after all next = (all.0, all.1, AreNext-push all.0 texts kept text after all.2 next)

  -- frames and a closed end stand in one way, whatever is kept
  pub frames-unique : (first other : K) (texts others : List (List ℕ)) (kept taken : K) (rest after : List ℕ)
      → AreNext Fits first texts kept → AreNext Fits other others taken → first_of rest ≢ Some 1 → first_of after ≢ Some 1
      → frames texts ++ rest ≡ frames others ++ after → (texts ≡ others) × (rest ≡ after)
  frames-unique first other [] [] kept taken rest after all each shut closed same = (refl, same)
  frames-unique first other [] (o ∷ others) kept taken rest after all each shut closed same = absurd (shut (ap first_of same))
  frames-unique first other (t ∷ texts) [] kept taken rest after all each shut closed same = absurd (closed (sym (ap first_of same)))
  frames-unique first other (t ∷ texts) (o ∷ others) kept taken rest after all each shut closed same =
      let bodies : body t ++ (frames texts ++ rest) ≡ body o ++ (frames others ++ after) =
      sym (append_assoc (body t) (frames texts) rest) ∙ tail_of 1 1 _ _ same ∙ append_assoc (body o) (frames others) after in
      let parts = body-injective t o (frames texts ++ rest) (frames others ++ after) all.1.size each.1.size bodies in
      let more = frames-unique all.0 each.0 texts others kept taken rest after all.2 each.2 shut closed parts.1 in
      ((λ i. parts.0 i ∷ more.0 i), more.1)

  -- a disk that holds texts which may come one after the other is salvaged with them
  pub HoldsTexts-salvaged : (first : K) (bytes : List ℕ) (texts : List (List ℕ)) (kept : K) (holds : HoldsTexts texts bytes) → AreNext Fits first texts kept
      → IsSalvaged Fits first bytes texts kept (length (frames texts)) (Some holds.gate)
  HoldsTexts-salvaged first bytes texts kept holds all = record {
    ends = record {
      rest = holds.gate ∷ holds.behind;
      parts = holds.parts;
      gate_is = refl;
      last_is = refl;
      closed = λ e. holds.closed cc;
      empty = λ e. cc;
    };
    next = all;
  }

  -- a text fits in one way
  module _ (one : (before : K) (text : List ℕ) (after other : K) → Fits before text after → Fits before text other → after ≡ other) where
    -- so what is kept after some texts is determined
    pub AreNext-one : (first : K) (texts : List (List ℕ)) (kept taken : K) → AreNext Fits first texts kept → AreNext Fits first texts taken → kept ≡ taken
    AreNext-one first [] kept taken all each = all ∙ sym each
    AreNext-one first (t ∷ texts) kept taken all each =
        let same : all.0 ≡ each.0 = one first t all.0 each.0 all.1.fits each.1.fits in
        AreNext-one all.0 texts kept taken all.2 (subst (λ (k : K). AreNext Fits k texts taken) (sym same) each.2)

    pub IsSalvaged-unique : (first : K) (bytes : List ℕ) (texts others : List (List ℕ)) (kept taken : K) (gate place : ℕ) (last byte : Option ℕ)
        → IsSalvaged Fits first bytes texts kept gate last → IsSalvaged Fits first bytes others taken place byte
        → (texts ≡ others) × (kept ≡ taken) × (gate ≡ place) × (last ≡ byte)
    IsSalvaged-unique first bytes texts others kept taken gate place last byte a b =
        let same = frames-unique first first texts others kept taken a.ends.rest b.ends.rest a.next b.next
        (λ e. a.ends.closed (a.ends.last_is ∙ e)) (λ e. b.ends.closed (b.ends.last_is ∙ e)) (sym a.ends.parts ∙ b.ends.parts) in (
          same.0,
          AreNext-one first texts kept taken a.next (subst (λ (l : List (List ℕ)). AreNext Fits first l taken) (sym same.0) b.next),
          a.ends.gate_is ∙ ap (λ (l : List (List ℕ)). length (frames l)) same.0 ∙ sym b.ends.gate_is,
          a.ends.last_is ∙ ap first_of same.1 ∙ sym b.ends.last_is,
        )

    -- what is next behind the same text, from the same
    step : (first : K) (t o : List ℕ) (others : List (List ℕ)) (next other taken : K) → t ≡ o → IsNext Fits first t next → IsNext Fits first o other
        → AreNext Fits other others taken → AreNext Fits next others taken
    step first t o others next other taken is a b each =
        let same : other ≡ next = one first o other next b.fits (subst (λ (u : List ℕ). Fits first u next) is a.fits) in
        subst (λ (k : K). AreNext Fits k others taken) same each

    -- frames that go on past an open gate have one there
    frames_go_on : (first : K) (texts others : List (List ℕ)) (kept taken : K) (behind rest : List ℕ)
        → AreNext Fits first texts kept → AreNext Fits first others taken → first_of rest ≢ Some 1 → (rest ≡ [] → others ≡ [])
        → frames texts ++ 1 ∷ behind ≡ frames others ++ rest → HasFrame Fits kept behind
    frames_go_on first [] [] kept taken behind rest all each shut whole same = absurd (shut (sym (ap first_of same)))
    frames_go_on first [] (o ∷ others) kept taken behind rest all each shut whole same =
        record {
          text = o;
          rest = frames others ++ rest;
          parts = tail_of 1 1 _ _ same ∙ append_assoc (body o) (frames others) rest;
          gate = more_or_whole o others rest whole;
          after = each.0;
          next = subst (λ (k : K). IsNext Fits k o each.0) (sym all) each.1;
        }
    frames_go_on first (t ∷ texts) [] kept taken behind rest all each shut whole same = absurd (shut (sym (ap first_of same)))
    frames_go_on first (t ∷ texts) (o ∷ others) kept taken behind rest all each shut whole same =
        let bodies : body t ++ (frames texts ++ 1 ∷ behind) ≡ body o ++ (frames others ++ rest) =
        sym (append_assoc (body t) (frames texts) (1 ∷ behind)) ∙ tail_of 1 1 _ _ same ∙ append_assoc (body o) (frames others) rest in
        let parts = body-injective t o (frames texts ++ 1 ∷ behind) (frames others ++ rest) all.1.size each.1.size bodies in
        frames_go_on all.0 texts others kept taken behind rest all.2 (step first t o others all.0 each.0 taken parts.0 all.1 each.1 each.2) shut
        (λ none. let clash = whole none in cc) parts.1

    -- bytes that a salvage reads to their end are not foreign
    pub IsSalvaged-not_foreign : (first : K) (bytes : List ℕ) (texts : List (List ℕ)) (kept : K) (gate at : ℕ) (last : Option ℕ)
        → IsSalvaged Fits first bytes texts kept gate last → IsForeign Fits first bytes at → ⊥
    IsSalvaged-not_foreign first bytes texts kept gate at last a b =
        b.fault (frames_go_on first b.texts texts b.kept kept b.behind a.ends.rest b.next a.next (λ e. a.ends.closed (a.ends.last_is ∙ e))
        (λ none. a.ends.empty (a.ends.last_is ∙ ap first_of none)) (sym b.parts ∙ a.ends.parts))

    -- a foreign disk is foreign at one place
    foreign_texts : (first : K) (texts others : List (List ℕ)) (kept taken : K) (behind beyond : List ℕ)
        → AreNext Fits first texts kept → AreNext Fits first others taken → ¬ HasFrame Fits kept behind → ¬ HasFrame Fits taken beyond
        → frames texts ++ 1 ∷ behind ≡ frames others ++ 1 ∷ beyond → texts ≡ others
    foreign_texts first [] [] kept taken behind beyond all each fault broken same = refl
    foreign_texts first [] (o ∷ others) kept taken behind beyond all each fault broken same = absurd (fault (record {
      text = o;
      rest = frames others ++ 1 ∷ beyond;
      parts = tail_of 1 1 _ _ same ∙ append_assoc (body o) (frames others) (1 ∷ beyond);
      gate = longer others beyond;
      after = each.0;
      next = subst (λ (k : K). IsNext Fits k o each.0) (sym all) each.1;
    }))
    foreign_texts first (t ∷ texts) [] kept taken behind beyond all each fault broken same = absurd (broken (record {
      text = t;
      rest = frames texts ++ 1 ∷ behind;
      parts = tail_of 1 1 _ _ (sym same) ∙ append_assoc (body t) (frames texts) (1 ∷ behind);
      gate = longer texts behind;
      after = all.0;
      next = subst (λ (k : K). IsNext Fits k t all.0) (sym each) all.1;
    }))
    foreign_texts first (t ∷ texts) (o ∷ others) kept taken behind beyond all each fault broken same =
        let bodies : body t ++ (frames texts ++ 1 ∷ behind) ≡ body o ++ (frames others ++ 1 ∷ beyond) =
        sym (append_assoc (body t) (frames texts) (1 ∷ behind)) ∙ tail_of 1 1 _ _ same ∙ append_assoc (body o) (frames others) (1 ∷ beyond) in
        let parts = body-injective t o (frames texts ++ 1 ∷ behind) (frames others ++ 1 ∷ beyond) all.1.size each.1.size bodies in
        let more = foreign_texts all.0 texts others kept taken behind beyond all.2 (step first t o others all.0 each.0 taken parts.0 all.1 each.1 each.2) fault broken parts.1 in
        λ i. parts.0 i ∷ more i

    pub IsForeign-unique : (first : K) (bytes : List ℕ) (at place : ℕ) → IsForeign Fits first bytes at → IsForeign Fits first bytes place → at ≡ place
    IsForeign-unique first bytes at place a b =
        let same = foreign_texts first a.texts b.texts a.kept b.kept a.behind b.behind a.next b.next a.fault b.fault (sym a.parts ∙ b.parts) in
        a.at_is ∙ ap (λ (l : List (List ℕ)). length (frames l)) same ∙ sym b.at_is
