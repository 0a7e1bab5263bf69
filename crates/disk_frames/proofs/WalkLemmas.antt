-- A walk from gate to gate.
use Rattle.std.proofs.Common.{◌≡◌, ◌≢◌, ℕ, ◌+◌, ◌^◌, ◌<◌, List, [], ◌∷◌, ◌++◌, length, drop, Option, Some, None, IfSome, refl, sym, ◌∙◌, ap, subst, arith}
use Rattle.std.proofs.lemmas.List.{drop_at}
use Rattle.disk_frames.specs.Frames.{body, frames}
use Rattle.disk_frames.specs.Salvage.{AreNext, first_of, IsSalvaged, IsForeign}
use Rattle.disk_frames.specs.Reading.{HasTextAt, HasNoTextAt}
use Rattle.disk_frames.proofs.FrameLemmas.{frames-push, length-frames-push}
use Rattle.disk_frames.proofs.SalvageLemmas.{body-injective, AreNext-push}

-- frames of texts that may come one behind the other lead to this place, where what is told goes on; behind a frame there is a gate
pub record Walked {K : Type 0} (Fits : K → List ℕ → K → Type 0) (first kept : K) (told : Option (List ℕ)) (at : ℕ) : Type 0 where
  pub texts : List (List ℕ)
  pub next : AreNext Fits first texts kept
  pub at_is : at ≡ length (frames texts)
  pub parts : IfSome told (λ bytes. bytes ≡ frames texts ++ drop at bytes)
  pub whole : IfSome told (λ bytes. drop at bytes ≡ [] → texts ≡ [])

module _ {K : Type 0} (Fits : K → List ℕ → K → Type 0) (first : K) where
  pub walked_none : (told : Option (List ℕ)) (kept : K) → kept ≡ first → Walked Fits first kept told 0
  walked_none None kept is = record { texts = []; next = is; at_is = refl; parts = tt; whole = tt }
  walked_none (Some bytes) kept is = record { texts = []; next = is; at_is = refl; parts = refl; whole = λ none. refl }

  module _ (kept : K) (told : Option (List ℕ)) (at : ℕ) (walked : Walked Fits first kept told at) where
    abbrev texts : List (List ℕ)
    texts = walked.texts

    -- a closed gate, or the end of the disk
    pub walked_ended : (last : Option ℕ) → IfSome told (λ bytes. last ≡ first_of (drop at bytes)) → last ≢ Some 1
        → IfSome told (λ bytes. (found : List (List ℕ)) × IsSalvaged Fits first bytes found kept at last)
    walked_ended last there shut = ended told walked.parts walked.whole there
      where
        none_left : (rest : List ℕ) → None ≡ first_of rest → rest ≡ []
        none_left [] is = refl
        none_left (b ∷ rest) is = cc

        ended : (told : Option (List ℕ)) → IfSome told (λ bytes. bytes ≡ frames texts ++ drop at bytes) → IfSome told (λ bytes. drop at bytes ≡ [] → texts ≡ [])
            → IfSome told (λ bytes. last ≡ first_of (drop at bytes)) → IfSome told (λ bytes. (found : List (List ℕ)) × IsSalvaged Fits first bytes found kept at last)
        ended None parts whole is = tt
        ended (Some bytes) parts whole is = (
          texts,
          record {
            ends = record {
              rest = drop at bytes;
              parts = parts;
              gate_is = walked.at_is;
              last_is = is;
              closed = shut;
              empty = λ none. whole (none_left (drop at bytes) (sym none ∙ is));
            };
            next = walked.next;
          },
        )

    -- no frame with a next gate
    pub walked_foreign : IfSome told (λ bytes. HasNoTextAt bytes at) → IfSome told (λ bytes. IsForeign Fits first bytes at)
    walked_foreign there = foreign told walked.parts there
      where
        foreign : (told : Option (List ℕ)) → IfSome told (λ bytes. bytes ≡ frames texts ++ drop at bytes) → IfSome told (λ bytes. HasNoTextAt bytes at)
            → IfSome told (λ bytes. IsForeign Fits first bytes at)
        foreign None parts none = tt
        foreign (Some bytes) parts none = record {
          texts = texts;
          kept = kept;
          behind = none.behind;
          parts = parts ∙ ap (λ (l : List ℕ). frames texts ++ l) none.parts;
          at_is = walked.at_is;
          next = walked.next;
          fault = λ found. none.none found.text found.rest found.next.size found.gate found.parts;
        }

    module _ (text : List ℕ) (small : length text < 2 ^ 64) (there : IfSome told (λ bytes. HasTextAt bytes at text)) where
      -- a text that may not come next
      pub walked_refused : ((next : K) → ¬ Fits kept text next) → IfSome told (λ bytes. IsForeign Fits first bytes at)
      walked_refused refused = foreign told walked.parts there
        where
          foreign : (told : Option (List ℕ)) → IfSome told (λ bytes. bytes ≡ frames texts ++ drop at bytes) → IfSome told (λ bytes. HasTextAt bytes at text)
              → IfSome told (λ bytes. IsForeign Fits first bytes at)
          foreign None parts has = tt
          foreign (Some bytes) parts has = record {
            texts = texts;
            kept = kept;
            behind = body text ++ has.rest;
            parts = parts ∙ ap (λ (l : List ℕ). frames texts ++ l) has.parts;
            at_is = walked.at_is;
            next = walked.next;
            fault = λ found.
                let is = body-injective found.text text found.rest has.rest found.next.size small (sym found.parts) in
                refused found.after (subst (λ (l : List ℕ). Fits kept l found.after) is.0 found.next.fits);
          }

      -- and one that may
      pub walked_on : (after : K) (end : ℕ) → Fits kept text after → end ≡ at + 9 + length text → Walked Fits first after told end
      walked_on after end fits end_is = record {
        texts = texts ++ text ∷ [];
        next = AreNext-push Fits first texts kept text after walked.next (record { fits = fits; size = small });
        at_is = ends;
        parts = on told walked.parts there;
        whole = more told walked.parts there;
      }
        where
          ends : end ≡ length (frames (texts ++ text ∷ []))
          ends = omega (arith, length-frames-push texts text, walked.at_is)

          front : (bytes : List ℕ) → bytes ≡ frames texts ++ drop at bytes → (has : HasTextAt bytes at text) → bytes ≡ frames (texts ++ text ∷ []) ++ has.rest
          front bytes parts has = parts ∙ ap (λ (l : List ℕ). frames texts ++ l) has.parts ∙ sym (frames-push texts text has.rest)

          left : (bytes : List ℕ) → bytes ≡ frames texts ++ drop at bytes → (has : HasTextAt bytes at text) → drop end bytes ≡ has.rest
          left bytes parts has = ap (λ (l : List ℕ). drop end l) (front bytes parts has) ∙ drop_at (frames (texts ++ text ∷ [])) has.rest end (sym ends)

          on : (told : Option (List ℕ)) → IfSome told (λ bytes. bytes ≡ frames texts ++ drop at bytes) → IfSome told (λ bytes. HasTextAt bytes at text)
              → IfSome told (λ bytes. bytes ≡ frames (texts ++ text ∷ []) ++ drop end bytes)
          on None parts has = tt
          on (Some bytes) parts has = front bytes parts has ∙ ap (λ (l : List ℕ). frames (texts ++ text ∷ []) ++ l) (sym (left bytes parts has))

          more : (told : Option (List ℕ)) → IfSome told (λ bytes. bytes ≡ frames texts ++ drop at bytes) → IfSome told (λ bytes. HasTextAt bytes at text)
              → IfSome told (λ bytes. drop end bytes ≡ [] → texts ++ text ∷ [] ≡ [])
          more None parts has = tt
          more (Some bytes) parts has = λ none. absurd (omega (arith, ap length (sym (left bytes parts has) ∙ none), has.gate))
