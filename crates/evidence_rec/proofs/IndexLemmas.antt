-- The index of the held sets.
use Rattle.std.proofs.Common.{◌≡◌, ℕ, Bool, true, false, not, ◌&&◌, ◌||◌, cond, List, [], ◌∷◌, ◌++◌, refl, sym, ◌∙◌, ap}
use Rattle.std.specs.Ordering.{nat_cmp, is_eq}
use Rattle.std.specs.Cmp.Lexicographic.{slice_cmp, texts_ties}
use Rattle.std.proofs.lemmas.List.Folds.{list_any-append}
use Rattle.gm_base.specs.declared.kind.Kind.{Kind}
use Rattle.evidence_rec.specs.declared.record.Record.{Record}
use Rattle.evidence_rec.specs.declared.held.Held.{Held}
use Rattle.evidence_rec.specs.Records.{kind_of, set_of}
use Rattle.evidence_rec.specs.Held.{same_kind, same_set, and_also, is_held}
use Rattle.evidence_rec.specs.Index.{Gains, IsIndex}

pub gained : (a : List ℕ) (q : List ℕ) (b : Bool) → cond (is_eq (slice_cmp nat_cmp a q)) true b ≡ (same_set a q || b)
gained a q b = ap (λ x. cond x true b) (sym (texts_ties a q)) ∙ by (same_set a q)
  where
    by : (x : Bool) → cond x true b ≡ (x || b)
    by true = refl
    by false = refl

pub lost : (a : List ℕ) (q : List ℕ) (b : Bool)
    → cond (is_eq (slice_cmp nat_cmp a q)) false b ≡ (not (same_set a q) && b)
lost a q b = ap (λ x. cond x false b) (sym (texts_ties a q)) ∙ by (same_set a q)
  where
    by : (x : Bool) → cond x false b ≡ (not x && b)
    by true = refl
    by false = refl

-- the set of one more record
pub index-push : (records : List Record) (r : Record) (old new : Held) → IsIndex old records → Gains (kind_of r) (set_of r) old new
    → IsIndex new (records ++ r ∷ [])
index-push records r old new all more =
    record {
      at = λ k q.
          more.at k q ∙ ap (λ b. is_it k q r || b) (all.at k q) ∙ turned (is_it k q r) (is_held records k q)
          ∙ sym (list_any-append (is_it k q) records (r ∷ []));
    }
  where
    is_it : Kind → List ℕ → Record → Bool
    is_it k q s = and_also (same_kind (kind_of s) k) (same_set (set_of s) q)

    turned : (a b : Bool) → (a || b) ≡ (b || (a || false))
    turned true true = refl
    turned true false = refl
    turned false true = refl
    turned false false = refl
