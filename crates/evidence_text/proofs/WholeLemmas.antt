-- Whole texts are read back.
use Rattle.std.proofs.Common.{◌≡◌, ℕ, ◌+◌, List, [], ◌∷◌, ◌++◌, length, Option, refl, sym, ◌∙◌, ap, ap₂, subst, append_assoc}
use Rattle.std.specs.List.{AllByRecursion, flat_map}
use Rattle.sat_base.specs.Derivation.{Derivation}
use Rattle.gm_base.specs.Problem.{Problem}
use Rattle.evidence_rec.specs.declared.record.Record.{Record}
use Rattle.evidence_text.specs.declared.answer.Answer.TheVariants as answer
use Rattle.evidence_text.specs.declared.version.Version.{Version}
use Rattle.evidence_text.specs.Text.{Line, record_lines, end_lines, evidence_text}
use Rattle.evidence_text.specs.Lines.{lines_of, unended}
use Rattle.evidence_text.specs.Reading.{Below, below, head_at, piece_at}
use Rattle.evidence_text.specs.Readable.{IsSmall, IsReadable, IsReadableEnd}
use Rattle.evidence_text.specs.Laws.{ReadsAll, IsRead, CanHold}
use Rattle.evidence_text.proofs.WordsLemmas.{pair-is}
use Rattle.evidence_text.proofs.LinesBackLemmas.{record-back, end-back, head-back}
use Rattle.evidence_text.proofs.PlainLemmas.{lines_of-whole, unended-whole}

-- records and an end, from a line on
reads-all : (version : Version) (p : Problem) (rs : List Record) (closing : Option Derivation) (at : ℕ) → IsSmall p → AllByRecursion (IsReadable version p) rs
    → IsReadableEnd p closing → ReadsAll version p [] (below at (flat_map record_lines rs ++ end_lines closing)) rs closing
reads-all version p [] closing at small all ok = (below (at + length (end_lines closing)) [], end-back version p closing at small.numbers ok)
reads-all version p (r ∷ rs) closing at small all ok =
    let behind : List Line = flat_map record_lines rs ++ end_lines closing in (
      below (at + length (record_lines r)) behind,
      ap (λ (ls : List Line). piece_at version p [] at ls) (append_assoc (record_lines r) (flat_map record_lines rs) (end_lines closing))
          ∙ record-back version p r [] at behind small.numbers all.0,
      reads-all version p rs closing (at + length (record_lines r)) small all.1 ok,
    )

pub text-is_read : (version : Version) (p : Problem) (rs : List Record) (closing : Option Derivation) → CanHold version p rs closing
    → IsRead version p (evidence_text version p rs closing) rs closing
text-is_read version p rs closing h =
    let behind : List Line = flat_map record_lines rs ++ end_lines closing in (
      below (1 + 1) behind,
      ap (λ (ls : List Line). head_at p 1 ls) (lines_of-whole version p rs closing h.small h.records h.closing) ∙ head-back version p 1 behind h.small,
      subst (λ (rest : List ℕ). ReadsAll version p rest (below (1 + 1) behind) rs closing)
          (sym (unended-whole version p rs closing h.small h.records h.closing)) (reads-all version p rs closing (1 + 1) h.small h.records h.closing),
    )

-- ---- no two have one text

End-is : (x y : Option Derivation) → answer.End x ≡ answer.End y → x ≡ y
End-is x y e = cc

Record-is : (q r : Record) → answer.Record q ≡ answer.Record r → q ≡ r
Record-is q r e = cc

End-no_record : (x : Option Derivation) (r : Record) → answer.End x ≡ answer.Record r → ⊥
End-no_record x r e = cc

-- what is read is one
reads-one : (version : Version) (p : Problem) (rest : List ℕ) (b : Below) (rs qs : List Record) (x y : Option Derivation) → ReadsAll version p rest b rs x
    → ReadsAll version p rest b qs y → (rs ≡ qs) × (x ≡ y)
reads-one version p rest b [] [] x y h k =
    let (e, f) = pair-is (answer.End x) (answer.End y) h.0 k.0 (piece_at version p rest b.at b.lines) h.1 k.1 in (refl, End-is x y e)
reads-one version p rest b [] (q ∷ qs) x y h k =
    let (e, f) = pair-is (answer.End x) (answer.Record q) h.0 k.0 (piece_at version p rest b.at b.lines) h.1 k.1 in absurd (End-no_record x q e)
reads-one version p rest b (r ∷ rs) [] x y h k =
    let (e, f) = pair-is (answer.End y) (answer.Record r) k.0 h.0 (piece_at version p rest b.at b.lines) k.1 h.1 in absurd (End-no_record y r e)
reads-one version p rest b (r ∷ rs) (q ∷ qs) x y h k =
    let (e, f) = pair-is (answer.Record r) (answer.Record q) h.0 k.0 (piece_at version p rest b.at b.lines) h.1 k.1 in
    let (same, ends) = reads-one version p rest k.0 rs qs x y (subst (λ (c : Below). ReadsAll version p rest c rs x) f h.2) k.2 in
    (ap₂ (λ (s : Record) (ss : List Record). s ∷ ss) (Record-is r q e) same, ends)

pub read-one : (version another : Version) (p : Problem) (text : List ℕ) (rs qs : List Record) (x y : Option Derivation) → IsRead version p text rs x
    → IsRead another p text qs y → (version ≡ another) × (rs ≡ qs) × (x ≡ y)
read-one version another p text rs qs x y h k =
    let (versions, same) = pair-is version another h.0 k.0 (head_at p 1 (lines_of text)) h.1 k.1 in
    let (records, ends) =
    reads-one another p (unended text) k.0 rs qs x y
    (subst (λ (c : Below). ReadsAll another p (unended text) c rs x) same (subst (λ (v : Version). ReadsAll v p (unended text) h.0 rs x) versions h.2))
    k.2 in
    (versions, records, ends)

pub texts-differ : (version another : Version) (p : Problem) (rs qs : List Record) (x y : Option Derivation) → CanHold version p rs x → CanHold another p qs y
    → evidence_text version p rs x ≡ evidence_text another p qs y → (version ≡ another) × (rs ≡ qs) × (x ≡ y)
texts-differ version another p rs qs x y h k same =
    read-one version another p (evidence_text another p qs y) rs qs x y
    (subst (λ (t : List ℕ). IsRead version p t rs x) same (text-is_read version p rs x h)) (text-is_read another p qs y k)
