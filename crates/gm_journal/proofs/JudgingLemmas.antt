-- What a text is judged by.
use Rattle.std.proofs.Common.{◌≡◌, ℕ, true, false, List, [], Some, None, refl, sym, ◌∙◌, ap, subst}
use Rattle.std.proofs.lemmas.Bool.{false≢true}
use Rattle.gm_base.specs.Problem.{Problem}
use Rattle.evidence_rec.specs.declared.record.Record.{Record}
use Rattle.evidence_rec.specs.declared.held.Held.{Held}
use Rattle.evidence_rec.specs.Records.{kind_of, set_of, Accepts}
use Rattle.evidence_rec.specs.Held.{is_held}
use Rattle.evidence_rec.specs.Index.{holds, IsSameHeld, IsIndex}
use Rattle.evidence_text.specs.declared.version.Version.TheVariants.{One}
use Rattle.evidence_text.specs.Readable.{IsSmall}
use Rattle.evidence_text.specs.Alone.{IsTextOf}
use Rattle.evidence_text.proofs.AloneLemmas.{texts-of_one}
use Rattle.evidence_text.proofs.FormLemmas.{up_to-within, set-readable}
use Rattle.gm_journal.specs.Judging.{Judges}

-- what is no record's text may not stand there
pub unread-none : (p : Problem) (held : Held) (text : List ℕ) → ((r : Record) → ¬ IsTextOf p r text) → Judges p held text None
unread-none p held text none = λ records next index h. none h.found h.is_text

-- nor that of a record whose set is held
pub held-none : (p : Problem) (held : Held) (text : List ℕ) (found : Record) → IsTextOf p found text → holds held (kind_of found) (set_of found) ≡ true
    → Judges p held text None
held-none p held text found is there =
    λ records next index h.
    let same : h.found ≡ found = texts-of_one p text h.found found h.small h.is_text is in
    false≢true
    (sym h.is_new ∙ ap (λ (r : Record). is_held records (kind_of r) (set_of r)) same ∙ sym (index.at (kind_of found) (set_of found)) ∙ there)

-- nor that of one that is not accepted
pub refused-none : (p : Problem) (held : Held) (text : List ℕ) (found : Record) → IsTextOf p found text → ¬ Accepts p [] found → Judges p held text None
refused-none p held text found is refused =
    λ records next index h.
    refused (subst (Accepts p []) (texts-of_one p text h.found found h.small h.is_text is) h.accepted.accepts)

-- that of one which is new and is accepted may
pub accepted-some : (p : Problem) (held : Held) (text : List ℕ) (found : Record) → IsSmall p → IsTextOf p found text
    → holds held (kind_of found) (set_of found) ≡ false → Accepts p [] found → Judges p held text (Some found)
accepted-some p held text found small is fresh accepts = (
  fresh,
  λ records index.
      record {
        found = found;
        small = small;
        is_text = is;
        accepted = record { within = up_to-within p.groups (set_of found) (set-readable One p found is.readable); accepts = accepts };
        is_new = sym (index.at (kind_of found) (set_of found)) ∙ fresh;
        after_is = refl;
      },
)

-- what holds the same sets is an index of the same records
pub index-same : (records : List Record) (old new : Held) → IsIndex old records → IsSameHeld old new → IsIndex new records
index-same records old new all same = record { at = λ k q. same.at k q ∙ all.at k q }
