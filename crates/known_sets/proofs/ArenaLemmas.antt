-- Lemmas on how sets are laid out.
use Rattle.std.proofs.Common.{◌≡◌, ℕ, suc, List, [], ◌∷◌, ◌++◌, map, length, All, refl, ◌∙◌, ap₂, arith}
use Rattle.std.proofs.lemmas.List.{map_push}
use Rattle.sat_base.proofs.SpanLemmas.{range_before, range_at_end}
use Rattle.known_sets.specs.declared.arena.Span.{Span}
use Rattle.known_sets.specs.declared.entry.Entry.{Entry}
use Rattle.known_sets.specs.Arena.{entry_of, IsSpan}

entries_before : {E : Type 0} (groups more : List ℕ) (spans : List (Span E)) → All (IsSpan (length groups)) spans
    → map (entry_of (groups ++ more)) spans ≡ map (entry_of groups) spans
entries_before groups more [] within = refl
entries_before {E} groups more (s ∷ spans) within =
    let span = within 0 s (omega arith) in
    ap₂ (λ (cut : Entry E) (rest : List (Entry E)). cut ∷ rest)
    (ap₂ (λ (set : List ℕ) (evidence : E). record { set = set; evidence = evidence })
    (range_before groups more s.from s.to span.ordered span.within) refl)
    (entries_before groups more spans (λ k d lt. within (suc k) d (omega arith)))

-- the sets after one was added
pub entries_after_push : {E : Type 0} (groups more : List ℕ) (spans : List (Span E)) (s : Span E) → All (IsSpan (length groups)) spans
    → s.from ≡ length groups → s.to ≡ length (groups ++ more)
    → map (entry_of (groups ++ more)) (spans ++ s ∷ []) ≡ map (entry_of groups) spans ++ record { set = more; evidence = s.evidence } ∷ []
entries_after_push {E} groups more spans s within from to =
    map_push (entry_of (groups ++ more)) spans s
    ∙ ap₂ (λ (before : List (Entry E)) (last : Entry E). before ++ last ∷ []) (entries_before groups more spans within)
    (ap₂ (λ (set : List ℕ) (evidence : E). record { set = set; evidence = evidence })
    (rw from (range_at_end groups more s.to to)) refl)
