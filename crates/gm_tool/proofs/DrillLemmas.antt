-- What the counts of records are.
use Rattle.std.proofs.Common.{◌≡◌, ℕ, List, length, sym, ◌∙◌, ap, ap₂, subst}
use Rattle.std.proofs.lemmas.List.Sorted.{length_permutation}
use Rattle.gm_base.specs.Problem.{Problem, IsProblem}
use Rattle.gm_base.specs.Minimal.{conflicts, corrections}
use Rattle.lrat_steps.specs.Log.{LogStep}
use Rattle.evidence_rec.specs.declared.record.Record.{Record}
use Rattle.evidence_rec.proofs.HeldLemmas.{held-exactly_all}
use Rattle.map_core.specs.declared.closing.Verdict.TheVariants as verdict
use Rattle.map_core.specs.declared.closing.Closing.{Closing}
use Rattle.gm_io.specs.declared.bounds.Bounds.{Bounds}
use Rattle.gm_io.specs.Counts.{drill_line}
use Rattle.gm_tool.specs.Closed.{IsClosedFor, conflicts_in, corrections_in}
use Rattle.gm_tool.specs.Drilling.{full_counts, held_counts}
use Rattle.gm_tool.proofs.ReportLemmas.{of-problem, accepted-in, distinct-in}
use Rattle.gm_tool.proofs.ClosedLemmas.{holds-all}

-- where nothing is missing, as many are held as there are
pub full_counts-from : {p : Problem} {first : List Record} {b : Bounds} {logs : List (List LogStep)} {c : Closing} → IsClosedFor p first b logs c → c.verdict ≡ verdict.Complete
    → held_counts p c.records ≡ full_counts p
full_counts-from {p} {c = c} h v =
    let all = held-exactly_all p c.records ok (accepted-in h) (distinct-in h) (holds-all h v) in
    ap₂ (drill_line p.groups) (sym (length_permutation (conflicts_in c.records) (conflicts p) all.conflicts))
    (sym (length_permutation (corrections_in c.records) (corrections p) all.corrections))
  where
    ok : IsProblem p
    ok = subst IsProblem (of-problem h) h.left.closing_is.sound.opening.problem

-- the counts of records, by what is counted
pub counts-from : (groups : ℕ) (p : Problem) (records made : List Record) (line : List ℕ) → groups ≡ p.groups → records ≡ made
    → line ≡ drill_line groups (length (conflicts_in records)) (length (corrections_in records)) → line ≡ held_counts p made
counts-from groups p records made line count is written =
    written
    ∙ ap (λ (n : ℕ). drill_line n (length (conflicts_in records)) (length (corrections_in records))) count
    ∙ ap (held_counts p) is
