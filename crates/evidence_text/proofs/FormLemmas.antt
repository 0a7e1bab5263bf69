-- What can be written, and so what is read, has the form of a record: a set of the problem's groups, and one item of evidence
-- for each.
use Rattle.std.proofs.Common.{◌≡◌, ℕ, ◌≤◌, Bool, length, true, List, [], ◌∷◌, inl, inr, eqb, arith}
use Rattle.std.specs.List.{AllByRecursion}
use Rattle.std.proofs.lemmas.List.Elements.{All-from_recursion}
use Rattle.std.proofs.lemmas.Bool.{false≢true, or_cases, eqb-true}
use Rattle.gm_base.specs.Sets.{has, IsSubset, all_groups}
use Rattle.gm_base.proofs.SetLemmas.{AscendsAbove-has, has-all_groups}
use Rattle.gm_base.specs.Problem.{Problem}
use Rattle.evidence_rec.specs.declared.record.Record.{Record}
use Rattle.evidence_rec.specs.declared.record.Record.TheVariants.{Conflict, Correction}
use Rattle.evidence_rec.specs.Records.{set_of, IsShaped}
use Rattle.evidence_text.specs.declared.version.Version.{Version}
use Rattle.evidence_text.specs.Readable.{IsSetUpTo, IsReadable}

-- groups of a set up to a number are among all up to it
pub up_to-within : (high : ℕ) (set : List ℕ) → IsSetUpTo high set → IsSubset set (all_groups high)
up_to-within high set ok g inside =
    has-all_groups high g (AscendsAbove-has 0 set g ok.ascends inside) (at_most set ok.in_range inside)
  where
    at_most : (gs : List ℕ) → AllByRecursion (λ h. h ≤ high) gs → has gs g ≡ true → g ≤ high
    at_most [] all h = absurd (false≢true h)
    at_most (k ∷ ks) all h =
        elim (or_cases (eqb k g) (has ks g) h) [
          | inl here ↦ let same = eqb-true k g here in let le = all.0 in omega arith
          | inr later ↦ at_most ks all.1 later
        ]

pub set-readable : (version : Version) (p : Problem) (r : Record) → IsReadable version p r → IsSetUpTo p.groups (set_of r)
set-readable version p (Conflict set proof ws) (ok, good, count, each) = ok
set-readable version p (Correction set w rs) (ok, len, count, each) = ok

pub shaped-readable : (version : Version) (p : Problem) (r : Record) → IsReadable version p r → IsShaped p r
shaped-readable version p (Conflict set proof ws) (ok, good, count, each) = (count, All-from_recursion (λ (w : List Bool). length w ≡ p.vars) ws each)
shaped-readable version p (Correction set w rs) (ok, len, count, each) = (len, count)
