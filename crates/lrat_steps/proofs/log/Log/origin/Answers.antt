use Rattle.std.proofs.Common.{◌≡◌, ◌<◌, ◌≤◌, ◌∙◌, ℕ, List, length, get_or, sym, subst, arith}
use Rattle.std.proofs.lemmas.Slice.Eq.{slice_eq-Decides}
use Rattle.std.proofs.lemmas.Bool.Decides.{Decides-int_eq}
use Rattle.sat_base.specs.Members.{In}
use Rattle.sat_base.specs.Hints.{ids_of}
use Rattle.sat_base.proofs.DatabaseLemmas.{get_in}
use Rattle.lrat_steps.specs.Log.{LogStep, steps_of}
use Rattle.lrat_steps.specs.Cone.{IsBackward, hints_at}
use Rattle.lrat_steps.proofs.log.Log.origin.Goals as goal

-- the only hint names an earlier step
earlier : (steps : List LogStep) (id only : ℕ) (hints : List ℕ) → IsBackward steps → 0 < id → id ≤ length steps → hints ≡ hints_at steps id → length hints ≡ 1
    → only ≡ get_or hints 0 0 → (0 < only) × (only ≤ length steps)
earlier steps id only hints backward from_one within are one is =
    let inside : In only (hints_at steps id) = subst (In only) are (subst (λ h. In h hints) (sym is) (get_in hints 0 0 (omega (arith, one)))) in
    let below = backward id from_one within only inside in
    (below.0, (let less = below.1 in omega (arith, less, within)))

hinted : (c : goal.After-at-only) → (0 < c.at-only.result) × (c.at-only.result ≤ length (steps_of c.args.self.now))
hinted c =
    earlier (steps_of c.args.self.now) c.args.id c.at-only.result (ids_of c.hints-hints.result) c.requires.backward c.requires.from_one c.requires.within
    c.hints-hints.ensures (omega (arith, c.if-len-ne1.false, c.len.ensures)) c.at-only.ensures

pub lits-requires-clause-from_one : goal.lits-requires-clause-from_one
lits-requires-clause-from_one c = (hinted c).0

pub lits-requires-clause-within : goal.lits-requires-clause-within
lits-requires-clause-within c = (hinted c).1

pub returns-then-eq-clause-from_one : goal.returns-then-eq-clause-from_one
returns-then-eq-clause-from_one c =
    (earlier (steps_of c.args.self.now) c.args.id c.at-only.result (ids_of c.hints-hints.result) c.requires.backward c.requires.from_one c.requires.within
    c.hints-hints.ensures (omega (arith, c.if-len-ne1.false, c.len.ensures)) c.at-only.ensures).0

pub returns-then-eq-clause-within : goal.returns-then-eq-clause-within
returns-then-eq-clause-within c =
    (earlier (steps_of c.args.self.now) c.args.id c.at-only.result (ids_of c.hints-hints.result) c.requires.backward c.requires.from_one c.requires.within
    c.hints-hints.ensures (omega (arith, c.if-len-ne1.false, c.len.ensures)) c.at-only.ensures).1

-- the two lists of literals are the same
pub returns-then-eq-clause-same : goal.returns-then-eq-clause-same
returns-then-eq-clause-same c =
    let decides = slice_eq-Decides Decides-int_eq c.lits.result.now c.lits-2.result.now c.eq.result c.eq.ensures in
    let same : c.lits.result.now ≡ c.lits-2.result.now = decides.0 c.if-eq.true in
    sym c.lits.ensures ∙ same ∙ c.lits-2.ensures
