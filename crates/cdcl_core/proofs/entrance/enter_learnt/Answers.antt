use Rattle.std.proofs.Common.{◌≡◌, List, Some, None, refl, sym, subst, ap, inl, inr, arith}
use Rattle.std.specs.Prelude.{ℤ}
use Rattle.std.proofs.lemmas.Bool.{cases_lt}
use Rattle.sat_base.specs.Members.{In}
use Rattle.trail_book.specs.declared.entry.Entry.{Entry}
use Rattle.trail_book.specs.Trail.{trues, top}
use Rattle.propagate.proofs.KeptLemmas.{kept_assign, kept_settled}
use Rattle.propagate.proofs.OpenLemmas.{at_root}
use Rattle.cdcl_core.proofs.EntranceLemmas.{new_guard, latest_guard, none_latest}
use Rattle.cdcl_core.proofs.entrance.enter_learnt.Goals as goal

pub watch-requires-clause-kept : goal.watch-requires-clause-kept
watch-requires-clause-kept c =
    let a = c.assign.ensures in
    kept_assign c.args.store.now c.args.trail.now c.assign.new.self c.args.id c.args.first c.args.id a.entries a.vars a.done c.requires.kept

-- the first literal has become true, behind all that was propagated
pub watch-requires-clause-first_guard : goal.watch-requires-clause-first_guard
watch-requires-clause-first_guard c =
    let t = c.args.trail.now in
    let a = c.assign.ensures in
    let e : Entry = record { lit = c.args.first; reason = Some c.args.id; unit = None } in
    rw (a.entries, a.done) (new_guard e t.entries t.done c.args.first c.in-Some.second c.requires.kept.done c.requires.asserting.unset.not_false)

-- and at the level at which the other became false
pub watch-requires-clause-second_guard : goal.watch-requires-clause-second_guard
watch-requires-clause-second_guard c =
    let t = c.args.trail.now in
    let a = c.assign.ensures in
    let second = c.in-Some.ensures.some in
    rw (a.entries, a.done) (latest_guard c.args.id t.entries t.done c.args.first c.in-Some.second second.0.still_open second.1)

-- at level 0 it is settled, and above it has a second literal
pub returns-in_default-clause-kept : goal.returns-in_default-clause-kept
returns-in_default-clause-kept c =
    let r = c.requires in
    let s = c.args.store.now in
    let t = c.args.trail.now in
    let a = c.assign.ensures in
    let new = c.assign.new.self in
    let kept = kept_assign s t new c.args.id c.args.first c.args.id a.entries a.vars a.done r.kept in
    let on : In c.args.first (trues new.entries) = subst (λ (es : List Entry). In c.args.first (trues es)) (sym a.entries) (inl refl) in
    elim (cases_lt 0 (top t.entries)) [
      | inl up ↦ absurd (none_latest t.entries c.args.lits.now c.args.first up (r.asserting.second up) (c.in_default.ensures.none up))
      | inr root ↦
          let same = ap top a.entries in
          let level : top new.entries ≡ 0 = omega (arith, same, root) in
          kept_settled s new c.args.id
          (λ live. (c.args.first, subst (λ (ls : List ℤ). In c.args.first ls) (sym r.unwatched.lits_are) r.asserting.has, subst (λ (es : List Entry). In c.args.first (trues es)) (sym (at_root new.entries level)) on))
          kept
    ]
