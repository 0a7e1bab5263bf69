use Rattle.std.proofs.Common.{◌≡◌, ◌∷◌, [], ◌+◌, ℕ, List, map, length, refl, subst, sym, ap, ◌∙◌}
use Rattle.std.specs.Prelude.{neg_ℤ, pos}
use Rattle.std.proofs.Math.IntN.{neg_ℤ-neg_ℤ}
use Rattle.sat_base.specs.Members.{In}
use Rattle.sat_base.specs.Literals.{var_of}
use Rattle.sat_base.specs.Units.{HasValue}
use Rattle.sat_base.proofs.DatabaseLemmas.{named_range}
use Rattle.trail_book.specs.declared.entry.Entry.{Entry}
use Rattle.trail_book.specs.Trail.{trues, oldest, with_unit}
use Rattle.trail_book.proofs.TrailLemmas.{trues-with_unit, length-with_unit}
use Rattle.propagate.specs.Propagation.{Tells}
use Rattle.propagate.proofs.KeptLemmas.{kept_unit}
use Rattle.cdcl_core.specs.State.{IsRoot}
use Rattle.cdcl_core.proofs.SearchLemmas.{sound_reasoned, root_undecided}
use Rattle.cdcl_core.proofs.UnitLemmas.{entry_in, literal_in, reason_named, has_value, unit_root, unit_tells, done_same}
use Rattle.cdcl_core.proofs.search.Search.log_unit.Goals as goal

pub lits-requires : goal.lits-requires
lits-requires c =
    let s = c.args.self.now in
    let es = s.trail.entries in
    let id = c.in-Some.reason in
    let at = entry_in (c.args.place + 1) es c.entry-entry.result (oldest c.args.place es) c.entry-entry.ensures in
    let (clause, named) = reason_named s.store.clauses [] 0 es c.entry-entry.result id c.requires.at_root.root.state.sound at c.in-Some.is in
    let range = named_range s.store.clauses id clause named in
    record { from_one = range.0; within = range.1 }

pub log_core-requires-clause-reasoned : goal.log_core-requires-clause-reasoned
log_core-requires-clause-reasoned c = let s = c.args.self.now in sound_reasoned s.store.clauses [] 0 s.trail.entries c.requires.at_root.root.state.sound

-- the literal is true, and at level 0 nothing is decided
pub log_core-requires-clause-is_false : goal.log_core-requires-clause-is_false
log_core-requires-clause-is_false c =
    let es = c.args.self.now.trail.entries in
    let lit = c.entry-entry.result.lit in
    let on = literal_in (c.args.place + 1) es c.entry-entry.result (oldest c.args.place es) c.entry-entry.ensures in
    let same : neg_ℤ c.negated.result ≡ lit = ap neg_ℤ c.negated.ensures ∙ neg_ℤ-neg_ℤ lit in
    (subst (λ l. In l (trues es)) (sym same) on, root_undecided es (neg_ℤ c.negated.result) c.requires.at_root.root.level)

pub set_unit-requires-clause-value : goal.set_unit-requires-clause-value
set_unit-requires-clause-value c =
    let es = c.args.self.now.trail.entries in
    let lit = c.entry-entry.result.lit in
    let on = literal_in (c.args.place + 1) es c.entry-entry.result (oldest c.args.place es) c.entry-entry.ensures in
    subst (λ (v : ℕ). HasValue (trues es) (pos v)) (sym c.var.ensures.same) (has_value (trues es) lit on)

pub returns-clause-at_root : goal.returns-clause-at_root
returns-clause-at_root c =
    let s = c.args.self.now in
    let es = s.trail.entries in
    let lit = c.entry-entry.result.lit in
    let id = c.in_ok-id.id in
    let store = c.log_core.new.store in
    let log = c.log_core.new.log in
    let on = literal_in (c.args.place + 1) es c.entry-entry.result (oldest c.args.place es) c.entry-entry.ensures in
    let root = unit_root s.trail.vars s.store.clauses store.clauses s.log log es lit c.negated.result id c.requires.at_root.root on c.negated.ensures c.in_ok-id.ensures.added in
    let is : c.set_unit.new.self.entries ≡ map (with_unit (var_of lit) id) es = c.set_unit.ensures.entries ∙ ap (λ (v : ℕ). map (with_unit v id) es) c.var.ensures.same in
    record {
      vars = c.log_core.ensures.vars ∙ c.requires.at_root.vars ∙ sym c.set_unit.ensures.vars;
      kept = kept_unit store s.trail c.set_unit.new.self 0 (var_of lit) id is c.set_unit.ensures.vars c.set_unit.ensures.done (c.in_ok-id.ensures.kept c.requires.at_root.kept);
      root = subst (λ (n : ℕ). IsRoot n store.clauses log c.set_unit.new.self.entries) (sym c.set_unit.ensures.vars)
          (subst (λ (xs : List Entry). IsRoot s.trail.vars store.clauses log xs) (sym is) root);
    }

pub returns-clause-keeps : goal.returns-clause-keeps
returns-clause-keeps c =
    let s = c.args.self.now in
    let es = s.trail.entries in
    let id = c.in_ok-id.id in
    let v = c.var.result in
    let store = c.log_core.new.store in
    let is = c.set_unit.ensures.entries in
    record {
      trues_are = ap trues is ∙ trues-with_unit v id es;
      levels_are = refl;
      reached_is = refl;
      all_done = λ p d. done_same s.store store s.trail c.set_unit.new.self p c.set_unit.ensures.done (ap length is ∙ length-with_unit v id es) c.log_core.ensures.false_id d;
      tells = λ p t. subst (λ (xs : List Entry). Tells store.clauses (trues xs) p) (sym is)
          (unit_tells s.store.clauses store.clauses s.log c.log_core.new.log es (neg_ℤ c.negated.result ∷ []) id v p c.in_ok-id.ensures.added t);
    }
