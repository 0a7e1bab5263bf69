use Rattle.std.proofs.Common.{◌∙◌, ◌≡◌, ◌≤◌, ◌++◌, List, ℕ, length, take, sym, subst, ap}
use Rattle.size_counter.specs.Sizes.{AreDistinct}
use Rattle.size_counter.proofs.NameLemmas.{distinct-first_named, all-front}
use Rattle.size_counter.proofs.naming.Naming.add_set.Goals as goal

-- what is named stands there once
pub invariant_of-self-then-set-ne1 : goal.invariant_of-self-then-set-ne1
invariant_of-self-then-set-ne1 c = subst AreDistinct (sym c.in_ok-add_all.ensures.ok) (distinct-first_named (c.self.inside.names ++ c.args.set.now))

pub invariant_of-self-in-Ok : goal.invariant_of-self-in-Ok
invariant_of-self-in-Ok c = subst AreDistinct (sym c.in_ok-add_all.ensures.ok) (distinct-first_named (c.self.inside.names ++ c.args.set.now))

-- what was named is in front of what came, so cutting that off leaves it
pub cut-requires : goal.cut-requires
cut-requires c =
    subst (λ (n : ℕ). n ≤ length c.add_all.new.self) (sym c.len-before.ensures)
    (all-front c.self.inside.names c.args.set.now c.add_all.new.self c.self.invariant c.in_ok-add_all.ensures.ok).0

pub invariant_of-self-in-Err : goal.invariant_of-self-in-Err
invariant_of-self-in-Err c =
    let back : c.cut.new.self ≡ c.self.inside.names =
    c.cut.ensures ∙ ap (λ (n : ℕ). take n c.add_all.new.self) c.len-before.ensures
    ∙ (all-front c.self.inside.names c.args.set.now c.add_all.new.self c.self.invariant c.in_ok-add_all.ensures.ok).1 in
    subst AreDistinct (sym back) c.self.invariant

pub returns-in-Err-clause-err : goal.returns-in-Err-clause-err
returns-in-Err-clause-err c =
    let back : c.cut.new.self ≡ c.self.inside.names =
    c.cut.ensures ∙ ap (λ (n : ℕ). take n c.add_all.new.self) c.len-before.ensures
    ∙ (all-front c.self.inside.names c.args.set.now c.add_all.new.self c.self.invariant c.in_ok-add_all.ensures.ok).1 in
    ap (λ (xs : List ℕ). record { kind = c.self.inside.kind; named = xs; alone = c.push.new.self.items }) back
    ∙ ap (λ (xs : List ℕ). record { kind = c.self.inside.kind; named = c.self.inside.names; alone = xs }) c.in-Err.ensures.items
    ∙ c.self.view_is
