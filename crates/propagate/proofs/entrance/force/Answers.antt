use Rattle.std.proofs.Common.{◌∙◌, ◌∷◌, List, Some, None, ap, refl, subst, inl, inr, arith}
use Rattle.std.specs.Prelude.{neg_ℤ}
use Rattle.sat_base.specs.Members.{In}
use Rattle.trail_book.specs.declared.entry.Entry.{Entry}
use Rattle.trail_book.specs.Trail.{trues}
use Rattle.trail_book.proofs.TrailLemmas.{lit-keep_in}
use Rattle.propagate.proofs.KeptLemmas.{kept_assign}
use Rattle.propagate.proofs.entrance.force.Goals as goal

-- it is not true up to that level, and false at none
pub assign-requires-clause-unset : goal.assign-requires-clause-unset
assign-requires-clause-unset c =
    let is = c.back_to.ensures.entries in
    record {
      not_true = λ i. c.is_true_at.ensures.no (grind arith) (subst (λ (xs : List Entry). In c.args.lit (trues xs)) is i);
      not_false = λ i. c.requires.not_false (lit-keep_in c.args.level c.args.trail.now.entries (neg_ℤ c.args.lit) (subst (λ (xs : List Entry). In (neg_ℤ c.args.lit) (trues xs)) is i));
    }

pub returns-then-not-is_true_at-clause-forced : goal.returns-then-not-is_true_at-clause-forced
returns-then-not-is_true_at-clause-forced c =
    let is = c.back_to.ensures.entries in
    inr (
      record {
        not_true = c.is_true_at.ensures.no (grind arith);
        not_false = λ i. c.requires.not_false (lit-keep_in c.args.level c.args.trail.now.entries (neg_ℤ c.args.lit) i);
      },
      c.assign.ensures.entries ∙ ap (λ (xs : List Entry). record { lit = c.args.lit; reason = Some c.args.id; unit = None } ∷ xs) is,
    )

pub returns-then-not-is_true_at-clause-kept : goal.returns-then-not-is_true_at-clause-kept
returns-then-not-is_true_at-clause-kept c = λ but k.
    let a = c.assign.ensures in
    kept_assign c.back_to.new.store c.back_to.new.trail c.assign.new.self but c.args.lit c.args.id a.entries a.vars a.done (c.back_to.ensures.kept but k)

pub returns-else-not-is_true_at-clause-forced : goal.returns-else-not-is_true_at-clause-forced
returns-else-not-is_true_at-clause-forced c = inl (c.is_true_at.ensures.yes (grind arith), refl)
