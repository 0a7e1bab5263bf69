use Rattle.std.proofs.Common.{◌≡◌, List, ℕ, true, subst}
use Rattle.gm_base.specs.Sets.{has, all_groups}
use Rattle.gm_base.proofs.SetLemmas.{has-complement-parts}
use Rattle.lawful_fakes.proofs.example.set_of.Goals as goal

pub returns-then-is_subset : goal.returns-then-is_subset
returns-then-is_subset c = λ g h.
    let inside = c.is_subset.ensures.0 c.if-is_subset.true g h in
    (has-complement-parts c.args.groups c.new.result g (subst (λ (s : List ℕ). has s g ≡ true) c.in_ok-all.ensures inside)).1
