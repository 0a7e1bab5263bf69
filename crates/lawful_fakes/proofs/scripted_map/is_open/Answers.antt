use Rattle.std.proofs.Common.{◌≡◌, ◌∙◌, List, ℕ, true, subst, sym}
use Rattle.std.proofs.lemmas.Bool.{false≢true, not-true}
use Rattle.gm_base.specs.Sets.{has}
use Rattle.gm_base.proofs.SetLemmas.{has-complement-parts}
use Rattle.lawful_fakes.proofs.scripted_map.is_open.Goals as goal
use Rattle.lawful_fakes.proofs.scripted_map.is_open.Goals.{then-is_subset, else-is_subset}

pub returns : goal.returns
returns c = λ t.
    elim c.if-is_subset.branch [
      | then-is_subset w ↦
          record {
            is_set = c.as_slice-groups.ensures.ascends;
            within = λ g h.
                (has-complement-parts c.args.groups c.new.result g
                (subst (λ (s : List ℕ). has s g ≡ true) c.in_ok-all.ensures (c.is_subset.ensures.0 w.if-is_subset.true g h))).1;
            unexplored = sym w.any_takes_out.ensures ∙ not-true w.any_takes_out.result (sym w.result-is ∙ t);
          }
      | else-is_subset w ↦ absurd (false≢true (sym w.if-is_subset.false ∙ sym w.result-is ∙ t))
    ]
