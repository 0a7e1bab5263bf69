use Rattle.std.proofs.Common.{◌<◌, ℤ, length, sym, ◌∙◌, subst, inl, inr, arith}
use Rattle.sat_base.specs.Members.{In}
use Rattle.sat_base.proofs.DatabaseLemmas.{get_in, In-take_more}
use Rattle.trail_book.specs.Trail.{trues, keep}
use Rattle.trail_book.proofs.TrailLemmas.{top-keep, lit-keep_more}
use Rattle.cdcl_core.proofs.SearchLemmas.{root_undecided}
use Rattle.cdcl_core.proofs.resuming.shared.Goals as goal

-- at level 0 nothing is decided
pub loop-reached-init : goal.loop-reached-init
loop-reached-init c =
    let es = c.args.trail.now.entries in
    let low = top-keep 0 es in
    record {
      most = omega arith;
      decided = λ lit d. absurd (root_undecided (keep 0 es) lit (omega (arith, low)) d);
      reached = λ l i. absurd i;
    }

pub loop-reached-preserved : goal.loop-reached-preserved
loop-reached-preserved c =
    let es = c.args.trail.now.entries in
    let assumed = c.args.assumed.now in
    let reached = c.loop-reached.reached in
    let lit = c.index-assumed-reached.result in
    let inv = c.loop-reached.invariant in
    let more = c.in-Some.more in
    let s = c.in-Some.ensures.shared in
    let within : reached < length assumed = omega arith in
    let has : In lit assumed = subst (λ (m : ℤ). In m assumed) (sym c.index-assumed-reached.is) (get_in assumed reached lit within) in
    record {
      most = c.in-Some.ensures.most;
      decided = λ m d. elim (s.decided m d) [ inl old ↦ inv.decided m old | inr is ↦ subst (λ (k : ℤ). In k assumed) (sym is) has ];
      reached = λ l i. elim (In-take_more assumed reached lit l within i) [
        | inl old ↦ lit-keep_more c.loop-reached.levels more es l s.higher (inv.reached l old)
        | inr same ↦ subst (λ (k : ℤ). In k (trues (keep more es))) (c.index-assumed-reached.is ∙ sym same) s.is_true
      ];
    }
