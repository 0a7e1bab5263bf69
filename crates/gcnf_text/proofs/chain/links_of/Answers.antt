use Rattle.std.proofs.Common.{◌≡◌, ◌∙◌, ap, ◌+◌, ◌-◌, suc, ◌++◌, arith}
use Rattle.gcnf_text.specs.Chain.{links_from, states, widths}
use Rattle.gcnf_text.proofs.ChainLemmas.{few-links, links-further, links-of_chain}
use Rattle.gcnf_text.proofs.chain.links_of.Goals as goal

-- the link with the next state is the first of those that were still to come
pub loop-link-preserved : goal.loop-link-preserved
loop-link-preserved c =
    let left : c.args.size + 1 - c.loop-link.link ≡ suc (c.args.size + 1 - (c.loop-link.link + 1)) = omega (arith, c.loop-link-test.true) in
    record {
      small = c.next_state-state.ensures.small;
      all =
          ap (λ ls. ls ++ links_from (c.loop-link.link + 1) (widths c.next_width-width.new.room (states (c.args.size + 1 - (c.loop-link.link + 1)) c.next_state-state.result))) c.in_ok-push_link.ensures
          ∙ links-further c.loop-link.links.items _ c.loop-link.link _ _ c.loop-link.room _ _ c.loop-link.state _ c.next_state-state.ensures.next c.next_width-width.ensures left c.loop-link.invariant.all;
    }

-- the groups so far are among all
pub returns-clause-few : goal.returns-clause-few
returns-clause-few c = few-links c.loop-link.links.items _ c.args.seed c.args.size c.loop-link.invariant.all

pub returns-clause-in_range : goal.returns-clause-in_range
returns-clause-in_range c = links-of_chain c.loop-link.links.items _ c.args.seed c.args.size c.loop-link.invariant.all
