use Rattle.std.proofs.Common.{◌≡◌, ◌+◌, ◌-◌, ◌<◌, ◌++◌}
use Rattle.gcnf_text.specs.Chain.{chain_widths, links_from, modulus, states, widths}
use Rattle.gcnf_text.proofs.chain.links_of.Given as goal

-- the links so far, and those of the states that are still to come, are all
abbrev pub invariant-loop-link : goal.invariant-loop-link
invariant-loop-link l =
    record {
      small : l.state < modulus;
      all : l.links.items ++ links_from l.link (widths l.room (states (l.size + 1 - l.link) l.state)) ≡ links_from 0 (chain_widths l.seed l.size);
    }
