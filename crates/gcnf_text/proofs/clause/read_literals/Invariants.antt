use Rattle.std.proofs.Common.{◌≡◌, ◌+◌, ◌≤◌, map, length}
use Rattle.token_text.specs.Kinds.{Number}
use Rattle.sat_base.specs.Literals.{AreLiterals}
use Rattle.gcnf_text.specs.Grammar.{max_literals}
use Rattle.gcnf_text.specs.Steps.{IsLiteralDue, Leads, behind_group, sofar}
use Rattle.gcnf_text.proofs.LiteralLemmas.{due_within}
use Rattle.gcnf_text.proofs.clause.read_literals.Given as goal

-- the literals so far were read, and are counted; behind the first one an end mark is a token like another
abbrev pub invariant-literals : goal.invariant-literals
invariant-literals l =
    record {
      leads : Leads (behind_group l.fn.progress.form (sofar l.fn.progress)) l.fn.tokens (map Number l.scratch.items)
          (due_within l.fn.progress.form (sofar l.progress) l.scratch.items) l.tokens;
      due : IsLiteralDue l.fn.progress.form (sofar l.progress) l.end_mark (due_within l.fn.progress.form (sofar l.progress) l.scratch.items);
      form : l.progress.form ≡ l.fn.progress.form;
      counted : sofar l.progress ≡ record (sofar l.fn.progress) { literals = l.fn.progress.literals + length l.scratch.items };
      in_range : AreLiterals l.fn.progress.vars l.scratch.items;
      room : l.progress.literals ≤ max_literals;
    }

abbrev pub decreases-literals : goal.decreases-literals
decreases-literals l = length l.tokens.tokens
