use Rattle.std.proofs.Common.{◌≡◌, ◌-◌, ◌≤◌, length}
use Rattle.std.specs.List.{flat_map, AllByRecursion}
use Rattle.gm_base.specs.Problem.{IsClause}
use Rattle.gcnf_text.specs.Grammar.{clause_kinds, literal_count, max_literals}
use Rattle.gcnf_text.specs.Table.{Between}
use Rattle.gcnf_text.specs.Steps.{AreNumbered, Leads, sofar}
use Rattle.gcnf_text.proofs.clause.read_clauses.Given as goal

-- the clauses so far were read, and they and their literals are counted
abbrev pub invariant-clauses : goal.invariant-clauses
invariant-clauses l =
    record {
      leads : Leads (Between l.fn.header.form (sofar l.fn.header)) l.fn.tokens (flat_map (clause_kinds l.fn.header.form) l.clauses)
          (Between l.fn.header.form (sofar l.progress)) l.tokens;
      form : l.progress.form ≡ l.fn.header.form;
      counted : sofar l.progress ≡ record (sofar l.fn.header) { ended = length l.clauses; literals = literal_count l.clauses };
      within : l.progress.ended ≤ l.progress.clauses;
      numbered : AreNumbered l.fn.header.form l.clauses;
      in_range : AllByRecursion (IsClause l.fn.header.vars l.fn.header.groups) l.clauses;
      room : l.progress.literals ≤ max_literals;
    }

abbrev pub decreases-clauses : goal.decreases-clauses
decreases-clauses l = l.progress.clauses - l.progress.ended
