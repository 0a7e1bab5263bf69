use Rattle.std.proofs.Common.{◌≡◌, take, map}
use Rattle.std.specs.List.{AllByRecursion}
use Rattle.gm_base.specs.Problem.{IsClause}
use Rattle.lawful_fakes.specs.Script.{clause_in}
use Rattle.lawful_fakes.proofs.block.map_problem.Given as goal

-- the clauses of the blocks so far, over the groups
abbrev pub invariant-loop-block : goal.invariant-loop-block
invariant-loop-block l =
    record {
      clauses : l.clauses ≡ map clause_in (take l.block-index l.blocks);
      fit : AllByRecursion (IsClause l.groups 0) l.clauses;
    }
