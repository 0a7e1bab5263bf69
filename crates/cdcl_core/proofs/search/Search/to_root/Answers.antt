use Rattle.std.proofs.Common.{◌∙◌, refl, sym}
use Rattle.trail_book.specs.Trail.{keep}
use Rattle.cdcl_core.proofs.RootLemmas.{root_end, root_is}
use Rattle.cdcl_core.proofs.search.Search.to_root.Goals as goal

pub returns-clause-at_root : goal.returns-clause-at_root
returns-clause-at_root c =
    let s = c.args.self.now in
    let e = c.requires.search in
    let b = c.back_to.ensures in
    record {
      vars = b.clauses.vars ∙ e.vars ∙ sym b.vars;
      kept = b.kept 0 e.kept;
      root = root_is s.trail.vars c.back_to.new.trail.vars s.store.clauses c.back_to.new.store.clauses s.log s.log (keep 0 s.trail.entries) c.back_to.new.trail.entries b.vars b.clauses.clauses refl b.entries
          (root_end s.trail.vars s.store.clauses s.log s.trail.entries c.requires.assumed s.assumed_levels e.state);
    }
