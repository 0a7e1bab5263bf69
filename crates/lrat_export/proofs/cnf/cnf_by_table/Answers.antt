use Rattle.std.proofs.Common.{◌++◌, codes, ◌∙◌, ap}
use Rattle.std.specs.Fmt.{decimal}
use Rattle.lrat_export.specs.Cnf.{lines_of}
use Rattle.lrat_export.proofs.WritingLemmas.{text-made}
use Rattle.lrat_export.proofs.cnf.cnf_by_table.Goals as goal

-- the header, and then the lines of the clauses that are present
pub returns : goal.returns
returns c =
    let lines = lines_of c.args.set.now c.args.problem.now.clauses in
    let clauses = c.count_present.result in
    c.in_ok-push_present.ensures ∙ ap (λ h. h ++ lines) c.in_ok-push_header.ensures
    ∙ ap (λ before. (before ++ (codes "p cnf " ++ decimal c.vars.result ++ codes " " ++ decimal clauses ++ codes "\n")) ++ lines) c.new-out.ensures.items
    ∙ ap (λ n. (codes "p cnf " ++ decimal n ++ codes " " ++ decimal clauses ++ codes "\n") ++ lines) c.vars.ensures
    ∙ text-made c.args.problem.now c.args.set.now clauses c.count_present.ensures
