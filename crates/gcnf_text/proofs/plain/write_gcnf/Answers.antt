use Rattle.std.proofs.Common.{◌≡◌, ◌≤◌, ◌∙◌, ap, sym, subst, List, ℕ, ◌++◌, length}
use Rattle.std.specs.List.{flat_map}
use Rattle.gcnf_text.specs.Grammar.{Reads, max_bytes}
use Rattle.gcnf_text.specs.Plain.{clause_line, header_line, plain_text}
use Rattle.gcnf_text.proofs.PlainLengthLemmas.{plain_is_read}
use Rattle.gcnf_text.proofs.plain.write_gcnf.Goals as goal

-- what was written is the plain text, and that is read as the problem
pub returns-clause-read_back : goal.returns-clause-read_back
returns-clause-read_back c limits short =
    let written : c.push_clauses.new.out.items ≡ plain_text c.args.problem.now =
    c.in_ok-push_clauses.ensures
    ∙ ap (λ t. t ++ flat_map clause_line c.args.problem.now.clauses) (c.in_ok-push_header.ensures ∙ ap (λ t. t ++ header_line c.args.problem.now) c.new-out.ensures.items) in
    subst (λ (text : List ℕ). Reads text c.args.problem.now) (sym written) (plain_is_read c.args.problem.now c.groups-groups.ensures.well_formed limits (subst (λ (text : List ℕ). length text ≤ max_bytes) written short))
