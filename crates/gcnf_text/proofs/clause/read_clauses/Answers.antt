use Rattle.std.proofs.Common.{rules, ◌≡◌, length, sym, ◌∙◌, ap, subst, arith}
use Rattle.std.specs.List.{flat_map, AllByRecursion}
use Rattle.gm_base.specs.Problem.{IsClause}
use Rattle.gcnf_text.specs.Grammar.{MayFollow, clause_kinds, kinds_of, literal_count}
use Rattle.gcnf_text.specs.Table.{Between, Sofar}
use Rattle.gcnf_text.specs.Steps.{AreNumbered, Leads, sofar}
use Rattle.gcnf_text.proofs.ClauseLemmas.{all_more, counted_more, leads_more}
use Rattle.gcnf_text.proofs.NumberedLemmas.{numbered_next}
use Rattle.gcnf_text.proofs.clause.read_clauses.Goals as goal

-- the clause that was read is the next one
pub clauses-preserved : goal.clauses-preserved
clauses-preserved c =
    let before = c.clauses.invariant in
    let read = c.in_ok-clause.ensures in
    let form = c.args.header.form in
    let first = sofar c.args.header in
    let s = sofar c.clauses.progress in
    let t = sofar c.read_clause.new.progress in
    let clauses = c.clauses.clauses in
    let clause = c.in_ok-clause.clause in
    let pushed = sym c.in_ok-push.ensures.ok in
    let ended : c.clauses.progress.ended ≡ length clauses = ap (λ (u : Sofar). u.ended) before.counted in
    let vars : c.clauses.progress.vars ≡ c.args.header.vars = ap (λ (u : Sofar). u.vars) before.counted in
    let groups : c.clauses.progress.groups ≡ c.args.header.groups = ap (λ (u : Sofar). u.groups) before.counted in
    let fits : IsClause c.args.header.vars c.args.header.groups clause = subst (λ v. IsClause v c.args.header.groups clause) vars (subst (λ g. IsClause c.clauses.progress.vars g clause) groups read.fits) in
    record {
      leads = subst (λ cs. Leads (Between form first) c.args.tokens.now (flat_map (clause_kinds form) cs) (Between form t) c.read_clause.new.tokens) pushed
          (leads_more form c.clauses.progress.form first s t c.args.tokens.now c.clauses.tokens c.read_clause.new.tokens clauses clause before.form read.counted before.leads read.step);
      form = read.form ∙ before.form;
      counted = subst (λ cs. t ≡ record first { ended = length cs; literals = literal_count cs }) pushed
          (counted_more first s t clauses clause read.counted before.counted);
      within = search rules;
      numbered = subst (AreNumbered form) pushed (numbered_next form c.clauses.progress.form s clauses clause before.form ended before.numbered read.group);
      in_range = subst (AllByRecursion (IsClause c.args.header.vars c.args.header.groups)) pushed (all_more (IsClause c.args.header.vars c.args.header.groups) clauses clause before.in_range fits);
      room = read.room;
    }

-- all clauses were read, and what is left may stand behind them
pub returns : goal.returns
returns c =
    let read = c.clauses.invariant in
    let clauses = c.clauses.clauses in
    let all : c.clauses.progress.clauses ≡ c.args.header.clauses = ap (λ (s : Sofar). s.clauses) read.counted in
    let ended : c.clauses.progress.ended ≡ length clauses = ap (λ (s : Sofar). s.ended) read.counted in
    let literals : c.clauses.progress.literals ≡ literal_count clauses = ap (λ (s : Sofar). s.literals) read.counted in
    let ends = c.in_ok-read_end.ensures (sofar c.clauses.progress) (omega (arith, read.within)) in
    record {
      behind = kinds_of c.clauses.tokens.tokens;
      kinds = read.leads.kinds;
      follows = subst (λ f. MayFollow f (kinds_of c.clauses.tokens.tokens)) read.form ends;
      numbered = read.numbered;
      count = omega (arith, all, ended, read.within);
      in_range = read.in_range;
      few = omega (arith, literals, read.room);
    }
