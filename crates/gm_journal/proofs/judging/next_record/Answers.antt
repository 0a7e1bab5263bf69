use Rattle.std.proofs.Common.{◌≡◌, ℕ, true, false, List, [], sym, ◌∙◌, ap₂, subst}
use Rattle.std.proofs.lemmas.Bool.{false≢true}
use Rattle.gm_base.specs.declared.kind.Kind.{Kind}
use Rattle.evidence_rec.specs.declared.record.Record.{Record}
use Rattle.evidence_rec.specs.Records.{kind_of, set_of, Accepts}
use Rattle.evidence_rec.specs.Index.{holds}
use Rattle.evidence_text.specs.Alone.{IsTextOf, TellsRecord}
use Rattle.gm_journal.proofs.JudgingLemmas.{held-none, refused-none, accepted-some}
use Rattle.gm_journal.proofs.judging.next_record.Goals as goal

-- its set is held
pub returns-then-has-clause-judges : goal.returns-then-has-clause-judges
returns-then-has-clause-judges c =
    let p = c.args.problem.now in
    let found = c.in-Record.found in
    let is : IsTextOf p found c.args.text.now = subst (TellsRecord p c.args.text.now) c.in-Record.is c.in_ok-found.ensures.tells in
    let there : holds c.args.held.now (kind_of found) (set_of found) ≡ true =
    sym (ap₂ (λ (k : Kind) (s : List ℕ). holds c.args.held.now k s) c.kind.ensures c.set.ensures) ∙ sym c.has.ensures ∙ c.if-has.true in
    held-none p c.args.held.now c.args.text.now found is there

-- its evidence shows what it says
pub returns-then-is_ok-clause-judges : goal.returns-then-is_ok-clause-judges
returns-then-is_ok-clause-judges c =
    let p = c.args.problem.now in
    let found = c.in-Record.found in
    let is : IsTextOf p found c.args.text.now = subst (TellsRecord p c.args.text.now) c.in-Record.is c.in_ok-found.ensures.tells in
    let fresh : holds c.args.held.now (kind_of found) (set_of found) ≡ false =
    sym (ap₂ (λ (k : Kind) (s : List ℕ). holds c.args.held.now k s) c.kind.ensures c.set.ensures) ∙ sym c.has.ensures ∙ c.if-has.false in
    let accepts : Accepts p [] found =
    subst (λ (rs : List Record). Accepts p rs found) c.new-none.ensures (c.in_ok-verdict.ensures.accepts.0 (c.is_ok.ensures.0 c.if-is_ok.true)) in
    accepted-some p c.args.held.now c.args.text.now found c.problem_fits.ensures is fresh accepts

-- it does not
pub returns-else-is_ok-clause-judges : goal.returns-else-is_ok-clause-judges
returns-else-is_ok-clause-judges c =
    let p = c.args.problem.now in
    let found = c.in-Record.found in
    let is : IsTextOf p found c.args.text.now = subst (TellsRecord p c.args.text.now) c.in-Record.is c.in_ok-found.ensures.tells in
    refused-none p c.args.held.now c.args.text.now found is
    (λ accepts.
    let ok : c.is_ok.result ≡ true =
    c.is_ok.ensures.1 (c.in_ok-verdict.ensures.accepts.1 (subst (λ (rs : List Record). Accepts p rs found) (sym c.new-none.ensures) accepts)) in
    false≢true (sym c.if-is_ok.false ∙ ok))
