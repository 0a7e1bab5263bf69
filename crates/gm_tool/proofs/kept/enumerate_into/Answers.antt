use Rattle.std.proofs.Common.{◌≡◌, ℕ, Bool, true, Some, length, refl, subst, sym, ◌∙◌}
use Rattle.std.specs.Prelude.{MatchOption, option_map}
use Rattle.turn_lock.specs.Seats.{AreNew}
use Rattle.map_core.specs.declared.closing.Verdict.TheVariants.{Memory}
use Rattle.map_core.specs.Opens as opens
use Rattle.worker_pool.specs.Outcomes.{IsKept, IsLeft, TellsKept}
use Rattle.gm_tool.proofs.KeptLemmas.{is-kept}
use Rattle.gm_tool.proofs.kept.enumerate_into.Goals as goal

-- the journal holds the opening's records
pub enumerate-outcome-requires-clause-journal : goal.enumerate-outcome-requires-clause-journal
enumerate-outcome-requires-clause-journal g c κs within =
    let r = c.requires.ready in
    let count = c.requires.crew.count in
    record {
      problem = r.begun.problem;
      records = r.begun.records;
      seats = r.begun.seats ∙ sym count;
      all = subst (λ n. AreNew c.args.pages.journal n c.args.pages.seats.items) (sym count) r.seats;
    }

-- what is left is what the board and the seats of the journal know
pub returns : goal.returns
returns g c =
    let p = c.args.problem.now in
    let b = c.args.bounds in
    let j = c.args.pages.journal in
    let pens = c.args.pages.seats.items in
    let outcome = c.enumerate-outcome.result in
    let workers = length c.args.crew.oracles.items in
    let count : workers ≡ b.jobs = c.requires.crew.count in
    let opened = λ (n : ℕ). opens.opening_of p c.args.first n b.conflicts b.limit b.goal true in
    let left = c.in-Some.seats.items in
    let kept =
    subst (λ back. TellsKept (opened workers) (Some (j, pens)) outcome.closing outcome.broken (option_map (λ x. (x.0, x.1.items)) back)) c.in-Some.is c.enumerate-outcome.ensures.journal in
    let told =
    subst (λ (m : Bool). MatchOption outcome.closing (outcome.verdict ≡ Memory) (λ k. IsLeft (opened workers) m outcome.logs k × (outcome.verdict ≡ k.verdict))) (sym c.requires.journal)
    c.enumerate-outcome.ensures.outcome.closing in
    is-kept g.D.Disk.state p c.args.first b j c.in-Some.journal pens left outcome.spent outcome.logs outcome.broken c.in-Ended.disk c.enumerate-outcome.ensures.outcome.spent c.in-Ended.ensures c.texts_are_of_their_records.ensures.kept c.texts_are_of_their_records.ensures.front c.requires.ready.seats
    c.kept_is_salvaged.ensures.read c.kept_is_salvaged.ensures.crash outcome.closing outcome.verdict (record { disk = c.in-Ended.disk; is_broken = c.is_some.result; left = c.left_of.result })
    (subst (λ n. MatchOption outcome.closing (outcome.verdict ≡ Memory) (λ k. IsLeft (opened n) b.journal outcome.logs k × (outcome.verdict ≡ k.verdict))) count told)
    c.left_of.ensures.ids
    (subst (λ n. IsKept (opened n) j pens outcome.closing outcome.broken c.in-Some.journal left) count kept) c.requires.ready.begun refl c.is_some.ensures c.left_of.ensures.left
