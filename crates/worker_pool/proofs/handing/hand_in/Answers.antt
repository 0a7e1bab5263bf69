use Rattle.std.proofs.Common.{◌≡◌, ◌≢◌, ◌⊎◌, refl, sym, ◌∙◌, subst, inl, inr, option_copied, arith}
use Rattle.evidence_rec.specs.Records.{kind_of, set_of}
use Rattle.map_core.specs.declared.entry.Call.TheVariants.{Post}
use Rattle.map_core.specs.declared.entry.Retirement.TheVariants as retirement
use Rattle.map_core.specs.declared.replies.Posted.{Posted}
use Rattle.map_core.specs.declared.replies.Posted.TheVariants as posted
use Rattle.map_core.specs.Replies.{post_reply}
use Rattle.board.specs.Boards.{IsCall}
use Rattle.worker_pool.specs.Handing.{IsTextFor}
use Rattle.worker_pool.specs.Workers.{IsKeeping}
use Rattle.worker_pool.proofs.Steps.{longer, post_goes_on, post_ends, retire_ends}
use Rattle.worker_pool.proofs.Written.{some_seen, same_pen}
use Rattle.worker_pool.proofs.Kept.{keeps_on, has_kept, is_due, no_news}
use Rattle.worker_pool.proofs.handing.hand_in.Goals as goal

-- there was no memory for the text
pub returns-in_default : goal.returns-in_default
returns-in_default g c =
    let w = c.args.worker.now in
    let call = c.retire.ensures.call in
    record {
      same = call.same;
      goes_on = λ no. (let never : ⊥ = cc in absurd never);
      keeps = λ no. (let never : ⊥ = cc in absurd never);
      ends = λ _. retire_ends retirement.Memory c.requires.owing refl call c.retire.ensures.worker;
      kept = has_kept w _ (keeps_on w _ c.requires.keeps refl refl call refl refl) (same_pen w.pen);
      longer = longer call;
      short = call.short;
    }

-- behind a new record the worker stands without a job, and its text is due
pub keep-requires-clause-at : goal.keep-requires-clause-at
keep-requires-clause-at g c =
    post_goes_on c.args.finding c.post-posted.result c.requires.given c.requires.owing c.requires.accepted c.requires.explored c.post-posted.ensures.call c.post-posted.ensures.worker (inl c.in-New.is)

pub keep-requires-clause-due : goal.keep-requires-clause-due
keep-requires-clause-due g c =
    let w = c.args.worker.now in
    is_due w _ c.args.finding c.in-Ok.text c.requires.keeps refl refl (subst (λ r. IsCall c.args.board.now.opening w.seat (Post (kind_of c.args.finding) (set_of c.args.finding) c.args.finding) c.args.used (post_reply r) c.post-posted.new.seat) c.in-New.is c.post-posted.ensures.call) c.requires.accepted
    (subst (λ b. IsTextFor c.args.problem.now c.args.finding b c.in-Ok.text) (c.is_some.ensures ∙ sym (some_seen c.args.journal)) c.in-Ok.ensures)

pub returns-in-New : goal.returns-in-New
returns-in-New g c =
    let w = c.args.worker.now in
    let call = c.post-posted.ensures.call in
    let k = c.keep.ensures in
    let more = longer call in
    let after = k.longer in
    record {
      same = record { lock = k.same.lock ∙ call.same.lock; opening = k.same.opening ∙ call.same.opening; number = k.same.number ∙ call.same.number; made = k.same.made ∙ call.same.made };
      goes_on = k.goes_on;
      keeps = k.keeps;
      ends = k.ends;
      kept = record { pen = k.kept.pen; written = k.kept.written; broken = k.kept.broken };
      longer = omega arith;
      short = k.short;
    }

-- what is held already changes nothing
pub returns-in-Already : goal.returns-in-Already
returns-in-Already g c =
    let w = c.args.worker.now in
    let call = c.post-posted.ensures.call in
    let keeps : IsKeeping (option_copied c.args.journal) c.args.problem.now _ = keeps_on w _ c.requires.keeps refl refl call (no_news c.args.finding c.post-posted.result (λ new. cc)) refl in
    record {
      same = call.same;
      goes_on = λ _. post_goes_on c.args.finding c.post-posted.result c.requires.given c.requires.owing c.requires.accepted c.requires.explored call c.post-posted.ensures.worker (inr c.in-Already.is);
      keeps = λ _. keeps;
      ends = λ no. (let never : ⊥ = cc in absurd never);
      kept = has_kept w _ keeps (same_pen w.pen);
      longer = longer call;
      short = call.short;
    }

-- each other answer ends the worker
pub returns-in-Limit : goal.returns-in-Limit
returns-in-Limit g c =
    let w = c.args.worker.now in
    let call = c.post-posted.ensures.call in
    let keeps : IsKeeping (option_copied c.args.journal) c.args.problem.now _ = keeps_on w _ c.requires.keeps refl refl call (no_news c.args.finding c.post-posted.result (not_new c.post-posted.result c.in-Limit.is)) refl in
    record {
      same = call.same;
      goes_on = λ no. (let never : ⊥ = cc in absurd never);
      keeps = λ no. (let never : ⊥ = cc in absurd never);
      ends = λ _. post_ends c.args.finding c.post-posted.result c.requires.given c.requires.owing c.requires.accepted c.requires.explored call c.post-posted.ensures.worker (not_new c.post-posted.result c.in-Limit.is) (not_already c.post-posted.result c.in-Limit.is);
      kept = has_kept w _ keeps (same_pen w.pen);
      longer = longer call;
      short = call.short;
    }
  where
    not_new : (r : Posted) → (r ≡ posted.Limit) ⊎ (r ≡ posted.Memory) → r ≢ posted.New
    not_new r (inl e) new = cc
    not_new r (inr e) new = cc

    not_already : (r : Posted) → (r ≡ posted.Limit) ⊎ (r ≡ posted.Memory) → r ≢ posted.Already
    not_already r (inl e) new = cc
    not_already r (inr e) new = cc
