use Rattle.std.proofs.Common.{◌≡◌, List, sym, ap, ◌∙◌, subst}
use Rattle.evidence_rec.specs.Records.{founds}
use Rattle.lrat_steps.specs.Log.{LogStep, learned_count}
use Rattle.gm_base.specs.Explored.{Found}
use Rattle.evidence_rec.specs.Seeding.{IsHonestMap}
use Rattle.map_core.specs.declared.entry.Entry.{Entry}
use Rattle.map_core.specs.declared.closing.Verdict.TheVariants.{Budget}
use Rattle.map_core.specs.Core.{State, opened}
use Rattle.map_core.specs.Kept.{state_of, StandsDry}
use Rattle.map_core.specs.Closings.{HaveEnded, IsClosing, verdict_by, is_cut_off}
use Rattle.map_core.proofs.Kept.{kept_sound}
use Rattle.map_core.proofs.News.{new_are_brought}
use Rattle.map_core.proofs.Ended.{spent_all, closing_all, closing_told, closing_dry, closing_proof}
use Rattle.map_core.proofs.calls.MapCore.closing.Goals as goal

-- what a core keeps, where every worker has ended
pub returns : goal.returns
returns g c =
    let i = c.self.inside in
    let k = c.self.invariant in
    let d = k.driven in
    let s : State =
    state_of g.M.MapEngine.TOPS i.goal i.problem i.first i.budget i.limit i.common i.records.items i.workers.items i.history.items in
    let ok = kept_sound k in
    let over = subst (λ (x : State). HaveEnded x.opening x.history) (sym c.self.view_is) c.requires in
    let verdict : c.verdict_of.result ≡ verdict_by i.common.exhausted i.common.settled (is_cut_off i.history.items) i.common.stopped i.common.limited =
    c.verdict_of.ensures ∙ ap (λ (h : List Entry). verdict_by i.common.exhausted i.common.settled (is_cut_off h) i.common.stopped i.common.limited) c.as_slice.ensures.value in
    let log : (g.M.MapEngine.state i.engine).log ≡ c.into_log.result = sym c.into_log.ensures.log in
    subst
    (λ x. IsClosing x (record { records = c.from_vec.result; verdict = c.verdict_of.result; proof = i.proof; history = c.from_vec-2.result }) c.into_log.result)
    c.self.view_is
    (record {
      reached = k.reached;
      sound = ok;
      records = c.from_vec.ensures;
      brought = c.from_vec.ensures ∙ (new_are_brought (opened s.opening) s s.history k.reached).0;
      history = c.from_vec-2.ensures;
      verdict = verdict;
      all = closing_all s c.verdict_of.result ok verdict;
      told = closing_told s c.verdict_of.result ok verdict;
      spent = λ e. spent_all s ok over (subst (λ v. v ≡ Budget) {y = verdict_by i.common.exhausted i.common.settled (is_cut_off i.history.items) i.common.stopped i.common.limited} verdict e);
      dry = λ e. closing_dry s c.into_log.result ok over (subst (StandsDry i.history.items) log d.dry) (subst (λ v. v ≡ Budget) {y = verdict_by i.common.exhausted i.common.settled (is_cut_off i.history.items) i.common.stopped i.common.limited} verdict e);
      proof =
          closing_proof i.problem.groups (founds i.records.items) i.common.exhausted i.common.settled (is_cut_off i.history.items)
          i.common.stopped i.common.limited c.verdict_of.result i.proof verdict k.keeps;
      honest =
          subst (λ (l : List LogStep). IsHonestMap (founds i.records.items) l) log
          (subst (λ (b : List Found). IsHonestMap b (g.M.MapEngine.state i.engine).log) d.same_blocks d.honest);
      learned = ap learned_count c.into_log.ensures.log ∙ d.learned;
    })
