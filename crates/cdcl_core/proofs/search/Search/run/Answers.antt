use Rattle.std.proofs.Common.{◌∙◌, List, ap, sym, subst, take}
use Rattle.sat_base.specs.Units.{AllTrue}
use Rattle.trail_book.specs.Trail.{Trail, trues}
use Rattle.propagate.proofs.KeptLemmas.{kept_same}
use Rattle.lrat_steps.specs.Log.{LogStep, inputs_of}
use Rattle.cdcl_core.specs.Answers.{IsHonestlyPaid}
use Rattle.cdcl_core.specs.State.{IsState, ArePositive}
use Rattle.cdcl_core.proofs.StateLemmas.{touched_is}
use Rattle.cdcl_core.proofs.search.Search.run.Goals as goal

-- only the order of decisions is another
pub resume-requires-clause-ready : goal.resume-requires-clause-ready
resume-requires-clause-ready c =
    let s = c.args.self.now in
    let r = c.requires.ready.search in
    let is = c.start_at.ensures in
    record {
      assumed = c.requires.ready.assumed;
      search = record {
        vars = r.vars ∙ ap (λ (t : Trail). t.vars) (sym is);
        kept = kept_same s.store s.trail c.start_at.new.self 0 (ap (λ (t : Trail). t.entries) is) (ap (λ (t : Trail). t.vars) is) (ap (λ (t : Trail). t.done) is) r.kept;
        state = subst (λ (t : Trail). IsState t.vars s.store.clauses s.log t.entries c.requires.ready.assumed s.assumed_levels) (sym is) r.state;
        reached = subst (λ (t : Trail). AllTrue (trues t.entries) (take s.assumed_true c.requires.ready.assumed)) (sym is) r.reached;
        positive = λ asked. subst (λ (t : Trail). ArePositive s.assumed_levels t.entries) (sym is) (r.positive asked);
      };
    }

-- what is left of the trail touches as much
pub search-requires-clause-touched : goal.search-requires-clause-touched
search-requires-clause-touched c =
    let s = c.args.self.now in
    let now = c.resume.new.self in
    touched_is s.true_first now.true_first s.trail.touched now.trail.touched (inputs_of s.log) (inputs_of now.log) c.resume.ensures.true_first (c.resume.ensures.touched ∙ ap (λ (t : Trail). t.touched) c.start_at.ensures) (ap inputs_of c.resume.ensures.log)
    c.requires.touched

pub returns-clause-ready : goal.returns-clause-ready
returns-clause-ready c = record { assumed = c.args.assumed.now; search = c.in_ok-answer.ensures.ends.search }

-- to go on from another trail costs nothing
pub returns-clause-paid : goal.returns-clause-paid
returns-clause-paid c =
    subst (λ (log : List LogStep). IsHonestlyPaid log c.search.new.self.log c.args.purse.now.left c.search.new.purse.left) c.resume.ensures.log c.search.ensures.paid
