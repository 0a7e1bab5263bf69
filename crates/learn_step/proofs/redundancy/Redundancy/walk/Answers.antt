use Rattle.std.proofs.Common.{subst, sym, Some, All}
use Rattle.std.proofs.lemmas.List.Elements.{All-pop, All-push}
use Rattle.learn_step.specs.declared.redundancy.Redundancy.{Redundancy}
use Rattle.learn_step.specs.declared.redundancy.Look.TheVariants as look
use Rattle.learn_step.specs.Redundancy.{IsStop, Continues}
use Rattle.learn_step.proofs.redundancy.Redundancy.walk.Goals as goal
use Rattle.learn_step.proofs.redundancy.Redundancy.walk.Goals.{in-Deeper+in_ok-push-in-Deeper+in_ok-push-in-Deeper-2, in-Redundant+in_ok-insert-in-Redundant}

-- the last one of the path
pub look-requires-clause-stop : goal.look-requires-clause-stop
look-requires-clause-stop c =
    (All-pop (IsStop c.args.trail.now.entries) c.loop.self.path.items c.pop.new.self.items (Some c.in-Some.stop) c.in-Some.ensures.items c.loop.invariant).1

-- what came is forced, too
pub loop-preserved : goal.loop-preserved
loop-preserved c =
    let es = c.args.trail.now.entries in
    let left : All (IsStop es) c.pop.new.self.items =
    (All-pop (IsStop es) c.loop.self.path.items c.pop.new.self.items (Some c.in-Some.stop) c.in-Some.ensures.items c.loop.invariant).0 in
    elim c.match-look.branch [
      | in-Deeper+in_ok-push-in-Deeper+in_ok-push-in-Deeper-2 w ↦
          (let both : Continues es (look.Deeper w.in-Deeper.seen w.in-Deeper.next) = subst (Continues es) w.in-Deeper.is c.look.ensures in
          let one = subst (All (IsStop es)) (sym w.in_ok-push-in-Deeper.ensures.items) (All-push (IsStop es) c.pop.new.self.items w.in-Deeper.seen left both.0) in
          let two = subst (All (IsStop es)) (sym w.in_ok-push-in-Deeper-2.ensures.items) (All-push (IsStop es) w.push.new.self.items w.in-Deeper.next one both.1) in
          subst (λ (s : Redundancy). All (IsStop es) s.path.items) (sym w.self-is) two)
      | in-Redundant+in_ok-insert-in-Redundant w ↦ subst (λ (s : Redundancy). All (IsStop es) s.path.items) (sym w.self-is) left
    ]
