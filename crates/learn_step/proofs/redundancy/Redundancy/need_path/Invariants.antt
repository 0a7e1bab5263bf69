use Rattle.learn_step.proofs.redundancy.Redundancy.need_path.Given as goal

-- each turn takes one off the path
abbrev pub decreases-loop-stop : goal.decreases-loop-stop
decreases-loop-stop l = goal.left-loop-stop l
