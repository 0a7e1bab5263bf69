use Rattle.std.proofs.Common.{◌≡◌, ◌∙◌, ◌∷◌, ◌++◌, [], List, Bool, Option, sym, subst}
use Rattle.std.specs.Prelude.{All, IfSome, OnOk, OnErr}
use Rattle.model_flips.specs.declared.rotation.Turned.{Turned}
use Rattle.model_flips.specs.Rotation.{IsTurned}
use Rattle.known_sets.specs.declared.entry.Entry.{Entry}
use Rattle.known_sets.specs.Entries.{IsSatisfied}
use Rattle.known_sets.proofs.MemoryLemmas.{All-inserted}
use Rattle.known_sets.proofs.turning.turn_by.Goals as goal

-- nothing is remembered before the turn is found
pub returns-in_err-turned : goal.returns-in_err-turned
returns-in_err-turned c = λ listing before all. all

pub returns-in_default : goal.returns-in_default
returns-in_default c = λ listing before all. all

-- a look leaves what is remembered
pub returns-in_default-newly_shown : goal.returns-in_default-newly_shown
returns-in_default-newly_shown c = λ listing before all. subst (All (IsSatisfied c.args.problem.now)) (sym c.newly_shown.ensures) all

pub returns-in_err-tidy : goal.returns-in_err-tidy
returns-in_err-tidy c = λ listing before all. subst (All (IsSatisfied c.args.problem.now)) (sym c.newly_shown.ensures) all

-- what there is no memory for is not remembered
pub returns-in_err-insert : goal.returns-in_err-insert
returns-in_err-insert c = λ listing before all. subst (All (IsSatisfied c.args.problem.now)) (sym (c.in_err-insert.ensures.err ∙ c.newly_shown.ensures)) all

-- what comes of the turn satisfies all groups but those with which it is kept
pub returns : goal.returns
returns c = λ listing before all.
    let p = c.args.problem.now in
    let turned = subst (λ (o : Option Turned). IfSome o (IsTurned p c.args.rotation.now c.args.out.now c.args.assign.now)) c.in-Some.is c.in_ok-turned.ensures in
    let known : Entry (List Bool) = record { set = c.in_ok-tidy.tidy.out; evidence = c.in_ok-tidy.tidy.assign } in
    All-inserted (IsSatisfied p) c.insert.result c.args.satisfied.now c.insert.new.self known
    (subst (λ before. OnOk c.insert.result (c.insert.new.self ≡ before ++ known ∷ [])) c.in-Some-newly_shown.ensures c.insert.ensures.ok)
    (subst (λ before. OnErr c.insert.result (c.insert.new.self ≡ before)) c.in-Some-newly_shown.ensures c.insert.ensures.err) all (c.in_ok-tidy.ensures listing (turned listing before))
