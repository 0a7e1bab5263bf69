use Rattle.std.proofs.Common.{◌≡◌, ◌<◌, ◌≤◌, ◌+◌, ◌∷◌, [], ◌++◌, ◌∙◌, ℕ, List, All, get_or, length, map, take, ap, sym, subst, arith}
use Rattle.std.proofs.lemmas.List.{take_all, take_more, map_push}
use Rattle.std.proofs.lemmas.List.Elements.{All-push}
use Rattle.sat_base.specs.Derivation.{max_id}
use Rattle.sat_base.specs.Hints.{ids_of}
use Rattle.lrat_steps.specs.Cone.{hints_at, number_in}
use Rattle.lrat_steps.proofs.ConeLemmas.{hint_at, hint_range}
use Rattle.lrat_steps.specs.Log.{steps_of}
use Rattle.lrat_steps.proofs.renumber.renumber.Goals as goal

-- a hint of an honest step is the id of an earlier one
in_range : (c : goal.After-at) → (0 < c.at.result) × (c.at.result ≤ length (steps_of c.args.log.now))
in_range c =
    let items = ids_of c.hints-hints.result in
    let lt : c.loop-at.at < length items = omega arith in
    hint_range (steps_of c.args.log.now) c.args.id c.loop-at.at c.at.result items c.requires.backward c.requires.from_one c.requires.within c.hints-hints.ensures lt c.at.ensures

pub number_of-requires-clause-from_one : goal.number_of-requires-clause-from_one
number_of-requires-clause-from_one c = (in_range c).0

pub number_of-requires-clause-within : goal.number_of-requires-clause-within
number_of-requires-clause-within c = (in_range c).1

pub number_of-requires-clause-reached : goal.number_of-requires-clause-reached
number_of-requires-clause-reached c =
    let items = ids_of c.hints-hints.result in
    let lt : c.loop-at.at < length items = omega arith in
    c.requires.reached c.at.result (hint_at (steps_of c.args.log.now) c.args.id c.loop-at.at c.at.result items c.hints-hints.ensures lt c.at.ensures)

-- one more number
numbered : (f : ℕ → ℕ) (hints numbers : List ℕ) (at hint number : ℕ) → at < length hints → hint ≡ get_or hints at 0 → number ≡ f hint → numbers ≡ map f (take at hints)
    → numbers ++ number ∷ [] ≡ map f (take (at + 1) hints)
numbered f hints numbers at hint number lt is named before =
    ap (λ (ns : List ℕ). ns ++ number ∷ []) before
    ∙ ap (λ (n : ℕ). map f (take at hints) ++ n ∷ []) (named ∙ ap f is)
    ∙ sym (ap (map f) (take_more hints at 0 lt) ∙ map_push f (take at hints) (get_or hints at 0))

pub loop-at-preserved : goal.loop-at-preserved
loop-at-preserved c =
    let steps = steps_of c.args.log.now in
    let hints = hints_at steps c.args.id in
    let items = ids_of c.hints-hints.result in
    let lt : c.loop-at.at < length items = omega arith in
    let within : c.loop-at.at < length hints = subst (λ (xs : List ℕ). c.loop-at.at < length xs) c.hints-hints.ensures lt in
    let is : c.at.result ≡ get_or hints c.loop-at.at 0 = c.at.ensures ∙ ap (λ (xs : List ℕ). get_or xs c.loop-at.at 0) c.hints-hints.ensures in
    let l = c.loop-at.invariant in
    let pushed : c.push.new.self.items ≡ c.loop-at.numbers.items ++ c.number_of.result ∷ [] = c.in_ok-push.ensures.items in
    record {
      numbers = pushed
          ∙ numbered (number_in steps c.args.cone.now) hints c.loop-at.numbers.items c.loop-at.at c.at.result c.number_of.result within is c.number_of.ensures.number l.numbers;
      small = subst (λ (ns : List ℕ). All (λ n. n ≤ max_id) ns) (sym pushed) (All-push (λ n. n ≤ max_id) c.loop-at.numbers.items c.number_of.result l.small c.number_of.ensures.small);
    }

-- all hints have their new numbers
pub returns-clause-numbers : goal.returns-clause-numbers
returns-clause-numbers c =
    let steps = steps_of c.args.log.now in
    let hints = hints_at steps c.args.id in
    let past : length hints ≤ c.loop-at.at = subst (λ (xs : List ℕ). length xs ≤ c.loop-at.at) c.hints-hints.ensures (omega arith) in
    c.loop-at.invariant.numbers ∙ ap (map (number_in steps c.args.cone.now)) (take_all c.loop-at.at hints past)
