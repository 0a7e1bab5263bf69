use Rattle.std.proofs.Common.{◌≡◌, ◌<◌, ◌^◌, ◌++◌, ◌∙◌, [], ℕ, List, length, All, ap, subst, sym, arith, rules}
use Rattle.sat_base.specs.Numbering.{Ascends}
use Rattle.lrat_steps.specs.Log.{steps_of}
use Rattle.lrat_steps.proofs.FirstLemmas.{small_ids}
use Rattle.lrat_steps.proofs.renumber.numbering_of.Goals as goal

-- an id is at most the number of steps
pub push_narrow-requires : goal.push_narrow-requires
push_narrow-requires c = small_ids (steps_of c.args.log.now) c.args.cone.now (2 ^ 32) c.requires.cone (omega arith)

pub new-requires : goal.new-requires
new-requires c =
    let empty : c.new-ids.result.items ≡ [] = search rules in
    let same : c.push_narrow.new.ids.items ≡ c.args.cone.now = c.in_ok-push_narrow.ensures.ok ∙ ap (λ (xs : List ℕ). xs ++ c.args.cone.now) empty in
    record {
      ascends = subst Ascends (sym same) c.requires.cone.ascends;
      small = subst (All (λ n. n < 2 ^ 32)) (sym same) (small_ids (steps_of c.args.log.now) c.args.cone.now (2 ^ 32) c.requires.cone (omega arith));
      few = subst (λ (ids : List ℕ). length ids < 2 ^ 32) (sym same) (omega arith);
      inputs = omega arith;
    }
