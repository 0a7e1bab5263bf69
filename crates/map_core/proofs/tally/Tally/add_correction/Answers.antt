use Rattle.std.proofs.Common.{length, refl, sym, subst}
use Rattle.gm_base.specs.Sets.{IsSubset, all_groups}
use Rattle.map_core.specs.Tallies.{IsMet, IsFreed}
use Rattle.map_core.proofs.TallySteps.{tally-correction}
use Rattle.map_core.proofs.tally.Tally.add_correction.Goals as goal

pub meet-self-requires-clause-within : goal.meet-self-requires-clause-within
meet-self-requires-clause-within c =
    let may = c.requires in
    subst (λ s. IsSubset s (all_groups (length c.args.self.now.met.items))) (sym c.as_slice-groups.ensures.groups)
    (subst (λ n. IsSubset c.args.set.now (all_groups n)) (sym may.tallies.all_met) may.within)

pub meet-self-requires-clause-count : goal.meet-self-requires-clause-count
meet-self-requires-clause-count c = c.requires.tallies.unmet

pub free_alone-self-requires-clause-within : goal.free_alone-self-requires-clause-within
free_alone-self-requires-clause-within c =
    let may = c.requires in
    subst (λ s. IsSubset s (all_groups (length c.args.self.now.carried.items))) (sym c.as_slice-groups.ensures.groups)
    (subst (λ n. IsSubset c.args.set.now (all_groups n)) (sym may.tallies.all_carried) may.within)

pub free_alone-self-requires-clause-some : goal.free_alone-self-requires-clause-some
free_alone-self-requires-clause-some c = c.requires.tallies.some

pub free_alone-self-requires-clause-count : goal.free_alone-self-requires-clause-count
free_alone-self-requires-clause-count c = c.requires.tallies.carriers

-- the counts are those of what was marked and carried
pub returns : goal.returns
returns c = λ groups sets tally.
    tally-correction groups sets c.args.set.now c.args.self.now _ tally
    (subst (λ s. IsMet s c.args.self.now.met.items c.meet-self.new.met.items) c.as_slice-groups.ensures.groups c.meet-self.ensures.is)
    c.meet-self.ensures.count
    (subst (λ s. IsFreed s c.args.self.now.carried.items c.free_alone-self.new.carried.items) c.as_slice-groups.ensures.groups c.free_alone-self.ensures.is)
    refl c.free_alone-self.ensures.count
