use Rattle.std.proofs.Common.{◌<◌, length, refl, sym, subst}
use Rattle.gm_base.specs.Sets.{IsSubset, all_groups}
use Rattle.map_core.specs.Tallies.{IsMet, IsCarried}
use Rattle.map_core.proofs.TallySteps.{tally-conflict}
use Rattle.map_core.proofs.tally.Tally.add_conflict.Goals as goal

pub meet-self-requires-clause-within : goal.meet-self-requires-clause-within
meet-self-requires-clause-within c =
    let may = c.requires.may in
    subst (λ s. IsSubset s (all_groups (length c.args.self.now.met.items))) (sym c.as_slice-groups.ensures.groups)
    (subst (λ n. IsSubset c.args.set.now (all_groups n)) (sym may.tallies.all_met) may.within)

pub meet-self-requires-clause-count : goal.meet-self-requires-clause-count
meet-self-requires-clause-count c = c.requires.may.tallies.unmet

pub carry-self-requires-clause-within : goal.carry-self-requires-clause-within
carry-self-requires-clause-within c =
    let may = c.requires.may in
    subst (λ s. IsSubset s (all_groups (length c.args.self.now.carried.items))) (sym c.as_slice-groups.ensures.groups)
    (subst (λ n. IsSubset c.args.set.now (all_groups n)) (sym may.tallies.all_carried) may.within)

pub carry-self-requires-clause-upto : goal.carry-self-requires-clause-upto
carry-self-requires-clause-upto c = λ i low.
    let may = c.requires.may in may.tallies.upto i (subst (λ n. i < n) may.tallies.all_carried low)

-- the counts are those of what was marked and carried
pub returns : goal.returns
returns c = λ groups sets tally.
    tally-conflict groups sets c.args.set.now c.args.self.now _ tally
    (subst (λ s. IsMet s c.args.self.now.met.items c.meet-self.new.met.items) c.as_slice-groups.ensures.groups c.meet-self.ensures.is)
    c.meet-self.ensures.count
    (subst (λ s. IsCarried c.args.self.now.current s c.args.self.now.carried.items c.carry-self.new.carried.items) c.as_slice-groups.ensures.groups c.carry-self.ensures.is)
    refl c.carry-self.ensures.count
