use Rattle.std.proofs.Common.{◌≡◌, ◌<◌, true, length, refl, sym, ap, subst, arith}
use Rattle.gm_base.specs.Sets.{has}
use Rattle.evidence_rec.specs.Records.{set_of}
use Rattle.evidence_rec.specs.Serving.{is_conflict_with}
use Rattle.evidence_rec.specs.Numbered.{placed}
use Rattle.evidence_rec.proofs.ServingLemmas.{index-listed, index-correction}
use Rattle.evidence_rec.proofs.NumberedLemmas.{length-placed, placed-groups, placed-on_ok}
use Rattle.evidence_rec.proofs.serving.ConflictIndex.add.Goals as goal

-- a correction is in no list
pub returns-in_default-clause-one_more : goal.returns-in_default-clause-one_more
returns-in_default-clause-one_more c =
    index-correction c.args.record.now c.args.count c.args.self.now c.args.self.now (λ g. ap (is_conflict_with g) c.in_default.is) refl

pub list_under-requires : goal.list_under-requires
list_under-requires c =
    record {
      within = λ g on.
          subst (λ n. g < n) (length-placed c.self.inside.places.items c.self.inside.lists.items)
          (subst (λ lists. g < length lists) (sym c.self.view_is) (c.requires.within g (subst (λ r. has (set_of r) g ≡ true) (sym c.in-Conflict.is) on)));
    }

pub returns-clause-groups : goal.returns-clause-groups
returns-clause-groups c =
    placed-groups c.list_under.result c.self.inside.places.items c.push_above.new.places.items c.self.inside.lists.items c.list_under.new.lists.items c.args.self.now c.self.view_is c.list_under.ensures.groups

-- a conflict is in the list of each of its groups, under its number
pub returns-clause-one_more : goal.returns-clause-one_more
returns-clause-one_more c =
    index-listed c.list_under.result c.args.record.now c.args.count c.in-Ok.place c.args.self.now (placed c.self.inside.places.items c.self.inside.lists.items)
    (placed c.push_above.new.places.items c.list_under.new.lists.items) c.in-Conflict.set (λ g. ap (is_conflict_with g) c.in-Conflict.is) c.in-Ok.ensures.1 c.self.view_is
    (placed-groups c.list_under.result c.self.inside.places.items c.push_above.new.places.items c.self.inside.lists.items c.list_under.new.lists.items
    (placed c.self.inside.places.items c.self.inside.lists.items) refl c.list_under.ensures.groups)
    (placed-on_ok c.list_under.result c.self.inside.places.items c.push_above.new.places.items c.self.inside.lists.items c.list_under.new.lists.items c.in-Conflict.set c.in-Ok-try_from.number c.in-Ok.place
    c.self.invariant (omega (arith, c.in-Ok-try_from.ensures.1)) c.in_ok-push_above.ensures.ok c.list_under.ensures.lists)
