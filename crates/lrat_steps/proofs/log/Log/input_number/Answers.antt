use Rattle.std.proofs.Common.{sym, ◌∙◌, ap, arith}
use Rattle.sat_base.specs.Blocks.{no_step}
use Rattle.lrat_steps.proofs.MarkLemmas.{place_at_id, read_at, read_shown}
use Rattle.lrat_steps.proofs.log.Log.input_number.Goals as goal

-- what is shown are inputs, with nothing between them
pub returns-then-id-shown : goal.returns-then-id-shown
returns-then-id-shown c = sym (read_shown c.self.inside c.args.self.now c.args.id c.self.view_is c.requires.from_one (omega arith)).inputs

-- the others have a record
pub index-requires : goal.index-requires
index-requires c =
    let lt = (place_at_id c.self.inside c.args.self.now c.args.id c.from-shown.result c.self.invariant c.self.view_is (c.from-shown.ensures ∙ c.len.ensures) (omega arith) c.requires.within).0 in
    omega arith

pub returns : goal.returns
returns c =
    ap (λ r. r.inputs) c.index.ensures
    ∙ (read_at c.self.inside c.args.self.now c.args.id c.from-shown.result c.index.result.now no_step c.self.invariant c.self.view_is (c.from-shown.ensures ∙ c.len.ensures) (omega arith) c.requires.within).inputs
