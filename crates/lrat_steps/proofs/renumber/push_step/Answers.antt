use Rattle.std.proofs.Common.{inr, rules}
use Rattle.lrat_steps.proofs.renumber.push_step.Goals as goal

-- the id of a cone is that of a derived step
pub renumber-requires-clause-from_one : goal.renumber-requires-clause-from_one
renumber-requires-clause-from_one c = (c.requires.cone.derived c.args.id c.requires.has).from_one

pub renumber-requires-clause-within : goal.renumber-requires-clause-within
renumber-requires-clause-within c = (c.requires.cone.derived c.args.id c.requires.has).within

pub number_of-requires-clause-from_one : goal.number_of-requires-clause-from_one
number_of-requires-clause-from_one c = (c.requires.cone.derived c.args.id c.requires.has).from_one

pub number_of-requires-clause-within : goal.number_of-requires-clause-within
number_of-requires-clause-within c = (c.requires.cone.derived c.args.id c.requires.has).within

pub number_of-requires-clause-reached : goal.number_of-requires-clause-reached
number_of-requires-clause-reached c = inr c.requires.has

pub lits-requires-clause-from_one : goal.lits-requires-clause-from_one
lits-requires-clause-from_one c = (c.requires.cone.derived c.args.id c.requires.has).from_one

pub lits-requires-clause-within : goal.lits-requires-clause-within
lits-requires-clause-within c = (c.requires.cone.derived c.args.id c.requires.has).within

-- all its hints have their numbers
pub returns : goal.returns
returns c = search rules
