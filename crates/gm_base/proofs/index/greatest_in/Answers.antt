use Rattle.std.proofs.Common.{◌-◌, length, ap, arith}
use Rattle.std.proofs.lemmas.List.{get_or_default}
use Rattle.gm_base.specs.declared.index.Placed.{Placed}
use Rattle.gm_base.proofs.index.greatest_in.Goals as goal

-- the last one of an ascending list is the greatest
pub returns : goal.returns
returns c = λ k d lt.
    let index = c.args.index.now in
    let none : Placed = record { group = 0; at = 0 } in
    let last = length index - 1 in
    let rise = c.requires k last d (omega arith) (omega arith) in
    let same = ap (λ (p : Placed). p.group) (get_or_default index last d none (omega arith)) in
    omega arith
