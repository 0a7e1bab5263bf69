use Rattle.std.proofs.Common.{refl, arith}
use Rattle.lrat_export.specs.Export.{is_settled}
use Rattle.lrat_export.proofs.WalkLemmas.{entry-goes, entry-stays, settled-from, loose-from}
use Rattle.lrat_export.proofs.numbering.add.Goals as goal

pub returns-then-not-stays : goal.returns-then-not-stays
returns-then-not-stays c = λ vars set known lits is are.
    entry-goes vars set known c.args.entries.now.items c.push.new.self.items c.args.next c.args.next c.args.id lits are (settled-from c.args.stays (is_settled vars set lits) is c.if-not-stays.true)
    c.in_ok-push.ensures.items refl

pub returns : goal.returns
returns c = λ vars set known lits is are.
    entry-stays vars set known c.args.entries.now.items c.push-2.new.self.items c.args.next c.in-Some.further c.args.id lits are (loose-from c.args.stays (is_settled vars set lits) is c.if-not-stays.false)
    c.in_ok-push-2.ensures.items (grind arith)
