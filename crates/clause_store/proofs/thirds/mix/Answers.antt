use Rattle.clause_store.proofs.ThirdLemmas.{mix_read}
use Rattle.clause_store.proofs.thirds.mix.Goals as goal

-- all three rows are in the number
pub returns-then-lits-eq3 : goal.returns-then-lits-eq3
returns-then-lits-eq3 c = λ three.
    mix_read c.args.lits.now c.index-lits-0.result c.index-lits-1.result c.index-lits-2.result c.row.result c.row-then-lits-eq3.result c.row-then-lits-eq3-2.result three
    c.index-lits-0.is c.index-lits-1.is c.index-lits-2.is c.row.ensures c.row-then-lits-eq3.ensures c.row-then-lits-eq3-2.ensures
