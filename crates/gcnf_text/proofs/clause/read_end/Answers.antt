use Rattle.gcnf_text.proofs.clause.read_end.Goals as goal

-- each form has its end
pub returns-in-Gcnf : goal.returns-in-Gcnf
returns-in-Gcnf c = rw c.in-Gcnf.is c.read_gcnf_end.ensures

pub returns-in-Cnf : goal.returns-in-Cnf
returns-in-Cnf c = rw c.in-Cnf.is c.read_cnf_end.ensures
