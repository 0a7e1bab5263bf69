use Rattle.std.proofs.Common.{List, ℤ, ◌-◌, [], arith, get_or, subst, sym}
use Rattle.lit_words.specs.Words.{AreWordsOf}
use Rattle.lit_words.specs.declared.lit_words.LitWords.{LitWords}
use Rattle.clause_store.specs.Clauses.{Clauses, clause_at}
use Rattle.clause_store.specs.Inner.{cut_by, literals_of}
use Rattle.clause_store.proofs.SetLemmas.{sets_read, read_lits}
use Rattle.clause_store.proofs.store.Store.words.Goals as goal

-- the table has the sets of the first clauses
pub returns-then-at-len : goal.returns-then-at-len
returns-then-at-len c =
    let a = c.self.inside in
    let at = c.args.id - 1 in
    let w = c.index.result.now in
    let read : AreWordsOf (get_or a.words.items at w) (get_or (literals_of a) at []) = sets_read a.words.items (literals_of a) at w [] c.self.invariant.sets (grind arith) in
    subst (λ (s : Clauses). AreWordsOf w (clause_at s.clauses c.args.id).lits) c.self.view_is
    (subst (λ (ls : List ℤ). AreWordsOf w ls) (read_lits (cut_by a.lits.items) a.records.items at)
    (subst (λ (v : LitWords). AreWordsOf v (get_or (literals_of a) at [])) (sym c.index.ensures) read))
