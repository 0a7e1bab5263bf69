-- The literals of clauses as sets, when a clause comes and when one is read.
use Rattle.std.proofs.Common.{◌≡◌, ℕ, ℤ, zero, suc, ◌<◌, List, [], ◌∷◌, ◌++◌, length, map, get_or, refl, sym, ◌∙◌, subst, inl, inr, arith}
use Rattle.lit_words.specs.Words.{AreWordsOf}
use Rattle.lit_words.specs.declared.lit_words.LitWords.{LitWords}
use Rattle.sat_base.specs.Database.{StoredClause}
use Rattle.clause_store.specs.Clauses.{no_clause}
use Rattle.clause_store.specs.declared.store.ClauseRecord.{ClauseRecord}
use Rattle.clause_store.specs.Words.{AreSets, KeepsUp}

-- a clause more, which has no set
sets_more : (ws : List LitWords) (ls : List (List ℤ)) (l : List ℤ) → AreSets ws ls → AreSets ws (ls ++ l ∷ [])
sets_more [] ls l h = tt
sets_more (w ∷ ws) [] l h = absurd h
sets_more (w ∷ ws) (m ∷ ls) l h = (h.0, sets_more ws ls l h.1)

-- or has one
sets_push : (ws : List LitWords) (ls : List (List ℤ)) (w : LitWords) (l : List ℤ) → AreSets ws ls → length ws ≡ length ls → AreWordsOf w l → AreSets (ws ++ w ∷ []) (ls ++ l ∷ [])
sets_push [] [] w l h same of = (of, tt)
sets_push [] (m ∷ ls) w l h same of = absurd (omega (arith, same))
sets_push (v ∷ ws) [] w l h same of = absurd h
sets_push (v ∷ ws) (m ∷ ls) w l h same of = (h.0, sets_push ws ls w l h.1 (omega (arith, same)) of)

-- a clause more
pub sets_keep_up : (old new : List LitWords) (ls : List (List ℤ)) (l : List ℤ) (count : ℕ) → AreSets old ls → count ≡ length ls → KeepsUp old new count l → AreSets new (ls ++ l ∷ [])
sets_keep_up old new ls l count h all (inl same) = subst (λ ws. AreSets ws (ls ++ l ∷ [])) (sym same) (sets_more old ls l h)
sets_keep_up old new ls l count h all (inr (w, is, long, of)) = subst (λ ws. AreSets ws (ls ++ l ∷ [])) (sym is) (sets_push old ls w l h (long ∙ all) of)

-- the set of a clause
pub sets_read : (ws : List LitWords) (ls : List (List ℤ)) (i : ℕ) (w : LitWords) (d : List ℤ) → AreSets ws ls → i < length ws → AreWordsOf (get_or ws i w) (get_or ls i d)
sets_read [] ls i w d h within = absurd (omega (arith, within))
sets_read (v ∷ ws) [] i w d h within = absurd h
sets_read (v ∷ ws) (m ∷ ls) zero w d h within = h.0
sets_read (v ∷ ws) (m ∷ ls) (suc i) w d h within = sets_read ws ls i w d h.1 (omega (arith, within))

-- the literals of the clause at a place
pub read_lits : (f : ClauseRecord → StoredClause) (rs : List ClauseRecord) (i : ℕ) → get_or (map (λ r. (f r).lits) rs) i [] ≡ (get_or (map f rs) i no_clause).lits
read_lits f [] i = refl
read_lits f (r ∷ rs) zero = refl
read_lits f (r ∷ rs) (suc i) = read_lits f rs i
