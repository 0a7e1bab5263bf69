-- The literals of block clauses (MARCO: Liffiton, Previti, Malik and Marques-Silva 2016).
use Rattle.std.specs.Prelude.{ℕ, ℤ, pos, neg_ℤ}
use Rattle.gm_base.specs.declared.kind.Side.{Side}
use Rattle.gm_base.specs.declared.kind.Side.TheVariants.{Up, Down}

-- the literal of a group in the clause of a block on this side
abbrev pub block_lit : Side → ℕ → ℤ
block_lit Up g = neg_ℤ (pos g)
block_lit Down g = pos g
