use Rattle.std.proofs.Common.{◌≡◌, ◌*◌, ◌≤◌, ◌∙◌, ℕ, List, length, take, ap, sym, subst, arith}
use Rattle.std.specs.List.{concat}
use Rattle.sat_base.proofs.WordLemmas.{has_first}
use Rattle.sat_base.proofs.words.drop_blocks.Goals as goal

-- the first blocks have the first words
pub returns-then-needed-len-clause-same : goal.returns-then-needed-len-clause-same
returns-then-needed-len-clause-same c =
    let blocks : List (List ℕ) = c.args.blocks.now.items in
    let within : c.args.count ≤ 64 * c.div_ceil-needed.result = omega (arith, c.div_ceil-needed.ensures) in
    let kept : c.shrink_to_fit.new.self.items ≡ take c.div_ceil-needed.result blocks = c.shrink_to_fit.ensures.items ∙ c.truncate.ensures.items in
    ap (λ (bs : List (List ℕ)). take c.args.count (concat bs)) kept
    ∙ (has_first blocks c.div_ceil-needed.result c.args.count c.requires.full c.requires.in_range within).same

pub returns-then-needed-len-clause-enough : goal.returns-then-needed-len-clause-enough
returns-then-needed-len-clause-enough c =
    let blocks : List (List ℕ) = c.args.blocks.now.items in
    let within : c.args.count ≤ 64 * c.div_ceil-needed.result = omega (arith, c.div_ceil-needed.ensures) in
    let kept : c.shrink_to_fit.new.self.items ≡ take c.div_ceil-needed.result blocks = c.shrink_to_fit.ensures.items ∙ c.truncate.ensures.items in
    subst (λ (bs : List (List ℕ)). c.args.count ≤ length (concat bs)) (sym kept)
    (has_first blocks c.div_ceil-needed.result c.args.count c.requires.full c.requires.in_range within).enough
