use Rattle.std.proofs.Common.{◌≡◌, ◌∙◌, ℕ, List, length, take, ap, arith, rules, length-take-le}
use Rattle.std.proofs.lemmas.List.{take_all}
use Rattle.sat_base.proofs.words.drop_words.Goals as goal

-- the first words are what is left
pub returns-then-count-len-clause-same : goal.returns-then-count-len-clause-same
returns-then-count-len-clause-same c =
    let words = c.args.words.now.items in
    let count = c.args.count in
    let left : c.shrink_to_fit.new.self.items ≡ take count words = c.shrink_to_fit.ensures.items ∙ c.truncate.ensures.items in
    ap (λ (ws : List ℕ). take count ws) left ∙ take_all count (take count words) (omega (arith, length-take-le count words c.requires))

pub returns-then-count-len-clause-enough : goal.returns-then-count-len-clause-enough
returns-then-count-len-clause-enough c = search rules
