use Rattle.std.proofs.Common.{◌≡◌, ◌∙◌, ◌++◌, ◌+◌, ◌-◌, ℕ, List, Bool, true, false, replicate, set, ap, arith}
use Rattle.trail_book.specs.Trail.{Trail, untouched_trail}
use Rattle.trail_book.proofs.WaitLemmas.{touched_step}
use Rattle.trail_book.proofs.trail.Trail.new.Goals as goal

-- one variable more
pub loop-index-preserved : goal.loop-index-preserved
loop-index-preserved c =
    let index = c.loop-index.index in
    let vars = c.args.vars in
    let old = replicate index true ++ replicate (vars - index) false in
    let place : index + 1 - 1 ≡ index = omega arith in
    c.touch.ensures.rest
    ∙ ap (λ (n : ℕ). record c.loop-index.trail { touched = set c.loop-index.trail.touched n true }) place
    ∙ ap (λ (t : Trail). record t { touched = set t.touched index true }) c.loop-index.invariant
    ∙ ap (λ (bs : List Bool). record (untouched_trail vars) { touched = bs }) (touched_step index vars c.loop-index-test.true)
