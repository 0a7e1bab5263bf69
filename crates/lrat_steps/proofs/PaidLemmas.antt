-- Lemmas on what searches do to the log and the purse.
use Rattle.std.proofs.Common.{◌≡◌, ℕ, ◌+◌, ◌-◌, ◌≤◌, List, [], ◌∷◌, ◌++◌, refl, sym, subst, ◌∙◌, ap, arith, append-nil, append_assoc}
use Rattle.lrat_steps.specs.Log.{LogStep, Input, Learned, Core, Forgot, learned_count}
use Rattle.lrat_steps.specs.Paid.{IsPaid}

-- no search costs nothing
pub IsPaid-none : (log : List LogStep) (left : ℕ) → IsPaid log log left left
IsPaid-none log left = record { more = []; grown = sym (append-nil log); inputs = refl; paid = refl }

-- what two searches cost adds up
pub IsPaid-then : (old mid new : List LogStep) (before between left : ℕ) → IsPaid old mid before between → IsPaid mid new between left → IsPaid old new before left
IsPaid-then old mid new before between left first then =
    record {
      more = first.more ++ then.more;
      grown = then.grown ∙ ap (λ (log : List LogStep). log ++ then.more) first.grown ∙ append_assoc old first.more then.more;
      inputs = then.inputs ∙ first.inputs;
      paid = then.paid ∙ first.paid;
    }

learned-more : (log more : List LogStep) → learned_count log ≤ learned_count (log ++ more)
learned-more [] more = omega arith
learned-more (Input lits ∷ log) more = learned-more log more
learned-more (Learned lits hints ∷ log) more = let h = learned-more log more in omega arith
learned-more (Core lits hints ∷ log) more = learned-more log more
learned-more (Forgot id ∷ log) more = learned-more log more

-- no learnt clause is lost
pub learned-grows : {old new : List LogStep} {before left : ℕ} → IsPaid old new before left → learned_count old ≤ learned_count new
learned-grows {old} {new} s = subst (λ log. learned_count old ≤ learned_count log) (sym s.grown) (learned-more old s.more)

-- nobody puts units in
pub left-within : {old new : List LogStep} {before left : ℕ} → IsPaid old new before left → left ≤ before
left-within s = let grows = learned-grows s in let paid = s.paid in omega arith

-- what was used was learnt
pub learned-used : {old new : List LogStep} {before left : ℕ} → IsPaid old new before left → learned_count new ≡ learned_count old + (before - left)
learned-used s = let low = left-within s in let paid = s.paid in omega arith
