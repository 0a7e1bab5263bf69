-- What three writes make of a list: its last link, the link of the watch that comes, and the mark of the last one.
use Rattle.std.proofs.Common.{◌≡◌, ◌≢◌, ℕ, ◌/◌, ap, sym, ◌∙◌}
use Rattle.std.specs.Prelude.{ℤ}
use Rattle.clause_store.specs.Clauses.{Clauses}
use Rattle.clause_store.specs.Links.{next_of, head_of, tail_of}
use Rattle.propagate.specs.Walk.{Continues, Appends}

pub appends_of : (s₀ s₁ s₂ s₃ : Clauses) (lit : ℤ) (id node n : ℕ)
    → s₁ ≡ record s₀ { nexts = s₁.nexts; heads = s₁.heads } → Continues s₀ s₁ lit node id
    → s₂ ≡ record s₁ { nexts = s₂.nexts } → next_of s₂ n ≡ 0 → ((m : ℕ) → m ≢ n → next_of s₂ m ≡ next_of s₁ m)
    → s₃ ≡ record s₂ { tails = s₃.tails } → tail_of s₃ lit ≡ id → ((y : ℤ) → y ≢ lit → tail_of s₃ y ≡ tail_of s₂ y)
    → n / 2 ≡ id → Appends s₀ s₃ lit node n
appends_of s₀ s₁ s₂ s₃ lit id node n is₁ goes is₂ last others is₃ tail tails half =
    let heads : (y : ℤ) → head_of s₃ y ≡ head_of s₁ y =
    λ y. ap (λ (s : Clauses). head_of s y) is₃ ∙ ap (λ (s : Clauses). head_of s y) is₂ in
    let nexts : (m : ℕ) → next_of s₃ m ≡ next_of s₂ m = λ m. ap (λ (s : Clauses). next_of s m) is₃ in
    let before : (y : ℤ) → tail_of s₂ y ≡ tail_of s₀ y =
    λ y. ap (λ (s : Clauses). tail_of s y) is₂ ∙ ap (λ (s : Clauses). tail_of s y) is₁ in
    record {
      head = λ none. heads lit ∙ goes.head none ∙ sym half;
      head_kept = λ some. heads lit ∙ goes.head_kept some;
      heads = λ y differ. heads y ∙ goes.heads y differ;
      next = λ some apart. nexts node ∙ others node apart ∙ goes.next some ∙ sym half;
      last = nexts n ∙ last;
      nexts = λ m some other apart. nexts m ∙ others m apart ∙ goes.nexts m some other;
      tail = tail ∙ sym half;
      tails = λ y differ. tails y differ ∙ before y;
    }
