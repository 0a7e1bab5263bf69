-- Beginnings of lists.
use Rattle.std.proofs.Common.{List, [], ◌++◌, sym, ap, ◌∙◌, append_assoc, append-nil}
use mathlib.Core.List.{IsPrefix}

module _ {A : Type 0} where
  pub begins_itself : (l : List A) → IsPrefix l l
  begins_itself l = ([], append-nil l)

  -- what is left of the whole behind the first is what is left of the second, and then what is left behind that
  pub begins_through : (a b c : List A) → IsPrefix a b → IsPrefix b c → IsPrefix a c
  begins_through a b c first second = (first.0 ++ second.0, sym (append_assoc a first.0 second.0) ∙ (ap (λ l. l ++ second.0) first.1 ∙ second.1))
