-- A seat's view, as its badge has it between turns.
use Rattle.std.proofs.Common.{◌≡◌, List, [], ◌∷◌, sym, ap, ◌∙◌}
use Rattle.turn_lock.specs.declared.view.View.{View}
use Rattle.turn_lock.specs.Badges.{view_of}

-- a seat that was made of a badge has the badge's view
pub has_view : {E O : Type 0} (vs ws : List (View E O)) (v : View E O) → ws ≡ vs → ws ≡ v ∷ [] → v ≡ view_of vs
has_view vs ws v same one = sym (ap view_of (sym same ∙ one))
