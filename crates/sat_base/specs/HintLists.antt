-- How hints of many steps are kept: in one of two lists, of which the other is empty.
use Rattle.std.specs.Prelude.{◌≡◌, ℕ, ◌<◌, List, ◌++◌, length}
use Rattle.sat_base.specs.declared.hints.HintList.TheInside.{Inside}

abbrev pub all_ids : Inside → List ℕ
all_ids h = h.narrow.items ++ h.wide.items

-- where some are in 64 bits, none is in 32
abbrev pub OneIsEmpty : Inside → Type 0
OneIsEmpty h = 0 < length h.wide.items → length h.narrow.items ≡ 0
