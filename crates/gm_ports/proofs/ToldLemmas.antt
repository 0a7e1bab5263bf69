-- How the calls of a port compose: what is consumed or appended by two calls, what two calls leave, and when a count rose.
use Rattle.std.proofs.Common.{◌≡◌, ℕ, ◌≤◌, List, [], ◌++◌, Option, Some, None, refl, sym, ◌∙◌, ap, arith, append_assoc, append-nil}
use Rattle.std.specs.Option.{option_map}
use Rattle.gm_ports.specs.Faults.{Rose}
use Rattle.gm_ports.specs.FilesState.{FilesState, ReadingLeaves}
use Rattle.gm_ports.specs.Told.{ToldConsumes, ToldAppends, ToldGrowsWithin}

-- a count that rose over the first of two calls rose over both
pub Rose-then : (before mid now : ℕ) → Rose before mid → mid ≤ now → Rose before now
Rose-then before mid now rose later = omega arith

-- a count that rose over the second of two calls rose over both
pub Rose-after : (before mid now : ℕ) → before ≤ mid → Rose mid now → Rose before now
Rose-after before mid now later rose = omega arith

-- two front parts in a row are one
pub prepend_twice : (first second : List ℕ) (told : Option (List ℕ))
    → option_map (λ rest. first ++ rest) (option_map (λ rest. second ++ rest) told) ≡ option_map (λ rest. (first ++ second) ++ rest) told
prepend_twice first second None = refl
prepend_twice first second (Some rest) = ap Some (sym (append_assoc first second rest))

pub ToldConsumes-nothing : (told : Option (List ℕ)) → ToldConsumes told told []
ToldConsumes-nothing None = refl
ToldConsumes-nothing (Some rest) = refl

-- what two reads give comes from the front, in order
pub ToldConsumes-append : (old mid new : Option (List ℕ)) (first second : List ℕ)
    → ToldConsumes old mid first → ToldConsumes mid new second → ToldConsumes old new (first ++ second)
ToldConsumes-append old mid new first second p q =
    p ∙ ap (λ (told : Option (List ℕ)). option_map (λ rest. first ++ rest) told) q ∙ prepend_twice first second new

pub ToldAppends-nothing : (told : Option (List ℕ)) → ToldAppends told told []
ToldAppends-nothing None = tt
ToldAppends-nothing (Some text) = ap Some (append-nil text)

-- what two writes take comes to the end, in order
pub ToldAppends-append : (old mid new : Option (List ℕ)) (first second : List ℕ)
    → ToldAppends old mid first → ToldAppends mid new second → ToldAppends old new (first ++ second)
ToldAppends-append old mid None first second p q = tt
ToldAppends-append old None (Some now) first second p q = cc
ToldAppends-append None (Some text) (Some now) first second p q = cc
ToldAppends-append (Some before) (Some text) (Some now) first second p q =
    ap Some (sym (append_assoc before first second)) ∙ ap (λ (told : Option (List ℕ)). option_map (λ b. b ++ second) told) p ∙ q

-- a write of a front part is one within the text
pub ToldGrowsWithin-taken : (old new : Option (List ℕ)) (taken left : List ℕ) → ToldAppends old new taken → ToldGrowsWithin old new (taken ++ left)
ToldGrowsWithin-taken old new taken left grew = record { taken = taken; left = left; parts = refl; grew = grew }

pub ReadingLeaves-nothing : (files : FilesState) → ReadingLeaves files files
ReadingLeaves-nothing files = record { names = refl; output = refl; written = refl; write_faults = refl }

-- what two calls that read leave
pub ReadingLeaves-then : (old mid new : FilesState) → ReadingLeaves old mid → ReadingLeaves mid new → ReadingLeaves old new
ReadingLeaves-then old mid new p q = record {
  names = q.names ∙ p.names;
  output = q.output ∙ p.output;
  written = q.written ∙ p.written;
  write_faults = q.write_faults ∙ p.write_faults;
}
