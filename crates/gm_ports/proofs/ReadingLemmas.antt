-- What the loop of `read_whole` keeps.
use Rattle.std.proofs.Common.{◌≡◌, ◌≤◌, ◌+◌, ℕ, List, ◌++◌, length, Option, Some, None, refl, sym, ◌∙◌, subst, arith, length-append}
use Rattle.std.specs.Prelude.{IfSome}
use Rattle.std.specs.Option.{option_map}
use Rattle.gm_ports.specs.FilesState.{FilesState, ReadingLeaves}
use Rattle.gm_ports.specs.Reading.{ReadPast, ReadWithin}
use Rattle.gm_ports.specs.Told.{ToldConsumes}
use Rattle.gm_ports.proofs.ToldLemmas.{ToldConsumes-append, ReadingLeaves-then}

-- these bytes were read of the opened input, no more than the limit, and no read failed
pub record ReadSoFar (old now : FilesState) (limit room : ℕ) (bytes : List ℕ) : Type 0 where
  pub consumed : ToldConsumes old.unread now.unread bytes
  pub within : length bytes ≤ limit
  pub no_fault : now.read_faults ≡ old.read_faults
  pub leaves : ReadingLeaves old now
  pub piece : room ≡ 65536

-- one more read
pub ReadSoFar-more : (old mid new : FilesState) (limit room : ℕ) (bytes more : List ℕ) → ReadSoFar old mid limit room bytes
    → ToldConsumes mid.unread new.unread more → ReadingLeaves mid new → new.read_faults ≡ mid.read_faults
    → length bytes + length more ≤ limit → ReadSoFar old new limit room (bytes ++ more)
ReadSoFar-more old mid new limit room bytes more so_far read leaves no_fault fits = record {
  consumed = ToldConsumes-append old.unread mid.unread new.unread bytes more so_far.consumed read;
  within = omega (arith, length-append bytes more);
  no_fault = no_fault ∙ so_far.no_fault;
  leaves = ReadingLeaves-then old mid new so_far.leaves leaves;
  piece = so_far.piece;
}

-- a text that lost one byte more than the limit
past_of : (limit : ℕ) (bytes : List ℕ) (left : Option (List ℕ)) → length bytes ≡ limit + 1
    → IfSome (option_map (λ rest. bytes ++ rest) left) (λ text. ReadPast limit text left)
past_of limit bytes None past = tt
past_of limit bytes (Some rest) past = record { bytes = bytes; rest = rest; parts = refl; left_is = refl; past = past }

-- a text that lost no more than the limit
within_of : (limit : ℕ) (bytes : List ℕ) (left : Option (List ℕ)) → length bytes ≤ limit
    → IfSome (option_map (λ rest. bytes ++ rest) left) (λ text. ReadWithin limit text left)
within_of limit bytes None within = tt
within_of limit bytes (Some rest) within = record { bytes = bytes; rest = rest; parts = refl; left_is = refl; within = within }

-- a reading that stops within the limit
pub ReadSoFar-within : (old now : FilesState) (limit room : ℕ) (bytes : List ℕ) → ReadSoFar old now limit room bytes
    → IfSome old.unread (λ text. ReadWithin limit text now.unread)
ReadSoFar-within old now limit room bytes so_far =
    subst (λ (told : Option (List ℕ)). IfSome told (λ text. ReadWithin limit text now.unread)) (sym so_far.consumed)
    (within_of limit bytes now.unread so_far.within)

-- a read that goes past the limit
pub ReadSoFar-past : (old mid new : FilesState) (limit room : ℕ) (bytes more : List ℕ) → ReadSoFar old mid limit room bytes
    → ToldConsumes mid.unread new.unread more → length bytes + length more ≡ limit + 1
    → IfSome old.unread (λ text. ReadPast limit text new.unread)
ReadSoFar-past old mid new limit room bytes more so_far read past =
    let consumed : ToldConsumes old.unread new.unread (bytes ++ more) = ToldConsumes-append old.unread mid.unread new.unread bytes more so_far.consumed read in
    subst (λ (told : Option (List ℕ)). IfSome told (λ text. ReadPast limit text new.unread)) (sym consumed)
    (past_of limit (bytes ++ more) new.unread (length-append bytes more ∙ past))
