-- What the device calls of a start leave.
use Rattle.std.proofs.Common.{Option, ◌≡◌, ◌≢◌, ℕ, ◌≤◌, List, [], ◌∷◌, ◌++◌, length, Some, None, IfSome, refl, sym, ◌∙◌, ap, arith}
use Rattle.gm_ports.specs.DiskState.{DiskState, Looks, Only, written}
use Rattle.disk_frames.specs.Frames.{frames, HoldsTexts, IsSettled}
use Rattle.disk_frames.specs.Salvage.{first_of, IsReadTo}
use Rattle.disk_frames.proofs.AppendSteps.{told_of}

holds_at : (texts : List (List ℕ)) (bytes rest : List ℕ) (gate : ℕ) → bytes ≡ frames texts ++ rest → Some gate ≡ first_of rest → gate ≢ 1 → HoldsTexts texts bytes
holds_at texts bytes [] gate parts first closed = cc
holds_at texts bytes (b ∷ behind) gate parts first closed = record { gate = b; behind = behind; parts = parts; closed = λ e. closed cc }

module _ (disk : DiskState) (texts : List (List ℕ)) (place : ℕ) where
  -- a closed gate stays as it is
  pub settled_as_read : (gate : ℕ) (new : DiskState) → IsReadTo disk texts place (Some gate) → Looks disk new → IfSome disk.reads (λ bytes. Only bytes new.may_leave) → IsSettled new texts place
  settled_as_read gate new read looks synced = record {
    bytes = read.bytes;
    told = looks.reads ∙ read.told;
    holds = holds_at texts read.bytes read.ends.rest gate read.ends.parts read.ends.last_is (λ e. read.ends.closed (ap Some e));
    ends = read.ends.gate_is;
    durable = told_of disk.reads read.bytes (λ bytes. Only bytes new.may_leave) read.told synced;
  }

  none_left : (rest : List ℕ) → None ≡ first_of rest → rest ≡ []
  none_left [] is = refl
  none_left (b ∷ rest) is = cc

  -- an empty disk gets a closed gate
  pub settled_from_nothing : (synced wrote new : DiskState) → IsReadTo disk texts place None → Looks disk synced
      → IfSome synced.reads (λ bytes. place ≤ length bytes → wrote.reads ≡ Some (written bytes place (0 ∷ [])))
      → Looks wrote new → IfSome wrote.reads (λ bytes. Only bytes new.may_leave) → IsSettled new texts place
  settled_from_nothing synced wrote new read looks wrote_is settles durable =
      let none : texts ≡ [] = read.ends.empty refl in
      let nothing : read.bytes ≡ [] = read.ends.parts ∙ (λ i. frames (none i) ++ none_left read.ends.rest read.ends.last_is i) in
      let start : place ≡ 0 = read.ends.gate_is ∙ ap (λ (l : List (List ℕ)). length (frames l)) none in
      let told : synced.reads ≡ Some [] = looks.reads ∙ read.told ∙ ap Some nothing in
      let is_written : wrote.reads ≡ Some (written [] place (0 ∷ [])) =
      told_of synced.reads [] (λ bytes. place ≤ length bytes → wrote.reads ≡ Some (written bytes place (0 ∷ []))) told wrote_is (omega arith) in
      let reads : wrote.reads ≡ Some (0 ∷ []) = is_written ∙ ap (λ (k : ℕ). Some (written [] k (0 ∷ []))) start in
      record {
        bytes = 0 ∷ [];
        told = settles.reads ∙ reads;
        holds = record { gate = 0; behind = []; parts = ap (λ (l : List (List ℕ)). frames l ++ 0 ∷ []) (sym none); closed = λ e. cc };
        ends = read.ends.gate_is;
        durable = told_of wrote.reads (0 ∷ []) (λ bytes. Only bytes new.may_leave) reads durable;
      }

-- one byte is written between two syncs, and nothing else
pub once_written : (old synced wrote new : Option (List ℕ)) (place : ℕ) → synced ≡ old
    → IfSome synced (λ bytes. place ≤ length bytes → wrote ≡ Some (written bytes place (0 ∷ []))) → new ≡ wrote
    → IfSome old (λ bytes. place ≤ length bytes → new ≡ Some (written bytes place (0 ∷ [])))
once_written None synced wrote new place first write last = tt
once_written (Some bytes) synced wrote new place first write last = λ inside.
    last ∙ told_of synced bytes (λ text. place ≤ length text → wrote ≡ Some (written text place (0 ∷ []))) first write inside
