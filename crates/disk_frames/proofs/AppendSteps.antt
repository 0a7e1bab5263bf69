-- What the four device calls of an append leave, one after the other.
use Rattle.std.proofs.Common.{◌≡◌, ◌≢◌, inl, ℕ, ◌+◌, ◌≤◌, ◌<◌, List, [], ◌∷◌, ◌++◌, length, take, drop, Option, Some, None, IfSome, length-append, refl, sym, ◌∙◌, ap, subst, arith, append_assoc}
use Rattle.std.proofs.lemmas.List.{length-take-le}
use Rattle.gm_ports.specs.DiskState.{DiskState, IsLawful, Looks, Writes, Only, Torn, written, AtEachMoment}
use Rattle.gm_ports.proofs.Moments.{AtEachMoment-none, AtEachMoment-call}
use Rattle.disk_frames.specs.Frames.{body, frames, HoldsTexts, HoldsWithOrWithout, IsSettled}
use Rattle.disk_frames.proofs.FrameLemmas.{length-frames-push}
use Rattle.disk_frames.proofs.TornLemmas.{length_base, torn_behind, written_behind, torn_gate, written_gate}

-- what holds of the bytes that are told
pub told_of : {A : Type 0} (o : Option A) (x : A) (P : A → Type 0) → o ≡ Some x → IfSome o P → P x
told_of o x P is has = subst (λ (o : Option _). IfSome o P) is has

-- the frame stands behind the closed gate, and nothing is pending
pub record IsStaged (disk : DiskState) (texts : List (List ℕ)) (text : List ℕ) (at : ℕ) : Type 0 where
  pub gate : ℕ
  pub junk : List ℕ
  pub told : disk.reads ≡ Some (frames texts ++ gate ∷ (body text ++ 0 ∷ junk))
  pub closed : gate ≢ 1
  pub ends : at ≡ length (frames texts)
  pub durable : Only (frames texts ++ gate ∷ (body text ++ 0 ∷ junk)) disk.may_leave

module _ (disk : DiskState) (texts : List (List ℕ)) (at : ℕ) (settled : IsSettled disk texts at) where
  -- the bytes of a settled disk in parts
  pub told_parts : disk.reads ≡ Some (frames texts ++ settled.holds.gate ∷ settled.holds.behind)
  told_parts = settled.told ∙ ap Some settled.holds.parts

  pub settled_leaves : (c : List ℕ) → disk.may_leave c → HoldsTexts texts c
  settled_leaves c left = subst (HoldsTexts texts) (sym (settled.durable c left)) settled.holds

  pub settled_start : (text : List ℕ) → IsLawful disk → AtEachMoment disk disk (HoldsWithOrWithout texts text)
  settled_start text lawful = AtEachMoment-none disk (HoldsWithOrWithout texts text) lawful (λ c left. inl (settled_leaves c left))

  -- the first write
  pub body_leaves : (n : ℕ) (new : DiskState) → Writes (at + 1) n disk new → (c : List ℕ) → new.may_leave c → HoldsTexts texts c
  body_leaves n new writes c left =
      let from = writes.crash c left in
      let was : from.0 ≡ frames texts ++ settled.holds.gate ∷ settled.holds.behind = settled.durable from.0 from.1 ∙ settled.holds.parts in
      torn_behind texts settled.holds.gate settled.holds.behind at settled.ends n c settled.holds.closed (subst (λ (d : List ℕ). Torn (at + 1) n d c) was from.2)

  -- and the sync behind it
  pub body_staged : (text piece : List ℕ) (wrote new : DiskState)
      → piece ≡ body text ++ 0 ∷ []
      → IfSome disk.reads (λ bytes. at + 1 ≤ length bytes → wrote.reads ≡ Some (written bytes (at + 1) piece))
      → Looks wrote new → IfSome wrote.reads (λ bytes. Only bytes new.may_leave)
      → IsStaged new texts text at
  body_staged text piece wrote new piece_is wrote_is looks synced =
      let gate = settled.holds.gate in
      let behind = settled.holds.behind in
      let base = frames texts ++ gate ∷ behind in
      let junk = drop (length piece) behind in
      let long : length base ≡ at + 1 + length behind = length_base texts gate behind at settled.ends in
      let is_written : wrote.reads ≡ Some (written base (at + 1) piece) =
      told_of disk.reads base (λ bytes. at + 1 ≤ length bytes → wrote.reads ≡ Some (written bytes (at + 1) piece)) told_parts wrote_is (omega arith) in
      let is_split : piece ++ junk ≡ body text ++ 0 ∷ junk = ap (λ (l : List ℕ). l ++ junk) piece_is ∙ append_assoc (body text) (0 ∷ []) junk in
      let reads : wrote.reads ≡ Some (frames texts ++ gate ∷ (body text ++ 0 ∷ junk)) =
      is_written ∙ ap Some (written_behind texts gate behind at settled.ends piece ∙ ap (λ (l : List ℕ). frames texts ++ gate ∷ l) is_split) in
      record {
        gate = gate;
        junk = junk;
        told = looks.reads ∙ reads;
        closed = settled.holds.closed;
        ends = settled.ends;
        durable = told_of wrote.reads _ (λ bytes. Only bytes new.may_leave) reads synced;
      }

module _ (disk : DiskState) (texts : List (List ℕ)) (text : List ℕ) (at : ℕ) (staged : IsStaged disk texts text at) where
  -- the second write
  pub gate_leaves : (new : DiskState) → Writes at 1 disk new → (c : List ℕ) → new.may_leave c → HoldsWithOrWithout texts text c
  gate_leaves new writes c left =
      let from = writes.crash c left in
      torn_gate texts staged.gate (body text ++ 0 ∷ staged.junk) at staged.ends text staged.junk c staged.closed refl
      (subst (λ (d : List ℕ). Torn at 1 d c) (staged.durable from.0 from.1) from.2)

  -- and the sync behind it
  pub gate_settled : (wrote new : DiskState)
      → IfSome disk.reads (λ bytes. at ≤ length bytes → wrote.reads ≡ Some (written bytes at (1 ∷ [])))
      → Looks wrote new → IfSome wrote.reads (λ bytes. Only bytes new.may_leave)
      → IsSettled new (texts ++ text ∷ []) (at + 9 + length text)
  gate_settled wrote new wrote_is looks synced =
      let behind = body text ++ 0 ∷ staged.junk in
      let base = frames texts ++ staged.gate ∷ behind in
      let long : length base ≡ at + 1 + length behind = length_base texts staged.gate behind at staged.ends in
      let is_written : wrote.reads ≡ Some (written base at (1 ∷ [])) =
      told_of disk.reads base (λ bytes. at ≤ length bytes → wrote.reads ≡ Some (written bytes at (1 ∷ []))) staged.told wrote_is (omega arith) in
      let reads : wrote.reads ≡ Some (frames (texts ++ text ∷ []) ++ 0 ∷ staged.junk) =
      is_written ∙ ap Some (written_gate texts staged.gate behind at staged.ends text staged.junk refl) in
      record {
        bytes = frames (texts ++ text ∷ []) ++ 0 ∷ staged.junk;
        told = looks.reads ∙ reads;
        holds = record { gate = 0; behind = staged.junk; parts = refl; closed = λ e. cc };
        ends = omega (arith, length-frames-push texts text, staged.ends);
        durable = told_of wrote.reads _ (λ bytes. Only bytes new.may_leave) reads synced;
      }

-- what a crash leaves at each moment up to each of the four calls
module _ (s0 : DiskState) (texts : List (List ℕ)) (text piece : List ℕ) (at : ℕ) (lawful : IsLawful s0) (settled : IsSettled s0 texts at) (piece_is : piece ≡ body text ++ 0 ∷ [])
    (s1 : DiskState) (first : Writes (at + 1) (length piece) s0 s1) where
  abbrev P : List ℕ → Type 0
  P = HoldsWithOrWithout texts text

  pub through_body : AtEachMoment s0 s1 P
  through_body = AtEachMoment-call s0 s0 s1 P (settled_start s0 texts at settled text lawful) first.time (λ c left. inl (body_leaves s0 texts at settled (length piece) s1 first c left))

  module _ (s2 : DiskState) (second : Looks s1 s2) where
    pub through_sync : AtEachMoment s0 s2 P
    through_sync = AtEachMoment-call s0 s1 s2 P through_body second.time (λ c left. inl (body_leaves s0 texts at settled (length piece) s1 first c (second.crash c left)))

    module _ (wrote : IfSome s0.reads (λ bytes. at + 1 ≤ length bytes → s1.reads ≡ Some (written bytes (at + 1) piece)))
        (synced : IfSome s1.reads (λ bytes. Only bytes s2.may_leave)) (s3 : DiskState) (third : Writes at 1 s2 s3) where
      staged : IsStaged s2 texts text at
      staged = body_staged s0 texts at settled text piece s1 s2 piece_is wrote second synced

      pub through_gate : AtEachMoment s0 s3 P
      through_gate = AtEachMoment-call s0 s2 s3 P through_sync third.time (gate_leaves s2 texts text at staged s3 third)

      module _ (s4 : DiskState) (fourth : Looks s3 s4) where
        pub through_all : AtEachMoment s0 s4 P
        through_all = AtEachMoment-call s0 s3 s4 P through_gate fourth.time (λ c left. gate_leaves s2 texts text at staged s3 third c (fourth.crash c left))

        pub appended : IfSome s2.reads (λ bytes. at ≤ length bytes → s3.reads ≡ Some (written bytes at (1 ∷ [])))
            → IfSome s3.reads (λ bytes. Only bytes s4.may_leave) → IsSettled s4 (texts ++ text ∷ []) (at + 9 + length text)
        appended opened settles = gate_settled s2 texts text at staged s3 s4 opened fourth settles

-- what the two writes make of the bytes
pub both_written : (old wrote synced opened new : Option (List ℕ)) (gate : ℕ) (piece exact : List ℕ) → piece ≡ exact
    → IfSome old (λ bytes. gate + 1 ≤ length bytes → wrote ≡ Some (written bytes (gate + 1) piece)) → synced ≡ wrote
    → IfSome synced (λ bytes. gate ≤ length bytes → opened ≡ Some (written bytes gate (1 ∷ []))) → new ≡ opened
    → IfSome old (λ bytes. gate < length bytes → new ≡ Some (written (written bytes (gate + 1) exact) gate (1 ∷ [])))
both_written None wrote synced opened new gate piece exact is first same second last = tt
both_written (Some bytes) wrote synced opened new gate piece exact is first same second last = λ inside.
    let reads : synced ≡ Some (written bytes (gate + 1) piece) = same ∙ first (omega arith) in
    let long : gate ≤ length (written bytes (gate + 1) piece) =
    omega (arith, length-append (take (gate + 1) bytes ++ piece) (drop (gate + 1 + length piece) bytes), length-append (take (gate + 1) bytes) piece, length-take-le (gate + 1) bytes (omega arith)) in
    last ∙ told_of synced (written bytes (gate + 1) piece) (λ text. gate ≤ length text → opened ≡ Some (written text gate (1 ∷ []))) reads second long
    ∙ ap (λ (l : List ℕ). Some (written (written bytes (gate + 1) l) gate (1 ∷ []))) is
