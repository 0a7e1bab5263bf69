-- What a crash may leave of a journal in the two writes of an append.
use Rattle.std.proofs.Common.{◌≡◌, ◌≢◌, inl, inr, ℕ, ◌+◌, List, [], ◌∷◌, ◌++◌, length, get_or, take, drop, sym, ◌∙◌, ap, arith, append_assoc, length-append, take-append-drop}
use Rattle.std.proofs.lemmas.List.{take_at, drop_at, drop_more, drop-drop, take-take, length-take-le}
use Rattle.std.proofs.lemmas.Bool.{cases_eq}
use Rattle.gm_ports.specs.DiskState.{Torn, written}
use Rattle.disk_frames.specs.Frames.{body, frames, HoldsTexts, HoldsWithOrWithout}
use Rattle.disk_frames.proofs.FrameLemmas.{frames-push}

module _ (texts : List (List ℕ)) (gate : ℕ) (behind : List ℕ) (at : ℕ) (ends : at ≡ length (frames texts)) where
  abbrev base : List ℕ
  base = frames texts ++ gate ∷ behind

  base_split : base ≡ (frames texts ++ gate ∷ []) ++ behind
  base_split = sym (append_assoc (frames texts) (gate ∷ []) behind)

  length_front : length (frames texts ++ gate ∷ []) ≡ at + 1
  length_front = omega (arith, length-append (frames texts) (gate ∷ []), ends)

  pub length_base : length base ≡ at + 1 + length behind
  length_base = omega (arith, length-append (frames texts) (gate ∷ behind), ends)

  front : take (at + 1) base ≡ frames texts ++ gate ∷ []
  front = ap (λ (l : List ℕ). take (at + 1) l) base_split ∙ take_at (frames texts ++ gate ∷ []) behind (at + 1) length_front

  back : drop (at + 1) base ≡ behind
  back = ap (λ (l : List ℕ). drop (at + 1) l) base_split ∙ drop_at (frames texts ++ gate ∷ []) behind (at + 1) length_front

  -- the gate stands, whatever a crash leaves behind it
  pub torn_behind : (n : ℕ) (c : List ℕ) → gate ≢ 1 → Torn (at + 1) n base c → HoldsTexts texts c
  torn_behind n c closed torn =
      let stays : take (at + 1) c ≡ frames texts ++ gate ∷ [] = sym (take-take (at + 1) (length base) c (omega (arith, length_base))) ∙ torn.before ∙ front in
      record {
        gate = gate;
        behind = drop (at + 1) c;
        parts = sym (take-append-drop (at + 1) c) ∙ ap (λ (l : List ℕ). l ++ drop (at + 1) c) stays ∙ append_assoc (frames texts) (gate ∷ []) (drop (at + 1) c);
        closed = closed;
      }

  pub written_behind : (piece : List ℕ) → written base (at + 1) piece ≡ frames texts ++ gate ∷ (piece ++ drop (length piece) behind)
  written_behind piece =
      ap (λ (l : List ℕ). l ++ piece ++ drop (at + 1 + length piece) base) front
      ∙ ap (λ (l : List ℕ). (frames texts ++ gate ∷ []) ++ piece ++ l) (sym (drop-drop (length piece) (at + 1) base) ∙ ap (λ (l : List ℕ). drop (length piece) l) back)
      ∙ append_assoc (frames texts ++ gate ∷ []) piece (drop (length piece) behind)
      ∙ append_assoc (frames texts) (gate ∷ []) (piece ++ drop (length piece) behind)

  gate_front : take at base ≡ frames texts
  gate_front = take_at (frames texts) (gate ∷ behind) at (sym ends)

  -- one gate byte, and all else as it stood
  pub torn_gate : (text junk c : List ℕ) → gate ≢ 1 → behind ≡ body text ++ 0 ∷ junk → Torn at 1 base c → HoldsWithOrWithout texts text c
  torn_gate text junk c closed staged torn =
      let old = take (length base) c in
      let more = drop (length base) c in
      let size : length old ≡ length base = length-take-le (length base) c torn.no_shorter in
      let stays : take at old ≡ frames texts = torn.before ∙ gate_front in
      let rest : drop at old ≡ get_or old at 0 ∷ behind = drop_more old at 0 (omega (arith, length_base)) ∙ ap (λ (l : List ℕ). get_or old at 0 ∷ l) (torn.after ∙ back) in
      let kept : old ≡ frames texts ++ get_or old at 0 ∷ behind = sym (take-append-drop at old) ∙ (λ i. stays i ++ rest i) in
      let parts : c ≡ frames texts ++ get_or old at 0 ∷ (behind ++ more) =
      sym (take-append-drop (length base) c) ∙ ap (λ (l : List ℕ). l ++ more) kept ∙ append_assoc (frames texts) (get_or old at 0 ∷ behind) more in
      let is_staged : behind ++ more ≡ body text ++ 0 ∷ (junk ++ more) = ap (λ (l : List ℕ). l ++ more) staged ∙ append_assoc (body text) (0 ∷ junk) more in
      elim (cases_eq (get_or old at 0) 1) [
        | inl opened ↦ inr (record {
          gate = 0;
          behind = junk ++ more;
          parts = parts ∙ (λ i. frames texts ++ opened i ∷ is_staged i) ∙ sym (frames-push texts text (0 ∷ (junk ++ more)));
          closed = λ e. cc;
        })
        | inr shut ↦ inl (record { gate = get_or old at 0; behind = behind ++ more; parts = parts; closed = shut })
      ]

  pub written_gate : (text junk : List ℕ) → behind ≡ body text ++ 0 ∷ junk → written base at (1 ∷ []) ≡ frames (texts ++ text ∷ []) ++ 0 ∷ junk
  written_gate text junk staged =
      ap (λ (l : List ℕ). l ++ (1 ∷ []) ++ drop (at + 1) base) gate_front
      ∙ ap (λ (l : List ℕ). frames texts ++ (1 ∷ []) ++ l) (back ∙ staged)
      ∙ append_assoc (frames texts) (1 ∷ []) (body text ++ 0 ∷ junk)
      ∙ sym (frames-push texts text (0 ∷ junk))
