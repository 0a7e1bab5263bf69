use Rattle.std.proofs.Common.{ℤ, ◌+◌, inl, inr, arith, ◌∙◌, sym, subst}
use Rattle.std.specs.Prelude.{take}
use Rattle.sat_base.specs.Members.{In}
use Rattle.sat_base.proofs.DatabaseLemmas.{In-take_more, In-take_old, In-take_new}
use Rattle.lit_words.proofs.lit_words.LitWords.of.Goals as goal

-- one more literal
pub loop-lit-preserved : goal.loop-lit-preserved
loop-lit-preserved c x =
    let lits = c.args.lits.now in
    let at = c.loop-lit.lit-index in
    let lit = c.lit-item.result in (
      λ has. elim ((c.insert.ensures x).0 has) [
        | inl same ↦ subst (λ (y : ℤ). In y (take (at + 1) lits)) (sym (same ∙ c.lit-item.is)) (In-take_new lits at lit (omega arith))
        | inr old ↦ In-take_old lits at lit x (omega arith) ((c.loop-lit.invariant x).0 old)
      ],
      λ stands. (c.insert.ensures x).1 (elim (In-take_more lits at lit x (omega arith) stands) [
        | inl old ↦ inr ((c.loop-lit.invariant x).1 old)
        | inr last ↦ inl (last ∙ sym c.lit-item.is)
      ]),
    )
