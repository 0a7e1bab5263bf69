use Rattle.std.proofs.Common.{sym, ◌∙◌}
use Rattle.evidence_rec.proofs.ColumnLemmas.{is_set-zero}
use Rattle.evidence_rec.proofs.PlaceLemmas.{places-here, places-nowhere}
use Rattle.evidence_rec.proofs.places.bits_at.Goals as goal

-- no other block has these places
pub returns-in-Some : goal.returns-in-Some
returns-in-Some c = λ i lt.
    let at = c.in-Some.ensures.some in
    sym (places-here c.args.blocks.now c.args.at i c.in-Some.here (record { at = 0; bits = 0 }) lt c.requires at.within (at.same (record { at = 0; bits = 0 })))

pub returns-in-None : goal.returns-in-None
returns-in-None c = λ i lt. is_set-zero i ∙ sym (places-nowhere c.args.blocks.now c.args.at i lt c.in-None.ensures.none)
