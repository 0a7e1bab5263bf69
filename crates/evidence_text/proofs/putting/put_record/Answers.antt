use Rattle.std.proofs.Common.{◌≡◌, ◌∙◌, ◌++◌, List, ℕ, [], refl, sym, ap, subst, append_assoc}
use Rattle.std.specs.Prelude.{codes, Bool, IfSome}
use Rattle.std.proofs.lemmas.Result.{err_from_is_err_and}
use Rattle.sat_base.specs.Derivation.{Derivation}
use Rattle.evidence_rec.specs.declared.record.Record.{Record}
use Rattle.evidence_rec.specs.declared.record.Record.TheVariants as record_of
use Rattle.evidence_rec.specs.declared.record.Refutation.{Refutation}
use Rattle.evidence_rec.specs.Serving.{CanShorten}
use Rattle.evidence_rec.specs.Shorten.{shortened_refutations, shortened}
use Rattle.evidence_text.specs.Text.{line_text, text_of, set_line, witness_line, record_text, derivation_lines, refutations_lines, witnesses_lines}
use Rattle.evidence_text.proofs.TextLemmas.{conflict_text, correction_text}
use Rattle.evidence_text.proofs.PuttingLemmas.{put-then, puts-then, puts-part, puts-cut}
use Rattle.evidence_text.proofs.putting.put_record.Goals as goal

conflict-parts : (earlier : List Record) (r : Record) (set : List ℕ) (d : Derivation) (ws : List (List Bool)) → r ≡ record_of.Conflict set d ws
    → (line_text (set_line (codes "u") set) ++ text_of (derivation_lines 0 d)) ++ text_of (witnesses_lines set ws) ≡ record_text (shortened earlier r)
conflict-parts earlier r set d ws is =
    conflict_text [] (line_text (set_line (codes "u") set)) (set_line (codes "u") set) (derivation_lines 0 d) (witnesses_lines set ws) refl
    ∙ ap (λ q. record_text (shortened earlier q)) (sym is)

correction-parts : (earlier : List Record) (r : Record) (set : List ℕ) (w : List Bool) (rs : List Refutation) → r ≡ record_of.Correction set w rs
    → (line_text (set_line (codes "m") set) ++ line_text (witness_line 0 w)) ++ text_of (refutations_lines set (shortened_refutations earlier set set rs))
    ≡ record_text (shortened earlier r)
correction-parts earlier r set w rs is =
    correction_text [] (set_line (codes "m") set) (witness_line 0 w) (refutations_lines set (shortened_refutations earlier set set rs))
    ∙ ap (λ q. record_text (shortened earlier q)) (sym is)

pub returns-in_err-put_set-in-Conflict : goal.returns-in_err-put_set-in-Conflict
returns-in_err-put_set-in-Conflict g c =
    let a = line_text (set_line (codes "u") c.in-Conflict.set) in
    let b = text_of (derivation_lines 0 c.in-Conflict.proof) in
    let t = text_of (witnesses_lines c.in-Conflict.set c.in-Conflict.witnesses) in
    let is = conflict-parts c.args.earlier.now c.args.made.now c.in-Conflict.set c.in-Conflict.proof c.in-Conflict.witnesses c.in-Conflict.is in
    let p = err_from_is_err_and c.from_residual.result c.from_residual.ensures.1 in
    rw (p.1, p.2)
    (puts-part (g.S.LineSink.took c.args.sink.now c.put_set.new.sink) (g.S.LineSink.stopped c.args.sink.now c.put_set.new.sink)
    c.args.waiting.now.items c.put_set.new.waiting.items a (b ++ t) _ _ (sym (append_assoc a b t) ∙ is) c.in_err-put_set-in-Conflict.ensures)

pub returns-in_err-put_derivation-in-Conflict : goal.returns-in_err-put_derivation-in-Conflict
returns-in_err-put_derivation-in-Conflict g c =
    let a = line_text (set_line (codes "u") c.in-Conflict.set) in
    let b = text_of (derivation_lines 0 c.in-Conflict.proof) in
    let t = text_of (witnesses_lines c.in-Conflict.set c.in-Conflict.witnesses) in
    let is = conflict-parts c.args.earlier.now c.args.made.now c.in-Conflict.set c.in-Conflict.proof c.in-Conflict.witnesses c.in-Conflict.is in
    let p = err_from_is_err_and c.from_residual-in_err-put_derivation-in-Conflict.result c.from_residual-in_err-put_derivation-in-Conflict.ensures.1 in
    rw (p.1, p.2)
    (puts-cut g.met.S.LineSink.adds_up c.args.sink.now c.put_set.new.sink c.put_derivation.new.sink
    c.args.waiting.now.items c.put_set.new.waiting.items c.put_derivation.new.waiting.items a b t _ _ is c.in_ok-put_set-in-Conflict.ensures c.in_err-put_derivation-in-Conflict.ensures)

pub returns-in_ok-put_derivation-in-Conflict : goal.returns-in_ok-put_derivation-in-Conflict
returns-in_ok-put_derivation-in-Conflict g c =
    let a = line_text (set_line (codes "u") c.in-Conflict.set) in
    let b = text_of (derivation_lines 0 c.in-Conflict.proof) in
    let t = text_of (witnesses_lines c.in-Conflict.set c.in-Conflict.witnesses) in
    let is = conflict-parts c.args.earlier.now c.args.made.now c.in-Conflict.set c.in-Conflict.proof c.in-Conflict.witnesses c.in-Conflict.is in
    let lent = ap (λ gs. (a ++ b) ++ text_of (witnesses_lines gs c.in-Conflict.witnesses)) c.as_slice.ensures.groups in
    puts-then g.met.S.LineSink.adds_up c.args.sink.now c.put_derivation.new.sink c.put_witnesses.new.sink
    c.args.waiting.now.items c.put_derivation.new.waiting.items c.put_witnesses.new.waiting.items (a ++ b) _ _ c.put_witnesses.result (lent ∙ is)
    (put-then (g.met.S.LineSink.adds_up.more c.args.sink.now c.put_set.new.sink c.put_derivation.new.sink)
    c.args.waiting.now.items c.put_set.new.waiting.items c.put_derivation.new.waiting.items a b c.in_ok-put_set-in-Conflict.ensures c.in_ok-put_derivation-in-Conflict.ensures)
    c.put_witnesses.ensures

pub returns-in_err-put_set-in-Correction : goal.returns-in_err-put_set-in-Correction
returns-in_err-put_set-in-Correction g c =
    let a = line_text (set_line (codes "m") c.in-Correction.set) in
    let b = line_text (witness_line 0 c.in-Correction.witness) in
    let t = text_of (refutations_lines c.in-Correction.set (shortened_refutations c.args.earlier.now c.in-Correction.set c.in-Correction.set c.in-Correction.proofs)) in
    let is = correction-parts c.args.earlier.now c.args.made.now c.in-Correction.set c.in-Correction.witness c.in-Correction.proofs c.in-Correction.is in
    let p = err_from_is_err_and c.from_residual-in_err-put_set-in-Correction.result c.from_residual-in_err-put_set-in-Correction.ensures.1 in
    rw (p.1, p.2)
    (puts-part (g.S.LineSink.took c.args.sink.now c.put_set-in-Correction.new.sink) (g.S.LineSink.stopped c.args.sink.now c.put_set-in-Correction.new.sink)
    c.args.waiting.now.items c.put_set-in-Correction.new.waiting.items a (b ++ t) _ _ (sym (append_assoc a b t) ∙ is) c.in_err-put_set-in-Correction.ensures)

pub returns-in_err-put_witness-in-Correction : goal.returns-in_err-put_witness-in-Correction
returns-in_err-put_witness-in-Correction g c =
    let a = line_text (set_line (codes "m") c.in-Correction.set) in
    let b = line_text (witness_line 0 c.in-Correction.witness) in
    let t = text_of (refutations_lines c.in-Correction.set (shortened_refutations c.args.earlier.now c.in-Correction.set c.in-Correction.set c.in-Correction.proofs)) in
    let is = correction-parts c.args.earlier.now c.args.made.now c.in-Correction.set c.in-Correction.witness c.in-Correction.proofs c.in-Correction.is in
    let p = err_from_is_err_and c.from_residual-in_err-put_witness-in-Correction.result c.from_residual-in_err-put_witness-in-Correction.ensures.1 in
    rw (p.1, p.2)
    (puts-cut g.met.S.LineSink.adds_up c.args.sink.now c.put_set-in-Correction.new.sink c.put_witness.new.sink
    c.args.waiting.now.items c.put_set-in-Correction.new.waiting.items c.put_witness.new.waiting.items a b t _ _ is c.in_ok-put_set-in-Correction.ensures c.in_err-put_witness-in-Correction.ensures)

pub returns-in_ok-put_witness-in-Correction : goal.returns-in_ok-put_witness-in-Correction
returns-in_ok-put_witness-in-Correction g c =
    let a = line_text (set_line (codes "m") c.in-Correction.set) in
    let b = line_text (witness_line 0 c.in-Correction.witness) in
    let t = text_of (refutations_lines c.in-Correction.set (shortened_refutations c.args.earlier.now c.in-Correction.set c.in-Correction.set c.in-Correction.proofs)) in
    let is = correction-parts c.args.earlier.now c.args.made.now c.in-Correction.set c.in-Correction.witness c.in-Correction.proofs c.in-Correction.is in
    puts-then g.met.S.LineSink.adds_up c.args.sink.now c.put_witness.new.sink c.put_refutations.new.sink
    c.args.waiting.now.items c.put_witness.new.waiting.items c.put_refutations.new.waiting.items (a ++ b) _ _ c.put_refutations.result is
    (put-then (g.met.S.LineSink.adds_up.more c.args.sink.now c.put_set-in-Correction.new.sink c.put_witness.new.sink)
    c.args.waiting.now.items c.put_set-in-Correction.new.waiting.items c.put_witness.new.waiting.items a b c.in_ok-put_set-in-Correction.ensures c.in_ok-put_witness-in-Correction.ensures)
    c.put_refutations.ensures

-- an index by which the correction is shortened finds what serves
pub put_refutations-requires : goal.put_refutations-requires
put_refutations-requires g c = subst (λ r. IfSome c.args.index (λ i. CanShorten c.args.earlier.now r i.now)) c.in-Correction.is c.requires
