-- What stands behind the records of a journal is determined by the text.
use Rattle.std.proofs.Common.{[], ◌∷◌, ◌++◌, sym, ◌∙◌, ap}
use Rattle.evidence_rec.specs.declared.record.Record.{Record}
use Rattle.evidence_text.proofs.AloneLemmas.{texts-of_one}
use Rattle.disk_frames.specs.Salvage.{IsOneWay}
use Rattle.gm_journal.specs.Following.{MayFollow}

-- a text is that of one record at most
pub follows-one_way : IsOneWay MayFollow
follows-one_way p before text after other h k =
    h.after_is ∙ ap (λ (r : Record). before ++ r ∷ []) (texts-of_one p text h.found k.found h.small h.is_text k.is_text) ∙ sym k.after_is
