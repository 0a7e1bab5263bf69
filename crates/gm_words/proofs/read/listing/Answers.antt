use Rattle.std.proofs.Common.{◌∙◌, sym}
use Rattle.gm_words.proofs.ReadingLemmas.{listing_without}
use Rattle.gm_words.proofs.read.listing.Goals as goal

-- a text that is no LIST leaves no listing
pub returns-in-None-clause-asked : goal.returns-in-None-clause-asked
returns-in-None-clause-asked c = listing_without _ _ _ _ _ _ _ _ (sym c.in_ok-focus.ensures ∙ c.in-None.is)
