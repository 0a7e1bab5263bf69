use Rattle.gm_journal.proofs.SameLemmas.{appended_of, holds_these, holds_front}
use Rattle.gm_journal.proofs.laws.texts_are_of_their_records.Goals as goal

pub returns-clause-appended : goal.returns-clause-appended
returns-clause-appended c = λ o history legal. appended_of o history legal

pub returns-clause-kept : goal.returns-clause-kept
returns-clause-kept c = λ o records bytes read keeps. holds_these o records bytes read keeps

pub returns-clause-front : goal.returns-clause-front
returns-clause-front c = λ o acknowledged history records bytes read are keeps. holds_front o acknowledged history records bytes read are keeps
