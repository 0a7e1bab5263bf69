-- One step of the reader behind another.
use Rattle.std.proofs.Common.{List, ◌++◌, sym, ◌∙◌, ap}
use Rattle.std.proofs.lemmas.List.{append_assoc}
use Rattle.token_text.specs.Kinds.{Kind}
use Rattle.token_text.specs.Left.{Left}
use Rattle.gcnf_text.specs.Grammar.{kinds_of}
use Rattle.gcnf_text.specs.Table.{Due}
use Rattle.gcnf_text.specs.Steps.{Leads}

pub leads_on : (first second third : Due) (ks ls : List Kind) (old mid new : Left) → Leads first old ks second mid
    → Leads second mid ls third new → Leads first old (ks ++ ls) third new
leads_on first second third ks ls old mid new a b =
    record {
      kinds = a.kinds ∙ ap (λ ms. ks ++ ms) b.kinds ∙ sym (append_assoc ks ls (kinds_of new.tokens));
      offence = a.offence ∙ b.offence;
    }
