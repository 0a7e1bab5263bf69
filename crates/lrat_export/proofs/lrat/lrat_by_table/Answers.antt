use Rattle.std.proofs.Common.{◌∙◌, List, subst, sym}
use Rattle.lrat_export.specs.declared.numbering.Entry.{Entry}
use Rattle.lrat_export.specs.Numbers.{Ascend}
use Rattle.lrat_export.proofs.EntryLemmas.{numbers-ascend}
use Rattle.lrat_export.proofs.lrat.lrat_by_table.Goals as goal

-- the ids of an accepted proof ascend, and so do those of the entries
pub push_exported-requires : goal.push_exported-requires
push_exported-requires c =
    let is = c.as_slice.ensures.value ∙ c.in_ok-entries.ensures in
    record {
      numbers = record {
        numbered = is;
        ascend = subst (λ (es : List Entry). Ascend es) (sym is) (numbers-ascend c.args.problem.now c.args.set.now c.args.proof.now c.requires);
      };
    }
