-- How the parts of a text that is written compose.
use Rattle.std.proofs.Common.{◌≡◌, ◌≢◌, ℕ, List, [], ◌++◌, Option, Some, None, IfSome, refl, sym, ◌∙◌, ap, subst, append_assoc, append-nil}
use Rattle.gm_ports.specs.Faults.{Rose}
use Rattle.gm_ports.specs.FilesState.{FilesState, WritingLeaves, HoldsWhatIsWritten, StaysAsTold, TellsNothingNew}
use Rattle.gm_ports.specs.Told.{ToldAppends, ToldGrowsWithin, IsEmptyWhereTold}
use Rattle.evidence_text.specs.Putting.{IsCut}
use Rattle.gm_io.specs.declared.evidence_file.CutOff.{CutOff}
use Rattle.gm_io.specs.declared.evidence_file.CutOff.TheVariants.{Failed}
use Rattle.gm_io.specs.Writing.{WritesOn, IsTaken, IsTakenToFault, IsCutOff, IsWritten, IsFront, StandsWhole, AreWritten}
use Rattle.gm_io.specs.Taking.{stays-then, taken-more, taken-last}

-- ---- what was taken

-- one call that writes
pub writes-call : (old new : FilesState) → WritingLeaves (λ name. old.output ≡ Some (Some name)) old new → StaysAsTold old.output new.output → TellsNothingNew old new
    → HoldsWhatIsWritten new → WritesOn old new
writes-call old new leaves output untold holds = record { leaves = leaves; output = output; holds = λ before. holds; untold = untold }

-- a piece of which a front part was taken
pub piece-cut : (old new : FilesState) (piece : List ℕ) → ToldGrowsWithin old.written new.written piece → Rose old.write_faults new.write_faults → WritesOn old new
    → IsCut (IsTakenToFault old new) piece []
piece-cut old new piece grew rose writes = record {
  taken = grew.taken;
  left = grew.left;
  parts = append-nil piece ∙ grew.parts;
  took = record { grew = grew.grew; rose = rose; writes = writes };
}

-- ---- a text that is put through the buffer

-- a part was taken, and then what waits is written
pub text-taken : (old mid new : FilesState) (taken after text : List ℕ) → taken ++ after ≡ text → IsTaken old mid taken → IsTaken mid new after → IsTaken old new text
text-taken old mid new taken after text is p q = subst (IsTaken old new) is (taken-more old mid new taken after p q)

-- a part was taken, and then what waits is cut off
pub text-cut : (old mid new : FilesState) (taken after text : List ℕ) → taken ++ after ≡ text → IsTaken old mid taken → IsCut (IsTakenToFault mid new) after []
    → IsCutOff old new text Failed
text-cut old mid new taken after text is p q =
    let took = taken-last old mid new taken q.taken p q.took in
    record {
      grew = record {
        taken = taken ++ q.taken;
        left = q.left;
        parts = sym is ∙ ap (λ x. taken ++ x) (sym (append-nil after) ∙ q.parts) ∙ sym (append_assoc taken q.taken q.left);
        grew = took.grew;
      };
      cause = took.rose;
      writes = took.writes;
    }

-- ---- a whole text, from its opening on

-- nothing was written yet
pub front-of_nothing : (text : List ℕ) (told : Option (List ℕ)) → IsEmptyWhereTold told → IfSome told (λ bytes. (rest : List ℕ) × (text ≡ bytes ++ rest))
front-of_nothing text None empty = tt
front-of_nothing text (Some bytes) empty = (text, ap (λ b. b ++ text) (sym empty))

-- what was taken since the opening was written
grown : (old new : Option (List ℕ)) (taken : List ℕ) → IsEmptyWhereTold old → ToldAppends old new taken → IfSome new (λ bytes. bytes ≡ taken)
grown old None taken empty grew = tt
grown None (Some bytes) taken empty grew = cc
grown (Some before) (Some bytes) taken empty grew =
    let same : before ++ taken ≡ bytes = cc in sym same ∙ ap (λ b. b ++ taken) empty

pub front-grown : (old new : Option (List ℕ)) (text : List ℕ) → IsEmptyWhereTold old → ToldGrowsWithin old new text → IfSome new (λ bytes. (rest : List ℕ) × (text ≡ bytes ++ rest))
front-grown old new text empty h = by new (grown old new h.taken empty h.grew)
  where
    by : (told : Option (List ℕ)) → IfSome told (λ bytes. bytes ≡ h.taken) → IfSome told (λ bytes. (rest : List ℕ) × (text ≡ bytes ++ rest))
    by None is = tt
    by (Some bytes) is = (h.left, h.parts ∙ ap (λ b. b ++ h.left) (sym is))

pub front-cut : (opened new : FilesState) (text : List ℕ) (why : CutOff) → IsEmptyWhereTold opened.written → IsCutOff opened new text why → IsFront text new
front-cut opened new text why empty h = front-grown opened.written new.written text empty h.grew

pub front-written : (text : List ℕ) (told : Option (List ℕ)) → IfSome told (λ bytes. bytes ≡ text) → IfSome told (λ bytes. (rest : List ℕ) × (text ≡ bytes ++ rest))
front-written text None is = tt
front-written text (Some bytes) is = ([], sym is ∙ sym (append-nil bytes))

-- the name holds what was written
held-written : (name : List ℕ) (files : FilesState) (text : List ℕ) → IfSome files.output (λ o. o ≡ Some name) → HoldsWhatIsWritten files
    → files.written ≡ Some text → IfSome (files.held name) (λ file. file ≡ Some text)
held-written name files text named holds is = by files.output refl named
  where
    by : (o : Option (Option (List ℕ))) → files.output ≡ o → IfSome o (λ x. x ≡ Some name) → IfSome (files.held name) (λ file. file ≡ Some text)
    by None e n = subst (λ h. IfSome h (λ file. file ≡ Some text)) (sym (holds.output_told e name)) tt
    by (Some x) e n = holds.holds name text (e ∙ ap Some n) is

pub named-still : (name : List ℕ) (old new : Option (Option (List ℕ))) → IfSome old (λ o. o ≡ Some name) → StaysAsTold old new → IfSome new (λ o. o ≡ Some name)
named-still name old None named stays = tt
named-still name None (Some x) named stays = cc
named-still name (Some y) (Some x) named stays = let same : y ≡ x = cc in sym same ∙ named

pub written-finished : (opened last new : FilesState) (name text : List ℕ) → IfSome opened.output (λ o. o ≡ Some name) → IsEmptyWhereTold opened.written
    → HoldsWhatIsWritten opened → IsTaken opened last text → new.written ≡ last.written → new.held ≡ last.held
    → IfSome new.output (λ output. output ≡ None) → IsWritten name text new
written-finished opened last new name text named empty holds took written held ended = record {
  written = subst (λ told. IfSome told (λ bytes. bytes ≡ text)) (sym written) (grown opened.written last.written text empty took.grew);
  held = by last.written refl;
  ended = ended;
}
  where
    named-last : IfSome last.output (λ o. o ≡ Some name)
    named-last = named-still name opened.output last.output named took.writes.output

    by : (told : Option (List ℕ)) → last.written ≡ told → IfSome new.written (λ bytes. IfSome (new.held name) (λ file. file ≡ Some bytes))
    by None e = subst (λ t. IfSome t (λ bytes. IfSome (new.held name) (λ file. file ≡ Some bytes))) (sym (written ∙ e)) tt
    by (Some bytes) e =
        subst (λ t. IfSome t (λ bytes. IfSome (new.held name) (λ file. file ≡ Some bytes))) (sym (written ∙ e))
        (subst (λ h. IfSome (h name) (λ file. file ≡ Some bytes)) (sym held)
        (held-written name last bytes named-last (took.writes.holds holds) e))

-- no other name is changed
pub leaves-opened : (old opened last : FilesState) (name : List ℕ) → IfSome opened.output (λ o. o ≡ Some name) → WritingLeaves (λ n. n ≡ name) old opened
    → WritesOn opened last → WritingLeaves (λ n. n ≡ name) old last
leaves-opened old opened last name named opens writes = record {
  names = λ n other.
      stays-then (old.held n) (opened.held n) (last.held n) (opens.names n other)
      (writes.leaves.names n (λ is. other (same n (subst (λ o. IfSome o (λ x. x ≡ Some name)) is named))));
  read_faults = writes.leaves.read_faults ∙ opens.read_faults;
}
  where
    same : (n : List ℕ) → Some n ≡ Some name → n ≡ name
    same n e = cc

pub leaves-finished : (old last new : FilesState) (name : List ℕ) → WritingLeaves (λ n. n ≡ name) old last → WritingLeaves (λ n. ⊥) last new
    → WritingLeaves (λ n. n ≡ name) old new
leaves-finished old last new name before ends = record {
  names = λ n other. stays-then (old.held n) (last.held n) (new.held n) (before.names n other) (ends.names n (λ never. never));
  read_faults = ends.read_faults ∙ before.read_faults;
}

-- ---- two texts, each to an output of its own

-- a name that holds its text goes on holding it, where another one is written
stands-still : (mid new : FilesState) (first text second : List ℕ) → first ≢ second → IsWritten first text mid → WritingLeaves (λ n. n ≡ second) mid new
    → TellsNothingNew mid new → StandsWhole first text new
stands-still mid new first text second apart whole leaves untold = by new.written mid.written refl refl
  where
    -- what the name holds now is what it held, where both are told
    holds : (now before : Option (Option (List ℕ))) (bytes : List ℕ) → StaysAsTold before now → bytes ≡ text → IfSome before (λ file. file ≡ Some bytes)
        → IfSome now (λ file. file ≡ Some text)
    holds None before bytes stays is held = tt
    holds (Some file) None bytes stays is held = cc
    holds (Some file) (Some was) bytes stays is held = let same : was ≡ file = cc in sym same ∙ held ∙ ap Some is

    by : (now before : Option (List ℕ)) → new.written ≡ now → mid.written ≡ before → StandsWhole first text new
    by None before e b = subst (λ told. IfSome told (λ _. IfSome (new.held first) (λ file. file ≡ Some text))) (sym e) tt
    by (Some bytes) None e b = let never : Some bytes ≡ None = sym e ∙ untold.written b in cc
    by (Some bytes) (Some was) e b =
        subst (λ told. IfSome told (λ _. IfSome (new.held first) (λ file. file ≡ Some text))) (sym e)
        (holds (new.held first) (mid.held first) was (leaves.names first apart)
        (subst (λ told. IfSome told (λ x. x ≡ text)) b whole.written)
        (subst (λ told. IfSome told (λ x. IfSome (mid.held first) (λ file. file ≡ Some x))) b whole.held))

-- so both stand when both were written
pub both-written : (mid new : FilesState) (first first_text second second_text : List ℕ) → first ≢ second → IsWritten first first_text mid
    → WritingLeaves (λ n. n ≡ second) mid new → TellsNothingNew mid new → IsWritten second second_text new → AreWritten first first_text second second_text new
both-written mid new first first_text second second_text apart whole leaves untold last = record {
  stands = stands-still mid new first first_text second apart whole leaves untold;
  last = last;
}
