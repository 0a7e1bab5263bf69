-- What the opened output takes adds up: laws of the sink that writes to it.
use Rattle.std.proofs.Common.{ℕ, List, [], ◌++◌, Option, Some, None, refl, ◌∙◌, subst}
use Rattle.gm_ports.specs.Faults.{Rose}
use Rattle.gm_ports.specs.FilesState.{FilesState, StaysAsTold, TellsNothingNew}
use Rattle.gm_ports.proofs.ToldLemmas.{ToldAppends-append, ToldAppends-nothing}
use Rattle.gm_io.specs.Writing.{WritesOn, IsTaken, IsTakenToFault}

-- ---- what stays

pub stays-same : {A : Type 0} (told : Option A) → StaysAsTold told told
stays-same None = tt
stays-same (Some x) = refl

pub stays-then : {A : Type 0} (old mid new : Option A) → StaysAsTold old mid → StaysAsTold mid new → StaysAsTold old new
stays-then old mid None p q = tt
stays-then old None (Some x) p q = cc
stays-then old (Some y) (Some x) p q = p ∙ q

pub untold-same : (files : FilesState) → TellsNothingNew files files
untold-same files = record { names = λ name none. none; unread = λ none. none; output = λ none. none; written = λ none. none }

pub untold-then : (old mid new : FilesState) → TellsNothingNew old mid → TellsNothingNew mid new → TellsNothingNew old new
untold-then old mid new p q = record {
  names = λ name none. q.names name (p.names name none);
  unread = λ none. q.unread (p.unread none);
  output = λ none. q.output (p.output none);
  written = λ none. q.written (p.written none);
}

pub writes-nothing : (files : FilesState) → WritesOn files files
writes-nothing files = record {
  leaves = record { names = λ name other. stays-same (files.held name); read_faults = refl };
  output = stays-same files.output;
  holds = λ h. h;
  untold = untold-same files;
}

pub writes-then : (old mid new : FilesState) → WritesOn old mid → WritesOn mid new → WritesOn old new
writes-then old mid new p q = record {
  leaves = record {
    names = λ name other.
        stays-then (old.held name) (mid.held name) (new.held name) (p.leaves.names name other)
        (q.leaves.names name (λ now. other (subst (λ o. StaysAsTold old.output o) now p.output)));
    read_faults = q.leaves.read_faults ∙ p.leaves.read_faults;
  };
  output = stays-then old.output mid.output new.output p.output q.output;
  holds = λ h. q.holds (p.holds h);
  untold = untold-then old mid new p.untold q.untold;
}

-- ---- what was taken, one part behind another

pub taken-nothing : (files : FilesState) → IsTaken files files []
taken-nothing files = record { grew = ToldAppends-nothing files.written; quiet = refl; writes = writes-nothing files }

pub taken-more : (old mid new : FilesState) (s t : List ℕ) → IsTaken old mid s → IsTaken mid new t → IsTaken old new (s ++ t)
taken-more old mid new s t p q = record {
  grew = ToldAppends-append old.written mid.written new.written s t p.grew q.grew;
  quiet = q.quiet ∙ p.quiet;
  writes = writes-then old mid new p.writes q.writes;
}

pub taken-last : (old mid new : FilesState) (s t : List ℕ) → IsTaken old mid s → IsTakenToFault mid new t → IsTakenToFault old new (s ++ t)
taken-last old mid new s t p q = record {
  grew = ToldAppends-append old.written mid.written new.written s t p.grew q.grew;
  rose = subst (λ n. Rose n new.write_faults) p.quiet q.rose;
  writes = writes-then old mid new p.writes q.writes;
}
