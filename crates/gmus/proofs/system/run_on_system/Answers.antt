use Rattle.std.proofs.Common.{Option, Some, None}
use Rattle.std.specs.Prelude.{IfSome, ⊤}
use Rattle.gm_ports.specs.DiskState.{DiskState}
use Rattle.gm_words.specs.Reading.{listing, checking, drilling, exporting, asking, carrying}
use Rattle.gm_io.specs.Outside.{GetsLine, untold}
use Rattle.gm_tool.specs.Journaled.{IsJournaled}
use Rattle.gm_tool.specs.Words.{asked_in, bounds_of, outputs_of}
use Rattle.gm_tool.proofs.GetsLemmas.{run-gets, done-gets}
use Rattle.gm_tool.proofs.JournalLemmas.{journaled-gets}
use Rattle.os_ports.specs.Counts.{Faults}
use Rattle.gmus.proofs.system.run_on_system.Goals as goal

-- the same, of files and streams that tell no bytes
pub returns-clause-every : goal.returns-clause-every
returns-clause-every g c = λ none.
    run-gets (GetsLine None None c.args.err.now.faults c.run.new.err.faults) (λ _. ⊤) (λ line told. tt) (bounds_of (asked_in c.args.words.now)) (outputs_of (asked_in c.args.words.now))
    (untold c.args.files.now.read_faults c.args.files.now.write_faults c.args.out.now.faults)
    (untold c.run.new.files.read_faults c.run.new.files.write_faults c.run.new.out.faults) c.run.result.0 (c.run.ensures.every none)

pub returns-clause-listing : goal.returns-clause-listing
returns-clause-listing g c = λ l is none.
    done-gets (GetsLine None None c.args.err.now.faults c.run.new.err.faults) (λ _. ⊤) (λ line told. tt) (Some (listing l))
    (untold c.args.files.now.read_faults c.args.files.now.write_faults c.args.out.now.faults)
    (untold c.run.new.files.read_faults c.run.new.files.write_faults c.run.new.out.faults) c.run.result.0 (c.run.ensures.listing l is none)

pub returns-clause-checking : goal.returns-clause-checking
returns-clause-checking g c = λ k is.
    done-gets (GetsLine None None c.args.err.now.faults c.run.new.err.faults) (λ _. ⊤) (λ line told. tt) (Some (checking k))
    (untold c.args.files.now.read_faults c.args.files.now.write_faults c.args.out.now.faults)
    (untold c.run.new.files.read_faults c.run.new.files.write_faults c.run.new.out.faults) c.run.result.0 (c.run.ensures.checking k is)

pub returns-clause-drilling : goal.returns-clause-drilling
returns-clause-drilling g c = λ d is.
    done-gets (GetsLine None None c.args.err.now.faults c.run.new.err.faults) (λ _. ⊤) (λ line told. tt) (Some (drilling d))
    (untold c.args.files.now.read_faults c.args.files.now.write_faults c.args.out.now.faults)
    (untold c.run.new.files.read_faults c.run.new.files.write_faults c.run.new.out.faults) c.run.result.0 (c.run.ensures.drilling d is)

pub returns-clause-exporting : goal.returns-clause-exporting
returns-clause-exporting g c = λ x is.
    done-gets (GetsLine None None c.args.err.now.faults c.run.new.err.faults) (λ _. ⊤) (λ line told. tt) (Some (exporting x))
    (untold c.args.files.now.read_faults c.args.files.now.write_faults c.args.out.now.faults)
    (untold c.run.new.files.read_faults c.run.new.files.write_faults c.run.new.out.faults) c.run.result.0 (c.run.ensures.exporting x is)

pub returns-clause-roles : goal.returns-clause-roles
returns-clause-roles g c = λ a is.
    done-gets (GetsLine None None c.args.err.now.faults c.run.new.err.faults) (λ _. ⊤) (λ line told. tt) (Some (asking a))
    (untold c.args.files.now.read_faults c.args.files.now.write_faults c.args.out.now.faults)
    (untold c.run.new.files.read_faults c.run.new.files.write_faults c.run.new.out.faults) c.run.result.0 (c.run.ensures.roles a is)

pub returns-clause-carrying : goal.returns-clause-carrying
returns-clause-carrying g c = λ k is.
    done-gets (GetsLine None None c.args.err.now.faults c.run.new.err.faults) (λ _. ⊤) (λ line told. tt) (Some (carrying k))
    (untold c.args.files.now.read_faults c.args.files.now.write_faults c.args.out.now.faults)
    (untold c.run.new.files.read_faults c.run.new.files.write_faults c.run.new.out.faults) c.run.result.0 (c.run.ensures.carrying k is)

-- the same fact of what is told
some-by : {A : Type 0} (o : Option A) (P Q : A → Type 0) → ((a : A) → P a → Q a) → IfSome o P → IfSome o Q
some-by None P Q f h = tt
some-by (Some a) P Q f h = f a h

-- so is the journal's disk one that tells no bytes
pub returns-clause-journaled : goal.returns-clause-journaled
returns-clause-journaled g c = λ l name is named.
    let old = untold c.args.files.now.read_faults c.args.files.now.write_faults c.args.out.now.faults in
    let new = untold c.run.new.files.read_faults c.run.new.files.write_faults c.run.new.out.faults in
    let Gets = GetsLine None None c.args.err.now.faults c.run.new.err.faults in
    let state : Faults → DiskState =
    λ d. record { reads = None; may_leave = λ c. ⊤; moment = 0; left_since = λ t c. ⊤; held = λ n. None; name = None; faults = d.faults } in
    some-by c.run.result.1 (λ after. IsJournaled state l name c.args.disk after old new Gets c.run.result.0) (λ after. IsJournaled state l name c.args.disk after old new (λ _. ⊤) c.run.result.0)
    (λ after h. journaled-gets Gets (λ _. ⊤) (λ line told. tt) state l name c.args.disk after old new c.run.result.0 h) (c.run.ensures.journaled l name is named)
