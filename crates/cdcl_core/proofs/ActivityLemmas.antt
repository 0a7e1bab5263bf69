-- Trails in other orders of decisions, and the clauses that hints name.
use Rattle.std.proofs.Common.{◌≡◌, ℕ, List, ◌∙◌, ap, true}
use Rattle.std.specs.Prelude.{ℤ}
use Rattle.sat_base.specs.Members.{In}
use Rattle.sat_base.specs.Derivation.{follows}
use Rattle.sat_base.specs.Database.{StoredClause, known_of}
use Rattle.sat_base.proofs.DatabaseLemmas.{named_range}
use Rattle.clause_store.specs.Clauses.{IsId}
use Rattle.trail_book.specs.Trail.{Trail, IsReordered}
use Rattle.lrat_steps.proofs.FollowLemmas.{hint_known}

pub reordered-join : (a b c : Trail) → IsReordered a b → IsReordered b c → IsReordered a c
reordered-join a b c one more = more ∙ ap (λ (t : Trail). record t { ranking = c.ranking }) one

pub hint_is_id : (db : List StoredClause) (lits : List ℤ) (hints : List ℕ) (id : ℕ) → follows (known_of db) lits hints ≡ true → In id hints → IsId db id
hint_is_id db lits hints id f i =
    let (clause, named) = hint_known (known_of db) lits hints id f i in
    let range = named_range db id clause named in
    record { from_one = range.0; within = range.1 }
