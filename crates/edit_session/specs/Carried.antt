-- What becomes of evidence where its problem gets longer: the selectors of groups stand behind more variables, and the
-- steps of derivations behind more clauses.
use Rattle.std.specs.Prelude.{ℕ, suc, ◌+◌, ◌-◌, Bool, false, List, [], ◌∷◌, ◌++◌, map, length, replicate, ℤ, pos, negsuc, neg_ℤ, nat_le, if◌then◌else◌}
use Rattle.sat_base.specs.Derivation.{Step, Derivation}
use Rattle.gm_base.specs.Problem.{Problem}
use Rattle.sat_base.specs.Numbering.{place_in}
use Rattle.evidence_rec.specs.declared.record.Record.{Record}
use Rattle.evidence_rec.specs.declared.record.Record.TheVariants as record_of

-- a variable keeps its number, and a selector becomes that of the same group
abbrev pub carried_var : Problem → Problem → ℕ → ℕ
carried_var old new v = if nat_le v old.vars then v else new.vars + (v - old.vars)

abbrev pub carried_lit : Problem → Problem → ℤ → ℤ
carried_lit old new (pos v) = pos (carried_var old new v)
carried_lit old new (negsuc v) = neg_ℤ (pos (carried_var old new (suc v)))

abbrev pub ids_in : List Step → List ℕ
ids_in steps = map (λ (s : Step). s.id) steps

-- a clause of the problem keeps its id, and steps with these ids are numbered on from the new clauses
abbrev pub carried_id : Problem → Problem → List ℕ → ℕ → ℕ
carried_id old new ids id = if nat_le id (length old.clauses) then id else length new.clauses + 1 + place_in ids id

abbrev pub carried_step : Problem → Problem → List ℕ → Step → Step
carried_step old new ids s =
    record { id = carried_id old new ids s.id; lits = map (carried_lit old new) s.lits; hints = map (carried_id old new ids) s.hints }

abbrev pub carried_proof : Problem → Problem → Derivation → Derivation
carried_proof old new d =
    record { steps = map (carried_step old new (ids_in d.steps)) d.steps; goal = carried_id old new (ids_in d.steps) d.goal }

-- variables that are new are false
abbrev pub carried_witness : Problem → List Bool → List Bool
carried_witness new w = w ++ replicate (new.vars - length w) false

-- the conflicts of records, carried over, in order
abbrev pub kept : Problem → Problem → List Record → List Record
kept old new [] = []
kept old new (record_of.Conflict set proof witnesses ∷ rs) =
    record_of.Conflict set (carried_proof old new proof) (map (carried_witness new) witnesses) ∷ kept old new rs
kept old new (record_of.Correction set witness proofs ∷ rs) = kept old new rs
