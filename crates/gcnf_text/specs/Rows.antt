-- Worked texts, computed from the definitions. The wanted answers were worked out by hand.
use Rattle.std.specs.Prelude.{◌≡◌, ℕ, [], ◌∷◌, ◌++◌, codes, pos, negsuc, Option, Some, None}
use Rattle.std.proofs.Common.{refl}
use Rattle.std.specs.Fmt.{digits}
use Rattle.token_text.specs.Kinds.{Word, Number}
use Rattle.token_text.specs.Tokens.{tokens_of}
use Rattle.gm_base.specs.Problem.{Problem}
use Rattle.gm_base.specs.Rows.{four_clauses, in_group}
use Rattle.gcnf_text.specs.declared.offence.Limit.TheVariants as limit
use Rattle.gcnf_text.specs.declared.offence.Offence.{Offence}
use Rattle.gcnf_text.specs.declared.reader.TheConstants.{MAX_BYTES}
use Rattle.gcnf_text.specs.declared.form.Form.TheVariants.{Gcnf, Cnf}
use Rattle.gcnf_text.specs.Grammar.{HasGroups, kinds_of, max_bytes, problem_kinds}
use Rattle.gcnf_text.specs.Table.{first_offence, offence_at}
use Rattle.gcnf_text.specs.Plain.{plain_text}
use Rattle.gcnf_text.specs.Chain.{chain_widths, links_from, made_case, states}

-- an offence that is above no limit, by its number, line and byte
abbrev pub at : ℕ → ℕ → ℕ → Option Offence
at number line byte = Some (offence_at number None line byte)

-- free white space, comments, and several clauses a line
pub free_text :
    kinds_of (tokens_of (codes "c lenient\np gcnf 2 4 4\r\n{ 1 }1 0\r\n  c between\n{2} -1 0 {3} -1\n2 0\n{4} -2 0\n"))
    ≡ problem_kinds Gcnf four_clauses
free_text = refl

-- the same problem in the other form, of which each clause is a group, with the ending that old files have
pub plain_form :
    kinds_of (tokens_of (codes "p cnf 2 4\n1 0 -1 0\n-1\nc within a clause\n2 0\n-2 0\n%\n0\n"))
    ≡ problem_kinds Cnf four_clauses ++ Word (codes "%") ∷ Number (pos 0) ∷ []
plain_form = refl

pub own_groups : HasGroups Cnf four_clauses
own_groups = (refl, refl)

pub accepted :
    (first_offence (codes "p gcnf 2 4 4\n{1} 1 0\n{2} -1 0\n{3} -1 2 0\n{4} -2 0\n") ≡ None)
    × (first_offence (codes "p gcnf 0 0 0") ≡ None)
    × (first_offence (codes "p cnf 2 4\n1 0\n-1 0\n-1 2 0\n-2 0\n") ≡ None)
    × (first_offence (codes "p cnf 0 0") ≡ None)
accepted = (refl, refl, refl, refl)

pub cut_or_too_long :
    (first_offence (codes "p gcnf 2 4 4\n{1} 1 0\n{2} -1 0\n{3} -1 2 0\n{4} -2") ≡ at 7 5 7)
    × (first_offence (codes "p gcnf 2 4 4\n{1} 1 0\n{2} -1 0\n{3} -1 2 0\n{4} -2 0\n{1} 2 0\n") ≡ at 8 6 1)
cut_or_too_long = (refl, refl)

pub headers :
    (first_offence [] ≡ at 1 1 1)
    × (first_offence (codes "p dnf 1 1\n") ≡ at 2 1 3)
    × (first_offence (codes "p gcnf 4194305 0 0\n") ≡ Some (offence_at 9 (Some limit.Vars) 1 8))
headers = (refl, refl, refl)

-- CNF has two numbers in its header, of which the second has two limits
pub plain_headers :
    (first_offence (codes "p cnf 1 1\n") ≡ at 7 2 1)
    × (first_offence (codes "p cnf 4194305 0\n") ≡ Some (offence_at 9 (Some limit.Vars) 1 7))
    × (first_offence (codes "p cnf 1 16777217\n") ≡ Some (offence_at 9 (Some limit.Clauses) 1 9))
    × (first_offence (codes "p cnf 1 1048577\n") ≡ Some (offence_at 9 (Some limit.Groups) 1 9))
    × (first_offence (codes "p cnf 1 -1\n") ≡ at 2 1 9)
    × (first_offence (codes "p cnf 1") ≡ at 2 1 8)
    × (first_offence (codes "p cnf 0 0 0") ≡ at 8 1 11)
plain_headers = (refl, refl, refl, refl, refl, refl, refl)

pub clauses :
    (first_offence (codes "p gcnf 1 1 4\n{9} 1 0\n") ≡ at 5 2 2)
    × (first_offence (codes "p gcnf 2 1 1\n1 0\n") ≡ at 6 2 1)
    × (first_offence (codes "p gcnf 2 1 1\n{1} 3 0\n") ≡ at 4 2 5)
    × (first_offence (codes "p gcnf 2 1 1\n{1} 1 x 0\n") ≡ at 3 2 7)
clauses = (refl, refl, refl, refl)

-- in CNF a brace may come nowhere, and a number behind the last clause begins another one
pub plain_clauses :
    (first_offence (codes "p cnf 1 1\n1 0\n-1 0\n") ≡ at 8 3 1)
    × (first_offence (codes "p cnf 1 1\n{1} 1 0\n") ≡ at 3 2 1)
    × (first_offence (codes "p cnf 1 1\n1 0 {") ≡ at 3 2 5)
    × (first_offence (codes "p cnf 1 1\n2 0\n") ≡ at 4 2 1)
    × (first_offence (codes "p cnf 1 1\n1 -2 0\n") ≡ at 4 2 3)
    × (first_offence (codes "p cnf 1 1\n1 {") ≡ at 3 2 3)
    × (first_offence (codes "p cnf 1 1\n1") ≡ at 7 2 2)
    × (first_offence (codes "p cnf 1 1\nx") ≡ at 3 2 1)
    × (first_offence (codes "p cnf 1 1\n1 0 x") ≡ at 3 2 5)
plain_clauses = (refl, refl, refl, refl, refl, refl, refl, refl, refl)

-- an end mark is the end behind the last clause, and too early between clauses; within one it may not come
pub end_marks :
    (first_offence (codes "p cnf 1 1\n1 0\n%\n0\n") ≡ None)
    × (first_offence (codes "p cnf 1 1\n1 0 %{ x -0 9") ≡ None)
    × (first_offence (codes "p cnf 1 2\n1 0\n%\n") ≡ at 7 3 1)
    × (first_offence (codes "p cnf 1 1\n1 %\n") ≡ at 3 2 3)
    × (first_offence (codes "p cnf 1 %\n") ≡ at 2 1 9)
    × (first_offence (codes "p gcnf 1 0 1\n%\n") ≡ at 3 2 1)
end_marks = (refl, refl, refl, refl, refl, refl)

-- what spells the tokens of a problem that is not well formed: a 0 within a clause, and a group above the last
pub not_well_formed :
    (first_offence (codes "p gcnf 1 1 1\n{1} 1 0 0\n") ≡ at 8 2 9)
    × (first_offence (codes "p gcnf 1 1 1\n{2} 1 0\n") ≡ at 5 2 2)
not_well_formed = (refl, refl)

-- the constant that callers give as the limit of their reading is the limit of the definition
pub byte_limit : MAX_BYTES ≡ max_bytes
byte_limit = refl

-- plain texts: an empty clause has a line, and repeated and clashing literals stay
abbrev pub lines_of_all_kinds : Problem
lines_of_all_kinds = record { vars = 12; groups = 10; clauses = in_group 10 [] ∷ in_group 0 (pos 12 ∷ negsuc 11 ∷ pos 12 ∷ []) ∷ [] }

pub plain_texts :
    (plain_text four_clauses ≡ codes "p gcnf 2 4 4\n{1} 1 0\n{2} -1 0\n{3} -1 2 0\n{4} -2 0\n")
    × (plain_text (record { vars = 0; groups = 0; clauses = [] }) ≡ codes "p gcnf 0 0 0\n")
    × (plain_text lines_of_all_kinds ≡ codes "p gcnf 12 2 10\n{10} 0\n{0} 12 -12 12 0\n")
unfolding digits
plain_texts = (refl, refl, refl)

-- the chain of seed 7 and size 12: the states, the widths, and the link of each group
pub chain_of_seed_7 :
    (states 13 7
    ≡ 599 ∷ 44999 ∷ 32612 ∷ 21105 ∷ 10061 ∷ 33742 ∷ 40318 ∷ 9222 ∷ 36354 ∷ 39607 ∷ 21434 ∷ 34736 ∷ 49331 ∷ [])
    × (chain_widths 7 12 ≡ 1 ∷ 1 ∷ 1 ∷ 2 ∷ 1 ∷ 1 ∷ 1 ∷ 2 ∷ 2 ∷ 1 ∷ 1 ∷ 1 ∷ 1 ∷ [])
    × (links_from 0 (chain_widths 7 12) ≡ 0 ∷ 1 ∷ 2 ∷ 3 ∷ 3 ∷ 4 ∷ 5 ∷ 6 ∷ 7 ∷ 7 ∷ 8 ∷ 8 ∷ 9 ∷ 10 ∷ 11 ∷ 12 ∷ [])
chain_of_seed_7 = (refl, refl, refl)

-- no link of seed 0 and size 1 is wide; of seed 900 the first is
pub small_chains :
    (plain_text (made_case 0 1)
    ≡ codes "p gcnf 5 8 2\n{1} 1 2 3 0\n{1} 1 2 -3 0\n{1} 1 -2 3 0\n{1} 1 -2 -3 0\n{2} -1 4 5 0\n{2} -1 4 -5 0\n{2} -1 -4 5 0\n{2} -1 -4 -5 0\n")
    × (states 2 900 ≡ 2037 ∷ 21775 ∷ [])
    × (chain_widths 900 1 ≡ 2 ∷ 1 ∷ [])
unfolding digits
small_chains = (refl, refl, refl)
