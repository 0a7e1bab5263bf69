-- A clause more behind those that were read.
use Rattle.std.proofs.Common.{◌≡◌, ◌+◌, List, [], ◌∷◌, ◌++◌, length, sym, ◌∙◌, ap, subst, arith}
use Rattle.std.specs.List.{flat_map, AllByRecursion}
use Rattle.std.proofs.lemmas.List.{flat_map_more, length-append}
use Rattle.std.proofs.lemmas.List.Sums.{sum_by_push}
use Rattle.token_text.specs.Left.{Left}
use Rattle.gm_base.specs.declared.clause.Clause.{Clause}
use Rattle.gcnf_text.specs.declared.form.Form.{Form}
use Rattle.gcnf_text.specs.Grammar.{clause_kinds, literal_count}
use Rattle.gcnf_text.specs.Table.{Between, Sofar}
use Rattle.gcnf_text.specs.Steps.{Leads, behind_clause}
use Rattle.gcnf_text.proofs.StepLemmas.{leads_on}

pub leads_more : (form f : Form) (first s t : Sofar) (old mid new : Left) (cs : List Clause) (c : Clause) → f ≡ form → t ≡ behind_clause s c
    → Leads (Between form first) old (flat_map (clause_kinds form) cs) (Between form s) mid
    → Leads (Between f s) mid (clause_kinds f c) (Between f (behind_clause s c)) new
    → Leads (Between form first) old (flat_map (clause_kinds form) (cs ++ c ∷ [])) (Between form t) new
leads_more form f first s t old mid new cs c same counted before read =
    let step = subst (λ g. Leads (Between g s) mid (clause_kinds g c) (Between g (behind_clause s c)) new) same read in
    let both = leads_on (Between form first) (Between form s) (Between form (behind_clause s c)) (flat_map (clause_kinds form) cs) (clause_kinds form c) old mid new before step in
    let all = subst (λ ks. Leads (Between form first) old ks (Between form (behind_clause s c)) new) (flat_map_more (clause_kinds form) [] cs c) both in
    subst (λ u. Leads (Between form first) old (flat_map (clause_kinds form) (cs ++ c ∷ [])) (Between form u) new) (sym counted) all

pub counted_more : (first s t : Sofar) (cs : List Clause) (c : Clause) → t ≡ behind_clause s c
    → s ≡ record first { ended = length cs; literals = literal_count cs }
    → t ≡ record first { ended = length (cs ++ c ∷ []); literals = literal_count (cs ++ c ∷ []) }
counted_more first s t cs c is counted =
    let ended : length cs + 1 ≡ length (cs ++ c ∷ []) = omega (arith, length-append cs (c ∷ [])) in
    let literals : literal_count cs + length c.lits ≡ literal_count (cs ++ c ∷ []) = sym (sum_by_push (λ (d : Clause). length d.lits) cs c) in
    is ∙ ap (λ u. behind_clause u c) counted
    ∙ ap (λ n. record first { ended = n; literals = literal_count cs + length c.lits }) ended
    ∙ ap (λ n. record first { ended = length (cs ++ c ∷ []); literals = n }) literals

pub all_more : (P : Clause → Type 0) (cs : List Clause) (c : Clause) → AllByRecursion P cs → P c → AllByRecursion P (cs ++ c ∷ [])
all_more P [] c are is = (is, tt)
all_more P (d ∷ cs) c are is = (are.0, all_more P cs c are.1 is)
