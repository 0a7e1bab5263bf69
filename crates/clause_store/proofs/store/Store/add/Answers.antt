use Rattle.std.proofs.Common.{◌≡◌, ◌≤◌, ◌<◌, ◌+◌, ◌∙◌, ◌++◌, ◌∷◌, [], ◌/◌, ◌%◌, ℕ, ℤ, zero, suc, get_or, List, All, length, length-append, ap, ap₂, map, subst, sym, arith, refl}
use Rattle.std.proofs.lemmas.Bool.{false≢true}
use Rattle.std.proofs.lemmas.List.{length_push, length-map, map_push}
use Rattle.std.proofs.lemmas.List.Elements.{All-push, All-append}
use Rattle.sat_base.specs.Literals.{IsLiteral, AreLiterals}
use Rattle.clause_store.specs.Clauses.{Clauses}
use Rattle.clause_store.specs.declared.store.ClauseRecord.{ClauseRecord}
use Rattle.clause_store.specs.Inner.{cut_by, watched_by, IsWithin, HasMix}
use Rattle.clause_store.specs.Shapes.{literals_in}
use Rattle.clause_store.specs.Thirds.{mix_of}
use Rattle.clause_store.proofs.RecordLemmas.{cut_at_end, cuts_after_add, mixes_before, lits_before}
use Rattle.clause_store.specs.Words.{AreSets}
use Rattle.clause_store.proofs.SetLemmas.{sets_keep_up}
use Rattle.clause_store.proofs.NodeLemmas.{unwatched_if, watches-push, nexts-push, within-more, all-more, from_recursion}
use Rattle.clause_store.proofs.store.Store.add.Goals as goal

-- the record of the new clause cuts just its literals, and all others what they cut before
pub returns-clause-added : goal.returns-clause-added
returns-clause-added c =
    let a = c.self.inside in
    let starts : c.len-start.result ≡ length a.lits.items = grind arith in
    let longer : c.add_lits.new.lits.items ≡ a.lits.items ++ c.args.lits.now = c.in_ok-add_lits.ensures.lits in
    let same : c.add_lits.new.records.items ≡ a.records.items = c.in_ok-add_lits.ensures.records in
    let y : ClauseRecord = record { start = c.len-start.result; watched = c.new_record.result.watched; next = 0 ∷ 0 ∷ []; third = c.new_record.result.third; shape = c.new_record.result.shape } in
    rw (← c.self.view_is, c.push_reserved.ensures.items, c.new_record.ensures.rest, same, longer) (cuts_after_add a.vars (length a.records.items) a.lits.items c.args.lits.now a.records.items y c.args.live c.self.invariant.within starts c.new_record.ensures.literals c.new_record.ensures.live)

-- it is not watched
pub returns-clause-links : goal.returns-clause-links
returns-clause-links c =
    let a = c.self.inside in
    let same : c.add_lits.new.records.items ≡ a.records.items = c.in_ok-add_lits.ensures.records in
    let y : ClauseRecord = record { start = c.len-start.result; watched = c.new_record.result.watched; next = 0 ∷ 0 ∷ []; third = c.new_record.result.third; shape = c.new_record.result.shape } in
    rw (← c.self.view_is, c.push_reserved.ensures.items, c.new_record.ensures.rest, same) (record {
      watched = λ id. watches-push a.records.items watched_by y (unwatched_if y c.new_record.ensures.unwatched) id;
      nexts = λ node. nexts-push a.records.items (λ r. r.next) y refl (node / 2) (node % 2);
      heads = refl;
      tails = refl;
      parks = refl;
      false_id = refl;
    })

-- all records are within what has grown
pub invariant_of-self-2 : goal.invariant_of-self-2
invariant_of-self-2 c =
    let a = c.self.inside in
    let inv = c.self.invariant in
    let starts : c.len-start.result ≡ length a.lits.items = grind arith in
    let longer : c.add_lits.new.lits.items ≡ a.lits.items ++ c.args.lits.now = c.in_ok-add_lits.ensures.lits in
    let over_args : AreLiterals a.vars c.args.lits.now = subst (λ (s : Clauses). AreLiterals s.vars c.args.lits.now) (sym c.self.view_is) c.requires in
    let lits_more : length a.lits.items ≤ length c.add_lits.new.lits.items = omega (arith, ap length longer, length-append a.lits.items c.args.lits.now) in
    let y : ClauseRecord = record { start = c.len-start.result; watched = c.new_record.result.watched; next = 0 ∷ 0 ∷ []; third = c.new_record.result.third; shape = c.new_record.result.shape } in
    let items : c.push_reserved.new.self.items ≡ a.records.items ++ y ∷ [] = c.push_reserved.ensures.items ∙ ap₂ (λ (rs : List ClauseRecord) (r : ClauseRecord). rs ++ r ∷ []) c.in_ok-add_lits.ensures.records c.new_record.ensures.rest in
    let more : length c.push_reserved.new.self.items ≡ length a.records.items + 1 = ap length items ∙ length_push a.records.items y in
    let cut : (cut_by c.add_lits.new.lits.items y).lits ≡ c.args.lits.now = ap (λ (ls : List ℤ). (cut_by ls y).lits) longer ∙ cut_at_end a.lits.items c.args.lits.now c.len-start.result (literals_in y.shape) starts c.new_record.ensures.literals in
    let P = IsWithin a.vars (length c.add_lits.new.lits.items) (length c.push_reserved.new.self.items) in
    let fits : P y = record {
      within = omega (arith, starts, c.new_record.ensures.literals, ap length longer, length-append a.lits.items c.args.lits.now);
      watched = λ is. absurd (false≢true (sym c.new_record.ensures.unwatched ∙ is));
      next = λ k d h. no_more k d h (length c.push_reserved.new.self.items);
      two_watched = c.new_record.ensures.two;
      two_next = refl;
    } in
    let old : All P a.records.items = all-more (IsWithin a.vars (length a.lits.items) (length a.records.items)) P a.records.items
    (λ r w. within-more a.vars (length a.lits.items) (length a.records.items) (length c.add_lits.new.lits.items) (length c.push_reserved.new.self.items) r lits_more (omega (arith, more)) w) inv.within
    in
    let counted : c.len.result ≡ length a.records.items = grind arith in
    let literals : map (λ r. (cut_by c.add_lits.new.lits.items r).lits) c.push_reserved.new.self.items ≡ map (λ r. (cut_by a.lits.items r).lits) a.records.items ++ c.args.lits.now ∷ [] =
    ap (map (λ r. (cut_by c.add_lits.new.lits.items r).lits)) items
    ∙ map_push (λ r. (cut_by c.add_lits.new.lits.items r).lits) a.records.items y
    ∙ ap₂ (λ (ls : List (List ℤ)) (l : List ℤ). ls ++ l ∷ []) (ap (λ (ls : List ℤ). map (λ r. (cut_by ls r).lits) a.records.items) longer ∙ lits_before a.vars (length a.records.items) a.lits.items c.args.lits.now a.records.items inv.within) cut
    in
    record {
      small = inv.small;
      over = subst (λ (ls : List ℤ). All (IsLiteral a.vars) ls) (sym longer) (All-append (IsLiteral a.vars) a.lits.items c.args.lits.now inv.over (from_recursion (IsLiteral a.vars) c.args.lits.now over_args));
      within = subst (λ (rs : List ClauseRecord). All P rs) (sym items) (All-push P a.records.items y old fits);
      mixes = subst (λ (rs : List ClauseRecord). All (HasMix c.add_lits.new.lits.items) rs) (sym items) (All-push (HasMix c.add_lits.new.lits.items) a.records.items y
          (subst (λ (ls : List ℤ). All (HasMix ls) a.records.items) (sym longer) (mixes_before a.vars (length a.records.items) a.lits.items c.args.lits.now a.records.items inv.within inv.mixes))
          (λ is. c.new_record.ensures.third (ap length (sym cut) ∙ is) ∙ ap mix_of (sym cut)));
      sets = subst (λ (ls : List (List ℤ)). AreSets c.keep_words.new.words.items ls) (sym literals)
          (sets_keep_up a.words.items c.keep_words.new.words.items (map (λ r. (cut_by a.lits.items r).lits) a.records.items) c.args.lits.now c.len.result inv.sets
          (omega (arith, counted, length-map a.records.items (λ r. (cut_by a.lits.items r).lits))) c.keep_words.ensures);
      counted = grind (arith, starts, more);
      a_head_each = inv.a_head_each;
      a_tail_each = inv.a_tail_each;
      a_park_each = inv.a_park_each;
      heads = all-more (λ id. id ≤ length a.records.items) (λ id. id ≤ length c.push_reserved.new.self.items) a.heads.items (λ id h. omega (arith, h, more)) inv.heads;
      tails = all-more (λ id. id ≤ length a.records.items) (λ id. id ≤ length c.push_reserved.new.self.items) a.tails.items (λ id h. omega (arith, h, more)) inv.tails;
      parks = all-more (λ id. id ≤ length a.records.items) (λ id. id ≤ length c.push_reserved.new.self.items) a.parks.items (λ id h. omega (arith, h, more)) inv.parks;
    }
  where
    no_more : (k d : ℕ) → k < 2 → (n : ℕ) → get_or (0 ∷ 0 ∷ []) k d ≤ n
    no_more zero d h n = omega arith
    no_more (suc zero) d h n = omega arith
    no_more (suc (suc k)) d h n = absurd (omega (arith, h))
