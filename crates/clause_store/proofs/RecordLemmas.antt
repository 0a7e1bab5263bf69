-- What an added clause changes in the list of the clauses, and that all of them are over the variables.
use Rattle.std.proofs.Common.{suc, refl, sym, ap, ap₂, ◌∙◌, arith, subst, inl, inr, drop, length-drop, length-set, set, ◌≡◌, ℕ, ℤ, ◌+◌, ◌-◌, Bool, false, List, [], ◌∷◌, ◌++◌, length, length-append, map, get_or, All, slice_range}
use Rattle.std.proofs.lemmas.List.{map_push, length-take-le}
use Rattle.std.proofs.lemmas.List.Elements.{All-drop, All-take, All-set}
use Rattle.std.proofs.Math.Seq.{map-set_same}
use Rattle.std.specs.List.{AllByRecursion}
use Rattle.sat_base.proofs.SpanLemmas.{range_before, range_at_end}
use Rattle.sat_base.specs.Literals.{IsLiteral, AreLiterals}
use Rattle.sat_base.specs.Database.{StoredClause, AreOver}
use Rattle.sat_base.specs.Forgotten.{not_live}
use Rattle.std.specs.Vec.{with_item}
use Rattle.clause_store.specs.Inner.{cut_by, IsWithin, HasMix, IsLaidOut}
use Rattle.clause_store.specs.Shapes.{literals_in, is_live}
use Rattle.clause_store.specs.declared.store.Store.TheInside.{Inside}
use Rattle.clause_store.specs.Thirds.{mix_of}
use Rattle.clause_store.specs.Words.{AreSets}
use Rattle.clause_store.specs.declared.store.ClauseRecord.{ClauseRecord}

-- a record that begins where another does, with as many literals, cuts the same
pub cuts_same : (ls : List ℤ) (y r : ClauseRecord) → y.start ≡ r.start → literals_in y.shape ≡ literals_in r.shape → (cut_by ls y).lits ≡ (cut_by ls r).lits
cuts_same ls y r start long = ap₂ (λ (s n : ℕ). slice_range ls s (s + n)) start long

-- and it is the same clause, where both are live or both are not
pub cut_same : (ls : List ℤ) (y r : ClauseRecord) → y.start ≡ r.start → literals_in y.shape ≡ literals_in r.shape → is_live y.shape ≡ is_live r.shape → cut_by ls y ≡ cut_by ls r
cut_same ls y r start long live = ap₂ (λ (cut : List ℤ) (b : Bool). record { lits = cut; live = b }) (cuts_same ls y r start long) live

-- and one that is not live is the other made not live
pub dead_cut : (ls : List ℤ) (y r : ClauseRecord) → y.start ≡ r.start → literals_in y.shape ≡ literals_in r.shape → is_live y.shape ≡ false → cut_by ls y ≡ not_live (cut_by ls r)
dead_cut ls y r start long dead = ap₂ (λ (cut : List ℤ) (b : Bool). record { lits = cut; live = b }) (cuts_same ls y r start long) dead

-- and has the same literals in its number
pub mix_same : (ls : List ℤ) (y r : ClauseRecord) → y.start ≡ r.start → literals_in y.shape ≡ literals_in r.shape → y.third ≡ r.third → HasMix ls r → HasMix ls y
mix_same ls y r start long third mixed =
    let same = cuts_same ls y r start long in
    λ three. third ∙ mixed (ap length (sym same) ∙ three) ∙ ap mix_of (sym same)

-- a record within the old literals cuts the same from the longer list
cut_before : (vars last : ℕ) (ls ms : List ℤ) (r : ClauseRecord) → IsWithin vars (length ls) last r → cut_by (ls ++ ms) r ≡ cut_by ls r
cut_before vars last ls ms r w =
    ap (λ (cut : List ℤ). record { lits = cut; live = is_live r.shape }) (range_before ls ms r.start (r.start + literals_in r.shape) (omega arith) w.within)

-- so the clauses that were there stay
pub lits_before : (vars last : ℕ) (ls ms : List ℤ) (records : List ClauseRecord) → All (IsWithin vars (length ls) last) records
    → map (λ r. (cut_by (ls ++ ms) r).lits) records ≡ map (λ r. (cut_by ls r).lits) records
lits_before vars last ls ms [] w = refl
lits_before vars last ls ms (r ∷ records) w =
    ap₂ ◌∷◌ (range_before ls ms r.start (r.start + literals_in r.shape) (omega arith) (w 0 r (omega arith)).within) (lits_before vars last ls ms records (λ k d h. w (suc k) d (omega arith)))

cuts_before : (vars last : ℕ) (ls ms : List ℤ) (records : List ClauseRecord) → All (IsWithin vars (length ls) last) records → map (cut_by (ls ++ ms)) records ≡ map (cut_by ls) records
cuts_before vars last ls ms [] w = refl
cuts_before vars last ls ms (r ∷ records) w =
    ap₂ ◌∷◌ (cut_before vars last ls ms r (w 0 r (omega arith))) (cuts_before vars last ls ms records (λ k d h. w (suc k) d (omega arith)))

-- and so do the numbers of clauses of three
pub mixes_before : (vars last : ℕ) (ls ms : List ℤ) (records : List ClauseRecord) → All (IsWithin vars (length ls) last) records → All (HasMix ls) records → All (HasMix (ls ++ ms)) records
mixes_before vars last ls ms records w mixed k d h =
    subst (λ (c : StoredClause). length c.lits ≡ 3 → (get_or records k d).third ≡ mix_of c.lits) (sym (cut_before vars last ls ms (get_or records k d) (w k d h))) (mixed k d h)

-- what was added stands at the end
pub cut_at_end : (ls ms : List ℤ) (start long : ℕ) → start ≡ length ls → long ≡ length ms → slice_range (ls ++ ms) start (start + long) ≡ ms
cut_at_end ls ms start long starts is =
    ap (λ (s : ℕ). slice_range (ls ++ ms) s (s + long)) starts ∙ range_at_end ls ms (length ls + long) (omega (arith, is, length-append ls ms))

-- and the record of what was added cuts just that
pub cuts_after_add : (vars last : ℕ) (ls ms : List ℤ) (records : List ClauseRecord) (r : ClauseRecord) (live : Bool)
    → All (IsWithin vars (length ls) last) records → r.start ≡ length ls → literals_in r.shape ≡ length ms → is_live r.shape ≡ live
    → map (cut_by (ls ++ ms)) (records ++ r ∷ []) ≡ map (cut_by ls) records ++ record { lits = ms; live = live } ∷ []
cuts_after_add vars last ls ms records r live w starts long is =
    map_push (cut_by (ls ++ ms)) records r
    ∙ ap₂ (λ (xs : List StoredClause) (cut : List ℤ). xs ++ record { lits = cut; live = is_live r.shape } ∷ []) (cuts_before vars last ls ms records w) (cut_at_end ls ms r.start (literals_in r.shape) starts long)
    ∙ ap (λ (b : Bool). map (cut_by ls) records ++ record { lits = ms; live = b } ∷ []) is

pub by_recursion : {X : Type 0} (P : X → Type 0) (xs : List X) → All P xs → AllByRecursion P xs
by_recursion P [] h = tt
by_recursion P (x ∷ xs) h = (h 0 x (omega arith), by_recursion P xs (λ k d lt. h (suc k) d (omega arith)))

-- what is cut from literals over the variables is over them
pub over_cut : (vars : ℕ) (lits : List ℤ) (start end : ℕ) → All (IsLiteral vars) lits → AreLiterals vars (slice_range lits start end)
over_cut vars lits start end h =
    by_recursion (IsLiteral vars) (slice_range lits start end)
    (All-take (IsLiteral vars) (end - start) (drop start lits) (All-drop (IsLiteral vars) start lits h))

pub over_all : (vars : ℕ) (lits : List ℤ) (records : List ClauseRecord) → All (IsLiteral vars) lits → AreOver vars (map (cut_by lits) records)
over_all vars lits [] h c i = absurd i
over_all vars lits (r ∷ records) h c (inl same) = subst (λ (d : StoredClause). AreLiterals vars d.lits) (sym same) (over_cut vars lits r.start (r.start + literals_in r.shape) h)
over_all vars lits (r ∷ records) h c (inr later) = over_all vars lits records h c later

-- what a record within the literals cuts is as long as it says
pub long_cut : (vars last : ℕ) (ls : List ℤ) (r : ClauseRecord) → IsWithin vars (length ls) last r → length (cut_by ls r).lits ≡ literals_in r.shape
long_cut vars last ls r w =
    let within = w.within in
    let long : r.start + literals_in r.shape - r.start ≡ literals_in r.shape = omega arith in
    length-take-le (r.start + literals_in r.shape - r.start) (drop r.start ls) (omega (arith, within, length-drop r.start ls)) ∙ long

-- one record is another that fits, and cuts the same literals
pub laid_set : (a : Inside) (i : ℕ) (y r : ClauseRecord) → IsLaidOut a → r ≡ get_or a.records.items i r → (cut_by a.lits.items y).lits ≡ (cut_by a.lits.items r).lits
    → IsWithin a.vars (length a.lits.items) (length a.records.items) y → HasMix a.lits.items y → IsLaidOut (record a { records = with_item a.records i y })
laid_set a i y r inv is same fits mixed =
    let records = a.records.items in
    let long : length (set records i y) ≡ length records = length-set records i y in
    record {
      small = inv.small;
      over = inv.over;
      within = subst (λ (n : ℕ). All (IsWithin a.vars (length a.lits.items) n) (set records i y)) (sym long) (All-set (IsWithin a.vars (length a.lits.items) (length records)) records i y fits inv.within);
      mixes = All-set (HasMix a.lits.items) records i y mixed inv.mixes;
      sets = subst (AreSets a.words.items) (sym (map-set_same (λ x. (cut_by a.lits.items x).lits) records i y r (same ∙ ap (λ x. (cut_by a.lits.items x).lits) is))) inv.sets;
      counted = inv.counted;
      a_head_each = inv.a_head_each;
      a_tail_each = inv.a_tail_each;
      a_park_each = inv.a_park_each;
      heads = rw long inv.heads;
      tails = rw long inv.tails;
      parks = rw long inv.parks;
    }
