-- How the parts of a text that is put compose.
use Rattle.std.proofs.Common.{◌≡◌, ℕ, suc, ◌+◌, ◌<◌, ◌≤◌, min, ◌⊎◌, inl, inr, Bool, List, [], ◌∷◌, ◌++◌, Option, Some, map, length, take, drop, get_or, refl, sym, ◌∙◌, ap, ap₂, subst, arith, add-one, drop-cons, length-drop, append_assoc, append-nil}
use Rattle.std.specs.Prelude.{Result, Ok, Err, slice_get}
use Rattle.std.specs.List.{flat_map}
use Rattle.std.proofs.lemmas.Bool.{cases_lt}
use Rattle.std.proofs.lemmas.List.{take_more}
use Rattle.sat_base.specs.Derivation.{Step}
use Rattle.evidence_rec.specs.declared.record.Record.{Record}
use Rattle.evidence_rec.specs.declared.record.Refutation.{Refutation}
use Rattle.evidence_rec.specs.Shorten.{least_serving, naming, shortened_refutations, shortened, shortened_behind}
use Rattle.evidence_text.specs.Text.{line_text, text_of, step_line, witness_line, record_text, refutation_lines, refutations_lines, witnesses_lines}
use Rattle.evidence_text.specs.declared.line_sink.PutError.{PutError}
use Rattle.evidence_text.specs.declared.line_sink.PutError.TheVariants as put_error
use Rattle.evidence_text.specs.Putting.{IsPut, IsCut, Puts, AddsUp}
use Rattle.evidence_text.proofs.TextLemmas.{drop-get, drop-number, text_of-append, witnesses-over}

-- ---- one part behind another

pub put-then : {Took Later Both : List ℕ → Type 0} → ((x y : List ℕ) → Took x → Later y → Both (x ++ y)) → (a b c s t : List ℕ) → IsPut Took a b s → IsPut Later b c t → IsPut Both a c (s ++ t)
put-then adds a b c s t p q = record {
  taken = p.taken ++ q.taken;
  parts =
      append_assoc p.taken q.taken c ∙ ap (λ x. p.taken ++ x) q.parts ∙ sym (append_assoc p.taken b t) ∙ ap (λ x. x ++ t) p.parts
      ∙ append_assoc a s t;
  took = adds p.taken q.taken p.took q.took;
}

pub put-cut : {Took Later Both : List ℕ → Type 0} → ((x y : List ℕ) → Took x → Later y → Both (x ++ y)) → (a b s t : List ℕ) → IsPut Took a b s → IsCut Later b t → IsCut Both a (s ++ t)
put-cut adds a b s t p q = record {
  taken = p.taken ++ q.taken;
  left = q.left;
  parts =
      sym (append_assoc a s t) ∙ ap (λ x. x ++ t) (sym p.parts) ∙ append_assoc p.taken b t ∙ ap (λ x. p.taken ++ x) q.parts
      ∙ sym (append_assoc p.taken q.taken q.left);
  took = adds p.taken q.taken p.took q.took;
}

-- what is cut off is cut off of more
cut-more : {Took : List ℕ → Type 0} (a s t : List ℕ) → IsCut Took a s → IsCut Took a (s ++ t)
cut-more a s t h = record {
  taken = h.taken;
  left = h.left ++ t;
  parts = sym (append_assoc a s t) ∙ ap (λ x. x ++ t) h.parts ∙ append_assoc h.taken h.left t;
  took = h.took;
}

-- nothing was put, where nothing was taken
put-nothing : {Took : List ℕ → Type 0} (a : List ℕ) → Took [] → IsPut Took a a []
put-nothing a none = record { taken = []; parts = sym (append-nil a); took = none }

-- ---- answers of a sink

-- a part, and then an answer about the next one
pub puts-then : {S E : Type 0} {took : S → S → List ℕ → Type 0} {stopped : S → S → E → List ℕ → Type 0} → AddsUp took stopped
    → (old mid new : S) (a b c s t whole : List ℕ) (r : Result (Unit {0}) (PutError E)) → s ++ t ≡ whole
    → IsPut (took old mid) a b s → Puts (took mid new) (stopped mid new) b c t r → Puts (took old new) (stopped old new) a c whole r
puts-then {took = took} sums old mid new a b c s t whole (Ok done) is p q = subst (IsPut (took old new) a c) is (put-then (sums.more old mid new) a b c s t p q)
puts-then {took = took} sums old mid new a b c s t whole (Err put_error.Memory) is p q = subst (IsCut (took old new) a) is (put-cut (sums.more old mid new) a b s t p q)
puts-then {stopped = stopped} sums old mid new a b c s t whole (Err (put_error.Sink why)) is p q = subst (IsCut (stopped old new why) a) is (put-cut (sums.last old mid new why) a b s t p q)

-- what is cut off of a front part
pub puts-part : {E : Type 0} (Took : List ℕ → Type 0) (Stopped : E → List ℕ → Type 0) (a b s t whole : List ℕ) (e : PutError E) → s ++ t ≡ whole
    → Puts Took Stopped a b s (Err e) → Puts Took Stopped a b whole (Err e)
puts-part Took Stopped a b s t whole put_error.Memory is h = subst (IsCut Took a) is (cut-more a s t h)
puts-part Took Stopped a b s t whole (put_error.Sink why) is h = subst (IsCut (Stopped why) a) is (cut-more a s t h)

-- a part, and then one that is cut off, of more
pub puts-cut : {S E : Type 0} {took : S → S → List ℕ → Type 0} {stopped : S → S → E → List ℕ → Type 0} → AddsUp took stopped
    → (old mid new : S) (a b c s t left whole : List ℕ) (e : PutError E) → (s ++ t) ++ left ≡ whole
    → IsPut (took old mid) a b s → Puts (took mid new) (stopped mid new) b c t (Err e) → Puts (took old new) (stopped old new) a c whole (Err e)
puts-cut {took = took} {stopped = stopped} sums old mid new a b c s t left whole e is p q =
    puts-part (took old new) (stopped old new) a c (s ++ t) left whole e is (puts-then sums old mid new a b c s t (s ++ t) (Err e) refl p q)

-- ---- a text that is put in parts

-- a front part of the text was put, and this is left of it
pub record IsPutUpTo (Took : List ℕ → Type 0) (before after whole rest : List ℕ) : Type 0 where
  pub done : List ℕ
  pub splits : done ++ rest ≡ whole
  pub put : IsPut Took before after done

pub up_to-begin : {Took : List ℕ → Type 0} (a whole : List ℕ) → Took [] → IsPutUpTo Took a a whole whole
up_to-begin a whole none = record { done = []; splits = refl; put = put-nothing a none }

pub up_to-more : {S E : Type 0} {took : S → S → List ℕ → Type 0} {stopped : S → S → E → List ℕ → Type 0} → AddsUp took stopped
    → (old mid new : S) (a b c s whole rest left : List ℕ) → rest ≡ s ++ left
    → IsPutUpTo (took old mid) a b whole rest → IsPut (took mid new) b c s → IsPutUpTo (took old new) a c whole left
up_to-more sums old mid new a b c s whole rest left is h p = record {
  done = h.done ++ s;
  splits = append_assoc h.done s left ∙ ap (λ x. h.done ++ x) (sym is) ∙ h.splits;
  put = put-then (sums.more old mid new) a b c h.done s h.put p;
}

pub up_to-cut : {S E : Type 0} {took : S → S → List ℕ → Type 0} {stopped : S → S → E → List ℕ → Type 0} → AddsUp took stopped
    → (old mid new : S) (a b c s whole rest left : List ℕ) (e : PutError E) → rest ≡ s ++ left
    → IsPutUpTo (took old mid) a b whole rest → Puts (took mid new) (stopped mid new) b c s (Err e) → Puts (took old new) (stopped old new) a c whole (Err e)
up_to-cut {took = took} {stopped = stopped} sums old mid new a b c s whole rest left e is h p =
    puts-cut sums old mid new a b c h.done s left whole e (append_assoc h.done s left ∙ ap (λ x. h.done ++ x) (sym is) ∙ h.splits) h.put p

pub up_to-end : {Took : List ℕ → Type 0} (a b whole rest : List ℕ) → rest ≡ [] → IsPutUpTo Took a b whole rest → IsPut Took a b whole
up_to-end {Took = Took} a b whole rest none h =
    subst (IsPut Took a b) (sym (append-nil h.done) ∙ ap (λ x. h.done ++ x) (sym none) ∙ h.splits) h.put

-- ---- single lines

-- a line was finished behind what waits, and the sink may have taken some of it
pub put-finished : {Took : List ℕ → Type 0} (a b mid line : List ℕ) → mid ≡ a ++ line → IsPut Took mid b [] → IsPut Took a b line
put-finished a b mid line is p = record { taken = p.taken; parts = p.parts ∙ append-nil mid ∙ is; took = p.took }

pub cut-finished : {Took : List ℕ → Type 0} (a mid line : List ℕ) → mid ≡ a ++ line → IsCut Took mid [] → IsCut Took a line
cut-finished a mid line is p = record { taken = p.taken; left = p.left; parts = sym is ∙ sym (append-nil mid) ∙ p.parts; took = p.took }

-- no memory for a line, before anything is taken
pub cut_nothing : {Took : List ℕ → Type 0} (a line : List ℕ) → Took [] → IsCut Took a line
cut_nothing a line none = record { taken = []; left = a ++ line; parts = refl; took = none }

-- ---- what is left of the lines of a list

none-left : {X : Type 0} (xs : List X) (i : ℕ) → length xs ≤ i → drop i xs ≡ []
none-left {X = X} xs i le = by (drop i xs) refl
  where
    by : (ys : List X) → drop i xs ≡ ys → drop i xs ≡ []
    by [] is = is
    by (y ∷ ys) is = absurd (let left = length-drop i xs in let some = ap length is in omega arith)

pub steps-left : (steps : List Step) (i : ℕ) (s : Step) → slice_get steps i ≡ Some s
    → text_of (map step_line (drop i steps)) ≡ line_text (step_line s) ++ text_of (map step_line (drop (i + 1) steps))
steps-left steps i s here = ap (λ ss. text_of (map step_line ss)) (drop-get steps i s here)

pub steps-none : (steps : List Step) (i : ℕ) → length steps ≤ i → text_of (map step_line (drop i steps)) ≡ []
steps-none steps i le = ap (λ ss. text_of (map step_line ss)) (none-left steps i le)

-- the record at a place is the first of those from there on
pub drop-record : (records : List Record) (i : ℕ) (r : Record) → i < length records → get_or records i r ≡ r → drop i records ≡ r ∷ drop (i + 1) records
drop-record records i r lt here = rw (add-one, drop-cons records i r) (ap (λ y. y ∷ drop (suc i) records) here)

pub take-record : (records : List Record) (i : ℕ) (r : Record) → i < length records → get_or records i r ≡ r → take (i + 1) records ≡ take i records ++ r ∷ []
take-record records i r lt here = take_more records i r lt ∙ ap (λ y. take i records ++ y ∷ []) here

-- those from a place on, each behind all before it
pub records-left : (records : List Record) (i : ℕ) (r : Record) → i < length records → get_or records i r ≡ r
    → flat_map record_text (shortened_behind (take i records) (drop i records))
    ≡ record_text (shortened (take i records) r) ++ flat_map record_text (shortened_behind (take (i + 1) records) (drop (i + 1) records))
records-left records i r lt here =
    ap (λ rs. flat_map record_text (shortened_behind (take i records) rs)) (drop-record records i r lt here)
    ∙ ap (λ e. record_text (shortened (take i records) r) ++ flat_map record_text (shortened_behind e (drop (i + 1) records))) (sym (take-record records i r lt here))

pub records-none : (records : List Record) (i : ℕ) → length records ≤ i → flat_map record_text (shortened_behind (take i records) (drop i records)) ≡ []
records-none records i le = ap (λ rs. flat_map record_text (shortened_behind (take i records) rs)) (none-left records i le)

pub witnesses-left : (groups : List ℕ) (ws : List (List Bool)) (i : ℕ) (w : List Bool) → i < length groups → slice_get ws i ≡ Some w
    → text_of (witnesses_lines (drop i groups) (drop i ws))
    ≡ line_text (witness_line (get_or groups i 0) w) ++ text_of (witnesses_lines (drop (i + 1) groups) (drop (i + 1) ws))
witnesses-left groups ws i w h here =
    ap (λ gs. text_of (witnesses_lines gs (drop i ws))) (drop-number groups i h)
    ∙ ap (λ vs. text_of (witnesses_lines (get_or groups i 0 ∷ drop (i + 1) groups) vs)) (drop-get ws i w here)

pub witnesses-none : (groups : List ℕ) (ws : List (List Bool)) (i : ℕ) → min (length groups) (length ws) ≤ i
    → text_of (witnesses_lines (drop i groups) (drop i ws)) ≡ []
witnesses-none groups ws i h = sym (witnesses-over [] (text_of (witnesses_lines (drop i groups) (drop i ws))) groups ws i h refl)

-- the refutations from a place on, each as it is put
left-of_set : (earlier : List Record) (set : List ℕ) (rs : List Refutation) (i : ℕ) (r : Refutation) → i < length set → slice_get rs i ≡ Some r
    → text_of (refutations_lines (drop i set) (shortened_refutations earlier set (drop i set) (drop i rs)))
    ≡ text_of (refutation_lines (get_or set i 0) (naming (least_serving earlier set (get_or set i 0)) r))
    ++ text_of (refutations_lines (drop (i + 1) set) (shortened_refutations earlier set (drop (i + 1) set) (drop (i + 1) rs)))
left-of_set earlier set rs i r h here =
    let g : ℕ = get_or set i 0 in
    let gs : List ℕ = drop (i + 1) set in
    let qs : List Refutation = drop (i + 1) rs in
    ap (λ ks. text_of (refutations_lines ks (shortened_refutations earlier set ks (drop i rs)))) (drop-number set i h)
    ∙ ap (λ vs. text_of (refutations_lines (g ∷ gs) (shortened_refutations earlier set (g ∷ gs) vs))) (drop-get rs i r here)
    ∙ text_of-append (refutation_lines g (naming (least_serving earlier set g) r)) (refutations_lines gs (shortened_refutations earlier set gs qs))

-- where the groups were lent, and the number was found
pub refutations-left : (earlier : List Record) (set groups : List ℕ) (rs : List Refutation) (i : ℕ) (r : Refutation) (least : Option ℕ) → groups ≡ set → i < length groups
    → slice_get rs i ≡ Some r → least ≡ least_serving earlier set (get_or groups i 0)
    → text_of (refutations_lines (drop i set) (shortened_refutations earlier set (drop i set) (drop i rs)))
    ≡ text_of (refutation_lines (get_or groups i 0) (naming least r))
    ++ text_of (refutations_lines (drop (i + 1) set) (shortened_refutations earlier set (drop (i + 1) set) (drop (i + 1) rs)))
refutations-left earlier set groups rs i r least same h here is =
    left-of_set earlier set rs i r (subst (λ gs. i < length gs) same h) here
    ∙ ap₂
    (λ g o. text_of (refutation_lines g (naming o r)) ++ text_of (refutations_lines (drop (i + 1) set) (shortened_refutations earlier set (drop (i + 1) set) (drop (i + 1) rs))))
    (sym (ap (λ gs. get_or gs i 0) same)) (sym (is ∙ ap (λ gs. least_serving earlier set (get_or gs i 0)) same))

no_refutations : (earlier : List Record) (set gs : List ℕ) (rs : List Refutation) → (length gs ≡ 0) ⊎ (length rs ≡ 0)
    → refutations_lines gs (shortened_refutations earlier set gs rs) ≡ []
no_refutations earlier set [] rs h = refl
no_refutations earlier set (g ∷ gs) [] h = refl
no_refutations earlier set (g ∷ gs) (r ∷ rs) (inl h) = absurd (omega (arith, h))
no_refutations earlier set (g ∷ gs) (r ∷ rs) (inr h) = absurd (omega (arith, h))

pub refutations-none : (earlier : List Record) (set : List ℕ) (rs : List Refutation) (i : ℕ) → min (length set) (length rs) ≤ i
    → text_of (refutations_lines (drop i set) (shortened_refutations earlier set (drop i set) (drop i rs))) ≡ []
refutations-none earlier set rs i h = ap text_of (no_refutations earlier set (drop i set) (drop i rs) none)
  where
    none : (length (drop i set) ≡ 0) ⊎ (length (drop i rs) ≡ 0)
    none = elim (cases_lt i (length set)) [
      | inl lt ↦ inr (omega (arith, length-drop i rs, lt, h))
      | inr le ↦ inl (omega (arith, length-drop i set, le))
    ]

-- ---- whole texts

pub parts-of_three : (a b c : List ℕ) → (a ++ b) ++ c ≡ a ++ b ++ c
parts-of_three a b c = simp append_assoc
