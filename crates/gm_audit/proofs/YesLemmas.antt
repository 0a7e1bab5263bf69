-- Nothing is refused exactly where a text shows what it says.
use Rattle.std.proofs.Common.{◌≡◌, ◌↔◌, ◌⊎◌, ℕ, zero, suc, ◌+◌, ◌^◌, ◌<◌, ◌≤◌, Bool, true, false, List, [], ◌∷◌, ◌++◌, map, length, Option, Some, None, refl, sym, ◌∙◌, ap, subst, inl, inr, arith, cond, append_assoc, append-nil, length-append}
use Rattle.std.specs.Prelude.{ℤ, IfSome, is_some, nat_lt, if◌then◌else◌, Result, Ok, Err}
use Rattle.std.specs.List.{AllByRecursion, flat_map, list_all}
use Rattle.std.specs.Option.{option_map_or, option_or}
use Rattle.std.proofs.lemmas.Bool.{false≢true, cases_Bool, and_parts, le-ltb, ltb-false}
use Rattle.std.proofs.lemmas.List.Elements.{All-from_recursion}
use Rattle.sat_base.specs.Derivation.{Derivation, numbered, clause_of, all_known, is_nil, steps_follow, is_derivation, HasIds, max_id}
use Rattle.gm_base.specs.Sets.{IsGroupSet}
use Rattle.gm_base.specs.Problem.{Problem}
use Rattle.gm_base.specs.Explored.{Found, block_clause}
use Rattle.lrat_check.specs.declared.why.Why.{Why}
use Rattle.lrat_check.specs.declared.why.Why.TheVariants.{Truncated, TooLong, UnknownClause, NotRefuting, RepeatedSet}
use Rattle.lrat_check.proofs.KnownLemmas.{last_id-numbered}
use Rattle.evidence_rec.specs.declared.record.Record.{Record}
use Rattle.evidence_rec.specs.declared.record.Record.TheVariants.{Conflict, Correction}
use Rattle.evidence_rec.specs.Records.{kind_of, set_of, found_of, founds, IsShaped, IsAccepted, AllAcceptedBehind, AllAccepted}
use Rattle.evidence_rec.specs.Refusals.{at_line, steps_refusal, record_refusal}
use Rattle.evidence_rec.specs.Seeding.{shows_all_explored}
use Rattle.evidence_rec.specs.Held.{is_held, AreNew}
use Rattle.evidence_rec.specs.Shorten.{shorten}
use Rattle.evidence_rec.proofs.ShortenLemmas.{length-shorten, new-shorten, accepted-shorten}
use Rattle.evidence_rec.proofs.VerdictLemmas.{none-parts, or-goes, steps-none, accepts-from_none, none-from_accepts}
use Rattle.evidence_text.specs.declared.version.Version.{Version}
use Rattle.evidence_text.specs.declared.version.Version.TheVariants.{Two}
use Rattle.evidence_text.specs.declared.offence.Offence.{Offence}
use Rattle.evidence_text.specs.declared.answer.Answer.{Answer}
use Rattle.evidence_text.specs.declared.answer.Answer.TheVariants as answer
use Rattle.evidence_text.specs.Text.{Line, head_line, record_lines, end_lines, evidence_text}
use Rattle.evidence_text.specs.Lines.{lines_of, unended}
use Rattle.evidence_text.specs.Reading.{Below, head_at, piece_at, offence}
use Rattle.evidence_text.specs.Readable.{IsSmall, IsReadable, IsReadableEnd, HasRecordIds}
use Rattle.evidence_text.specs.Laws.{ReadsAll, IsRead, CanHold}
use Rattle.evidence_text.proofs.StandsLemmas.{piece-stands, head-stands}
use Rattle.evidence_text.proofs.AcceptedLemmas.{records-readable, closing-readable, ids-shorten, closes-shorten}
use Rattle.evidence_text.proofs.WholeLemmas.{text-is_read, texts-differ}
use Rattle.gm_audit.specs.Refusals.{Contents, with_record, contents_by, contents_at, in_text, placed_refusal, records_refusal, empty_refusal, closing_refusal, ending_refusal, kept_in, contents_refusal, text_refusal, max_bytes, first_refusal}
use Rattle.gm_audit.specs.Audits.{AuditYes}
use Rattle.gm_audit.specs.Inside.{HasForm}
use Rattle.gm_audit.proofs.BlocksLemmas.{closing-shows}
use Rattle.gm_audit.proofs.KeptLemmas.{in_text-none, within-form, form-readable}
use Rattle.gm_audit.proofs.TextLemmas.{evidence-from_lines}
use Rattle.gm_audit.proofs.ReadingLemmas.{Piece, placed, at-piece, at-none, at-zero, some-lines, record-passed, nothing-left}

-- where something closes records, it derives the empty clause from their block clauses
abbrev Closes : Problem → List Record → Option Derivation → Type 0
Closes p records closing = IfSome closing (λ d. shows_all_explored p.groups (founds records) d ≡ true)

-- ---- what is right is not refused

goal-of_empty : (o : Option (List ℤ)) → option_map_or (λ (c : List ℤ). list_all (λ l. false) c) o false ≡ true
    → option_map_or (λ (c : List ℤ). if is_nil c then None else Some NotRefuting) o (Some UnknownClause) ≡ None
goal-of_empty None h = absurd (false≢true h)
goal-of_empty (Some []) h = refl
goal-of_empty (Some (l ∷ ls)) h = absurd (false≢true h)

closing-none : (groups : ℕ) (found : List Found) (d : Derivation) → shows_all_explored groups found d ≡ true → closing_refusal groups found d ≡ None
closing-none groups found d h =
    let cs : List (List ℤ) = map block_clause found in
    let why : Option Why = empty_refusal (all_known cs d.steps) d.goal in
    let parts = and_parts (is_derivation groups cs d) (option_map_or (λ (c : List ℤ). list_all (λ l. false) c) (clause_of (all_known cs d.steps) d.goal) false) h in
    or-goes (steps_refusal groups (numbered 1 cs) 0 d.steps) (at_line (length d.steps) why)
    ((steps-none groups (numbered 1 cs) 0 d.steps).1
    (subst (λ n. steps_follow groups n (numbered 1 cs) d.steps ≡ true) (sym (last_id-numbered cs)) parts.0))
    ∙ ap (λ (w : Option Why). at_line (length d.steps) w) (goal-of_empty (clause_of (all_known cs d.steps) d.goal) parts.1)

placed-none : (p : Problem) (earlier : List Record) (line : ℕ) (r : Record) → HasForm p r → IsAccepted p earlier r
    → is_held earlier (kind_of r) (set_of r) ≡ false → placed_refusal p earlier (placed line r) ≡ None
placed-none p earlier line r form accepted new =
    ap (λ t. cond t (Some (offence line RepeatedSet)) (in_text line (record_refusal p earlier r))) new
    ∙ ap (λ (part : Option (ℕ × Why)). in_text line part) (none-from_accepts p earlier r form.shaped accepted.accepts)

ending-none : (p : Problem) (records : List Record) (line : ℕ) (closing : Option Derivation) → Closes p records closing
    → ending_refusal p records (Ok (line, closing)) ≡ None
ending-none p records line None closes = refl
ending-none p records line (Some d) closes = ap (λ (part : Option (ℕ × Why)). in_text line part) (closing-none p.groups (founds records) d closes)

-- a record takes a line at least
shorter : (version : Version) (p : Problem) (rest : List ℕ) (b next : Below) (r : Record) → p.vars + p.groups < 2 ^ 64 → piece_at version p rest b.at b.lines ≡ Ok (answer.Record r, next)
    → length next.lines < length b.lines
shorter version p rest b next r small e =
    let (good, lines) = piece-stands version p rest b.at b.lines (answer.Record r) next small e in
    let some = some-lines r in
    omega (arith, ap length lines, length-append (record_lines r) next.lines)

-- where no line is left, nothing is read
none-read : (version : Version) (p : Problem) (rest : List ℕ) (b : Below) (got : Answer × Below) → length b.lines ≤ 0 → piece_at version p rest b.at b.lines ≡ Ok got → ⊥
none-read version p rest b got le e = by b.lines le e
  where
    ok_err : {o : Offence} → Err o ≡ Ok got → ⊥
    ok_err h = cc

    by : (ls : List Line) → length ls ≤ 0 → piece_at version p rest b.at ls ≡ Ok got → ⊥
    by [] le e = ok_err (sym (at-none version p rest b.at) ∙ e)
    by (l ∷ ls) le e = omega arith

passes : (version : Version) (p : Problem) (rest : List ℕ) (m : ℕ) (b : Below) (earlier rs : List Record) (closing : Option Derivation) → p.vars + p.groups < 2 ^ 64
    → length b.lines ≤ m → ReadsAll version p rest b rs closing → AllByRecursion (IsReadable version p) rs → AllAcceptedBehind p earlier rs → AreNew earlier rs
    → Closes p (earlier ++ rs) closing → contents_refusal p earlier (contents_at m version p rest b) ≡ None
passes version p rest zero b earlier [] closing small le (last, e) readable accepted new closes = absurd (none-read version p rest b (answer.End closing, last) le e)
passes version p rest zero b earlier (r ∷ rs) closing small le (next, e, more) readable accepted new closes = absurd (none-read version p rest b (answer.Record r, next) le e)
passes version p rest (suc m) b earlier [] closing small le (last, e) readable accepted new closes =
    ap (contents_refusal p earlier) (at-piece m version p rest b (Ok (answer.End closing, last)) e) ∙ nothing-left p earlier (Ok (b.at, closing))
    ∙ ending-none p earlier b.at closing (subst (λ (qs : List Record). Closes p qs closing) (append-nil earlier) closes)
passes version p rest (suc m) b earlier (r ∷ rs) closing small le (next, e, more) readable accepted new closes =
    let fewer = shorter version p rest b next r small e in
    ap (contents_refusal p earlier) (at-piece m version p rest b (Ok (answer.Record r, next)) e)
    ∙ record-passed p earlier b.at r (contents_at m version p rest next) (placed-none p earlier b.at r (form-readable version p r readable.0) accepted.0 new.0)
    ∙ passes version p rest m next (earlier ++ r ∷ []) rs closing small (omega arith) more readable.1 accepted.1 new.1
    (subst (λ (qs : List Record). Closes p qs closing) (sym (append_assoc earlier (r ∷ []) rs)) closes)

within-limit : (p : Problem) (text : List ℕ) → length text ≤ max_bytes → first_refusal p text ≡ text_refusal p text (head_at p 1 (lines_of text))
within-limit p text le =
    ap (λ t. cond t (Some (offence 0 TooLong)) (text_refusal p text (head_at p 1 (lines_of text)))) (le-ltb max_bytes (length text) le)

hold-of : (p : Problem) (text : List ℕ) (records : List Record) (complete : Bool) → IsSmall p → (h : AuditYes p text records complete) → CanHold h.version p records h.closing
hold-of p text records complete small h = record { small = small; records = h.readable; closing = h.readable_end }

pub none-from_yes : (p : Problem) (text : List ℕ) (records : List Record) (complete : Bool) → IsSmall p → length text ≤ max_bytes
    → AuditYes p text records complete → first_refusal p text ≡ None
none-from_yes p text records complete small le h =
    let is : IsRead h.version p text records h.closing =
    subst (λ (t : List ℕ). IsRead h.version p t records h.closing) (sym h.text_is) (text-is_read h.version p records h.closing (hold-of p text records complete small h)) in
    within-limit p text le ∙ ap (text_refusal p text) is.1
    ∙ passes h.version p (unended text) (length (is.0).lines) is.0 [] records h.closing small.numbers (omega arith) is.2 h.readable h.accepted h.distinct h.closes

pub yes-is_one : (p : Problem) (text : List ℕ) (records others : List Record) (complete other : Bool) → IsSmall p
    → AuditYes p text records complete → AuditYes p text others other → (records ≡ others) × (complete ≡ other)
yes-is_one p text records others complete other small h k =
    let (_versions, same, ends) =
    texts-differ h.version k.version p records others h.closing k.closing (hold-of p text records complete small h) (hold-of p text others other small k)
    (sym h.text_is ∙ k.text_is) in
    (same, h.is_complete ∙ ap (λ (c : Option Derivation). is_some c) ends ∙ sym k.is_complete)

-- ---- what is not refused is right

-- records and an end that stand here, behind these earlier records
record Stands (version : Version) (p : Problem) (rest : List ℕ) (ls : List Line) (earlier : List Record) : Type 0 where
  records : List Record
  closing : Option Derivation
  lines : ls ≡ flat_map record_lines records ++ end_lines closing
  nothing : rest ≡ []
  readable : AllByRecursion (IsReadable version p) records
  readable_end : IsReadableEnd p closing
  accepted : AllAcceptedBehind p earlier records
  distinct : AreNew earlier records
  closes : Closes p (earlier ++ records) closing

some-none : {X : Type 0} (x : X) → Some x ≡ None → ⊥
some-none x e = cc

-- a record that is refused for nothing
passed-is : (p : Problem) (earlier : List Record) (line : ℕ) (r : Record) → HasForm p r → placed_refusal p earlier (placed line r) ≡ None
    → (is_held earlier (kind_of r) (set_of r) ≡ false) × IsAccepted p earlier r
passed-is p earlier line r form none = by (cases_Bool (is_held earlier (kind_of r) (set_of r)))
  where
    branch : (t : Bool) → is_held earlier (kind_of r) (set_of r) ≡ t → cond t (Some (offence line RepeatedSet)) (in_text line (record_refusal p earlier r)) ≡ None
    branch t is = ap (λ q. cond q (Some (offence line RepeatedSet)) (in_text line (record_refusal p earlier r))) (sym is) ∙ none

    by : (is_held earlier (kind_of r) (set_of r) ≡ true) ⊎ (is_held earlier (kind_of r) (set_of r) ≡ false)
        → (is_held earlier (kind_of r) (set_of r) ≡ false) × IsAccepted p earlier r
    by (inl held) = absurd (some-none (offence line RepeatedSet) (branch true held))
    by (inr new) = (
      new,
      record {
        within = within-form p r form;
        accepts = accepts-from_none p earlier r form.shaped form.set.ascends (in_text-none line (record_refusal p earlier r) (branch false new));
      },
    )

-- nothing of what stands here is refused, so neither is its first record
first-passed : (p : Problem) (earlier : List Record) (line : ℕ) (r : Record) (c : Contents) → contents_refusal p earlier (with_record line r c) ≡ None
    → placed_refusal p earlier (placed line r) ≡ None
first-passed p earlier line r c none =
    let behind = records_refusal p (earlier ++ r ∷ []) c.records in
    let parts = none-parts (option_or (placed_refusal p earlier (placed line r)) behind) (ending_refusal p (earlier ++ (r ∷ kept_in c.records)) c.ending) none in
    (none-parts (placed_refusal p earlier (placed line r)) behind parts.0).0

closes-of : (p : Problem) (records : List Record) (line : ℕ) (closing : Option Derivation) → ending_refusal p records (Ok (line, closing)) ≡ None
    → Closes p records closing
closes-of p records line None none = tt
closes-of p records line (Some d) none =
    closing-shows p.groups (founds records) d (in_text-none line (closing_refusal p.groups (founds records) d) none)

stands-of : (version : Version) (p : Problem) (rest : List ℕ) (m : ℕ) (b : Below) (earlier : List Record) → p.vars + p.groups < 2 ^ 64
    → contents_refusal p earlier (contents_at m version p rest b) ≡ None → Stands version p rest b.lines earlier
stands-of version p rest zero b earlier small none =
    absurd (some-none (offence b.at Truncated)
    (sym (ap (contents_refusal p earlier) (at-zero version p rest b) ∙ nothing-left p earlier (Err (offence b.at Truncated))) ∙ none))
stands-of version p rest (suc m) b earlier small none = by (piece_at version p rest b.at b.lines) refl (λ c rs. stands-of version p rest m c rs small)
  where
    left : (got : Piece) → piece_at version p rest b.at b.lines ≡ got → contents_refusal p earlier (contents_by b.at got (contents_at m version p rest)) ≡ None
    left got e = sym (ap (contents_refusal p earlier) (at-piece m version p rest b got e)) ∙ none

    by : (got : Piece) → piece_at version p rest b.at b.lines ≡ got
        → ((c : Below) (rs : List Record) → contents_refusal p rs (contents_at m version p rest c) ≡ None → Stands version p rest c.lines rs) → Stands version p rest b.lines earlier
    by (Err o) e more = absurd (some-none o (sym (nothing-left p earlier (Err o)) ∙ left (Err o) e))
    by (Ok (answer.Offence o, c)) e more = absurd (some-none o (sym (nothing-left p earlier (Err o)) ∙ left (Ok (answer.Offence o, c)) e))
    by (Ok (answer.End closing, c)) e more =
        let (good, lines, nothing) = piece-stands version p rest b.at b.lines (answer.End closing) c small e in
        record {
          records = [];
          closing = closing;
          lines = lines;
          nothing = nothing;
          readable = tt;
          readable_end = good;
          accepted = tt;
          distinct = tt;
          closes =
              subst (λ (qs : List Record). Closes p qs closing) (sym (append-nil earlier))
              (closes-of p earlier b.at closing (sym (nothing-left p earlier (Ok (b.at, closing))) ∙ left (Ok (answer.End closing, c)) e));
        }
    by (Ok (answer.Record r, c)) e more =
        let (good, lines) = piece-stands version p rest b.at b.lines (answer.Record r) c small e in
        let here = left (Ok (answer.Record r, c)) e in
        let passed = first-passed p earlier b.at r (contents_at m version p rest c) here in
        let (new, accepted) = passed-is p earlier b.at r (form-readable version p r good) passed in
        let behind = more c (earlier ++ r ∷ []) (sym (record-passed p earlier b.at r (contents_at m version p rest c) passed) ∙ here) in
        record {
          records = r ∷ behind.records;
          closing = behind.closing;
          lines =
              lines ∙ ap (λ (ls : List Line). record_lines r ++ ls) behind.lines
              ∙ sym (append_assoc (record_lines r) (flat_map record_lines behind.records) (end_lines behind.closing));
          nothing = behind.nothing;
          readable = (good, behind.readable);
          readable_end = behind.readable_end;
          accepted = (accepted, behind.accepted);
          distinct = (new, behind.distinct);
          closes = subst (λ (qs : List Record). Closes p qs behind.closing) (append_assoc earlier (r ∷ []) behind.records) behind.closes;
        }

limit-of : (p : Problem) (text : List ℕ) → first_refusal p text ≡ None → length text ≤ max_bytes
limit-of p text none =
    elim (cases_Bool (nat_lt max_bytes (length text))) [
      | inl long ↦
          absurd (some-none (offence 0 TooLong)
          (sym (ap (λ t. cond t (Some (offence 0 TooLong)) (text_refusal p text (head_at p 1 (lines_of text)))) long) ∙ none))
      | inr short ↦ ltb-false max_bytes (length text) short
    ]

pub yes-from_none : (p : Problem) (text : List ℕ) → IsSmall p → first_refusal p text ≡ None
    → (length text ≤ max_bytes) × (records : List Record) × (complete : Bool) × AuditYes p text records complete
yes-from_none p text small none = by (head_at p 1 (lines_of text)) refl
  where
    le : length text ≤ max_bytes
    le = limit-of p text none

    by : (h : Result (Version × Below) Offence) → head_at p 1 (lines_of text) ≡ h
        → (length text ≤ max_bytes) × (records : List Record) × (complete : Bool) × AuditYes p text records complete
    by (Err o) e = absurd (some-none o (sym (within-limit p text le ∙ ap (text_refusal p text) e) ∙ none))
    by (Ok (version, b)) e =
        let s = stands-of version p (unended text) (length b.lines) b [] small.numbers (sym (within-limit p text le ∙ ap (text_refusal p text) e) ∙ none) in (
          le,
          s.records,
          is_some s.closing,
          record {
            version = version;
            closing = s.closing;
            is_complete = refl;
            text_is =
                evidence-from_lines version p text s.records s.closing
                (head-stands p 1 (lines_of text) version b e ∙ ap (λ (ls : List Line). head_line version p ∷ ls) s.lines) s.nothing;
            readable = s.readable;
            readable_end = s.readable_end;
            accepted = s.accepted;
            distinct = s.distinct;
            closes = s.closes;
          },
        )

pub none-is_yes : (p : Problem) (text : List ℕ) → IsSmall p
    → (first_refusal p text ≡ None) ↔ ((length text ≤ max_bytes) × (records : List Record) × (complete : Bool) × AuditYes p text records complete)
none-is_yes p text small = (
  λ none. yes-from_none p text small none,
  λ yes_it. none-from_yes p text yes_it.1 yes_it.2 small yes_it.0 yes_it.3,
)

-- ---- what is written is right

readable-end : (p : Problem) (rs : List Record) (closing : Option Derivation)
    → IfSome closing (λ d. (shows_all_explored p.groups (founds rs) d ≡ true) × HasIds d) → IsReadableEnd p closing × Closes p rs closing
readable-end p rs None h = (tt, tt)
readable-end p rs (Some d) h = (closing-readable p (founds rs) d h.0 h.1, h.0)

pub written-is_yes : (p : Problem) (rs : List Record) (closing : Option Derivation) → length rs ≤ max_id
    → AllAccepted p rs → AllByRecursion HasRecordIds rs → AreNew [] rs
    → IfSome closing (λ d. (shows_all_explored p.groups (founds rs) d ≡ true) × HasIds d)
    → AuditYes p (evidence_text Two p rs closing) rs (is_some closing)
written-is_yes p rs closing few accepted ids new closes =
    let ending = readable-end p rs closing closes in
    record {
      version = Two;
      closing = closing;
      is_complete = refl;
      text_is = refl;
      readable = records-readable p rs few accepted ids;
      readable_end = ending.0;
      accepted = accepted;
      distinct = new;
      closes = ending.1;
    }

pub shortened-is_yes : (p : Problem) (rs : List Record) (closing : Option Derivation) → length rs ≤ max_id
    → AllAccepted p rs → AllByRecursion HasRecordIds rs → AreNew [] rs
    → IfSome closing (λ d. (shows_all_explored p.groups (founds rs) d ≡ true) × HasIds d)
    → AuditYes p (evidence_text Two p (shorten rs) closing) (shorten rs) (is_some closing)
shortened-is_yes p rs closing few accepted ids new closes =
    written-is_yes p (shorten rs) closing (subst (λ n. n ≤ max_id) (sym (length-shorten rs)) few) (accepted-shorten p rs accepted) (ids-shorten rs ids)
    (new-shorten rs new) (closes-shorten p rs closing closes)
