-- The number of an option, by what std says of `parse`.
use Rattle.std.proofs.Common.{◌≡◌, ap, sym, refl, ℕ, Bool, true, false, Option, Some, None}
use Rattle.std.specs.Prelude.{if◌then◌else◌}
use Rattle.std.specs.Str.Parse.{digits_value, without_leading_plus}
use Rattle.clap.specs.Values.{IsUnsignedIn}
use Rattle.clap.specs.ValueTests.{is_unsigned_in}
use Rattle.clap.specs.Walk.{Text}
use Rattle.clap.specs.declared.builder.value_parser.ValueParser.TheVariants.{Unsigned}
use Rattle.clap.proofs.ValueTestLemmas.{Accepts-accepts, accepts-Accepts}
use Rattle.gm_words.specs.Reading.{number_by, number_rule}

module _ (id : Text) (low high : ℕ) (text : Text) where
  abbrev number_if : Bool → Option ℕ
  number_if taken = if taken then Some (digits_value 10 (without_leading_plus text)) else None

  -- the option takes the text
  pub number_by-taken : IsUnsignedIn low high text
      → Some (digits_value 10 (without_leading_plus text)) ≡ number_by (number_rule id low high) text
  number_by-taken is = sym (ap number_if (Accepts-accepts false (Unsigned low high) text is))

  -- the option refuses it
  pub number_by-refused : (IsUnsignedIn low high text → ⊥) → None ≡ number_by (number_rule id low high) text
  number_by-refused never = go (is_unsigned_in low high text) refl
    where
      go : (taken : Bool) → is_unsigned_in low high text ≡ taken → None ≡ number_by (number_rule id low high) text
      go true is = absurd (never (accepts-Accepts false (Unsigned low high) text is))
      go false is = sym (ap number_if is)
