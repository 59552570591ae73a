-- Digits read one after another.
use Rattle.std.proofs.Common.{◌≡◌, ℕ, ◌+◌, ◌-◌, ◌*◌, ◌^◌, ◌<◌, ◌≤◌, List, sym, ap, ◌∙◌, length, take, get_or, subst, pos, ℤ, arith, rules, IsTrue, Option, Some, None, SomeIff}
use Rattle.std.specs.Char.{is_ascii_digit, digit_value}
use Rattle.std.specs.Str.{all_ascii_digits}
use Rattle.std.specs.Str.Parse.{digits_value}
use Rattle.std.proofs.lemmas.Str.Parse.{digits_value-take-le}
use Rattle.std.proofs.lemmas.Int.Digits.{digits_value_more}
use Rattle.std.proofs.lemmas.Bool.Decides.{nat_tests}
use Rattle.std.proofs.lemmas.Bool.{true_from_ne_false}
use Rattle.std.proofs.lemmas.List.Folds.{list_all_at}
use Rattle.algebra.proofs.Basics.{not_both}
use Rattle.poly_text.proofs.tokens.number_value.Goals as goal

is_digit_at : (ds : List ℕ) (i : ℕ) → IsTrue (all_ascii_digits ds) → i < length ds
    → IsTrue (is_ascii_digit (get_or ds i 0))
is_digit_at ds i all within = true_from_ne_false (is_ascii_digit (get_or ds i 0))
    (λ no. not_both (all_ascii_digits ds) all (list_all_at is_ascii_digit ds i 0 within no))

digit_value-digit : (c : ℕ) → IsTrue (is_ascii_digit c) → digit_value c ≡ c - 48
digit_value-digit c digit = grind (arith, nat_tests)

-- one digit more
digits_value-more : (ds : List ℕ) (i : ℕ) → IsTrue (all_ascii_digits ds) → i < length ds
    → digits_value 10 (take (i + 1) ds) ≡ digits_value 10 (take i ds) * 10 + (get_or ds i 0 - 48)
digits_value-more ds i all within = digits_value_more 10 ds i within
    ∙ ap (λ d. digits_value 10 (take i ds) * 10 + d) (digit_value-digit (get_or ds i 0)
    (is_digit_at ds i all within))

module _ (ds : List ℕ) (i : ℕ) (all : IsTrue (all_ascii_digits ds)) (within : i < length ds)
    (step : Option ℤ)
    (is_step : SomeIff step (digits_value 10 (take i ds) * 10 + (get_or ds i 0 - 48) < 2 ^ 127)
    (pos (digits_value 10 (take i ds) * 10 + (get_or ds i 0 - 48)))) where
  some_more : (value : ℤ) → step ≡ Some value → value ≡ pos (digits_value 10 (take (i + 1) ds))
  some_more value is =
      (subst (λ r. SomeIff r (digits_value 10 (take i ds) * 10 + (get_or ds i 0 - 48) < 2 ^ 127)
      (pos (digits_value 10 (take i ds) * 10 + (get_or ds i 0 - 48)))) is is_step).1
      ∙ ap pos (sym (digits_value-more ds i all within))

  -- what is too large after some digits stays so
  none_past : (whole : Option ℤ) → step ≡ None → whole ≡ None
      → SomeIff whole (digits_value 10 ds < 2 ^ 127) (pos (digits_value 10 ds))
  none_past whole is ends =
      subst (λ r. SomeIff r (digits_value 10 ds < 2 ^ 127) (pos (digits_value 10 ds))) (sym ends)
      (λ small.
      (subst (λ r. SomeIff r (digits_value 10 (take i ds) * 10 + (get_or ds i 0 - 48) < 2 ^ 127)
      (pos (digits_value 10 (take i ds) * 10 + (get_or ds i 0 - 48)))) is is_step)
      (let le : digits_value 10 (take (i + 1) ds) ≤ digits_value 10 ds =
      digits_value-take-le 10 ds (i + 1) (omega arith) in
      omega (arith, digits_value-more ds i all within)))

pub with_digit-requires : goal.with_digit-requires
with_digit-requires c = is_digit_at c.args.digits.now c.loop-digit.digit-index c.requires
    c.loop-digit-test.true

pub returns-in_err-value : goal.returns-in_err-value
returns-in_err-value c =
    none_past c.args.digits.now c.loop-digit.digit-index c.requires c.loop-digit-test.true
    c.with_digit.result
    (c.with_digit.ensures (digits_value 10 (take c.loop-digit.digit-index c.args.digits.now))
    c.loop-digit.invariant) c.from_residual.result (search rules) (search rules)

pub loop-digit-preserved : goal.loop-digit-preserved
loop-digit-preserved c =
    let more : c.in_ok-value.value
    ≡ pos (digits_value 10 (take (c.loop-digit.digit-index + 1) c.args.digits.now)) =
    some_more c.args.digits.now c.loop-digit.digit-index c.requires c.loop-digit-test.true
    c.with_digit.result
    (c.with_digit.ensures (digits_value 10 (take c.loop-digit.digit-index c.args.digits.now))
    c.loop-digit.invariant) c.in_ok-value.value (search rules) in
    search rules
