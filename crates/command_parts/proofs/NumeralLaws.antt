-- The letters and values of a command's arguments, as the code reads them.
--   budget_is                 a budget, from the number of at most 9 digits;  budget_missing, budget_found: where there is none, and of one
--   count_is, count_missing, count_found      the same of a number of loops
--   letter_is                 a letter, from the number that its digits are
use Rattle.std.proofs.Common.{◌≡◌, ℕ, ◌<◌, ◌≤◌, ◌^◌, List, length, refl, sym, ap, subst, ◌∙◌, ℤ, pos, arith, Result, true}
use Rattle.std.specs.Prelude.{nat_le, if◌then◌else◌, unsigned_abs, Option, Some, None, option_map}
use Rattle.std.specs.Int.{FitsUnsigned, w32}
use Rattle.std.specs.Result.{result_ok, OkIff}
use Rattle.std.specs.Str.{all_ascii_digits}
use Rattle.std.specs.Str.Parse.{digits_value}
use Rattle.std.proofs.lemmas.Bool.{le-leb}
use Rattle.std.proofs.lemmas.Int.{ints}
use Rattle.std.proofs.lemmas.Result.{Ok-from_Ok_iff}
use Rattle.std.proofs.lemmas.Str.Parse.{IsNumeralModel, numerals_by_value, tells_all_ascii_digits, digits_value_short}
use Rattle.poly_text.specs.Number.{numeral_of}
use Rattle.poly_text.proofs.Numerals.{chosen_numeral}
use Rattle.command_parts.specs.Numerals.{in_budgets, budget_of, in_counts, count_of, letter_of}

own : IsNumeralModel (λ ds. all_ascii_digits ds ≡ true) (digits_value 10)
own = numerals_by_value _ tells_all_ascii_digits

short_small : (part : List ℕ) (n : ℕ) → length part ≤ 9 → numeral_of part ≡ Some n → n < 2 ^ 32
short_small part n short e =
    let c = chosen_numeral part n e in
    let small : digits_value 10 part < 10 ^ 9 = digits_value_short own part 9 c.second short in
    omega (arith, small, c.same)

pub letter_is : {E : Type 0} (part : List ℕ) (z : ℤ) (t : Result ℕ E) → length part ≤ 9
    → Some z ≡ option_map (λ n. pos n) (numeral_of part)
    → OkIff t (FitsUnsigned w32 z) (unsigned_abs z) → result_ok t ≡ letter_of part
unfolding letter_of
letter_is part z t short is fits = go (numeral_of part) refl is
  where
    go : (m : Option ℕ) → numeral_of part ≡ m → Some z ≡ option_map (λ n. pos n) m
        → result_ok t ≡ (if nat_le (length part) 9 then numeral_of part else None)
    go None e k = absurd (cc)
    go (Some n) e k =
        let same : z ≡ pos n = cc in
        let small : n < 2 ^ 32 = short_small part n short e in
        let at : OkIff t (FitsUnsigned w32 (pos n)) n =
        subst (λ x. OkIff t (FitsUnsigned w32 x) (unsigned_abs x)) same fits in
        let within : FitsUnsigned w32 (pos n) = (omega (arith, ints), omega (arith, ints)) in
        rw (le-leb _ _ short) (ap result_ok (Ok-from_Ok_iff t _ n at within) ∙ sym e)

pub budget_is : (argument : List ℕ) → length argument ≤ 7 → in_budgets (letter_of argument)
    ≡ budget_of argument
unfolding letter_of budget_of
budget_is argument short =
    rw (le-leb (length argument) 7 short) (rw (le-leb (length argument) 9 (omega (arith, short)))
    refl)

pub budget_missing : (argument : List ℕ) → length argument ≤ 7 → None ≡ letter_of argument
    → None ≡ budget_of argument
budget_missing argument short none = ap (λ n. in_budgets n) none ∙ budget_is argument short

pub budget_found : (argument : List ℕ) (n : ℕ) (b : Option ℕ) → length argument ≤ 7
    → Some n ≡ letter_of argument → b ≡ in_budgets (Some n) → b ≡ budget_of argument
budget_found argument n b short is found = found
    ∙ (ap (λ k. in_budgets k) is ∙ budget_is argument short)

pub count_is : (argument : List ℕ) → length argument ≤ 4 → in_counts (letter_of argument)
    ≡ count_of argument
unfolding letter_of count_of
count_is argument short =
    rw (le-leb (length argument) 4 short) (rw (le-leb (length argument) 9 (omega (arith, short)))
    refl)

pub count_missing : (argument : List ℕ) → length argument ≤ 4 → None ≡ letter_of argument
    → None ≡ count_of argument
count_missing argument short none = ap (λ n. in_counts n) none ∙ count_is argument short

pub count_found : (argument : List ℕ) (n : ℕ) (b : Option ℕ) → length argument ≤ 4
    → Some n ≡ letter_of argument
    → b ≡ in_counts (Some n) → b ≡ count_of argument
count_found argument n b short is found = found
    ∙ (ap (λ k. in_counts k) is ∙ count_is argument short)
