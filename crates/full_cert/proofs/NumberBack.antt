-- A number that is written is read as itself.
--   is_number_back     its text has the form of a number
--   number_back        and it is this number
--   numeral_back       digits are their number
use Rattle.std.proofs.Common.{◌≡◌, ℕ, zero, suc, ◌+◌, ◌<◌, Bool, true, false, ◌&&◌, cond, List, [], ◌∷◌, ◌++◌, length, take, drop, refl, sym, ap, ap₂, subst, ◌∙◌, append_assoc, arith, ℤ, pos, negsuc}
use Rattle.std.specs.Prelude.{◌==◌, nat_lt, if◌then◌else◌, unsigned_abs, Some, None, option_map, decimal, codes}
use Rattle.std.specs.Fmt.{signed_decimal}
use Rattle.std.specs.Int.{IsInRange}
use Rattle.std.specs.Str.{all_ascii_digits}
use Rattle.std.specs.Str.Parse.{digits_value}
use Rattle.std.specs.List.{position_or_len}
use Rattle.std.proofs.Math.Dec.{ltb}
use Rattle.std.proofs.Math.Seq.{take-append_seam, drop-append-add}
use Rattle.std.proofs.lemmas.List.{append-nil, length-append}
use Rattle.std.proofs.lemmas.List.Recursion.{is_position_or_len}
use Rattle.std.proofs.lemmas.Bool.{lt-ltb, le-ltb}
use Rattle.std.proofs.lemmas.Bool.Decides.{nat_tests}
use Rattle.std.proofs.lemmas.Fmt.{decimal_is_IsNumeral_wide}
use Rattle.std.proofs.lemmas.Str.Parse.{IsNumeralModel, numerals_by_value, tells_all_ascii_digits}
use Rattle.algebra.specs.Ratio.{Ratio, ratio, reduce, opposite_of}
use Rattle.algebra.specs.Fraction.{Fraction, fraction, over, whole, opposite}
use Rattle.algebra.proofs.Fractions.{facts, some, fraction-ratio, ratio-opposite, same_fraction}
use Rattle.algebra.proofs.RatioLaws.{reduce_value_is}
use Rattle.loop_model.specs.Ascii.{minus_sign, slash}
use Rattle.poly_text.specs.Number.{numeral_bound, is_digits, slash_in, is_amount_at, is_amount, unsigned, is_number, numeral_of, quotient_of, amount_at, amount_of, number_of}
use Rattle.poly_text.specs.Text.{number_text}

-- ---- digits
own : IsNumeralModel (λ ds. all_ascii_digits ds ≡ true) (digits_value 10)
own = numerals_by_value _ tells_all_ascii_digits

record IsDigitText (n : ℕ) (ds : List ℕ) : Type 0 where
  some : 0 < length ds
  digits : all_ascii_digits ds ≡ true
  value : digits_value 10 ds ≡ n

decimal_digits : (n : ℕ) → n < numeral_bound → IsDigitText n (decimal n)
decimal_digits n small =
    let h = decimal_is_IsNumeral_wide n (omega (arith, small)) in
    record { some = h.0.0; digits = own.from (decimal n) h.0.1; value = h.1 }

other_sign : (c k : ℕ) (b : Bool) → (c == k) ≡ b → k < 48 → IsInRange 48 57 c → (c == k) ≡ false
other_sign c k false e low h = e
other_sign c k true e low h = absurd (let same : c ≡ k = grind (arith, nat_tests, e) in
    omega (arith, same, h.0, low))

first_slash : List ℕ → ℕ
first_slash [] = 0
first_slash (c ∷ cs) = if c == slash then 0 else 1 + first_slash cs

is_first : (text : List ℕ) → first_slash text ≡ position_or_len (λ c. c == slash) text
unfolding first_slash
is_first = is_position_or_len first_slash (λ c. c == slash) refl (λ c cs. refl)

along : (ds text : List ℕ) → all_ascii_digits ds ≡ true
    → first_slash (ds ++ text) ≡ length ds + first_slash text
unfolding first_slash
along [] text h = omega arith
along (c ∷ cs) text h =
    let t = tells_all_ascii_digits.parts c cs h in
    let rest = along cs text t.1 in
    ap (λ b. if b then 0 else 1 + first_slash (cs ++ text))
    (other_sign c slash (c == slash) refl (omega arith) t.0)
    ∙ (let whole : 1 + first_slash (cs ++ text) ≡ suc (length cs) + first_slash text =
    omega (arith, rest) in whole)

slash_at : (text : List ℕ) (k : ℕ) → first_slash text ≡ k
    → slash_in text ≡ cond (ltb k (length text)) (Some k) None
slash_at text k h = ap (λ i. cond (ltb i (length text)) (Some i) None) (sym (is_first text) ∙ h)

no_slash : (ds : List ℕ) → all_ascii_digits ds ≡ true → slash_in ds ≡ None
unfolding first_slash
no_slash ds h =
    let all : first_slash ds ≡ length ds = (let x = along ds [] h in
    ap first_slash (sym (append-nil ds)) ∙ x ∙ omega arith) in
    slash_at ds (length ds) all
    ∙ ap (λ b. cond b (Some (length ds)) None) (le-ltb (length ds) (length ds) (omega arith))

slash_behind : (ds es : List ℕ) → all_ascii_digits ds ≡ true
    → slash_in (ds ++ slash ∷ es) ≡ Some (length ds)
unfolding first_slash
slash_behind ds es h =
    let all : first_slash (ds ++ slash ∷ es) ≡ length ds =
    along ds (slash ∷ es) h ∙ omega arith in
    let longer : length ds < length (ds ++ slash ∷ es) =
    (let n = length-append ds (slash ∷ es) in omega (arith, n)) in
    slash_at (ds ++ slash ∷ es) (length ds) all
    ∙ ap (λ b. cond b (Some (length ds)) None)
    (lt-ltb (length ds) (length (ds ++ slash ∷ es)) longer)

are_digits : (n : ℕ) (ds : List ℕ) → IsDigitText n ds → is_digits ds ≡ true
unfolding is_digits
are_digits n ds h = ap₂ ◌&&◌ (lt-ltb 0 (length ds) h.some) h.digits

numeral : (n : ℕ) (ds : List ℕ) → n < numeral_bound → IsDigitText n ds → numeral_of ds ≡ Some n
unfolding numeral_of
numeral n ds small h =
    ap₂ (λ a b. if a && (b && nat_lt (digits_value 10 ds) numeral_bound)
    then Some (digits_value 10 ds) else None) (lt-ltb 0 (length ds) h.some) h.digits
    ∙ ap (λ v. if nat_lt v numeral_bound then Some v else None) h.value
    ∙ ap (λ b. if b then Some n else None) (lt-ltb n numeral_bound small)

pub numeral_back : (n : ℕ) → n < numeral_bound → numeral_of (decimal n) ≡ Some n
numeral_back n small = numeral n (decimal n) small (decimal_digits n small)

-- ---- a text without a sign
module _ (n d : ℕ) (small : n < numeral_bound) (den : d < numeral_bound) where
  up : IsDigitText n (decimal n)
  up = decimal_digits n small

  down : IsDigitText d (decimal d)
  down = decimal_digits d den

  taken : take (length (decimal n)) (decimal n ++ slash ∷ decimal d) ≡ decimal n
  taken = take-append_seam (decimal n) (slash ∷ decimal d)

  left : drop (length (decimal n) + 1) (decimal n ++ slash ∷ decimal d) ≡ decimal d
  left = drop-append-add (decimal n) (slash ∷ decimal d) 1

  whole_is_amount : is_amount (decimal n) ≡ true
  unfolding is_amount
  whole_is_amount = ap (is_amount_at (decimal n)) (no_slash (decimal n) up.digits)
      ∙ are_digits n (decimal n) up

  quotient_is_amount : is_amount (decimal n ++ slash ∷ decimal d) ≡ true
  unfolding is_amount
  quotient_is_amount =
      ap (is_amount_at (decimal n ++ slash ∷ decimal d)) (slash_behind (decimal n) (decimal d)
      up.digits)
      ∙ ap₂ (λ x y. is_digits x && is_digits y) taken left
      ∙ ap₂ ◌&&◌ (are_digits n (decimal n) up) (are_digits d (decimal d) down)

  whole_amount : amount_of (decimal n) ≡ Some (whole (pos n))
  unfolding amount_of
  whole_amount = ap (amount_at (decimal n)) (no_slash (decimal n) up.digits)
      ∙ ap (option_map (λ k. whole (pos k))) (numeral n (decimal n) small up)

  quotient_amount : 0 < d → amount_of (decimal n ++ slash ∷ decimal d) ≡ Some (over (pos n) d)
  unfolding amount_of
  quotient_amount positive =
      ap (amount_at (decimal n ++ slash ∷ decimal d)) (slash_behind (decimal n) (decimal d)
      up.digits)
      ∙ ap₂ (λ x y. quotient_of (numeral_of x) (numeral_of y)) taken left
      ∙ ap₂ quotient_of (numeral n (decimal n) small up) (numeral d (decimal d) den down)
      ∙ by_den d positive
    where
      by_den : (k : ℕ) → 0 < k → quotient_of (Some n) (Some k) ≡ Some (over (pos n) k)
      by_den zero p = absurd (omega (arith, p))
      by_den (suc k) p = refl

-- ---- no sign in front of digits
no_sign : (ds es : List ℕ) → all_ascii_digits ds ≡ true → 0 < length ds
    → (unsigned (ds ++ es) ≡ ds ++ es) × (number_of (ds ++ es) ≡ amount_of (ds ++ es))
unfolding unsigned number_of
no_sign [] es h some = absurd (omega (arith, some))
no_sign (c ∷ cs) es h some =
    let other = other_sign c minus_sign (c == minus_sign) refl (omega arith)
    (tells_all_ascii_digits.parts c cs h).0 in (
      ap (λ b. if b then cs ++ es else c ∷ (cs ++ es)) other,
      ap (λ b. if b then option_map opposite (amount_of (cs ++ es))
          else amount_of (c ∷ (cs ++ es))) other,
    )

signed_number : (text : List ℕ) → number_of (minus_sign ∷ text)
    ≡ option_map opposite (amount_of text)
unfolding number_of
signed_number text = refl

signed_form : (text : List ℕ) → is_number (minus_sign ∷ text) ≡ is_amount text
unfolding unsigned
signed_form text = refl

-- ---- a fraction
abbrev behind_sign : ℕ → ℕ → Bool → List ℕ
behind_sign n d b = if b then decimal n else decimal n ++ slash ∷ decimal d

abbrev tail_of : ℕ → Bool → List ℕ
tail_of d b = if b then [] else slash ∷ decimal d

split_tail : (n d : ℕ) (b : Bool) → behind_sign n d b ≡ decimal n ++ tail_of d b
split_tail n d true = sym (append-nil (decimal n))
split_tail n d false = refl

module _ (q : Fraction) (n : ℕ) (num : q.num ≡ pos n) (small : n < numeral_bound)
    (den : q.den < numeral_bound) where
  amount_back : (b : Bool) → (q.den == 1) ≡ b → amount_of (behind_sign n q.den b) ≡ Some q
  amount_back true e =
      let one : q.den ≡ 1 = grind (arith, nat_tests, e) in
      whole_amount n q.den small den
      ∙ ap Some (ap₂ (λ z d. fraction (ratio z d)) (sym num) (sym one) ∙ fraction-ratio q)
  amount_back false e =
      quotient_amount n q.den small den (some q)
      ∙ ap Some (ap (λ z. fraction (reduce (ratio z q.den))) (sym num)
      ∙ ap fraction (reduce_value_is q.ratio (facts q)) ∙ fraction-ratio q)

  is_amount_back : (b : Bool) → is_amount (behind_sign n q.den b) ≡ true
  is_amount_back true = whole_is_amount n q.den small den
  is_amount_back false = quotient_is_amount n q.den small den

abbrev text_of : ℤ → ℕ → Bool → List ℕ
text_of z d b = if b then signed_decimal z else signed_decimal z ++ codes "/" ++ decimal d

below_zero : (n d : ℕ) (b : Bool)
    → text_of (negsuc n) d b ≡ minus_sign ∷ behind_sign (suc n) d b
below_zero n d true = refl
below_zero n d false = append_assoc (minus_sign ∷ decimal (suc n)) (codes "/") (decimal d)

above_zero : (n d : ℕ) (b : Bool) → text_of (pos n) d b ≡ behind_sign n d b
above_zero n d true = refl
above_zero n d false = append_assoc (decimal n) (codes "/") (decimal d)

module _ (q : Fraction) (small : unsigned_abs q.num < numeral_bound)
    (den : q.den < numeral_bound) where
  twice : (n : ℕ) → q.num ≡ negsuc n → opposite (opposite q) ≡ q
  twice n e = same_fraction (opposite (opposite q)) q
      (ratio-opposite (opposite q) ∙ ap opposite_of (ratio-opposite q)
      ∙ (let there : q.ratio ≡ ratio (negsuc n) q.den = ap (λ z. ratio z q.den) e in
      subst (λ r. opposite_of (opposite_of r) ≡ r) (sym there) refl))

  turned : (n : ℕ) → q.num ≡ negsuc n → (opposite q).num ≡ pos (suc n)
  turned n e = ap (λ (r : Ratio). r.num) (ratio-opposite q)
      ∙ ap (λ z. (opposite_of (ratio z q.den)).num) e

  same_den : (opposite q).den ≡ q.den
  same_den = ap (λ (r : Ratio). r.den) (ratio-opposite q)

  number_by : (z : ℤ) → q.num ≡ z → (b : Bool) → (q.den == 1) ≡ b
      → number_of (text_of z q.den b) ≡ Some q
  number_by (pos n) e b is =
      let few : n < numeral_bound = subst (λ z. unsigned_abs z < numeral_bound) e small in
      let h = decimal_digits n few in
      ap number_of (above_zero n q.den b ∙ split_tail n q.den b)
      ∙ (no_sign (decimal n) (tail_of q.den b) h.digits h.some).1
      ∙ ap amount_of (sym (split_tail n q.den b))
      ∙ amount_back q n e few den b is
  number_by (negsuc n) e b is =
      let few : suc n < numeral_bound = subst (λ z. unsigned_abs z < numeral_bound) e small in
      ap number_of (below_zero n q.den b) ∙ signed_number (behind_sign (suc n) q.den b)
      ∙ ap (option_map opposite) (ap (λ d. amount_of (behind_sign (suc n) d b)) (sym same_den)
      ∙ amount_back (opposite q) (suc n) (turned n e) few
      (subst (λ d. d < numeral_bound) (sym same_den) den) b (ap (λ d. d == 1) same_den ∙ is))
      ∙ ap Some (twice n e)

  pub number_back : number_of (number_text q) ≡ Some q
  unfolding number_text
  number_back = number_by q.num refl (q.den == 1) refl

  is_number_by : (z : ℤ) → q.num ≡ z → (b : Bool) → is_number (text_of z q.den b) ≡ true
  is_number_by (pos n) e b =
      let few : n < numeral_bound = subst (λ z. unsigned_abs z < numeral_bound) e small in
      let h = decimal_digits n few in
      ap is_number (above_zero n q.den b ∙ split_tail n q.den b)
      ∙ ap is_amount ((no_sign (decimal n) (tail_of q.den b) h.digits h.some).0
      ∙ sym (split_tail n q.den b))
      ∙ is_amount_back q n e few den b
  is_number_by (negsuc n) e b =
      let few : suc n < numeral_bound = subst (λ z. unsigned_abs z < numeral_bound) e small in
      ap is_number (below_zero n q.den b) ∙ signed_form (behind_sign (suc n) q.den b)
      ∙ ap (λ d. is_amount (behind_sign (suc n) d b)) (sym same_den)
      ∙ is_amount_back (opposite q) (suc n) (turned n e) few
      (subst (λ d. d < numeral_bound) (sym same_den) den) b

  pub is_number_back : is_number (number_text q) ≡ true
  unfolding number_text
  is_number_back = is_number_by q.num refl (q.den == 1)
