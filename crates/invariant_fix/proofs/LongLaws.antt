-- How long what a task begins with is, as the code counts it.
--   none_is_above, some_is_few     where there is no count, the number is above the limit, and where there is one, it isn't
--   copied, uncopied        what a variable was, by whether it passes
--   some_terms              what a variable was has a term at least
--   told_none, told_more, told_past     a product with what the variables were, one variable after another
--   told_are                which variables pass, told by a list and by a function;  branch_lengths: so of a branch
--   orbit_whole             the length of an orbit, where the form is the state from 0 on
--   elements_long, form_long, late_length     where it isn't
--   before_long, map_long, iteration_sum     that of an iteration
use Rattle.std.proofs.Common.{◌≡◌, ◌⊎◌, inl, inr, ℕ, zero, suc, ◌+◌, ◌*◌, ◌<◌, Bool, true, false, cond, List, [], ◌∷◌, length, get_or, refl, sym, ap, ap₂, ◌∙◌, arith, Option, Some, None}
use Rattle.std.specs.Prelude.{is_some, not}
use Rattle.std.proofs.lemmas.List.{length-map}
use Rattle.algebra.specs.Each.{Each}
use Rattle.algebra.specs.Fraction.{Fraction}
use Rattle.polynomials.specs.Terms.{Terms}
use Rattle.expansion.specs.Counts.{most_terms, factor_terms, IsCount}
use Rattle.expansion.specs.Lengths.{power_length, product_length, list_length}
use Rattle.expansion.proofs.Counting.{at_least_one, count_of}
use Rattle.expansion.proofs.LengthLaws.{lengths_none, lengths_more, product_past}
use Rattle.rounds.specs.Form.{Form, front, inverse_of_form, passes}
use Rattle.poly.specs.Seen.{terms_in, terms_each}
use Rattle.invariant_fix.specs.Orbits.{vars_of}
use Rattle.invariant_fix.specs.Setting.{form_of, FitsBranch}
use Rattle.invariant_fix.specs.declared.branches.Branch.{Branch}
use Rattle.invariant_fix.specs.Long.{lengths_before, lengths_told, form_lengths, lengths_behind, orbit_length_since, iteration_length}

-- ---- counts
pub none_is_above : (n : ℕ) (o : Option ℕ) (b : Bool) → IsCount n o → is_some o ≡ not b → b ≡ true
    → most_terms < n
none_is_above n None b h e t = h
none_is_above n (Some k) true h e t = absurd (cc)
none_is_above n (Some k) false h e t = absurd (cc)

pub some_is_few : (n : ℕ) (o : Option ℕ) (b : Bool) → IsCount n o → is_some o ≡ not b → b ≡ false
    → most_terms < n → ⊥
some_is_few n None true h e t l = cc
some_is_few n None false h e t l = cc
some_is_few n (Some k) b h e t l = let few = h.1 in omega (arith, few, l)

pub copied : (b : Bool) (q : Terms Fraction) → b ≡ true → 1 ≡ cond b 1 (factor_terms q)
copied b q e = ap (λ t. cond t 1 (factor_terms q)) (sym e)

pub uncopied : {b : Bool} (q : Terms Fraction) → b ≡ false
    → factor_terms q ≡ cond b 1 (factor_terms q)
uncopied q e = ap (λ t. cond t 1 (factor_terms q)) (sym e)

pub some_terms : (b : Bool) (q : Terms Fraction) → 0 < cond b 1 (factor_terms q)
some_terms true q = omega arith
some_terms false q = at_least_one q

told_each : (bs : List Bool) (qs : List (Terms Fraction)) → Each (λ n. 0 < n) (lengths_told bs qs)
unfolding lengths_told Each
told_each [] qs = tt
told_each (b ∷ bs) [] = tt
told_each (b ∷ bs) (q ∷ qs) = (some_terms b q, told_each bs qs)

told_empty : (bs : List Bool) (qs : List (Terms Fraction)) → (length bs ≡ 0) ⊎ (length qs ≡ 0)
    → length (lengths_told bs qs) ≡ 0
unfolding lengths_told
told_empty [] qs h = refl
told_empty (b ∷ bs) [] h = refl
told_empty (b ∷ bs) (q ∷ qs) (inl h) = absurd (omega (arith, h))
told_empty (b ∷ bs) (q ∷ qs) (inr h) = absurd (omega (arith, h))

pub told_none : (bs : List Bool) (qs : List (Terms Fraction)) (e : List ℕ)
    → (length bs ≡ 0) ⊎ (length qs ≡ 0) → 1 ≡ product_length (lengths_told bs qs) e
told_none bs qs e h = lengths_none (lengths_told bs qs) e (inl (told_empty bs qs h))

module _ (b : Bool) (bs whole : List Bool) (q : Terms Fraction) (qs all : List (Terms Fraction))
    (k : ℕ) (e exponents : List ℕ) (f : whole ≡ b ∷ bs) (g : all ≡ q ∷ qs) (h : exponents ≡ k ∷ e)
  where
    told_is : lengths_told whole all ≡ cond b 1 (factor_terms q) ∷ lengths_told bs qs
    unfolding lengths_told
    told_is = ap₂ lengths_told f g

    pub told_more : (rest power : ℕ) (o : Option ℕ) → rest ≡ product_length (lengths_told bs qs) e
        → power ≡ power_length (cond b 1 (factor_terms q)) k → IsCount (power * rest) o
        → IsCount (product_length (lengths_told whole all) exponents) o
    told_more rest power o r p c =
        lengths_more (cond b 1 (factor_terms q)) (lengths_told bs qs) (lengths_told whole all) k e
        exponents rest power o told_is h r p c

    pub told_past : (most_terms < product_length (lengths_told bs qs) e)
        ⊎ (most_terms < power_length (cond b 1 (factor_terms q)) k)
        → most_terms < product_length (lengths_told whole all) exponents
    told_past past =
        product_past (cond b 1 (factor_terms q)) (lengths_told bs qs) (lengths_told whole all) k e
        exponents told_is h (told_each whole all) past

-- ---- which variables pass
pub told_are : (passes : ℕ → Bool) (bs : List Bool) (qs : List (Terms Fraction)) (i : ℕ)
    → length bs ≡ length qs → ((j : ℕ) → get_or bs j false ≡ passes (i + j))
    → lengths_told bs qs ≡ lengths_before passes i qs
unfolding lengths_told lengths_before
told_are passes [] [] i e h = refl
told_are passes (b ∷ bs) [] i e h = absurd (omega (arith, e))
told_are passes [] (q ∷ qs) i e h = absurd (omega (arith, e))
told_are passes (b ∷ bs) (q ∷ qs) i e h =
    let here : i + 0 ≡ i = omega arith in
    let first : b ≡ passes i = h 0 ∙ ap passes here in
    ap₂ ◌∷◌ (ap (λ x. cond x 1 (factor_terms q)) first)
    (told_are passes bs qs (suc i) (omega (arith, e)) (λ j. h (suc j)
    ∙ (let later : i + suc j ≡ suc i + j = omega arith in ap passes later)))

module _ {b : Branch} (fits : FitsBranch (vars_of b) b) where
  counts : length b.form.passing.items ≡ length (terms_each b.back.items)
  counts =
      let e = fits.passing_count in
      let f = fits.back_count in
      let g = length-map b.back.items terms_in in
      omega (arith, e, f, g)

  pub branch_lengths : lengths_told b.form.passing.items (terms_each b.back.items)
      ≡ form_lengths (form_of b.form) (vars_of b)
  branch_lengths =
      told_are (passes (form_of b.form) (vars_of b)) b.form.passing.items
      (terms_each b.back.items) 0 counts
      (λ j. fits.passing j ∙ (let o : j ≡ 0 + j = omega arith in
      ap (passes (form_of b.form) (vars_of b)) o))
      ∙ ap (lengths_before (passes (form_of b.form) (vars_of b)) 0) fits.back

-- ---- an orbit
pub orbit_whole : (d : ℕ) (f : Form) (m : ℕ) (gs : List (Terms Fraction)) → d ≡ 0
    → list_length gs (inverse_of_form f) ≡ orbit_length_since d f m gs
unfolding orbit_length_since
orbit_whole zero f m gs e = refl
orbit_whole (suc d) f m gs e = absurd (omega (arith, e))

late_is : (d : ℕ) (f : Form) (m : ℕ) (gs : List (Terms Fraction)) → (d ≡ 0 → ⊥)
    → lengths_behind 0 (form_lengths f m) gs
    + lengths_behind (front (length f.base)) (form_lengths f m) (inverse_of_form f)
    ≡ orbit_length_since d f m gs
unfolding orbit_length_since
late_is zero f m gs late = absurd (late refl)
late_is (suc d) f m gs late = refl

module _ (d : ℕ) (f : Form) (m : ℕ) (gs : List (Terms Fraction)) (late : d ≡ 0 → ⊥) where
  abbrev forms : ℕ
  forms = lengths_behind (front (length f.base)) (form_lengths f m) (inverse_of_form f)

  pub elements_long : most_terms < lengths_behind 0 (form_lengths f m) gs
      → most_terms < orbit_length_since d f m gs
  elements_long h = let e = late_is d f m gs late in omega (arith, e, h)

  pub form_long : most_terms < forms → most_terms < orbit_length_since d f m gs
  form_long h = let e = late_is d f m gs late in omega (arith, e, h)

  pub late_length : {left right : ℕ} (o : Option ℕ) → left ≡ lengths_behind 0 (form_lengths f m) gs
      → right ≡ forms → IsCount (left + right) o → IsCount (orbit_length_since d f m gs) o
  late_length o l r c = count_of _ _ o (ap₂ ◌+◌ l r ∙ late_is d f m gs late) c

-- ---- an iteration
module _ (f : Form) (m : ℕ) (fs gs : List (Terms Fraction)) where
  iteration_is : lengths_behind 0 (form_lengths f m) gs + lengths_behind 0 (form_lengths f m) fs
      ≡ iteration_length f m fs gs
  unfolding iteration_length
  iteration_is = refl

  pub before_long : most_terms < lengths_behind 0 (form_lengths f m) gs
      → most_terms < iteration_length f m fs gs
  before_long h = let e = iteration_is in omega (arith, e, h)

  pub map_long : most_terms < lengths_behind 0 (form_lengths f m) fs
      → most_terms < iteration_length f m fs gs
  map_long h = let e = iteration_is in omega (arith, e, h)

  pub iteration_sum : {left right : ℕ} (o : Option ℕ)
      → left ≡ lengths_behind 0 (form_lengths f m) gs
      → right ≡ lengths_behind 0 (form_lengths f m) fs → IsCount (left + right) o
      → IsCount (iteration_length f m fs gs) o
  iteration_sum o l r c = count_of _ _ o (ap₂ ◌+◌ l r ∙ iteration_is) c
