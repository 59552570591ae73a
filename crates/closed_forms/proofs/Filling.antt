-- The values of splittings.
--   some_values, in_some                 the values that aren't zero
--   values_made, values_at               values whose sizes, but of zero, have a base are made of it;  those of one of the splittings
--   made_within                          such values are within
--   first_here                           the splitting at a variable, as indexing reads it
use Rattle.std.proofs.Common.{◌≡◌, ◌≢◌, inl, inr, ◌<◌, ℕ, zero, suc, Bool, true, false, cond, List, [], ◌∷◌, map, length, unsigned_abs, get_or, Option, Some, None, refl, sym, ap, subst, ◌∙◌, arith}
use Rattle.std.proofs.lemmas.List.{get_or_default}
use Rattle.algebra.specs.Each.{Each}
use Rattle.algebra.proofs.Each.{each-left, each-right}
use Rattle.algebra.specs.In.{In}
use Rattle.algebra.proofs.Basics.{not_both}
use Rattle.algebra.proofs.In.{each_in, each_from}
use Rattle.algebra.specs.Fraction.{Fraction, ℚ, is_zero}
use Rattle.algebra.proofs.Fractions.{zero_is}
use Rattle.exponentials.specs.Base.{IsTheBase, IsProductOf}
use Rattle.linear.specs.Rows.{fractions_of}
use Rattle.eigen_split.specs.declared.splitting.Split.{Split}
use Rattle.solvable_maps.specs.Classes.{sizes_of}
use Rattle.closed_forms.specs.Solved.{IsMade, AreWithin}
use Rattle.closed_forms.specs.States.{some_of}
use Rattle.closed_forms.specs.Values.{values_in}

-- ---- values made of a base
made_each : (base : List ℕ) (values : List Fraction)
    → Each (IsProductOf base) (map (λ (c : Fraction). unsigned_abs c.num) values)
    → Each (IsProductOf base) (map (λ (c : Fraction). c.den) values) → Each (IsMade base) values
unfolding Each
made_each base [] h k = tt
made_each base (x ∷ xs) h k = (
  record { numerator = h.0; denominator = k.0 },
  made_each base xs h.1 k.1,
)

-- each value that isn't zero is one of them
pub some_values : (values : List Fraction) (c : Fraction) → In c values → c ≢ ℚ.zero
    → In c (some_of values)
some_values [] c h n = absurd h
some_values (x ∷ values) c h n = go (is_zero x) refl h (λ q. some_values values c q n)
  where
    go : (b : Bool) → is_zero x ≡ b → In c (x ∷ values) → (In c values → In c (some_of values))
        → In c (cond b (some_of values) (x ∷ some_of values))
    go true e (inl q) later = absurd (n (q ∙ (zero_is x).0 e))
    go true e (inr q) later = later q
    go false e (inl q) later = inl q
    go false e (inr q) later = inr (later q)

pub in_some : (values : List Fraction) (c : Fraction) → In c (some_of values)
    → In c values × (c ≢ ℚ.zero)
in_some [] c h = absurd h
in_some (x ∷ values) c h = go (is_zero x) refl h (λ q. in_some values c q)
  where
    more : In c values × (c ≢ ℚ.zero) → In c (x ∷ values) × (c ≢ ℚ.zero)
    more r = (inr r.0, r.1)

    go : (b : Bool) → is_zero x ≡ b → In c (cond b (some_of values) (x ∷ some_of values))
        → (In c (some_of values) → In c values × (c ≢ ℚ.zero)) → In c (x ∷ values) × (c ≢ ℚ.zero)
    go true e h later = more (later h)
    go false e (inl q) later = (inl q, λ z. not_both (is_zero x) ((zero_is x).1 (sym q ∙ z)) e)
    go false e (inr q) later = more (later q)

pub values_made : (values : List Fraction) (base : List ℕ)
    → IsTheBase (sizes_of (some_of values)) base
    → Each (λ c. c ≢ ℚ.zero → IsMade base c) values
values_made values base h =
    let all = h.coarsest.base.products in
    let some = some_of values in
    let nums = map (λ (c : Fraction). unsigned_abs c.num) some in
    let dens = map (λ (c : Fraction). c.den) some in
    let made = made_each base some (each-left (IsProductOf base) nums dens all)
    (each-right (IsProductOf base) nums dens all) in
    each_from values (λ c i n. each_in (IsMade base) some c made (some_values values c i n))

pub made_within : (base values : _)
    → Each (λ c. c ≢ ℚ.zero → IsMade base c) values → AreWithin base values
made_within base values h = each_from values (λ c i n outside. outside
    (each_in (λ c. c ≢ ℚ.zero → IsMade base c) values c h i n))

pub first_here : (splits : List (Option Split)) (k : ℕ) {i : ℕ} (found : Option Split)
    (split : Split)
    → k ≡ i → found ≡ get_or splits k found → found ≡ Some split → k < length splits
    → get_or splits i None ≡ Some split
first_here splits k found split e read is l =
    ap (λ j. get_or splits j None) (sym e) ∙ get_or_default splits k None found l ∙ sym read ∙ is

pub values_at : (P : Fraction → Type 0) (splits : List (Option Split)) (i : ℕ)
    (found : Option Split) (split : Split) → i < length splits → found ≡ get_or splits i found
    → found ≡ Some split → Each P (values_in splits) → Each P (fractions_of split.values.items)
values_at P splits i found split l read is h = at splits i l (sym read ∙ is) h
  where
    at : (splits : List (Option Split)) (i : ℕ) → i < length splits
        → get_or splits i found ≡ Some split → Each P (values_in splits)
        → Each P (fractions_of split.values.items)
    at [] i l e h = absurd (omega (arith, l))
    at (None ∷ splits) zero l e h = absurd (let z : ⊥ = cc in z)
    at (Some s ∷ splits) zero l e h =
        (let own : s ≡ split = cc in subst (λ (x : Split). Each P (fractions_of x.values.items)) own
        (each-left P (fractions_of s.values.items) (values_in splits) h))
    at (None ∷ splits) (suc i) l e h = at splits i (omega (arith, l)) e h
    at (Some s ∷ splits) (suc i) l e h = at splits i (omega (arith, l)) e
        (each-right P (fractions_of s.values.items) (values_in splits) h)
