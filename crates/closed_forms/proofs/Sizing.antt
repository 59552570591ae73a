-- Sizes of numerators and denominators.
--   values_none      the values of splittings, one splitting after another
--   some-append, some_skip, some_next, some_more     those that aren't zero, one after another;  some_nonzero, some_few: none is zero, and there are no more than all
--   behind_none, behind_next                   sizes of values, one value after another
--   sizes-push
--   num_fits, den_fits, num_passed, den_passed, num_some, den_some      numerators and denominators fit, and are not zero
--   sizes_positive, sizes_fit, few_sizes        of all, and their base has few numbers
use Rattle.std.proofs.Common.{◌≡◌, ◌≢◌, ◌<◌, ◌≤◌, ◌+◌, ℕ, ℤ, pos, List, [], ◌∷◌, ◌++◌, map, length, unsigned_abs, ◌^◌, Option, Some, cond, sym, ap, ap₂, subst, ◌∙◌, arith, append_assoc}
use Rattle.std.proofs.lemmas.List.{length-append, length-map, map-append, map_push}
use Rattle.std.proofs.lemmas.Bool.{false_from_ne_true}
use borrow.Author.Differences.{ints}
use mir.Syntax.{w128}
use mir.Val.{to_z, of_z}
use Rattle.std.proofs.lemmas.Int.{to_z-of_z, fits_signed_from_abs}
use Rattle.algebra.specs.Each.{Each}
use Rattle.algebra.specs.Fraction.{Fraction, ℚ}
use Rattle.algebra.proofs.Fractions.{facts, top_zero, zero_is}
use Rattle.exponentials.specs.Base.{IsTheBase}
use Rattle.frac128.specs.FracMeaning.{fraction_of}
use Rattle.frac128.specs.declared.Whole.{Whole}
use Rattle.frac128.specs.declared.fraction.Frac.{Frac}
use Rattle.linear.specs.Rows.{fractions_of}
use Rattle.coprime_base.specs.Sizes.{sizes, ArePositive}
use Rattle.coprime_base.proofs.Sized.{positive_sizes}
use Rattle.eigen_split.specs.declared.splitting.Split.{Split}
use Rattle.solvable_maps.specs.Classes.{sizes_of}
use Rattle.closed_forms.specs.States.{some_of}
use Rattle.closed_forms.specs.Values.{values_in}
use Rattle.closed_forms.proofs.Counting.{base_few}
use Rattle.closed_forms.proofs.Mixing.{more_behind}

-- ---- the values of splittings, and those that aren't zero, one after another
pub values_more : (old : List Frac) {mid : List Frac} (new : List Fraction)
    {splits rest : List (Option Split)} {split : Split}
    → splits ≡ Some split ∷ rest → mid ≡ old ++ split.values.items
    → new ≡ fractions_of mid ++ values_in rest → new ≡ fractions_of old ++ values_in splits
values_more old new {rest = rest} {split = split} e k h =
    let xs = split.values.items in
    h ∙ ap (λ l. l ++ values_in rest) (ap fractions_of k ∙ map-append fraction_of old xs)
    ∙ append_assoc (fractions_of old) (fractions_of xs) (values_in rest)
    ∙ ap (λ l. fractions_of old ++ values_in l) (sym e)

pub some_skip : (old new : List Fraction) {values rest : List Frac} {v : Frac} → values ≡ v ∷ rest
    → fraction_of v ≡ ℚ.zero → new ≡ old ++ some_of (fractions_of rest)
    → new ≡ old ++ some_of (fractions_of values)
some_skip old new {rest = rest} {v = v} e z h = h
    ∙ ap (λ b. old ++ cond b (some_of (fractions_of rest)) (fraction_of v
    ∷ some_of (fractions_of rest))) (sym ((zero_is (fraction_of v)).1 z))
    ∙ ap (λ l. old ++ some_of (fractions_of l)) (sym e)

pub some_next : (old : List Fraction) {mid : List Fraction} (new : List Fraction)
    {values rest : List Frac} {v : Frac}
    → values ≡ v ∷ rest → fraction_of v ≢ ℚ.zero → mid ≡ old ++ fraction_of v ∷ []
    → new ≡ mid ++ some_of (fractions_of rest) → new ≡ old ++ some_of (fractions_of values)
some_next old new {rest = rest} {v = v} e n k h =
    more_behind old new (fraction_of v) (some_of (fractions_of rest)) k h
    ∙ ap (λ b. old ++ cond b (some_of (fractions_of rest)) (fraction_of v
    ∷ some_of (fractions_of rest)))
    (sym (false_from_ne_true _ (λ z. n ((zero_is (fraction_of v)).0 z))))
    ∙ ap (λ l. old ++ some_of (fractions_of l)) (sym e)

pub sizes-push : (ws more : List Whole) (w : Whole) → more ≡ ws ++ w ∷ []
    → sizes more ≡ sizes ws ++ unsigned_abs w.value ∷ []
sizes-push ws more w e = ap sizes e ∙ map_push (λ (w : Whole). unsigned_abs w.value) ws w

pub behind_next : (f : Fraction → ℕ) (old : List Whole) {mid : List Whole} (new : List Whole)
    {values rest : List Frac} {v : Frac} (w : Whole)
    → values ≡ v ∷ rest → mid ≡ old ++ w ∷ [] → unsigned_abs w.value ≡ f (fraction_of v)
    → sizes new ≡ sizes mid ++ map f (fractions_of rest)
    → sizes new ≡ sizes old ++ map f (fractions_of values)
behind_next f old {mid = mid} new {rest = rest} w e k n h =
    more_behind (sizes old) _ _ (map f (fractions_of rest)) (sizes-push old mid w k) h
    ∙ ap (λ x. sizes old ++ x ∷ map f (fractions_of rest)) n
    ∙ ap (λ l. sizes old ++ map f (fractions_of l)) (sym e)

pub head_nonzero : {values rest : List Frac} {v : Frac} → values ≡ v ∷ rest
    → Each (λ c. c ≢ ℚ.zero) (fractions_of values)
    → (fraction_of v ≢ ℚ.zero) × Each (λ c. c ≢ ℚ.zero) (fractions_of rest)
unfolding Each
head_nonzero e h = subst (λ l. Each (λ c. c ≢ ℚ.zero) (fractions_of l)) e h

-- ---- all values
pub values_are : (new : List Frac) {old : List Frac} (vs : List Fraction)
    → fractions_of new ≡ fractions_of old ++ vs → old ≡ [] → fractions_of new ≡ vs
values_are new vs h e = h ∙ ap (λ l. fractions_of l ++ vs) e

pub positive_none : {ws : List Whole} → ws ≡ [] → ArePositive ws
positive_none e = subst ArePositive (sym e) (λ k d l. absurd (omega (arith, l)))

pub sizes_are : (last mid : List Whole) {old : List Whole} (vs : List Fraction) → old ≡ []
    → sizes mid ≡ sizes old ++ map (λ (c : Fraction). unsigned_abs c.num) vs
    → sizes last ≡ sizes mid ++ map (λ (c : Fraction). c.den) vs → sizes last ≡ sizes_of vs
sizes_are last mid vs e h k = k ∙ ap (λ l. l ++ map (λ (c : Fraction). c.den) vs) (h
    ∙ ap (λ l. sizes l ++ map (λ (c : Fraction). unsigned_abs c.num) vs) e)

-- ---- of one value
pub num_fits : (x : Frac) (z : ℤ) → z ≡ (fraction_of x).num → unsigned_abs z < 2 ^ 127
unfolding fraction_of
num_fits x z e = subst (λ y. unsigned_abs y < 2 ^ 127) (sym e) x.num.in_range

pub den_fits : (x : Frac) (z : ℤ) → z ≡ pos (fraction_of x).den → unsigned_abs z < 2 ^ 127
unfolding fraction_of
den_fits x z e = subst (λ y. unsigned_abs y < 2 ^ 127) (sym e) x.den.in_range

-- and are the same where a call has them
pub num_passed : (x : Frac) {z : ℤ} → z ≡ (fraction_of x).num
    → to_z w128 (of_z w128 z) ≡ (fraction_of x).num
num_passed x {z = z} e = to_z-of_z w128 z (fits_signed_from_abs w128 z (num_fits x z e)) ∙ e

pub den_passed : (x : Frac) {z : ℤ} → z ≡ pos (fraction_of x).den
    → to_z w128 (of_z w128 z) ≡ pos (fraction_of x).den
den_passed x {z = z} e = to_z-of_z w128 z (fits_signed_from_abs w128 z (den_fits x z e)) ∙ e

pub num_some : (x : Fraction) (z : ℤ) → z ≡ x.num → x ≢ ℚ.zero → z ≢ pos 0
num_some x z e n h = n (top_zero x (sym e ∙ h))

pub den_some : (x : Fraction) (z : ℤ) → z ≡ pos x.den → z ≢ pos 0
den_some x z e h = (let f = facts x in let l : 0 < x.den = f.some in let k : pos x.den ≡ pos 0 =
    sym e ∙ h in omega (arith, ints, l, k))

-- ---- of all
pub sizes_fit : (ws : List Whole) → Each (λ n. n < 2 ^ 127) (sizes ws)
unfolding Each
sizes_fit [] = tt
sizes_fit (w ∷ ws) = (w.in_range, sizes_fit ws)

sizes_count : (values : List Frac) → length (sizes_of (fractions_of values))
    ≡ length values + length values
sizes_count values =
    let vs = fractions_of values in
    let n = length-map values fraction_of in
    length-append (map (λ (c : Fraction). unsigned_abs c.num) vs)
    (map (λ (c : Fraction). c.den) vs)
    ∙ ap₂ (λ a b. a + b) (length-map vs _ ∙ n) (length-map vs _ ∙ n)

-- their base has few numbers
pub few_sizes : (ws found : List Whole) (values : List Frac) → length values ≤ 12
    → sizes ws ≡ sizes_of (fractions_of values) → ArePositive ws
    → IsTheBase (sizes ws) (sizes found) → length found ≤ 500
few_sizes ws found values l e h b =
    let n = ap length e ∙ sizes_count values in
    let few = base_few (sizes ws) (sizes found) (omega (arith, n, l)) (positive_sizes ws h)
    (sizes_fit ws) b in
    let count = length-map found (λ (w : Whole). unsigned_abs w.value) in
    omega (arith, few, count)
