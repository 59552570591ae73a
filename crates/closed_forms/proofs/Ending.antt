-- The closed form of a map from what its calls give.
--   form_base_is                     the base of the values of the classes' forms, but zero, is the map's
--   all_pass                         no class is refused
--   of_class, later_class, later_iteration, later_state, refused_on, refused_first, refused_later     what a refusal tells;  is_too_long: that a class is too long
--   closed_is, closed_count          the polynomials are a closed form, as many as variables
use Rattle.std.proofs.Common.{◌≡◌, inl, inr, ◌<◌, ℕ, suc, List, [], ◌∷◌, length, replicate, get_or, All, Option, Some, None, Result, Ok, Err, refl, sym, ap, subst, ◌∙◌, arith}
use Rattle.std.specs.Prelude.{MatchOption}
use Rattle.std.specs.Result.{IfErr, IsErrAnd}
use Rattle.std.proofs.lemmas.List.{length-map, length-replicate, get_or_default}
use Rattle.algebra.specs.In.{In}
use Rattle.algebra.proofs.In.{in_either, each_in, each_from}
use Rattle.algebra.specs.Fraction.{Fraction, ℚ}
use Rattle.polynomials.specs.Terms.{Terms}
use Rattle.solvable_maps.specs.Class.{AreClasses}
use Rattle.solvable_maps.specs.Uses.{uses, IsMap}
use Rattle.exponentials.specs.Base.{IsTheBase}
use Rattle.linear.specs.Rows.{fractions_of, rows_of}
use Rattle.eigen_split.specs.declared.splitting.Split.{Split}
use Rattle.poly.specs.Seen.{terms_each}
use Rattle.solvable.proofs.Using.{FracPoly}
use Rattle.solvable.specs.Refusal.{IsSolvable}
use Rattle.solvable_maps.specs.Classes.{IsFormBase, IsReachedClass, first_of, sizes_of}
use Rattle.solvable_maps.specs.Iterations.{IsClosedFormFrom}
use Rattle.solvable_maps.proofs.Values.{iterations-length}
use Rattle.solvable_maps.proofs.Classwise.{form_base}
use Rattle.expo.specs.declared.exponential.Expo.{Expo}
use Rattle.closed_forms.specs.declared.errors.FormsError.{FormsError}
use Rattle.closed_forms.specs.declared.errors.FormsError.TheVariants.{NotSolvable, Eigen, Range, WideSplit, LimitForm, WideForm, Memory}
use Rattle.closed_forms.specs.Known.{AreKnown}
use Rattle.closed_forms.specs.Lengths.{IsLongAmong, AreShort}
use Rattle.closed_forms.specs.Refusal.{AllPass, IsTooLong, IfOfClass, IfWide, IfWideIteration, IsWideForm, state_past, class_past, iteration_past, IsLater, IfLater, IfRefusedBy}
use Rattle.closed_forms.specs.Splits.{AreSplits, IfRefusedAt}
use Rattle.closed_forms.specs.States.{some_of, AreZeros, IsPastState}
use Rattle.closed_forms.specs.Values.{values_in, bodies_of, AreOver}
use Rattle.closed_forms.proofs.Placing.{known_last, bodies-count, over_normals}
use Rattle.closed_forms.proofs.Filling.{some_values, in_some, values_at}
use Rattle.closed_forms.proofs.Turning.{normal-arities}
use Rattle.closed_forms.proofs.Splitting.{first_in, map_of, splits_pass}

-- ---- the values of splittings
record IsOfSplit (splits : List (Option Split)) (c : Fraction) : Type 0 where
  place : ℕ
  within : place < length splits
  split : Split
  is : get_or splits place None ≡ Some split
  among : In c (fractions_of split.values.items)

one_behind : {splits : List (Option Split)} {c : Fraction} (first : Option Split)
    → IsOfSplit splits c → IsOfSplit (first ∷ splits) c
one_behind first r = record {
  place = suc r.place;
  within = (let l = r.within in omega (arith, l));
  split = r.split;
  is = r.is;
  among = r.among;
}

of_split : (splits : List (Option Split)) (c : Fraction) → In c (values_in splits)
    → IsOfSplit splits c
of_split [] c i = absurd i
of_split (None ∷ splits) c i = one_behind None (of_split splits c i)
of_split (Some split ∷ splits) c i =
    elim (in_either c _ (values_in splits) i) [
      | inl e ↦ record { place = 0; within = omega arith; split = split; is = refl; among = e }
      | inr e ↦ one_behind (Some split) (of_split splits c e)
    ]

values_from : (splits : List (Option Split)) (k : ℕ) (split : Split) → k < length splits
    → get_or splits k None ≡ Some split → (c : Fraction) → In c (fractions_of split.values.items)
    → In c (values_in splits)
values_from splits k split l e c i = each_in _ _ c
    (values_at (λ x. In x (values_in splits)) splits k (Some split) split l
    (sym e ∙ get_or_default splits k None (Some split) l) refl
    (each_from (values_in splits) (λ x i. i))) i

module _ {images : List (Terms Fraction)} {splits : List (Option Split)}
    (are : AreSplits images splits) where
  pub form_base_is : IsMap (length images) images → (base : List ℕ)
      → IsTheBase (sizes_of (some_of (values_in splits))) base → IsFormBase images base
  form_base_is is base b = form_base images is (some_of (values_in splits)) base
      (λ g class.
      let low : first_of g < length images =
      (class.is.inside (first_of g) (first_in images g class)).0 in
      let count = are.count in
      let within : first_of g < length splits = omega (arith, low, count) in
      let s = (are.each (first_of g) None within).every g class refl in (
        rows_of s.0.forms.items,
        fractions_of s.0.values.items,
        s.2.are,
        λ c i n. some_values (values_in splits) c
            (values_from splits (first_of g) s.0 within s.1 c i) n,
      ))
      (λ c i.
      let r = of_split splits c (in_some (values_in splits) c i).0 in
      let s = (are.each r.place None r.within).only r.split r.is in
      (s.0, rows_of r.split.forms.items, fractions_of r.split.values.items, s.1, s.3.are, r.among))
      b

-- ---- refusals
pub all_pass : (images : List FracPoly) → All (λ (p : FracPoly). p.arity ≡ length images) images
    → {splits : List (Option Split)} → AreSplits (terms_each images) splits
    → AllPass (terms_each images)
all_pass images square {splits = splits} are =
    splits_pass (terms_each images) (map_of images square) splits are

pub of_class : (P Q : ℕ → Type 0) → ((v : ℕ) → P v → Q v) → (e : FormsError) → IfOfClass P e
    → IfOfClass Q e
of_class P Q f (NotSolvable cycle) h = absurd h
of_class P Q f (Eigen class) h = absurd h
of_class P Q f (Range class sum) h = absurd h
of_class P Q f (WideSplit class candidate power row) h = absurd h
of_class P Q f (LimitForm variable) h = absurd h
of_class P Q f (WideForm variable) h = f variable h
of_class P Q f Memory h = tt

module _ {images : List (Terms Fraction)} {base : List ℕ} (b : IsFormBase images base) {z : ℕ}
    (zeros : AreZeros images z) where
  later_of : (v : ℕ) → IsWideForm base images z v → IsLater images v
  later_of v h = record { base = base; is = b; zeros = z; are = zeros; wide = h }

  pub later_class : (e : FormsError) → IfWide base images z e → IfLater images e
  later_class e h = of_class _ _ (λ v w. later_of v (class_past w)) e h

  pub later_iteration : (e : FormsError) → IfWideIteration base images z e → IfLater images e
  later_iteration e h = of_class _ _ (λ v w. later_of v (iteration_past w)) e h

  pub later_state : IsPastState images z → IsLater images 0
  later_state h = later_of 0 (state_past refl h)

pub refused_on : {A : Type 0} (P : FormsError → Type 0) (e : FormsError) (r : Result A FormsError)
    → IsErrAnd r (λ f. f ≡ e) → P e → IfErr r P
refused_on P e (Ok x) h p = tt
refused_on P e (Err f) h p = subst P (sym h) p

pub refused_first : (images : List (Terms Fraction)) (e : FormsError)
    → IfRefusedAt images (IsReachedClass images) e → IfRefusedBy images e
refused_first images (NotSolvable cycle) h = absurd h
refused_first images (Eigen class) h = h
refused_first images (Range class sum) h = h
refused_first images (WideSplit class candidate power row) h = h
refused_first images (LimitForm variable) h = absurd h
refused_first images (WideForm variable) h = absurd h
refused_first images Memory h = tt

pub refused_later : {images : List (Terms Fraction)} → IsSolvable images → AllPass images
    → (e : FormsError) → IfLater images e → IfRefusedBy images e
refused_later none pass (NotSolvable cycle) h = absurd h
refused_later none pass (Eigen class) h = absurd h
refused_later none pass (Range class sum) h = absurd h
refused_later none pass (WideSplit class candidate power row) h = absurd h
refused_later none pass (LimitForm variable) h = absurd h
refused_later none pass (WideForm variable) h = record {
  solvable = none;
  pass = pass;
  later = h;
}
refused_later none pass Memory h = tt

-- ---- lengths
pub is_too_long : (images : List (Terms Fraction)) → IsSolvable images → AllPass images
    → (groups : List (List ℕ)) → AreClasses (uses images) (length images) [] groups
    → {n v : ℕ} {o : Option ℕ} → n ≡ length images → o ≡ Some v
    → MatchOption o (AreShort images groups (replicate n 1))
    (IsLongAmong images groups (replicate n 1))
    → IsTooLong images v
is_too_long images none pass groups are {n = n} {v = v} size e h = record {
  solvable = none;
  pass = pass;
  long = record {
    groups = groups;
    are = are;
    long = subst (λ k. IsLongAmong images groups (replicate k 1) v) size
        (subst (λ x. MatchOption x (AreShort images groups (replicate n 1))
        (IsLongAmong images groups (replicate n 1))) e h);
  };
}

-- ---- the closed form
pub closed_is : (base : List ℕ) (images : List (Terms Fraction)) (splits : List (Option Split))
    (z : ℕ) (es : List Expo) → AreOver base (length images) es
    → AreKnown base images splits z [] (bodies_of es)
    → IsClosedFormFrom base images z (bodies_of es)
closed_is base images splits z es over known = known_last (bodies_of es) known
    (normal-arities base (length images) (bodies_of es) (over_normals es over))

-- as many polynomials as variables
pub closed_count : {base : List ℕ} {images : List (Terms Fraction)} (since : ℕ) (es : List Expo)
    → IsClosedFormFrom base images since (bodies_of es) → length es ≡ length images
closed_count {images = images} since es c =
    let s = replicate (length images) ℚ.zero in
    sym (bodies-count es) ∙ sym (length-map (bodies_of es) _)
    ∙ ap length (c.values since s (length-replicate (length images) ℚ.zero) (omega arith))
    ∙ iterations-length ℚ images (length images) refl since s (length-replicate (length images)
    ℚ.zero)
