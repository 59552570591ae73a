-- Forms of maps that are the same.
--   passes_along       a form that passes for the one passes for the other
--   fits, pass_on, pass_back, past_on, inverse_form_at     what is told of the form of a branch and of its map
--   backs_more         what holds of each of a list, at its place, and of one more
use Rattle.std.proofs.Common.{◌≡◌, ◌⊎◌, inl, inr, ◌<◌, ◌≤◌, ◌+◌, ℕ, List, [], ◌∷◌, ◌++◌, map, get_or, length, sym, ap, subst, subst₂, ◌∙◌, arith, Vec, Global}
use Rattle.std.specs.Prelude.{All, vec_len}
use Rattle.std.proofs.lemmas.List.{get_or-map, get_or_append_left, get_or_push, length-map}
use Rattle.algebra.specs.Each.{Each}
use Rattle.algebra.specs.Fraction.{Fraction, ℚ}
use Rattle.algebra.proofs.Fractions.{ℚ_ring}
use Rattle.polynomials.specs.Polynomial.{AllArity}
use Rattle.polynomials.specs.Terms.{Terms, AllSame, compose}
use Rattle.polynomials.proofs.Composition.{same_compose}
use Rattle.polynomials.proofs.Same.{AllSame-refl, AllSame-sym}
use Rattle.solvable_maps.specs.Expo.{with_normal_keys}
use Rattle.solvable_maps.specs.Iterations.{width}
use Rattle.solvable_maps.proofs.Retold.{same_normalized}
use Rattle.loops.specs.Map.{branch_map}
use Rattle.loops.proofs.Maps.{arity-branch_map}
use Rattle.rounds.specs.Form.{Form, front, inverse_of_form}
use Rattle.monos.specs.Variables.{most_variables}
use Rattle.poly.specs.Seen.{terms_in, terms_each}
use Rattle.poly.specs.Standing.{IsInVariables}
use Rattle.poly.proofs.Standing.{arities_over, stands_over, stands_same}
use Rattle.loop_model.specs.FracPoly.{FracPoly}
use Rattle.loop_model.specs.Maps.{IsBranchMap}
use Rattle.coprime_base.specs.Sizes.{sizes}
use Rattle.expo.specs.Bases.{IsCoprimeBase}
use Rattle.corollaries.specs.FormIdentities.{IsRightForm}
use Rattle.corollaries.specs.Full.{as_form, form_of}
use Rattle.corollaries.specs.Parts.{Holds, in_forms}
use Rattle.cert_checker.specs.Passing.{FitsForm, IsPastForm}
use Rattle.task_lists.specs.Images.{IsFormOver}
use Rattle.task_lists.specs.View.{form_in}
use Rattle.task_lists.specs.declared.parts.FullForm.{FullForm}
use Rattle.cert_checker.specs.FullJudge.{program_by, cert_by, IsFullJudge}
use Rattle.cert_checker.specs.InverseForm.{IsInverseForm}
use Rattle.cert_checker.specs.FullWide.{IsPastPart}
use Rattle.cert_checker.specs.declared.full_judge.FullJudge.{FullJudge}
use Rattle.cert_checker.proofs.Begun.{formed}
use Rattle.cert_form.proofs.ReadingBack.{all_same_trans}
use Rattle.cert_checker.proofs.VerdictLaws.{branch_count, map_of}

module _ (m : ℕ) (f : Form) (over : AllArity (width (length f.base) m) f.polys) where
  abbrev moved : Terms Fraction → Terms Fraction
  moved q = with_normal_keys (length f.base) (compose ℚ (width (length f.base) m) q f.polys)

  moved_same : (ps qs : List (Terms Fraction)) → AllArity m ps → AllArity m qs → AllSame ℚ ps qs
      → AllSame ℚ (map moved ps) (map moved qs)
  unfolding AllSame Each
  moved_same [] [] a b h = tt
  moved_same [] (q ∷ qs) a b h = absurd h
  moved_same (p ∷ ps) [] a b h = absurd h
  moved_same (p ∷ ps) (q ∷ qs) a b h = (
    same_normalized ℚ_ring (length f.base) _ _ (same_compose ℚ_ring m (width (length f.base) m) p q
        f.polys f.polys a.0 b.0 over over h.0 (AllSame-refl ℚ f.polys)),
    moved_same ps qs a.1 b.1 h.1,
  )

  pub passes_along : (ps qs : List (Terms Fraction)) → AllArity m ps → AllArity m qs
      → AllSame ℚ ps qs → IsRightForm ps m f → IsRightForm qs m f
  passes_along ps qs a b same h = record {
    ascending = h.ascending;
    coprime = h.coprime;
    normal = h.normal;
    at_zero = h.at_zero;
    goes_on = all_same_trans (map moved qs) (map moved ps) _
        (moved_same qs ps b a (AllSame-sym ℚ ps qs same)) h.goes_on;
  }

-- ---- the form of a branch
module _ {j : FullJudge} (own : IsFullJudge j) {b : ℕ} {form : FullForm}
    (images : Vec FracPoly Global) (k : b < length (program_by j).branches)
    (is : form ≡ get_or j.cert.now.forms.items b form)
    (stands : IsBranchMap (program_by j) images (get_or (program_by j).branches b [])) where
  abbrev m : ℕ
  m = length (program_by j).names

  abbrev r : ℕ
  r = length (sizes form.base.items)

  abbrev maps : List (Terms Fraction)
  maps = branch_map (program_by j) (get_or (program_by j).branches b [])

  -- its form in the code is that of the definition
  form_at : as_form (form_in form) ≡ form_of (cert_by j) b
  form_at = ap as_form (ap form_in is
      ∙ sym (get_or-map form_in j.cert.now.forms.items b form _ (formed own k)))

  numbers : vec_len form.base ≡ length (sizes form.base.items)
  numbers = form.base.ok.0 ∙ sym (length-map form.base.items _)

  form_over : IsFormOver m form
  form_over = subst (IsFormOver m) (sym is) (own.images.forms b form (formed own k))

  wide : All (IsInVariables (width r m)) form.polys.items
  wide = subst (λ n. All (IsInVariables (width n m)) form.polys.items) numbers form_over.polys

  many : length form.polys.items ≡ length (program_by j).names
  many = sym (length-map form.polys.items terms_in)
      ∙ ap (λ (f : Form). length f.polys) form_at
      ∙ own.counted.polys b _ (let n = length-map j.cert.now.forms.items form_in in
      let l = formed own k in
      omega (arith, l, n))

  few : length (sizes form.base.items) ≤ 1024
  few = subst (λ n. n ≤ 1024) numbers form_over.few

  -- and so is its map
  count : length images.items ≡ length (program_by j).names
  count = branch_count j.lp.now images.items _ stands

  arity : AllArity m maps
  arity = arity-branch_map (program_by j) (get_or (program_by j).branches b [])

  pub fits : FitsForm (length images.items) form.base form.polys images
  fits = subst (λ n. FitsForm n form.base form.polys images) (sym count) (record {
    some = j.lp.now.some_name;
    few = omega (arith, few, j.lp.now.few_names);
    count = many;
    over_width = wide;
    over_variables = stands_over m images.items maps stands;
  })

  polys_over : AllArity (width (length (sizes form.base.items)) m) (as_form (form_in form)).polys
  polys_over = arities_over (width r m) form.polys.items wide

  images_over : AllArity m (terms_each images.items)
  images_over = arities_over m images.items (stands_over m images.items maps stands)

  pub pass_on : IsRightForm (terms_each images.items) (length images.items)
      (as_form (form_in form)) → Holds (program_by j) (cert_by j) (in_forms b)
  pass_on h = subst (IsRightForm maps m) form_at
      (passes_along m (as_form (form_in form)) polys_over (terms_each images.items) maps
      images_over arity (stands_same m images.items maps stands)
      (subst (λ n. IsRightForm (terms_each images.items) n (as_form (form_in form))) count h))

  pub pass_back : Holds (program_by j) (cert_by j) (in_forms b)
      → IsRightForm (terms_each images.items) (length images.items) (as_form (form_in form))
  pass_back h = subst (λ n. IsRightForm (terms_each images.items) n (as_form (form_in form)))
      (sym count)
      (passes_along m (as_form (form_in form)) polys_over maps (terms_each images.items) arity
      images_over (AllSame-sym ℚ _ _ (stands_same m images.items maps stands))
      (subst (IsRightForm maps m) (sym form_at) h))

  pub past_on : IsPastForm (terms_each images.items) (length images.items)
      (as_form (form_in form)) → IsPastPart (program_by j) (cert_by j) (in_forms b)
  past_on h = record {
    images = terms_each images.items;
    is = map_of m images.items maps stands;
    past = subst₂ (IsPastForm (terms_each images.items)) count form_at h;
  }

  pub inverse_form_at : {back : Vec FracPoly Global}
      → terms_each back.items ≡ inverse_of_form (as_form (form_in form))
      → All (IsInVariables (width (length (sizes form.base.items)) (length images.items)))
      back.items → IsCoprimeBase (sizes form.base.items)
      → IsInverseForm (program_by j) j.cert.now b back
  inverse_form_at {back} same arities base = record {
    base = subst (λ (f : Form). IsCoprimeBase f.base) form_at base;
    few = subst (λ (f : Form). front (length f.base) + m ≤ most_variables) form_at
        (let e = few in omega (arith, e, j.lp.now.few_names));
    count = sym (length-map back.items terms_in) ∙ ap length same
        ∙ length-map (as_form (form_in form)).polys _ ∙ length-map form.polys.items terms_in
        ∙ many;
    arity = subst (λ (f : Form). All (IsInVariables (front (length f.base) + m)) back.items)
        form_at (subst (λ n. All (IsInVariables n) back.items) front_width arities);
    is = same ∙ ap inverse_of_form form_at;
  }
    where
      front_width : width (length (sizes form.base.items)) (length images.items)
          ≡ front (length (sizes form.base.items)) + length (program_by j).names
      front_width = omega (arith, count)

-- one more
pub backs_more : {X : Type 0} (P : ℕ → X → Type 0) (xs : List X) (x : X) (b : ℕ) → length xs ≡ b
    → ((j : ℕ) (d : X) → j < b → P j (get_or xs j d)) → P b x
    → (j : ℕ) (d : X) → j < b + 1 → P j (get_or (xs ++ x ∷ []) j d)
backs_more P xs x b e before here j d l = go (cases j b l)
  where
    cases : (i n : ℕ) → i < n + 1 → (i < n) ⊎ (n ≡ i)
    cases i n l = grind (arith, l)

    go : (j < b) ⊎ (b ≡ j) → P j (get_or (xs ++ x ∷ []) j d)
    go (inl k) = subst (P j) (sym (get_or_append_left xs (x ∷ []) d j (omega (arith, k, e))))
        (before j d k)
    go (inr k) = subst (λ i. P i (get_or (xs ++ x ∷ []) i d)) k
        (subst (P b) (sym (get_or_push xs x d b e)) here)
