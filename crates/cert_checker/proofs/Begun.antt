-- What the stages of a branch begin with in the code.
--   formed, in_round               a branch has a form, and stands in each round
--   orbit_is, meet_is              the stages of the code are those of the definition;  some_meet: there is an intersection
--   given_here                     and so is the list that they give
--   branch_over, meet_over, given_over     they have the variables and orders that they should have
--   polys_are, front_is            so are the polynomials of the form, and how many variables stand in front of an orbit
--   orbit_fits, orbit_starts, orbit_past     what an orbit begins with
use Rattle.std.proofs.Common.{◌≡◌, ◌<◌, ◌≤◌, ◌+◌, ℕ, zero, suc, List, [], ◌∷◌, get_or, length, refl, sym, ap, ap₂, subst, subst₂, ◌∙◌, arith}
use Rattle.std.specs.Prelude.{All, Option, Some, None, Vec, vec_len, IfSome, is_some}
use Rattle.std.specs.declared.alloc.Global.{Global}
use Rattle.std.specs.List.{AllZip}
use Rattle.std.specs.Option.{option_map}
use Rattle.std.proofs.lemmas.List.{get_or-map, length-map}
use Rattle.rounds.specs.Form.{front, whole_orbit_list}
use Rattle.monos.specs.Variables.{most_variables}
use Rattle.poly.specs.Seen.{terms_each}
use Rattle.poly.specs.Standing.{IsInVariables}
use Rattle.loop_model.specs.FracPoly.{FracPoly}
use Rattle.coprime_base.specs.Sizes.{sizes}
use Rattle.expo.specs.Bases.{IsCoprimeBase}
use Rattle.corollaries.specs.Counts.{no_branch}
use Rattle.corollaries.specs.Full.{WrittenForm, orbit, meet, form_of, of_kind, of_option, stage_of, so_far, before, front_of, starting}
use Rattle.task_lists.specs.Starting.{orbit_starting, FitsOrbit, IsPastOrbit}
use Rattle.task_lists.specs.Images.{ArePolys, IsStageIn, IsBranchIn}
use Rattle.task_lists.specs.View.{form_in, stage_in, branch_in, round_in}
use Rattle.task_lists.specs.declared.parts.FullForm.{FullForm}
use Rattle.task_lists.specs.declared.parts.FullStage.{FullStage}
use Rattle.task_lists.specs.declared.parts.FullBranch.{FullBranch}
use Rattle.cert_checker.specs.FullJudge.{program_by, cert_by, IsFullJudge}
use Rattle.cert_checker.specs.InverseForm.{IsInverseForm, given_list, IsGivenOver}
use Rattle.cert_checker.specs.FullWide.{IsPastBegun}
use Rattle.cert_checker.specs.declared.full_judge.FullJudge.{FullJudge}
use Rattle.cert_checker.proofs.Branches.{branch_at, round_size, given_is}

zip_at : {A B : Type 0} (R : A → B → Type 0) (xs : List A) (ys : List B) (i : ℕ) (d : A) (e : B)
    → AllZip R xs ys → i < length ys → R (get_or xs i d) (get_or ys i e)
zip_at R [] [] i d e z l = absurd (omega arith)
zip_at R [] (y ∷ ys) i d e z l = absurd z
zip_at R (x ∷ xs) [] i d e z l = absurd z
zip_at R (x ∷ xs) (y ∷ ys) zero d e z l = z.0
zip_at R (x ∷ xs) (y ∷ ys) (suc i) d e z l = zip_at R xs ys i d e z.1 (omega (arith, l))

some_weaker : {A : Type 0} (P Q : A → Type 0) → ((x : A) → P x → Q x) → (o : Option A)
    → IfSome o P → IfSome o Q
some_weaker P Q f None h = tt
some_weaker P Q f (Some x) h = f x h

some_at : {A : Type 0} (xs : List A) (i : ℕ) → i < length xs → (x : A) × (x ≡ get_or xs i x)
some_at [] i l = absurd (omega arith)
some_at (x ∷ xs) zero l = (x, refl)
some_at (x ∷ xs) (suc i) l = some_at xs i (omega (arith, l))

-- ---- of the judge
module _ {j : FullJudge} (is : IsFullJudge j) where
  pub formed : {b : ℕ} → b < length (program_by j).branches → b < length j.cert.now.forms.items
  formed {b} k = let n = length-map j.cert.now.forms.items form_in in
      omega (arith, n, is.counted.forms, k)

  -- a branch of a round
  module _ {r : ℕ} {round : Vec FullBranch Global} {b : ℕ} (l : r < length (cert_by j).rounds)
      (at : round ≡ get_or j.cert.now.rounds.items r round)
      (k : b < length (program_by j).branches) where
    in_rounds : r < length j.cert.now.rounds.items
    in_rounds = let n = length-map j.cert.now.rounds.items round_in in omega (arith, n, l)

    pub in_round : b < vec_len round
    in_round =
        let n = round_size j.cert.now r round in_rounds at (program_by j) is.counted in
        omega (arith, n, k)

    inside : b < length round.items
    inside = let n = round.ok.0 in let i = in_round in omega (arith, n, i)

    module _ {branch : FullBranch} (here : branch ≡ get_or round.items b branch) where
      branch_is : branch_in branch ≡ get_or (get_or (cert_by j).rounds r []) b no_branch
      branch_is = branch_at j.cert.now r round in_rounds at b branch inside here

      pub orbit_is : stage_in branch.orbit ≡ stage_of (cert_by j) r b orbit
      orbit_is = ap (λ s. of_kind s orbit) branch_is

      pub meet_is : {stage : FullStage} → branch.meet ≡ Some stage
          → stage_in stage ≡ stage_of (cert_by j) r b meet
      meet_is some = sym (ap (λ o. of_option (option_map stage_in o)) some)
          ∙ ap (λ s. of_kind s meet) branch_is

      pub some_meet : is_some (option_map stage_in branch.meet)
          ≡ is_some (get_or (get_or (cert_by j).rounds r []) b no_branch).meet_stage
      some_meet = ap (λ s. is_some s.meet_stage) branch_is

      pub given_here : given_list (branch_in branch) ≡ so_far (cert_by j) r b
      given_here = ap given_list branch_is ∙ given_is (program_by j) (cert_by j) is.counted r b l k

      pub branch_over : {form : FullForm} → form ≡ get_or j.cert.now.forms.items b form
          → IsBranchIn (length (program_by j).names) form branch
      branch_over {form} found = subst₂ (IsBranchIn (length (program_by j).names)) (sym found)
          (sym here) (zip_at (IsBranchIn (length (program_by j).names)) j.cert.now.forms.items
          round.items b form branch
          (subst (λ (v : Vec FullBranch Global).
          AllZip (IsBranchIn (length (program_by j).names)) j.cert.now.forms.items v.items) (sym at)
          (is.images.rounds r round in_rounds)) inside)

      one_over : (form : FullForm) × IsBranchIn (length (program_by j).names) form branch
      one_over = let one = some_at j.cert.now.forms.items b (formed k) in
          (one.0, branch_over one.1)

      pub meet_over : {stage : FullStage} → branch.meet ≡ Some stage
          → IsStageIn 1 (length (program_by j).names) stage
      meet_over some = subst (λ o. IfSome o (IsStageIn 1 (length (program_by j).names))) some
          one_over.1.meet

      pub given_over : IsGivenOver (length (program_by j).names) branch
      given_over = (
        one_over.1.orbit.out,
        some_weaker (IsStageIn 1 (length (program_by j).names))
            (λ s. ArePolys (length (program_by j).names) s.out) (λ s h. h.out) branch.meet
            one_over.1.meet,
      )

  -- the form of a branch
  module _ {b : ℕ} {form : FullForm} (k : b < length (program_by j).branches)
      (at : form ≡ get_or j.cert.now.forms.items b form) where
    form_is : form_in form ≡ get_or (cert_by j).forms b (record { base = []; polys = [] })
    form_is = ap form_in at ∙ sym (get_or-map form_in j.cert.now.forms.items b form _ (formed k))

    pub polys_are : terms_each form.polys.items ≡ (form_of (cert_by j) b).polys
    polys_are = ap (λ (f : WrittenForm). f.polys) form_is

    base_is : sizes form.base.items ≡ (form_of (cert_by j) b).base
    base_is = ap (λ (f : WrittenForm). f.base) form_is

    pub front_is : {n : ℕ} → n ≡ front (vec_len form.base) → n ≡ front_of (cert_by j) b orbit
    front_is e = e ∙ ap front (form.base.ok.0 ∙ sym (length-map form.base.items _)
        ∙ ap length base_is)

    -- what an orbit begins with
    module _ {m : ℕ} {back : Vec FracPoly Global} (list : Vec FracPoly Global)
        (h : IsInverseForm (program_by j) j.cert.now b back)
        (e : m ≡ length (program_by j).names) where
      pub orbit_fits : 0 < length (program_by j).names
          → ArePolys (length (program_by j).names) list → FitsOrbit m form.base back list.items
      orbit_fits some over =
          subst (λ n. FitsOrbit n form.base back list.items) (sym e) (record {
            some = some;
            coprime = subst IsCoprimeBase (sym base_is) h.base;
            few = subst (λ bs. front (length bs) + length (program_by j).names ≤ most_variables)
                (sym base_is) h.few;
            count = h.count;
            backs = subst (λ bs. All (IsInVariables (front (length bs)
                + length (program_by j).names)) back.items) (sym base_is) h.arity;
            elements = over;
          })

      module _ (r : ℕ)
          (same : terms_each list.items ≡ before (program_by j) (cert_by j) r) where
        pub orbit_starts : orbit_starting m form.base back list.items
            ≡ starting (program_by j) (cert_by j) r b orbit
        orbit_starts = ap (λ n. orbit_starting n form.base back list.items) e
            ∙ ap (λ bs. whole_orbit_list (length bs) (length (program_by j).names)
            (terms_each back.items) (terms_each list.items)) base_is
            ∙ ap₂ (whole_orbit_list (length (form_of (cert_by j) b).base)
            (length (program_by j).names)) h.is same

        pub orbit_past : (i : ℕ) → IsPastOrbit (terms_each back.items) (terms_each list.items) i
            → IsPastBegun (program_by j) (cert_by j) r b orbit i
        orbit_past i past = subst₂ (λ ks gs. IsPastOrbit ks gs i) h.is same past
