-- From the identities of the code's polynomials to those of the certificate.
--   start_count, branch_count          a map has an image for each variable
--   map_of                             the images of a map are its polynomials
--   FitMap images basis, fit_map       there are images, and they and the elements are polynomials in as many variables
--   start_found, start_refused         what the search among the starts finds
--   start_long, step_long              where the identities multiply out to too many terms;  start_short, step_short: where they don't
--   step_found, step_refused           what the search among the steps finds
--   passed_more           the branches before pass
use Rattle.std.proofs.Common.{◌≡◌, ◌↔◌, ℕ, ◌<◌, ◌≤◌, ◌+◌, List, [], get_or, length, arith, sym, subst, subst₂, ◌∙◌}
use Rattle.std.specs.Prelude.{All, Vec, Option, Some, None}
use Rattle.std.specs.declared.alloc.Global.{Global}
use borrow.Author.Count.{below_more}
use Rattle.std.proofs.lemmas.List.{length-map}
use Rattle.algebra.specs.Fraction.{Fraction, ℚ}
use Rattle.algebra.proofs.Fractions.{ℚ_ring}
use Rattle.polynomials.specs.Terms.{Terms, Same, compose}
use Rattle.polynomials.specs.Polynomial.{AllArity, IsPolynomial}
use Rattle.polynomials.specs.Order.{grevlex}
use Rattle.polynomials.proofs.Same.{Same-refl, Same-sym, Same-trans}
use Rattle.polynomials.proofs.Composition.{same_compose}
use Rattle.loops.specs.Program.{Expr, Program, Statement}
use Rattle.loops.specs.Map.{start_map, branch_map}
use Rattle.loops.specs.Certificate.{Certificate, IsOver, PassesStart, PassesStep}
use Rattle.loops.proofs.Certificates.{arity_at}
use Rattle.loops.proofs.Maps.{arity-start_map, length-start_map, arity-branch_map, length-branch_map}
use Rattle.poly.specs.Seen.{terms_in, terms_each}
use Rattle.poly.specs.Standing.{IsInVariables, AllStandFor}
use Rattle.poly.proofs.Standing.{polynomial_over, arities_over, stands_over, stands_same, stands_length}
use Rattle.loop_model.specs.FracPoly.{FracPoly}
use Rattle.loop_model.specs.Maps.{AreFree}
use Rattle.loop_model.specs.View.{program_of}
use Rattle.loop_model.specs.declared.loop_.Loop.{Loop}
use Rattle.cert_form.specs.Cert.{Polys, HaveArity, IsWellSized, certificate_of}
use Rattle.cert_form.proofs.Kept.{kept_over}
use Rattle.cert_form.proofs.Zip.{seen_all}
use Rattle.cert_checker.specs.declared.error.CheckError.{CheckError}
use Rattle.cert_checker.specs.declared.error.CheckError.TheVariants as error
use Rattle.cert_checker.specs.Identities.{StartHolds, StepHolds, StartIsPast, StepIsPast, FirstFailure}
use Rattle.cert_checker.specs.Stops.{Stops, IfStops}
use Rattle.expansion.specs.Counts.{most_terms}
use Rattle.cert_checker.specs.Long.{start_terms, step_terms, total, IsFirstLong, IfLong}
use Rattle.cert_checker.specs.Short.{ShortStart, ShortStep}
use Rattle.cert_checker.specs.Places.{Place, at_start, in_branch}
use Rattle.cert_checker.specs.Wide.{IsMapOf, WideIdentity, LongIdentity, IfCheckRefused}

module _ (lp : Loop) where
  pub start_count : (images : List FracPoly) → AllStandFor (length (program_of lp).names) images
      (start_map (program_of lp)) → length images ≡ length (program_of lp).names
  start_count images h = stands_length (length (program_of lp).names) images
      (start_map (program_of lp)) h ∙ length-start_map (program_of lp)

  pub branch_count : (images : List FracPoly) (branch : List (Statement (Expr ℕ)))
      → AllStandFor (length (program_of lp).names) images (branch_map (program_of lp) branch)
      → length images ≡ length (program_of lp).names
  branch_count images branch h = stands_length (length (program_of lp).names) images _ h
      ∙ length-branch_map (program_of lp) branch

pub map_of : (m : ℕ) (images : List FracPoly) (maps : List (Terms Fraction))
    → AllStandFor m images maps → IsMapOf m (terms_each images) maps
map_of m images maps h = record {
  polynomials = seen_all (IsInVariables m) (IsPolynomial ℚ grevlex m) terms_in (polynomial_over m)
      images (stands_over m images maps h);
  same = stands_same m images maps h;
}

pub record FitMap (images : List FracPoly) (basis : Polys) : Type 0 where
  pub some : 0 < length images
  pub over : All (IsInVariables (length images)) images
  pub arity : HaveArity (length images) basis

pub fit_map : {m : ℕ} (images : List FracPoly) (maps : List (Terms Fraction)) (basis : Polys)
    → 0 < m → AllStandFor m images maps → length images ≡ m → HaveArity m basis
    → FitMap images basis
fit_map {m = m} images maps basis some stand count arities = record {
  some = omega (arith, some, count);
  over = subst (λ n. All (IsInVariables n) images) (sym count) (stands_over m images maps stand);
  arity = subst (λ n. HaveArity n basis) (sym count) arities;
}

-- ---- the same search
first_along : (P Q : ℕ → Type 0) (n k : ℕ) (o : Option ℕ) → ((i : ℕ) → P i ↔ Q i) → n ≡ k
    → FirstFailure P n o → FirstFailure Q k o
first_along P Q n k None h e f = λ i l. (h i).0 (f i (omega arith))
first_along P Q n k (Some i) h e f = record {
  within = let l : i < n = f.within in omega arith;
  fails = λ q. f.fails ((h i).1 q);
  before = λ j l. (h j).0 (f.before j l);
}

-- ---- the refusal of an identity, where all maps are formed
module _ (program : Program (Expr ℕ)) (c : Certificate) (place : Place) (C : ℕ → Type 0)
    (free : AreFree program) where
  wide_refused : ((i : ℕ) → C i → WideIdentity program c place i) → (e : CheckError)
      → IfStops e place C → IfCheckRefused program c e
  wide_refused told (error.Map e) h = absurd h
  wide_refused told (error.Limit at i) h = absurd h
  wide_refused told (error.Wide at i) h =
      (free, subst (λ p. WideIdentity program c p i) (sym h.0) (told i h.1))
  wide_refused told error.Memory h = tt

  long_refused : ((i : ℕ) → C i → LongIdentity program c place i) → (e : CheckError)
      → IfLong e place C → IfCheckRefused program c e
  long_refused told (error.Map e) h = absurd h
  long_refused told (error.Limit at i) h =
      (free, subst (λ p. LongIdentity program c p i) (sym h.0) (told i h.1))
  long_refused told (error.Wide at i) h = absurd h
  long_refused told error.Memory h = absurd h

module _ (lp : Loop) (basis : Polys) (steps : Vec (Vec Polys Global) Global)
    (kept : IsWellSized (length (program_of lp).names) basis steps) where
  abbrev program : Program (Expr ℕ)
  program = program_of lp

  abbrev m : ℕ
  m = length program.names

  abbrev c : Certificate
  c = certificate_of basis steps

  over : IsOver program c
  over = kept_over m basis steps kept

  same_count : length basis.items ≡ length c.basis
  same_count = sym (length-map basis.items terms_in)

  -- compositions with what the code has, and with the map
  same_images : (images : List FracPoly) (maps : List (Terms Fraction))
      → AllStandFor m images maps → AllArity m maps → (i : ℕ)
      → Same ℚ (compose ℚ m (get_or c.basis i []) (terms_each images))
      (compose ℚ m (get_or c.basis i []) maps)
  same_images images maps h a i =
      same_compose ℚ_ring m m (get_or c.basis i []) (get_or c.basis i []) (terms_each images) maps
      (arity_at m c.basis over.arities i) (arity_at m c.basis over.arities i)
      (arities_over m images (stands_over m images maps h)) a
      (Same-refl ℚ _) (stands_same m images maps h)

  along : {p q r : Terms Fraction} → Same ℚ p q → Same ℚ p r ↔ Same ℚ q r
  along s = ((λ h. Same-trans ℚ (Same-sym ℚ s) h), (λ h. Same-trans ℚ s h))

  -- ---- the start
  module _ (images : List FracPoly) (stand : AllStandFor m images (start_map program)) where
    -- the identities of the code are those of the certificate
    start_tells : (i : ℕ) → StartHolds (length images) c.basis (terms_each images) i
        ↔ PassesStart program c i
    start_tells i =
        subst (λ n. StartHolds n c.basis (terms_each images) i ↔ PassesStart program c i)
        (sym (start_count lp images stand))
        (along (same_images images (start_map program) stand (arity-start_map program) i))

    pub start_found : (o : Option ℕ)
        → FirstFailure (StartHolds (length images) c.basis (terms_each images)) (length basis.items)
        o → FirstFailure (PassesStart program c) (length c.basis) o
    start_found o = first_along _ _ _ _ o start_tells same_count

    pub start_refused : AreFree program → (e : CheckError) → IfStops e at_start
        (Stops (StartHolds (length images) c.basis (terms_each images))
        (StartIsPast c.basis (terms_each images)) (length basis.items)) → IfCheckRefused program c e
    start_refused free = wide_refused program c at_start _ free (λ i s. record {
      within = let l : i < length basis.items = s.within in omega (arith, same_count);
      before = λ j l. (start_tells j).0 (s.before j l);
      images = terms_each images;
      is = map_of m images _ stand;
      past = s.cause;
    })

    pub start_long : AreFree program → (e : CheckError) → IfLong e at_start
        (IsFirstLong (start_terms c.basis (terms_each images)) (length basis.items))
        → IfCheckRefused program c e
    start_long free = long_refused program c at_start _ free (λ i long. record {
      images = terms_each images;
      is = map_of m images _ stand;
      long = subst (λ n. IsFirstLong (start_terms c.basis (terms_each images)) n i) same_count long;
    })

    pub start_short : total (start_terms c.basis (terms_each images)) (length basis.items)
        ≤ most_terms → ShortStart program c
    start_short few = record {
      images = terms_each images;
      is = map_of m images _ stand;
      few = subst (λ n. total (start_terms c.basis (terms_each images)) n ≤ most_terms) same_count
          few;
    }

  -- ---- a branch
  module _ (b : ℕ) (images : List FracPoly)
      (stand : AllStandFor m images (branch_map program (get_or program.branches b [])))
      (rows : List (List (Terms Fraction))) (at : rows ≡ get_or c.steps b []) where
    step_tells : (i : ℕ) → StepHolds (length images) c.basis (terms_each images) rows i
        ↔ PassesStep program c b i
    step_tells i =
        subst₂ (λ n r. StepHolds n c.basis (terms_each images) r i ↔ PassesStep program c b i)
        (sym (branch_count lp images _ stand)) (sym at)
        (along (same_images images _ stand (arity-branch_map program _) i))

    pub step_found : (o : Option ℕ)
        → FirstFailure (StepHolds (length images) c.basis (terms_each images) rows)
        (length basis.items) o → FirstFailure (PassesStep program c b) (length c.basis) o
    step_found o = first_along _ _ _ _ o step_tells same_count

    pub step_short : total (step_terms c.basis (terms_each images) rows) (length basis.items)
        ≤ most_terms → ShortStep program c b
    step_short few = record {
      images = terms_each images;
      is = map_of m images _ stand;
      few = subst₂ (λ n r. total (step_terms c.basis (terms_each images) r) n ≤ most_terms)
          same_count at few;
    }

    module _ (inside : b < length program.branches)
        (starts : FirstFailure (PassesStart program c) (length c.basis) None)
        (earlier : (a j : ℕ) → a < b → j < length c.basis → PassesStep program c a j)
        (free : AreFree program) where
      pub step_refused : (e : CheckError) → IfStops e (in_branch b)
          (Stops (StepHolds (length images) c.basis (terms_each images) rows)
          (StepIsPast c.basis (terms_each images) rows) (length basis.items))
          → IfCheckRefused program c e
      step_refused = wide_refused program c (in_branch b) _ free (λ i s. record {
        branch_within = inside;
        within = let l : i < length basis.items = s.within in omega (arith, same_count);
        starts = starts;
        branches_before = earlier;
        before = λ j l. (step_tells j).0 (s.before j l);
        images = terms_each images;
        is = map_of m images _ stand;
        past = subst (λ r. StepIsPast c.basis (terms_each images) r i) at s.cause;
      })

      pub step_long : (e : CheckError) → IfLong e (in_branch b)
          (IsFirstLong (step_terms c.basis (terms_each images) rows) (length basis.items))
          → IfCheckRefused program c e
      step_long = long_refused program c (in_branch b) _ free (λ i long. record {
        branch_within = inside;
        starts = starts;
        branches_before = earlier;
        images = terms_each images;
        is = map_of m images _ stand;
        long = subst₂ (λ n r. IsFirstLong (step_terms c.basis (terms_each images) r) n i) same_count
            at long;
      })

-- ---- the branches in turn
pub passed_more : (program : Program (Expr ℕ)) (c : Certificate) (b : ℕ)
    → ((a j : ℕ) → a < b → j < length c.basis → PassesStep program c a j)
    → FirstFailure (PassesStep program c b) (length c.basis) None → (a j : ℕ) → a < b + 1
    → j < length c.basis → PassesStep program c a j
passed_more program c b before here a j l k = below_more (λ a. (j : ℕ) → j < length c.basis
    → PassesStep program c a j) b (λ a l j k. before a j l k) here a l j k
