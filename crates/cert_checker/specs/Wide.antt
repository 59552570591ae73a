-- The causes of the checker's refusals.
--   IsMapOf m images maps                   the images are the maps' polynomials, in m variables, with their terms in descending order
--   WideIdentity program c place i          all identities before it hold, and the weight of an operation of the identity of element i is past: of the start, or of the branch
--   LongIdentity program c place i          all identities before the place hold, and element i is the first up to which those of the place multiply out to more than most_terms terms
--   IfCheckRefused program c e                   the cause of the refusal e: a map of the loop can't be formed, or all can and an identity is too long or too wide; want of memory is free
use Rattle.std.specs.Prelude.{ℕ, ◌<◌, List, [], get_or, length, All}
use Rattle.algebra.specs.Fraction.{Fraction, ℚ}
use Rattle.polynomials.specs.Terms.{Terms, AllSame}
use Rattle.polynomials.specs.Polynomial.{IsPolynomial}
use Rattle.polynomials.specs.Order.{grevlex}
use Rattle.loops.specs.Program.{Expr, Program}
use Rattle.loops.specs.Map.{start_map, branch_map}
use Rattle.loops.specs.Certificate.{Certificate, PassesStart, PassesStep}
use Rattle.loop_model.specs.Maps.{maps_operations, AreFree}
use Rattle.cert_checker.specs.Forming.{IfUnformed}
use Rattle.cert_checker.specs.Identities.{StartIsPast, StepIsPast}
use Rattle.cert_checker.specs.Long.{start_terms, step_terms, IsFirstLong}
use Rattle.cert_checker.specs.Places.{Place, at_start, in_branch}
use Rattle.cert_checker.specs.Views.{place_view}
use Rattle.cert_checker.specs.declared.error.CheckError.{CheckError}
use Rattle.cert_checker.specs.declared.error.CheckError.TheVariants.{Map, Limit, Wide, Memory}

pub record IsMapOf (m : ℕ) (images maps : List (Terms Fraction)) : Type 0 where
  pub polynomials : All (IsPolynomial ℚ grevlex m) images
  pub same : AllSame ℚ images maps

module _ (program : Program (Expr ℕ)) (c : Certificate) where
  pub record WideStart (i : ℕ) : Type 0 where
    pub within : i < length c.basis
    pub before : (j : ℕ) → j < i → PassesStart program c j
    pub images : List (Terms Fraction)
    pub is : IsMapOf (length program.names) images (start_map program)
    pub past : StartIsPast c.basis images i

  pub record WideStep (b i : ℕ) : Type 0 where
    pub branch_within : b < length program.branches
    pub within : i < length c.basis
    pub starts : (j : ℕ) → j < length c.basis → PassesStart program c j
    pub branches_before : (a j : ℕ) → a < b → j < length c.basis → PassesStep program c a j
    pub before : (j : ℕ) → j < i → PassesStep program c b j
    pub images : List (Terms Fraction)
    pub is : IsMapOf (length program.names) images
        (branch_map program (get_or program.branches b []))
    pub past : StepIsPast c.basis images (get_or c.steps b []) i

  abbrev pub WideIdentity : Place → ℕ → Type 0
  WideIdentity at_start i = WideStart i
  WideIdentity (in_branch b) i = WideStep b i

module _ (program : Program (Expr ℕ)) (c : Certificate) where
  pub record LongStart (i : ℕ) : Type 0 where
    pub images : List (Terms Fraction)
    pub is : IsMapOf (length program.names) images (start_map program)
    pub long : IsFirstLong (start_terms c.basis images) (length c.basis) i

  pub record LongStep (b i : ℕ) : Type 0 where
    pub branch_within : b < length program.branches
    pub starts : (j : ℕ) → j < length c.basis → PassesStart program c j
    pub branches_before : (a j : ℕ) → a < b → j < length c.basis → PassesStep program c a j
    pub images : List (Terms Fraction)
    pub is : IsMapOf (length program.names) images
        (branch_map program (get_or program.branches b []))
    pub long : IsFirstLong (step_terms c.basis images (get_or c.steps b [])) (length c.basis) i

  abbrev pub LongIdentity : Place → ℕ → Type 0
  LongIdentity at_start i = LongStart i
  LongIdentity (in_branch b) i = LongStep b i

abbrev pub IfCheckRefused : Program (Expr ℕ) → Certificate → CheckError → Type 0
IfCheckRefused program c (Map e) = IfUnformed (length program.names) (maps_operations program)
    (Map e)
IfCheckRefused program c (Limit place i) =
    AreFree program × LongIdentity program c (place_view place) i
IfCheckRefused program c (Wide place i) =
    AreFree program × WideIdentity program c (place_view place) i
IfCheckRefused program c Memory = Unit {0}
