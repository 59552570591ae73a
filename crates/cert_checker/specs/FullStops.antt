-- Where the judging of parts stops.
--   IsToldAs part found e   e tells that the part doesn't hold, or that it is too wide, as it was found; want of memory is free
--   Behind P ps a W         a is one of the parts ps, those before it hold, and W
--   IsStop see P W ps e     the judging of the parts ps stops for e: at a part that doesn't hold, or that is too wide; want of memory is free
--   StopsAt P W n e         so, where the parts are the numbers below n;  stop_map f e: the stop at f of the part
use Rattle.std.specs.Prelude.{◌≡◌, ℕ, ◌<◌, Bool, false, List, ◌∷◌, ◌++◌, Result, Ok, Err}
use Rattle.algebra.specs.Each.{Each}
use Rattle.ring_laws.specs.declared.ArithmeticError.{ArithmeticError}
use Rattle.ring_laws.specs.declared.ArithmeticError.TheVariants as arithmetic_error
use Rattle.cert_checker.specs.declared.full_stop.Stop.{Stop}
use Rattle.cert_checker.specs.declared.full_stop.Stop.TheVariants.{Fails, Wide, Memory}

abbrev pub IsToldAs : {P : Type 0} → P → Result Bool ArithmeticError → Stop P → Type 0
IsToldAs part found (Fails p) = (p ≡ part) × (found ≡ Ok false)
IsToldAs part found (Wide p) = (p ≡ part) × (found ≡ Err arithmetic_error.Wide)
IsToldAs part found Memory = Unit {0}

pub record Behind {A : Type 0} (P : A → Type 0) (ps : List A) (a : A) (W : Type 0) : Type 0 where
  pub earlier : List A
  pub later : List A
  pub is : ps ≡ earlier ++ a ∷ later
  pub holds : Each P earlier
  pub cause : W

module _ {Q A : Type 0} (see : Q → A) (P W : A → Type 0) where
  abbrev pub IsStop : List A → Stop Q → Type 0
  IsStop ps (Fails q) = Behind P ps (see q) (P (see q) → ⊥)
  IsStop ps (Wide q) = Behind P ps (see q) (W (see q))
  IsStop ps Memory = Unit {0}

pub record AtNumber (P : ℕ → Type 0) (n i : ℕ) (W : Type 0) : Type 0 where
  pub within : i < n
  pub before : (j : ℕ) → j < i → P j
  pub cause : W

abbrev pub StopsAt : (P W : ℕ → Type 0) → ℕ → Stop ℕ → Type 0
StopsAt P W n (Fails i) = AtNumber P n i (P i → ⊥)
StopsAt P W n (Wide i) = AtNumber P n i (W i)
StopsAt P W n Memory = Unit {0}

abbrev pub stop_map : {P Q : Type 0} → (P → Q) → Stop P → Stop Q
stop_map f (Fails p) = Fails (f p)
stop_map f (Wide p) = Wide (f p)
stop_map f Memory = Memory
