-- Bases: pairwise coprime numbers above 1, of whose powers other numbers are products.
--   product bs e           the product of the powers; a missing exponent is 0
--   Coprime bs             above 1 and pairwise coprime
--   SameLength bs e              as many exponents as numbers
--   Disjoint u v           no place of both lists has a number above zero in both
--   IsProductOf bs x       x is a product of powers of bs
--   IsBase list bs         bs is coprime, and each of the list is made of it
--   IsCoarsest list bs     and bs is made of every other such list
--   Ascending xs           each is below all later ones
--   Divides list x         x divides one of the list
--   IsTheBase list bs      the coarsest base, ascending, each of which divides one of the list
use Rattle.std.specs.Prelude.{◌≡◌, ◌⊎◌, ℕ, ◌*◌, ◌^◌, ◌<◌, List, [], ◌∷◌}
use Prim.Native.Nat.{◌∣◌}
use Rattle.algebra.specs.Each.{Each}
use Rattle.algebra.specs.In.{In}
use Rattle.algebra.specs.Gcd.{gcd}

abbrev pub product : List ℕ → List ℕ → ℕ
product [] e = 1
product (b ∷ bs) [] = 1
product (b ∷ bs) (n ∷ e) = b ^ n * product bs e

abbrev pub Coprime : List ℕ → Type 0
Coprime [] = Unit {0}
Coprime (b ∷ bs) = (1 < b) × Each (λ c. gcd b c ≡ 1) bs × Coprime bs

abbrev pub SameLength : List ℕ → List ℕ → Type 0
SameLength [] [] = Unit {0}
SameLength [] (n ∷ e) = ⊥
SameLength (b ∷ bs) [] = ⊥
SameLength (b ∷ bs) (n ∷ e) = SameLength bs e

abbrev pub Disjoint : List ℕ → List ℕ → Type 0
Disjoint [] v = Unit {0}
Disjoint (m ∷ u) [] = Unit {0}
Disjoint (m ∷ u) (n ∷ v) = ((m ≡ 0) ⊎ (n ≡ 0)) × Disjoint u v

pub record IsProductOf (bs : List ℕ) (x : ℕ) : Type 0 where
  pub exponents : List ℕ
  pub fits : SameLength bs exponents
  pub is : product bs exponents ≡ x

pub record IsBase (list bs : List ℕ) : Type 0 where
  pub coprime : Coprime bs
  pub products : Each (IsProductOf bs) list

pub record IsCoarsest (list bs : List ℕ) : Type 0 where
  pub base : IsBase list bs
  pub coarsest : (cs : List ℕ) → IsBase list cs → Each (IsProductOf cs) bs

abbrev pub Ascending : List ℕ → Type 0
Ascending [] = Unit {0}
Ascending (x ∷ xs) = Each (λ y. x < y) xs × Ascending xs

pub record Divides (list : List ℕ) (x : ℕ) : Type 0 where
  pub number : ℕ
  pub within : In number list
  pub divides : x ∣ number

pub record IsTheBase (list bs : List ℕ) : Type 0 where
  pub coarsest : IsCoarsest list bs
  pub ascending : Ascending bs
  pub divides : Each (Divides list) bs
