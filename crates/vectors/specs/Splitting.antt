-- A linear map less multiples of the vector, and splitting.
--   vectors_of forms         forms without their values; roots e forms: each value e times
--   shift S t c v            v times (M - c), where t is multiplication by M; shifted: by its power k
--   after S t cs v           v times (M - c) for each c of the list
--   IsKilled S t c e v       v is killed by the power e of M - c; AllKilled: each form by that of its value
--   Taken S t e P c          what that power kills is in P
--   Splits S t P             a list of values in P that kills each vector
--   Found S t e P forms      what a search for such values ensures
--   IsTriangular S t c es fs     each of the fs times M - c is a combination of those before it
--   IsLevel S t c k es       the es are a basis of what the power k of M - c kills, and triangular
--   Pushing S t c k es tried new     the kernel vectors that were tried, and the forms that were taken from them
use Rattle.std.specs.Prelude.{◌≡◌, ◌⊎◌, ℕ, zero as nought, suc, List, [], ◌∷◌, ◌++◌}
use Rattle.algebra.specs.Ring.{CommRing}
use Rattle.algebra.specs.Each.{Each}
use Rattle.vectors.specs.Space.{Space, IsCombination, Independent}

-- forms with their values
abbrev pub vectors_of : {A V : Type 0} → List (V × A) → List V
vectors_of [] = []
vectors_of (f ∷ forms) = f.0 ∷ vectors_of forms

abbrev pub repeat : {A : Type 0} → ℕ → A → List A → List A
repeat nought c cs = cs
repeat (suc k) c cs = c ∷ repeat k c cs

-- each value so many times
abbrev pub roots : {A V : Type 0} → ℕ → List (V × A) → List A
roots e [] = []
roots e (f ∷ forms) = repeat e f.1 (roots e forms)

module _ {A V : Type 0} {R : CommRing A} (S : Space R V) (t : V → V) where
  -- v times (M - c)
  abbrev pub shift : A → V → V
  shift c v = S.add (t v) (S.neg (S.scale c v))

  -- v times (M - c)^k
  abbrev pub shift_power : A → ℕ → V → V
  shift_power c nought v = v
  shift_power c (suc k) v = shift_power c k (shift c v)

  -- v times (M - c) for each c of the list
  abbrev pub after : List A → V → V
  after [] v = v
  after (c ∷ cs) v = after cs (shift c v)

  -- it is killed by the power e of M - c
  abbrev pub IsKilled : A → ℕ → V → Type 0
  IsKilled c e v = shift_power c e v ≡ S.zero

  abbrev pub AllKilled : ℕ → List (V × A) → Type 0
  AllKilled e forms = Each (λ f. IsKilled f.1 e f.0) forms

  -- every vector that the power e of M - c kills is in P
  abbrev pub Taken : ℕ → (V → Type 0) → A → Type 0
  Taken e P c = (v : V) → IsKilled c e v → P v

  -- a list of allowed values whose product is zero
  pub record Splits (P : A → Type 0) : Type 0 where
    pub values : List A
    pub allowed : Each P values
    pub is_zero : (v : V) → after values v ≡ S.zero

  -- what the search ensures; e is the number of rows
  pub record Found (e : ℕ) (P : A → Type 0) (forms : List (V × A)) : Type 0 where
    pub killed : AllKilled e forms
    pub allowed : Each (λ f. P f.1) forms
    pub independent : Independent S (vectors_of forms)
    -- a value that is allowed was taken, or is no eigenvalue
    pub taken : (c : A) → P c
        → Taken e (IsCombination S (vectors_of forms)) c
        ⊎ ((v : V) → shift c v ≡ S.zero → v ≡ S.zero)

  -- each times M is c times it, and a combination of those before it
  abbrev pub IsTriangular : A → List V → List V → Type 0
  IsTriangular c es [] = Unit {0}
  IsTriangular c es (f ∷ fs) = IsCombination S es (shift c f) × IsTriangular c (es ++ (f ∷ [])) fs

  -- the forms es of the value c as far as the power k: a basis of its kernel
  pub record IsLevel (c : A) (k : ℕ) (es : List V) : Type 0 where
    pub killed : Each (IsKilled c k) es
    pub all : (v : V) → IsKilled c k v → IsCombination S es v
    pub independent : Independent S es
    pub triangular : IsTriangular c [] es

  -- the kernel vectors that were tried, and the forms that were taken from them
  pub record Pushing (c : A) (k : ℕ) (es tried new : List V) : Type 0 where
    pub independent : Independent S (es ++ new)
    pub killed : Each (IsKilled c (suc k)) new
    pub has : Each (IsCombination S (es ++ new)) tried
