-- Vector spaces, combinations of a list of vectors, and linear maps.
--   Space R V                sums, opposites and multiples in V, with their laws
--   combine S f vs           the sum of the vs, each times its coefficient; IsCombination S vs v: v is one
--   Independent S vs         a combination is zero only by coefficients that are zero
--   IsLinear S t             t keeps sums and multiples
use Rattle.std.specs.Prelude.{◌≡◌, ℕ, suc, ◌<◌, List, [], ◌∷◌, length}
use Rattle.algebra.specs.Ring.{CommRing}

pub record Space {A : Type 0} (R : CommRing A) (V : Type 0) : Type 0 where
  pub zero : V
  pub add : V → V → V
  pub neg : V → V
  pub scale : A → V → V
  pub add_assoc : (u v w : V) → add (add u v) w ≡ add u (add v w)
  pub add_comm : (v w : V) → add v w ≡ add w v
  pub zero-add : (v : V) → add zero v ≡ v
  pub neg-add : (v : V) → add (neg v) v ≡ zero
  pub scale-add : (c : A) (v w : V) → scale c (add v w) ≡ add (scale c v) (scale c w)
  pub add-scale : (c d : A) (v : V) → scale (R.add c d) v ≡ add (scale c v) (scale d v)
  pub mul-scale : (c d : A) (v : V) → scale (R.mul c d) v ≡ scale c (scale d v)
  pub one-scale : (v : V) → scale R.one v ≡ v
  pub is_set : IsSet V

module _ {A V : Type 0} {R : CommRing A} (S : Space R V) where
  -- coefficients past the list do not count
  abbrev pub combine : (ℕ → A) → List V → V
  combine f [] = S.zero
  combine f (v ∷ vs) = S.add (S.scale (f 0) v) (combine (λ i. f (suc i)) vs)

  abbrev pub IsCombination : List V → V → Type 0
  IsCombination vs v = (f : ℕ → A) × (v ≡ combine f vs)

  abbrev pub Independent : List V → Type 0
  Independent vs = (f : ℕ → A) → combine f vs ≡ S.zero → (i : ℕ) → i < length vs → f i ≡ R.zero

  pub record IsLinear (t : V → V) : Type 0 where
    pub on_add : (v w : V) → t (S.add v w) ≡ S.add (t v) (t w)
    pub on_scale : (c : A) (v : V) → t (S.scale c v) ≡ S.scale c (t v)
