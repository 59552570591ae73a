-- Where the product of the M - c is zero, the forms found make everything.
--   shift-linear     multiplication by M - c is linear; shifted_comm: M - d and a power of M - c commute
--   killed-more      what a power of M - c kills, the next power kills
use Rattle.std.proofs.Common.{◌≡◌, ◌≢◌, ℕ, zero, suc, List, [], ◌∷◌, refl, sym, ap, ap₂, subst, ◌∙◌}
use Rattle.algebra.specs.Ring.{CommRing, Field}
use Rattle.algebra.proofs.RingLaws as L
use Rattle.algebra.proofs.FieldLaws as FL
use Rattle.algebra.specs.Each.{Each}
use Rattle.vectors.specs.Space.{Space, combine, IsCombination, IsLinear}
use Rattle.vectors.specs.Splitting.{shift, shift_power, after, IsKilled, vectors_of, repeat, roots, AllKilled, Taken}
use Rattle.vectors.proofs.VectorRing.{scalar, vector, vector_rules, vectors, vfrom, add-zero, scale-zero}
use Rattle.vectors.proofs.Combinations as C

module _ {A V : Type 0} (F : Field A) (S : Space F.ring V) (t : V → V) (linear : IsLinear S t) where
  abbrev R : CommRing A
  R = F.ring

  pub shift-linear : (c : A) → IsLinear S (shift S t c)
  shift-linear c = record {
    on_add = λ v w. vfrom S (linear.on_add v w) (vectors S (scalar S c ∷ vector S v ∷ vector S w
        ∷ vector S (t v) ∷ vector S (t w) ∷ vector S (t (S.add v w)) ∷ [])
        (search vector_rules depth 40) refl);
    on_scale = λ d v. vfrom S (linear.on_scale d v) (vectors S (scalar S c ∷ scalar S d ∷ vector S v
        ∷ vector S (t v) ∷ vector S (t (S.scale d v)) ∷ []) (search vector_rules depth 40)
        refl);
  }

  pub shift-zero : (c : A) → shift S t c S.zero ≡ S.zero
  shift-zero c = C.linear-zero S (shift S t c) (shift-linear c)

  pub shifted-linear : (c : A) (k : ℕ) → IsLinear S (shift_power S t c k)
  shifted-linear c zero = record { on_add = λ v w. refl; on_scale = λ d v. refl }
  shifted-linear c (suc k) = record {
    on_add = λ v w. ap (shift_power S t c k) ((shift-linear c).on_add v w)
        ∙ (shifted-linear c k).on_add (shift S t c v) (shift S t c w);
    on_scale = λ d v. ap (shift_power S t c k) ((shift-linear c).on_scale d v)
        ∙ (shifted-linear c k).on_scale d (shift S t c v);
  }

  pub shifted-zero : (c : A) (k : ℕ) → shift_power S t c k S.zero ≡ S.zero
  shifted-zero c k = C.linear-zero S (shift_power S t c k) (shifted-linear c k)

  -- t of v - d v
  t-shift : (d : A) (v : V) → t (shift S t d v) ≡ S.add (t (t v)) (S.neg (S.scale d (t v)))
  t-shift d v =
      ap t (vectors S (scalar S d ∷ vector S v ∷ vector S (t v) ∷ []) {v = shift S t d v} {w =
      S.add (t v) (S.scale (R.neg d) v)} (search vector_rules depth 40) refl)
      ∙ linear.on_add (t v) (S.scale (R.neg d) v)
      ∙ ap (S.add (t (t v))) (linear.on_scale (R.neg d) v)
      ∙ vectors S (scalar S d ∷ vector S (t v) ∷ vector S (t (t v)) ∷ [])
      (search vector_rules depth 40) refl

  pub shift_comm : (c d : A) (v : V) → shift S t c (shift S t d v) ≡ shift S t d (shift S t c v)
  shift_comm c d v =
      ap (λ x. S.add x (S.neg (S.scale c (shift S t d v)))) (t-shift d v)
      ∙ vectors S (scalar S c ∷ scalar S d ∷ vector S v ∷ vector S (t v) ∷ vector S (t (t v)) ∷ [])
      (search vector_rules depth 40) refl
      ∙ sym (ap (λ x. S.add x (S.neg (S.scale d (shift S t c v)))) (t-shift c v))

  pub shifted_comm : (c d : A) (k : ℕ) (v : V) → shift_power S t c k (shift S t d v)
      ≡ shift S t d (shift_power S t c k v)
  shifted_comm c d zero v = refl
  shifted_comm c d (suc k) v = ap (shift_power S t c k) (shift_comm c d v)
      ∙ shifted_comm c d k (shift S t c v)

  pub after_comm : (c : A) (k : ℕ) (cs : List A) (v : V) → after S t cs (shift_power S t c k v)
      ≡ shift_power S t c k (after S t cs v)
  after_comm c k [] v = refl
  after_comm c k (d ∷ cs) v = ap (after S t cs) (sym (shifted_comm c d k v))
      ∙ after_comm c k cs (shift S t d v)

  pub killed-more : (c : A) (k : ℕ) (v : V) → IsKilled S t c k v → IsKilled S t c (suc k) v
  killed-more c k v e = shifted_comm c c k v ∙ ap (shift S t c) e ∙ shift-zero c

  pub killed-shift : (c d : A) (k : ℕ) (v : V) → IsKilled S t c k v
      → IsKilled S t c k (shift S t d v)
  killed-shift c d k v e = shifted_comm c d k v ∙ ap (shift S t d) e ∙ shift-zero d

  pub killed-closed : (c : A) (k : ℕ) → C.IsClosed S (IsKilled S t c k)
  killed-closed c k = record {
    has_zero = shifted-zero c k;
    has_add = λ v w p q. (shifted-linear c k).on_add v w ∙ ap₂ S.add p q ∙ S.zero-add S.zero;
    has_scale = λ d v p. (shifted-linear c k).on_scale d v ∙ ap (S.scale d) p ∙ scale-zero S d;
  }

  difference-ne : (c d : A) → c ≢ d → R.add d (R.neg c) ≢ R.zero
  difference-ne c d ne e = ne (sym (L.eq_of_sub R d c e))

  -- ---- step 3: on what a power of M - d kills, M - c can be undone
  record Undone (c d : A) (k : ℕ) (z : V) : Type 0 where
    by : V
    is : shift S t c by ≡ z
    killed : IsKilled S t d k by

  undo : (c d : A) → c ≢ d → (k : ℕ) (z : V) → IsKilled S t d k z → Undone c d k z
  undo c d ne zero z e = record { by = S.zero; is = shift-zero c ∙ sym e; killed = refl }
  undo c d ne (suc k) z e =
      let u : Undone c d k (shift S t d z) = undo c d ne k (shift S t d z) e in
      let g = R.add d (R.neg c) in
      let inv : R.mul g (F.inverse g) ≡ R.one = F.mul-inverse g (difference-ne c d ne) in
      let less : V = S.add z (S.scale (R.neg R.one) u.by) in
      let moved : shift S t c less ≡ S.scale g z =
      (shift-linear c).on_add z (S.scale (R.neg R.one) u.by)
      ∙ ap (S.add (shift S t c z)) ((shift-linear c).on_scale (R.neg R.one) u.by
      ∙ ap (S.scale (R.neg R.one)) u.is)
      ∙ vectors S (scalar S c ∷ scalar S d ∷ vector S z ∷ vector S (t z) ∷ [])
      (search vector_rules depth 40) refl in
      record {
        by = S.scale (F.inverse g) less;
        is = (shift-linear c).on_scale (F.inverse g) less ∙ ap (S.scale (F.inverse g)) moved
            ∙ sym (S.mul-scale (F.inverse g) g z)
            ∙ ap (λ x. S.scale x z) (R.mul_comm (F.inverse g) g ∙ inv) ∙ S.one-scale z;
        killed = (killed-closed d (suc k)).has_scale (F.inverse g) less
            ((killed-closed d (suc k)).has_add z (S.scale (R.neg R.one) u.by) e
            ((killed-closed d (suc k)).has_scale (R.neg R.one) u.by
            (killed-more d k u.by u.killed)));
      }

  -- ---- the forms with their values
  -- what M - c makes of a combination of forms, and what it kills
  record Parts (c : A) (e : ℕ) (P : V → Type 0) (v : V) : Type 0 where
    moved : V
    rest : V
    made : P moved
    killed : IsKilled S t c e rest
    is : v ≡ S.add (shift S t c moved) rest

  parts-add : (c : A) (e : ℕ) (P : V → Type 0) → C.IsClosed S P → (d : A) (v w : V) → Parts c e P v
      → Parts c e P w → Parts c e P (S.add (S.scale d v) w)
  parts-add c e P closed d v w p q = record {
    moved = S.add (S.scale d p.moved) q.moved;
    rest = S.add (S.scale d p.rest) q.rest;
    made = closed.has_add (S.scale d p.moved) q.moved (closed.has_scale d p.moved p.made) q.made;
    killed = (killed-closed c e).has_add (S.scale d p.rest) q.rest ((killed-closed c e).has_scale d
        p.rest p.killed) q.killed;
    is = ap₂ (λ x y. S.add (S.scale d x) y) p.is q.is
        ∙ vectors S (scalar S d ∷ vector S (shift S t c p.moved) ∷ vector S (shift S t c q.moved)
        ∷ vector S p.rest ∷ vector S q.rest ∷ []) {w =
        S.add (S.add (S.scale d (shift S t c p.moved)) (shift S t c q.moved))
        (S.add (S.scale d p.rest) q.rest)} (search vector_rules depth 40) refl
        ∙ ap (λ x. S.add x (S.add (S.scale d p.rest) q.rest))
        (sym ((shift-linear c).on_add (S.scale d p.moved) q.moved
        ∙ ap (λ x. S.add x (shift S t c q.moved)) ((shift-linear c).on_scale d p.moved)));
  }

  parts_of : (c : A) (e : ℕ) (P : V → Type 0) → C.IsClosed S P → (forms : List (V × A))
      → AllKilled S t e forms → Each (λ f. Taken S t e P f.1) forms → (g : ℕ → A)
      → Parts c e P (combine S g (vectors_of forms))
  unfolding Each
  parts_of c e P closed [] k h g = record {
    moved = S.zero;
    rest = S.zero;
    made = closed.has_zero;
    killed = shifted-zero c e;
    is = sym (ap (λ x. S.add x S.zero) (shift-zero c)
        ∙ S.zero-add S.zero);
  }
  parts_of c e P closed (f ∷ forms) k h g =
      parts-add c e P closed (g 0) f.0 (combine S (λ i. g (suc i)) (vectors_of forms))
      (elim (FL.discrete F c f.1) [
        | yes same ↦ record {
          moved = S.zero;
          rest = f.0;
          made = closed.has_zero;
          killed = subst (λ x. IsKilled S t x e f.0) (sym same) k.0;
          is = sym (ap (λ x. S.add x f.0) (shift-zero c) ∙ S.zero-add f.0);
        }
        | no ne ↦ let u = undo c f.1 ne e f.0 k.0 in record {
          moved = u.by;
          rest = S.zero;
          made = h.0 u.by u.killed;
          killed = shifted-zero c e;
          is = sym (add-zero S (shift S t c u.by)
              ∙ u.is);
        }
      ])
      (parts_of c e P closed forms k.1 h.1 (λ i. g (suc i)))

  -- ---- steps 2 to 5: where y times M - c is made of the forms, so is y
  pub back : (c : A) (e : ℕ) (forms : List (V × A)) → AllKilled S t e forms
      → Each (λ f. Taken S t e (IsCombination S (vectors_of forms)) f.1) forms
      → Taken S t (suc e) (IsCombination S (vectors_of forms)) c
      → (y : V) → IsCombination S (vectors_of forms) (shift S t c y)
      → IsCombination S (vectors_of forms) y
  back c e forms k h taken y p =
      let W : V → Type 0 = IsCombination S (vectors_of forms) in
      let closed : C.IsClosed S W = C.combination-closed S (vectors_of forms) in
      let q : Parts c e W (combine S p.0 (vectors_of forms)) = parts_of c e W closed forms k h
      p.0 in
      let less : V = S.add y (S.scale (R.neg R.one) q.moved) in
      let moved : shift S t c less ≡ q.rest =
      (shift-linear c).on_add y (S.scale (R.neg R.one) q.moved)
      ∙ ap₂ S.add (p.1 ∙ q.is) ((shift-linear c).on_scale (R.neg R.one) q.moved)
      ∙ vectors S (vector S (shift S t c q.moved) ∷ vector S q.rest ∷ [])
      (search vector_rules depth 40) refl in
      let inside : W less = taken less (ap (shift_power S t c e) moved ∙ q.killed) in
      subst W (vectors S (vector S y ∷ vector S q.moved ∷ []) {v = S.add less q.moved} {w = y}
      (search vector_rules depth 40) refl)
      (closed.has_add less q.moved inside q.made)

  -- the argument: where the product is zero, the forms make everything
  pub everything : (e : ℕ) (forms : List (V × A)) (cs : List A) → AllKilled S t e forms
      → Each (λ f. Taken S t e (IsCombination S (vectors_of forms)) f.1) forms
      → Each (Taken S t (suc e) (IsCombination S (vectors_of forms))) cs
      → (v : V) → after S t cs v ≡ S.zero → IsCombination S (vectors_of forms) v
  unfolding Each
  everything e forms [] k h taken v z = subst (IsCombination S (vectors_of forms)) (sym z)
      (C.combination-zero S (vectors_of forms))
  everything e forms (c ∷ cs) k h taken v z =
      back c e forms k h taken.0 v (everything e forms cs k h taken.1 (shift S t c v) z)

  -- ---- and back: where the forms make everything, the product of their values is zero
  after-repeat : (k : ℕ) (c : A) (cs : List A) (v : V) → after S t (repeat k c cs) v ≡ after S t cs
      (shift_power S t c k v)
  after-repeat zero c cs v = refl
  after-repeat (suc k) c cs v = after-repeat k c cs (shift S t c v)

  pub product_zero : (e : ℕ) (forms : List (V × A)) → AllKilled S t e forms → (g : ℕ → A)
      → after S t (roots e forms) (combine S g (vectors_of forms)) ≡ S.zero
  unfolding Each
  product_zero e [] k g = refl
  product_zero e (f ∷ forms) k g =
      let w = combine S (λ i. g (suc i)) (vectors_of forms) in
      after-repeat e f.1 (roots e forms) (S.add (S.scale (g 0) f.0) w)
      ∙ ap (after S t (roots e forms)) ((shifted-linear f.1 e).on_add (S.scale (g 0) f.0) w
      ∙ ap (λ x. S.add x (shift_power S t f.1 e w)) ((killed-closed f.1 e).has_scale (g 0) f.0
      k.0) ∙ S.zero-add (shift_power S t f.1 e w))
      ∙ after_comm f.1 e (roots e forms) w
      ∙ ap (shift_power S t f.1 e) (product_zero e forms k.1 (λ i. g (suc i))) ∙ shifted-zero f.1 e

  pub repeat-each : (P : A → Type 0) (k : ℕ) (c : A) (cs : List A) → P c → Each P cs
      → Each P (repeat k c cs)
  unfolding Each
  repeat-each P zero c cs p q = q
  repeat-each P (suc k) c cs p q = (p, repeat-each P k c cs p q)

  pub roots-each : (P : A → Type 0) (e : ℕ) (forms : List (V × A)) → Each (λ f. P f.1) forms
      → Each P (roots e forms)
  unfolding Each
  roots-each P e [] h = tt
  roots-each P e (f ∷ forms) h = repeat-each P e f.1 (roots e forms) h.0 (roots-each P e forms h.1)
