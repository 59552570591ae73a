-- Independent lists, and that a list longer than what it is made of is dependent.
--   independent-length     an independent list of combinations of us is no longer than us
--   independent-all        where it is as long, each combination of us is one of it
use Rattle.std.proofs.Common.{◌≡◌, ◌≢◌, ◌⊎◌, inl, inr, ℕ, zero, suc, ◌<◌, ◌≤◌, List, [], ◌∷◌, length, refl, sym, ap, ap₂, subst, ◌∙◌, arith}
use Rattle.std.proofs.lemmas.Bool.{cases_lt}
use Rattle.algebra.specs.Ring.{CommRing, Field}
use Rattle.algebra.proofs.RingLaws as L
use Rattle.algebra.proofs.FieldLaws as FL
use Rattle.algebra.specs.Each.{Each}
use Rattle.vectors.specs.Space.{Space, combine, IsCombination, Independent}
use Rattle.vectors.proofs.VectorRing.{scalar, vector, vector_rules, vectors, vfrom, zero-scale}
use Rattle.vectors.proofs.Combinations as C
use Rattle.vectors.proofs.Combinations.{before}

module _ {A V : Type 0} (F : Field A) (S : Space F.ring V) where
  abbrev R : CommRing A
  R = F.ring

  abbrev next : (ℕ → A) → ℕ → A
  next f i = f (suc i)

  minus-one_ne : R.neg R.one ≢ R.zero
  minus-one_ne e = F.one-ne-zero (sym (L.neg-neg R R.one) ∙ ap R.neg e ∙ L.neg-zero R)

  -- what is above zero in c v + w = 0 makes v a combination
  pub solved : (c : A) (v w : V) → c ≢ R.zero → S.add (S.scale c v) w ≡ S.zero
      → v ≡ S.scale (R.neg (F.inverse c)) w
  solved c v w ne e =
      sym (S.one-scale v) ∙ ap (λ x. S.scale x v) (sym (F.mul-inverse c ne))
      ∙ vfrom S (ap (S.scale (F.inverse c)) e) (vectors S (scalar S c ∷ scalar S (F.inverse c)
      ∷ vector S v ∷ vector S w ∷ []) (search vector_rules depth 40) refl)

  pub independent-tail : (v : V) (vs : List V) → Independent S (v ∷ vs) → Independent S vs
  independent-tail v vs h f e i l = h (before R.zero f) (ap₂ S.add (zero-scale S v) e
      ∙ S.zero-add S.zero) (suc i) (omega arith)

  pub independent-head : (v : V) (vs : List V) → Independent S (v ∷ vs) → IsCombination S vs v → ⊥
  independent-head v vs h p =
      minus-one_ne (h (before (R.neg R.one) p.0)
      (ap (λ x. S.add (S.scale (R.neg R.one) x) (combine S p.0 vs)) p.1
      ∙ vectors S (vector S (combine S p.0 vs) ∷ []) (search vector_rules depth 40) refl) 0
      (omega arith))

  pub independent-more : (v : V) (vs : List V) → (IsCombination S vs v → ⊥) → Independent S vs
      → Independent S (v ∷ vs)
  independent-more v vs out h f e =
      elim (FL.dec_zero F (f 0)) [
        | yes z ↦ go z (h (next f) (sym (S.zero-add (combine S (next f) vs))
            ∙ ap (λ x. S.add x (combine S (next f) vs)) (sym (ap (λ c. S.scale c v) z
            ∙ zero-scale S v)) ∙ e))
        | no ne ↦ absurd
            (out (subst (IsCombination S vs) (sym (solved (f 0) v (combine S (next f) vs) ne e))
            (C.combination-scale S vs (R.neg (F.inverse (f 0))) (combine S (next f) vs) (
              next f,
              refl,
            ))))
      ]
    where
      go : f 0 ≡ R.zero → ((i : ℕ) → i < length vs → f (suc i) ≡ R.zero) → (i : ℕ)
          → i < length (v ∷ vs) → f i ≡ R.zero
      go z k zero l = z
      go z k (suc i) l = k i (omega arith)

  -- ---- more vectors than they are made of
  pub record Dependent (vs : List V) : Type 0 where
    pub by : ℕ → A
    pub is_zero : combine S by vs ≡ S.zero
    pub at : ℕ
    pub within : at < length vs
    pub some : by at ≢ R.zero

  Carries : List V → List V → Type 0
  Carries rest vs = (f : ℕ → A) → (g : ℕ → A) × (combine S g vs ≡ combine S f rest)
      × ((i : ℕ) → i < length rest → f i ≢ R.zero → (j : ℕ) × (j < length vs) × (g j ≢ R.zero))

  carries-more : (v : V) (rest vs : List V) → Carries rest vs → Carries (v ∷ rest) (v ∷ vs)
  unfolding Carries
  carries-more v rest vs h f =
      let k = h (next f) in
      (before (f 0) k.0, ap (S.add (S.scale (f 0) v)) k.1, go k.2)
    where
      go : ((i : ℕ) → i < length rest → f (suc i) ≢ R.zero → (j : ℕ) × (j < length vs)
          × ((h (next f)).0 j ≢ R.zero)) → (i : ℕ) → i < suc (length rest) → f i ≢ R.zero
          → (j : ℕ) × (j < suc (length vs)) × (before (f 0) (h (next f)).0 j ≢ R.zero)
      go k zero l ne = (0, omega arith, ne)
      go k (suc i) l ne = let m = k i (omega arith) ne in
          (suc m.0, (let b : m.0 < length vs = m.1 in omega arith), m.2)

  -- each of a list, less a multiple of w
  record Reduced (us : List V) (w : V) (vs : List V) : Type 0 where
    rest : List V
    long : length rest ≡ length vs
    made : Each (IsCombination S us) rest
    back : (f : ℕ → A) → (d : A) × (combine S f rest ≡ S.add (S.scale d w) (combine S f vs))

  reduce_all : (u : V) (us : List V) (w : V) (p : IsCombination S (u ∷ us) w) → p.0 0 ≢ R.zero
      → (vs : List V) → Each (IsCombination S (u ∷ us)) vs → Reduced us w vs
  unfolding Each
  reduce_all u us w p ne [] e = record {
    rest = [];
    long = refl;
    made = tt;
    back = λ f. (R.zero, sym (ap (λ x. S.add x S.zero) (zero-scale S w) ∙ S.zero-add S.zero));
  }
  reduce_all u us w p ne (v ∷ vs) e =
      let r : Reduced us w vs = reduce_all u us w p ne vs e.1 in
      let q : IsCombination S (u ∷ us) v = e.0 in
      let c = p.0 0 in
      let d = R.mul (q.0 0) (F.inverse c) in
      let x = combine S (next p.0) us in
      let y = combine S (next q.0) us in
      let one : S.scale (R.mul d c) u ≡ S.scale (q.0 0) u =
      ap (λ k. S.scale k u) (R.mul_assoc (q.0 0) (F.inverse c) c
      ∙ ap (R.mul (q.0 0)) (R.mul_comm (F.inverse c) c ∙ F.mul-inverse c ne)
      ∙ R.mul-one (q.0 0)) in
      let is : S.add v (S.scale (R.neg d) w) ≡ S.add y (S.scale (R.neg d) x) =
      ap₂ S.add q.1 (ap (S.scale (R.neg d)) p.1) ∙ vfrom S (sym one)
      (vectors S (scalar S d ∷ scalar S c ∷ scalar S (q.0 0) ∷ vector S u ∷ vector S x ∷ vector S y
      ∷ []) (search vector_rules depth 40) refl) in
      record {
        rest = S.add v (S.scale (R.neg d) w) ∷ r.rest;
        long = ap suc r.long;
        made = (
          subst (IsCombination S us) (sym is) (C.combination-add S us y (S.scale (R.neg d) x)
              (next q.0, refl) (C.combination-scale S us (R.neg d) x (next p.0, refl))),
          r.made,
        );
        back = λ f. let b = r.back (next f) in (
          R.add (R.mul (f 0) (R.neg d)) b.0,
          vfrom S b.1 (vectors S (scalar S (f 0) ∷ scalar S d ∷ scalar S b.0 ∷ vector S v
              ∷ vector S w ∷ vector S (combine S (next f) vs)
              ∷ vector S (combine S (next f) r.rest) ∷ []) (search vector_rules depth 40) refl),
        );
      }

  record Smaller (us vs : List V) : Type 0 where
    rest : List V
    long : length vs ≡ suc (length rest)
    made : Each (IsCombination S us) rest
    carried : Carries rest vs

  pivot : (u : V) (us vs : List V) → Each (IsCombination S (u ∷ us)) vs
      → Each (IsCombination S us) vs ⊎ Smaller us vs
  unfolding Carries Each
  pivot u us [] e = inl tt
  pivot u us (v ∷ vs) e =
      elim (FL.dec_zero F (e.0.0 0)) [
        | yes z ↦ elim (pivot u us vs e.1) [
          | inl m ↦ inl (
            ((
              next e.0.0,
              e.0.1 ∙ ap (λ c. S.add (S.scale c u) (combine S (next e.0.0) us)) z
                  ∙ ap (λ x. S.add x (combine S (next e.0.0) us)) (zero-scale S u)
                  ∙ S.zero-add (combine S (next e.0.0) us),
            )),
            m,
          )
          | inr s ↦ inr (record {
            rest = v ∷ s.rest;
            long = ap suc s.long;
            made = (
              (
                next e.0.0,
                e.0.1 ∙ ap (λ c. S.add (S.scale c u) (combine S (next e.0.0) us)) z
                    ∙ ap (λ x. S.add x (combine S (next e.0.0) us)) (zero-scale S u)
                    ∙ S.zero-add (combine S (next e.0.0) us),
              ),
              s.made,
            );
            carried = carries-more v s.rest vs s.carried;
          })
        ]
        | no ne ↦
            let r : Reduced us v vs = reduce_all u us v e.0 ne vs e.1 in
            inr (record {
              rest = r.rest;
              long = ap suc (sym r.long);
              made = r.made;
              carried = λ f. let b = r.back f in (
                before b.0 f,
                sym b.1,
                λ i l n.
                    (suc i, (let k : length r.rest ≡ length vs = r.long in omega arith), n),
              );
            })
      ]

  pub dependent : (us vs : List V) → Each (IsCombination S us) vs → length us < length vs
      → Dependent vs
  unfolding Carries Each
  dependent [] [] e l = absurd (omega arith)
  dependent [] (v ∷ vs) e l = record {
    by = before R.one (λ i. R.zero);
    is_zero = ap₂ S.add (S.one-scale v ∙ e.0.1) (C.combine-none S vs) ∙ S.zero-add S.zero;
    at = 0;
    within = omega arith;
    some = F.one-ne-zero;
  }
  dependent (u ∷ us) vs e l =
      elim (pivot u us vs e) [
        | inl m ↦ dependent us vs m (omega arith)
        | inr s ↦ go s (dependent us s.rest s.made (let k : length vs ≡ suc (length s.rest) =
            s.long in omega arith))
      ]
    where
      go : (s : Smaller us vs) → Dependent s.rest → Dependent vs
      go s d = let k = s.carried d.by in let m = k.2 d.at d.within d.some in
          record { by = k.0; is_zero = k.1 ∙ d.is_zero; at = m.0; within = m.1; some = m.2 }

  -- an independent list is no longer than what it is made of
  pub independent-length : (us vs : List V) → Each (IsCombination S us) vs → Independent S vs
      → length vs ≤ length us
  independent-length us vs e h =
      elim (cases_lt (length us) (length vs)) [
        | inl l ↦ absurd (let d = dependent us vs e l in d.some (h d.by d.is_zero d.at d.within))
        | inr g ↦ g
      ]

  -- where it is as long, it makes all that is made of those
  pub independent-all : (us vs : List V) → Each (IsCombination S us) vs → Independent S vs
      → length vs ≡ length us → (v : V) → IsCombination S us v → IsCombination S vs v
  unfolding Each
  independent-all us vs e h same v p =
      let d : Dependent (v ∷ vs) = dependent us (v ∷ vs) (p, e) (omega arith) in
      elim (FL.dec_zero F (d.by 0)) [
        | yes z ↦ absurd (go d z d.at d.within d.some)
        | no ne ↦ subst (IsCombination S vs)
            (sym (solved (d.by 0) v (combine S (next d.by) vs) ne d.is_zero))
            (C.combination-scale S vs (R.neg (F.inverse (d.by 0))) (combine S (next d.by) vs)
            (next d.by, refl))
      ]
    where
      go : (d : Dependent (v ∷ vs)) → d.by 0 ≡ R.zero → (i : ℕ) → i < suc (length vs)
          → d.by i ≢ R.zero → ⊥
      go d z zero l ne = ne z
      go d z (suc i) l ne = ne (h (next d.by) (sym (S.zero-add (combine S (next d.by) vs))
          ∙ ap (λ x. S.add x (combine S (next d.by) vs)) (sym (ap (λ c. S.scale c v) z
          ∙ zero-scale S v)) ∙ d.is_zero) i (omega arith))
