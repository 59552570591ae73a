-- The kernel of a reduced echelon list has one basis vector for each column in which no row leads.
--   same_or_not      two natural numbers are the same or not
--   total_same, total-add, total-mul, total_swap     sums of the same numbers, of sums, of multiples, and of sums in either order
--   total-none, total-single     a sum of zeros, and one with a single number that may not be zero
--   kernel_in, kernel_out     the combinations of the vectors of the free columns are exactly the rows of width n in the kernel
--   kernel_vector-is     kernel_vector gives the vector of a free column
use Rattle.std.proofs.Common.{◌≡◌, ◌≢◌, ◌⊎◌, inl, inr, ℕ, zero, suc, ◌<◌, ◌≤◌, List, [], ◌∷◌, cond, eqb, refl, sym, ap, ap₂, subst, ◌∙◌, arith}
use mathlib.Core.Path.{fun_ext}
use Rattle.std.proofs.lemmas.Bool.{cases_lt, ne_eqb}
use Rattle.algebra.specs.Ring.{CommRing, Field}
use Rattle.algebra.proofs.RingLaws as L
use Rattle.algebra.proofs.RingSolver.{ring_rules, ring, from}
use Rattle.algebra.specs.Each.{Each}
use Rattle.vectors.specs.Space.{Space, combine, IsCombination, Independent}
use Rattle.vectors.specs.Sequences.{sequences}
use Rattle.vectors.specs.Echelon.{Pivots, rows_in, Leads, IsReduced, total, IsKernel, IsFree, IsKernelVector, AreKernelVectors, Rising, AreFree, kernel_vector}
use Rattle.vectors.proofs.Combinations as C
use Rattle.vectors.proofs.Combinations.{before}
use Rattle.vectors.proofs.Independence as I
use Rattle.algebra.specs.In.{In}
use Rattle.algebra.proofs.Basics.{eqb_same}

pub same_or_not : (a b : ℕ) → (a ≡ b) ⊎ (a ≢ b)
same_or_not a b = elim (cases_lt a b) [
  | inl l ↦ inr (λ e. absurd (omega arith))
  | inr g ↦ elim (cases_lt b a) [
    | inl l ↦ inr (λ e. absurd (omega arith))
    | inr h
        ↦ inl (omega arith)
  ]
]

module _ {A : Type 0} (F : Field A) where
  abbrev R : CommRing A
  R = F.ring

  abbrev S : Space F.ring (ℕ → A)
  S = sequences F.ring ℕ

  abbrev sum : ℕ → (ℕ → A) → A
  sum n f = total F n f

  -- ---- sums of n numbers
  pub total_same : (n : ℕ) (f g : ℕ → A) → ((i : ℕ) → i < n → f i ≡ g i) → sum n f ≡ sum n g
  total_same zero f g h = refl
  total_same (suc n) f g h = ap₂ R.add (h 0 (omega arith)) (total_same n (λ i. f (suc i))
      (λ i. g (suc i)) (λ i l. h (suc i) (omega arith)))

  pub total-add : (n : ℕ) (f g : ℕ → A) → sum n (λ i. R.add (f i) (g i)) ≡ R.add (sum n f) (sum n g)
  total-add zero f g = sym (L.zero-add R R.zero)
  total-add (suc n) f g = ap (R.add (R.add (f 0) (g 0))) (total-add n (λ i. f (suc i))
      (λ i. g (suc i))) ∙ L.add_swap R (f 0) (g 0) (sum n (λ i. f (suc i)))
      (sum n (λ i. g (suc i)))

  pub total-mul : (n : ℕ) (c : A) (f : ℕ → A) → sum n (λ i. R.mul c (f i)) ≡ R.mul c (sum n f)
  total-mul zero c f = sym (L.mul-zero R c)
  total-mul (suc n) c f = ap (R.add (R.mul c (f 0))) (total-mul n c (λ i. f (suc i)))
      ∙ sym (R.mul-add c (f 0) (sum n (λ i. f (suc i))))

  pub total-none : (n : ℕ) (f : ℕ → A) → ((i : ℕ) → i < n → f i ≡ R.zero) → sum n f ≡ R.zero
  total-none zero f h = refl
  total-none (suc n) f h = ap₂ R.add (h 0 (omega arith)) (total-none n (λ i. f (suc i)) (λ i l.
      h (suc i) (omega arith))) ∙ L.zero-add R R.zero

  pub total_swap : (m n : ℕ) (f : ℕ → ℕ → A) → sum m (λ i. sum n (λ j. f i j)) ≡ sum n
      (λ j. sum m (λ i. f i j))
  total_swap zero n f = sym (total-none n (λ j. R.zero) (λ j l. refl))
  total_swap (suc m) n f = ap (R.add (sum n (λ j. f 0 j))) (total_swap m n (λ i. f (suc i)))
      ∙ sym (total-add n (λ j. f 0 j) (λ j. sum m (λ i. f (suc i) j)))

  pub total-single : (n : ℕ) (f : ℕ → A) (c : ℕ) → c < n → ((i : ℕ) → i < n → i ≢ c → f i ≡ R.zero)
      → sum n f ≡ f c
  total-single zero f c l h = absurd (omega arith)
  total-single (suc n) f zero l h =
      ap (R.add (f 0)) (total-none n (λ i. f (suc i)) (λ i k. h (suc i) (omega arith)
      (λ e. absurd (omega arith)))) ∙ R.add-zero (f 0)
  total-single (suc n) f (suc c) l h = ap₂ R.add (h 0 (omega arith) (λ e. absurd (omega arith)))
      (total-single n (λ i. f (suc i)) c (omega arith) (λ i k ne. h (suc i) (omega arith)
      (λ e. ne (omega arith)))) ∙ L.zero-add R (f (suc c))

  pub total-double : (n : ℕ) (f : ℕ → A) (c d : ℕ) → c < n → d < n → c ≢ d
      → ((i : ℕ) → i < n → i ≢ c → i ≢ d → f i ≡ R.zero) → sum n f ≡ R.add (f c) (f d)
  total-double zero f c d l k ne h = absurd (omega arith)
  total-double (suc n) f zero zero l k ne h = absurd (ne refl)
  total-double (suc n) f zero (suc d) l k ne h =
      ap (R.add (f 0)) (total-single n (λ i. f (suc i)) d (omega arith) (λ i m out.
      h (suc i) (omega arith) (λ e. absurd (omega arith)) (λ e. out (omega arith))))
  total-double (suc n) f (suc c) zero l k ne h =
      ap (R.add (f 0)) (total-single n (λ i. f (suc i)) c (omega arith) (λ i m out.
      h (suc i) (omega arith) (λ e. out (omega arith)) (λ e. absurd (omega arith))))
      ∙ R.add_comm (f 0) (f (suc c))
  total-double (suc n) f (suc c) (suc d) l k ne h =
      ap₂ R.add (h 0 (omega arith) (λ e. absurd (omega arith)) (λ e. absurd (omega arith)))
      (total-double n (λ i. f (suc i)) c d (omega arith) (omega arith) (λ e. ne (ap suc e))
      (λ i m out out'. h (suc i) (omega arith) (λ e. out (omega arith))
      (λ e. out' (omega arith))))
      ∙ L.zero-add R (R.add (f (suc c)) (f (suc d)))

  -- ---- what is said of each leading column
  free_or : (P : ℕ → Type 0) (ps : Pivots F) → Each (λ p. P p.0) ps → (i : ℕ) → IsFree F ps i ⊎ P i
  unfolding Each
  free_or P [] h i = inl tt
  free_or P (p ∷ ps) h i =
      elim (same_or_not p.0 i) [
        | inl e ↦ inr (subst P e h.0)
        | inr ne ↦ elim (free_or P ps h.1 i) [ inl f ↦ inl (ne, f) | inr x ↦ inr x ]
      ]

  abbrev Clear : Pivots F → ℕ × (ℕ → A) → Type 0
  Clear ps p = Leads F p.0 p.1 × ((i : ℕ) → i ≢ p.0 → IsFree F ps i ⊎ (p.1 i ≡ R.zero))

  after_zero : (p : ℕ × (ℕ → A)) (ps : Pivots F) → Each (λ q. (p.0 < q.0) × (p.1 q.0 ≡ R.zero)) ps
      → Each (λ q. p.1 q.0 ≡ R.zero) ps
  unfolding Each
  after_zero p [] h = tt
  after_zero p (q ∷ ps) h = (h.0.1, after_zero p ps h.1)

  clear_more : (p : ℕ × (ℕ → A)) (ps qs : Pivots F) → Each (λ q. p.0 < q.0) qs → Each (Clear ps) qs
      → Each (Clear (p ∷ ps)) qs
  unfolding Each
  clear_more p ps [] l h = tt
  clear_more p ps (q ∷ qs) l h = (
    (
      h.0.0,
      λ i ne. elim (same_or_not p.0 i) [
        | inl e ↦ inr (h.0.0.below i (let k : p.0 < q.0 = l.0 in omega arith))
        | inr out ↦ elim (h.0.1 i ne) [ inl f ↦ inl (out, f) | inr z ↦ inr z ]
      ],
    ),
    clear_more p ps qs l.1 h.1,
  )

  after_less : (p : ℕ × (ℕ → A)) (ps : Pivots F) → Each (λ q. (p.0 < q.0) × (p.1 q.0 ≡ R.zero)) ps
      → Each (λ q. p.0 < q.0) ps
  unfolding Each
  after_less p [] h = tt
  after_less p (q ∷ ps) h = (h.0.0, after_less p ps h.1)

  -- a row is zero in each column in which another leads
  clear : (ps : Pivots F) → IsReduced F ps → Each (Clear ps) ps
  unfolding Each
  clear [] r = tt
  clear (p ∷ ps) r = (
    (
      r.0,
      λ i ne. elim (free_or (λ i. p.1 i ≡ R.zero) ps (after_zero p ps r.1) i) [
        | inl f
            ↦ inl ((λ e. ne (sym e)), f)
        | inr z ↦ inr z
      ],
    ),
    clear_more p ps ps (after_less p ps r.1) (clear ps r.2),
  )

  -- ---- closed
  pub kernel-closed : (n : ℕ) (rows : List (ℕ → A)) → C.IsClosed S (IsKernel F n rows)
  unfolding Each
  kernel-closed n [] = record { has_zero = tt; has_add = λ v w p q. tt; has_scale = λ c v p. tt }
  kernel-closed n (r ∷ rows) =
      let k : C.IsClosed S (IsKernel F n rows) = kernel-closed n rows in
      record {
        has_zero = (total-none n (λ i. R.mul (r i) R.zero) (λ i l. L.mul-zero R (r i)), k.has_zero);
        has_add = λ v w p q. (
          ap (sum n) (fun_ext (λ i. R.mul-add (r i) (v i) (w i)))
              ∙ total-add n (λ i. R.mul (r i) (v i)) (λ i. R.mul (r i) (w i)) ∙ ap₂ R.add p.0 q.0
              ∙ L.zero-add R R.zero,
          k.has_add v w p.1 q.1,
        );
        has_scale = λ c v p. (
          ap (sum n) (fun_ext (λ i. L.mul_left_comm R (r i) c (v i)))
              ∙ total-mul n c (λ i. R.mul (r i) (v i)) ∙ ap (R.mul c) p.0 ∙ L.mul-zero R c,
          k.has_scale c v p.1,
        );
      }

  -- ---- the vector of a free column is in the kernel
  pub kernel_vector_in : (n : ℕ) (ps : Pivots F) (j : ℕ) (x : ℕ → A) → IsReduced F ps
      → Each (λ p. p.0 < n) ps → j < n → IsFree F ps j → IsKernelVector F n ps j x
      → IsKernel F n (rows_in F ps) x
  unfolding Each
  kernel_vector_in n ps j x r inside l free k = go ps (clear ps r) inside free k.leads
    where
      go : (qs : Pivots F) → Each (Clear ps) qs → Each (λ p. p.0 < n) qs → IsFree F qs j
          → Each (λ p. x p.0 ≡ R.neg (p.1 j)) qs → IsKernel F n (rows_in F qs) x
      go [] c b f h = tt
      go (q ∷ qs) c b f h = (
        total-double n (λ i. R.mul (q.1 i) (x i)) q.0 j b.0 l f.0 (λ i m ne out. elim (c.0.1 i ne) [
          | inl g ↦ ap (R.mul (q.1 i)) (k.others i g out) ∙ L.mul-zero R (q.1 i)
          | inr z ↦ ap (λ y. R.mul y (x i)) z ∙ L.zero-mul R (x i)
        ])
            ∙ ap₂ R.add (ap₂ R.mul c.0.0.one h.0) (ap (R.mul (q.1 j)) k.one)
            ∙ ring R (q.1 j ∷ []) (search ring_rules depth 40) refl,
        go qs c.1 b.1 f.1 h.1,
      )

  -- ---- what is in the kernel and zero in each free column is zero
  pub kernel_zero : (n : ℕ) (ps : Pivots F) (y : ℕ → A) → IsReduced F ps → Each (λ p. p.0 < n) ps
      → IsKernel F n (rows_in F ps) y → ((i : ℕ) → i < n → IsFree F ps i → y i ≡ R.zero)
      → ((i : ℕ) → n ≤ i → y i ≡ R.zero) → y ≡ S.zero
  unfolding Each
  kernel_zero n ps y r inside k free past =
      fun_ext (λ i. elim (cases_lt i n) [
        | inl l ↦ elim (free_or (λ i. y i ≡ R.zero) ps (go ps (clear ps r) inside k) i) [
          | inl f
              ↦ free i l f
          | inr z ↦ z
        ]
        | inr g ↦ past i g
      ])
    where
      go : (qs : Pivots F) → Each (Clear ps) qs → Each (λ p. p.0 < n) qs
          → IsKernel F n (rows_in F qs) y → Each (λ p. y p.0 ≡ R.zero) qs
      go [] c b h = tt
      go (q ∷ qs) c b h = (
        sym (L.one-mul R (y q.0)) ∙ ap (λ z. R.mul z (y q.0)) (sym c.0.0.one)
            ∙ sym (total-single n (λ i. R.mul (q.1 i) (y i)) q.0 b.0 (λ i m ne. elim (c.0.1 i ne) [
              | inl f ↦ ap (R.mul (q.1 i)) (free i m f) ∙ L.mul-zero R (q.1 i)
              | inr z ↦ ap (λ x. R.mul x (y i)) z ∙ L.zero-mul R (y i)
            ])) ∙ h.0,
        go qs c.1 b.1 h.1,
      )

  -- ---- they are a basis
  -- the entries in the free columns
  abbrev pub coefficients : (ℕ → A) → List ℕ → ℕ → A
  coefficients y [] i = R.zero
  coefficients y (j ∷ js) i = before (y j) (coefficients y js) i

  out_zero : (n : ℕ) (ps : Pivots F) (js : List ℕ) (xs : List (ℕ → A)) (f : ℕ → A) (i : ℕ)
      → AreKernelVectors F n ps js xs → IsFree F ps i → Each (λ j. i ≢ j) js
      → combine S f xs i ≡ R.zero
  unfolding Each
  out_zero n ps [] [] f i k free out = refl
  out_zero n ps [] (x ∷ xs) f i k free out = absurd k
  out_zero n ps (j ∷ js) [] f i k free out = absurd k
  out_zero n ps (j ∷ js) (x ∷ xs) f i k free out =
      ap₂ R.add (ap (R.mul (f 0)) (k.0.others i free out.0) ∙ L.mul-zero R (f 0))
      (out_zero n ps js xs (λ i. f (suc i)) i k.1 free out.1) ∙ L.zero-add R R.zero

  above_ne : (i : ℕ) (js : List ℕ) → Each (λ j. i < j) js → Each (λ j. i ≢ j) js
  unfolding Each
  above_ne i [] h = tt
  above_ne i (j ∷ js) h = ((λ e. absurd (let l : i < j = h.0 in omega arith)), above_ne i js h.1)

  member_above : (i j : ℕ) (js : List ℕ) → Each (λ k. j < k) js → In i js → i ≢ j
  unfolding Each
  member_above i j [] h m = absurd m
  member_above i j (k ∷ js) h (inl e) = λ z. absurd (let l : j < k = h.0 in omega arith)
  member_above i j (k ∷ js) h (inr m) = member_above i j js h.1 m

  spread_at : (n : ℕ) (ps : Pivots F) (js : List ℕ) (xs : List (ℕ → A)) (y : ℕ → A) (i : ℕ)
      → AreKernelVectors F n ps js xs → IsFree F ps i → Rising F js → In i js
      → combine S (coefficients y js) xs i ≡ y i
  spread_at n ps [] xs y i k free r m = absurd m
  spread_at n ps (j ∷ js) [] y i k free r m = absurd k
  spread_at n ps (j ∷ js) (x ∷ xs) y i k free r (inl e) =
      subst (λ i. IsFree F ps i → combine S (coefficients y (j ∷ js)) (x ∷ xs) i ≡ y i) (sym e)
      (λ free. ap₂ R.add (ap (R.mul (y j)) k.0.one ∙ R.mul-one (y j))
      (out_zero n ps js xs (coefficients y js) j k.1 free (above_ne j js r.0))
      ∙ R.add-zero (y j)) free
  spread_at n ps (j ∷ js) (x ∷ xs) y i k free r (inr m) =
      ap₂ R.add (ap (R.mul (y j)) (k.0.others i free (member_above i j js r.0 m))
      ∙ L.mul-zero R (y j)) (spread_at n ps js xs y i k.1 free r.1 m) ∙ L.zero-add R (y i)

  each_in : (n : ℕ) (ps : Pivots F) (js : List ℕ) (xs : List (ℕ → A)) → IsReduced F ps
      → Each (λ p. p.0 < n) ps → AreKernelVectors F n ps js xs
      → Each (λ j. IsFree F ps j × (j < n)) js → Each (λ x. IsKernel F n (rows_in F ps) x
      × ((i : ℕ) → n ≤ i → x i ≡ R.zero)) xs
  unfolding Each
  each_in n ps [] [] r b k f = tt
  each_in n ps [] (x ∷ xs) r b k f = absurd k
  each_in n ps (j ∷ js) [] r b k f = absurd k
  each_in n ps (j ∷ js) (x ∷ xs) r b k f =
      ((kernel_vector_in n ps j x r b f.0.1 f.0.0 k.0, k.0.past), each_in n ps js xs r b k.1 f.1)

  -- rows of width n in the kernel
  abbrev pub InKernel : ℕ → Pivots F → (ℕ → A) → Type 0
  InKernel n ps y = IsKernel F n (rows_in F ps) y × ((i : ℕ) → n ≤ i → y i ≡ R.zero)

  pub in_kernel-closed : (n : ℕ) (ps : Pivots F) → C.IsClosed S (InKernel n ps)
  in_kernel-closed n ps =
      let k = kernel-closed n (rows_in F ps) in
      record {
        has_zero = (k.has_zero, λ i l. refl);
        has_add = λ v w p q. (
          k.has_add v w p.0 q.0,
          λ i l. ap₂ R.add (p.1 i l) (q.1 i l)
              ∙ L.zero-add R R.zero,
        );
        has_scale = λ c v p. (k.has_scale c v p.0, λ i l. ap (R.mul c) (p.1 i l) ∙ L.mul-zero R c);
      }

  pub kernel_in : (n : ℕ) (ps : Pivots F) (js : List ℕ) (xs : List (ℕ → A)) → IsReduced F ps
      → Each (λ p. p.0 < n) ps → AreFree F n ps js → AreKernelVectors F n ps js xs → (y : ℕ → A)
      → IsCombination S xs y → InKernel n ps y
  kernel_in n ps js xs r b free k y p = C.closed-combination S (InKernel n ps)
      (in_kernel-closed n ps) xs y (each_in n ps js xs r b k free.free) p

  pub kernel_out : (n : ℕ) (ps : Pivots F) (js : List ℕ) (xs : List (ℕ → A)) → IsReduced F ps
      → Each (λ p. p.0 < n) ps → AreFree F n ps js → AreKernelVectors F n ps js xs → (y : ℕ → A)
      → InKernel n ps y → IsCombination S xs y
  kernel_out n ps js xs r b free k y inside =
      let f = coefficients y js in
      let z : ℕ → A = combine S f xs in
      let d : ℕ → A = S.add y (S.scale (R.neg R.one) z) in
      let c = in_kernel-closed n ps in
      let in_z : InKernel n ps z = kernel_in n ps js xs r b free k z (f, refl) in
      let in_d : InKernel n ps d = c.has_add y (S.scale (R.neg R.one) z) inside
      (c.has_scale (R.neg R.one) z in_z) in
      let none : d ≡ S.zero =
      kernel_zero n ps d r b in_d.0
      (λ i l g. ap (λ x. R.add (y i) (R.mul (R.neg R.one) x)) (spread_at n ps js xs y i k g
      free.rising (free.complete i l g)) ∙ ring R (y i ∷ []) (search ring_rules depth 40)
      refl) in_d.1 in (
        f,
        fun_ext (λ i. from R (ap (λ (w : ℕ → A). w i) none)
            (ring R (y i ∷ z i ∷ []) (search ring_rules depth 40) refl)),
      )

  pub kernel_independent : (n : ℕ) (ps : Pivots F) (js : List ℕ) (xs : List (ℕ → A))
      → AreKernelVectors F n ps js xs → Each (λ j. IsFree F ps j × (j < n)) js → Rising F js
      → Independent S xs
  unfolding Each
  kernel_independent n ps [] [] k f r = λ f e i l. absurd (omega arith)
  kernel_independent n ps [] (x ∷ xs) k f r = absurd k
  kernel_independent n ps (j ∷ js) [] k f r = absurd k
  kernel_independent n ps (j ∷ js) (x ∷ xs) k f r =
      I.independent-more F S x xs (λ p. F.one-ne-zero (sym k.0.one ∙ ap (λ (w : ℕ → A). w j) p.1
      ∙ out_zero n ps js xs p.0 j k.1 f.0.0 (above_ne j js r.0)))
      (kernel_independent n ps js xs k.1 f.1 r.1)

  -- ---- there is one such vector for each free column
  vector_free : (ps : Pivots F) (j i : ℕ) → IsFree F ps i → kernel_vector F ps j i ≡ cond (eqb i j)
      R.one R.zero
  unfolding Each
  vector_free [] j i f = refl
  vector_free (p ∷ ps) j i f = ap (λ b. cond b (R.neg (p.1 j)) (kernel_vector F ps j i))
      (ne_eqb p.0 i f.0) ∙ vector_free ps j i f.1

  vector_leads : (ps : Pivots F) (j : ℕ) → IsReduced F ps
      → Each (λ p. kernel_vector F ps j p.0 ≡ R.neg (p.1 j)) ps
  unfolding Each
  vector_leads [] j r = tt
  vector_leads (p ∷ ps) j r = (
    ap (λ b. cond b (R.neg (p.1 j)) (kernel_vector F ps j p.0)) (eqb_same p.0),
    later ps (after_less p ps r.1) (vector_leads ps j r.2),
  )
    where
      later : (qs : Pivots F) → Each (λ q. p.0 < q.0) qs
          → Each (λ q. kernel_vector F ps j q.0 ≡ R.neg (q.1 j)) qs
          → Each (λ q. kernel_vector F (p ∷ ps) j q.0 ≡ R.neg (q.1 j)) qs
      later [] l h = tt
      later (q ∷ qs) l h = (
        ap (λ b. cond b (R.neg (p.1 j)) (kernel_vector F ps j q.0))
            (ne_eqb p.0 q.0 (λ e. absurd (let k : p.0 < q.0 = l.0 in omega arith)))
            ∙ h.0,
        later qs l.1 h.1,
      )

  each_free_past : (n i : ℕ) (ps : Pivots F) → Each (λ p. p.0 < n) ps → n ≤ i → IsFree F ps i
  unfolding Each
  each_free_past n i [] h l = tt
  each_free_past n i (p ∷ ps) h l = (
    (λ e. absurd (let k : p.0 < n = h.0 in omega arith)),
    each_free_past n i ps h.1 l,
  )

  pub kernel_vector-is : (n : ℕ) (ps : Pivots F) (j : ℕ) → IsReduced F ps → Each (λ p. p.0 < n) ps
      → j < n → IsFree F ps j → IsKernelVector F n ps j (kernel_vector F ps j)
  kernel_vector-is n ps j r inside l free = record {
    one = vector_free ps j j free ∙ ap (λ b. cond b R.one R.zero) (eqb_same j);
    others = λ i f ne. vector_free ps j i f ∙ ap (λ b. cond b R.one R.zero) (ne_eqb i j ne);
    leads = vector_leads ps j r;
    past = λ i g. vector_free ps j i (each_free_past n i ps inside g)
        ∙ ap (λ b. cond b R.one R.zero) (ne_eqb i j (λ e. absurd (omega arith)));
  }
