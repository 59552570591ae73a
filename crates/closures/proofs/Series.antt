-- Elements of a ring that are joined to an ideal one after another, level by level, where endomorphisms stand for the iterations of branches.
--   Item                 an element, with an element and a word that it comes from
--   joined xs D          the list D with the values of the items
--   word_at w x          x with the endomorphisms of the letters of w, the last letter's first
--   IsNext D x           the item differs from what it comes from by a member of the ideal of D, which
--                        has all that becomes of the first elements in earlier words
--   IsSeries D xs        each of the xs is next for D joined with those before it
--   HasWords k D         the ideal of D has all that becomes of the first elements in words of at most
--                        k letters
--   turned b x, level b n xs     the item after an iteration; the items after iterations of n branches from b on
--   level_is_series      the next level of a series is one, and then has the next words
use Rattle.std.proofs.Common.{◌≡◌, ◌⊎◌, inl, inr, ℕ, zero, suc, ◌+◌, ◌<◌, ◌≤◌, List, [], ◌∷◌, ◌++◌, map, length, refl, sym, ap, subst, ◌∙◌, arith, All}
use Rattle.std.proofs.lemmas.List.Elements.{All-head, All-tail}
use Rattle.algebra.specs.Each.{Each}
use Rattle.algebra.specs.In.{In}
use Rattle.algebra.specs.Ring.{CommRing, Hom}
use Rattle.algebra.proofs.Each.{each_weaker, each-map}
use Rattle.algebra.proofs.Homs.{to-neg}
use Rattle.ideals.specs.Ideal.{InIdeal, AllInIdeal}
use Rattle.ideals.proofs.Ideal.{in_ideal_same, in_ideal_head, in_ideal_trans, all_in_tail, all_in_itself, map_ideal}
use Rattle.corollaries.specs.Word.{IsEarlier, IsLess}
use Rattle.corollaries.proofs.Order.{less_cases}

pub record Item (A : Type 0) : Type 0 where
  pub value : A
  pub from : A
  pub word : List ℕ

unfoldable pub joined : {A : Type 0} → List (Item A) → List A → List A
joined [] D = D
joined (x ∷ xs) D = joined xs (x.value ∷ D)

pub joined-append : {A : Type 0} (xs ys : List (Item A)) (D : List A)
    → joined (xs ++ ys) D ≡ joined ys (joined xs D)
unfolding joined
joined-append [] ys D = refl
joined-append (x ∷ xs) ys D = joined-append xs ys (x.value ∷ D)

module _ {A : Type 0} (R : CommRing A) where
  pub all_trans : (E D C : List A) → AllInIdeal R E D → AllInIdeal R D C → AllInIdeal R E C
  all_trans E D C h k =
      each_weaker (InIdeal R D) (InIdeal R E) (λ x i. in_ideal_trans R E D h i) C k

  pub all_cons : (x : A) (E D : List A) → AllInIdeal R E D → AllInIdeal R (x ∷ E) (x ∷ D)
  unfolding Each
  all_cons x E D h = (in_ideal_head R, all_in_tail R x E D h)

  pub joined_more : (xs : List (Item A)) (E D : List A) → AllInIdeal R E D
      → AllInIdeal R (joined xs E) (joined xs D)
  unfolding joined
  joined_more [] E D h = h
  joined_more (x ∷ xs) E D h = joined_more xs (x.value ∷ E) (x.value ∷ D) (all_cons x.value E D h)

  pub joined_has : (xs : List (Item A)) (D : List A) → AllInIdeal R (joined xs D) D
  unfolding joined
  joined_has [] D = all_in_itself R D
  joined_has (x ∷ xs) D =
      all_trans (joined xs (x.value ∷ D)) (x.value ∷ D) D (joined_has xs (x.value ∷ D))
      (all_in_tail R x.value D D (all_in_itself R D))

  pub images_in : (f : Hom R R) (E D C : List A) → AllInIdeal R E (map f.to D) → AllInIdeal R D C
      → AllInIdeal R E (map f.to C)
  images_in f E D C h k =
      each-map (InIdeal R E) f.to C
      (each_weaker (InIdeal R D) (λ x. InIdeal R E (f.to x))
      (λ x i. in_ideal_trans R E (map f.to D) h (map_ideal f D i)) C k)

  pub image_in : (f : Hom R R) (E D : List A) (x : A) → AllInIdeal R E (map f.to D)
      → InIdeal R D x → InIdeal R E (f.to x)
  image_in f E D x h i = in_ideal_trans R E (map f.to D) h (map_ideal f D i)

module _ {A : Type 0} (R : CommRing A) (φ : ℕ → Hom R R) where
  unfoldable pub word_at : List ℕ → A → A
  word_at [] x = x
  word_at (b ∷ w) x = (φ b).to (word_at w x)

  abbrev pub turned : ℕ → Item A → Item A
  turned b x = record { value = (φ b).to x.value; from = x.from; word = b ∷ x.word }

  unfoldable pub level : ℕ → ℕ → List (Item A) → List (Item A)
  level b zero xs = []
  level b (suc n) xs = map (turned b) xs ++ level (suc b) n xs

  module _ (L : ℕ → Type 0) (Ps : List A) where
    pub record IsNext (D : List A) (x : Item A) : Type 0 where
      pub same : InIdeal R D (R.add x.value (R.neg (word_at x.word x.from)))
      pub earlier : (p : A) → In p Ps → (v : List ℕ) → All L v → IsEarlier v x.word
          → InIdeal R D (word_at v p)

    unfoldable pub IsSeries : List A → List (Item A) → Type 0
    IsSeries D [] = Unit {0}
    IsSeries D (x ∷ xs) = IsNext D x × IsSeries (x.value ∷ D) xs

    pub record HasWords (k : ℕ) (D : List A) : Type 0 where
      pub has : (p : A) → In p Ps → (v : List ℕ) → All L v → length v ≤ k
          → InIdeal R D (word_at v p)

    -- all words of suc k letters whose first one is below b
    pub record HasFirst (b k : ℕ) (D : List A) : Type 0 where
      pub has : (p : A) → In p Ps → (c : ℕ) (u : List ℕ) → L c → All L u → c < b → length u ≡ k
          → InIdeal R D (word_at (c ∷ u) p)

    -- ---- in a greater ideal
    pub next_more : (E D : List A) (x : Item A) → AllInIdeal R E D → IsNext D x → IsNext E x
    next_more E D x h n = record {
      same = in_ideal_trans R E D h n.same;
      earlier = λ p i v all e. in_ideal_trans R E D h (n.earlier p i v all e);
    }

    pub series_more : (E D : List A) (xs : List (Item A)) → AllInIdeal R E D → IsSeries D xs
        → IsSeries E xs
    unfolding IsSeries
    series_more E D [] h s = tt
    series_more E D (x ∷ xs) h s = (
      next_more E D x h s.0,
      series_more (x.value ∷ E) (x.value ∷ D) xs (all_cons R x.value E D h) s.1,
    )

    pub words_more : (k : ℕ) (E D : List A) → AllInIdeal R E D → HasWords k D → HasWords k E
    words_more k E D h w =
        record { has = λ p i v all l. in_ideal_trans R E D h (w.has p i v all l) }

    pub first_more : (b k : ℕ) (E D : List A) → AllInIdeal R E D → HasFirst b k D
        → HasFirst b k E
    first_more b k E D h w =
        record { has = λ p i c u lc all l e. in_ideal_trans R E D h (w.has p i c u lc all l e) }

    -- ---- one series after another
    pub series-append : (D : List A) (xs ys : List (Item A)) → IsSeries D xs
        → IsSeries (joined xs D) ys → IsSeries D (xs ++ ys)
    unfolding IsSeries joined
    series-append D [] ys s t = t
    series-append D (x ∷ xs) ys s t = (s.0, series-append (x.value ∷ D) xs ys s.1 t)

    -- ---- an iteration of one branch
    module _ (b k : ℕ) (letter : L b) where
      less_word : (c : ℕ) (u w : List ℕ) → IsLess (c ∷ u) (b ∷ w)
          → (c < b) ⊎ ((c ≡ b) × IsLess u w)
      less_word c u w h = less_cases c b u w h

      turned_next : (E C : List A) (x : Item A) → AllInIdeal R E (map (φ b).to C)
          → length x.word ≡ k → HasWords k E → HasFirst b k E → IsNext C x
          → IsNext E (turned b x)
      unfolding word_at
      turned_next E C x h l words first n = record {
        same =
            in_ideal_same R
            (sym ((φ b).to-add x.value (R.neg (word_at x.word x.from))
            ∙ ap (R.add ((φ b).to x.value)) (to-neg (φ b) (word_at x.word x.from))))
            (image_in R (φ b) E C _ h n.same);
        earlier = λ p i v all e. go p i v all e;
      }
        where
          at : (p : A) → In p Ps → (v : List ℕ) → All L v → length v ≡ suc (length x.word)
              → IsLess v (b ∷ x.word) → InIdeal R E (word_at v p)
          at p i [] all same less = absurd (omega arith)
          at p i (c ∷ u) all same less =
              cases (less_word c u x.word less)
            where
              same_length : length u ≡ length x.word
              same_length = omega arith

              cases : (c < b) ⊎ ((c ≡ b) × IsLess u x.word) → InIdeal R E (word_at (c ∷ u) p)
              cases (inl below) =
                  first.has p i c u (All-head L c u all) (All-tail L c u all) below
                  (same_length ∙ l)
              cases (inr r) =
                  subst (λ d. InIdeal R E ((φ d).to (word_at u p))) (sym r.0)
                  (image_in R (φ b) E C (word_at u p) h
                  (n.earlier p i u (All-tail L c u all) (inr (same_length, r.1))))

          go : (p : A) → In p Ps → (v : List ℕ) → All L v → IsEarlier v (b ∷ x.word)
              → InIdeal R E (word_at v p)
          go p i v all (inl shorter) = words.has p i v all (omega (arith, l, shorter))
          go p i v all (inr r) = at p i v all r.0 r.1

      pub branch_is_series : (E C : List A) (xs : List (Item A))
          → AllInIdeal R E (map (φ b).to C) → Each (λ x. length x.word ≡ k) xs → HasWords k E
          → HasFirst b k E → IsSeries C xs
          → IsSeries E (map (turned b) xs)
          × AllInIdeal R (joined (map (turned b) xs) E) (map (φ b).to (joined xs C))
      unfolding Each IsSeries joined
      branch_is_series E C [] h long words first s = (tt, h)
      branch_is_series E C (x ∷ xs) h long words first s =
          let more : AllInIdeal R ((φ b).to x.value ∷ E) E =
          all_in_tail R ((φ b).to x.value) E E (all_in_itself R E) in
          let rest = branch_is_series ((φ b).to x.value ∷ E) (x.value ∷ C) xs
          (all_cons R ((φ b).to x.value) E (map (φ b).to C) h) long.1
          (words_more k ((φ b).to x.value ∷ E) E more words)
          (first_more b k ((φ b).to x.value ∷ E) E more first) s.1 in
          ((turned_next E C x h long.0 words first s.0, rest.0), rest.1)

    -- ---- iterations of all branches
    pub record IsTurned (b n k : ℕ) (C E : List A) (ys : List (Item A)) : Type 0 where
      pub series : IsSeries E ys
      pub first : HasFirst (b + n) k (joined ys E)
      pub images : (c : ℕ) → b ≤ c → c < b + n → AllInIdeal R (joined ys E) (map (φ c).to C)

    module _ (k : ℕ) (before : List A) (xs : List (Item A))
        (long : Each (λ x. length x.word ≡ k) xs) (s : IsSeries before xs)
        (words : HasWords k (joined xs before)) where
      one_more : (b : ℕ) (E : List A) → AllInIdeal R E (map (φ b).to (joined xs before))
          → HasFirst b k E → HasFirst (suc b) k E
      unfolding word_at
      one_more b E h f = record { has = λ p i c u lc all l e. go p i c u lc all e (cases c l) }
        where
          cases : (c : ℕ) → c < suc b → (c < b) ⊎ (c ≡ b)
          cases c l = grind arith

          go : (p : A) → In p Ps → (c : ℕ) (u : List ℕ) → L c → All L u → length u ≡ k
              → (c < b) ⊎ (c ≡ b) → InIdeal R E (word_at (c ∷ u) p)
          go p i c u lc all e (inl l) = f.has p i c u lc all l e
          go p i c u lc all e (inr q) =
              subst (λ d. InIdeal R E ((φ d).to (word_at u p))) (sym q)
              (image_in R (φ b) E (joined xs before) (word_at u p) h
              (words.has p i u all (omega (arith, e))))

      abbrev AreReady : ℕ → ℕ → List A → Type 0
      AreReady b n E = (c : ℕ) → b ≤ c → c < b + n → L c × AllInIdeal R E (map (φ c).to before)

      -- with the iterations of one branch, and then those of the branches behind it
      turned_more : (n b : ℕ) (E : List A) → AreReady b (suc n) E → HasWords k E
          → HasFirst b k E
          → ((F : List A) → AreReady (suc b) n F → HasWords k F → HasFirst (suc b) k F
          → IsTurned (suc b) n k (joined xs before) F (level (suc b) n xs))
          → IsTurned b (suc n) k (joined xs before) E (map (turned b) xs ++ level (suc b) n xs)
      turned_more n b E h w f later = record {
        series = series-append E ys (level (suc b) n xs) one.0 rest.series;
        first =
            subst (λ D. HasFirst (b + suc n) k D) (sym (joined-append ys (level (suc b) n xs) E))
            (subst (λ c. HasFirst c k (joined (level (suc b) n xs) (joined ys E)))
            (let e : suc b + n ≡ b + suc n = omega arith in e) rest.first);
        images = λ c l m.
            subst (λ D. AllInIdeal R D (map (φ c).to (joined xs before)))
            (sym (joined-append ys (level (suc b) n xs) E)) (go c (cases c l m));
      }
        where
          ys : List (Item A)
          ys = map (turned b) xs

          here : L b × AllInIdeal R E (map (φ b).to before)
          here = h b (omega arith) (omega arith)

          one : IsSeries E ys × AllInIdeal R (joined ys E) (map (φ b).to (joined xs before))
          one = branch_is_series b k here.0 E before xs here.1 long w f s

          more : AllInIdeal R (joined ys E) E
          more = joined_has R ys E

          ready : AreReady (suc b) n (joined ys E)
          ready c l m =
              let r = h c (omega arith) (omega arith) in
              (r.0, all_trans R (joined ys E) E (map (φ c).to before) more r.1)

          rest : IsTurned (suc b) n k (joined xs before) (joined ys E) (level (suc b) n xs)
          rest =
              later (joined ys E) ready (words_more k (joined ys E) E more w)
              (one_more b (joined ys E) one.1 (first_more b k (joined ys E) E more f))

          cases : (c : ℕ) → b ≤ c → c < b + suc n → (c ≡ b) ⊎ ((suc b ≤ c) × (c < suc b + n))
          cases c l m = grind arith

          go : (c : ℕ) → (c ≡ b) ⊎ ((suc b ≤ c) × (c < suc b + n))
              → AllInIdeal R (joined (level (suc b) n xs) (joined ys E))
              (map (φ c).to (joined xs before))
          go c (inl e) =
              subst (λ d. AllInIdeal R (joined (level (suc b) n xs) (joined ys E))
              (map (φ d).to (joined xs before))) (sym e)
              (all_trans R (joined (level (suc b) n xs) (joined ys E)) (joined ys E) _
              (joined_has R (level (suc b) n xs) (joined ys E)) one.1)
          go c (inr r) = rest.images c r.0 r.1

      pub level_is_turned : (n b : ℕ) (E : List A) → AreReady b n E → HasWords k E
          → HasFirst b k E
          → IsTurned b n k (joined xs before) E (level b n xs)
      unfolding level IsSeries joined
      level_is_turned zero b E h w f = record {
        series = tt;
        first = subst (λ c. HasFirst c k E) (let e : b ≡ b + 0 = omega arith in e) f;
        images = λ c l m. absurd (omega arith);
      }
      level_is_turned (suc n) b E h w f =
          turned_more n b E h w f (λ F r v g. level_is_turned n (suc b) F r v g)
