-- A level on its way: some of its items are joined, or were members already, and the others wait.
--   InLevel k before kept waiting B      of level k, in the ideal of B, which was that of `before`
--                                        when the level began, and is now that with the items kept
--   level_begun          level 0: the first elements wait
--   level_passed         the next item is a member already
--   level_kept           the next item less a member is joined
--   level_over           where none waits, the next level begins
--   level_closed         where the next level has no item, the endomorphisms lead the ideal into
--                        itself, and it has the first elements
use Rattle.std.proofs.Common.{◌≡◌, ◌⊎◌, inl, inr, ℕ, zero, suc, ◌<◌, ◌≤◌, List, [], ◌∷◌, ◌++◌, map, length, refl, sym, ap, subst, arith, All}
use Rattle.std.proofs.lemmas.List.Elements.{All-nil, All-head, All-tail}
use Rattle.algebra.specs.Each.{Each}
use Rattle.algebra.specs.In.{In}
use Rattle.algebra.specs.Ring.{CommRing, Hom}
use Rattle.algebra.proofs.Each.{each_weaker, each-map, each-append}
use Rattle.algebra.proofs.RingSolver.{ring, ring_rules}
use Rattle.ideals.specs.Ideal.{InIdeal, AllInIdeal}
use Rattle.ideals.proofs.Ideal.{in_ideal_same, in_ideal_zero, in_ideal_add, in_ideal_neg, in_ideal_trans, all_in_itself}
use Rattle.corollaries.specs.Word.{IsEarlier}
use Rattle.corollaries.proofs.Order.{less_irrefl}
use Rattle.closures.proofs.Series.{Item, joined, joined-append, all_trans, all_cons, joined_more, joined_has, images_in, word_at, turned, level, IsNext, IsSeries, HasWords, next_more, series_more, words_more, series-append, IsTurned, level_is_turned}

abbrev pub first_item : {A : Type 0} → A → Item A
first_item x = record { value = x; from = x; word = [] }

abbrev pub with_value : {A : Type 0} → A → Item A → Item A
with_value r x = record { value = r; from = x.from; word = x.word }

module _ {A : Type 0} (R : CommRing A) (φ : ℕ → Hom R R) (L : ℕ → Type 0) (Ps : List A) where
  pub record InLevel (k : ℕ) (before : List A) (kept waiting : List (Item A)) (B : List A) : Type
      0 where
    pub series : IsSeries R φ L Ps B waiting
    pub owed_words : HasWords R φ L Ps k (joined waiting B)
    pub owed_iterations : (b : ℕ) → L b → AllInIdeal R (joined waiting B) (map (φ b).to before)
    pub kept_series : IsSeries R φ L Ps before kept
    pub within : AllInIdeal R (joined kept before) B
    pub has : AllInIdeal R B (joined kept before)
    pub waiting_long : Each (λ x. length x.word ≡ k) waiting
    pub kept_long : Each (λ x. length x.word ≡ k) kept

  -- ---- the first level
  none_earlier : (v : List ℕ) → IsEarlier v [] → ⊥
  none_earlier v (inl l) = omega arith
  none_earlier [] (inr r) = less_irrefl [] r.1
  none_earlier (b ∷ v) (inr r) = let e : suc (length v) ≡ 0 = r.0 in omega arith

  first_series : (ps D : List A) → IsSeries R φ L Ps D (map first_item ps)
  unfolding IsSeries word_at
  first_series [] D = tt
  first_series (p ∷ ps) D = (
    record {
      same = in_ideal_same R (R.add-neg p) (in_ideal_zero R);
      earlier = λ q i v all e. absurd (none_earlier v e);
    },
    first_series ps (p ∷ D),
  )

  first_joined : (ps D : List A) (p : A) → In p ps → InIdeal R (joined (map first_item ps) D) p
  unfolding joined Each
  first_joined [] D p i = absurd i
  first_joined (q ∷ ps) D p (inl e) = in_ideal_same R e (joined_has R (map first_item ps) (q ∷ D)).0
  first_joined (q ∷ ps) D p (inr i) = first_joined ps (q ∷ D) p i

  first_long : (ps : List A) → Each (λ x. length x.word ≡ 0) (map first_item ps)
  unfolding Each
  first_long [] = tt
  first_long (p ∷ ps) = (refl, first_long ps)

  word_nil : (p : A) → p ≡ word_at R φ [] p
  unfolding word_at
  word_nil p = refl

  pub level_begun : InLevel 0 [] [] (map first_item Ps) []
  unfolding Each IsSeries joined
  level_begun = record {
    series = first_series Ps [];
    owed_words = record { has = words };
    owed_iterations = λ b l. tt;
    kept_series = tt;
    within = tt;
    has = tt;
    waiting_long = first_long Ps;
    kept_long = tt;
  }
    where
      words : (p : A) → In p Ps → (v : List ℕ) → All L v → length v ≤ 0
          → InIdeal R (joined (map first_item Ps) []) (word_at R φ v p)
      words p i [] all l =
          subst (InIdeal R (joined (map first_item Ps) [])) (word_nil p) (first_joined Ps [] p i)
      words p i (b ∷ v) all l = absurd (omega arith)

  module _ (k : ℕ) (before : List A) (kept : List (Item A)) (x : Item A) (xs : List (Item A))
      (B : List A) (h : InLevel k before kept (x ∷ xs) B) where
    pub level_next : IsNext R φ L Ps B x
    unfolding IsSeries
    level_next = h.series.0

    pub level_passed : InIdeal R B x.value → InLevel k before kept xs B
    unfolding Each IsSeries joined
    level_passed i =
        let more : AllInIdeal R B (x.value ∷ B) = (i, all_in_itself R B) in
        let all : AllInIdeal R (joined xs B) (joined xs (x.value ∷ B)) =
        joined_more R xs B (x.value ∷ B) more in
        record {
          series = series_more R φ L Ps B (x.value ∷ B) xs more h.series.1;
          owed_words = words_more R φ L Ps k (joined xs B) (joined xs (x.value ∷ B)) all
              h.owed_words;
          owed_iterations = λ b l. all_trans R (joined xs B) (joined xs (x.value ∷ B)) _ all
              (h.owed_iterations b l);
          kept_series = h.kept_series;
          within = h.within;
          has = h.has;
          waiting_long = h.waiting_long.1;
          kept_long = h.kept_long;
        }

    module _ (r : A) (C : List A) (rest : InIdeal R B (R.add x.value (R.neg r)))
        (to : AllInIdeal R C (r ∷ B)) (from : AllInIdeal R (r ∷ B) C) where
      abbrev y : Item A
      y = with_value r x

      in_more : InIdeal R C x.value
      unfolding Each
      in_more =
          in_ideal_same R (split x.value r)
          (in_ideal_add R (in_ideal_trans R C B to.1 rest) to.0)
        where
          split : (a r : A) → a ≡ R.add (R.add a (R.neg r)) r
          split a r = ring R (a ∷ r ∷ []) (search ring_rules depth 40) refl

      kept_next : IsNext R φ L Ps (joined kept before) y
      kept_next =
          next_more R φ L Ps (joined kept before) B y h.within (record {
            same =
                in_ideal_same R (split x.value r (word_at R φ x.word x.from))
                (in_ideal_add R (in_ideal_neg R rest) level_next.same);
            earlier = level_next.earlier;
          })
        where
          split : (a r w : A) → R.add r (R.neg w)
              ≡ R.add (R.neg (R.add a (R.neg r))) (R.add a (R.neg w))
          split a r w = ring R (a ∷ r ∷ w ∷ []) (search ring_rules depth 40) refl

      pub level_kept : InLevel k before (kept ++ y ∷ []) xs C
      unfolding Each IsSeries joined
      level_kept =
          let more : AllInIdeal R C (x.value ∷ B) = (in_more, to.1) in
          let all : AllInIdeal R (joined xs C) (joined xs (x.value ∷ B)) =
          joined_more R xs C (x.value ∷ B) more in
          record {
            series = series_more R φ L Ps C (x.value ∷ B) xs more h.series.1;
            owed_words = words_more R φ L Ps k (joined xs C) (joined xs (x.value ∷ B)) all
                h.owed_words;
            owed_iterations = λ b l. all_trans R (joined xs C) (joined xs (x.value ∷ B)) _ all
                (h.owed_iterations b l);
            kept_series = series-append R φ L Ps before kept (y ∷ []) h.kept_series (kept_next, tt);
            within =
                subst (λ D. AllInIdeal R D C) (sym (joined-append kept (y ∷ []) before))
                (all_trans R (r ∷ joined kept before) (r ∷ B) C
                (all_cons R r (joined kept before) B h.within) from);
            has =
                subst (AllInIdeal R C) (sym (joined-append kept (y ∷ []) before))
                (to.0, all_trans R C B (joined kept before) to.1 h.has);
            waiting_long = h.waiting_long.1;
            kept_long =
                each-append (λ z. length z.word ≡ k) kept (y ∷ []) h.kept_long
                (h.waiting_long.0, tt);
          }

  -- ---- the next level
  level_long : (k : ℕ) (xs : List (Item A)) → Each (λ x. length x.word ≡ k) xs → (n b : ℕ)
      → Each (λ x. length x.word ≡ suc k) (level R φ b n xs)
  unfolding level Each
  level_long k xs h zero b = tt
  level_long k xs h (suc n) b =
      each-append (λ x. length x.word ≡ suc k) (map (turned R φ b) xs) (level R φ (suc b) n xs)
      (each-map (λ x. length x.word ≡ suc k) (turned R φ b) xs
      (each_weaker (λ x. length x.word ≡ k) (λ x. suc (length x.word) ≡ suc k)
      (λ x e. ap suc e) xs h)) (level_long k xs h n (suc b))

  module _ (n : ℕ) (range : (b : ℕ) → L b → (0 < b) × (b ≤ n))
      (letter : (b : ℕ) → 0 < b → b ≤ n → L b) where
    module _ (k : ℕ) (before : List A) (kept : List (Item A)) (B : List A)
        (h : InLevel k before kept [] B) where
      turned_level : IsTurned R φ L Ps 1 n k (joined kept before) B (level R φ 1 n kept)
      unfolding joined
      turned_level =
          level_is_turned R φ L Ps k before kept h.kept_long h.kept_series
          (words_more R φ L Ps k (joined kept before) B h.within h.owed_words) n 1 B
          (λ c l m. let lc = letter c (omega arith) (omega arith) in (lc, h.owed_iterations c lc))
          h.owed_words (record {
            has = λ p i c u lc all l e.
                absurd (let s : 0 < c = (range c lc).0 in omega arith);
          })

      next_words : HasWords R φ L Ps (suc k) (joined (level R φ 1 n kept) B)
      unfolding joined
      next_words = record { has = λ p i v all l. go p i v all (cases (length v) l) }
        where
          cases : (j : ℕ) → j ≤ suc k → (j ≤ k) ⊎ (j ≡ suc k)
          cases j l = grind arith

          short : (p : A) → In p Ps → (v : List ℕ) → All L v → length v ≤ k
              → InIdeal R (joined (level R φ 1 n kept) B) (word_at R φ v p)
          short p i v all l =
              in_ideal_trans R (joined (level R φ 1 n kept) B) B
              (joined_has R (level R φ 1 n kept) B) (h.owed_words.has p i v all l)

          go : (p : A) → In p Ps → (v : List ℕ) → All L v → (length v ≤ k) ⊎ (length v ≡ suc k)
              → InIdeal R (joined (level R φ 1 n kept) B) (word_at R φ v p)
          go p i v all (inl l) = short p i v all l
          go p i [] all (inr e) = short p i [] all (omega arith)
          go p i (c ∷ u) all (inr e) =
              let lc = All-head L c u all in
              turned_level.first.has p i c u lc (All-tail L c u all)
              (let r : c ≤ n = (range c lc).1 in omega arith) (omega arith)

      pub level_over : InLevel (suc k) B [] (level R φ 1 n kept) B
      unfolding Each IsSeries joined
      level_over = record {
        series = turned_level.series;
        owed_words = next_words;
        owed_iterations = λ b l.
            let r = range b l in
            images_in R (φ b) (joined (level R φ 1 n kept) B) (joined kept before) B
            (turned_level.images b r.0 (let m : b ≤ n = r.1 in omega arith)) h.within;
        kept_series = tt;
        within = all_in_itself R B;
        has = all_in_itself R B;
        waiting_long = level_long k kept h.kept_long n 1;
        kept_long = tt;
      }

      pub level_closed : level R φ 1 n kept ≡ []
          → ((b : ℕ) → L b → AllInIdeal R B (map (φ b).to B))
      unfolding joined
      level_closed e b l =
          subst (λ ys. AllInIdeal R (joined ys B) (map (φ b).to B)) e (level_over.owed_iterations b
          l)

      pub level_has : (p : A) → In p Ps → InIdeal R B p
      unfolding word_at joined
      level_has p i = h.owed_words.has p i [] (All-nil L) (omega arith)
