-- The graph of a list of polynomials, with copies in front of what was: what it says of what is.
--   `before` tells from the copies and from what is (the values of fs) what was; the ds are zero there, and differences of what is and of fs at what was.
--   graph_gives        where these are eliminated, what is left generates the polynomials that, composed with fs, are members of the ideal of gs
use Rattle.std.proofs.Common.{◌≡◌, ℕ, zero, suc, ◌+◌, ◌<◌, List, [], ◌∷◌, ◌++◌, map, drop, get_or, length, refl, arith, sym, ap, ap₂, subst, ◌∙◌}
use Rattle.std.proofs.lemmas.List.{map-append, length-map, length-drop, get_or-map, drop-map}
use Rattle.std.proofs.lemmas.Simd.{map-map}
use Rattle.algebra.specs.Each.{Each}
use Rattle.algebra.specs.Sum.{sum_over}
use Rattle.algebra.specs.Ring.{CommRing}
use Rattle.algebra.proofs.Each.{each-append, each-drop}
use Rattle.algebra.proofs.RingSolver.{ring, ring_rules}
use Rattle.algebra.specs.Fraction.{Fraction, ℚ}
use Rattle.algebra.proofs.Fractions.{ℚ_ring}
use Rattle.polynomials.specs.Terms.{Terms, Same, variables, negate, compose, evaluate}
use Rattle.polynomials.specs.Polynomial.{Arity, AllArity}
use Rattle.polynomials.proofs.Arity.{arity-compose, arity-append, arity-negate, arity-variables}
use Rattle.polynomials.proofs.ByValues.{same_by_values}
use Rattle.polynomials.proofs.ValueAt.{value_at-append, value_at-negate, value_at-compose, value_at-variables}
use Rattle.ideals.specs.Members.{IsMember}
use Rattle.ideals.proofs.FractionMembers.{member_same, member_nil, member_at, member_append, member_left, member_turned}
use Rattle.loops.proofs.Maps.{length-variables}
use Rattle.machines.specs.Elimination.{in_front}
use Rattle.machines.proofs.Padding.{at, arity-pad, value_at-pad, in_front_at}
use Rattle.rounds.specs.Generate.{Generates}
use Rattle.rounds.specs.Orbit.{IsEliminated}
use Rattle.rounds.proofs.Congruent.{member_congruent}

cancelled : {A : Type 0} (R : CommRing A) (u v : A) → R.add (R.add u (R.neg v)) v ≡ u
cancelled R u v = ring R (u ∷ v ∷ []) (search ring_rules depth 40) refl

module _ (t m : ℕ) (copied before fs gs ds : List (Terms Fraction)) where
  abbrev n : ℕ
  n = t + m

  abbrev pub put : Terms Fraction → Terms Fraction
  put p = compose ℚ (t + m) p before

  -- the copies at a state, and what is behind it
  abbrev pub mapped : List Fraction → List Fraction
  mapped s = map (λ c. at c s) copied ++ map (λ f. at f s) fs

  pub record IsGraph : Type 0 where
    pub count : length copied ≡ t
    pub copied_arity : AllArity m copied
    pub before_arity : AllArity (t + m) before
    pub forms_arity : AllArity m fs
    pub as_many : length fs ≡ m
    pub list_arity : AllArity m gs
    pub differences_arity : AllArity (t + m) ds
    pub tells : (s : List Fraction) → length s ≡ m → map (λ b. at b (mapped s)) before ≡ s
    pub gone : (s : List Fraction) → length s ≡ m → (j : ℕ) → j < length ds
        → at (get_or ds j []) (mapped s) ≡ ℚ.zero
    pub differ : (i : ℕ) → i < m → IsMember ℚ (t + m) (map put gs ++ ds)
        (get_or (drop t (variables ℚ (t + m))) i [] ++ negate ℚ (get_or (map put fs) i []))

  module _ (is : IsGraph) where
    put_arity : (us : List (Terms Fraction)) → AllArity n (map put us)
    unfolding Each
    put_arity [] = tt
    put_arity (u ∷ us) = (arity-compose n ℚ u before is.before_arity, put_arity us)

    pub graph_arity : AllArity (t + m) (map put gs ++ ds)
    graph_arity = each-append (Arity n) (map put gs) ds (put_arity gs) is.differences_arity

    -- ---- at what was and what is
    images : List (Terms Fraction)
    images = copied ++ fs

    images_arity : AllArity m images
    unfolding images
    images_arity = each-append (Arity m) copied fs is.copied_arity is.forms_arity

    at_mapped : (e : Terms Fraction) (s : List Fraction) → at (compose ℚ m e images) s
        ≡ at e (mapped s)
    unfolding images
    at_mapped e s = value_at-compose ℚ_ring m e (copied ++ fs) s
        ∙ ap (at e) (map-append (λ q. at q s) copied fs)

    element : (g : Terms Fraction) → Arity m g → Same ℚ (compose ℚ m (put g) images) g
    element g a = same_by_values m _ g (arity-compose m ℚ (put g) images images_arity) a
        (λ s l. at_mapped (put g) s ∙ value_at-compose ℚ_ring n g before (mapped s)
        ∙ ap (at g) (is.tells s l))

    difference : (j : ℕ) → j < length ds → Same ℚ (compose ℚ m (get_or ds j []) images) []
    unfolding Each evaluate sum_over
    difference j k = same_by_values m _ [] (arity-compose m ℚ (get_or ds j []) images images_arity)
        tt (λ s l. at_mapped (get_or ds j []) s ∙ is.gone s l j k)

    there : (us : List (Terms Fraction)) → AllArity m us
        → ((j : ℕ) → j < length us → IsMember ℚ m gs (get_or us j []))
        → (j : ℕ) → j < length (map put us ++ ds)
        → IsMember ℚ m gs (compose ℚ m (get_or (map put us ++ ds) j []) images)
    unfolding Each
    there [] a h j l = member_same m gs [] _ (difference j l) (member_nil m gs)
    there (u ∷ us) a h zero l = member_same m gs u _ (element u a.0) (h 0 (omega arith))
    there (u ∷ us) a h (suc j) l = there us a.1 (λ i q. h (suc i) (omega (arith, q))) j
        (omega (arith, l))

    front_same : (p : Terms Fraction) → Arity m p
        → Same ℚ (compose ℚ m p fs) (compose ℚ m (in_front t p) images)
    front_same p a = same_by_values m _ _ (arity-compose m ℚ p fs is.forms_arity)
        (arity-compose m ℚ (in_front t p) images images_arity) (λ s l.
        let cs = map (λ c. at c s) copied in
        let xs = map (λ f. at f s) fs in
        let long : length cs ≡ t = length-map copied (λ c. at c s) ∙ is.count in
        value_at-compose ℚ_ring m p fs s
        ∙ sym (at_mapped (in_front t p) s ∙ ap (λ k. at (in_front k p) (cs ++ xs)) (sym long)
        ∙ value_at-pad cs xs p))

    forth : (p : Terms Fraction) → Arity m p → IsMember ℚ n (map put gs ++ ds) (in_front t p)
        → IsMember ℚ m gs (compose ℚ m p fs)
    forth p a i = member_same m gs (compose ℚ m (in_front t p) images) (compose ℚ m p fs)
        (front_same p a)
        (member_turned n m (map put gs ++ ds) gs images (in_front t p) graph_arity is.list_arity
        images_arity (arity-pad t m p a)
        (there gs is.list_arity (member_at m gs is.list_arity)) i)

    -- ---- and back
    abbrev inner : List (Terms Fraction)
    inner = drop t (variables ℚ n)

    inner_arity : AllArity n (drop t (variables ℚ n))
    inner_arity = each-drop (Arity n) t (variables ℚ n) (arity-variables n ℚ)

    inner_count : length (drop t (variables ℚ n)) ≡ m
    inner_count = length-drop t (variables ℚ n) ∙ (let e = length-variables n in omega (arith, e))

    element_in : (j : ℕ) → j < length gs → IsMember ℚ n (map put gs ++ ds) (put (get_or gs j []))
    element_in j l =
        let long = length-map gs put in
        let same : get_or (map put gs) j [] ≡ put (get_or gs j []) = get_or-map put gs j [] [] l in
        member_left n (map put gs) ds (put (get_or gs j [])) (put_arity gs) is.differences_arity
        (arity-compose n ℚ (get_or gs j []) before is.before_arity)
        (subst (IsMember ℚ n (map put gs)) same (member_at n (map put gs) (put_arity gs) j
        (omega (arith, long, l))))

    module _ (p : Terms Fraction) (a : Arity m p) where
      abbrev one : Terms Fraction
      one = compose ℚ n p inner ++ negate ℚ (compose ℚ n p (map put fs))

      abbrev two : Terms Fraction
      two = put (compose ℚ m p fs)

      one_arity : Arity n one
      one_arity = arity-append n _ _ (arity-compose n ℚ p inner inner_arity)
          (arity-negate n ℚ _ (arity-compose n ℚ p (map put fs) (put_arity fs)))

      two_arity : Arity n two
      two_arity = arity-compose n ℚ (compose ℚ m p fs) before is.before_arity

      values_put : (x : List Fraction) → map (λ q. at q x) (map put fs)
          ≡ map (λ f. at f (map (λ b. at b x) before)) fs
      values_put x = map-map (λ q. at q x) put fs ∙ same fs
        where
          same : (us : List (Terms Fraction)) → map (λ u. at (put u) x) us
              ≡ map (λ f. at f (map (λ b. at b x) before)) us
          same [] = refl
          same (u ∷ us) = ap₂ ◌∷◌ (value_at-compose ℚ_ring n u before x) (same us)

      front_is : Same ℚ (in_front t p) (one ++ two)
      front_is = same_by_values n (in_front t p) (one ++ two) (arity-pad t m p a)
          (arity-append n one two one_arity two_arity) (λ x l.
          let u = at (in_front t p) x in
          let v = at p (map (λ f. at f (map (λ b. at b x) before)) fs) in
          let first : at (compose ℚ n p inner) x ≡ u =
          value_at-compose ℚ_ring n p inner x
          ∙ ap (at p) (sym (drop-map (λ q. at q x) t (variables ℚ n))
          ∙ ap (drop t) (value_at-variables ℚ_ring n x l))
          ∙ sym (in_front_at t m p x l) in
          let second : at (compose ℚ n p (map put fs)) x ≡ v =
          value_at-compose ℚ_ring n p (map put fs) x ∙ ap (at p) (values_put x) in
          let third : at two x ≡ v = value_at-compose ℚ_ring n (compose ℚ m p fs) before x
          ∙ value_at-compose ℚ_ring m p fs (map (λ b. at b x) before) in
          sym (value_at-append ℚ_ring one two x
          ∙ ap₂ ℚ.add (value_at-append ℚ_ring (compose ℚ n p inner)
          (negate ℚ (compose ℚ n p (map put fs))) x
          ∙ ap₂ ℚ.add first (value_at-negate ℚ_ring (compose ℚ n p (map put fs)) x
          ∙ ap ℚ.neg second)) third
          ∙ cancelled ℚ_ring u v))

      back : IsMember ℚ m gs (compose ℚ m p fs) → IsMember ℚ n (map put gs ++ ds) (in_front t p)
      back i =
          let long = length-map fs put in
          member_same n (map put gs ++ ds) (one ++ two) (in_front t p) front_is
          (member_append n (map put gs ++ ds) graph_arity one two one_arity two_arity
          (member_congruent n (map put gs ++ ds) graph_arity m p a inner (map put fs) inner_arity
          (put_arity fs) (let c = inner_count in let e = is.as_many in
          omega (arith, long, c, e)) (λ j l. is.differ j (let c = inner_count in
          omega (arith, c, l))))
          (member_turned m n gs (map put gs ++ ds) before (compose ℚ m p fs) is.list_arity
          graph_arity is.before_arity (arity-compose m ℚ p fs is.forms_arity) element_in i))

    pub graph_gives : (ks : List (Terms Fraction)) → IsEliminated t m (map put gs ++ ds) ks
        → Generates m ks (λ p. IsMember ℚ m gs (compose ℚ m p fs))
    graph_gives ks e = record {
      arities = e.arities;
      only = λ p a i. forth p a (e.only p a i);
      all = λ p a h. e.all p a (back p a h);
    }
