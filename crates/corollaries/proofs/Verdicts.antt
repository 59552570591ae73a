-- Each part of a full certificate holds or doesn't (specs/Parts), so there is exactly one verdict.
--   verdict_exists, verdict_unique
use Rattle.std.proofs.Common.{◌≡◌, ◌⊎◌, inl, inr, ℕ, zero, suc, ◌+◌, ◌<◌, ◌≤◌, Bool, true, false, List, [], ◌∷◌, ◌++◌, get_or, length, refl, sym, ap, subst, ◌∙◌, arith, Ordering, Less, Equal, Greater}
use Rattle.algebra.specs.Each.{Each}
use Rattle.algebra.proofs.Basics.{equal_or_not, same_head, same_tail}
use Rattle.algebra.proofs.Each.{each-right}
use Rattle.algebra.specs.Fraction.{Fraction, ℚ, rationals}
use Rattle.algebra.specs.Gcd.{gcd}
use Rattle.algebra.proofs.Fractions.{ℚ_ring, ℚ_field, fraction_eq, fraction_eq_refl, fraction_eq_true}
use Rattle.algebra.specs.Sum.{sum_over}
use Rattle.polynomials.specs.Algebra as Algebra
use Rattle.polynomials.specs.Terms.{Terms, Same, AllSame, coefficient, times}
use Rattle.polynomials.specs.Order.{Rank, IsMonomialOrder, compare, grevlex}
use Rattle.polynomials.specs.Polynomial.{Arity, IsPolynomial}
use Rattle.polynomials.specs.Degree.{IsLead}
use Rattle.polynomials.proofs.Arity.{arity-times}
use Rattle.polynomials.proofs.Lead.{lead_along, lead_unique, lead_of_first}
use Rattle.polynomials.proofs.Orders.{grevlex_order, blocks_order}
use Rattle.polynomials.proofs.Same.{Same-sym}
use Rattle.polynomials.proofs.SameDecided.{decide_same}
use Rattle.exponentials.specs.Base.{Coprime, Ascending, Disjoint, SameLength}
use Rattle.exponentials.specs.Keys.{Key, IsNormalKey, key_of}
use Rattle.solvable_maps.specs.Iterations.{IsNormal}
use Rattle.machines.specs.Collect.{collect}
use Rattle.machines.specs.Completion.{leads}
use Rattle.machines.specs.Pairs.{multiple}
use Rattle.machines.proofs.Collecting.{collect-polynomial, collect-same}
use Rattle.loops.specs.Program.{Expr, Program}
use Rattle.rounds.specs.Form.{Form}
use Rattle.corollaries.specs.Representation.{IsLeadBelow, AreBelow}
use Rattle.corollaries.specs.Stage.{Stage, Place, in_list, in_gens, in_pairs, in_links, block_order, pair_at, HoldsAt, IsStageOver}
use Rattle.corollaries.specs.FormIdentities.{IsRightAtZero, GoesOn, IsRightForm}
use Rattle.corollaries.specs.Full.{FullCertificate, stage_of, front_of, starting, IsFullOver}
use Rattle.corollaries.specs.Parts.{Part, in_basis, in_steps, in_forms, in_start, in_round, at_end, Holds, parts, Verdict, complete, fails, IsVerdict}
use Rattle.corollaries.proofs.Lists.{each_place}

abbrev Decided : Type 0 → Type 0
Decided P = P ⊎ (P → ⊥)

both : {P Q : Type 0} → Decided P → Decided Q → Decided (P × Q)
both (inl p) (inl q) = inl (p, q)
both (inl p) (inr n) = inr (λ x. n x.1)
both (inr n) d = inr (λ x. n x.0)

three : {P Q S : Type 0} → Decided P → Decided Q → Decided S → Decided (P × Q × S)
three (inl p) (inl q) (inl s) = inl (p, q, s)
three (inl p) (inl q) (inr n) = inr (λ x. n x.2)
three (inl p) (inr n) d = inr (λ x. n x.1)
three (inr n) d e = inr (λ x. n x.0)

four : {P Q S T : Type 0} → Decided P → Decided Q → Decided S → Decided T → Decided (P × Q × S × T)
four (inl p) (inl q) (inl s) (inl t) = inl (p, q, s, t)
four (inl p) (inl q) (inl s) (inr n) = inr (λ x. n x.3)
four (inl p) (inl q) (inr n) d = inr (λ x. n x.2)
four (inl p) (inr n) d e = inr (λ x. n x.1)
four (inr n) d e f = inr (λ x. n x.0)

decide_each : {X : Type 0} (P : X → Type 0) → ((x : X) → Decided (P x)) → (xs : List X)
    → Decided (Each P xs)
unfolding Each
decide_each P d [] = inl tt
decide_each P d (x ∷ xs) = both (d x) (decide_each P d xs)

-- ---- polynomials
same_or_not : (p q : Terms Fraction) → Decided (Same ℚ p q)
same_or_not p q = decide_same ℚ_ring fraction_eq fraction_eq_refl fraction_eq_true p q

all_same_or_not : (ps qs : List (Terms Fraction)) → Decided (AllSame ℚ ps qs)
unfolding AllSame
all_same_or_not [] [] = inl tt
all_same_or_not [] (q ∷ qs) = inr (λ x. x)
all_same_or_not (p ∷ ps) [] = inr (λ x. x)
all_same_or_not (p ∷ ps) (q ∷ qs) = both (same_or_not p q) (all_same_or_not ps qs)

equal_numbers : (a b : Fraction) → Decided (a ≡ b)
equal_numbers a b = go (fraction_eq a b) refl
  where
    go : (w : Bool) → fraction_eq a b ≡ w → Decided (a ≡ b)
    go true e = inl (fraction_eq_true a b e)
    go false e = inr (λ s. let z : true ≡ false = sym (fraction_eq_refl a) ∙ ap (fraction_eq a) s
        ∙ e in cc)

is_less_or_not : (w : Ordering) → Decided (w ≡ Less)
is_less_or_not Less = inl refl
is_less_or_not Equal = inr (λ e. let z : Equal ≡ Less = e in cc)
is_less_or_not Greater = inr (λ e. let z : Greater ≡ Less = e in cc)

nothing : (d : List ℕ) → coefficient ℚ [] d ≡ ℚ.zero
unfolding Algebra.coefficient sum_over
nothing d = refl

module _ (O : Rank) (o : IsMonomialOrder O) (m : ℕ) (e : List ℕ) where
  -- the lead of what is collected
  lead_below_or_not : (p : Terms Fraction) → Arity m p → Decided (IsLeadBelow rationals O e p)
  lead_below_or_not p a = go (collect rationals O p) (collect-polynomial ℚ_field O o m p a)
      (collect-same ℚ_field O o p)
    where
      go : (q : Terms Fraction) → IsPolynomial ℚ O m q → Same ℚ q p
          → Decided (IsLeadBelow rationals O e p)
      go [] h s = inl (λ d k. absurd ((lead_along O o ℚ_ring d p [] (Same-sym ℚ s) k).occurs
          (nothing d)))
      go (t ∷ q) h s =
          let lead : IsLead ℚ O t.0 p = lead_along O o ℚ_ring t.0 (t ∷ q) p s
          (lead_of_first O o ℚ_ring m (t ∷ q) t h refl) in
          decided t.0 lead (is_less_or_not (compare O t.0 e))
        where
          decided : (d : List ℕ) → IsLead ℚ O d p → Decided (compare O d e ≡ Less)
              → Decided (IsLeadBelow rationals O e p)
          decided d lead (inl l) = inl (λ c k. subst (λ x. compare O x e ≡ Less)
              (lead_unique O o ℚ_ring d c p lead k) l)
          decided d lead (inr n) = inr (λ all. n (all d lead))

  below_or_not : (qs gs : List (Terms Fraction)) → Each (IsPolynomial ℚ O m) qs
      → Each (IsPolynomial ℚ O m) gs → Decided (AreBelow rationals O e qs gs)
  unfolding Each AreBelow
  below_or_not [] gs a b = inl tt
  below_or_not (q ∷ qs) [] a b = inl tt
  below_or_not (q ∷ qs) (g ∷ gs) a b = both (lead_below_or_not (times ℚ q g)
      (arity-times m ℚ q g a.0.arity b.0.arity)) (below_or_not qs gs a.1 b.1)

-- ---- bases
less_or_not : (x y : ℕ) → Decided (x < y)
less_or_not x y = go (cases x y)
  where
    cases : (x y : ℕ) → (x < y) ⊎ (y ≤ x)
    cases x y = grind arith

    go : (x < y) ⊎ (y ≤ x) → Decided (x < y)
    go (inl l) = inl l
    go (inr l) = inr (λ h. omega (arith, l, h))

coprime_or_not : (bs : List ℕ) → Decided (Coprime bs)
coprime_or_not [] = inl tt
coprime_or_not (b ∷ bs) = three (less_or_not 1 b) (decide_each (λ c. gcd b c ≡ 1)
    (λ c. equal_or_not (gcd b c) 1) bs) (coprime_or_not bs)

ascending_or_not : (bs : List ℕ) → Decided (Ascending bs)
ascending_or_not [] = inl tt
ascending_or_not (b ∷ bs) = both (decide_each (λ c. b < c) (less_or_not b) bs) (ascending_or_not bs)

fits_or_not : (bs e : List ℕ) → Decided (SameLength bs e)
fits_or_not [] [] = inl tt
fits_or_not [] (n ∷ e) = inr (λ x. x)
fits_or_not (b ∷ bs) [] = inr (λ x. x)
fits_or_not (b ∷ bs) (n ∷ e) = fits_or_not bs e

zero_or_not : (m n : ℕ) → Decided ((m ≡ 0) ⊎ (n ≡ 0))
zero_or_not zero n = inl (inl refl)
zero_or_not (suc m) zero = inl (inr refl)
zero_or_not (suc m) (suc n) = inr none
  where
    none : (suc m ≡ 0) ⊎ (suc n ≡ 0) → ⊥
    none (inl e) = omega (arith, e)
    none (inr e) = omega (arith, e)

disjoint_or_not : (u v : List ℕ) → Decided (Disjoint u v)
disjoint_or_not [] v = inl tt
disjoint_or_not (m ∷ u) [] = inl tt
disjoint_or_not (m ∷ u) (n ∷ v) = both (zero_or_not m n) (disjoint_or_not u v)

normal_or_not : (bs : List ℕ) (x : Key) → Decided (IsNormalKey bs x)
normal_or_not bs x = four (less_or_not x.0 2) (fits_or_not bs x.1) (fits_or_not bs x.2)
    (disjoint_or_not x.1 x.2)

-- ---- parts
form_or_not : (images : List (Terms Fraction)) (m : ℕ) (f : Form) → Decided (IsRightForm images m f)
form_or_not images m f = go (ascending_or_not f.base) (coprime_or_not f.base)
    (decide_each (IsNormal f.base) (λ p. decide_each
    (λ t. IsNormalKey f.base (key_of (length f.base) t.0)) (λ t. normal_or_not f.base
    (key_of (length f.base) t.0)) p) f.polys)
    (all_same_or_not _ _) (all_same_or_not _ _)
  where
    go : Decided (Ascending f.base) → Decided (Coprime f.base)
        → Decided (Each (IsNormal f.base) f.polys)
        → Decided (IsRightAtZero images m f) → Decided (GoesOn images m f)
        → Decided (IsRightForm images m f)
    go (inl a) (inl c) (inl n) (inl x) (inl y) = inl (record {
      ascending = a;
      coprime = c;
      normal = n;
      at_zero = x;
      goes_on = y;
    })
    go (inr fault) c n x y = inr (λ j. fault j.ascending)
    go (inl a) (inr fault) n x y = inr (λ j. fault j.coprime)
    go (inl a) (inl c) (inr fault) x y = inr (λ j. fault j.normal)
    go (inl a) (inl c) (inl n) (inr fault) y = inr (λ j. fault j.at_zero)
    go (inl a) (inl c) (inl n) (inl x) (inr fault) = inr (λ j. fault j.goes_on)

no_polynomials : (O : Rank) (n : ℕ) → Each (IsPolynomial ℚ O n) []
unfolding Each
no_polynomials O n = tt

place_or_not : (k m : ℕ) (hs : List (Terms Fraction)) (s : Stage) → IsStageOver k m s
    → (place : Place) → Decided (HoldsAt k hs s place)
place_or_not k m hs s over (in_list i) = equal_numbers _ _
place_or_not k m hs s over (in_gens i) = same_or_not _ _
place_or_not k m hs s over (in_pairs i) = both (same_or_not _ _)
    (below_or_not (block_order k) (blocks_order k grevlex grevlex grevlex_order grevlex_order)
    (k + m) (multiple (leads s.list) (pair_at s i)) (get_or s.pairs i []) s.list
    (each_place (Each (IsPolynomial ℚ (block_order k) (k + m))) s.pairs []
    (no_polynomials (block_order k) (k + m)) over.pairs i) over.list)
place_or_not k m hs s over (in_links i) = same_or_not _ _

module _ {At : Type 0} (program : Program (Expr At)) (c : FullCertificate) where
  part_or_not : IsFullOver program c → (part : Part) → Decided (Holds program c part)
  part_or_not over (in_basis e) = same_or_not _ _
  part_or_not over (in_steps b e) = same_or_not _ _
  part_or_not over (in_forms b) = form_or_not _ _ _
  part_or_not over (in_start i) = same_or_not _ _
  part_or_not over (in_round r b kind place) = place_or_not (front_of c b kind)
      (length program.names) (starting program c r b kind) (stage_of c r b kind)
      (over.stages r b kind) place
  part_or_not over at_end = all_same_or_not _ _

  -- ---- the first of a list that doesn't hold
  record First (all : List Part) (part : Part) : Type 0 where
    earlier : List Part
    later : List Part
    is : all ≡ earlier ++ part ∷ later
    holds : Each (Holds program c) earlier
    fails : Holds program c part → ⊥

  search : IsFullOver program c → (xs : List Part) → Each (Holds program c) xs ⊎
      ((x : Part) × First xs x)
  unfolding Each
  search over [] = inl tt
  search over (x ∷ xs) = go (part_or_not over x) (search over xs)
    where
      go : Decided (Holds program c x) → Each (Holds program c) xs ⊎ ((y : Part) × First xs y)
          → Each (Holds program c) (x ∷ xs) ⊎ ((y : Part) × First (x ∷ xs) y)
      go (inr fault) r = inr (
        x,
        record { earlier = []; later = xs; is = refl; holds = tt; fails = fault },
      )
      go (inl h) (inl all) = inl (h, all)
      go (inl h) (inr (y, f)) = inr (
        y,
        record {
          earlier = x ∷ f.earlier;
          later = f.later;
          is = ap (λ l. x ∷ l) f.is;
          holds = (h, f.holds);
          fails = f.fails;
        },
      )

  pub verdict_exists : IsFullOver program c → (v : Verdict) × IsVerdict program c v
  verdict_exists over = go (search over (parts program c))
    where
      go : Each (Holds program c) (parts program c) ⊎ ((x : Part) × First (parts program c) x)
          → (v : Verdict) × IsVerdict program c v
      go (inl h) = (complete, record { each = h })
      go (inr (x, f)) = (
        fails x,
        record {
          earlier = f.earlier;
          later = f.later;
          is = f.is;
          holds = f.holds;
          fails = f.fails;
        },
      )

  -- ---- at most one
  one_first : (xs ys us vs : List Part) (x y : Part) → xs ++ x ∷ us ≡ ys ++ y ∷ vs
      → Each (Holds program c) xs → Each (Holds program c) ys → (Holds program c x → ⊥)
      → (Holds program c y → ⊥) → x ≡ y
  unfolding Each
  one_first [] [] us vs x y e h k n o = same_head e
  one_first [] (z ∷ ys) us vs x y e h k n o = absurd
      (n (subst (Holds program c) (sym (same_head e)) k.0))
  one_first (z ∷ xs) [] us vs x y e h k n o = absurd (o (subst (Holds program c) (same_head e) h.0))
  one_first (z ∷ xs) (v ∷ ys) us vs x y e h k n o = one_first xs ys us vs x y (same_tail e) h.1 k.1
      n o

  none_fails : (xs us all : List Part) (x : Part) → all ≡ xs ++ x ∷ us → Each (Holds program c) all
      → Holds program c x
  unfolding Each
  none_fails xs us all x e h = (each-right (Holds program c) xs (x ∷ us)
      (subst (Each (Holds program c)) e h)).0

  pub verdict_unique : (v u : Verdict) → IsVerdict program c v → IsVerdict program c u → v ≡ u
  verdict_unique complete complete h k = refl
  verdict_unique complete (fails y) h k = absurd
      (k.fails (none_fails k.earlier k.later (parts program c) y k.is h.each))
  verdict_unique (fails x) complete h k = absurd
      (h.fails (none_fails h.earlier h.later (parts program c) x h.is k.each))
  verdict_unique (fails x) (fails y) h k = ap fails (one_first h.earlier k.earlier h.later k.later x
      y (sym h.is ∙ k.is) h.holds k.holds h.fails k.fails)
