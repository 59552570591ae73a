-- The loops over entries and rows, step by step.
--   IsBlendTo q a row b other i out    the entries of out before the place i are those of the blend, the others those of row
--   blend_whole, blend_behind          at the first place, and where other has multiples before
--   blend_step, blend_end              with one entry more, and with all
--   IsTurned R i xs ys      the first i items of ys stand in R to those of xs, the others are those of xs
--   turned_first, turned_length, turned_item, turned_step, turned_end
--   IsRestTo q n ls row some rest      some of the rows ls are taken away
--   rest_first, rest_step, rest_end
use Rattle.std.proofs.Common.{◌≡◌, ◌⊎◌, inl, inr, ℕ, zero, suc, ◌+◌, ◌<◌, ◌≤◌, ℤ, pos, ◌+ℤ◌, ◌*ℤ◌, neg_ℤ, List, [], ◌∷◌, ◌++◌, map, length, get_or, set, refl, sym, ap, ap₂, subst, ◌∙◌, arith}
use Rattle.std.specs.List.{AllZip}
use Rattle.std.proofs.lemmas.Bool.{cases_lt}
use Rattle.std.proofs.lemmas.List.{get_or-set_same, get_or-set_other, get_or_past, get_or_default, length-set}
use Rattle.algebra.specs.Each.{Each}
use Rattle.algebra.specs.Ring.{CommRing}
use Rattle.algebra.proofs.Each.{each-append}
use Rattle.algebra.specs.In.{In}
use Rattle.algebra.proofs.In.{each_in, in_right, map-in}
use Rattle.algebra.proofs.IntRing.{ℤ_ring}
use Rattle.algebra.proofs.RingLaws.{zero-mul}
use Rattle.algebra.proofs.RingSolver.{ring, ring_rules}
use Rattle.ideals.proofs.Ideal.{in_ideal_same, in_ideal_zero, in_ideal_add, in_ideal_mul, in_ideal_neg}
use Rattle.ideals.proofs.Congruence.{congruent_refl, congruent_same, congruent_sym, congruent_add, congruent_mul}
use Rattle.closures.specs.Modulo.{IsMultiple, AreCongruent}
use Rattle.closures.proofs.Congruent.{congruent_trans}
use Rattle.residue_rows.specs.EchelonForm.{dot, entry, Led, rows_in, IsLed, AreClear, AreApart, IsReducedEchelon, IsRestOf}
use Rattle.residue_rows.specs.Additions.{IsBlendOf}
use Rattle.residue_rows.proofs.Dots.{multiple_to, multiple_of, dot_blend}

module _ {A : Type 0} (R : CommRing A) where
  open R use {zero as 𝟘, one as 𝟙, add as ◌⊕◌, mul as ◌⊗◌, neg}

  infixl 60 ◌⊕◌
  infixl 70 ◌⊗◌
  less_it : (x y : A) → x ⊕ neg (𝟙 ⊗ x ⊕ y) ≡ neg y
  less_it x y = ring R (x ∷ y ∷ []) (search ring_rules depth 40) refl

  nothing_at_all : (a b : A) → 𝟘 ≡ a ⊗ 𝟘 ⊕ b ⊗ 𝟘
  nothing_at_all a b = ring R (a ∷ b ∷ []) (search ring_rules depth 40) refl

  all_less : (x : A) → 𝟘 ≡ 𝟙 ⊗ x ⊕ neg x ⊗ 𝟙
  all_less x = ring R (x ∷ []) (search ring_rules depth 40) refl

-- ---- entries
module _ (q a : ℤ) (row : List ℤ) (b : ℤ) (other : List ℤ) where
  pub record IsBlendTo (i : ℕ) (out : List ℤ) : Type 0 where
    pub width : length out ≡ length row
    pub done : (k : ℕ) → k < i
        → AreCongruent q (entry out k) (a *ℤ entry row k +ℤ b *ℤ entry other k)
    pub later : (k : ℕ) → i ≤ k → entry out k ≡ entry row k

  pub blend_whole : IsBlendTo 0 row
  blend_whole = record {
    width = refl;
    done = λ k l. absurd (omega (arith, l));
    later = λ k l. refl;
  }

  pub blend_step : (i : ℕ) (out : List ℤ) (x : ℤ) → i < length out → IsBlendTo i out
      → AreCongruent q x (a *ℤ entry row i +ℤ b *ℤ entry other i)
      → IsBlendTo (i + 1) (set out i x)
  blend_step i out x l h c = record {
    width = length-set out i x ∙ h.width;
    done = λ k m. go k (cases_lt k i) m;
    later = λ k m. get_or-set_other out i k x (pos 0) (λ e. absurd (omega (arith, e, m)))
        ∙ h.later k (omega (arith, m));
  }
    where
      go : (k : ℕ) → (k < i) ⊎ (i ≤ k) → k < i + 1
          → AreCongruent q (entry (set out i x) k) (a *ℤ entry row k +ℤ b *ℤ entry other k)
      go k (inl j) m =
          congruent_same ℤ_ring (q ∷ [])
          (get_or-set_other out i k x (pos 0) (λ e. absurd (omega (arith, e, j)))) refl (h.done k j)
      go k (inr j) m =
          let e : i ≡ k = omega (arith, j, m) in
          subst (λ n. AreCongruent q (entry (set out i x) n)
          (a *ℤ entry row n +ℤ b *ℤ entry other n)) e
          (congruent_same ℤ_ring (q ∷ []) (get_or-set_same out i x (pos 0) l) refl c)

  pub blend_end : (i : ℕ) (out : List ℤ) → length row ≤ i → length other ≤ length row
      → IsBlendTo i out → IsBlendOf q a row b other out
  blend_end i out l w h k = go (cases_lt k i)
    where
      go : (k < i) ⊎ (i ≤ k)
          → AreCongruent q (entry out k) (a *ℤ entry row k +ℤ b *ℤ entry other k)
      go (inl j) = h.done k j
      go (inr j) =
          congruent_same ℤ_ring (q ∷ [])
          (h.later k j ∙ get_or_past row k (pos 0) (omega (arith, l, j)))
          (ap₂ (λ x y. a *ℤ x +ℤ b *ℤ y) (get_or_past row k (pos 0) (omega (arith, l, j)))
          (get_or_past other k (pos 0) (omega (arith, l, j, w)))
          ∙ sym (nothing_at_all ℤ_ring a b)) (congruent_refl ℤ_ring (q ∷ []) (pos 0))

module _ (q : ℤ) (row : List ℤ) (b : ℤ) (other : List ℤ) where
  -- what is taken away is none
  same_entry : (k : ℕ) → IsMultiple q (b *ℤ entry other k)
      → AreCongruent q (entry row k) (pos 1 *ℤ entry row k +ℤ b *ℤ entry other k)
  same_entry k h =
      let x = entry row k in
      record {
        difference = in_ideal_same ℤ_ring (less_it ℤ_ring x (b *ℤ entry other k))
            (in_ideal_neg ℤ_ring h);
      }

  pub blend_behind : (i : ℕ) → ((k : ℕ) → k < i → IsMultiple q (entry other k))
      → IsBlendTo q (pos 1) row b other i row
  blend_behind i h = record {
    width = refl;
    done = λ k l. same_entry k (in_ideal_mul ℤ_ring b (h k l));
    later = λ k l. refl;
  }

  pub blend_none : b ≡ pos 0 → IsBlendOf q (pos 1) row b other row
  blend_none e k =
      same_entry k
      (in_ideal_same ℤ_ring (ap (λ x. x *ℤ entry other k) e ∙ zero-mul ℤ_ring (entry other k))
      (in_ideal_zero ℤ_ring))

-- ---- items
module _ {A : Type 0} (R : A → A → Type 0) where
  unfoldable pub IsTurned : ℕ → List A → List A → Type 0
  IsTurned zero xs ys = ys ≡ xs
  IsTurned (suc i) [] [] = Unit {0}
  IsTurned (suc i) [] (y ∷ ys) = ⊥
  IsTurned (suc i) (x ∷ xs) [] = ⊥
  IsTurned (suc i) (x ∷ xs) (y ∷ ys) = R x y × IsTurned i xs ys

  pub turned_first : (xs : List A) → IsTurned 0 xs xs
  unfolding IsTurned
  turned_first xs = refl

  pub turned_length : (i : ℕ) (xs ys : List A) → IsTurned i xs ys → length ys ≡ length xs
  unfolding IsTurned
  turned_length zero xs ys h = ap length h
  turned_length (suc i) [] [] h = refl
  turned_length (suc i) [] (y ∷ ys) h = absurd h
  turned_length (suc i) (x ∷ xs) [] h = absurd h
  turned_length (suc i) (x ∷ xs) (y ∷ ys) h = ap suc (turned_length i xs ys h.1)

  pub turned_item : (i : ℕ) (xs ys : List A) (d : A) → IsTurned i xs ys
      → get_or ys i d ≡ get_or xs i d
  unfolding IsTurned
  turned_item zero xs ys d h = ap (λ l. get_or l 0 d) h
  turned_item (suc i) [] [] d h = refl
  turned_item (suc i) [] (y ∷ ys) d h = absurd h
  turned_item (suc i) (x ∷ xs) [] d h = absurd h
  turned_item (suc i) (x ∷ xs) (y ∷ ys) d h = turned_item i xs ys d h.1

  turned_more : (i : ℕ) (xs ys : List A) (y : A) → i < length xs → IsTurned i xs ys
      → R (get_or xs i y) y → IsTurned (suc i) xs (set ys i y)
  unfolding IsTurned
  turned_more i [] ys y l h r = absurd (omega (arith, l))
  turned_more zero (x ∷ xs) [] y l h r = absurd (let e = ap length h in omega (arith, e))
  turned_more zero (x ∷ xs) (z ∷ ys) y l h r = (r, tails h)
    where
      tails : z ∷ ys ≡ x ∷ xs → ys ≡ xs
      tails e = cc
  turned_more (suc i) (x ∷ xs) [] y l h r = absurd h
  turned_more (suc i) (x ∷ xs) (z ∷ ys) y l h r =
      (h.0, turned_more i xs ys y (omega (arith, l)) h.1 r)

  pub turned_step : (i : ℕ) (xs ys : List A) (x y : A) → i < length xs → IsTurned i xs ys
      → x ≡ get_or ys i x → R x y → IsTurned (i + 1) xs (set ys i y)
  turned_step i xs ys x y l h e r =
      let same : x ≡ get_or xs i y = e ∙ turned_item i xs ys x h ∙ get_or_default xs i x y l in
      subst (λ k. IsTurned k xs (set ys i y)) (omega arith)
      (turned_more i xs ys y l h (subst (λ z. R z y) same r))

  pub turned_end : (i : ℕ) (xs ys : List A) → length xs ≤ i → IsTurned i xs ys → AllZip R xs ys
  unfolding IsTurned
  turned_end zero [] ys l h = subst (λ l. AllZip R [] l) (sym h) tt
  turned_end zero (x ∷ xs) ys l h = absurd (omega (arith, l))
  turned_end (suc i) [] [] l h = tt
  turned_end (suc i) [] (y ∷ ys) l h = absurd h
  turned_end (suc i) (x ∷ xs) [] l h = absurd h
  turned_end (suc i) (x ∷ xs) (y ∷ ys) l h = (h.0, turned_end i xs ys (omega (arith, l)) h.1)

pub zip_images : {A B : Type 0} (f : A → B) (R : B → B → Type 0) (xs ys : List A)
    → AllZip (λ x y. R (f x) (f y)) xs ys → AllZip R (map f xs) (map f ys)
zip_images f R [] [] h = tt
zip_images f R [] (y ∷ ys) h = absurd h
zip_images f R (x ∷ xs) [] h = absurd h
zip_images f R (x ∷ xs) (y ∷ ys) h = (h.0, zip_images f R xs ys h.1)

-- ---- rows
module _ (q : ℤ) (n : ℕ) (ls : List Led) (row : List ℤ) where
  pub record IsRestTo (some : List Led) (rest : List ℤ) : Type 0 where
    pub width : length rest ≡ n
    pub left : (z : List ℤ) → Each (λ r. IsMultiple q (dot z r)) (rows_in ls)
        → AreCongruent q (dot z rest) (dot z row)
    pub cleared : Each (λ l. IsMultiple q (entry rest l.lead)) some

  pub rest_first : length row ≡ n → IsRestTo [] row
  unfolding Each
  rest_first w = record {
    width = w;
    left = λ z h. congruent_refl ℤ_ring (q ∷ []) (dot z row);
    cleared = tt;
  }

  before_clear : (xs : List Led) (l : Led) (ys : List Led) → AreApart q (xs ++ l ∷ ys)
      → Each (λ k. IsMultiple q (entry l.row k.lead)) xs
  unfolding AreApart Each
  before_clear [] l ys a = tt
  before_clear (x ∷ xs) l ys a =
      let c = each_in (AreClear q x) (xs ++ l ∷ ys) l a.0 (in_right l xs (l ∷ ys) (inl refl)) in
      (c.1, before_clear xs l ys a.1)

  pub rest_step : (xs : List Led) (l : Led) (ys : List Led) (rest out : List ℤ)
      → ls ≡ xs ++ l ∷ ys → IsReducedEchelon q n ls → IsRestTo xs rest → length out ≡ length rest
      → IsBlendOf q (pos 1) rest (neg_ℤ (entry rest l.lead)) l.row out
      → IsRestTo (xs ++ l ∷ []) out
  unfolding Each
  rest_step xs l ys rest out e kept h w blend = record {
    width = w ∙ h.width;
    left = λ z k.
        congruent_trans q (dot z out) (dot z rest) (dot z row) (congruent_trans q (dot z out) _
        (dot z rest) (dot_blend q (pos 1) c rest l.row out z blend) (congruent_sym ℤ_ring (q ∷ [])
        (same_sum (dot z rest) (dot z l.row) (each_in (λ r. IsMultiple q (dot z r)) (rows_in ls)
        l.row k (map-in (λ (m : Led). m.row) ls l within))))) (h.left z k);
    cleared = each-append (λ k. IsMultiple q (entry out k.lead)) xs (l ∷ [])
        (both xs h.cleared
        (before_clear xs l ys (subst (λ k. AreApart q k) e kept.apart)))
        (here, tt);
  }
    where
      c : ℤ
      c = neg_ℤ (entry rest l.lead)

      within : In l ls
      within = subst (λ k. In l k) (sym e) (in_right l xs (l ∷ ys) (inl refl))

      same_sum : (x y : ℤ) → IsMultiple q y → AreCongruent q x (pos 1 *ℤ x +ℤ c *ℤ y)
      same_sum x y i = record {
        difference = in_ideal_same ℤ_ring (less_it ℤ_ring x (c *ℤ y))
            (in_ideal_neg ℤ_ring (in_ideal_mul ℤ_ring c i));
      }

      both : (ks : List Led) → Each (λ k. IsMultiple q (entry rest k.lead)) ks
          → Each (λ k. IsMultiple q (entry l.row k.lead)) ks
          → Each (λ k. IsMultiple q (entry out k.lead)) ks
      both [] i j = tt
      both (k ∷ ks) i j = (
        multiple_to q (blend k.lead)
            (in_ideal_add ℤ_ring (in_ideal_mul ℤ_ring (pos 1) i.0) (in_ideal_mul ℤ_ring c j.0)),
        both ks i.1 j.1,
      )

      here : IsMultiple q (entry out l.lead)
      here =
          let x = entry rest l.lead in
          multiple_of q (congruent_trans q (entry out l.lead) _ (pos 0) (blend l.lead)
          (congruent_same ℤ_ring (q ∷ []) refl (all_less ℤ_ring x) (congruent_add ℤ_ring (q ∷ [])
          (pos 1 *ℤ x) (pos 1 *ℤ x) (c *ℤ entry l.row l.lead) (c *ℤ pos 1)
          (congruent_refl ℤ_ring (q ∷ []) (pos 1 *ℤ x)) (congruent_mul ℤ_ring (q ∷ []) c c
          (entry l.row l.lead) (pos 1) (congruent_refl ℤ_ring (q ∷ []) c) one))))
        where
          one : AreCongruent q (entry l.row l.lead) (pos 1)
          one = let i = each_in (IsLed q n) ls l kept.led within in i.one

  pub rest_end : (rest : List ℤ) → IsRestTo ls rest
      → IsRestOf q (record { width = n; rows = ls }) row rest
  rest_end rest h = record { width = h.width; left = h.left; cleared = h.cleared }
