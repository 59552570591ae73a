-- A current polynomial of terms that are done and others (specs/Current), over plain variables.
--   found_behind           a cancellation is found behind terms that are done
--   below-collect          collected terms are below what all the terms are below
--   cut_behind             the first of the other terms is cancelled: what is done stays, and what is left is a polynomial
--   past_behind            where that is past, so is the cancellation of all that is left
--   undivided_more         more terms that no lead divides
--   parts_moved            the first of the other terms go behind those that are done
--   undivided_none         none of no terms
--   joined                 the image of two lists put together
--   none_left              neither part has a term where there is none
--   zero_of, some_left     whether nothing is left
--   Moved, moved           what is left is the same, and the cancellation that is found is of the first of the other terms
use Rattle.std.proofs.Common.{◌≡◌, ◌≢◌, ◌↔◌, inl, inr, ℕ, ◌<◌, Bool, true, false, IsTrue, cond, List, [], ◌∷◌, ◌++◌, length, map, take, drop, position, get_or, ◌+◌, ◌-◌, Some, None, append_assoc, take-append-drop, refl, sym, ap, ap₂, subst, ◌∙◌, Ordering, Less, Equal, Greater, arith}
use Rattle.std.proofs.lemmas.List.{get_or-drop, length-drop, map-append}
use Rattle.algebra.specs.Each.{Each}
use Rattle.algebra.proofs.Lists.{take_one}
use Rattle.algebra.proofs.Each.{each-append}
use Rattle.algebra.specs.FieldArithmetic.{FieldArithmetic, field_of}
use Rattle.algebra.specs.Ring.{Field, IsRing, IsFieldOf, ring as ring_of}
use Rattle.algebra.specs.Scalars.{Scalars, IsBounded, field}
use Rattle.algebra.specs.Size.{product_size, sum_size}
use Rattle.algebra.proofs.LcmLaws.{lcm-pos}
use Rattle.algebra.proofs.ProductSizes.{product_den-pos}
use Rattle.algebra.proofs.ScalarFields.{is_field}
use Rattle.algebra.proofs.SizeLaws.{past_under, under-sum, under_refl}
use Rattle.polynomials.specs.Algebra as Algebra
use Rattle.polynomials.specs.Exponent.{plus}
use Rattle.polynomials.specs.Order.{Rank, IsMonomialOrder, compare}
use Rattle.polynomials.specs.Polynomial.{Arity, Below, Falls, IsPolynomial}
use Rattle.polynomials.specs.Terms.{Terms, Same, shift, negate}
use Rattle.polynomials.specs.Weight.{weight}
use Rattle.polynomials.proofs.Monomials.{length-over}
use Rattle.polynomials.proofs.Order.{less_trans}
use Rattle.polynomials.proofs.Same.{Same-refl, same_append}
use Rattle.polynomials.proofs.Weight.{weight-pos, weight-part}
use Rattle.machines.specs.Collect.{place, insert, collect}
use Rattle.machines.specs.Cut.{lead_of, divides, find_cut, first_of, after_cut, all_places}
use Rattle.machines.specs.Past.{IsPastCut, IsPastReduction}
use Rattle.machines.proofs.Collecting.{collect-same}
use Rattle.machines.proofs.Elements.{over-plus}
use Rattle.poly.proofs.Kept.{Over, polynomial_append, polynomial_tail, head_arity}
use Rattle.poly.proofs.Raising.{polynomial_front, polynomial_back, over_parts}
use Rattle.poly.proofs.Steps.{compare-shift}
use Rattle.divide.specs.Current.{AreUndivided}
use Rattle.divide.specs.Cutting.{term_at, cutting_of, FoundAt, Cuts}
use Rattle.divide.proofs.Finding.{cut_by_none}
use Rattle.divide.proofs.OneCut.{cuts, lead_long, term_long}

-- ---- which term is cancelled next
pub found_behind : (S : Scalars) (ls : List (List ℕ)) (gs : List (Terms S.Elem))
    (done rest : Terms S.Elem) → ls ≡ map lead_of gs → AreUndivided ls done
    → find_cut (field S) all_places gs (done ++ rest) ≡ find_cut (field S) all_places gs rest
unfolding find_cut Each
found_behind S ls gs [] rest h u = refl
found_behind S ls gs (t ∷ done) rest h u =
    ap (λ x. first_of x (find_cut (field S) all_places gs (done ++ rest)))
    (cut_by_none S t ls gs h u.0) ∙ found_behind S ls gs done rest h u.1

pub undivided_more : {A : Type 0} (ls : List (List ℕ)) (done more news : Terms A)
    → news ≡ done ++ more → AreUndivided ls done → AreUndivided ls more → AreUndivided ls news
undivided_more ls done more news is d m = subst (AreUndivided ls) (sym is)
    (each-append _ done more d m)

pub undivided_next : {A : Type 0} (ls : List (List ℕ)) (p : Terms A) (i : ℕ) (t : List ℕ × A)
    → i < length p → t ≡ get_or p i t → position (λ d. divides d t.0) ls ≡ None
    → AreUndivided ls (take i p) → AreUndivided ls (take (i + 1) p)
unfolding Each
undivided_next ls p i t l is none u = undivided_more ls (take i p) (t ∷ []) (take (i + 1) p)
    (take_one p i t l is) u (none, tt)

pub undivided_none : {A : Type 0} (ls : List (List ℕ)) (p : Terms A) → p ≡ [] → AreUndivided ls p
unfolding Each
undivided_none ls p is = subst (AreUndivided ls) (sym is) tt

pub joined : {X Y : Type 0} (seen : X → Y) (xs ys zs : List X) → zs ≡ xs ++ ys
    → map seen zs ≡ map seen xs ++ map seen ys
joined seen xs ys zs is = ap (map seen) is ∙ map-append seen xs ys

-- no term is left where neither part has one
pub none_left : {A : Type 0} (p q : Terms A) → p ++ q ≡ [] → (p ≡ []) × (q ≡ [])
none_left [] q e = (refl, e)
none_left (t ∷ p) q e = absurd (let z : ⊥ = cc in z)

-- whether nothing is left, by whether the first part is empty
pub zero_of : {A : Type 0} (b : Bool) (p q : Terms A) → p ≡ [] → IsTrue b ↔ (q ≡ [])
    → IsTrue b ↔ (p ++ q ≡ [])
zero_of b p q e h = (λ t. ap (λ l. l ++ q) e ∙ h.0 t, λ z. h.1 (none_left p q z).1)

pub some_left : {A : Type 0} (p q : Terms A) → p ≢ [] → IsTrue false ↔ (p ++ q ≡ [])
some_left p q n = (λ t. absurd (let z : ⊥ = cc in z), λ z. absurd (n (none_left p q z).0))

pub parts_moved : {X : Type 0} (n : ℕ) (done rest : List X) → (done ++ take n rest) ++ drop n rest
    ≡ done ++ rest
parts_moved n done rest = append_assoc done (take n rest) (drop n rest)
    ∙ ap (λ l. done ++ l) (take-append-drop n rest)

-- ---- collected terms
module _ {A : Type 0} (F : FieldArithmetic A) (O : Rank) where
  below-insert : (e : List ℕ) (t : List ℕ × A) (p : Terms A) → compare O t.0 e ≡ Less → Below O e p
      → Below O e (insert F O t p)
  unfolding insert place Each
  below-insert e t [] l b = (l, tt)
  below-insert e t (u ∷ p) l b = go (compare O t.0 u.0) (F.is_zero (F.add t.1 u.1))
      (below-insert e t p l b.1)
    where
      go : (w : Ordering) (z : Bool) → Below O e (insert F O t p)
          → Below O e (place F w z t u p (insert F O t p))
      go Less z ih = (b.0, ih)
      go Equal true ih = b.1
      go Equal false ih = b
      go Greater z ih = (l, b)

  pub below-collect : (e : List ℕ) (p : Terms A) → Below O e p → Below O e (collect F O p)
  unfolding collect Each
  below-collect e [] b = tt
  below-collect e (t ∷ p) b = go (F.is_zero t.1) (below-collect e p b.1)
    where
      go : (z : Bool) → Below O e (collect F O p)
          → Below O e (cond z (collect F O p) (insert F O t (collect F O p)))
      go true ih = ih
      go false ih = below-insert e t (collect F O p) b.0 ih

-- ---- a cancellation of the first of the other terms
pub record CutBehind (S : Scalars) (O : Rank) (m : ℕ) (done rest left g : Terms S.Elem)
    (by : List ℕ) (c : S.Elem) : Type 0 where
  pub descending : IsPolynomial S.arithmetic O m (done ++ left)
  pub cuts : Cuts S O (done ++ rest) (term_at S rest 0) g by c (done ++ left)

module _ (S : Scalars) (r : IsRing S.arithmetic) (f : IsFieldOf S.arithmetic S.inverse)
    (z : (a : S.Elem) → (S.is_zero a ≡ true) ↔ (a ≡ S.zero)) (O : Rank) (o : IsMonomialOrder O)
    (m : ℕ) where
  abbrev K : Field S.Elem
  K = field_of (field S) (is_field S r f z)

  multiple_below : (e by : List ℕ) (c : S.Elem) (d : List ℕ) (g : Terms S.Elem) → length by ≡ m
      → length d ≡ m → Arity m g → compare O (plus by d) e ≡ Less
      → Each (λ u. (compare O u.0 d ≡ Less)) g
      → Below O e (negate S.arithmetic (shift S.arithmetic by c g))
  unfolding Each Algebra.negate Algebra.shift
  multiple_below e by c d [] l k a h b = tt
  multiple_below e by c d (u ∷ g) l k a h b = (
    less_trans O o (plus by u.0) (plus by d) e (compare-shift O o m by l u.0 d a.0 k ∙ b.0) h,
    multiple_below e by c d g l k a.1 h b.1,
  )

  -- the multiple of g that has a term below e
  whole_below : (e by : List ℕ) (c : S.Elem) (t : List ℕ × S.Elem) (g : Terms S.Elem)
      → length by ≡ m → IsPolynomial S.arithmetic O m g → plus by (lead_of g) ≡ t.0
      → compare O t.0 e ≡ Less → Below O e (negate S.arithmetic (shift S.arithmetic by c g))
  unfolding Each Algebra.negate Algebra.shift lead_of Falls
  whole_below e by c t [] l h is b = tt
  whole_below e by c t (u ∷ g) l h is b =
      let low : compare O (plus by u.0) e ≡ Less = ap (λ x. compare O x e) is ∙ b in (
        low,
        multiple_below e by c u.0 g l (head_arity O S m u g h)
            (polynomial_tail O S m u g h).arity low h.falls.0,
      )

  over_all : (done more : Terms S.Elem) (by : List ℕ) (c : S.Elem) (t : List ℕ × S.Elem)
      (g : Terms S.Elem) → length by ≡ m → IsPolynomial S.arithmetic O m g
      → plus by (lead_of g) ≡ t.0 → Over O done more → Over O done (t ∷ [])
      → Over O done (collect (field S) O (more ++ negate S.arithmetic (shift S.arithmetic by c g)))
  unfolding Over Each
  over_all [] more by c t g l h is v w = tt
  over_all (x ∷ done) more by c t g l h is v w = (
    below-collect (field S) O x.0 (more ++ negate S.arithmetic (shift S.arithmetic by c g))
        (each-append (λ u. compare O u.0 x.0 ≡ Less) more
        (negate S.arithmetic (shift S.arithmetic by c g)) v.0 (whole_below x.0 by c t g l h is
        w.0.0)),
    over_all done more by c t g l h is v.1 w.1,
  )

  over_first : (done rest : Terms S.Elem) → 0 < length rest → Over O done rest
      → Over O done (term_at S rest 0 ∷ [])
  unfolding Over Each
  over_first [] rest k v = tt
  over_first (x ∷ done) [] k v = absurd (omega arith)
  over_first (x ∷ done) (t ∷ rest) k v = ((v.0.0, tt), over_first done (t ∷ rest) k v.1)

  pub cut_behind : (done rest left g : Terms S.Elem) (by : List ℕ) (c : S.Elem)
      → IsPolynomial S.arithmetic O m (done ++ rest) → IsPolynomial S.arithmetic O m g
      → IsPolynomial S.arithmetic O m left → g ≢ [] → 0 < length rest
      → divides (lead_of g) (term_at S rest 0).0 ≡ true → Cuts S O rest (term_at S rest 0) g by c
      left → CutBehind S O m done rest left g by c
  unfolding after_cut
  cut_behind done rest left g by c h hg hl n k divided cut =
      let N = S.arithmetic in
      let M = negate N (shift N by c g) in
      let term : length (term_at S rest 0).0 ≡ m = term_long m rest 0 ([], S.zero) k
      (polynomial_back O S m done rest h).arity in
      let same_long : length (lead_of g) ≡ length (term_at S rest 0).0 = lead_long m g n hg.arity
      ∙ sym term in
      let long : length by ≡ m = ap length cut.by_is ∙ length-over (term_at S rest 0).0 (lead_of g)
      (sym same_long) ∙ term in
      let fac : plus by (lead_of g) ≡ (term_at S rest 0).0 = ap (λ x. plus x (lead_of g)) cut.by_is
      ∙ over-plus (lead_of g) (term_at S rest 0).0 same_long divided in
      let is : left ≡ collect (field S) O (rest ++ M) = cut.left_is
      ∙ ap₂ (λ x y. collect (field S) O (rest ++ negate N (shift N x y g))) (sym cut.by_is)
      (sym cut.number_is) in
      let parts = over_parts O done rest h.falls in
      let descending : IsPolynomial N O m (done ++ left) = polynomial_append O S m done left
      (polynomial_front O S m done rest h) hl
      (subst (Over O done) (sym is) (over_all done rest by c (term_at S rest 0) g long hg fac parts
      (over_first done rest k parts))) in
      let same : Same N (done ++ left) ((done ++ rest) ++ M) = subst (Same N (done ++ left))
      (sym (append_assoc done rest M))
      (same_append (ring_of N r) (Same-refl N done) (subst (λ (q : Terms S.Elem).
      Same N q (rest ++ M)) (sym is) (collect-same K O o (rest ++ M)))) in
      record {
        descending = descending;
        cuts = cuts S r f z O o m (done ++ rest) g (done ++ left) (term_at S rest 0) by c h hg
            descending long cut.by_is cut.number_is same;
      }

  pub past_behind : IsBounded S.arithmetic S.size → (done rest g : Terms S.Elem) (k : ℕ) (t : List ℕ
      × S.Elem) → IsPastCut S (field S) rest (cutting_of S k t g)
      → IsPastCut S (field S) (done ++ rest) (cutting_of S k t g)
  past_behind b done rest g k t (inl past) = inl past
  past_behind b done rest g k t (inr (inr past)) = inr (inr past)
  past_behind b done rest g k t (inr (inl past)) =
      let R = ring_of S.arithmetic r in
      let whole = product_size (S.size (cutting_of S k t g).number) (weight S.size g) in
      let hw = product_den-pos (S.size (cutting_of S k t g).number) (weight S.size g)
      (b.den_pos (cutting_of S k t g).number) (weight-pos R S.size b g) in
      let hr = weight-pos R S.size b rest in
      let hp = weight-pos R S.size b (done ++ rest) in
      inr (inl (past_under (sum_size (weight S.size rest) whole)
      (sum_size (weight S.size (done ++ rest)) whole)
      (lcm-pos (weight S.size (done ++ rest)).den whole.den hp hw)
      (under-sum (weight S.size rest) whole (weight S.size (done ++ rest)) whole hr hw hp hw
      (weight-part R S.size b done rest) (under_refl whole hw)) past))

-- ---- the terms before the one that is found go to those that are done
pub record Moved (S : Scalars) (gs : List (Terms S.Elem)) (done rest front back g : Terms S.Elem)
    (k : ℕ) : Type 0 where
  pub whole : front ++ back ≡ done ++ rest
  pub some : 0 < length back
  pub divided : divides (lead_of g) (term_at S back 0).0 ≡ true
  pub found : find_cut (field S) all_places gs (done ++ rest)
      ≡ Some (cutting_of S k (term_at S back 0) g)
  pub past : IsPastCut S (field S) (front ++ back) (cutting_of S 0 (term_at S back 0) g)
      → IsPastReduction S (field S) gs (done ++ rest)

pub moved : (S : Scalars) (ls : List (List ℕ)) (gs : List (Terms S.Elem))
    (done rest front back g : Terms S.Elem) (i k : ℕ) → ls ≡ map lead_of gs → AreUndivided ls done
    → FoundAt S gs rest i k → get_or gs k [] ≡ g → front ≡ done ++ take i rest → back ≡ drop i rest
    → Moved S gs done rest front back g k
moved S ls gs done rest front back g i k h u f at go stay =
    let size : length back ≡ length rest - i = ap length stay ∙ length-drop i rest in
    let within = f.term_in in
    let here : i + 0 ≡ i = omega arith in
    let first : term_at S back 0 ≡ term_at S rest i =
    ap (λ (q : Terms S.Elem). term_at S q 0) stay ∙ get_or-drop i rest 0 ([], S.zero)
    ∙ ap (term_at S rest) here in
    let whole : front ++ back ≡ done ++ rest =
    ap₂ (λ (x y : Terms S.Elem). x ++ y) go stay ∙ parts_moved i done rest in
    let found : find_cut (field S) all_places gs (done ++ rest)
    ≡ Some (cutting_of S k (term_at S back 0) g) = found_behind S ls gs done rest h u ∙ f.is
    ∙ ap₂ (λ (t : List ℕ × S.Elem) (q : Terms S.Elem). Some (cutting_of S k t q)) (sym first) at in
    record {
      whole = whole;
      some = omega (arith, size, within);
      divided = ap₂ (λ (q : Terms S.Elem) (t : List ℕ × S.Elem). divides (lead_of q) t.0) (sym at)
          first ∙ f.divided;
      found = found;
      past = λ past. record {
        cutting = cutting_of S k (term_at S back 0) g;
        found = found;
        past = subst (λ (p : Terms S.Elem).
            IsPastCut S (field S) p (cutting_of S k (term_at S back 0) g)) whole past;
      };
    }
