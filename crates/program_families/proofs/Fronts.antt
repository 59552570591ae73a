-- Polynomials with unknowns in front, as the code makes them, and the lists of them.
--   front_is              one such polynomial
--   front_more, front_over, copy_more, copy_over     one more with unknowns in front, and one more copy
--   some_terms            a list that isn't empty
use Rattle.std.proofs.Common.{◌≡◌, ◌≢◌, ℕ, ◌+◌, ◌<◌, List, [], ◌∷◌, ◌++◌, map, take, length, replicate, get_or, All, sym, ap, ap₂, subst, ◌∙◌, arith}
use Rattle.std.proofs.lemmas.List.{append_assoc, map-append, length-map, length-replicate}
use Rattle.std.proofs.lemmas.List.Elements.{All-push}
use Rattle.algebra.specs.Fraction.{Fraction, ℚ}
use Rattle.algebra.proofs.Fractions.{ℚ_ring}
use Rattle.algebra.proofs.Lists.{take_next}
use Rattle.polynomials.specs.Order.{grevlex}
use Rattle.polynomials.specs.Terms.{Terms, Same, retold}
use Rattle.polynomials.proofs.Canonical.{polynomial_unique}
use Rattle.polynomials.proofs.Orders.{grevlex_order}
use Rattle.machines.specs.Elimination.{in_front}
use Rattle.flows.proofs.InFront.{front_polynomial}
use Rattle.monos.specs.declared.order.Grevlex.{Grevlex}
use Rattle.poly.specs.Seen.{Is, terms_in, terms_each}
use Rattle.poly.specs.Standing.{IsInVariables}
use Rattle.poly.proofs.Standing.{polynomial_over}
use Rattle.loop_model.specs.FracPoly.{FracPoly}
use Rattle.loop_model.proofs.Items.{in_list, item_of, item_has}

pub record IsFront (k n : ℕ) (e p : FracPoly) : Type 0 where
  pub terms : terms_in p ≡ in_front k (terms_in e)
  pub arity : p.arity ≡ k + n

pub front_is : (k n : ℕ) (e p : FracPoly) (front : List ℕ) (o : Grevlex)
    → front ≡ replicate k 0 → e.arity ≡ n
    → Is o (length front + e.arity) (retold (λ x. front ++ x) (terms_in e)) p
    → IsFront k n e p
front_is k n e p front o zeros over h = record {
  terms =
      polynomial_unique grevlex grevlex_order ℚ_ring (k + n) (k + n) (terms_in p)
      (in_front k (terms_in e)) (polynomial_over (k + n) p arity)
      (front_polynomial k n (terms_in e) (polynomial_over n e over))
      (subst (λ f. Same ℚ (terms_in p) (retold (λ x. f ++ x) (terms_in e))) zeros h.same);
  arity = arity;
}
  where
    arity : p.arity ≡ k + n
    arity = h.arity ∙ ap₂ ◌+◌ (ap length zeros ∙ length-replicate k 0) over

module _ (found new list items : List FracPoly) (value : items ≡ list) (i : ℕ) (e p : FracPoly)
    (l : i < length items) (is : e ≡ get_or items i e) (items_are : new ≡ found ++ p ∷ []) where
  over_more : (m : ℕ) → All (IsInVariables m) found → p.arity ≡ m → All (IsInVariables m) new
  over_more m a h = subst (All (IsInVariables m)) (sym items_are) (All-push (IsInVariables m) found
      p a h)

  terms_more : {gs : List (Terms Fraction)} → terms_each found ≡ gs
      → terms_each new ≡ gs ++ terms_in p ∷ []
  terms_more h =
      ap terms_each items_are ∙ map-append terms_in found (p ∷ [])
      ∙ ap (λ ts. ts ++ terms_in p ∷ []) h

  there : i < length list
  there = in_list list items value i l

  item : e ≡ get_or list i e
  item = item_of list items value i e is

  pub front_more : (k n : ℕ) → IsFront k n e p
      → terms_each found ≡ map (in_front k) (terms_each (take i list))
      → terms_each new ≡ map (in_front k) (terms_each (take (i + 1) list))
  front_more k n f h =
      terms_more h
      ∙ ap (λ t. map (in_front k) (terms_each (take i list)) ++ t ∷ []) f.terms
      ∙ sym (map-append (in_front k) (terms_each (take i list)) (terms_in e ∷ []))
      ∙ ap (map (in_front k)) (sym (take_next terms_in list i e there item))

  pub front_over : (k n : ℕ) → IsFront k n e p → All (IsInVariables (k + n)) found
      → All (IsInVariables (k + n)) new
  front_over k n f a = over_more (k + n) a f.arity

  pub copy_more : (gs : List (Terms Fraction)) → terms_in p ≡ terms_in e
      → terms_each found ≡ gs ++ terms_each (take i list)
      → terms_each new ≡ gs ++ terms_each (take (i + 1) list)
  copy_more gs same h =
      terms_more h
      ∙ ap (λ t. (gs ++ terms_each (take i list)) ++ t ∷ []) same
      ∙ append_assoc gs (terms_each (take i list)) (terms_in e ∷ [])
      ∙ ap (λ ts. gs ++ ts) (sym (take_next terms_in list i e there item))

  pub copy_over : (m : ℕ) → All (IsInVariables m) list → p.arity ≡ e.arity
      → All (IsInVariables m) found → All (IsInVariables m) new
  copy_over m all same a =
      over_more m a (same ∙ item_has list items value i (IsInVariables m) e all l is)

-- ---- whether there are elements
pub some_terms : (xs : List FracPoly) → 0 < length xs → terms_each xs ≢ []
some_terms xs l z =
    let a = ap length z in
    let b = length-map xs terms_in in
    omega (arith, a, b, l)
