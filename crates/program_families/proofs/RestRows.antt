-- The monomials of rests and their numbers, as the code finds them.
--   number_here, number_behind, number_none     the number of a monomial in a polynomial, term by term
--   before_more                       one more that is below the monomial
--   put_before, put_once, put_last, nothing_put     a monomial more among those that ascend; none
--   term_long, terms_more, rests_all  of the terms of a polynomial, and of rests
use Rattle.std.proofs.Common.{◌≡◌, ◌⊎◌, inl, inr, ℕ, ◌+◌, ◌<◌, List, [], ◌∷◌, ◌++◌, take, drop, length, get_or, sym, ap, subst, ◌∙◌, Less, Equal, Greater}
use Rattle.std.proofs.lemmas.List.{append-nil, append_assoc, map-append, take-append-drop, drop_more}
use Rattle.algebra.specs.Each.{Each}
use Rattle.algebra.specs.In.{In}
use Rattle.algebra.specs.Fraction.{Fraction, ℚ}
use Rattle.algebra.proofs.Each.{each-append, each-left, each-right, each_weaker}
use Rattle.algebra.proofs.In.{each_in, map-in, in_left, in_right, in_either, in_push, in_get}
use Rattle.algebra.proofs.Lists.{take_one, take_next}
use Rattle.algebra.proofs.Fractions.{ℚ_ring}
use Rattle.polynomials.specs.Exponent.{exponents}
use Rattle.polynomials.specs.Order.{compare, grevlex}
use Rattle.polynomials.specs.Polynomial.{Falls}
use Rattle.polynomials.specs.Terms.{Terms, coefficient}
use Rattle.polynomials.proofs.Algebra.{coefficient-nil, coefficient_other}
use Rattle.polynomials.proofs.Canonical.{coefficient_head}
use Rattle.polynomials.proofs.Exponent.{exponents_monoid}
use Rattle.polynomials.proofs.Order.{compare_equal, less_trans, greater_less}
use Rattle.polynomials.proofs.Orders.{grevlex_order}
use Rattle.closures.specs.Monomials.{AreAscending}
use Rattle.frac128.specs.declared.fraction.Frac.{Frac}
use Rattle.frac128.specs.FracMeaning.{fraction_of}
use Rattle.poly.specs.declared.Term.{Term}
use Rattle.poly.specs.Seen.{terms_in}
use Rattle.poly.specs.View.{term_of, terms_of}
use Rattle.loop_model.specs.FracPoly.{FracPoly}
use Rattle.program_families.specs.RestRows.{monomials_in, all_monomials, IsSetOf}
use Rattle.program_families.specs.declared.job.Rest.{Rest}

-- ---- the number of a monomial
module _ (p : Terms Fraction) (m : List ℕ) (left behind : Terms Fraction) (t : List ℕ × Fraction)
    (order : left ≡ t ∷ behind) (same_there : coefficient ℚ p m ≡ coefficient ℚ left m)
    (falls : Falls grevlex left) where
  falls_here : Falls grevlex (t ∷ behind)
  falls_here = subst (Falls grevlex) order falls

  pub number_here : t.0 ≡ m → coefficient ℚ p m ≡ t.1
  unfolding Falls
  number_here e =
      same_there ∙ ap (λ q. coefficient ℚ q m) order
      ∙ ap (coefficient ℚ (t ∷ behind)) (sym e)
      ∙ coefficient_head grevlex grevlex_order ℚ_ring t behind falls_here.0

  pub number_behind : (t.0 ≡ m → ⊥) → coefficient ℚ p m ≡ coefficient ℚ behind m
  number_behind n =
      same_there ∙ ap (λ q. coefficient ℚ q m) order
      ∙ coefficient_other exponents exponents_monoid ℚ_ring t behind m (λ e. n (sym e))

  pub falls_behind : Falls grevlex behind
  unfolding Falls
  falls_behind = falls_here.1

pub number_none : (p : Terms Fraction) (m : List ℕ) (left : Terms Fraction) → left ≡ []
    → coefficient ℚ p m ≡ coefficient ℚ left m → coefficient ℚ p m ≡ ℚ.zero
number_none p m left none h =
    h ∙ ap (λ q. coefficient ℚ q m) none ∙ coefficient-nil exponents ℚ_ring m

-- ---- a monomial more
abbrev Under : List ℕ → List ℕ → Type 0
Under d e = compare grevlex d e ≡ Less

ascend_put : (x : List ℕ) (xs ys : List (List ℕ)) → AreAscending (xs ++ ys)
    → Each (λ e. Under e x) xs → Each (Under x) ys → AreAscending (xs ++ x ∷ ys)
unfolding AreAscending Each
ascend_put x [] ys a u v = (v, a)
ascend_put x (e ∷ xs) ys a u v = (
  each-append (Under e) xs (x ∷ ys) (each-left (Under e) xs ys a.0)
      (u.0, each-right (Under e) xs ys a.0),
  ascend_put x xs ys a.1 u.1 v,
)

ascend_right : (xs ys : List (List ℕ)) → AreAscending (xs ++ ys) → AreAscending ys
unfolding AreAscending
ascend_right [] ys a = a
ascend_right (x ∷ xs) ys a = ascend_right xs ys a.1

all_later : (x d : List ℕ) (ys : List (List ℕ)) → Under x d → AreAscending (d ∷ ys)
    → Each (Under x) (d ∷ ys)
unfolding AreAscending Each
all_later x d ys u a =
    (u, each_weaker (Under d) (Under x) (λ e h. less_trans grevlex grevlex_order x d e u h) ys a.0)

module _ (es : List (List ℕ)) (m : List ℕ) where
  pub before_more : (k : ℕ) (x : List ℕ) → k < length es → x ≡ get_or es k x
      → compare grevlex m x ≡ Greater → Each (λ e. Under e m) (take k es)
      → Each (λ e. Under e m) (take (k + 1) es)
  unfolding Each
  before_more k x l is g before =
      subst (Each (λ e. Under e m)) (sym (take_one es k x l is))
      (each-append (λ e. Under e m) (take k es) (x ∷ []) before
      (greater_less grevlex grevlex_order m x g, tt))

module _ (ms es : List (List ℕ)) (m : List ℕ) (s : IsSetOf ms es) where
  module _ (k : ℕ) (x : List ℕ) (l : k < length es) (is : x ≡ get_or es k x)
      (before : Each (λ e. Under e m) (take k es)) where
    parts : take k es ++ drop k es ≡ es
    parts = take-append-drop k es

    pub put_before : Under m x → IsSetOf (ms ++ m ∷ []) (take k es ++ m ∷ drop k es)
    put_before u = record {
      ascend =
          ascend_put m (take k es) (drop k es) (subst AreAscending (sym parts) s.ascend) before
          (subst (Each (Under m)) (sym whole)
          (all_later m x (drop (k + 1) es) u
          (subst AreAscending whole
          (ascend_right (take k es) (drop k es) (subst AreAscending (sym parts) s.ascend)))));
      only = λ e i. only e (in_either e (take k es) (m ∷ drop k es) i);
      all = λ e i. all e (in_push ms m e i);
    }
      where
        whole : drop k es ≡ x ∷ drop (k + 1) es
        whole = drop_more es k x l ∙ ap (λ y. y ∷ drop (k + 1) es) (sym is)

        only : (e : List ℕ) → In e (take k es) ⊎ In e (m ∷ drop k es) → In e (ms ++ m ∷ [])
        only e (inl i) =
            in_left e ms (m ∷ []) (s.only e (subst (In e) parts (in_left e (take k es) _ i)))
        only e (inr (inl i)) = in_right e ms (m ∷ []) (inl i)
        only e (inr (inr i)) =
            in_left e ms (m ∷ []) (s.only e (subst (In e) parts (in_right e (take k es) _ i)))

        back : (e : List ℕ) → In e (take k es) ⊎ In e (drop k es)
            → In e (take k es ++ m ∷ drop k es)
        back e (inl i) = in_left e (take k es) (m ∷ drop k es) i
        back e (inr i) = in_right e (take k es) (m ∷ drop k es) (inr i)

        all : (e : List ℕ) → In e ms ⊎ (e ≡ m) → In e (take k es ++ m ∷ drop k es)
        all e (inl i) =
            back e (in_either e (take k es) (drop k es)
            (subst (In e) (sym parts) (s.all e i)))
        all e (inr i) = in_right e (take k es) (m ∷ drop k es) (inl i)

    pub put_once : compare grevlex m x ≡ Equal → IsSetOf (ms ++ m ∷ []) es
    put_once q = record {
      ascend = s.ascend;
      only = λ e i. in_left e ms (m ∷ []) (s.only e i);
      all = λ e i. all e (in_push ms m e i);
    }
      where
        all : (e : List ℕ) → In e ms ⊎ (e ≡ m) → In e es
        all e (inl i) = s.all e i
        all e (inr i) =
            subst (λ d. In d es)
            (sym (i ∙ compare_equal grevlex grevlex_order m x q ∙ is)) (in_get es k x l)

  pub put_last : Each (λ e. Under e m) es → IsSetOf (ms ++ m ∷ []) (es ++ m ∷ [])
  unfolding Each
  put_last before = record {
    ascend = ascend_put m es [] (subst AreAscending (sym (append-nil es)) s.ascend) before tt;
    only = λ e i. only e (in_push es m e i);
    all = λ e i. all e (in_push ms m e i);
  }
    where
      only : (e : List ℕ) → In e es ⊎ (e ≡ m) → In e (ms ++ m ∷ [])
      only e (inl i) = in_left e ms (m ∷ []) (s.only e i)
      only e (inr i) = in_right e ms (m ∷ []) (inl i)

      all : (e : List ℕ) → In e ms ⊎ (e ≡ m) → In e (es ++ m ∷ [])
      all e (inl i) = in_left e es (m ∷ []) (s.all e i)
      all e (inr i) = in_right e es (m ∷ []) (inl i)

pub nothing_put : {es : List (List ℕ)} → es ≡ [] → IsSetOf [] es
unfolding AreAscending
nothing_put e = subst (IsSetOf []) (sym e) (record { ascend = tt; only = λ e i. i; all = λ e i. i })

-- ---- all of them
pub term_long : (p : FracPoly) (i : ℕ) (x : Term Frac) → i < length p.terms.items
    → x ≡ get_or p.terms.items i x → length x.mono ≡ p.arity
term_long p i x l is =
    each_in (λ (t : List ℕ × Fraction). length t.0 ≡ p.arity) (terms_in p)
    (term_of fraction_of x) p.polynomial.arity
    (map-in (term_of fraction_of) p.terms.items x
    (subst (λ y. In y p.terms.items) (sym is) (in_get p.terms.items i x l)))

pub terms_more : (items : List (Term Frac)) (i : ℕ) (x : Term Frac) → i < length items
    → x ≡ get_or items i x
    → monomials_in (terms_of fraction_of (take (i + 1) items))
    ≡ monomials_in (terms_of fraction_of (take i items)) ++ x.mono ∷ []
terms_more items i x l is =
    ap monomials_in (take_next (term_of fraction_of) items i x l is)
    ∙ map-append (λ (t : List ℕ × Fraction). t.0) (terms_of fraction_of (take i items))
    (term_of fraction_of x ∷ [])

pub rests_all : (xs : List Rest) (r : Rest)
    → all_monomials (xs ++ r ∷ []) ≡ all_monomials xs ++ monomials_in (terms_in r.polynomial)
rests_all [] r = append-nil (monomials_in (terms_in r.polynomial))
rests_all (x ∷ xs) r =
    ap (λ es. monomials_in (terms_in x.polynomial) ++ es) (rests_all xs r)
    ∙ sym (append_assoc (monomials_in (terms_in x.polynomial)) (all_monomials xs)
    (monomials_in (terms_in r.polynomial)))
