-- Sums of polynomials, each times a number, term by term.
use Rattle.std.proofs.Common.{◌≡◌, ◌≢◌, ◌<◌, ◌≤◌, ℕ, zero, suc, ◌+◌, Bool, true, false, cond, ◌||◌, T, List, [], ◌∷◌, ◌++◌, drop, get_or, length, All, Vec, Global, append_assoc, Result, Ok, Err, lt→ltb, ltb→lt, refl, sym, ap, ap₂, subst, ◌∙◌, arith}
use Rattle.std.specs.Result.{IfOk, IsErrOf, IsErrAnd}
use Rattle.std.proofs.lemmas.List.{append-nil, drop_all, drop_more, map-append, map_push}
use Rattle.algebra.specs.Each.{Each}
use Rattle.algebra.proofs.Basics.{to_true}
use Rattle.algebra.specs.In.{In}
use Rattle.algebra.proofs.In.{in_get, map-in}
use Rattle.algebra.proofs.Each.{each-append}
use Rattle.algebra.specs.Fraction.{Fraction, ℚ, rationals, fraction_size}
use Rattle.algebra.specs.Size.{IsPast}
use Rattle.algebra.specs.Arithmetic.{Arithmetic}
use Rattle.solvable_maps.specs.Uses.{exponent, has, poly_at}
use Rattle.solvable_maps.proofs.Exponents.{exponent-get}
use Rattle.solvable_maps.proofs.Reach.{or_left}
use Rattle.polynomials.specs.Order.{Rank}
use Rattle.polynomials.specs.Polynomial.{Arity, Falls, IsPolynomial}
use Rattle.polynomials.specs.Terms.{Terms}
use Rattle.machines.specs.Collect.{scale_terms}
use Rattle.frac128.specs.FracMeaning.{fraction_of}
use Rattle.frac128.specs.declared.fraction.Frac.{Frac}
use Rattle.poly.proofs.Steps as steps
use Rattle.poly.specs.Seen.{terms_in, terms_each}
use Rattle.solvable.proofs.Using.{FracPoly, to_false}
use Rattle.poly.specs.View.{term_of, terms_of}
use Rattle.poly.specs.declared.Term.{Term}
use Rattle.expo.proofs.Solved.{handed_on}
use Rattle.ring_laws.specs.declared.ArithmeticError.{ArithmeticError}
use Rattle.ring_laws.specs.declared.ArithmeticError.TheVariants.{Wide}
use Rattle.solvable_maps.specs.AfterIterations.{mine, rest_of}
use Rattle.closed_forms.specs.Sums.{mix, IsPastScaled}

abbrev pub tell : List (Term Frac) → Terms Fraction
tell ts = terms_of fraction_of ts

pub terms-push : (ts : List (Term Frac)) {more : List (Term Frac)} (t : Term Frac)
    → more ≡ ts ++ t ∷ [] → tell more ≡ tell ts ++ (t.mono, fraction_of t.coef) ∷ []
terms-push ts t e = ap tell e ∙ map_push (term_of fraction_of) ts t

pub terms-append : (out : List (Term Frac)) {more : List (Term Frac)} (v : Vec (Term Frac) Global)
    {w : Vec (Term Frac) Global}
    → more ≡ out ++ v.items → v ≡ w → tell more ≡ tell out ++ tell w.items
terms-append out v e is = ap tell e ∙ map-append (term_of fraction_of) out v.items
    ∙ ap (λ (u : Vec (Term Frac) Global). tell out ++ tell u.items) is

pub poly_get : (ps : List (Terms Fraction)) (i : ℕ) → poly_at ps i ≡ get_or ps i []
poly_get [] i = refl
poly_get (p ∷ ps) zero = refl
poly_get (p ∷ ps) (suc i) = poly_get ps i

-- what a loop over a list that a call gave reads
pub read_of : {X : Type 0} {xs given : List X} → given ≡ xs → {i : ℕ} {x : X}
    → i < length given → x ≡ get_or given i x → (i < length xs) × (x ≡ get_or xs i x)
read_of e {i} {x} l is = subst (λ ys. (i < length ys) × (x ≡ get_or ys i x)) e (l, is)

-- what is left of a list at an index, and a term there
pub left_at : {X : Type 0} (xs : List X) (i : ℕ) {x : X} → i < length xs → x ≡ get_or xs i x
    → drop i xs ≡ x ∷ drop (i + 1) xs
left_at xs i {x = x} l is = drop_more xs i x l ∙ ap (λ y. y ∷ drop (i + 1) xs) (sym is)

pub term_within : (ts : List (Term Frac)) (i : ℕ) (t : Term Frac) → i < length ts
    → t ≡ get_or ts i t → In (term_of fraction_of t) (tell ts)
term_within ts i t l is = map-in (term_of fraction_of) ts t (subst (λ u. In u ts) (sym is)
    (in_get ts i t l))

-- one term more, and then the others
pub more_behind : {A : Type 0} (old : List A) {mid : List A} (new : List A) (t : A) (rest : List A)
    → mid ≡ old ++ t ∷ [] → new ≡ mid ++ rest → new ≡ old ++ t ∷ rest
more_behind old new t rest e h = h ∙ ap (λ r. r ++ rest) e ∙ append_assoc old (t ∷ []) rest

module _ (ts rest : List (Term Frac)) {t : Term Frac} (is : ts ≡ t ∷ rest) where
  pub scaled_next : (c : Fraction) (old : List (Term Frac)) {mid : List (Term Frac)} (u : Term Frac)
      (all : Terms Fraction)
      → u.mono ≡ t.mono → fraction_of u.coef ≡ ℚ.mul c (fraction_of t.coef) → mid ≡ old ++ u ∷ []
      → tell old ++ scale_terms rationals c (tell ts) ≡ all
      → tell mid ++ scale_terms rationals c (tell rest) ≡ all
  unfolding scale_terms
  scaled_next c old {mid = mid} u all m k e h =
      more_behind (tell old) _ (u.mono, fraction_of u.coef) _ (terms-push old u e) refl
      ∙ ap₂ (λ x y. tell old ++ (x, y) ∷ scale_terms rationals c (tell rest)) m k
      ∙ ap (λ l. tell old ++ scale_terms rationals c (tell l)) (sym is) ∙ h

  pub rest_skipped : (g : List ℕ) (old all : Terms Fraction) → true ≡ mine g t.mono
      → old ++ rest_of g (tell ts) ≡ all → old ++ rest_of g (tell rest) ≡ all
  rest_skipped g old all has h =
      ap (λ b. old ++ cond b (rest_of g (tell rest)) ((t.mono, fraction_of t.coef)
      ∷ rest_of g (tell rest))) has ∙ ap (λ l. old ++ rest_of g (tell l)) (sym is) ∙ h

  pub rest_next : (g : List ℕ) (old : List (Term Frac)) {mid : List (Term Frac)} (u : Term Frac)
      (all : Terms Fraction)
      → false ≡ mine g t.mono → u.mono ≡ t.mono → u.coef ≡ t.coef → mid ≡ old ++ u ∷ []
      → tell old ++ rest_of g (tell ts) ≡ all → tell mid ++ rest_of g (tell rest) ≡ all
  rest_next g old {mid = mid} u all none m k e h =
      more_behind (tell old) _ (u.mono, fraction_of u.coef) (rest_of g (tell rest))
      (terms-push old u e) refl
      ∙ ap₂ (λ x y. tell old ++ (x, fraction_of y) ∷ rest_of g (tell rest)) m k
      ∙ ap (λ b. tell old ++ cond b (rest_of g (tell rest)) ((t.mono, fraction_of t.coef)
      ∷ rest_of g (tell rest))) none ∙ ap (λ l. tell old ++ rest_of g (tell l)) (sym is) ∙ h

pub past_scaled_at : (ts : List (Term Frac)) (i : ℕ) {t : Term Frac} (c : Fraction) → i < length ts
    → t ≡ get_or ts i t → IsPast (fraction_size (ℚ.mul c (fraction_of t.coef)))
    → IsPastScaled c (tell ts)
past_scaled_at ts i {t = t} c l is past = record {
  exponents = t.mono;
  number = fraction_of t.coef;
  within = term_within ts i t l is;
  past = past;
}

-- ---- arities
scaled-arity : (m : ℕ) (c : Fraction) (p : Terms Fraction) → Arity m p
    → Arity m (scale_terms rationals c p)
unfolding Each scale_terms
scaled-arity m c [] h = tt
scaled-arity m c (t ∷ p) h = (h.0, scaled-arity m c p h.1)

pub mix-arity : (m : ℕ) (cs : List Fraction) (ps : List (Terms Fraction)) → Each (Arity m) ps
    → Arity m (mix cs ps)
unfolding Each
mix-arity m [] ps h = tt
mix-arity m (c ∷ cs) [] h = tt
mix-arity m (c ∷ cs) (p ∷ ps) h = each-append (λ (t : List ℕ × Fraction). length t.0 ≡ m)
    (scale_terms rationals c p) (mix cs ps) (scaled-arity m c p h.0) (mix-arity m cs ps h.1)

pub all_arity : (m : ℕ) (ts : List (Term Frac)) → Arity m (tell ts)
    → All (λ (t : Term Frac). length t.mono ≡ m) ts
all_arity m ts h = steps.all_arity fraction_of m ts h

pub arity_all : (m : ℕ) (ts : List (Term Frac)) → All (λ t. length t.mono ≡ m) ts
    → Arity m (tell ts)
unfolding Each
arity_all m [] h = tt
arity_all m (t ∷ ts) h =
    (h 0 t (omega arith), arity_all m ts (λ k d l. h (suc k) d (omega (arith, l))))

-- ---- outcomes
pub ok_both : {A E : Type 0} (r : Result A E) (P Q S : A → Type 0) → ((a : A) → P a → Q a → S a)
    → IfOk r P → IfOk r Q → IfOk r S
ok_both (Ok x) P Q S f p q = f x p q
ok_both (Err e) P Q S f p q = tt

pub wide_on : {T S P : Type 0} {e : ArithmeticError} {r : Result T ArithmeticError}
    → IsErrAnd r (λ x. x ≡ e) → (IsErrOf {T = S} (Err e) Wide → P) → IsErrOf r Wide → P
wide_on {e = e} {r = r} = handed_on e r

pub scaled_none : (c : Fraction) → scale_terms rationals c [] ≡ []
unfolding scale_terms
scaled_none c = refl

-- nothing comes behind
pub nothing_behind : {A B : Type 0} (f : List A → List B) → f [] ≡ [] → (xs : List A)
    (old : List B) → length xs ≡ 0 → old ≡ old ++ f xs
nothing_behind f none [] old h = sym (ap (λ l. old ++ l) none ∙ append-nil old)
nothing_behind f none (x ∷ xs) old h = absurd (omega (arith, h))

-- nothing is left
pub none_left : (f : List (Term Frac) → Terms Fraction) → f [] ≡ [] → (ts : List (Term Frac))
    (i : ℕ) (out all : Terms Fraction) → length ts ≤ i → out ++ f (drop i ts) ≡ all → out ≡ all
none_left f none ts i out all l h =
    sym (append-nil out) ∙ ap (λ q. out ++ q) (sym (ap f (drop_all i ts l) ∙ none)) ∙ h

pub head_all : {A : Type 0} (P : A → Type 0) {ts rest : List A} {t : A} → ts ≡ t ∷ rest → All P ts
    → P t
head_all P {t = t} e all = subst (λ r. All P r) e all 0 t (omega arith)

pub tail_all : {A : Type 0} (P : A → Type 0) {ts rest : List A} {t : A} → ts ≡ t ∷ rest → All P ts
    → All P rest
tail_all P e all = λ k d l. subst (λ r. All P r) e all (suc k) d (omega (arith, l))

-- ---- variables of a class
pub mine_here : {g rest : List ℕ} {j : ℕ} (e : List ℕ) {x : ℕ} → g ≡ j ∷ rest → x ≡ get_or e j 0
    → 0 < x → true ≡ mine g e
mine_here {g = g} {rest = rest} {j = j} e is y l =
    sym (to_true (mine g e) (subst (λ h. T (mine h e)) (sym is) (or_left (has j e) (mine rest e)
    (lt→ltb 0 (exponent e j) (let z = exponent-get e j in omega (arith, z, y, l))))))

pub mine_later : {g rest : List ℕ} {j : ℕ} (e : List ℕ) {x : ℕ} {b : Bool} → g ≡ j ∷ rest
    → x ≡ get_or e j 0 → x ≤ 0 → b ≡ mine rest e → b ≡ mine g e
mine_later {rest = rest} {j = j} e is y l h =
    h ∙ ap (λ c. c || mine rest e)
    (sym (to_false (has j e) (λ t. (let z = exponent-get e j in let w =
    ltb→lt 0 (exponent e j) t in omega (arith, z, y, l, w)))))
    ∙ ap (λ h. mine h e) (sym is)

-- ---- what is left of a polynomial in descending order is one
rest-each : (g : List ℕ) (P : List ℕ × Fraction → Type 0) (p : Terms Fraction) → Each P p
    → Each P (rest_of g p)
unfolding Each
rest-each g P [] h = tt
rest-each g P (t ∷ p) h = go (mine g t.0) (rest-each g P p h.1)
  where
    go : (b : Bool) → Each P (rest_of g p) → Each P (cond b (rest_of g p) (t ∷ rest_of g p))
    go true k = k
    go false k = (h.0, k)

rest-falls : (g : List ℕ) (O : Rank) (p : Terms Fraction) → Falls O p → Falls O (rest_of g p)
unfolding Falls
rest-falls g O [] h = tt
rest-falls g O (t ∷ p) h = go (mine g t.0) (rest-falls g O p h.1)
  where
    go : (b : Bool) → Falls O (rest_of g p) → Falls O (cond b (rest_of g p) (t ∷ rest_of g p))
    go true k = k
    go false k = (rest-each g _ p h.0, k)

pub rest_polynomial : (N : Arithmetic Fraction) (O : Rank) {m : ℕ} (g : List ℕ) {p : Terms Fraction}
    → IsPolynomial N O m p → IsPolynomial N O m (rest_of g p)
rest_polynomial N O {m = m} g {p = p} h = record {
  nonzero = rest-each g (λ t. t.1 ≢ N.zero) p h.nonzero;
  arity = rest-each g (λ t. length t.0 ≡ m) p h.arity;
  falls = rest-falls g O p h.falls;
}

-- ---- polynomials of one arity
pub polys_arity : (m : ℕ) (ps : List FracPoly) → All (λ (p : FracPoly). p.arity ≡ m) ps
    → Each (Arity m) (terms_each ps)
unfolding Each
polys_arity m [] h = tt
polys_arity m (p ∷ ps) h = (
  subst (λ k. Arity k (terms_in p)) (h 0 p (omega arith)) p.polynomial.arity,
  polys_arity m ps (λ k d l. h (suc k) d (omega (arith, l))),
)
