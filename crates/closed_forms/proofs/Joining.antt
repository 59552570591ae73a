-- What goes behind other terms in solving, and what each call of it gives.
--   own_is_normal          terms that are themselves when made normal
--   over_arity, over_normal      how many exponents an exponential polynomial has; it is normal;  expo_over: over what it is
--   tabled_over            a solution is over the base and the variables that it was asked for
--   sides_next, sides_front, sides_length      the exponents of a power on a side of the line, and those of the n-th power
--   differences_next       differences of exponents
--   cut_key, cut_count     the number whose n-th power the exponents of a monomial are, from these cut in parts
--   growing_next                 a form's growing terms
--   solved_none, solved_next, past_term_at    the solutions of terms;  normal_at: each of them is normal
--   still_made             the exponents that do not change with n
--   key_solution, term_past, product_past      the solution for the powers in a term
--   all_one                one of a list
--   whole_is, form_is     the growing form and the solutions of all terms, made normal
use Rattle.std.proofs.Common.{◌≡◌, ◌⊎◌, inl, inr, ◌<◌, ℕ, ◌+◌, ℤ, pos, ◌-ℤ◌, Bool, true, false, cond, eqb, List, [], ◌∷◌, ◌++◌, map, take, drop, get_or, replicate, length, All, refl, sym, ap, ap₂, subst, ◌∙◌, arith, append_assoc}
use Rattle.std.proofs.lemmas.List.Elements.{All-nil, All-push, All-same}
use Rattle.std.proofs.lemmas.List.{append-nil, length-append, length-map}
use Rattle.algebra.proofs.In.{each_in}
use Rattle.algebra.specs.Fraction.{Fraction, ℚ, fractions}
use Rattle.polynomials.specs.Order.{grevlex}
use Rattle.polynomials.specs.Polynomial.{Arity, IsPolynomial}
use Rattle.polynomials.specs.Terms.{Terms}
use Rattle.polynomials.specs.Weight.{IsPastProduct}
use Rattle.solvable_maps.specs.Uses.{unit}
use Rattle.exponentials.specs.Keys.{Key, IsNormalKey, key_of, top, rest}
use Rattle.frac128.specs.FracMeaning.{fraction_of}
use Rattle.frac128.specs.declared.fraction.Frac.{Frac}
use Rattle.linear.specs.Rows.{fractions_of}
use Rattle.poly.specs.Seen.{terms_in}
use Rattle.poly.specs.View.{term_of}
use Rattle.poly.specs.declared.Term.{Term}
use Rattle.solvable_maps.specs.Expo.{with_normal_keys, power_key, with_key, IsSolution, differences}
use Rattle.solvable_maps.specs.Iterations.{width, IsNormal, IsNormalForm}
use Rattle.solvable_maps.proofs.Keys.{differences-length, key_is_power}
use Rattle.solvable_maps.proofs.Operations.{normalized-normal}
use Rattle.expo.specs.declared.exponential.Expo.{Expo}
use Rattle.expo.specs.declared.powers.Power.{Power}
use Rattle.expo.specs.Powers.{number_of, key_of_power, side_of}
use Rattle.expo.specs.Solutions as Solutions
use Rattle.expo.specs.Solutions.{IsTabled, IsPastSolution}
use Rattle.expo.specs.View.{IsExpo}
use Rattle.expo.proofs.Stepping.{rest_is}
use Rattle.closed_forms.specs.Solved as Solved
use Rattle.closed_forms.specs.Solved.{still, steady, homogeneous_part, IsKeySolution, IsSolvedTerm, AreSolvedBehind, IsWhole, IsSolvedForm, IsPastSolving, IsPastTerm, IsPastAmong}
use Rattle.closed_forms.specs.Inhomogeneities.{collect_terms}
use Rattle.closed_forms.specs.Values.{IsExpoOver}
use Rattle.closed_forms.proofs.Mixing.{tell, term_within, terms-push, more_behind}

-- ---- exponential polynomials
pub own_is_normal : (base : List ℕ) (m : ℕ) {p : Terms Fraction} → Arity (width (length base) m) p
    → with_normal_keys (length base) p ≡ p → IsNormal base p
own_is_normal base m {p = p} arity own =
    subst (IsNormal base) own (normalized-normal base m p arity)

module _ {base : List ℕ} {m : ℕ} {e : Expo} (over : IsExpoOver base m e) where
  pub over_arity : e.body.arity ≡ width (length base) m
  over_arity = e.arity ∙ ap₂ (λ b n. width (length b) n) over.over_base over.over_vars

  over_polynomial : IsPolynomial ℚ grevlex (width (length base) m) (terms_in e.body)
  over_polynomial = subst (λ n. IsPolynomial ℚ grevlex n (terms_in e.body)) over_arity
      e.body.polynomial

  pub own_normal : with_normal_keys (length base) (terms_in e.body) ≡ terms_in e.body
  own_normal = subst (λ b. with_normal_keys (length b) (terms_in e.body) ≡ terms_in e.body)
      over.over_base
      e.normal

  pub over_normal : IsNormalForm base grevlex m (terms_in e.body)
  over_normal = record {
    polynomial = over_polynomial;
    normal = own_is_normal base m over_polynomial.arity own_normal;
  }

pub expo_over : {base : List ℕ} {m : ℕ} (ts : Terms Fraction) (e : Expo) → IsExpo base m ts e
    → IsExpoOver base m e
expo_over ts e h = record { over_base = h.over_base; over_vars = h.over_vars }

pub tabled_over : {base : List ℕ} (m a : ℕ) {inhomogeneity : Power} {own : Power} {e : Expo}
    → IsTabled base m a inhomogeneity own e → IsExpoOver base m e
tabled_over m a {e = e} (Solutions.other ts n t i) = expo_over ts e i
tabled_over m a {e = e} (Solutions.equal ts n t i) = expo_over ts e i

-- ---- one of a list
pub all_one : {A : Type 0} (P : A → Type 0) {xs : List A} (x : A) → xs ≡ x ∷ [] → P x → All P xs
all_one P x e h = All-same P _ _ e (All-push P [] x (All-nil P) h)

-- ---- exponents of powers
pub sides_next : (below : Bool) {e f : List ℤ} {z : ℤ} (n : ℕ) (old : List ℕ) {mid : List ℕ}
    (new : List ℕ)
    → e ≡ z ∷ f → n ≡ side_of below z → mid ≡ old ++ n ∷ [] → new ≡ mid ++ map (side_of below) f
    → new ≡ old ++ map (side_of below) e
sides_next below {f = f} n old new h k a b =
    more_behind old new n (map (side_of below) f) a b
    ∙ ap (λ x. old ++ x ∷ map (side_of below) f) k ∙ ap (λ l. old ++ map (side_of below) l) (sym h)

pub sides_front : (negative : Bool) (e : List ℤ) {start mid front : List ℕ} (u : List ℕ)
    → start ≡ 0 ∷ cond negative 1 0 ∷ [] → mid ≡ start ++ map (side_of false) e
    → front ≡ mid ++ map (side_of true) e → front ++ u ≡ with_key 0 (power_key negative e) u
sides_front negative e u a b d =
    ap (λ l. l ++ u) (d ∙ ap (λ l. l ++ map (side_of true) e) (b
    ∙ ap (λ l. l ++ map (side_of false) e) a))
    ∙ append_assoc (0 ∷ cond negative 1 0 ∷ map (side_of false) e) (map (side_of true) e) u
    ∙ refl

pub sides_length : (e : List ℤ) (start : List ℕ) {mid front : List ℕ} → length start ≡ 2
    → mid ≡ start ++ map (side_of false) e → front ≡ mid ++ map (side_of true) e
    → length front ≡ 2 + length e + length e
sides_length e start {mid = mid} {front = front} s a b =
    let u : length mid ≡ length start + length (map (side_of false) e) = ap length a
    ∙ length-append start (map (side_of false) e) in
    let v : length front ≡ length mid + length (map (side_of true) e) = ap length b
    ∙ length-append mid (map (side_of true) e) in
    let x : length (map (side_of false) e) ≡ length e = length-map e (side_of false) in
    let y : length (map (side_of true) e) ≡ length e = length-map e (side_of true) in
    omega (arith, s, u, v, x, y)

pub differences_none : (u v : List ℕ) (old : List ℤ) → (length u ≡ 0) ⊎ (length v ≡ 0)
    → old ≡ old ++ differences u v
differences_none [] v old h = sym (append-nil old)
differences_none (m ∷ u) [] old h = sym (append-nil old)
differences_none (m ∷ u) (n ∷ v) old (inl h) = absurd (omega (arith, h))
differences_none (m ∷ u) (n ∷ v) old (inr h) = absurd (omega (arith, h))

pub differences_next : {u u' v v' : List ℕ} {m n : ℕ} {z : ℤ} (old : List ℤ) {mid : List ℤ}
    (new : List ℤ)
    → u ≡ m ∷ u' → v ≡ n ∷ v' → z ≡ pos m -ℤ pos n → mid ≡ old ++ z ∷ []
    → new ≡ mid ++ differences u' v' → new ≡ old ++ differences u v
differences_next {u' = u'} {v' = v'} {z = z} old new e f h a b =
    more_behind old new z (differences u' v') a b
    ∙ ap (λ x. old ++ x ∷ differences u' v') h ∙ ap₂ (λ x y. old ++ differences x y) (sym e) (sym f)

-- ---- the power of a monomial
one_place : (e : List ℕ) → get_or e 1 0 ≡ top (rest e)
one_place [] = refl
one_place (a ∷ []) = refl
one_place (a ∷ b ∷ e) = refl

module _ (bs : List ℕ) (e others up more down : List ℕ) (r : ℕ) (k : r ≡ length bs)
    (o : others ≡ drop 2 e) (u : up ≡ take r others) (m : more ≡ drop r others)
    (d : down ≡ take r more) where
  abbrev x : Key
  x = key_of (length bs) e

  ups_are : up ≡ x.1
  ups_are = u ∙ ap₂ (λ i (l : List ℕ). take i l) k (o ∙ rest_is e)

  downs_are : down ≡ x.2
  downs_are = d ∙ ap₂ (λ i (l : List ℕ). take i l) k (m ∙ ap₂ (λ i (l : List ℕ). drop i l) k (o
      ∙ rest_is e))

  items_are : (old : List ℤ) {items : List ℤ} → old ≡ [] → items ≡ old ++ differences up down
      → items ≡ differences x.1 x.2
  items_are old z is = is ∙ ap (λ l. l ++ differences up down) z
      ∙ ap₂ differences ups_are downs_are

  pub cut_key : (old items : List ℤ) {n : ℕ} (negative : Bool) → IsNormalKey bs x → old ≡ []
      → items ≡ old ++ differences up down → n ≡ get_or e 1 0 → negative ≡ eqb n 1
      → x ≡ power_key negative items
  cut_key old items {n = n} negative h z is p q =
      key_is_power bs x h negative (q ∙ ap (λ n. eqb n 1) (p ∙ one_place e))
      ∙ ap (power_key negative) (sym (items_are old z is))

  pub cut_count : (old items : List ℤ) → IsNormalKey bs x → old ≡ []
      → items ≡ old ++ differences up down → length items ≡ length bs
  cut_count old items h z is = ap length (items_are old z is)
      ∙ differences-length bs x.1 x.2 h.1 h.2

-- ---- growing terms
module _ (m : ℕ) (x : Key) where
  pub growing_next : {cs cs' : List Frac} {c : Frac} {g g' : List ℕ} {j : ℕ}
      (old : List (Term Frac)) {mid : List (Term Frac)} (new : Terms Fraction) {u : Term Frac}
      → cs ≡ c ∷ cs' → g ≡ j ∷ g' → mid ≡ old ++ u ∷ [] → u.mono ≡ with_key 0 x (unit m j)
      → u.coef ≡ c → new ≡ tell mid ++ homogeneous_part m x (fractions_of cs') g'
      → new ≡ tell old ++ homogeneous_part m x (fractions_of cs) g
  growing_next {cs' = cs'} {g' = g'} old new {u} e f k n o h =
      more_behind (tell old) new (u.mono, fraction_of u.coef) _ (terms-push old u k) h
      ∙ ap₂ (λ a b. tell old ++ (a, fraction_of b) ∷ homogeneous_part m x (fractions_of cs') g') n o
      ∙ ap₂ (λ a b. tell old ++ homogeneous_part m x (fractions_of a) b) (sym e) (sym f)

-- ---- solutions of terms
module _ (base : List ℕ) (m : ℕ) (l : Fraction) where
  pub solved_none : (ts : List (Term Frac)) (old : Terms Fraction) → length ts ≡ 0
      → AreSolvedBehind base m l (tell ts) old old
  solved_none [] old h = record { solved = []; are = refl; terms = sym (append-nil old) }
  solved_none (t ∷ ts) old h = absurd (omega (arith, h))

  pub solved_next : (ts rest : List (Term Frac)) {t : Term Frac} {p : Terms Fraction}
      (old : Terms Fraction) {mid : Terms Fraction} (new : Terms Fraction)
      → ts ≡ t ∷ rest → IsSolvedTerm base m l (term_of fraction_of t) p → mid ≡ old ++ p
      → AreSolvedBehind base m l (tell rest) mid new → AreSolvedBehind base m l (tell ts) old new
  solved_next ts rest {p = p} old new e h k more_solved =
      subst (λ q. AreSolvedBehind base m l (tell q) old new) (sym e) (record {
        solved = p ++ more_solved.solved;
        are = (p, more_solved.solved, h, more_solved.are, refl);
        terms = more_solved.terms ∙ ap (λ x. x ++ more_solved.solved) k
            ∙ append_assoc old p more_solved.solved;
      })

  pub past_term_at : (ts : List (Term Frac)) (i : ℕ) {t : Term Frac} → i < length ts
      → t ≡ get_or ts i t → IsPastTerm base m l (term_of fraction_of t)
      → IsPastAmong base m l (tell ts)
  past_term_at ts i {t = t} b is h = record {
    term = term_of fraction_of t;
    within = term_within ts i t b is;
    past = h;
  }

  pub normal_at : (ts : List (Term Frac)) (i : ℕ) {t : Term Frac} → i < length ts
      → t ≡ get_or ts i t → IsNormal base (tell ts) → IsNormalKey base (key_of (length base) t.mono)
  normal_at ts i {t = t} b is h =
      each_in (λ u. IsNormalKey base (key_of (length base) u.0)) (tell ts)
      (term_of fraction_of t) h (term_within ts i t b is)

-- ---- the solution of a term
pub still_made : (r : ℕ) {first : ℕ} (e one others : List ℕ) {mono : List ℕ} → first ≡ width r 0
    → one ≡ replicate first 0 → others ≡ drop first e → mono ≡ one ++ others → mono ≡ still r e
still_made r e one others f a b c = c ∙ ap₂ ◌++◌ (a ∙ ap (λ n. replicate n 0) f) (b
    ∙ ap (λ n. drop n e) f)

pub key_solution : {base : List ℕ} {m : ℕ} (t : List ℕ × Fraction) (inhomogeneity own : Power)
    (a : ℕ) {e : Expo}
    → a ≡ top t.0 → key_of (length base) t.0 ≡ key_of_power inhomogeneity → IsExpoOver base m e
    → IsSolution base m a (number_of base inhomogeneity) (number_of base own) (terms_in e.body)
    → IsKeySolution base m (number_of base own) t (terms_in e.body)
key_solution {base = base} {m = m} t inhomogeneity own a {e = e} q k over h = record {
  negative = inhomogeneity.negative;
  exponents = inhomogeneity.exponents.items;
  key = k;
  normal = over_normal over;
  solution = subst (λ n. IsSolution base m n (number_of base inhomogeneity) (number_of base own)
      (terms_in e.body)) q h;
}

solving_past : (base : List ℕ) (a : ℕ) {inhomogeneity : Power} (own : Power)
    → IsPastSolution base a inhomogeneity own
    → IsPastSolving (number_of base inhomogeneity) (number_of base own) a
solving_past base a own (Solutions.inhomogeneity_number h) =
    Solved.inhomogeneity_past h
solving_past base a own (Solutions.own_number h) = Solved.own_past h
solving_past base a own (Solutions.other n h) = Solved.other n h
solving_past base a own (Solutions.equal n h) = Solved.equal n h

pub term_past : (base : List ℕ) (m : ℕ) (t : List ℕ × Fraction) {inhomogeneity own : Power} (a : ℕ)
    → a ≡ top t.0 → key_of (length base) t.0 ≡ key_of_power inhomogeneity
    → IsPastSolution base a inhomogeneity own → IsPastTerm base m (number_of base own) t
term_past base m t {inhomogeneity = inhomogeneity} {own = own} a q k h =
    Solved.solving inhomogeneity.negative inhomogeneity.exponents.items k
    (subst (IsPastSolving (number_of base inhomogeneity) (number_of base own)) q
    (solving_past base a own h))

pub product_past : {base : List ℕ} {m : ℕ} {l : Fraction} (t : List ℕ × Fraction)
    {y : Terms Fraction} {q : Terms Fraction}
    → IsKeySolution base m l t y → q ≡ steady (length base) t → IsPastProduct fractions y q
    → IsPastTerm base m l t
product_past t {y = y} h e x = Solved.product y h (subst (IsPastProduct fractions y) e x)

-- ---- all of them
module _ (base : List ℕ) (m : ℕ) (w : List Fraction) (g : List ℕ) (own : Power)
    (q : Terms Fraction) where
  abbrev l : Fraction
  l = number_of base own

  pub whole_is : {none grown : Terms Fraction} (all : Terms Fraction)
      → length own.exponents.items ≡ length base → none ≡ []
      → grown ≡ none ++ homogeneous_part m (key_of_power own) w g
      → AreSolvedBehind base m l q grown all → IsWhole base m w g l q all
  whole_is all k z e h = record {
    negative = own.negative;
    exponents = own.exponents.items;
    power = record { count = k; is = refl };
    solved = h.solved;
    are = h.are;
    terms = h.terms
        ∙ ap (λ x. x ++ h.solved) (e ∙ ap (λ x. x ++ homogeneous_part m (key_of_power own) w g)
        z);
  }

  pub form_is : (all : Terms Fraction) {sum : Terms Fraction} (k : ℕ) (e : Expo)
      → IsWhole base m w g l q all → sum ≡ collect_terms all
      → IsExpo base k (with_normal_keys (length base) sum) e
      → IsSolvedForm base m w g l q (terms_in e.body)
  form_is all k e h s x = record {
    whole = all;
    is = h;
    terms = x.terms
        ∙ ap (λ y. collect_terms (with_normal_keys (length base) y)) s;
  }
