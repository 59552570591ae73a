-- The starts of a program are what start_from gives, from any state, and each is what it gives from itself.
--   start_from_start     at a start it changes nothing
--   start_from_holds     of a well-formed program: what it gives meets each equation of init
--   start_from_free      what init doesn't set stays
--   start_by_free        of a well-formed program: the free variables alone decide what it gives
--   uses_weaker          where P is so of each variable that an expression uses, and Q follows from P, Q is so of each
use Rattle.std.proofs.Common.{◌≡◌, ◌≢◌, ℕ, zero, suc, ◌<◌, List, [], ◌∷◌, map, get_or, set, length, arith, refl, sym, ap, ap₂, ◌∙◌, All}
use Rattle.std.proofs.lemmas.List.{set-get_or, get_or-set_same, get_or-set_other, length-set, same_lists, get_or_default}
use Rattle.std.proofs.lemmas.List.Elements.{All-nil, All-cons, All-head, All-tail, All-map, All-weaker}
use Rattle.std.proofs.lemmas.Simd.{map-map}
use Rattle.algebra.specs.Arithmetic as numeral
use Rattle.algebra.specs.Arithmetic.{Arithmetic}
use Rattle.algebra.specs.Fraction.{Fraction, whole, inverse}
use Rattle.loops.specs.Program.{Expr, number, variable, neg, add, sub, mul, divide, power, Equation, Program}
use Rattle.loops.specs.Effect.{store, init_statement, value_of, after_statement, start_from}
use Rattle.loops.specs.WellFormed.{IsWellFormed, Uses, AreDistinct}

abbrev names : {E : Type 0} → List (Equation E) → List ℕ
names {E = E} es = map (λ (e : Equation E). e.name) es

map_same : {X Y : Type 0} (f g : X → Y) (xs : List X) → All (λ x. f x ≡ g x) xs
    → map f xs ≡ map g xs
map_same f g [] h = refl
map_same f g (x ∷ xs) h = ap₂ ◌∷◌ (All-head (λ x. f x ≡ g x) x xs h)
    (map_same f g xs (All-tail (λ x. f x ≡ g x) x xs h))

-- a variable that init doesn't set
abbrev IsFree : {E : Type 0} → Program E → ℕ → Type 0
IsFree {E = E} program i = (i < length program.names)
    × All (λ (f : Equation E). i ≢ f.name) program.init

pub uses_weaker : {At : Type 0} → (P Q : ℕ → Type 0) → ((i : ℕ) → P i → Q i) → (e : Expr At)
    → Uses P e → Uses Q e
unfolding Uses
uses_weaker P Q h (number n) u = tt
uses_weaker P Q h (variable i) u = h i u
uses_weaker P Q h (neg at e) u = uses_weaker P Q h e u
uses_weaker P Q h (add at e f) u = (uses_weaker P Q h e u.0, uses_weaker P Q h f u.1)
uses_weaker P Q h (sub at e f) u = (uses_weaker P Q h e u.0, uses_weaker P Q h f u.1)
uses_weaker P Q h (mul at e f) u = (uses_weaker P Q h e u.0, uses_weaker P Q h f u.1)
uses_weaker P Q h (divide at e n) u = (uses_weaker P Q h e u.0, u.1)
uses_weaker P Q h (power at e n) u = uses_weaker P Q h e u

-- ---- what stores leave and give
store_other : {A : Type 0} (is : List ℕ) (xs s : List A) (j : ℕ) (d : A) → All (λ i. i ≢ j) is
    → get_or (store is xs s) j d ≡ get_or s j d
unfolding store
store_other [] xs s j d a = refl
store_other (i ∷ is) [] s j d a = refl
store_other (i ∷ is) (x ∷ xs) s j d a =
    store_other is xs (set s i x) j d (All-tail (λ i. i ≢ j) i is a)
    ∙ get_or-set_other s i j x d (λ e. All-head (λ i. i ≢ j) i is a (sym e))

store_at : {At : Type 0} → {A : Type 0} (v : Equation (Expr At) → A) (d : A)
    (es : List (Equation (Expr At))) (s : List A) → AreDistinct (names es)
    → All (λ (e : Equation (Expr At)). e.name < length s) es
    → All (λ (e : Equation (Expr At)). get_or (store (names es) (map v es) s) e.name d ≡ v e) es
unfolding store AreDistinct
store_at {At = At} v d [] s a l = All-nil _
store_at {At = At} v d (e ∷ es) s a l =
    All-cons (λ (f : Equation (Expr At)). get_or (store (names es) (map v es) (set s e.name (v e)))
    f.name d ≡ v f) e es
    (store_other (names es) (map v es) (set s e.name (v e)) e.name d a.0
    ∙ get_or-set_same s e.name (v e) d (All-head (λ (f : Equation (Expr At)).
    f.name < length s) e es l))
    (store_at v d es (set s e.name (v e)) a.1 (All-weaker (λ (f : Equation (Expr At)).
    f.name < length s) (λ (f : Equation (Expr At)). f.name < length (set s e.name (v e)))
    (λ f h. omega (arith, length-set s e.name (v e))) es
    (All-tail (λ (f : Equation (Expr At)). f.name < length s) e es l)))

set_both : {A : Type 0} (s t : List A) (i j : ℕ) (x d : A) → length s ≡ length t
    → (i ≢ j → get_or s j d ≡ get_or t j d) → get_or (set s i x) j d ≡ get_or (set t i x) j d
set_both [] [] i j x d l h = refl
set_both [] (z ∷ t) i j x d l h = absurd (omega arith)
set_both (y ∷ s) [] i j x d l h = absurd (omega arith)
set_both (y ∷ s) (z ∷ t) zero zero x d l h = refl
set_both (y ∷ s) (z ∷ t) zero (suc j) x d l h = h (λ e. omega arith)
set_both (y ∷ s) (z ∷ t) (suc i) zero x d l h = h (λ e. omega arith)
set_both (y ∷ s) (z ∷ t) (suc i) (suc j) x d l h = set_both s t i j x d (omega arith)
    (λ n. h (λ e. n (omega arith)))

equal_lists : {A : Type 0} (s t : List A) (d : A) → length s ≡ length t
    → ((j : ℕ) → get_or s j d ≡ get_or t j d) → s ≡ t
equal_lists s t d l h = same_lists s t l (λ k e g. get_or_default s k e d g ∙ h k
    ∙ get_or_default t k d e (omega arith))

-- lists that agree outside of the targets agree after the stores
store_both : {At : Type 0} → {A : Type 0} (v : Equation (Expr At)
    → A) (es : List (Equation (Expr At))) (s t : List A) (d : A) → length s ≡ length t
    → ((j : ℕ) → All (λ (f : Equation (Expr At)). j ≢ f.name) es → get_or s j d ≡ get_or t j d)
    → store (names es) (map v es) s ≡ store (names es) (map v es) t
unfolding store
store_both {At = At} v [] s t d l h = equal_lists s t d l (λ j. h j (All-nil _))
store_both {At = At} v (e ∷ es) s t d l h = store_both v es (set s e.name (v e))
    (set t e.name (v e)) d (length-set s e.name (v e) ∙ l ∙ sym (length-set t e.name (v e)))
    (λ j a. set_both s t e.name j (v e) d l
    (λ n. h j (All-cons (λ (f : Equation (Expr At)). j ≢ f.name) e es (λ q. n (sym q)) a)))

module _ {A : Type 0} (N : Arithmetic A) (of : Fraction → A) where
  abbrev pub Holds : {At : Type 0} → List A → Equation (Expr At) → Type 0
  Holds s e = get_or s e.name N.zero ≡ value_of N of s e.value

  store_same : {At : Type 0} → (s : List A) (es : List (Equation (Expr At))) → All (Holds s) es
      → store (names es) (map (λ (e : Equation (Expr At)). value_of N of s e.value) es) s ≡ s
  unfolding store
  store_same {At = At} s [] a = refl
  store_same {At = At} s (e ∷ es) a =
      ap (store (names es) (map (λ (e : Equation (Expr At)). value_of N of s e.value) es))
      (ap (set s e.name) (sym (All-head (Holds s) e es a)) ∙ set-get_or s e.name N.zero)
      ∙ store_same s es (All-tail (Holds s) e es a)

  start_from-store : {At : Type 0} → (program : Program (Expr At)) (s : List A) → start_from N of
      program s ≡ store (names program.init) (map (λ (e : Equation (Expr At)). value_of N of
      s e.value) program.init) s
  unfolding start_from after_statement init_statement
  start_from-store {At = At} program s = ap (λ xs. store (names program.init) xs s)
      (map-map (value_of N of s) (λ (e : Equation (Expr At)). e.value) program.init)

  pub start_from_start : {At : Type 0} → (program : Program (Expr At)) (s : List A)
      → All (Holds s) program.init → start_from N of program s ≡ s
  start_from_start program s h = start_from-store program s ∙ store_same s program.init h

  -- a value depends on the variables in use alone
  value_of_same : {At : Type 0} → (s t : List A) (e : Expr At)
      → Uses (λ i. get_or s i N.zero ≡ get_or t i N.zero) e → value_of N of s e ≡ value_of N of t e
  unfolding Uses value_of
  value_of_same s t (number n) u = refl
  value_of_same s t (variable i) u = u
  value_of_same s t (neg at e) u = ap N.neg (value_of_same s t e u)
  value_of_same s t (add at e f) u = ap₂ N.add (value_of_same s t e u.0) (value_of_same s t f u.1)
  value_of_same s t (sub at e f) u = ap₂ N.add (value_of_same s t e u.0)
      (ap N.neg (value_of_same s t f u.1))
  value_of_same s t (mul at e f) u = ap₂ N.mul (value_of_same s t e u.0) (value_of_same s t f u.1)
  value_of_same s t (divide at e n) u = ap (λ x. N.mul x (of (inverse (whole n))))
      (value_of_same s t e u.0)
  value_of_same s t (power at e n) u = ap (λ x. numeral.power N x n) (value_of_same s t e u)

  pub start_from_free : {At : Type 0} → (program : Program (Expr At)) (s : List A) (i : ℕ) (d : A)
      → All (λ (f : Equation (Expr At)). i ≢ f.name) program.init
      → get_or (start_from N of program s) i d ≡ get_or s i d
  start_from_free {At = At} program s i d a =
      ap (λ t. get_or t i d) (start_from-store program s)
      ∙ store_other (names program.init) _ s i d (All-map (λ j. j ≢ i) (λ (e : Equation (Expr At)).
      e.name) program.init (All-weaker (λ (f : Equation (Expr At)). i ≢ f.name)
      (λ (f : Equation (Expr At)). f.name ≢ i) (λ f h e. h (sym e)) program.init a))

  pub start_from_holds : {At : Type 0} → (program : Program (Expr At)) → IsWellFormed program
      → (s : List A) → length s ≡ length program.names → All (Holds (start_from N of program s))
      program.init
  start_from_holds {At = At} program w s l = λ k d h. at k d h
      ∙ value_of_same s (start_from N of program s) (get_or program.init k d).value
      (uses_weaker (IsFree program) _ (λ i u. sym (start_from_free program s i N.zero u.1))
      (get_or program.init k d).value (w.free k d h))
    where
      at : All (λ (e : Equation (Expr At)). get_or (start_from N of program s) e.name N.zero
          ≡ value_of N of s e.value) program.init
      at k d h = ap (λ t. get_or t (get_or program.init k d).name N.zero)
          (start_from-store program s)
          ∙ store_at (λ (e : Equation (Expr At)). value_of N of s e.value) N.zero program.init s
          w.set_once (All-weaker (λ (f : Equation (Expr At)). f.name < length program.names)
          (λ (f : Equation (Expr At)). f.name < length s) (λ f g. omega arith) program.init
          w.set) k d h

  pub start_by_free : {At : Type 0} → (program : Program (Expr At)) → IsWellFormed program
      → (s t : List A) → length s ≡ length program.names → length t ≡ length program.names
      → ((i : ℕ) → All (λ (f : Equation (Expr At)). i ≢ f.name) program.init
      → get_or s i N.zero ≡ get_or t i N.zero)
      → start_from N of program s ≡ start_from N of program t
  start_by_free {At = At} program w s t l k h =
      start_from-store program s
      ∙ ap (λ xs. store (names program.init) xs s) (map_same _ _ program.init same_values)
      ∙ store_both (λ (e : Equation (Expr At)). value_of N of t e.value) program.init s t N.zero (l
      ∙ sym k) h
      ∙ sym (start_from-store program t)
    where
      same_values : All (λ (e : Equation (Expr At)). value_of N of s e.value ≡ value_of N of
          t e.value) program.init
      same_values = All-weaker (λ (e : Equation (Expr At)). Uses (IsFree program) e.value) _ (λ e u.
          value_of_same s t e.value (uses_weaker (IsFree program) _ (λ i g. h i g.1) e.value u))
          program.init w.free
