-- The judging of parts, one after another.
--   from_zero, one_more          the numbers below n, cut at one of them, and one more
--   behind_in, stop_in           where it stops within some of the parts, behind those that hold, it stops so
--   numbers_hold, numbered, numbers_stop   parts that are numbered
--   more_hold, here_stops        the number that comes next, by what is told of it
--   several_hold, all_of_several, first_several, behind_several, several_stop   lists of parts that are numbered
--   stop_mapped, stop_weaker     images of parts, and causes that give others
--   carried                      what is told of a stop that another one is made of;  passed_on: of an error that is passed on
use Rattle.std.proofs.Common.{◌≡◌, ◌↔◌, ◌⊎◌, inl, inr, ℕ, zero, suc, ◌+◌, ◌-◌, ◌<◌, ◌≤◌, Bool, true, List, [], ◌∷◌, ◌++◌, map, flat_map, Result, Ok, Err, IfOk, IfErr, IsErrAnd, IsTrue, IsErrOf, refl, sym, ap, ap₂, subst, ◌∙◌, arith, append_assoc, true≢false, add-one}
use Rattle.std.proofs.lemmas.Grind.{flat_map-append}
use Rattle.std.proofs.lemmas.List.{map-append, append-nil}
use borrow.Author.Count.{below_more}
use Rattle.algebra.specs.Each.{Each}
use Rattle.algebra.proofs.Each.{each-append, each-left, each-map}
use Rattle.exponentials.specs.Table.{numbers}
use Rattle.ring_laws.specs.declared.ArithmeticError.{ArithmeticError}
use Rattle.ring_laws.specs.declared.ArithmeticError.TheVariants as arithmetic_error
use Rattle.task_lists.proofs.Places.{numbers-push}
use Rattle.cert_checker.specs.FullStops.{IsToldAs, Behind, IsStop, AtNumber, StopsAt, stop_map}
use Rattle.cert_checker.specs.declared.full_stop.Stop.{Stop}
use Rattle.cert_checker.specs.declared.full_stop.Stop.TheVariants.{Fails, Wide, Memory}

-- ---- numbers
numbers-split : (lo i n : ℕ) → i < n
    → numbers lo n ≡ numbers lo i ++ (lo + i) ∷ numbers (suc (lo + i)) (n - suc i)
numbers-split lo i zero l = absurd (omega arith)
numbers-split lo zero (suc n) l =
    let e : lo + 0 ≡ lo = omega arith in
    let d : suc n - 1 ≡ n = omega arith in
    sym (ap₂ (λ x y. x ∷ numbers (suc x) y) e d)
numbers-split lo (suc i) (suc n) l =
    let e : suc lo + i ≡ lo + suc i = omega arith in
    let d : n - suc i ≡ suc n - suc (suc i) = omega arith in
    ap (λ xs. lo ∷ xs) (numbers-split (suc lo) i n (omega arith))
    ∙ ap₂ (λ x y. lo ∷ (numbers (suc lo) i ++ x ∷ numbers (suc x) y)) e d

pub from_zero : (i n : ℕ) → i < n → numbers 0 n ≡ numbers 0 i ++ i ∷ numbers (suc i) (n - suc i)
from_zero i n l =
    let z : 0 + i ≡ i = omega arith in
    numbers-split 0 i n l
    ∙ ap (λ k. numbers 0 i ++ k ∷ numbers (suc k) (n - suc i)) z

zero-push : (n : ℕ) → numbers 0 (suc n) ≡ numbers 0 n ++ n ∷ []
zero-push n =
    let z : 0 + n ≡ n = omega arith in
    numbers-push 0 n ∙ ap (λ k. numbers 0 n ++ k ∷ []) z

pub one_more : (n : ℕ) → numbers 0 (n + 1) ≡ numbers 0 n ++ n ∷ []
one_more n = ap (numbers 0) (add-one n) ∙ zero-push n

-- ---- within other parts
module _ {A : Type 0} (P : A → Type 0) where
  pub behind_in : {ps : List A} (done : List A) {here : List A} (rest : List A) {a : A} (W : Type 0)
      → ps ≡ done ++ (here ++ rest) → Each P done → Behind P here a W → Behind P ps a W
  behind_in done rest {a = a} W e d b = record {
    earlier = done ++ b.earlier;
    later = b.later ++ rest;
    is = e ∙ ap (λ h. done ++ (h ++ rest)) b.is
        ∙ ap (λ h. done ++ h) (append_assoc b.earlier (a ∷ b.later) rest)
        ∙ sym (append_assoc done b.earlier (a ∷ (b.later ++ rest)));
    holds = each-append P done b.earlier d b.holds;
    cause = b.cause;
  }

module _ {Q A : Type 0} (see : Q → A) (P W : A → Type 0) where
  pub stop_in : (ps done here rest : List A) → ps ≡ done ++ (here ++ rest) → Each P done
      → (e : Stop Q) → IsStop see P W here e → IsStop see P W ps e
  stop_in ps done here rest is d (Fails q) s =
      behind_in P done rest (P (see q) → ⊥) is d s
  stop_in ps done here rest is d (Wide q) s =
      behind_in P done rest (W (see q)) is d s
  stop_in ps done here rest is d Memory s = tt

-- ---- images, and weaker causes
module _ {A B : Type 0} (P : B → Type 0) (f : A → B) where
  behind_map : (ps : List A) (a : A) (W : Type 0) → Behind (λ x. P (f x)) ps a W
      → Behind P (map f ps) (f a) W
  behind_map ps a W b = record {
    earlier = map f b.earlier;
    later = map f b.later;
    is = ap (map f) b.is ∙ map-append f b.earlier (a ∷ b.later);
    holds = each-map P f b.earlier b.holds;
    cause = b.cause;
  }

module _ {Q S A B : Type 0} (see : Q → A) (of : S → B) (P W : B → Type 0) (f : A → B) (g : Q
    → S) (is : (q : Q) → of (g q) ≡ f (see q)) where
  pub stop_mapped : (ps : List A) (e : Stop Q)
      → IsStop see (λ x. P (f x)) (λ x. W (f x)) ps e → IsStop of P W (map f ps) (stop_map g e)
  stop_mapped ps (Fails q) s = subst (λ b. Behind P (map f ps) b (P b → ⊥)) (sym (is q))
      (behind_map P f ps (see q) (P (f (see q)) → ⊥) s)
  stop_mapped ps (Wide q) s = subst (λ b. Behind P (map f ps) b (W b)) (sym (is q))
      (behind_map P f ps (see q) (W (f (see q))) s)
  stop_mapped ps Memory s = tt

pub stop_weaker : {Q A : Type 0} (see : Q → A) (P W V : A → Type 0) → ((a : A) → W a → V a)
    → (ps : List A) (e : Stop Q) → IsStop see P W ps e → IsStop see P V ps e
stop_weaker see P W V h ps (Fails q) s = s
stop_weaker see P W V h ps (Wide q) s = record {
  earlier = s.earlier;
  later = s.later;
  is = s.is;
  holds = s.holds;
  cause = h (see q) s.cause;
}
stop_weaker see P W V h ps Memory s = tt

-- ---- numbered parts
module _ {A : Type 0} (P : A → Type 0) (part : ℕ → A) where
  each_numbered : (lo n : ℕ) → ((j : ℕ) → j < lo + n → P (part j))
      → Each P (map part (numbers lo n))
  unfolding Each
  each_numbered lo zero h = tt
  each_numbered lo (suc n) h = (
    h lo (omega arith),
    each_numbered (suc lo) n (λ j l. h j (omega arith)),
  )

  pub numbers_hold : (n : ℕ) → ((j : ℕ) → j < n → P (part j)) → Each P (map part (numbers 0 n))
  numbers_hold n h = each_numbered 0 n (λ j l. h j (omega arith))

  pub numbered : {n : ℕ} (i : ℕ) (W : Type 0) → AtNumber (λ j. P (part j)) n i W
      → Behind P (map part (numbers 0 n)) (part i) W
  numbered {n = n} i W a = record {
    earlier = map part (numbers 0 i);
    later = map part (numbers (suc i) (n - suc i));
    is = ap (map part) (from_zero i n a.within)
        ∙ map-append part (numbers 0 i) (i ∷ numbers (suc i) (n - suc i));
    holds = numbers_hold i a.before;
    cause = a.cause;
  }

-- the part that a number is told as
module _ {Q A : Type 0} (see : Q → A) (P W : A → Type 0) (part : ℕ → A) where
  pub numbers_stop : (n : ℕ) (make : ℕ → Q) → ((i : ℕ) → see (make i) ≡ part i) → (e : Stop ℕ)
      → StopsAt (λ j. P (part j)) (λ j. W (part j)) n e
      → IsStop see P W (map part (numbers 0 n)) (stop_map make e)
  numbers_stop n make is (Fails i) s =
      subst (λ a. Behind P (map part (numbers 0 n)) a (P a → ⊥)) (sym (is i))
      (numbered P part i (P (part i) → ⊥) s)
  numbers_stop n make is (Wide i) s =
      subst (λ a. Behind P (map part (numbers 0 n)) a (W a)) (sym (is i))
      (numbered P part i (W (part i)) s)
  numbers_stop n make is Memory s = tt

-- ---- the next number
module _ (P W : ℕ → Type 0) (n i : ℕ) (within : i < n) (before : (j : ℕ) → j < i
    → P j) (found : Result Bool ArithmeticError) (tells : IfOk found (λ b. IsTrue b ↔ P i))
    (wide : IsErrOf found arithmetic_error.Wide → W i) where
  pub here_stops : (e : Stop ℕ) → IsToldAs i found e → StopsAt P W n e
  here_stops (Fails p) is = subst (λ k. AtNumber P n k (P k → ⊥)) (sym is.0) (record {
    within = within;
    before = before;
    cause = λ holds.
        true≢false (sym ((subst (λ r. IfOk r (λ b. IsTrue b ↔ P i)) is.1 tells).1 holds));
  })
  here_stops (Wide p) is = subst (λ k. AtNumber P n k (W k)) (sym is.0) (record {
    within = within;
    before = before;
    cause = wide is.1;
  })
  here_stops Memory is = tt

pub more_hold : (P : ℕ → Type 0) (i : ℕ) → ((j : ℕ) → j < i → P j)
    → {found : Result Bool ArithmeticError} → found ≡ Ok true → IfOk found (λ b. IsTrue b ↔ P i)
    → (j : ℕ) → j < i + 1 → P j
more_hold P i before is tells =
    below_more P i before ((subst (λ r. IfOk r (λ b. IsTrue b ↔ P i)) is tells).0 refl)

-- ---- lists of parts that are numbered
module _ {A : Type 0} (P : A → Type 0) (parts : ℕ → List A) where
  pub several_hold : (i : ℕ) → Each P (flat_map parts (numbers 0 i)) → Each P (parts i)
      → Each P (flat_map parts (numbers 0 (i + 1)))
  several_hold i h k =
      subst (Each P) (sym (ap (flat_map parts) (one_more i)
      ∙ flat_map-append parts (numbers 0 i) (i ∷ [])
      ∙ ap (λ t. flat_map parts (numbers 0 i) ++ t) (append-nil (parts i))))
      (each-append P (flat_map parts (numbers 0 i)) (parts i) h k)

  pub all_of_several : (n : ℕ) → ((b : ℕ) → b < n → Each P (parts b))
      → Each P (flat_map parts (numbers 0 n))
  unfolding Each
  all_of_several zero h = tt
  all_of_several (suc n) h = subst (λ k. Each P (flat_map parts (numbers 0 k))) (add-one n)
      (several_hold n (all_of_several n (λ b l. h b (omega arith))) (h n (omega arith)))

  -- of the first n, where there are more
  pub first_several : (n i : ℕ) → n ≤ i → Each P (flat_map parts (numbers 0 i))
      → Each P (flat_map parts (numbers 0 n))
  first_several n i l h = go (cases n i)
    where
      cases : (x y : ℕ) → (x < y) ⊎ (y ≤ x)
      cases x y = grind arith

      go : (n < i) ⊎ (i ≤ n) → Each P (flat_map parts (numbers 0 n))
      go (inl k) = each-left P (flat_map parts (numbers 0 n)) _
          (subst (Each P) (ap (flat_map parts) (from_zero n i k)
          ∙ flat_map-append parts (numbers 0 n) (n ∷ numbers (suc n) (i - suc n))) h)
      go (inr k) =
          let e : i ≡ n = omega (arith, l, k) in
          subst (λ j. Each P (flat_map parts (numbers 0 j))) e h

  pub behind_several : (n i : ℕ) → i < n → Each P (flat_map parts (numbers 0 i)) → (a : A)
      (W : Type 0) → Behind P (parts i) a W → Behind P (flat_map parts (numbers 0 n)) a W
  behind_several n i l h a W b = behind_in P
      (flat_map parts (numbers 0 i)) _ W (ap (flat_map parts) (from_zero i n l) ∙ flat_map-append
      parts (numbers 0 i) (i ∷ numbers (suc i) (n - suc i))) h b

module _ {Q A : Type 0} (see : Q → A) (P W : A → Type 0) (parts : ℕ → List A) where
  pub several_stop : (n i : ℕ) → i < n → Each P (flat_map parts (numbers 0 i)) → (e : Stop Q)
      → IsStop see P W (parts i) e → IsStop see P W (flat_map parts (numbers 0 n)) e
  several_stop n i l h = stop_in see P W (flat_map parts (numbers 0 n))
      (flat_map parts (numbers 0 i)) (parts i) _ (ap (flat_map parts) (from_zero i n l)
      ∙ flat_map-append parts (numbers 0 i) (i ∷ numbers (suc i) (n - suc i))) h

-- ---- stops made of others, and errors that are passed on
pub passed_on : {T E : Type 0} (r : Result T E) (P : E → Type 0) (e : E) → IsErrAnd r (λ y. y ≡ e)
    → P e → IfErr r P
passed_on (Ok x) P e is h = absurd is
passed_on (Err y) P e is h = subst P (sym is) h

pub carried : {T S E : Type 0} (r : Result T S) (f : S → E) (e : E) (A : S → Type 0)
    (B : E → Type 0) → IsErrAnd r (λ s. e ≡ f s) → IfErr r A → ((s : S) → A s → B (f s)) → B e
carried (Ok t) f e A B is a g = absurd is
carried (Err s) f e A B is a g = subst B (sym is) (g s a)
