-- Effects keep what the operations keep.
--   Keeps N M of on R      R stands between the results of operations where it stands between what they are computed from
--   value-kept, branch-kept, ..     then it stands between the values of an expression, the states after a branch, ..
--   Closed N of P          P holds of results where it holds of what they are computed from
--   value_in, ..                    then it holds of values and of the elements of states
--   Carries N M of on f    f takes results to results
--   to-value_of, ..                 then it takes values to values and states to states
--   iteration-kept, iteration_in, map-iteration, length-iteration     the same of the variables after a branch, whose local names are 0 before it
--   length-store, length-branch, ..      a state's length stays
--   store-push, branch-push     one more target, one more statement
use Rattle.std.proofs.Common.{◌≡◌, ℕ, zero, suc, ◌+◌, List, [], ◌∷◌, ◌++◌, map, get_or, set, take, replicate, length, arith, refl, ap, ap₂, ◌∙◌}
use Rattle.std.specs.List.{AllZip}
use Rattle.std.proofs.lemmas.List.{length-set, length-append, length-replicate, length-take-le}
use Rattle.algebra.specs.Each.{Each}
use Rattle.algebra.specs.Arithmetic as numeral
use Rattle.algebra.specs.Arithmetic.{Arithmetic}
use Rattle.algebra.specs.Fraction.{Fraction, whole, inverse}
use Rattle.loops.specs.Program.{Expr, number, variable, neg, add, sub, mul, divide, power, Statement, Program}
use Rattle.loops.specs.Effect.{store, init_statement, value_of, after_statement, after_branch, after_iteration, start_from}

-- ---- relations
module _ {A B : Type 0} (N : Arithmetic A) (M : Arithmetic B) (of : Fraction → A) (on : Fraction
    → B) (R : A → B → Type 0) where
  pub record Keeps : Type 0 where
    pub zero_kept : R N.zero M.zero
    pub one_kept : R N.one M.one
    pub add_kept : (a c : A) (b d : B) → R a b → R c d → R (N.add a c) (M.add b d)
    pub mul_kept : (a c : A) (b d : B) → R a b → R c d → R (N.mul a c) (M.mul b d)
    pub neg_kept : (a : A) (b : B) → R a b → R (N.neg a) (M.neg b)
    pub number_kept : (c : Fraction) → R (of c) (on c)

  module _ (k : Keeps) where
    power-kept : (a : A) (b : B) (n : ℕ) → R a b → R (numeral.power N a n) (numeral.power M b n)
    unfolding numeral.power
    power-kept a b zero r = k.one_kept
    power-kept a b (suc n) r = k.mul_kept a _ b _ r (power-kept a b n r)

    get_or-kept : (s : List A) (t : List B) (i : ℕ) → AllZip R s t
        → R (get_or s i N.zero) (get_or t i M.zero)
    get_or-kept [] [] i r = k.zero_kept
    get_or-kept [] (b ∷ t) i r = absurd r
    get_or-kept (a ∷ s) [] i r = absurd r
    get_or-kept (a ∷ s) (b ∷ t) zero r = r.0
    get_or-kept (a ∷ s) (b ∷ t) (suc i) r = get_or-kept s t i r.1

    pub value-kept : {At : Type 0} → (s : List A) (t : List B) → AllZip R s t → (e : Expr At)
        → R (value_of N of s e) (value_of M on t e)
    unfolding value_of
    value-kept s t r (number n) = k.number_kept (whole n)
    value-kept s t r (variable i) = get_or-kept s t i r
    value-kept s t r (neg at e) = k.neg_kept _ _ (value-kept s t r e)
    value-kept s t r (add at e f) = k.add_kept _ _ _ _ (value-kept s t r e) (value-kept s t r f)
    value-kept s t r (sub at e f) = k.add_kept _ _ _ _ (value-kept s t r e)
        (k.neg_kept _ _ (value-kept s t r f))
    value-kept s t r (mul at e f) = k.mul_kept _ _ _ _ (value-kept s t r e) (value-kept s t r f)
    value-kept s t r (divide at e n) = k.mul_kept _ _ _ _ (value-kept s t r e)
        (k.number_kept (inverse (whole n)))
    value-kept s t r (power at e n) = power-kept _ _ n (value-kept s t r e)

    values-kept : {At : Type 0} → (s : List A) (t : List B) → AllZip R s t → (es : List (Expr At))
        → AllZip R (map (value_of N of s) es) (map (value_of M on t) es)
    values-kept s t r [] = tt
    values-kept s t r (e ∷ es) = (value-kept s t r e, values-kept s t r es)

    set-kept : (s : List A) (t : List B) (i : ℕ) (a : A) (b : B) → AllZip R s t → R a b
        → AllZip R (set s i a) (set t i b)
    set-kept [] [] i a b r h = tt
    set-kept [] (y ∷ t) i a b r h = absurd r
    set-kept (x ∷ s) [] i a b r h = absurd r
    set-kept (x ∷ s) (y ∷ t) zero a b r h = (h, r.1)
    set-kept (x ∷ s) (y ∷ t) (suc i) a b r h = (r.0, set-kept s t i a b r.1 h)

    store-kept : (is : List ℕ) (xs : List A) (ys : List B) (s : List A) (t : List B)
        → AllZip R xs ys → AllZip R s t → AllZip R (store is xs s) (store is ys t)
    unfolding store
    store-kept [] xs ys s t h r = r
    store-kept (i ∷ is) [] [] s t h r = r
    store-kept (i ∷ is) [] (y ∷ ys) s t h r = absurd h
    store-kept (i ∷ is) (x ∷ xs) [] s t h r = absurd h
    store-kept (i ∷ is) (x ∷ xs) (y ∷ ys) s t h r = store-kept is xs ys (set s i x) (set t i y) h.1
        (set-kept s t i x y r h.0)

    pub statement-kept : {At : Type 0} → (c : Statement (Expr At)) (s : List A) (t : List B)
        → AllZip R s t → AllZip R (after_statement N of c s) (after_statement M on c t)
    unfolding after_statement
    statement-kept c s t r = store-kept c.targets _ _ s t (values-kept s t r c.values) r

    pub branch-kept : {At : Type 0} → (cs : List (Statement (Expr At))) (s : List A) (t : List B)
        → AllZip R s t → AllZip R (after_branch N of cs s) (after_branch M on cs t)
    unfolding after_branch
    branch-kept [] s t r = r
    branch-kept (c ∷ cs) s t r = branch-kept cs _ _ (statement-kept c s t r)

    take-kept : (m : ℕ) (s : List A) (t : List B) → AllZip R s t → AllZip R (take m s) (take m t)
    take-kept zero s t r = tt
    take-kept (suc m) [] [] r = tt
    take-kept (suc m) [] (b ∷ t) r = absurd r
    take-kept (suc m) (a ∷ s) [] r = absurd r
    take-kept (suc m) (a ∷ s) (b ∷ t) r = (r.0, take-kept m s t r.1)

    zeros-kept : (j : ℕ) → AllZip R (replicate j N.zero) (replicate j M.zero)
    zeros-kept zero = tt
    zeros-kept (suc j) = (k.zero_kept, zeros-kept j)

    pad-kept : (j : ℕ) (s : List A) (t : List B) → AllZip R s t
        → AllZip R (s ++ replicate j N.zero) (t ++ replicate j M.zero)
    pad-kept j [] [] r = zeros-kept j
    pad-kept j [] (b ∷ t) r = absurd r
    pad-kept j (a ∷ s) [] r = absurd r
    pad-kept j (a ∷ s) (b ∷ t) r = (r.0, pad-kept j s t r.1)

    pub iteration-kept : {At : Type 0}
        → (program : Program (Expr At)) (cs : List (Statement (Expr At)))
        (s : List A) (t : List B) → AllZip R s t → AllZip R (after_iteration N of program cs s)
        (after_iteration M on program cs t)
    iteration-kept program cs s t r = take-kept (length program.names) _ _
        (branch-kept cs _ _ (pad-kept (length program.locals) s t r))

    pub start-kept : {At : Type 0} → (program : Program (Expr At)) (s : List A) (t : List B)
        → AllZip R s t → AllZip R (start_from N of program s) (start_from M on program t)
    unfolding start_from
    start-kept program s t r = statement-kept (init_statement program) s t r

-- ---- classes
same_all : {A : Type 0} (P : A → Type 0) (s : List A) → Each P s → AllZip (λ a b. P a) s s
unfolding Each
same_all P [] h = tt
same_all P (a ∷ s) h = (h.0, same_all P s h.1)

all_left : {A B : Type 0} (P : A → Type 0) (s : List A) (t : List B) → AllZip (λ a b. P a) s t
    → Each P s
unfolding Each
all_left P [] [] h = tt
all_left P [] (b ∷ t) h = absurd h
all_left P (a ∷ s) [] h = absurd h
all_left P (a ∷ s) (b ∷ t) h = (h.0, all_left P s t h.1)

module _ {A : Type 0} (N : Arithmetic A) (of : Fraction → A) (P : A → Type 0) where
  pub record Closed : Type 0 where
    pub zero_in : P N.zero
    pub one_in : P N.one
    pub add_in : (a b : A) → P a → P b → P (N.add a b)
    pub mul_in : (a b : A) → P a → P b → P (N.mul a b)
    pub neg_in : (a : A) → P a → P (N.neg a)
    pub number_in : (c : Fraction) → P (of c)

  module _ (closed : Closed) where
    kept_in : Keeps N N of of (λ a b. P a)
    kept_in = record {
      zero_kept = closed.zero_in;
      one_kept = closed.one_in;
      add_kept = λ a c b d p q. closed.add_in a c p q;
      mul_kept = λ a c b d p q. closed.mul_in a c p q;
      neg_kept = λ a b p. closed.neg_in a p;
      number_kept = closed.number_in;
    }

    pub value_in : {At : Type 0} → (s : List A) → Each P s → (e : Expr At) → P (value_of N of s e)
    value_in s h e = value-kept N N of of _ kept_in s s (same_all P s h) e

    pub iteration_in : {At : Type 0}
        → (program : Program (Expr At)) (cs : List (Statement (Expr At)))
        (s : List A) → Each P s → Each P (after_iteration N of program cs s)
    iteration_in program cs s h = all_left P _ _ (iteration-kept N N of of
        _ kept_in program cs s s (same_all P s h))

    pub start_in : {At : Type 0} → (program : Program (Expr At)) (s : List A) → Each P s
        → Each P (start_from N of program s)
    start_in program s h = all_left P _ _ (start-kept N N of of
        _ kept_in program s s (same_all P s h))

-- ---- maps
module _ {A B : Type 0} (f : A → B) where
  abbrev Along : A → B → Type 0
  Along a b = f a ≡ b

  along_map : (s : List A) → AllZip Along s (map f s)
  along_map [] = tt
  along_map (a ∷ s) = (refl, along_map s)

  map_along : (s : List A) (t : List B) → AllZip Along s t → map f s ≡ t
  map_along [] [] h = refl
  map_along [] (b ∷ t) h = absurd h
  map_along (a ∷ s) [] h = absurd h
  map_along (a ∷ s) (b ∷ t) h = ap₂ ◌∷◌ h.0 (map_along s t h.1)

module _ {A B : Type 0} (N : Arithmetic A) (M : Arithmetic B) (of : Fraction → A) (on : Fraction
    → B) (f : A → B) where
  pub record Carries : Type 0 where
    pub to-zero : f N.zero ≡ M.zero
    pub to-one : f N.one ≡ M.one
    pub to-add : (a b : A) → f (N.add a b) ≡ M.add (f a) (f b)
    pub to-mul : (a b : A) → f (N.mul a b) ≡ M.mul (f a) (f b)
    pub to-neg : (a : A) → f (N.neg a) ≡ M.neg (f a)
    pub to-number : (c : Fraction) → f (of c) ≡ on c

  module _ (carries : Carries) where
    kept_along : Keeps N M of on (Along f)
    kept_along = record {
      zero_kept = carries.to-zero;
      one_kept = carries.to-one;
      add_kept = λ a c b d p q. carries.to-add a c ∙ ap₂ M.add p q;
      mul_kept = λ a c b d p q. carries.to-mul a c ∙ ap₂ M.mul p q;
      neg_kept = λ a b p. carries.to-neg a ∙ ap M.neg p;
      number_kept = carries.to-number;
    }

    pub to-value_of : {At : Type 0} → (s : List A) (e : Expr At)
        → f (value_of N of s e) ≡ value_of M on (map f s) e
    to-value_of s e = value-kept N M of on _ kept_along s (map f s) (along_map f s) e

    pub map-iteration : {At : Type 0}
        → (program : Program (Expr At)) (cs : List (Statement (Expr At)))
        (s : List A) → map f (after_iteration N of program cs s) ≡ after_iteration M on program cs
        (map f s)
    map-iteration program cs s = map_along f _ _ (iteration-kept N M of
        on _ kept_along program cs s (map f s)
        (along_map f s))

    pub map-start_from : {At : Type 0} → (program : Program (Expr At)) (s : List A)
        → map f (start_from N of program s) ≡ start_from M on program (map f s)
    map-start_from program s = map_along f _ _ (start-kept N M of
        on _ kept_along program s (map f s) (along_map f s))

-- ---- lengths
pub length-store : {A : Type 0} (is : List ℕ) (xs s : List A) → length (store is xs s) ≡ length s
unfolding store
length-store [] xs s = refl
length-store (i ∷ is) [] s = refl
length-store (i ∷ is) (x ∷ xs) s = length-store is xs (set s i x) ∙ length-set s i x

module _ {A : Type 0} (N : Arithmetic A) (of : Fraction → A) where
  pub length-statement : {At : Type 0} → (c : Statement (Expr At)) (s : List A)
      → length (after_statement N of c s) ≡ length s
  unfolding after_statement
  length-statement c s = length-store c.targets _ s

  pub length-branch : {At : Type 0} → (cs : List (Statement (Expr At))) (s : List A)
      → length (after_branch N of cs s) ≡ length s
  unfolding after_branch
  length-branch [] s = refl
  length-branch (c ∷ cs) s = length-branch cs (after_statement N of c s) ∙ length-statement c s

  pub length-iteration : {At : Type 0}
      → (program : Program (Expr At)) (cs : List (Statement (Expr At)))
      (s : List A) → length s ≡ length program.names → length (after_iteration N of program cs s)
      ≡ length program.names
  length-iteration program cs s h =
      let whole = s ++ replicate (length program.locals) N.zero in
      let l : length (after_branch N of cs whole) ≡ length s + length program.locals =
      length-branch cs whole ∙ length-append s (replicate (length program.locals) N.zero)
      ∙ ap (λ j. length s + j) (length-replicate (length program.locals) N.zero) in
      length-take-le (length program.names) (after_branch N of cs whole) (omega (arith, l, h))

  pub length-start_from : {At : Type 0} → (program : Program (Expr At)) (s : List A)
      → length (start_from N of program s) ≡ length s
  unfolding start_from
  length-start_from program s = length-statement (init_statement program) s

-- ---- one more
pub store-push : {A : Type 0} (is : List ℕ) (xs s : List A) (i : ℕ) (x : A) → length is ≡ length xs
    → store (is ++ i ∷ []) (xs ++ x ∷ []) s ≡ set (store is xs s) i x
unfolding store
store-push [] [] s i x l = refl
store-push [] (y ∷ xs) s i x l = absurd (omega arith)
store-push (j ∷ is) [] s i x l = absurd (omega arith)
store-push (j ∷ is) (y ∷ xs) s i x l = store-push is xs (set s j y) i x (omega arith)

pub branch-push : {At : Type 0} → {A : Type 0} (N : Arithmetic A) (of : Fraction
    → A) (cs : List (Statement (Expr At))) (c : Statement (Expr At)) (s : List A)
    → after_branch N of (cs ++ c ∷ []) s ≡ after_statement N of c (after_branch N of cs s)
unfolding after_branch
branch-push N of [] c s = refl
branch-push N of (d ∷ cs) c s = branch-push N of cs c (after_statement N of d s)
