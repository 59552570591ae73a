-- A program has the effects of the one without local names, where each variable is set to the expression that it stands for.
--   value_substitute     the value of an expression with expressions for its names
--   in_one_effect        the effects of a branch
--   run_without, invariants_without     runs and invariants
--   formed_without       well-formed programs
--   map_store            the image of a state in which values are stored is the image with theirs stored
use Rattle.std.proofs.Common.{◌≡◌, ◌↔◌, ◌≢◌, ℕ, zero, suc, ◌+◌, ◌<◌, pos, List, [], ◌∷◌, ◌++◌, map, get_or, set, take, replicate, length, arith, refl, sym, ap, ap₂, subst, ◌∙◌, Option, Some, None}
use Rattle.std.specs.Prelude.{option_and_then, option_map}
use Rattle.std.specs.List.{All}
use Rattle.std.proofs.lemmas.List.{length-append, length-map, length-replicate, length-take-le, map-append, take-map}
use Rattle.std.proofs.lemmas.List.Elements.{All-nil, All-cons, All-head, All-tail, All-map, All-set, All-take, All-append, All-replicate, All-weaker}
use Rattle.std.proofs.lemmas.Option.{slice_get-map}
use Rattle.std.proofs.lemmas.Simd.{map-map}
use Rattle.algebra.specs.Arithmetic as numeral
use Rattle.algebra.specs.Fraction.{Fraction, ℚ, whole, inverse}
use Rattle.polynomials.specs.Terms.{Terms}
use Rattle.loops.specs.Program.{Expr, number, variable, neg, add, sub, mul, divide, power, Statement, Program}
use Rattle.loops.specs.Effect.{store, value_of, after_statement, after_branch}
use Rattle.loops.specs.Run.{value, effect, branch_at, run_end, IsState, IsStart}
use Rattle.loops.specs.Inv.{Inv}
use Rattle.loops.specs.Expressions.{substitute, expressions_after, places, in_one, without_locals}
use Rattle.loops.specs.WellFormed.{Uses, AreDistinct, IsStatement, local_places, SetsFirst, IsWellFormed}
use Rattle.loops.proofs.Effects.{length-store}
use Rattle.loops.proofs.Maps.{effect_keeps_state}
use Rattle.loops.proofs.Locals.{no_local_names, sets_no_locals}

-- ---- lists
map_set : {A B : Type 0} (f : A → B) (s : List A) (i : ℕ) (x : A)
    → map f (set s i x) ≡ set (map f s) i (f x)
map_set f [] i x = refl
map_set f (y ∷ s) zero x = refl
map_set f (y ∷ s) (suc i) x = ap (λ l. f y ∷ l) (map_set f s i x)

pub map_store : {A B : Type 0} (f : A → B) (is : List ℕ) (xs s : List A)
    → map f (store is xs s) ≡ store is (map f xs) (map f s)
unfolding store
map_store f [] xs s = refl
map_store f (i ∷ is) [] s = refl
map_store f (i ∷ is) (x ∷ xs) s = map_store f is xs (set s i x)
    ∙ ap (store is (map f xs)) (map_set f s i x)

store_behind : {A : Type 0} (is : List ℕ) (xs s : List A) (y : A) → store (map suc is) xs (y ∷ s)
    ≡ y ∷ store is xs s
unfolding store
store_behind [] xs s y = refl
store_behind (i ∷ is) [] s y = refl
store_behind (i ∷ is) (x ∷ xs) s y = store_behind is xs (set s i x) y

store_whole : {A : Type 0} (m : ℕ) (xs s : List A) → length xs ≡ m → length s ≡ m
    → store (places m) xs s ≡ xs
unfolding store places
store_whole zero [] [] l k = refl
store_whole zero [] (y ∷ s) l k = absurd (omega (arith, k))
store_whole zero (x ∷ xs) s l k = absurd (omega (arith, l))
store_whole (suc m) [] s l k = absurd (omega (arith, l))
store_whole (suc m) (x ∷ xs) [] l k = absurd (omega (arith, k))
store_whole (suc m) (x ∷ xs) (y ∷ s) l k = store_behind (places m) xs s x
    ∙ ap (λ t. x ∷ t) (store_whole m xs s (omega (arith, l)) (omega (arith, k)))

length-places : (m : ℕ) → length (places m) ≡ m
unfolding places
length-places zero = refl
length-places (suc m) = ap suc (length-map (places m) suc ∙ length-places m)

read_places : (m : ℕ) (s : List Fraction) → length s ≡ m → map (λ i. get_or s i ℚ.zero) (places m)
    ≡ s
unfolding places
read_places zero [] l = refl
read_places zero (x ∷ s) l = absurd (omega (arith, l))
read_places (suc m) [] l = absurd (omega (arith, l))
read_places (suc m) (x ∷ s) l = ap (λ t. x ∷ t) (map-map (λ i. get_or (x ∷ s) i ℚ.zero) suc
    (places m) ∙ read_places m s (omega (arith, l)))

-- ---- expressions
module _ {At : Type 0} where
  get_value : (s : List Fraction) (es : List (Expr At)) (i : ℕ)
      → value (get_or es i (number (pos 0))) s ≡ get_or (map (λ e. value e s) es) i ℚ.zero
  unfolding value_of
  get_value s [] i = refl
  get_value s (e ∷ es) zero = refl
  get_value s (e ∷ es) (suc i) = get_value s es i

  pub value_substitute : (s : List Fraction) (es : List (Expr At)) (e : Expr At)
      → value (substitute es e) s ≡ value e (map (λ f. value f s) es)
  unfolding substitute value_of
  value_substitute s es (number n) = refl
  value_substitute s es (variable i) = get_value s es i
  value_substitute s es (neg at e) = ap ℚ.neg (value_substitute s es e)
  value_substitute s es (add at e f) = ap₂ ℚ.add (value_substitute s es e) (value_substitute s es f)
  value_substitute s es (sub at e f) = ap₂ ℚ.add (value_substitute s es e)
      (ap ℚ.neg (value_substitute s es f))
  value_substitute s es (mul at e f) = ap₂ ℚ.mul (value_substitute s es e) (value_substitute s es f)
  value_substitute s es (divide at e n) = ap (λ x. ℚ.mul x (inverse (whole n)))
      (value_substitute s es e)
  value_substitute s es (power at e n) = ap (λ x. numeral.power ℚ x n) (value_substitute s es e)

  values_substitute : (s : List Fraction) (es fs : List (Expr At))
      → map (λ e. value e s) (map (substitute es) fs) ≡ map (λ f. value f (map (λ e. value e s) es))
      fs
  values_substitute s es [] = refl
  values_substitute s es (f ∷ fs) = ap₂ ◌∷◌ (value_substitute s es f) (values_substitute s es fs)

  values_after : (s : List Fraction) (cs : List (Statement (Expr At))) (es : List (Expr At))
      → map (λ e. value e s) (expressions_after cs es) ≡ after_branch ℚ (λ c. c) cs
      (map (λ e. value e s) es)
  unfolding expressions_after after_branch after_statement
  values_after s [] es = refl
  values_after s (c ∷ cs) es =
      values_after s cs (store c.targets (map (substitute es) c.values) es)
      ∙ ap (after_branch ℚ (λ c. c) cs)
      (map_store (λ e. value e s) c.targets (map (substitute es) c.values) es
      ∙ ap (λ xs. store c.targets xs (map (λ e. value e s) es)) (values_substitute s es c.values))

  length-after : (cs : List (Statement (Expr At))) (es : List (Expr At))
      → length (expressions_after cs es) ≡ length es
  unfolding expressions_after
  length-after [] es = refl
  length-after (c ∷ cs) es = length-after cs (store c.targets (map (substitute es) c.values) es)
      ∙ length-store c.targets (map (substitute es) c.values) es

-- ---- branches
module _ {At : Type 0} (program : Program (Expr At)) where
  abbrev m : ℕ
  m = length program.names

  abbrev k : ℕ
  k = length program.locals

  abbrev before : List (Expr At)
  before = map variable (places m) ++ replicate k (number (pos 0))

  values_before : (s : List Fraction) → IsState program s → map (λ e. value e s) before ≡ s
      ++ replicate k ℚ.zero
  unfolding value_of
  values_before s is =
      map-append (λ (e : Expr At). value e s) (map variable (places m))
      (replicate k (number (pos 0)))
      ∙ ap₂ ◌++◌ (map-map (λ (e : Expr At). value e s) variable (places m) ∙ read_places m s is)
      (zeros k)
    where
      zeros : (j : ℕ) → map (λ (e : Expr At). value e s) (replicate j (number (pos 0)))
          ≡ replicate j ℚ.zero
      zeros zero = refl
      zeros (suc j) = ap (λ l. ℚ.zero ∷ l) (zeros j)

  length-before : length before ≡ m + k
  length-before =
      length-append (map variable (places m)) (replicate k (number (pos 0)))
      ∙ ap₂ ◌+◌ (length-map (places m) variable ∙ length-places m)
      (length-replicate k (number (pos 0)))

  length-values : (cs : List (Statement (Expr At))) → length (take m (expressions_after cs before))
      ≡ m
  length-values cs = length-take-le m (expressions_after cs before) (let l = length-after cs before
      ∙ length-before in omega (arith, l))

  pub in_one_effect : (cs : List (Statement (Expr At))) (s : List Fraction) → IsState program s
      → effect (without_locals program) (in_one program cs) s ≡ effect program cs s
  unfolding after_branch after_statement
  in_one_effect cs s is =
      no_local_names (without_locals program) (in_one program cs) s refl is
      ∙ store_whole m (map (λ e. value e s) (take m (expressions_after cs before))) s
      (length-map (take m (expressions_after cs before)) (λ e. value e s) ∙ length-values cs) is
      ∙ sym (take-map (λ e. value e s) m (expressions_after cs before))
      ∙ ap (take m) (values_after s cs before
      ∙ ap (after_branch ℚ (λ c. c) cs) (values_before s is))

  -- ---- runs
  branches_in_one : (b : ℕ) → branch_at (without_locals program) b ≡ option_map (in_one program)
      (branch_at program b)
  unfolding branch_at
  branches_in_one zero = refl
  branches_in_one (suc b) = slice_get-map (in_one program) program.branches b

  pub run_without : (word : List ℕ) (s : List Fraction) → IsState program s
      → run_end (without_locals program) word s ≡ run_end program word s
  unfolding run_end
  run_without [] s is = refl
  run_without (b ∷ word) s is =
      ap (option_and_then (λ branch. run_end (without_locals program) word
      (effect (without_locals program) branch s))) (branches_in_one b)
      ∙ go (branch_at program b) (λ branch. run_without word (effect program branch s)
      (effect_keeps_state program branch s is))
    where
      go : (o : Option (List (Statement (Expr At)))) → ((branch : List (Statement (Expr At)))
          → run_end (without_locals program) word (effect program branch s) ≡ run_end program word
          (effect program branch s))
          → option_and_then (λ branch. run_end (without_locals program) word
          (effect (without_locals program) branch s)) (option_map (in_one program) o)
          ≡ option_and_then (λ branch. run_end program word (effect program branch s)) o
      go None h = refl
      go (Some branch) h = ap (run_end (without_locals program) word) (in_one_effect branch s is)
          ∙ h branch

  pub invariants_without : (p : Terms Fraction) → Inv program p ↔ Inv (without_locals program) p
  invariants_without p = (
    (λ i. record {
      arity = i.arity;
      zero =
          λ r. i.zero (record {
            start = r.start;
            word = r.word;
            end = r.end;
            is_start = there r.start r.is_start;
            is_end = sym (run_without r.word r.start r.is_start.state)
                ∙ r.is_end;
          });
    }),
    (λ i. record {
      arity = i.arity;
      zero =
          λ r. i.zero (record {
            start = r.start;
            word = r.word;
            end = r.end;
            is_start = here r.start r.is_start;
            is_end = run_without r.word r.start r.is_start.state
                ∙ r.is_end;
          });
    }),
  )
    where
      there : (s : List Fraction) → IsStart (without_locals program) s → IsStart program s
      there s is = record { state = is.state; holds = is.holds }

      here : (s : List Fraction) → IsStart program s → IsStart (without_locals program) s
      here s is = record { state = is.state; holds = is.holds }

-- ---- well-formed programs
none_below : (is : List ℕ) → All (λ y. y ≢ zero) (map suc is)
none_below [] = All-nil _
none_below (i ∷ is) = All-cons (λ y. y ≢ zero) (suc i) (map suc is) (λ e. omega (arith, e))
    (none_below is)

distinct_behind : (is : List ℕ) → AreDistinct is → AreDistinct (map suc is)
unfolding AreDistinct
distinct_behind [] h = tt
distinct_behind (i ∷ is) h = (
  All-map (λ y. y ≢ suc i) suc is (All-weaker (λ y. y ≢ i) (λ y. suc y ≢ suc i) (λ y n e.
      n (omega (arith, e))) is h.0),
  distinct_behind is h.1,
)

distinct_places : (m : ℕ) → AreDistinct (places m)
unfolding AreDistinct places
distinct_places zero = tt
distinct_places (suc m) = (none_below (places m), distinct_behind (places m) (distinct_places m))

all_places : (m : ℕ) → All (λ i. i < m) (places m)
unfolding places
all_places zero = All-nil _
all_places (suc m) = All-cons (λ i. i < suc m) zero (map suc (places m)) (omega arith)
    (All-map (λ i. i < suc m) suc (places m) (All-weaker (λ i. i < m) (λ i. suc i < suc m) (λ i h.
    omega (arith, h)) (places m) (all_places m)))

module _ {At : Type 0} (P : ℕ → Type 0) where
  all_uses : (es : List (Expr At)) (i : ℕ) → All (Uses P) es → Uses P (get_or es i (number (pos 0)))
  unfolding Uses
  all_uses [] i h = tt
  all_uses (e ∷ es) zero h = All-head (Uses P) e es h
  all_uses (e ∷ es) (suc i) h = all_uses es i (All-tail (Uses P) e es h)

  uses_substitute : (Q : ℕ → Type 0) (es : List (Expr At)) (e : Expr At) → All (Uses P) es
      → Uses Q e → Uses P (substitute es e)
  unfolding Uses substitute
  uses_substitute Q es (number n) h u = tt
  uses_substitute Q es (variable i) h u = all_uses es i h
  uses_substitute Q es (neg at e) h u = uses_substitute Q es e h u
  uses_substitute Q es (add at e f) h u = (
    uses_substitute Q es e h u.0,
    uses_substitute Q es f h u.1,
  )
  uses_substitute Q es (sub at e f) h u = (
    uses_substitute Q es e h u.0,
    uses_substitute Q es f h u.1,
  )
  uses_substitute Q es (mul at e f) h u = (
    uses_substitute Q es e h u.0,
    uses_substitute Q es f h u.1,
  )
  uses_substitute Q es (divide at e n) h u = (uses_substitute Q es e h u.0, u.1)
  uses_substitute Q es (power at e n) h u = uses_substitute Q es e h u

  uses_stored : (is : List ℕ) (xs es : List (Expr At)) → All (Uses P) xs → All (Uses P) es
      → All (Uses P) (store is xs es)
  unfolding store
  uses_stored [] xs es h k = k
  uses_stored (i ∷ is) [] es h k = k
  uses_stored (i ∷ is) (x ∷ xs) es h k = uses_stored is xs (set es i x) (All-tail (Uses P) x xs h)
      (All-set (Uses P) es i x (All-head (Uses P) x xs h) k)

  uses_after : (n : ℕ) (cs : List (Statement (Expr At))) (es : List (Expr At))
      → All (IsStatement n) cs → All (Uses P) es → All (Uses P) (expressions_after cs es)
  unfolding expressions_after
  uses_after n [] es w h = h
  uses_after n (c ∷ cs) es w h =
      uses_after n cs (store c.targets (map (substitute es) c.values) es)
      (All-tail (IsStatement n) c cs w)
      (uses_stored c.targets (map (substitute es) c.values) es
      (All-map (Uses P) (substitute es) c.values (All-weaker (Uses (λ i. i < n)) (λ (e : Expr At).
      Uses P (substitute es e)) (λ e u. uses_substitute (λ i. i < n) es e h u) c.values
      (All-head (IsStatement n) c cs w).values)) h)

module _ {At : Type 0} (program : Program (Expr At)) where
  one_statement : 0 < length program.names → (cs : List (Statement (Expr At)))
      → All (IsStatement (length program.names + length program.locals)) cs
      → All (IsStatement (length program.names)) (in_one program cs)
  unfolding Uses
  one_statement some cs w = All-cons (IsStatement m) c [] (record {
    some_target = let l = length-places m in omega (arith, l, some);
    sizes = length-places m ∙ sym (length-values program cs);
    targets = all_places m;
    distinct = distinct_places m;
    values = All-take (Uses (λ i. i < m)) m (expressions_after cs before)
        (uses_after (λ i. i < m) (m + k) cs before w all_before);
  }) (All-nil _)
    where
      m : ℕ
      m = length program.names

      k : ℕ
      k = length program.locals

      before : List (Expr At)
      before = map variable (places m) ++ replicate k (number (pos 0))

      c : Statement (Expr At)
      c = record { targets = places m; values = take m (expressions_after cs before) }

      all_before : All (Uses (λ i. i < m)) before
      all_before = All-append (Uses (λ i. i < m)) (map variable (places m))
          (replicate k (number (pos 0)))
          (All-map (Uses (λ i. i < m)) variable (places m) (all_places m))
          (All-replicate (Uses (λ i. i < m)) k (number (pos 0)) tt)

  pub formed_without : 0 < length program.names → IsWellFormed program
      → IsWellFormed (without_locals program)
  formed_without some w = record {
    set_once = w.set_once;
    set = w.set;
    free = w.free;
    some_branch = let l = length-map program.branches (in_one program) in
        let b : 0 < length program.branches = w.some_branch in omega (arith, l, b);
    statements = each (All (IsStatement (length program.names + 0))) (λ cs h.
        subst (λ n. All (IsStatement n) (in_one program cs)) (omega arith)
        (one_statement some cs h));
    set_first = each (SetsFirst (local_places (length program.names) 0)) (λ cs h.
        sets_no_locals (length program.names) (length program.names) (in_one program cs)
        (one_statement some cs h));
  }
    where
      each : (P : List (Statement (Expr At)) → Type 0) → ((cs : List (Statement (Expr At)))
          → All (IsStatement (length program.names + length program.locals)) cs
          → P (in_one program cs)) → All P (map (in_one program) program.branches)
      each P h = All-map P (in_one program) program.branches
          (All-weaker (All (IsStatement (length program.names + length program.locals)))
          (λ cs. P (in_one program cs)) h program.branches w.statements)
