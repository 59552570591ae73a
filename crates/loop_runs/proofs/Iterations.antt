-- One iteration of each loop of a replay: what was found so far is kept apart from what is left.
--   start_holds, start_wide     the first equation of a start: it holds, and the others decide, or its value doesn't fit
--   same_number_decides         the test whether two fractions are the same decides it
--   drop_read                   a list from a place on: the element there, and the list behind it
--   store_end                   nothing is written where no variable or no value is left
--   written_back                a list that is written over another of its length is what stands there then
--   replayed_start              a replay whose start is at fault answers that fault
use Rattle.std.proofs.Common.{◌≡◌, ◌∙◌, sym, ap, ap₂, refl, ℕ, zero, suc, ◌+◌, ◌≤◌, add-one, ◌<◌, Bool, true, false, not, ◌&&◌, drop, take, All, arith, List, [], ◌∷◌, ◌++◌, length, get_or, map, replicate, Option, Some, None, Result, Ok, Err, ⊎_elim, ◌⊎◌, ◌≢◌, eq-eqb}
use Rattle.std.specs.Prelude.{ok_or}
use Rattle.std.proofs.lemmas.Bool.{eqb-true, and_parts, and_from, false_from_ne_true}
use Rattle.std.specs.Prelude.{◌==◌, option_map, IfSome, Decides, if◌then◌else◌}
use Rattle.std.specs.Option.{option_map_or}
use Rattle.std.proofs.lemmas.Bool.Decides.{Decides-int_eq, Decides-eqb}
use Rattle.std.specs.Ordering.{int_eq}
use Rattle.std.proofs.lemmas.List.{append_assoc, append-nil, map-append, take-map, drop_more, drop_all, take_all}
use Rattle.loop_model.specs.ExpressionView.{expr_of}
use Rattle.loop_model.specs.declared.expr.Expr as code
use Rattle.algebra.specs.Ratio.{ratio}
use Rattle.algebra.specs.Fraction.{Fraction, ℚ}
use Rattle.algebra.proofs.Fractions.{same_fraction}
use Rattle.loops.specs.Program.{Expr, Equation, Statement, Program}
use Rattle.loops.specs.Run.{branch_at}
use Rattle.loops.specs.Effect.{store}
use Rattle.loops.proofs.Effects.{length-store}
use Rattle.frac128.specs.FracMeaning.{fraction_of, fraction_decides, frac_eq_is}
use Rattle.frac128.specs.declared.fraction.Frac.{Frac}
use Rattle.loop_runs.specs.Checked.{checked_value}
use Rattle.loop_runs.specs.Seen.{numbers_of, fault_of, IsWithin}
use Rattle.loop_runs.specs.declared.error.RunError.{RunError}
use Rattle.loop_runs.specs.declared.error.RunError.TheVariants as run_error
use Rattle.loop_runs.specs.Replay.{RunFault, wide, start, count, no_branch, states_from, replay_of, and_then, same_number, start_fault, values, statement_end, branch_end, iteration_end}
use Rattle.loop_runs.proofs.Fits.{all_unmapped}
use Rattle.loops.proofs.Substitution.{map_store}

-- a value that was found, before those that are left
pushed : {A : Type 0} (ys : List A) (x : A) (r : Result (List A) RunFault)
    → and_then (λ xs. Ok (ys ++ xs)) (and_then (λ xs. Ok (x ∷ xs)) r) ≡ and_then
    (λ xs. Ok ((ys ++ x ∷ []) ++ xs)) r
pushed ys x (Ok xs) = ap Ok (sym (append_assoc ys (x ∷ []) xs))
pushed ys x (Err e) = refl

module _ {At : Type 0} (i : ℕ) (s : List Fraction) where
  abbrev pub ValuesLeft : Result (List Fraction) RunFault → List Fraction → List ℕ → List (Expr At)
      → Type 0
  ValuesLeft all found vs es = all ≡ and_then (λ xs. Ok (found ++ xs)) (values i vs es s)

  pub values_more : (all : Result (List Fraction) RunFault) (found : List Fraction) (v : ℕ)
      (vs : List ℕ) (e : Expr At) (es : List (Expr At)) (x : Fraction)
      → ValuesLeft all found (v ∷ vs) (e ∷ es) → Some x ≡ checked_value e s
      → ValuesLeft all (found ++ x ∷ []) vs es
  unfolding values
  values_more all found v vs e es x h is =
      h ∙ ap (λ o. and_then (λ xs. Ok (found ++ xs))
      (and_then (λ y. and_then (λ xs. Ok (y ∷ xs)) (values i vs es s)) (ok_or o (wide i v))))
      (sym is) ∙ pushed found x (values i vs es s)

  pub values_wide : (all : Result (List Fraction) RunFault) (found : List Fraction) (v : ℕ)
      (vs : List ℕ) (e : Expr At) (es : List (Expr At))
      → ValuesLeft all found (v ∷ vs) (e ∷ es) → None ≡ checked_value e s → Err (wide i v) ≡ all
  unfolding values
  values_wide all found v vs e es h is =
      sym (h ∙ ap (λ o. and_then (λ xs. Ok (found ++ xs))
      (and_then (λ y. and_then (λ xs. Ok (y ∷ xs)) (values i vs es s))
      (ok_or o (wide i v)))) (sym is))

  pub values_end : (all : Result (List Fraction) RunFault) (found : List Fraction) (vs : List ℕ)
      (es : List (Expr At))
      → ValuesLeft all found vs es → (vs ≡ []) ⊎ (es ≡ []) → Ok found ≡ all
  unfolding values
  values_end all found [] es h e = sym (h ∙ ap Ok (append-nil found))
  values_end all found (v ∷ vs) [] h e = sym (h ∙ ap Ok (append-nil found))
  values_end all found (v ∷ vs) (e ∷ es) h k = absurd (⊎_elim (λ q. cc) (λ q. cc) k)

pub store_end : {A : Type 0} (vs : List ℕ) (xs s : List A) → (vs ≡ []) ⊎ (xs ≡ [])
    → store vs xs s ≡ s
unfolding store
store_end [] xs s e = refl
store_end (v ∷ vs) [] s e = refl
store_end (v ∷ vs) (x ∷ xs) s e = absurd (⊎_elim (λ q. cc) (λ q. cc) e)

-- ---- equations of a start, one after another
pub same_number_decides : (p q : Fraction) → Decides (same_number p q) (p ≡ q)
same_number_decides p q = (
  (λ e. let (n, d) = and_parts _ _ e in
      same_fraction p q (ap₂ ratio ((Decides-int_eq p.num q.num).0 n)
      ((Decides-eqb p.den q.den).0 d))),
  (λ e. and_from _ _ ((Decides-int_eq p.num q.num).1 (ap (λ (a : Fraction). a.num) e))
      ((Decides-eqb p.den q.den).1 (ap (λ (a : Fraction). a.den) e))),
)

module _ {At : Type 0} (e : Equation (Expr At)) (es : List (Equation (Expr At)))
    (s : List Fraction) where
  pub start_wide : None ≡ checked_value e.value s → start_fault (e ∷ es) s ≡ Some (wide 0 e.name)
  unfolding start_fault
  start_wide h = ap (λ o. option_map_or (λ x. if same_number x (get_or s e.name ℚ.zero)
      then start_fault es s else Some (start e.name)) o (Some (wide 0 e.name))) (sym h)

  start_test : (x : Fraction) (b : Bool) → Some x ≡ checked_value e.value s
      → same_number x (get_or s e.name ℚ.zero) ≡ b → start_fault (e ∷ es) s ≡ (if b
      then start_fault es s else Some (start e.name))
  unfolding start_fault
  start_test x b h t =
      ap (λ o. option_map_or (λ x. if same_number x (get_or s e.name ℚ.zero) then start_fault es s
      else Some (start e.name)) o (Some (wide 0 e.name))) (sym h)
      ∙ ap (λ c. if c then start_fault es s else Some (start e.name)) t

  pub start_holds : (x : Fraction) → Some x ≡ checked_value e.value s → x ≡ get_or s e.name ℚ.zero
      → start_fault (e ∷ es) s ≡ start_fault es s
  start_holds x h k = start_test x true h ((same_number_decides x (get_or s e.name ℚ.zero)).1 k)

  pub start_fails : (x : Fraction) → Some x ≡ checked_value e.value s → x ≢ get_or s e.name ℚ.zero
      → start_fault (e ∷ es) s ≡ Some (start e.name)
  start_fails x h k =
      start_test x false h (false_from_ne_true _
      (λ t. k ((same_number_decides x (get_or s e.name ℚ.zero)).0 t)))

-- ---- what was read
pub drop_read : {X : Type 0} (xs : List X) (i : ℕ) (x : X) → i < length xs → x ≡ get_or xs i x
    → drop i xs ≡ x ∷ drop (i + 1) xs
drop_read xs i x h e = drop_more xs i x h ∙ ap (λ y. y ∷ drop (i + 1) xs) (sym e)

abbrev fracs_equal : Frac → Frac → Bool
fracs_equal x y = int_eq x.num.value y.num.value && int_eq x.den.value y.den.value

pub same_meaning : (x y : Frac) → false ≡ not (fracs_equal x y) → fraction_of x ≡ fraction_of y
same_meaning x y h = ap fraction_of ((frac_eq_is x y).0 (go (fracs_equal x y) h))
  where
    go : (b : Bool) → false ≡ not b → b ≡ true
    go true e = refl
    go false e = absurd (cc)

pub other_meaning : (x y : Frac) → true ≡ not (fracs_equal x y) → fraction_of x ≢ fraction_of y
other_meaning x y h e = let k : fracs_equal x y ≡ true =
    (frac_eq_is x y).1 (fraction_decides x y e) in let no : true ≡ false = h ∙ ap not k in cc

-- ---- statements of a branch, one after another
pub branch_more : {At : Type 0} (i : ℕ) (c : Statement (Expr At)) (cs : List (Statement (Expr At)))
    (s t : List Fraction) → Ok t ≡ statement_end i c s → branch_end i (c ∷ cs) s ≡ branch_end i cs t
unfolding branch_end
branch_more i c cs s t h = ap (and_then (branch_end i cs)) (sym h)

pub branch_stops : {At : Type 0} (i : ℕ) (c : Statement (Expr At)) (cs : List (Statement (Expr At)))
    (s : List Fraction) (f : RunFault) → Err f ≡ statement_end i c s → branch_end i (c ∷ cs) s
    ≡ Err f
unfolding branch_end
branch_stops i c cs s f h = ap (and_then (branch_end i cs)) (sym h)

map_replicate : {A B : Type 0} (f : A → B) (k : ℕ) (x : A)
    → map f (replicate k x) ≡ replicate k (f x)
map_replicate f zero x = refl
map_replicate f (suc k) x = ap (λ xs. f x ∷ xs) (map_replicate f k x)

-- ---- the variables behind a branch
-- zeros stands for k local names behind the variables xs, which the code writes in two steps
pub iteration_read : {At : Type 0} (m k i : ℕ) (cs : List (Statement (Expr At))) (s : List Fraction)
    (whole after cut : List Frac) → numbers_of whole ≡ s ++ replicate k ℚ.zero
    → Ok (numbers_of after) ≡ branch_end i cs (numbers_of whole) → cut ≡ take m after
    → Ok (numbers_of cut) ≡ iteration_end m k i cs s
unfolding iteration_end
iteration_read m k i cs s whole after cut h e c =
    ap (λ xs. Ok (numbers_of xs)) c ∙ ap Ok (sym (take-map fraction_of m after))
    ∙ ap (and_then (λ t. Ok (take m t))) (e ∙ ap (branch_end i cs) h)

pub iteration_stops : {At : Type 0} (m k i : ℕ) (cs : List (Statement (Expr At)))
    (s : List Fraction)
    (whole : List Frac) (f : RunFault) → numbers_of whole ≡ s ++ replicate k ℚ.zero
    → Err f ≡ branch_end i cs (numbers_of whole) → Err f ≡ iteration_end m k i cs s
unfolding iteration_end
iteration_stops m k i cs s whole f h e = ap (and_then (λ t. Ok (take m t))) (e
    ∙ ap (branch_end i cs) h)

-- the variables, and zeros for the local names
pub padded : (n j k : ℕ) (xs whole : List Frac) (filler : Frac) → length xs ≤ n → j ≡ k
    → fraction_of filler ≡ ℚ.zero → whole ≡ take n xs ++ replicate j filler
    → numbers_of whole ≡ numbers_of xs ++ replicate k ℚ.zero
padded n j k xs whole filler l e z is =
    ap numbers_of (is ∙ ap₂ (λ a b. a ++ replicate b filler) (take_all n xs l) e)
    ∙ map-append fraction_of xs (replicate k filler)
    ∙ ap (λ ys. numbers_of xs ++ ys) (map_replicate fraction_of k filler ∙ ap (replicate k) z)

-- ---- what a `?` passes on
pub passes_on : {A B : Type 0} (e : RunError) (x : Result A RunFault) (y : Result B RunFault)
    → IfSome (option_map Err (fault_of e)) (λ r. r ≡ x)
    → ((f : RunFault) → Err f ≡ x → Err f ≡ y) → IfSome (option_map Err (fault_of e)) (λ r. r ≡ y)
passes_on {A} {B} e x y h k = go (fault_of e) h
  where
    go : (o : Option RunFault) → IfSome (option_map Err o) (λ (r : Result A RunFault). r ≡ x)
        → IfSome (option_map Err o) (λ (r : Result B RunFault). r ≡ y)
    go None h = tt
    go (Some f) h = k f h

-- ---- right sides of a statement
pub all_sides : (P : Expr ℕ → Type 0) (es : List code.Expr) → All P (map expr_of es)
    → All (λ e. P (expr_of e)) es
all_sides P es h = all_unmapped P expr_of es h

-- what a borrowed list leaves in its owner
pub written_back : {A : Type 0} (n : ℕ) (xs ys : List A) → length xs ≡ n → length ys ≡ n
    → take n (xs ++ drop (length xs) ys) ≡ xs
written_back n xs ys h k = rw (drop_all (length xs) ys (omega arith), append-nil)
    (take_all n xs (omega arith))

pub after_store : {At : Type 0} (n i : ℕ) (vs : List ℕ) (es : List (Expr At)) (xs s t : List Frac)
    → length s ≡ n → Ok (numbers_of xs) ≡ values i vs es (numbers_of s) → t ≡ store vs xs s
    → Ok (numbers_of (take n (t ++ drop (length t) s))) ≡ statement_end i
    (record { targets = vs; values = es }) (numbers_of s)
after_store n i vs es xs s t l v e =
    ap (λ u. Ok (numbers_of u)) (written_back n t s (ap length e ∙ length-store vs xs s ∙ l) l ∙ e)
    ∙ ap Ok (map_store fraction_of vs xs s) ∙ ap (and_then (λ ys. Ok (store vs ys (numbers_of s))))
    v

-- ---- letters of a word, one after another
module _ {At : Type 0} (program : Program (Expr At)) where
  abbrev pub StatesLeft : Result (List (List Fraction)) RunFault → List (List Fraction) → ℕ → List ℕ
      → List Fraction → Type 0
  StatesLeft all found i word s = all ≡ and_then (λ ts. Ok (found ++ ts))
      (states_from program i word s)

  states_step : (i b : ℕ) (word : List ℕ) (branch : List (Statement (Expr At))) (s : List Fraction)
      (r : Result (List Fraction) RunFault)
      → Some branch ≡ branch_at program b
      → r ≡ iteration_end (length program.names) (length program.locals) (i + 1) branch s
      → states_from program i (b ∷ word) s ≡ and_then
      (λ t. and_then (λ ts. Ok (s ∷ ts)) (states_from program (i + 1) word t)) r
  unfolding states_from
  states_step i b word branch s r h e =
      ap (λ o. and_then (λ branch.
      and_then (λ t. and_then (λ ts. Ok (s ∷ ts)) (states_from program (suc i) word t))
      (iteration_end (length program.names) (length program.locals) (suc i) branch s))
      (ok_or o (no_branch i))) (sym h)
      ∙ rw (← add-one)
      (ap (λ x.
      and_then (λ t. and_then (λ ts. Ok (s ∷ ts)) (states_from program (i + 1) word t)) x)
      (sym e))

  pub states_more : (all : Result (List (List Fraction)) RunFault) (found : List (List Fraction))
      (i b : ℕ) (word : List ℕ) (branch : List (Statement (Expr At))) (s t : List Fraction)
      → StatesLeft all found i (b ∷ word) s → Some branch ≡ branch_at program b
      → Ok t ≡ iteration_end (length program.names) (length program.locals) (i + 1) branch s
      → StatesLeft all (found ++ s ∷ []) (i + 1) word t
  states_more all found i b word branch s t left h e =
      left ∙ ap (and_then (λ ts. Ok (found ++ ts))) (states_step i b word branch s (Ok t) h e)
      ∙ pushed found s (states_from program (i + 1) word t)

  pub states_stop : (all : Result (List (List Fraction)) RunFault) (found : List (List Fraction))
      (i b : ℕ) (word : List ℕ) (branch : List (Statement (Expr At))) (s : List Fraction)
      (f : RunFault)
      → StatesLeft all found i (b ∷ word) s → Some branch ≡ branch_at program b
      → Err f ≡ iteration_end (length program.names) (length program.locals) (i + 1) branch s
      → Err f ≡ all
  states_stop all found i b word branch s f left h e =
      sym (left ∙ ap (and_then (λ ts. Ok (found ++ ts))) (states_step i b word branch s (Err f) h
      e))

  pub states_no_branch : (all : Result (List (List Fraction)) RunFault)
      (found : List (List Fraction)) (i b : ℕ) (word : List ℕ) (s : List Fraction)
      → StatesLeft all found i (b ∷ word) s → None ≡ branch_at program b → Err (no_branch i) ≡ all
  unfolding states_from
  states_no_branch all found i b word s left h =
      sym (left
      ∙ ap (λ o. and_then (λ ts. Ok (found ++ ts))
      (and_then (λ branch.
      and_then (λ t. and_then (λ ts. Ok (s ∷ ts)) (states_from program (suc i) word t))
      (iteration_end (length program.names) (length program.locals) (suc i) branch s))
      (ok_or o (no_branch i)))) (sym h))

  pub states_end : (all : Result (List (List Fraction)) RunFault) (found : List (List Fraction))
      (i : ℕ) (s : List Fraction) → StatesLeft all found i [] s → Ok (found ++ s ∷ []) ≡ all
  unfolding states_from
  states_end all found i s left = sym left

-- ---- the whole replay
module _ {At : Type 0} (program : Program (Expr At)) (s : List Fraction) (word : List ℕ) where
  replayed_by : (b : Bool) (o : Option RunFault) → (length s == length program.names) ≡ b
      → start_fault program.init s ≡ o
      → replay_of program s word ≡ (if b then option_map_or Err o (states_from program 0 word s)
      else Err (count (length s) (length program.names)))
  unfolding replay_of
  replayed_by b o h k = rw (h, k) refl

  pub replayed_count : length s ≢ length program.names
      → Err (count (length s) (length program.names)) ≡ replay_of program s word
  replayed_count ne = sym (replayed_by false _ (false_from_ne_true _ (λ e. ne (eqb-true _ _ e)))
      refl)

  pub replayed_start : length s ≡ length program.names → (f : RunFault)
      → Some f ≡ start_fault program.init s → Err f ≡ replay_of program s word
  replayed_start l f e = sym (replayed_by true (Some f) (eq-eqb _ _ l) (sym e))

  pub replayed_on : length s ≡ length program.names → None ≡ start_fault program.init s
      → replay_of program s word ≡ states_from program 0 word s
  replayed_on l e = replayed_by true None (eq-eqb _ _ l) (sym e)

-- a fault of the start, passed on
pub start_passes : {A : Type 0} (e : RunError) (o : Option RunFault) (y : Result A RunFault)
    → fault_of e ≡ o → ((f : RunFault) → Some f ≡ o → Err f ≡ y)
    → IfSome (option_map Err (fault_of e)) (λ r. r ≡ y)
start_passes {A} e o y h k = go (fault_of e) refl
  where
    go : (p : Option RunFault) → fault_of e ≡ p
        → IfSome (option_map Err p) (λ (r : Result A RunFault). r ≡ y)
    go None is = tt
    go (Some f) is = k f (sym is ∙ h)

-- a variable is one of the variables and local names
pub within_more : (m k : ℕ) (e : RunError) → IsWithin m e → IsWithin (m + k) e
within_more m k (run_error.Count values variables) h = tt
within_more m k (run_error.Start var) h = omega (arith, h)
within_more m k (run_error.NoBranch index) h = tt
within_more m k (run_error.Wide step var) h = omega (arith, h)
within_more m k run_error.Memory h = tt
