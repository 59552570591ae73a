-- The start map, equation by equation.
--   Begun m xs ps           ps stand for the values at a start with the equations xs alone, and no operation that forms them passes a limit
--   begun_none, begun_more, begun_all
--   begun_stop              a stop at one of them
--   start_stands, start_free, start_stops     the start map of a loop
--   equation_var, equation_uses               an equation of it
use Rattle.std.proofs.Common.{◌≡◌, ℕ, ◌<◌, ◌≤◌, ◌+◌, List, [], ◌∷◌, ◌++◌, get_or, set as put, take, drop, map, length, arith, refl, sym, ap, ap₂, subst, ◌∙◌, take-append-drop, All, ◌≢◌}
use Rattle.std.proofs.lemmas.List.{take_more, take_all, map_push, map-append, length-map, get_or-map}
use Rattle.std.proofs.lemmas.List.Elements.{All-append}
use Rattle.algebra.specs.Fraction.{Fraction, ℚ}
use Rattle.polynomials.specs.Terms.{Terms, constant, variables, lists}
use Rattle.loops.specs.Program as program
use Rattle.loops.specs.Effect.{store, init_statement, value_of, after_statement, start_from}
use Rattle.loops.specs.Map.{start_map}
use Rattle.loops.specs.WellFormed.{Uses}
use Rattle.loops.proofs.Effects.{store-push, length-store}
use Rattle.loops.proofs.Maps.{length-variables}
use Rattle.loops.proofs.Starts.{uses_weaker}
use Rattle.poly.specs.Seen.{terms_each}
use Rattle.poly.specs.Standing.{StandsFor, AllStandFor}
use Rattle.poly.proofs.Standing.{stands_set, stands_length}
use Rattle.loop_model.specs.FracPoly.{FracPoly}
use Rattle.loop_model.specs.ExpressionView.{expr_of}
use Rattle.loop_model.specs.Operations.{Operation, operations, operations_all, value, IsFree, PassesLimit}
use Rattle.loop_model.specs.Stops.{Stops}
use Rattle.loop_model.specs.declared.map_error.MapError.{MapError}
use Rattle.loop_model.proofs.OperationLaws.{stops_front, stops_behind}
use Rattle.loop_model.proofs.FormedLaws.{operations_all-append, operations_all-push}
use Rattle.loop_model.specs.Parts.{equation_of}
use Rattle.loop_model.specs.View.{program_of}
use Rattle.loop_model.specs.Maps.{start_operations}
use Rattle.loop_model.specs.declared.statement.Init.{Init}
use Rattle.loop_model.specs.declared.loop_.Loop.{Loop}
use Rattle.loop_model.proofs.Formed.{formed}
use Rattle.loop_model.proofs.StateLaws.{formed_value, formed_free, formed_stop}

abbrev Equation : Type 0
Equation = program.Equation (program.Expr ℕ)

-- ---- the equations in turn, in m variables
module _ (m : ℕ) where
  abbrev pub first : List (Terms Fraction)
  first = variables ℚ m

  abbrev pub value_at : Init → Terms Fraction
  value_at x = value m first (expr_of x.value)

  abbrev pub started : List Init → List (Terms Fraction)
  started xs = store (map (λ (x : Init). x.var) xs) (map value_at xs) first

  abbrev pub ops : List Init → List Operation
  ops xs = operations_all m first (map (λ (x : Init). expr_of x.value) xs)

  pub record Begun (xs : List Init) (ps : List FracPoly) : Type 0 where
    pub stands : AllStandFor m ps (started xs)
    pub free : IsFree m (ops xs)

  pub begun_none : (xs : List Init) (ps : List FracPoly) → AllStandFor m ps first
      → Begun (take 0 xs) ps
  unfolding store operations_all
  begun_none xs ps h = record { stands = h; free = λ k d l. absurd (omega arith) }

  pub begun_length : (xs : List Init) (ps : List FracPoly) → Begun xs ps → length ps ≡ m
  begun_length xs ps h = stands_length m ps (started xs) h.stands
      ∙ length-store (map (λ (x : Init). x.var) xs) (map value_at xs) first ∙ length-variables m

  -- the equation x stands at the place i, and its right side is computed at `free`
  module _ (xs : List Init) (i : ℕ) (x : Init) (within : i < length xs) (is : x ≡ get_or xs i x)
      (free : List FracPoly) (h : AllStandFor m free first) (n : ℕ) (arity : n ≡ m) where
    more : take (i + 1) xs ≡ take i xs ++ x ∷ []
    more = take_more xs i x within ∙ ap (λ (y : Init). take i xs ++ y ∷ []) (sym is)

    same_counts : (ys : List Init) → length (map (λ (y : Init). y.var) ys)
        ≡ length (map value_at ys)
    same_counts ys = length-map ys (λ (y : Init). y.var) ∙ sym (length-map ys value_at)

    more_started : started (take (i + 1) xs) ≡ put (started (take i xs)) x.var (value_at x)
    more_started =
        ap started more
        ∙ ap₂ (λ is ys. store is ys first) (map_push (λ (y : Init). y.var) (take i xs) x)
        (map_push value_at (take i xs) x)
        ∙ store-push (map (λ (y : Init). y.var) (take i xs)) (map value_at (take i xs)) first x.var
        (value_at x) (same_counts (take i xs))

    more_operations : ops (take (i + 1) xs) ≡ ops (take i xs) ++ operations m first
        (expr_of x.value)
    more_operations =
        ap ops more ∙ ap (operations_all m first) (map_push (λ (y : Init). expr_of y.value)
        (take i xs)
        x)
        ∙ operations_all-push m first (map (λ (y : Init). expr_of y.value) (take i xs))
        (expr_of x.value)

    pub begun_more : (ps : List FracPoly) (p : FracPoly) → Begun (take i xs) ps
        → StandsFor n p (value n (terms_each free) (expr_of x.value))
        → IsFree n (operations n (terms_each free) (expr_of x.value))
        → Begun (take (i + 1) xs) (put ps x.var p)
    begun_more ps p b k f = record {
      stands = subst (AllStandFor m (put ps x.var p)) (sym more_started)
          (stands_set m ps (started (take i xs)) x.var p (value_at x) b.stands
          (formed_value m free first h n arity (expr_of x.value) p k));
      free = subst (IsFree m) (sym more_operations) (All-append (λ o. ¬ (PassesLimit m o))
          (ops (take i xs)) (operations m first (expr_of x.value)) b.free
          (formed_free m free first h n arity (expr_of x.value) f));
    }

    pub begun_stop : (ps : List FracPoly) (e : MapError) → Begun (take i xs) ps
        → Stops n (operations n (terms_each free) (expr_of x.value)) e → Stops m (ops xs) e
    begun_stop ps e b k =
        let here : Stops m (ops (take (i + 1) xs)) e =
        subst (λ os. Stops m os e) (sym more_operations)
        (stops_behind m (ops (take i xs)) (operations m first (expr_of x.value)) e b.free
        (formed_stop m free first h n arity (expr_of x.value) e k)) in
        let both : ops (take (i + 1) xs) ++ ops (drop (i + 1) xs) ≡ ops xs =
        sym (operations_all-append m first (map (λ (y : Init). expr_of y.value) (take (i + 1) xs))
        (map (λ (y : Init). expr_of y.value) (drop (i + 1) xs)))
        ∙ ap (operations_all m first)
        (sym (map-append (λ (y : Init). expr_of y.value) (take (i + 1) xs) (drop (i + 1) xs))
        ∙ ap (map (λ (y : Init). expr_of y.value)) (take-append-drop (i + 1) xs)) in
        subst (λ os. Stops m os e) both (stops_front m (ops (take (i + 1) xs))
        (ops (drop (i + 1) xs)) e here)

  pub begun_all : (xs : List Init) (i : ℕ) (ps : List FracPoly) → length xs ≤ i
      → Begun (take i xs) ps → Begun xs ps
  begun_all xs i ps l h = subst (λ ys. Begun ys ps) (take_all i xs l) h

  -- ---- the equations of a program
  names_of : (xs : List Init) → map (λ (e : Equation). e.name) (map equation_of xs)
      ≡ map (λ (x : Init). x.var) xs
  names_of [] = refl
  names_of (x ∷ xs) = ap (λ ys. x.var ∷ ys) (names_of xs)

  values_of : (xs : List Init) → map (value_of (lists ℚ m) (constant m) first)
      (map (λ (e : Equation). e.value) (map equation_of xs)) ≡ map value_at xs
  values_of [] = refl
  values_of (x ∷ xs) = ap (λ ys. value_at x ∷ ys) (values_of xs)

  rights_of : (xs : List Init) → map (λ (e : Equation). e.value) (map equation_of xs)
      ≡ map (λ (x : Init). expr_of x.value) xs
  rights_of [] = refl
  rights_of (x ∷ xs) = ap (λ ys. expr_of x.value ∷ ys) (rights_of xs)

  pub started_is : (xs : List Init) (p : program.Program (program.Expr ℕ))
      → p.init ≡ map equation_of xs → start_from (lists ℚ m) (constant m) p first ≡ started xs
  unfolding start_from after_statement init_statement
  started_is xs p e =
      ap (λ (es : List Equation). store (map (λ (e : Equation). e.name) es)
      (map (value_of (lists ℚ m) (constant m) first) (map (λ (e : Equation). e.value) es))
      first) e
      ∙ ap₂ (λ is ys. store is ys first) (names_of xs) (values_of xs)

-- ---- of a loop
module _ (lp : Loop) (xs : List Init) (same : map equation_of xs ≡ map equation_of
    lp.start.items) where
  abbrev count : ℕ
  count = length lp.names

  pub start_stands : (ps : List FracPoly) → Begun count xs ps
      → AllStandFor count ps (start_map (program_of lp))
  unfolding start_map
  start_stands ps h =
      subst (AllStandFor count ps) (sym (started_is count xs (program_of lp) (sym same))) h.stands

  operations_are : start_operations (program_of lp) ≡ ops count xs
  operations_are = ap (operations_all count (first count)) (ap (map (λ (e : Equation). e.value))
      (sym same) ∙ rights_of count xs)

  pub start_free : (ps : List FracPoly) → Begun count xs ps
      → IsFree count (start_operations (program_of lp))
  start_free ps h = subst (IsFree count) (sym operations_are) h.free

  pub start_stops : (e : MapError) → Stops count (ops count xs) e
      → Stops count (start_operations (program_of lp)) e
  start_stops e h = subst (λ os. Stops count os e) (sym operations_are) h

  module _ (i : ℕ) (x : Init) (within : i < length xs) (is : x ≡ get_or xs i x) where
    -- what holds of each equation holds of x
    at_equation : (P : Equation → Type 0) → All P (program_of lp).init → P (equation_of x)
    at_equation P h =
        let here : All P (map equation_of xs) = subst (All P) (sym same) h in
        subst P (get_or-map equation_of xs i x (equation_of x) within ∙ ap equation_of (sym is))
        (here i (equation_of x) (omega (arith, length-map xs equation_of)))

    pub equation_var : x.var < count
    equation_var = at_equation (λ e. e.name < count) (formed lp).set

    pub equation_uses : (n : ℕ) → n ≡ count → Uses (λ i. i < n) (expr_of x.value)
    equation_uses n e = uses_weaker _ (λ i. i < n) (λ i h. let l : i < count = h.0 in omega arith)
        (expr_of x.value)
        (at_equation (λ e. Uses (λ i. (i < count)
        × All (λ (f : Equation). i ≢ f.name) (program_of lp).init) e.value)
        (formed lp).free)
