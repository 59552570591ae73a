-- The map of a branch, statement by statement.
--   zero_stands, entry_none, entry_more     what the names stand for at the entry of a branch: the variables, and 0 for one local name after another
--   Turned m first cs ps    ps stand for the values after the statements cs from first on, and no operation that forms them passes a limit
--   turned_none, turned_more, turned_all
--   turned_length, turned_arity, turned_over     how many they are, and over how many variables
--   turned_stop             a stop at one of them
--   branch_stands, branch_free, branch_stops     the map of a branch of a loop
--   statement_formed        a statement of it
use Rattle.std.proofs.Common.{◌≡◌, ℕ, ◌<◌, ◌≤◌, ◌+◌, zero, suc, List, [], ◌∷◌, ◌++◌, get_or, take, drop, map, replicate, length, arith, refl, sym, ap, ap₂, subst, ◌∙◌, take-append-drop, append_assoc, append-nil, All}
use Rattle.std.specs.Global.{Vec}
use Rattle.std.proofs.lemmas.List.{take_more, take_all, map_push, map-append, length-map, length-append, length-replicate, get_or-map}
use Rattle.std.proofs.lemmas.List.Elements.{All-append}
use Rattle.algebra.specs.Fraction.{Fraction, ℚ}
use Rattle.polynomials.specs.Terms.{Terms, Same, constant, variables, lists}
use Rattle.loops.specs.Program as program
use Rattle.loops.specs.Program.{Expr}
use Rattle.loops.specs.Effect.{after_statement, after_branch}
use Rattle.loops.specs.Map.{branch_map}
use Rattle.loops.specs.WellFormed.{IsStatement}
use Rattle.loops.proofs.Effects.{branch-push, length-branch}
use Rattle.loops.proofs.Maps.{length-variables}
use Rattle.polynomials.proofs.Same.{Same-refl}
use Rattle.poly.specs.Seen.{terms_in, terms_each, arity_of}
use Rattle.poly.specs.Standing.{IsInVariables, StandsFor, AllStandFor}
use Rattle.poly.proofs.Standing.{stands_over, stands_length, stands_push, first_arity}
use Rattle.loop_model.specs.FracPoly.{FracPoly}
use Rattle.loop_model.specs.ExpressionView.{expr_of}
use Rattle.loop_model.specs.Operations.{Operation, operations_all, IsFree, PassesLimit}
use Rattle.loop_model.specs.Stops.{Stops}
use Rattle.loop_model.specs.declared.map_error.MapError.{MapError}
use Rattle.loop_model.proofs.OperationLaws.{stops_front, stops_behind}
use Rattle.loop_model.specs.Parts.{statement_of}
use Rattle.loop_model.specs.View.{program_of}
use Rattle.loop_model.specs.Maps.{statements_operations, branch_operations, entry}
use Rattle.loop_model.specs.declared.statement.Statement.{Statement}
use Rattle.loop_model.specs.declared.loop_.Loop.{Loop}
use Rattle.loop_model.proofs.Formed.{formed}
use Rattle.loop_model.proofs.StateLaws.{after_value, after_free, after_stops}

stands_take : (m n : ℕ) (ps : List FracPoly) (qs : List (Terms Fraction)) → AllStandFor m ps qs
    → AllStandFor m (take n ps) (take n qs)
stands_take m zero ps qs h = tt
stands_take m (suc n) [] [] h = tt
stands_take m (suc n) [] (q ∷ qs) h = absurd h
stands_take m (suc n) (p ∷ ps) [] h = absurd h
stands_take m (suc n) (p ∷ ps) (q ∷ qs) h = (h.0, stands_take m n ps qs h.1)

one_more : {A : Type 0} (k : ℕ) (x : A) → replicate (suc k) x ≡ replicate k x ++ x ∷ []
one_more zero x = refl
one_more (suc k) x = ap (λ xs. x ∷ xs) (one_more k x)

-- ---- what the names stand for at the entry of a branch
module _ (m : ℕ) where
  pub zero_stands : (p : FracPoly) → p.arity ≡ m → terms_in p ≡ [] → StandsFor m p []
  zero_stands p a t = record {
    order = refl;
    arity = a;
    same = subst (λ q. Same ℚ q []) (sym t)
        (Same-refl ℚ []);
  }

  abbrev pub Entered : ℕ → List FracPoly → Type 0
  Entered k ps = AllStandFor m ps (variables ℚ m ++ replicate k [])

  pub entry_none : (ps : List FracPoly) → AllStandFor m ps (variables ℚ m) → Entered 0 ps
  entry_none ps h = subst (AllStandFor m ps) (sym (append-nil (variables ℚ m))) h

  pub entry_more : (k : ℕ) (ps qs : List FracPoly) (p : FracPoly) → Entered k ps → StandsFor m p []
      → qs ≡ ps ++ p ∷ [] → Entered (k + 1) qs
  entry_more k ps qs p h z e =
      let one : k + 1 ≡ suc k = omega arith in
      let next : variables ℚ m ++ replicate (k + 1) [] ≡ (variables ℚ m ++ replicate k []) ++ []
      ∷ [] =
      ap (λ n. variables ℚ m ++ replicate n []) one ∙ ap (λ xs. variables ℚ m ++ xs) (one_more k [])
      ∙ sym (append_assoc (variables ℚ m) (replicate k []) ([] ∷ [])) in
      subst (λ rs. Entered (k + 1) rs) (sym e) (subst (AllStandFor m (ps ++ p ∷ [])) (sym next)
      (stands_push m ps (variables ℚ m ++ replicate k []) p [] h z))

-- ---- the statements in turn, in m variables
module _ (m : ℕ) (first : List (Terms Fraction)) where
  abbrev pub reached : List Statement → List (Terms Fraction)
  reached cs = after_branch (lists ℚ m) (constant m) (map statement_of cs) first

  abbrev pub ops : List Statement → List Operation
  ops cs = statements_operations m (map statement_of cs) first

  pub record Turned (cs : List Statement) (ps : List FracPoly) : Type 0 where
    pub stands : AllStandFor m ps (reached cs)
    pub free : IsFree m (ops cs)

  pub turned_none : (cs : List Statement) (ps : List FracPoly) → AllStandFor m ps first
      → Turned (take 0 cs) ps
  unfolding after_branch statements_operations
  turned_none cs ps h = record { stands = h; free = λ k d l. absurd (omega arith) }

  pub turned_length : (cs : List Statement) (ps : List FracPoly) → Turned cs ps
      → length ps ≡ length first
  turned_length cs ps h = stands_length m ps (reached cs) h.stands
      ∙ length-branch (lists ℚ m) (constant m) (map statement_of cs) first

  pub turned_arity : 0 < length first → (cs : List Statement) (ps : List FracPoly) → Turned cs ps
      → arity_of ps ≡ m
  turned_arity some cs ps h = let l = turned_length cs ps h in
      first_arity m ps (stands_over m ps (reached cs) h.stands) (omega (arith, l, some))

  pub turned_over : 0 < length first → (cs : List Statement) (ps : List FracPoly) → Turned cs ps
      → All (IsInVariables (arity_of ps)) ps
  turned_over some cs ps h = subst (λ k. All (IsInVariables k) ps) (sym (turned_arity some cs ps h))
      (stands_over m ps (reached cs) h.stands)

  -- the operations of two parts of a branch
  operations-append : (cs ds : List (program.Statement (Expr ℕ))) (s : List (Terms Fraction))
      → statements_operations m (cs ++ ds) s ≡ statements_operations m cs s ++ statements_operations
      m ds (after_branch (lists ℚ m) (constant m) cs s)
  unfolding statements_operations after_branch
  operations-append [] ds s = refl
  operations-append (c ∷ cs) ds s =
      let next = after_statement (lists ℚ m) (constant m) c s in
      ap (λ os. operations_all m s c.values ++ os) (operations-append cs ds next)
      ∙ sym (append_assoc (operations_all m s c.values) (statements_operations m cs next)
      (statements_operations m ds (after_branch (lists ℚ m) (constant m) cs next)))

  one_statement : (c : program.Statement (Expr ℕ)) (s : List (Terms Fraction))
      → statements_operations m (c ∷ []) s ≡ operations_all m s c.values
  unfolding statements_operations
  one_statement c s = append-nil (operations_all m s c.values)

  ops-append : (cs ds : List Statement) → ops (cs ++ ds) ≡ ops cs ++ statements_operations m
      (map statement_of ds) (reached cs)
  ops-append cs ds = ap (λ xs. statements_operations m xs first) (map-append statement_of cs ds)
      ∙ operations-append (map statement_of cs) (map statement_of ds) first

  -- the statement c stands at the place i, and is done at ps
  module _ (cs : List Statement) (i : ℕ) (c : Statement) (within : i < length cs)
      (is : c ≡ get_or cs i c) (ps : List FracPoly) (t : Turned (take i cs) ps) (n : ℕ)
      (count : n ≡ m) where
    abbrev rights : List (Expr ℕ)
    rights = map expr_of c.values.items

    more : take (i + 1) cs ≡ take i cs ++ c ∷ []
    more = take_more cs i c within ∙ ap (λ (d : Statement). take i cs ++ d ∷ []) (sym is)

    more_reached : reached (take (i + 1) cs) ≡ after_statement (lists ℚ m) (constant m)
        (statement_of c) (reached (take i cs))
    more_reached = ap reached more ∙ ap (λ xs. after_branch (lists ℚ m) (constant m) xs first)
        (map_push statement_of (take i cs) c)
        ∙ branch-push (lists ℚ m) (constant m) (map statement_of (take i cs)) (statement_of c) first

    more_operations : ops (take (i + 1) cs) ≡ ops (take i cs) ++ operations_all m
        (reached (take i cs)) rights
    more_operations = ap ops more ∙ ops-append (take i cs) (c ∷ [])
        ∙ ap (λ os. ops (take i cs) ++ os) (one_statement (statement_of c) (reached (take i cs)))

    pub turned_more : (rs : List FracPoly)
        → AllStandFor n rs (after_statement (lists ℚ n) (constant n) (statement_of c)
        (terms_each ps)) → IsFree n (operations_all n (terms_each ps) rights)
        → Turned (take (i + 1) cs) rs
    turned_more rs k f = record {
      stands = subst (AllStandFor m rs) (sym more_reached) (after_value m ps (reached (take i cs))
          t.stands n count (statement_of c) rs k);
      free = subst (IsFree m) (sym more_operations) (All-append (λ o. ¬ (PassesLimit m o))
          (ops (take i cs)) (operations_all m (reached (take i cs)) rights) t.free
          (after_free m ps (reached (take i cs)) t.stands n count rights f));
    }

    pub turned_stop : (e : MapError) → Stops n (operations_all n (terms_each ps) rights) e
        → Stops m (ops cs) e
    turned_stop e k =
        let here : Stops m (ops (take (i + 1) cs)) e =
        subst (λ os. Stops m os e) (sym more_operations)
        (stops_behind m (ops (take i cs)) (operations_all m (reached (take i cs)) rights) e t.free
        (after_stops m ps (reached (take i cs)) t.stands n count rights e k)) in
        subst (λ os. Stops m os e) (sym (ops-append (take (i + 1) cs) (drop (i + 1) cs))
        ∙ ap ops (take-append-drop (i + 1) cs))
        (stops_front m (ops (take (i + 1) cs))
        (statements_operations m (map statement_of (drop (i + 1) cs))
        (reached (take (i + 1) cs))) e here)

  pub turned_all : (cs : List Statement) (i : ℕ) (ps : List FracPoly) → length cs ≤ i
      → Turned (take i cs) ps → Turned cs ps
  turned_all cs i ps l h = subst (λ ds. Turned ds ps) (take_all i cs l) h

-- ---- of a loop: b is its branch with this index
module _ (lp : Loop) (bs : List (Vec Statement)) (same : map (λ (b : Vec Statement).
    map statement_of b.items) bs ≡ (program_of lp).branches)
    (index : ℕ) (b : Vec Statement) (there : index < length (program_of lp).branches)
    (is : b ≡ get_or bs index b) (cs : List Statement) (statements : cs ≡ b.items) where
  abbrev count : ℕ
  count = length lp.names

  abbrev first : List (Terms Fraction)
  first = entry (program_of lp)

  abbrev places : ℕ
  places = length lp.names + length lp.locals

  pub length-entry : length (entry (program_of lp)) ≡ length lp.names + length lp.locals
  length-entry = length-append (variables ℚ count) (replicate (length lp.locals) [])
      ∙ ap₂ ◌+◌ (length-variables count) (length-replicate (length lp.locals) [])

  pub some_entry : 0 < length (entry (program_of lp))
  some_entry = let s : 0 < length lp.names = lp.some_name in omega (arith, length-entry, s)

  within : index < length bs
  within = omega (
    arith,
    there,
    ap length same,
    length-map bs (λ (b : Vec Statement).
        map statement_of b.items),
  )

  branch_is : get_or (program_of lp).branches index [] ≡ map statement_of cs
  branch_is = ap (λ xs. get_or xs index []) (sym same)
      ∙ get_or-map (λ (b : Vec Statement). map statement_of b.items) bs index b [] within
      ∙ ap (λ (b : Vec Statement). map statement_of b.items) (sym is)
      ∙ ap (map statement_of) (sym statements)

  pub branch_stands : (ps rs : List FracPoly) (n : ℕ) → n ≡ length lp.names → rs ≡ take n ps
      → Turned count first cs ps
      → AllStandFor count rs (branch_map (program_of lp) (get_or (program_of lp).branches index []))
  unfolding branch_map
  branch_stands ps rs n size cut h =
      subst (λ xs.
      AllStandFor count rs (take count (after_branch (lists ℚ count) (constant count) xs
      first))) (sym branch_is)
      (subst (λ xs. AllStandFor count xs (take count (reached count first cs)))
      (sym (cut ∙ ap (λ k. take k ps) size))
      (stands_take count count ps (reached count first cs) h.stands))

  pub branch_free : (ps : List FracPoly) → Turned count first cs ps
      → IsFree count (branch_operations (program_of lp) (get_or (program_of lp).branches index []))
  branch_free ps h = subst (λ xs. IsFree count (statements_operations count xs first))
      (sym branch_is) h.free

  pub branch_stops : (e : MapError) → Stops count (ops count first cs) e
      → Stops count (branch_operations (program_of lp) (get_or (program_of lp).branches index [])) e
  branch_stops e h = subst (λ xs. Stops count (statements_operations count xs first) e)
      (sym branch_is) h

  pub statement_formed : (i : ℕ) (c : Statement) → i < length cs → c ≡ get_or cs i c → (n : ℕ)
      → n ≡ length (entry (program_of lp)) → IsStatement n (statement_of c)
  statement_formed i c l at n e = subst (λ k. IsStatement k (statement_of c))
      (sym (e ∙ length-entry))
      (subst (IsStatement places) (get_or-map statement_of cs i c (statement_of c) l
      ∙ ap statement_of (sym at))
      (all_here i (statement_of c) (omega (arith, length-map cs statement_of))))
    where
      all_here : All (IsStatement places) (map statement_of cs)
      all_here = subst (All (IsStatement places)) branch_is ((formed lp).statements index [] there)
