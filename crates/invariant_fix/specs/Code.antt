-- The list of code and its elimination, as code makes them.
--   assigned_by b v              the variable v stands on a left side of the statements b
--   place_before m b v           where among the copies and the variables stands what the variable v was before b
--   AreBefore m b ps             the ps are what the variables were before b
--   in_code_order program b g              the element g, of what was, in the order with the copies first
--   put_value program b v f      the variable v less f, of what was, in that order
--   HaveCopies m b hs            each of the hs is in that order, over the copies and the variables
--   IsPastValueOf m b f v        the weight of composing f, or of the difference, is past;  IsPastValue b fs v: where f is that of v among the fs
--   IsCodeList b fs gs hs        the hs are the list of the statements b, which leave the values fs, from the gs;  IsPastCode b fs gs: the weight of making one of them is past
--   IsListOf m code hs s         the hs are the list of the elimination in the state s
-- Of the code w, as it is in work:
--   IsCodeInWork w           its values are over its variables, of which there is one at least, and its copies are counted
--   AreThereBefore w ps      the ps are what the variables were before it;  HasItsCopies w p: p is in the order with its copies first, over these and the variables
--   variables_assigned w     the variables that it assigns;  value_put w v: the variable v less its value, of what was, in that order
use Rattle.std.specs.Prelude.{◌≡◌, ◌⊎◌, ◌+◌, ◌<◌, ◌≤◌, ℕ, Bool, cond, List, [], ◌++◌, map, get_or, length}
use Rattle.std.specs.List.{Any}
use Rattle.std.specs.Global.{Vec}
use Rattle.algebra.specs.Fraction.{Fraction, ℚ, fractions, rationals}
use Rattle.polynomials.specs.Order.{grevlex}
use Rattle.polynomials.specs.Weight.{IsPastComposition, IsPastSum}
use Rattle.polynomials.specs.Terms.{Terms, compose, negate}
use Rattle.machines.specs.Collect.{collect}
use Rattle.machines.specs.Elimination as elimination
use Rattle.poly.specs.Seen.{terms_each}
use Rattle.monos.specs.Variables.{most_variables}
use Rattle.loop_model.specs.FracPoly.{FracPoly}
use Rattle.ideal_ops.specs.Calls.{AreOver}
use Rattle.ideal_ops.specs.Eliminating.{HaveBlock}
use Rattle.invariant_fix.specs.Blocked.{Blocked}
use Rattle.invariant_fix.specs.declared.chain_code.CodeInWork.{CodeInWork}
use Rattle.loop_model.specs.declared.statement.Statement as code
use Rattle.loop_runs.specs.Parts.{statements_in}
use Rattle.corollaries.specs.Between.{code_order, list_of}
use Rattle.loops.specs.Program.{Statement}
use Rattle.corollaries.specs.CodeBetween.{variable_of, is_assigned, assigned_variables, copy_of, copies, was}

abbrev pub assigned_by : List code.Statement → ℕ → Bool
assigned_by b v = is_assigned (statements_in b) v

module _ (m : ℕ) (b : List code.Statement) where
  abbrev pub all : ℕ
  all = copies m (statements_in b) + m

  abbrev pub place_before : ℕ → ℕ
  place_before v =
      cond (assigned_by b v) (copy_of (statements_in b) v) (copies m (statements_in b) + v)

  abbrev pub AreBefore : List FracPoly → Type 0
  AreBefore ps = (terms_each ps ≡ was m (statements_in b)) × AreOver all ps

  abbrev pub in_code_order : Terms Fraction → Terms Fraction
  in_code_order g =
      collect rationals (code_order m (statements_in b)) (compose ℚ all g (was m (statements_in b)))

  abbrev pub put_value : ℕ → Terms Fraction → Terms Fraction
  put_value v f =
      collect rationals (code_order m (statements_in b))
      (variable_of all (copies m (statements_in b) + v)
      ++ negate ℚ (compose ℚ all f (was m (statements_in b))))

  abbrev pub HaveCopies : List Blocked → Type 0
  HaveCopies hs = HaveBlock (copies m (statements_in b)) all hs

  -- of the variable v, whose value is f
  abbrev pub IsPastValueOf : Terms Fraction → ℕ → Type 0
  IsPastValueOf f v =
      IsPastComposition fractions f (was m (statements_in b))
      ⊎ IsPastSum fractions (variable_of all (copies m (statements_in b) + v))
      (collect rationals grevlex (compose ℚ all f (was m (statements_in b))))

-- the values fs of the variables behind the statements b, and the elements gs
module _ (b : List code.Statement) (fs : List FracPoly) where
  abbrev pub IsPastValue : ℕ → Type 0
  IsPastValue v = IsPastValueOf (length fs) b (get_or (terms_each fs) v []) v

  abbrev pub IsCodeList : List FracPoly → List Blocked → Type 0
  IsCodeList gs hs =
      terms_each hs ≡ map (in_code_order (length fs) b) (terms_each gs)
      ++ map (λ v. put_value (length fs) b v (get_or (terms_each fs) v []))
      (assigned_variables (length fs) (statements_in b))

  abbrev pub IsPastCode : List FracPoly → Type 0
  IsPastCode gs =
      Any (λ g. IsPastComposition fractions g (was (length fs) (statements_in b))) (terms_each gs)
      ⊎ Any IsPastValue (assigned_variables (length fs) (statements_in b))

module _ {E : Type 0} (m : ℕ) (code : List (Statement E)) where
  abbrev pub IsListOf : Vec FracPoly → elimination.State Fraction → Type 0
  IsListOf hs s = terms_each hs.items ≡ list_of m code s

module _ (w : CodeInWork) where
  pub record IsCodeInWork : Type 0 where
    pub some : 0 < length w.values.now
    pub few : length w.values.now + length w.values.now ≤ most_variables
    pub values : AreOver (length w.values.now) w.values.now
    pub count : w.copies ≡ copies (length w.values.now) (statements_in w.code.now)
    pub few_copies : w.copies ≤ length w.values.now

  abbrev pub AreThereBefore : List FracPoly → Type 0
  AreThereBefore ps = AreBefore (length w.values.now) w.code.now ps

  abbrev pub HasItsCopies : Blocked → Type 0
  HasItsCopies p =
      (p.order.first ≡ copies (length w.values.now) (statements_in w.code.now))
      × (p.arity ≡ all (length w.values.now) w.code.now)

  abbrev pub value_put : ℕ → Terms Fraction
  value_put v = put_value (length w.values.now) w.code.now v (get_or (terms_each w.values.now) v [])

  abbrev pub variables_assigned : List ℕ
  variables_assigned = assigned_variables (length w.values.now) (statements_in w.code.now)
