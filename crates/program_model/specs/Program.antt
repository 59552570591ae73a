-- Programs as syntax. A variable goes by its place in the list of names, `at` is the offset of a token in the text.
--   Comparison E     two sides with `=` or `==` between them (equal), or with `!=`; `at` is that of the sign
--   Divisor E        what a `/` divides by that isn't a number; its inverse is the variable behind the names and the inverses before it
--   Assignment E     divisors, and values to targets, all at once, which use the names and the inverses
--   Step E           an assignment; choose: any value to a target; assume: a comparison that is true
--   Guard E          the comparisons that its parts say, and whether it has one part alone
--   Statement E      a step; assert: a comparison that is to be true at this point; branch: if, else; loop: while, and for with its first assignment before it and the second at the end of the body
--   Mark E           a point of a program, a loop's head or an assertion: the offset of its first token, and what is asserted there
--   Block E          statements, by the last of them: none, or a block and a statement behind it
--   Program E        names of variables, statements, and the offset of the text's end
-- E is what stands for a side.
use Rattle.std.specs.Prelude.{ℕ, Bool, List, Option}

pub record Comparison (E : Type 0) : Type 0 where
  pub at : ℕ
  pub equal : Bool
  pub left : E
  pub right : E

pub record Divisor (E : Type 0) : Type 0 where
  pub at : ℕ
  pub value : E

pub record Assignment (E : Type 0) : Type 0 where
  pub divisors : List (Divisor E)
  pub targets : List ℕ
  pub values : List E

pub data Step (E : Type 0) : Type 0 where
  assign : Assignment E → Step E
  choose : (at target : ℕ) → Step E
  assume : Comparison E → Step E

pub record Guard (E : Type 0) : Type 0 where
  pub says : List (Comparison E)
  pub alone : Bool

pub record Mark (E : Type 0) : Type 0 where
  pub at : ℕ
  pub asserted : Option (Comparison E)

mutual
  pub data Statement (E : Type 0) : Type 0 where
    step : Step E → Statement E
    assert : (at : ℕ) → Comparison E → Statement E
    branch : (at : ℕ) → Guard E → Block E → Block E → Statement E
    loop : (at : ℕ) → Guard E → Block E → Statement E

  pub data Block (E : Type 0) : Type 0 where
    empty : Block E
    behind : Block E → Statement E → Block E

pub record Program (E : Type 0) : Type 0 where
  pub names : List (List ℕ)
  pub statements : Block E
  pub end : ℕ
