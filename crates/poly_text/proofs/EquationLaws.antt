-- How sums and equations are read, one part behind another, and what is formed of them.
--   on, in_order            what is read up to the end, behind a first part that was read; and a sequence in a sequence
--   sum_begins              a sum
--   equation_begins, behind_left, behind_equals, behind_right     an equation, and behind its left side, behind the =, and behind its right side
--   refused, refused_last   a part that is refused
--   uses_part               what is read uses the names alone
use Rattle.std.proofs.Common.{◌≡◌, ℕ, ◌<◌, List, [], length, refl, sym, ap, subst, ◌∙◌, arith, true, Result, Ok, Err}
use Rattle.std.specs.Prelude.{IfSome}
use Rattle.loops.specs.Program.{Expr, sub}
use Rattle.loops.specs.WellFormed.{Uses}
use Rattle.loops.proofs.Starts.{uses_weaker}
use Rattle.grammars.specs.Grammar.{sequence, rule}
use Rattle.loop_model.specs.ExpressionView.{expr_of}
use Rattle.loop_model.specs.declared.expr.Expr as code
use Rattle.poly_text.specs.Lexemes.{Placed, sign, is_sign_of, tokens_from}
use Rattle.poly_text.specs.NextToken.{seen_lexeme}
use Rattle.poly_text.specs.Reasons.{Fault, init_uses}
use Rattle.poly_text.specs.Faults.{fault_of}
use Rattle.poly_text.specs.Sums.{SumContext, SumValue, SumState, Rule, a_sum, sum_language, equals, combine, the_end, start, equation, note}
use Rattle.poly_text.specs.Told.{Told}
use Rattle.poly_text.specs.Telling.{reading}
use Rattle.poly_text.specs.CursorView.{rest}
use Rattle.poly_text.specs.Reads.{used_by, Around, state_in, state_behind, behind_expr, with_operator}
use Rattle.poly_text.specs.declared.cursor.Cursor.{Cursor}
use Rattle.poly_text.specs.declared.error.TextError.{TextError}
use Rattle.poly_text.specs.declared.sums.Part.{Part}
use Rattle.poly_text.proofs.AllowedNames.{Allowed}
use Rattle.poly_text.proofs.SumKept.{reading_safe, none_safe}
use Rattle.poly_text.proofs.CursorReads.{sign_here, token_read}
use Rattle.poly_text.proofs.PartSteps.{combine_done}
use Rattle.poly_text.proofs.Paths.{IsFault, fault_passes, then_on, stopped, in_parts, GivesError}
use Rattle.poly_text.proofs.WholeTexts.{whole_told, whole_reading}
use Rattle.poly_text.specs.Equations.{sum_or_fault, sum_of, equation_of, tells}

abbrev pub SumTold : Type 0
SumTold = Told SumContext SumValue

abbrev pub read : Rule → SumState → List Placed → SumTold
read g s ts = reading sum_language g s ts

abbrev pub said_told : SumTold → Result (Expr ℕ) Fault
said_told r = sum_or_fault (whole_told r)

-- y is said by what g reads up to the end
pub record Says (y : Result (Expr ℕ) Fault) (g : Rule) (s : SumState) (ts : List Placed) : Type
    0 where
  pub same : y ≡ said_told (read g s ts)

pub on : {y : Result (Expr ℕ) Fault} {g h : Rule} {s t : SumState} {ts us : List Placed}
    → Says y (sequence g h) s ts → Ok (t, us) ≡ read g s ts → Says y h t us
on {y} {g} {h} {s} {t} {ts} {us} k e = record {
  same = k.same
      ∙ ap said_told (then_on sum_language g h s ts t us e);
}

in_order : {y : Result (Expr ℕ) Fault} {f g h : Rule} {s : SumState} {ts : List Placed}
    → Says y (sequence (sequence f g) h) s ts → Says y (sequence f (sequence g h)) s ts
in_order {y} {f} {g} {h} {s} {ts} k = record {
  same = k.same
      ∙ ap said_told (in_parts sum_language f g s ts h);
}

-- where nothing was read
abbrev pub outside : List (List ℕ) → Around
outside names = record {
  names = names;
  refused = [];
  refusal = init_uses;
  depth = 0;
  used = [];
  value = record { values = []; places = [] };
}

-- behind a = at the offset at the operators are counted anew
abbrev pub equaled : SumState → ℕ → SumState
equaled s at = record { context = record s.context { operators = 0 }; value = note at s.value }

module _ (names : List (List ℕ)) (ts : List Placed) (k : Cursor) (same : rest k ≡ ts) where
  pub sum_begins : Says (sum_of names ts) (sequence (rule a_sum) the_end) (start names []) (rest k)
  unfolding sum_of
  sum_begins =
      record {
        same = ap sum_or_fault (whole_reading sum_language (rule a_sum) the_end (start names []) ts)
            ∙ ap (λ ts. said_told (read (sequence (rule a_sum) the_end) (start names []) ts))
            (sym same);
      }

  pub equation_begins : Says (equation_of names ts)
      (sequence (rule a_sum) (sequence (sequence equals (sequence (rule a_sum) (combine sub)))
      the_end)) (start names []) (rest k)
  unfolding equation_of
  equation_begins =
      in_order (record {
        same =
            ap sum_or_fault (whole_reading sum_language equation the_end (start names []) ts)
            ∙ ap (λ ts. said_told (read (sequence equation the_end) (start names []) ts))
            (sym same);
      })

  module _ (left : Part) (middle : Cursor) (left_read : Ok (
    state_behind (outside names) left,
    rest middle,
  ) ≡ read (rule a_sum) (start names []) (rest k)) where
    pub behind_left : Says (equation_of names ts)
        (sequence equals (sequence (sequence (rule a_sum) (combine sub)) the_end))
        (state_behind (outside names) left) (rest middle)
    behind_left = in_order (on equation_begins left_read)

    module _ (is : is_sign_of (seen_lexeme middle.token.lexeme) 61 ≡ true) (next : Cursor)
        (tokens : tokens_from middle.text.now middle.token.end ≡ rest next) where
      pub behind_equals : Says (equation_of names ts)
          (sequence (rule a_sum) (sequence (combine sub) the_end))
          (equaled (state_behind (outside names) left) middle.token.at) (rest next)
      behind_equals =
          in_order (on behind_left (token_read sum_language equals refl
          (state_behind (outside names) left) middle (sign 61) (sign_here middle 61 is) refl
          next tokens refl))

      pub behind_right : (right : Part) (end : Cursor)
          → Ok (
            state_behind (with_operator (behind_expr (outside names) (expr_of left.value.value))
                middle.token.at) right,
            rest end,
          ) ≡ read (rule a_sum)
          (equaled (state_behind (outside names) left) middle.token.at) (rest next)
          → Says (equation_of names ts) the_end
          (state_in (behind_expr (outside names) (sub middle.token.at (expr_of left.value.value)
          (expr_of right.value.value))) right.operators) (rest end)
      unfolding used_by
      behind_right right end right_read = on (on behind_equals right_read)
          (combine_done (outside names) right.operators middle.token.at (expr_of left.value.value)
          sub
          (expr_of right.value.value) refl end)

-- ---- a part that is refused
module _ {y : Result (Expr ℕ) Fault} {e : TextError} {result : Result code.Expr TextError} where
  pub refused_last : {g : Rule} {s : SumState} {ts : List Placed} → Says y g s ts
      → IsFault e (read g s ts) → GivesError result e → IfSome (tells expr_of result) (λ r. r ≡ y)
  refused_last {g} {s} {ts} k h is =
      subst (λ r. IfSome (tells expr_of r) (λ (s : Result (Expr ℕ) Fault). s ≡ y))
      (sym (is.1 ∙ ap Err is.2)) (fault_passes (fault_of e) (read g s ts) y (λ f told.
      sym (k.same ∙ ap said_told (sym told))) h)

  pub refused : {g h : Rule} {s : SumState} {ts : List Placed} → Says y (sequence g h) s ts
      → IsFault e (read g s ts) → GivesError result e → IfSome (tells expr_of result) (λ r. r ≡ y)
  refused {g} {h} {s} {ts} k p is = refused_last k (stopped sum_language g h s ts e p) is

-- ---- variables
pub uses_part : (names : List (List ℕ)) (p : Part) (ts us : List Placed)
    → Ok (state_behind (outside names) p, us) ≡ read (rule a_sum) (start names []) ts
    → Uses (λ i. i < length names) (expr_of p.value.value)
uses_part names p ts us e =
    let safe = reading_safe names [] [] (rule a_sum) tt (start names [])
    (state_behind (outside names) p) ts us e (none_safe (start names []).context
    (start names []).value refl (omega arith)) in
    uses_weaker (Allowed names []) (λ i. i < length names) (λ i b. b.within) (expr_of p.value.value)
    (safe.each 0 (expr_of p.value.value) (omega arith)).over
