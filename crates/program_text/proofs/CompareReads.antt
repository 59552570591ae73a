-- Comparisons, and the bounds of `for`.
--   says_kind, says_none, says_next        what a sign says tells its kind, and what comes behind it
--   sign_missing, behind_sign, compared     no sign behind the left side; what is due behind one; and behind the right side
--   dots_missing, behind_dots, bounded      the same of bounds
use Rattle.std.proofs.Common.{◌≡◌, ℕ, List, [], ◌∷◌, refl, ap, sym, ◌∙◌, Bool, true, false, not, ◌==◌, if◌then◌else◌, Option, Some, None, Ok}
use Rattle.std.proofs.lemmas.Bool.{eqb-true, or_parts, or_from}
use Rattle.loops.specs.Program.{Expr}
use Rattle.grammars.specs.Kinds.{has}
use Rattle.grammars.specs.Grammar.{sequence, change, rule}
use Rattle.grammars.specs.Embedded.{with_part}
use Rattle.poly_text.specs.Reasons.{syntax}
use Rattle.program_text.specs.Doubles.{equal, differs, dots}
use Rattle.program_text.specs.Lexemes as lexemes
use Rattle.program_text.specs.Lexemes.{Lexeme, tokens_from}
use Rattle.program_text.specs.Kinds.{a_sign, a_double, same, kind_of}
use Rattle.program_text.specs.NextToken.{seen_lexeme, tokens_behind}
use Rattle.program_text.specs.CursorView.{rest, behind}
use Rattle.program_text.specs.Reads.{Progress, state_in, behind_expr}
use Rattle.program_text.specs.Sums.{SumValue, a_sum, sum_language, comparison, compares, side_end, is_differs, push, note}
use Rattle.program_text.specs.Programs.{ProgramValue, ProgramState, sum, bounds, bounds_sign, end_sum, no_divisors, sums_in_programs, program_language}
use Rattle.program_text.specs.States.{signs, sign_says, is_dots, plain_state, with_bounds, at_statement, reading}
use Rattle.program_text.specs.Telling as telling
use Rattle.program_text.specs.declared.cursor.Cursor.{Cursor}
use Rattle.program_text.proofs.KindTests.{by_shape, no_sign}
use Rattle.program_text.proofs.CursorReads.{fault_at, here, taken, token_barred, no_first}
use Rattle.program_text.proofs.Paths.{reading_change, GoesOn, start, on, ends}
use Rattle.program_text.proofs.SumReads.{in_sum, sum_read}

-- ---- signs
unlike_sign : (b : Bool) (c : ℕ) → (c == 61) ≡ false
    → has same (signs b) (kind_of (lexemes.sign c)) ≡ false
unlike_sign true c e =
    let kind = kind_of (lexemes.sign c) in
    or_from (same (a_sign 61) kind) (has same (a_double equal ∷ a_double differs ∷ []) kind)
    (or_parts (same (a_sign 61) kind) false (no_sign 61 (lexemes.sign c) e)).0
    (by_shape (a_double equal ∷ a_double differs ∷ []) (lexemes.sign c) refl refl)
unlike_sign false c e =
    let kind = kind_of (lexemes.sign c) in
    or_from (same (a_sign 61) kind) (has same (a_double equal ∷ []) kind)
    (or_parts (same (a_sign 61) kind) false (no_sign 61 (lexemes.sign c) e)).0
    (by_shape (a_double equal ∷ []) (lexemes.sign c) refl refl)

like_sign : (b : Bool) → has same (signs b) (kind_of (lexemes.sign 61)) ≡ true
like_sign true = refl
like_sign false = refl

module _ (b : Bool) where
  abbrev pub Says : Lexeme → Bool → Type 0
  Says x e = (has same (signs b) (kind_of x) ≡ true) × (not (is_differs x) ≡ e)

by_test : (b : Bool) (c : ℕ) (e t : Bool) → (c == 61) ≡ t → (if t then Some true else None) ≡ Some e
    → Says b (lexemes.sign c) e
by_test b c e true is says = (
  ap (λ c. has same (signs b) (kind_of (lexemes.sign c))) (eqb-true c 61 is) ∙ like_sign b,
  some_same true e says,
)
  where
    some_same : (d e : Bool) → ◌≡◌ {A = Option Bool} (Some d) (Some e) → d ≡ e
    some_same d e says = cc
by_test b c e false is says = absurd (cc)

none_test : (b : Bool) (c : ℕ) (t : Bool) → (c == 61) ≡ t
    → ◌≡◌ {A = Option Bool} (if t then Some true else None) None
    → has same (signs b) (kind_of (lexemes.sign c)) ≡ false
none_test b c true is says = absurd (cc)
none_test b c false is says = unlike_sign b c is

pub says_kind : (b : Bool) (x : Lexeme) (e : Bool) → sign_says b x ≡ Some e → Says b x e
says_kind b (lexemes.sign c) e says = by_test b c e (c == 61) refl says
says_kind true (lexemes.double equal) e says = (refl, cc)
says_kind false (lexemes.double equal) e says = (refl, cc)
says_kind true (lexemes.double differs) e says = (refl, cc)
says_kind b x e says = absurd (cc)

pub says_none : (b : Bool) (x : Lexeme) → sign_says b x ≡ None
    → has same (signs b) (kind_of x) ≡ false
says_none b (lexemes.sign c) says = none_test b c (c == 61) refl says
says_none true (lexemes.double equal) says = absurd (cc)
says_none false (lexemes.double equal) says = absurd (cc)
says_none true (lexemes.double differs) says = absurd (cc)
says_none false (lexemes.double differs) says = refl
says_none true (lexemes.double dots) says = refl
says_none false (lexemes.double dots) says = refl
says_none true x says = by_shape (signs true) x refl refl
says_none false x says = by_shape (signs false) x refl refl

pub says_next : (b : Bool) (x : Lexeme) (e : Bool) → sign_says b x ≡ Some e → (text : List ℕ)
    (end : ℕ) → tokens_behind text x end ≡ tokens_from text end
says_next b (lexemes.sign c) e says text end = refl
says_next b (lexemes.double d) e says text end = refl
says_next b x e says text end = absurd (cc)

-- ---- comparisons
module _ (names : List (List ℕ)) (b : Bool) (v : SumValue) (c : Cursor) (l : Expr ℕ) (m : Progress)
    (k : Cursor) (left : Ok (state_in (behind_expr (in_sum names false v) l) m, rest k)
    ≡ telling.reading sum_language (rule a_sum) (plain_state names v) (rest c)) where
  at_sign : GoesOn sum_language (comparison (signs b)) (plain_state names v) (rest c)
      (sequence (compares (signs b)) (sequence (rule a_sum) side_end))
      (state_in (behind_expr (in_sum names false v) l) m) (rest k)
  at_sign = on (start sum_language (comparison (signs b)) (plain_state names v) (rest c)) left

  pub sign_missing : sign_says b (seen_lexeme k.token.lexeme) ≡ None
      → fault_at syntax k.token.at ≡ telling.reading sum_language (comparison (signs b))
      (plain_state names v) (rest c)
  sign_missing none =
      no_first sum_language (compares (signs b)) (sequence (rule a_sum) side_end)
      (state_in (behind_expr (in_sum names false v) l) m) (rest k) _
      (token_barred sum_language (compares (signs b)) refl
      (state_in (behind_expr (in_sum names false v) l) m) k
      (says_none b (seen_lexeme k.token.lexeme) none)) ∙ sym at_sign.same

  module _ (e : Bool) (says : sign_says b (seen_lexeme k.token.lexeme) ≡ Some e) (next : Cursor)
      (tokens : tokens_from k.text.now k.token.end ≡ rest next) where
    abbrev pub with_left : SumValue
    with_left = record (note k.token.at (push l v)) { signs = e ∷ v.signs }

    pub behind_sign : GoesOn sum_language (comparison (signs b)) (plain_state names v) (rest c)
        (sequence (rule a_sum) side_end) (plain_state names with_left) (rest next)
    behind_sign =
        let s = state_in (behind_expr (in_sum names false v) l) m in
        let kind = says_kind b (seen_lexeme k.token.lexeme) e says in
        let token = taken sum_language (compares (signs b)) s (here k) (behind k) refl kind.0
        refl in
        on at_sign (ap (λ t. Ok (
          plain_state names (record (note k.token.at (push l v)) { signs = t ∷ v.signs }),
          rest next,
        )) (sym kind.1)
        ∙ ap (λ ts. Ok (
          plain_state names (record (note k.token.at (push l v)) {
            signs = not (is_differs (seen_lexeme k.token.lexeme)) ∷ v.signs;
          }),
          ts,
        )) (sym (says_next b (seen_lexeme k.token.lexeme) e says k.text.now k.token.end ∙ tokens))
        ∙ token)

    pub compared : (r : Expr ℕ) (n : Progress) (end : Cursor)
        → Ok (state_in (behind_expr (in_sum names false with_left) r) n, rest end)
        ≡ telling.reading sum_language (rule a_sum) (plain_state names with_left) (rest next)
        → Ok (plain_state names (push r with_left), rest end)
        ≡ telling.reading sum_language (comparison (signs b)) (plain_state names v) (rest c)
    compared r n end right = ends (on behind_sign right)
        (sym (reading_change sum_language (λ c. record c { operators = 0 }) (λ c v. record v {
          divisors = [];
        }) (state_in (behind_expr (in_sum names false with_left) r) n) (here end) (behind end)))

-- ---- bounds
dots_kind : (x : Lexeme) → is_dots x ≡ true → (has same (a_double dots ∷ []) (kind_of x) ≡ true)
    × ((text : List ℕ) (end : ℕ) → tokens_behind text x end ≡ tokens_from text end)
dots_kind (lexemes.double dots) e = (refl, λ text end. refl)
dots_kind x e = absurd (cc)

no_dots : (x : Lexeme) → is_dots x ≡ false → has same (a_double dots ∷ []) (kind_of x) ≡ false
no_dots (lexemes.double dots) e = absurd (cc)
no_dots (lexemes.double equal) e = refl
no_dots (lexemes.double differs) e = refl
no_dots x e = by_shape (a_double dots ∷ []) x refl refl

module _ (names : List (List ℕ)) (n d : ℕ) (w : ProgramValue) (c : Cursor) (l : Expr ℕ)
    (m : Progress) (k : Cursor)
    (left : Ok (state_in (behind_expr (in_sum names false w.sum) l) m, rest k)
    ≡ telling.reading sum_language (rule a_sum) (plain_state names w.sum) (rest c)) where
  abbrev before : ProgramState
  before = at_statement names n d w

  abbrev at_left : ProgramState
  at_left = with_part sums_in_programs (state_in (behind_expr (in_sum names false w.sum) l) m)
      before

  at_dots : GoesOn program_language bounds before (rest c)
      (sequence bounds_sign (sequence sum (change end_sum no_divisors))) at_left (rest k)
  at_dots = on (start program_language bounds before (rest c))
      (sum_read before (rest c) (state_in (behind_expr (in_sum names false w.sum) l) m) (rest k)
      left)

  pub dots_missing : is_dots (seen_lexeme k.token.lexeme) ≡ false
      → fault_at syntax k.token.at ≡ reading bounds before (rest c)
  dots_missing none =
      no_first program_language bounds_sign (sequence sum (change end_sum no_divisors)) at_left
      (rest k) _ (token_barred program_language bounds_sign refl at_left k
      (no_dots (seen_lexeme k.token.lexeme) none)) ∙ sym at_dots.same

  module _ (is : is_dots (seen_lexeme k.token.lexeme) ≡ true) (next : Cursor)
      (tokens : tokens_from k.text.now k.token.end ≡ rest next) where
    abbrev pub with_from : ProgramValue
    with_from = record w { sum = note k.token.at (push l w.sum) }

    pub behind_dots : GoesOn program_language bounds before (rest c)
        (sequence sum (change end_sum no_divisors)) (at_statement names n d with_from) (rest next)
    behind_dots =
        let kind = dots_kind (seen_lexeme k.token.lexeme) is in
        on at_dots (ap (λ ts. Ok (at_statement names n d with_from, ts))
        (sym (kind.1 k.text.now k.token.end ∙ tokens))
        ∙ taken program_language bounds_sign at_left (here k) (behind k) refl kind.0 refl)

    pub bounded : (r : Expr ℕ) (p : Progress) (end : Cursor)
        → Ok (state_in (behind_expr (in_sum names false with_from.sum) r) p, rest end)
        ≡ telling.reading sum_language (rule a_sum) (plain_state names with_from.sum) (rest next)
        → Ok (at_statement names n d (with_bounds l k.token.at r w), rest end)
        ≡ reading bounds before (rest c)
    bounded r p end right =
        let s = at_statement names n d with_from in
        let t = state_in (behind_expr (in_sum names false with_from.sum) r) p in
        ends (on behind_dots (sum_read s (rest next) t (rest end) right))
        (sym (reading_change program_language end_sum no_divisors (with_part sums_in_programs t s)
        (here end) (behind end)))
