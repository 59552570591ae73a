-- Reading the parts of a sum from a cursor: what its token leads to.
--   atom_X, no_atom        an atom: a number, a name, one that is refused, parentheses, or no atom
--   factor_X, raising_X    a factor, and what stands behind an atom
--   more_X, no_more        what stands behind a product and behind a sum
--   X_read, X_past, X_barred     the tokens: operators, parentheses, leading minus signs, exponents
--   negation_done, combine_done     the changes
--   divisor_X              what stands behind a /; over_number, over_factor: a number, and another factor
use Rattle.std.proofs.Common.{add-one, add-sub_cancel, ◌≡◌, ℕ, suc, ◌+◌, ◌<◌, ◌≤◌, ◌^◌, ◌⊎◌, inl, inr, List, [], ◌∷◌, ◌++◌, length, refl, ap, ap₂, sym, true≢false, not, ◌&&◌, ◌∙◌, arith, Bool, true, false, ◌||◌, pos, nat_le, if◌then◌else◌, IsTrue, Some, None, unwrap_or, Ok, option_map, ◌==◌, Option}
use Rattle.std.proofs.lemmas.Bool.{or_parts, or_from, le-leb, lt-leb, lt-ltb, eq-eqb, ne_eqb}
use Rattle.loops.specs.Program.{Expr, number, variable, neg, mul}
use Rattle.loops.specs.Limits.{most_operators, most_exponent}
use Rattle.loop_model.specs.Names.{place_of}
use Rattle.grammars.specs.Kinds.{has}
use Rattle.grammars.specs.Grammar.{change, sequence, either, many, rule}
use Rattle.program_text.specs.Lexemes.{Lexeme, is_sign_of, tokens_from, Placed}
use Rattle.program_text.specs.Kinds.{Kind, a_name, a_number, a_large, no_kind, a_sign, same, kind_of}
use Rattle.poly_text.specs.Reasons.{syntax, limit, wide, unless, or_else, Reason, divisor}
use Rattle.program_text.specs.NameFaults.{name_fault}
use Rattle.program_text.specs.Faults.{fault_of}
use Rattle.program_text.specs.NextToken.{seen_lexeme}
use Rattle.program_text.specs.CursorView.{rest, behind, is_number, begins_by_number}
use Rattle.poly_text.specs.Tokens.{is_sign}
use Rattle.program_text.specs.declared.cursor.Cursor.{Cursor}
use Rattle.program_text.specs.declared.error.ProgramTextError.{ProgramTextError}
use Rattle.program_text.specs.Sums.{most_depth, SumState, Rule, a_sum, a_factor, sum_language, shallower, with_one, with_two, number_token, name_token, opening, closing, parentheses, atom, operator, exponent, raising, leading_minus, negation, opposite, factor, combine, times, over, next_factor, sign_of, joins, next_product, divided, a_divisor, divisor_by, number_divisor, no_number, factor_divisor, divisor_token, divisor_fault}
use Rattle.program_text.specs.Telling.{reading}
use Rattle.program_text.specs.Reads.{Progress, counted, Around, state_in, behind_expr, with_operator, inside, with_exponent, with_divisor}
use Rattle.program_text.proofs.SumChecked.{sums_checked}
use Rattle.program_text.proofs.Paths.{reading_change, reading_rule, in_first, IsFault}
use Rattle.program_text.proofs.CursorReads.{genuine_number, genuine_name, fault_at, here, token_read, token_faulty, token_barred, starts, as_token, at_left, at_right, at_more, at_none, no_first, fault_told, faulty, amiss}
use Rattle.program_text.proofs.KindTests.{by_shape, unlike, no_sign, a_sign_kind}
use Rattle.program_text.specs.Lexemes as lexemes
use Rattle.program_text.specs.declared.lexemes.Lexeme as code
use Rattle.program_text.specs.declared.lexemes.Lexeme.TheVariants as code_lexeme

abbrev numbers : List Kind
numbers = a_number ∷ a_large ∷ []

abbrev divisor_kinds : List Kind
divisor_kinds = a_number ∷ a_large ∷ a_name ∷ a_sign 45 ∷ a_sign 40 ∷ []

-- the kinds of what a cursor keeps of its lexeme
number_kind : (ks : List Kind) (k : Cursor) (v : ℕ) → k.token.lexeme ≡ code_lexeme.Number v
    → has same ks (kind_of (lexemes.number v)) ≡ has same ks a_number
number_kind ks k v is = ap (λ t. has same ks (if t then a_number else no_kind))
    (lt-ltb v (2 ^ 127) (genuine_number k v is))

pub name_kind : (ks : List Kind) (k : Cursor) (w : _) → k.token.lexeme ≡ code_lexeme.Name w
    → has same ks (kind_of (lexemes.name w.now)) ≡ has same ks a_name
name_kind ks k w is = ap (λ t. has same ks (if t then a_name else no_kind)) (genuine_name k w is)

-- the kind of a cursor's token
kind_here : (k : Cursor) (ks : List Kind) (x : Lexeme) (b : Bool) → seen_lexeme k.token.lexeme ≡ x
    → has same ks (kind_of x) ≡ b → has same ks (kind_of (seen_lexeme k.token.lexeme)) ≡ b
kind_here k ks x b is e = ap (λ x. has same ks (kind_of x)) is ∙ e

-- ---- atoms
module _ (a : Around) (n : Progress) (k : Cursor) where
  abbrev before : SumState
  before = state_in a n

  module _ (v : ℕ) (is : k.token.lexeme ≡ code_lexeme.Number v) where
    pub atom_number : (d : Cursor) → tokens_from k.text.now k.token.end ≡ rest d → (e : Expr ℕ)
        → e ≡ number (pos v) → Ok (state_in (behind_expr a e) n, rest d) ≡ reading sum_language atom
        before (rest k)
    atom_number d next e value =
        let kind = number_kind numbers k v is in
        ap (λ e. Ok (state_in (behind_expr a e) n, rest d)) value
        ∙ token_read sum_language number_token refl before k (lexemes.number v)
        (ap seen_lexeme is) kind d next refl
        ∙ sym (at_left sum_language number_token (either name_token parentheses) before k
        (kind_here k numbers (lexemes.number v) true (ap seen_lexeme is) kind))

  pub atom_large : k.token.lexeme ≡ code_lexeme.Large → fault_at wide k.token.at
      ≡ reading sum_language atom before (rest k)
  atom_large is =
      token_faulty sum_language number_token refl before k lexemes.large (ap seen_lexeme is) refl
      wide refl
      ∙ sym (at_left sum_language number_token (either name_token parentheses) before k
      (kind_here k numbers lexemes.large true (ap seen_lexeme is) refl))

  module _ (w : _) (is : k.token.lexeme ≡ code_lexeme.Name w) where
    atom_word : reading sum_language atom before (rest k) ≡ reading sum_language name_token before
        (rest k)
    atom_word =
        at_right sum_language number_token (either name_token parentheses) before k
        (kind_here k numbers (lexemes.name w.now) false (ap seen_lexeme is)
        (by_shape numbers (lexemes.name w.now) refl refl))
        ∙ at_left sum_language name_token parentheses before k
        (kind_here k (a_name ∷ []) (lexemes.name w.now) true (ap seen_lexeme is)
        (name_kind (a_name ∷ []) k w is))

    pub atom_name : name_fault a.names w.now ≡ None → (d : Cursor)
        → tokens_from k.text.now k.token.end ≡ rest d → (e : Expr ℕ)
        → e ≡ variable (unwrap_or (place_of a.names w.now) 0)
        → Ok (state_in (behind_expr a e) n, rest d) ≡ reading sum_language atom before (rest k)
    atom_name free d next e value = ap (λ e. Ok (state_in (behind_expr a e) n, rest d)) value
        ∙ token_read sum_language name_token refl before k (lexemes.name w.now) (ap seen_lexeme is)
        (name_kind (a_name ∷ []) k w is) d next free ∙ sym atom_word

    pub atom_refused : (e : ProgramTextError)
        → fault_of e ≡ option_map (λ why. record { reason = why; at = k.token.at })
        (name_fault a.names w.now)
        → IsFault e (reading sum_language atom before (rest k))
    atom_refused e is_told =
        fault_told e k.token.at (name_fault a.names w.now)
        (reading sum_language atom before (rest k)) is_told
        (λ why faulty. token_faulty sum_language name_token refl before k (lexemes.name w.now)
        (ap seen_lexeme is) (name_kind (a_name ∷ []) k w is) why faulty ∙ sym atom_word)

-- ---- what no atom begins with
abbrev atom_kinds : List Kind
atom_kinds = a_number ∷ a_large ∷ a_name ∷ a_sign 40 ∷ []

none_of : (b c d e : Bool) → (b || (c || (d || (e || false)))) ≡ false
    → ((b || (c || false)) ≡ false) × ((d || false) ≡ false) × ((e || false) ≡ false)
none_of false false false false h = (refl, refl, refl)
none_of b c d e h = absurd (cc)

module _ (s : SumState) (k : Cursor) where
  pub atom_parentheses : (b : ℕ) → k.token.lexeme ≡ code_lexeme.Sign b
      → reading sum_language atom s (rest k) ≡ reading sum_language parentheses s (rest k)
  atom_parentheses b is =
      at_right sum_language number_token (either name_token parentheses) s k
      (kind_here k numbers (lexemes.sign b) false (ap seen_lexeme is)
      (by_shape numbers (lexemes.sign b) refl refl))
      ∙ at_right sum_language name_token parentheses s k (kind_here k (a_name ∷ []) (lexemes.sign b)
      false (ap seen_lexeme is) (by_shape (a_name ∷ []) (lexemes.sign b) refl refl))

  pub parentheses_barred : is_sign_of (seen_lexeme k.token.lexeme) 40 ≡ false
      → fault_at syntax k.token.at ≡ reading sum_language parentheses s (rest k)
  parentheses_barred e = no_first sum_language opening (sequence (rule a_sum) closing) s (rest k) _
      (token_barred sum_language opening refl s k (no_sign 40 (seen_lexeme k.token.lexeme) e))

  atom_barred : starts sum_language atom k ≡ false → fault_at syntax k.token.at
      ≡ reading sum_language atom s (rest k)
  atom_barred e =
      let kind = kind_of (seen_lexeme k.token.lexeme) in
      let p = none_of (same a_number kind) (same a_large kind) (same a_name kind)
      (same (a_sign 40) kind) e in
      no_first sum_language opening (sequence (rule a_sum) closing) s (rest k) _
      (token_barred sum_language opening refl s k p.2)
      ∙ sym (at_right sum_language number_token (either name_token parentheses) s k p.0
      ∙ at_right sum_language name_token parentheses s k p.1)

  pub no_atom : ((v : _) → k.token.lexeme ≡ code_lexeme.Number v → ⊥)
      → (k.token.lexeme ≡ code_lexeme.Large → ⊥) → ((w : _) → k.token.lexeme ≡ code_lexeme.Name w
      → ⊥) → (k.token.lexeme ≡ code_lexeme.Sign 40 → ⊥)
      → fault_at syntax k.token.at ≡ reading sum_language atom s (rest k)
  no_atom h i j l = atom_barred (unlike atom_kinds k.token.lexeme refl (h, (i, (j, (l, tt)))))

  -- ---- factors
  pub factor_opposite : seen_lexeme k.token.lexeme ≡ lexemes.sign 45
      → reading sum_language factor s (rest k) ≡ reading sum_language opposite s (rest k)
  factor_opposite is = at_right sum_language (sequence atom raising) opposite s k
      (kind_here k atom_kinds (lexemes.sign 45) false is refl)

  pub factor_atom : is_sign_of (seen_lexeme k.token.lexeme) 45 ≡ false
      → reading sum_language factor s (rest k) ≡ reading sum_language (sequence atom raising) s
      (rest k)
  factor_atom e = go (starts sum_language atom k) refl
    where
      go : (b : Bool) → starts sum_language atom k ≡ b → reading sum_language factor s (rest k)
          ≡ reading sum_language (sequence atom raising) s (rest k)
      go true h = at_left sum_language (sequence atom raising) opposite s k h
      go false h =
          at_right sum_language (sequence atom raising) opposite s k h
          ∙ sym (no_first sum_language leading_minus (sequence (rule a_factor) negation) s (rest k)
          _ (token_barred sum_language leading_minus refl s k
          (no_sign 45 (seen_lexeme k.token.lexeme) e)))
          ∙ no_first sum_language atom raising s (rest k) _ (atom_barred h)

  pub raising_none : is_sign_of (seen_lexeme k.token.lexeme) 94 ≡ false
      → Ok (s, rest k) ≡ reading sum_language raising s (rest k)
  raising_none e = sym (at_right sum_language (sequence (operator 94) exponent)
      (change (λ c. c) (λ c v. v)) s k (no_sign 94 (seen_lexeme k.token.lexeme) e)
      ∙ reading_change sum_language (λ c. c) (λ c v. v) s (here k) (behind k))

  pub raising_some : seen_lexeme k.token.lexeme ≡ lexemes.sign 94
      → reading sum_language raising s (rest k) ≡ reading sum_language
      (sequence (operator 94) exponent) s (rest k)
  raising_some is = at_left sum_language (sequence (operator 94) exponent)
      (change (λ c. c) (λ c v. v)) s k (kind_here k (a_sign 94 ∷ []) (lexemes.sign 94) true is refl)

-- ---- what stands behind a product and behind a sum
module _ (k : Cursor) where
  abbrev MoreBy : Rule → Rule → Type 0
  MoreBy more way = (s : SumState) → reading sum_language (many more) s (rest k)
      ≡ reading sum_language (sequence way (many more)) s (rest k)

  pub more_times : seen_lexeme k.token.lexeme ≡ lexemes.sign 42 → MoreBy next_factor times
  more_times is = λ s. at_more sum_language sums_checked next_factor refl s k
      (kind_here k (a_sign 42 ∷ a_sign 47 ∷ []) (lexemes.sign 42) true is refl) times
      (at_left sum_language times over s k (kind_here k (a_sign 42 ∷ []) (lexemes.sign 42) true is
      refl))

  pub more_over : seen_lexeme k.token.lexeme ≡ lexemes.sign 47 → MoreBy next_factor over
  more_over is = λ s. at_more sum_language sums_checked next_factor refl s k
      (kind_here k (a_sign 42 ∷ a_sign 47 ∷ []) (lexemes.sign 47) true is refl) over
      (at_right sum_language times over s k (kind_here k (a_sign 42 ∷ []) (lexemes.sign 47) false is
      refl))

  pub more_joins : (negative : Bool) → seen_lexeme k.token.lexeme ≡ lexemes.sign (sign_of negative)
      → MoreBy next_product (joins negative)
  more_joins false is = λ s. at_more sum_language sums_checked next_product refl s k
      (kind_here k (a_sign 43 ∷ a_sign 45 ∷ []) (lexemes.sign 43) true is refl) (joins false)
      (at_left sum_language (joins false) (joins true) s k (kind_here k (a_sign 43 ∷ [])
      (lexemes.sign 43) true is refl))
  more_joins true is = λ s. at_more sum_language sums_checked next_product refl s k
      (kind_here k (a_sign 43 ∷ a_sign 45 ∷ []) (lexemes.sign 45) true is refl) (joins true)
      (at_right sum_language (joins false) (joins true) s k (kind_here k (a_sign 43 ∷ [])
      (lexemes.sign 45) false is refl))

  neither : (b c : ℕ) → is_sign_of (seen_lexeme k.token.lexeme) b ≡ false
      → is_sign_of (seen_lexeme k.token.lexeme) c ≡ false
      → has same (a_sign b ∷ a_sign c ∷ []) (kind_of (seen_lexeme k.token.lexeme)) ≡ false
  neither b c e h =
      let kind = kind_of (seen_lexeme k.token.lexeme) in
      or_from (same (a_sign b) kind) (same (a_sign c) kind || false)
      (or_parts (same (a_sign b) kind) false (no_sign b (seen_lexeme k.token.lexeme) e)).0
      (no_sign c (seen_lexeme k.token.lexeme) h)

  abbrev NoMore : Rule → Type 0
  NoMore more = (s : SumState) → Ok (s, rest k) ≡ reading sum_language (many more) s (rest k)

  pub no_more_factors : is_sign_of (seen_lexeme k.token.lexeme) 42 ≡ false
      → is_sign_of (seen_lexeme k.token.lexeme) 47 ≡ false → NoMore next_factor
  no_more_factors e h = λ s. at_none sum_language sums_checked next_factor refl s k
      (neither 42 47 e h)

  pub no_more_products : is_sign_of (seen_lexeme k.token.lexeme) 43 ≡ false
      → is_sign_of (seen_lexeme k.token.lexeme) 45 ≡ false → NoMore next_product
  no_more_products e h = λ s. at_none sum_language sums_checked next_product refl s k
      (neither 43 45 e h)

-- ---- tokens that change the state
module _ (a : Around) (n : Progress) (k : Cursor) where
  module _ (b : ℕ) (known : IsTrue (is_sign b)) (is : seen_lexeme k.token.lexeme ≡ lexemes.sign
      b) where
    pub operator_read : n.operators < 1024 → (d : Cursor) → tokens_from k.text.now k.token.end
        ≡ rest d
        → Ok (state_in (with_operator a k.token.at) (counted n), rest d) ≡ reading sum_language
        (operator b)
        (state_in a n) (rest k)
    unfolding most_operators
    operator_read few d next =
        ap (λ m. Ok (state_in (with_operator a k.token.at) (record n { operators = m }), rest d))
        (add-one n.operators)
        ∙ token_read sum_language (operator b) refl (state_in a n) k (lexemes.sign b) is
        (a_sign_kind b known) d next (ap (λ t. unless t limit) (le-leb (suc n.operators) 1024 few))

    pub operator_past : 1024 ≤ n.operators → fault_at limit k.token.at ≡ reading sum_language
        (operator b)
        (state_in a n) (rest k)
    unfolding most_operators
    operator_past h = token_faulty sum_language (operator b) refl (state_in a n) k (lexemes.sign b)
        is (a_sign_kind b known) limit
        (ap (λ t. unless t limit) (lt-leb (suc n.operators) 1024 (omega arith)))

  module _ (is : seen_lexeme k.token.lexeme ≡ lexemes.sign 40) where
    pub opening_read : a.depth < 64 → (d : Cursor) → tokens_from k.text.now k.token.end ≡ rest d
        → Ok (state_in (inside a) n, rest d) ≡ reading sum_language opening (state_in a n) (rest k)
    unfolding most_depth
    opening_read room d next =
        ap (λ m. Ok (state_in (record a { depth = m }) n, rest d)) (add-one a.depth)
        ∙ token_read sum_language opening refl (state_in a n) k (lexemes.sign 40) is refl d next
        (ap (λ t. unless t limit) (le-leb (suc a.depth) 64 room))

    pub parentheses_past : 64 ≤ a.depth → fault_at limit k.token.at ≡ reading sum_language
        parentheses (state_in a n) (rest k)
    unfolding most_depth
    parentheses_past deep =
        no_first sum_language opening (sequence (rule a_sum) closing) (state_in a n) (rest k) _
        (token_faulty sum_language opening refl (state_in a n) k (lexemes.sign 40) is refl limit
        (ap (λ t. unless t limit) (lt-leb (suc a.depth) 64 (omega arith))))

  pub closing_read : seen_lexeme k.token.lexeme ≡ lexemes.sign 41 → (d : Cursor)
      → tokens_from k.text.now k.token.end ≡ rest d → Ok (state_in a n, rest d)
      ≡ reading sum_language closing (state_in (inside a) n) (rest k)
  closing_read is d next = ap (λ d'. Ok (state_in (record a { depth = d' }) n, rest d))
      (sym (add-sub_cancel a.depth 1))
      ∙ token_read sum_language closing refl (state_in (inside a) n) k (lexemes.sign 41) is refl d
      next refl

  pub closing_barred : is_sign_of (seen_lexeme k.token.lexeme) 41 ≡ false
      → fault_at syntax k.token.at ≡ reading sum_language closing (state_in (inside a) n) (rest k)
  closing_barred e = token_barred sum_language closing refl (state_in (inside a) n) k
      (no_sign 41 (seen_lexeme k.token.lexeme) e)

  module _ (is : seen_lexeme k.token.lexeme ≡ lexemes.sign 45) where
    pub minus_read : a.depth < 64 → n.operators < 1024 → (d : Cursor)
        → tokens_from k.text.now k.token.end
        ≡ rest d
        → Ok (state_in (inside (with_operator a k.token.at)) (counted n), rest d)
        ≡ reading sum_language
        leading_minus (state_in a n) (rest k)
    unfolding most_depth most_operators
    minus_read room few d next =
        ap₂ (λ m o. Ok (
          state_in (record (with_operator a k.token.at) { depth = m }) (record n { operators = o }),
          rest d,
        )) (add-one a.depth) (add-one n.operators)
        ∙ token_read sum_language leading_minus refl (state_in a n) k (lexemes.sign 45) is refl d
        next
        (ap₂ (λ t u. or_else (unless t limit) (unless u limit)) (le-leb (suc a.depth) 64 room)
        (le-leb (suc n.operators) 1024 few))

    pub opposite_past : (64 ≤ a.depth) ⊎ (1024 ≤ n.operators) → fault_at limit k.token.at
        ≡ reading sum_language opposite (state_in a n) (rest k)
    unfolding most_depth most_operators
    opposite_past past =
        no_first sum_language leading_minus (sequence (rule a_factor) negation) (state_in a n)
        (rest k) _
        (token_faulty sum_language leading_minus refl (state_in a n) k (lexemes.sign 45) is refl
        limit (elim past [
          | inl deep
              ↦ ap (λ t. or_else (unless t limit) (unless (nat_le (suc n.operators) 1024) limit))
              (lt-leb (suc a.depth) 64 (omega arith))
          | inr high ↦ ap (λ t. or_else (unless (nat_le (suc a.depth) 64) limit) (unless t limit))
              (lt-leb (suc n.operators) 1024 (omega arith)) ∙ whichever (nat_le (suc a.depth) 64)
        ]))
      where
        whichever : (b : Bool) → or_else (unless b limit) (Some limit) ≡ Some limit
        whichever true = refl
        whichever false = refl

-- ---- exponents
module _ (s : SumState) (k : Cursor) where
  module _ (v : ℕ) (is : k.token.lexeme ≡ code_lexeme.Number v) where
    pub exponent_read : v ≤ 16 → (d : Cursor) → tokens_from k.text.now k.token.end ≡ rest d
        → Ok (with_exponent s v, rest d) ≡ reading sum_language exponent s (rest k)
    unfolding most_exponent
    exponent_read low d next = token_read sum_language exponent refl s k (lexemes.number v)
        (ap seen_lexeme is) (number_kind numbers k v is) d next
        (ap (λ t. unless t limit) (le-leb v 16 low))

    pub exponent_past : 16 < v → fault_at limit k.token.at ≡ reading sum_language exponent s
        (rest k)
    unfolding most_exponent
    exponent_past high = token_faulty sum_language exponent refl s k (lexemes.number v)
        (ap seen_lexeme is) (number_kind numbers k v is) limit
        (ap (λ t. unless t limit) (lt-leb v 16 high))

  pub exponent_large : k.token.lexeme ≡ code_lexeme.Large → fault_at limit k.token.at
      ≡ reading sum_language exponent s (rest k)
  exponent_large is = token_faulty sum_language exponent refl s k lexemes.large (ap seen_lexeme is)
      refl limit refl

  pub exponent_barred : ((v : _) → k.token.lexeme ≡ code_lexeme.Number v → ⊥)
      → (k.token.lexeme ≡ code_lexeme.Large → ⊥) → fault_at syntax k.token.at ≡ reading sum_language
      exponent s (rest k)
  exponent_barred h i = token_barred sum_language exponent refl s k (unlike numbers k.token.lexeme
      refl (h, (i, tt)))

-- ---- changes
module _ (a : Around) (n : Progress) (at : ℕ) where
  pub negation_done : (e : Expr ℕ) (k : Cursor) → Ok (state_in (behind_expr a (neg at e)) n, rest k)
      ≡ reading sum_language negation (state_in (behind_expr (inside (with_operator a at)) e) n)
      (rest k)
  negation_done e k =
      ap (λ d. Ok (state_in (behind_expr (record a { depth = d }) (neg at e)) n, rest k))
      (sym (add-sub_cancel a.depth 1))
      ∙ sym (reading_change sum_language shallower (λ c v. with_one neg v)
      (state_in (behind_expr (inside (with_operator a at)) e) n) (here k) (behind k))

  pub combine_done : (p : Expr ℕ) (f : ℕ → Expr ℕ → Expr ℕ → Expr ℕ) (q : Expr ℕ) (k : Cursor)
      → Ok (state_in (behind_expr a (f at p q)) n, rest k) ≡ reading sum_language (combine f)
      (state_in (behind_expr (with_operator (behind_expr a p) at) q) n) (rest k)
  combine_done p f q k = sym (reading_change sum_language (λ c. c) (λ c v. with_two f v)
      (state_in (behind_expr (with_operator (behind_expr a p) at) q) n) (here k) (behind k))

  pub division_done : (p q : Expr ℕ) (k : Cursor)
      → Ok (
        state_in (behind_expr a (mul at p (variable (length a.names + length n.divisors))))
            (record n { divisors = n.divisors ++ record { at = at; value = q } ∷ [] }),
        rest k,
      ) ≡ reading sum_language (change (λ c. c) (λ c v. divided c.names v))
      (state_in (behind_expr (with_operator (behind_expr a p) at) q) n) (rest k)
  division_done p q k = sym (reading_change sum_language (λ c. c) (λ c v. divided c.names v)
      (state_in (behind_expr (with_operator (behind_expr a p) at) q) n) (here k) (behind k))

-- ---- what stands behind a /
module _ (s : SumState) (k : Cursor) where
  module _ (v : ℕ) (is : k.token.lexeme ≡ code_lexeme.Number v) where
    pub divisor_read : 0 < v → (d : Cursor) → tokens_from k.text.now k.token.end ≡ rest d
        → Ok (with_divisor s v, rest d) ≡ reading sum_language divisor_token s (rest k)
    divisor_read some d next = token_read sum_language divisor_token refl s k (lexemes.number v)
        (ap seen_lexeme is) (number_kind divisor_kinds k v is) d next
        (ap (λ t. unless t divisor) (le-leb 1 v some))

    pub divisor_zero : v ≡ 0 → fault_at divisor k.token.at ≡ reading sum_language divisor_token s
        (rest k)
    divisor_zero none = token_faulty sum_language divisor_token refl s k (lexemes.number v)
        (ap seen_lexeme is) (number_kind divisor_kinds k v is) divisor
        (ap (λ t. unless t divisor) (lt-leb 1 v (omega arith)))

  pub divisor_large : k.token.lexeme ≡ code_lexeme.Large → fault_at wide k.token.at
      ≡ reading sum_language divisor_token s (rest k)
  divisor_large is = token_faulty sum_language divisor_token refl s k lexemes.large
      (ap seen_lexeme is) refl wide refl

  module _ (w : _) (is : k.token.lexeme ≡ code_lexeme.Name w) where
    name_at_fault : (why : Reason) → divisor_fault s.context (lexemes.name w.now) ≡ Some why
        → fault_at why k.token.at ≡ reading sum_language divisor_token s (rest k)
    name_at_fault why e = token_faulty sum_language divisor_token refl s k (lexemes.name w.now)
        (ap seen_lexeme is) (name_kind divisor_kinds k w is) why e

    pub divisor_name : name_fault s.context.names w.now ≡ None
        → fault_at divisor k.token.at ≡ reading sum_language divisor_token s (rest k)
    divisor_name free = name_at_fault divisor (ap (λ o. or_else o (Some divisor)) free)

    pub divisor_refused : (e : ProgramTextError)
        → fault_of e ≡ option_map (λ why. record { reason = why; at = k.token.at })
        (name_fault s.context.names w.now)
        → IsFault e (reading sum_language divisor_token s (rest k))
    divisor_refused e told = fault_told e k.token.at (name_fault s.context.names w.now)
        (reading sum_language divisor_token s (rest k)) told (λ why h.
        name_at_fault why (ap (λ o. or_else o (Some divisor)) h))

  pub divisor_barred : ((w : _) → k.token.lexeme ≡ code_lexeme.Name w → ⊥)
      → ((v : _) → k.token.lexeme ≡ code_lexeme.Number v → ⊥) → (k.token.lexeme ≡ code_lexeme.Large
      → ⊥)
      → ((b : _) → k.token.lexeme ≡ code_lexeme.Sign b → ⊥) → fault_at syntax k.token.at
      ≡ reading sum_language divisor_token s (rest k)
  divisor_barred h i j l = token_barred sum_language divisor_token refl s k
      (unlike divisor_kinds k.token.lexeme refl (i, (j, (h, (l 45, (l 40, tt))))))

  -- ---- what the rule says
  number_kinds : begins_by_number k ≡ true → starts sum_language number_divisor k ≡ true
  number_kinds is = by_lexeme k.token.lexeme refl is
    where
      by_lexeme : (l : code.Lexeme) → k.token.lexeme ≡ l → is_number l ≡ true
          → starts sum_language number_divisor k ≡ true
      by_lexeme (code_lexeme.Number v) e h = kind_here k numbers (lexemes.number v) true
          (ap seen_lexeme e) (number_kind numbers k v e)
      by_lexeme code_lexeme.Large e h =
          kind_here k numbers lexemes.large true (ap seen_lexeme e) refl
      by_lexeme l e h = absurd (cc)

  no_number_kinds : begins_by_number k ≡ false → starts sum_language number_divisor k ≡ false
  no_number_kinds is = unlike numbers k.token.lexeme refl (
    λ v e. true≢false (ap is_number (sym e) ∙ is),
    (λ e. true≢false (ap is_number (sym e) ∙ is), tt),
  )

  all_kinds : starts sum_language number_divisor k ≡ true → starts sum_language divisor_token k
      ≡ true
  all_kinds h =
      let kind = kind_of (seen_lexeme k.token.lexeme) in
      more (same a_number kind) (same a_large kind) (has same (a_name ∷ a_sign 45 ∷ a_sign 40 ∷ [])
      kind) h
    where
      more : (b c d : Bool) → (b || (c || false)) ≡ true → (b || (c || d)) ≡ true
      more true c d e = refl
      more false true d e = refl
      more false false d e = absurd (cc)

  -- where a number comes next, or only numbers may
  pub over_number : (s.context.free && not (begins_by_number k)) ≡ false
      → reading sum_language (rule a_divisor) s (rest k) ≡ reading sum_language divisor_token s
      (rest k)
  over_number h =
      reading_rule sum_language sums_checked a_divisor s (rest k)
      ∙ go s.context.free (begins_by_number k) refl h
    where
      go : (b c : Bool) → begins_by_number k ≡ c → (b && not c) ≡ false
          → reading sum_language (divisor_by b) s (rest k) ≡ reading sum_language divisor_token s
          (rest k)
      go false c e h = refl
      go true true e h =
          at_left sum_language number_divisor factor_divisor s k (number_kinds e)
          ∙ as_token sum_language number_divisor divisor_token s k refl refl (number_kinds e)
          (all_kinds (number_kinds e)) refl refl
      go true false e h = absurd (cc)

  -- where another factor may
  pub over_factor : s.context.free ≡ true → begins_by_number k ≡ false
      → reading sum_language (rule a_divisor) s (rest k) ≡ reading sum_language
      (sequence factor (change (λ c. c) (λ c v. divided c.names v))) s (rest k)
  over_factor free h =
      reading_rule sum_language sums_checked a_divisor s (rest k)
      ∙ ap (λ b. reading sum_language (divisor_by b) s (rest k)) free
      ∙ at_right sum_language number_divisor factor_divisor s k (no_number_kinds h)
      ∙ in_first sum_language no_number (change (λ c. c) (λ c v. divided c.names v)) s (rest k)
      factor s (rest k) (go (starts sum_language (either name_token parentheses) k) refl)
    where
      either_way : (b c : Bool) → b ≡ false → (b || c) ≡ c
      either_way b c e = ap (λ b. b || c) e

      go : (b : Bool) → starts sum_language (either name_token parentheses) k ≡ b
          → reading sum_language no_number s (rest k) ≡ reading sum_language factor s (rest k)
      go b e =
          let kind = kind_of (seen_lexeme k.token.lexeme) in
          let atoms : starts sum_language atom k ≡ b = without (same a_number kind)
          (same a_large kind) (has same (a_name ∷ a_sign 40 ∷ []) kind) (no_number_kinds h) ∙ e in
          by b e atoms
        where
          without : (b c d : Bool) → (b || (c || false)) ≡ false → (b || (c || d)) ≡ d
          without false false d e = refl
          without b c d e = absurd (cc)

          by : (b : Bool) → starts sum_language (either name_token parentheses) k ≡ b
              → starts sum_language atom k ≡ b
              → reading sum_language no_number s (rest k) ≡ reading sum_language factor s (rest k)
          by true e f =
              at_left sum_language (sequence (either name_token parentheses) raising) opposite s k e
              ∙ in_first sum_language (either name_token parentheses) raising s (rest k) atom s
              (rest k) (sym (at_right sum_language number_token (either name_token parentheses) s k
              (no_number_kinds h)))
              ∙ sym (at_left sum_language (sequence atom raising) opposite s k f)
          by false e f =
              at_right sum_language (sequence (either name_token parentheses) raising) opposite s k
              e
              ∙ sym (at_right sum_language (sequence atom raising) opposite s k f)

-- ---- a sign in place of a divisor
module _ (s : SumState) (at : ℕ) (ts : List Placed) (b : ℕ) where
  -- minus: whether the sign is -; room, few: whether one more may be open, and one more operator
  -- read
  abbrev fault_by : Bool → Bool → Bool → Option Reason
  fault_by minus room few = or_else (if minus then or_else (unless room limit) (unless few limit)
      else unless room limit) (Some divisor)

  module _ (begins : (b ≡ 40) ⊎ (b ≡ 45)) where
    sign_faulty : (minus room few : Bool) → (b == 45) ≡ minus → nat_le (suc s.context.depth) 64
        ≡ room → nat_le (suc s.context.operators) 1024 ≡ few → (why : Reason)
        → fault_by minus room few ≡ Some why
        → fault_at why at ≡ reading sum_language divisor_token s
        (record { at = at; lexeme = lexemes.sign b } ∷ ts)
    unfolding most_depth most_operators
    sign_faulty minus room few e f g why h =
        faulty sum_language divisor_token s (record { at = at; lexeme = lexemes.sign b }) ts why
        refl
        (elim begins [
          | inl is ↦ ap (λ b. has same divisor_kinds (kind_of (lexemes.sign b))) is
          | inr is ↦ ap (λ b. has same divisor_kinds (kind_of (lexemes.sign b))) is
        ])
        (ap₂ (λ m r. fault_by m r (nat_le (suc s.context.operators) 1024)) e f
        ∙ ap (fault_by minus room) g ∙ h)

    pub divisor_deep : 64 ≤ s.context.depth → fault_at limit at ≡ reading sum_language divisor_token
        s (record { at = at; lexeme = lexemes.sign b } ∷ ts)
    divisor_deep deep = sign_faulty (b == 45) false (nat_le (suc s.context.operators) 1024) refl
        (lt-leb (suc s.context.depth) 64 (omega arith)) refl limit
        (either (b == 45) (nat_le (suc s.context.operators) 1024))
      where
        either : (minus few : Bool) → fault_by minus false few ≡ Some limit
        either true few = refl
        either false few = refl

    pub divisor_sign : s.context.depth < 64 → ((b ≡ 45) × (s.context.operators < 1024))
        ⊎ (b ≡ 45 → ⊥) → fault_at divisor at ≡ reading sum_language divisor_token s
        (record { at = at; lexeme = lexemes.sign b } ∷ ts)
    divisor_sign room few = elim few [
      | inl (is, below) ↦ sign_faulty true true true (eq-eqb b 45 is) (le-leb (suc s.context.depth)
          64 room) (le-leb (suc s.context.operators) 1024 below) divisor refl
      | inr other ↦ sign_faulty false true (nat_le (suc s.context.operators) 1024)
          (ne_eqb b 45 other) (le-leb (suc s.context.depth) 64 room) refl divisor refl
    ]

  pub divisor_many : b ≡ 45 → s.context.depth < 64 → 1024 ≤ s.context.operators
      → fault_at limit at ≡ reading sum_language divisor_token s
      (record { at = at; lexeme = lexemes.sign b } ∷ ts)
  divisor_many is room h = sign_faulty (inr is) true true false (eq-eqb b 45 is)
      (le-leb (suc s.context.depth) 64 room) (lt-leb (suc s.context.operators) 1024 (omega arith))
      limit refl

  pub divisor_no_sign : (b ≡ 40 → ⊥) → (b ≡ 45 → ⊥) → fault_at syntax at ≡ reading sum_language
      divisor_token s (record { at = at; lexeme = lexemes.sign b } ∷ ts)
  divisor_no_sign h i =
      amiss sum_language divisor_token s (record { at = at; lexeme = lexemes.sign b }) ts refl
      (by_shape divisor_kinds (lexemes.sign b) refl (or_from (45 == b) (40 == b || false)
      (ne_eqb 45 b (λ e. i (sym e))) (or_from (40 == b) false (ne_eqb 40 b (λ e. h (sym e)))
      refl)))
