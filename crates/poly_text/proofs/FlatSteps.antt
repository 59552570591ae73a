-- Reading the parts of items from a cursor: what its token leads to.
--   name_X, exponent_X, denominator_X, number_barred     tokens: one that is taken, that is at fault, that can't stand there
--   raising_X, division_X, factor_X     what may follow a name, a number, a power
--   first_X                an item that begins with a number, or with a power
use Rattle.std.proofs.Common.{◌≡◌, ◌≢◌, ℕ, ◌<◌, ◌^◌, List, [], ◌∷◌, refl, ap, sym, ◌∙◌, arith}
use Rattle.std.specs.Prelude.{⊤, Bool, true, false, nat_le, nat_lt, if◌then◌else◌, IsTrue, Option, Some, None, unwrap_or, is_some, Ok}
use Rattle.std.proofs.lemmas.Bool.Decides.{nat_tests}
use Rattle.loop_model.specs.Words.{is_plain_word}
use Rattle.loop_model.specs.Names.{place_of}
use Rattle.grammars.specs.Kinds.{has}
use Rattle.grammars.specs.Grammar.{sequence, many, rule}
use Rattle.poly_text.specs.Lexemes as lexemes
use Rattle.poly_text.specs.Lexemes.{Lexeme, Placed, tokens_from, is_sign_of}
use Rattle.poly_text.specs.Kinds.{a_name, a_number, no_kind, a_sign, same, kind_of}
use Rattle.poly_text.specs.Reasons.{Reason, syntax, limit, divisor, unknown, unless}
use Rattle.poly_text.specs.NextToken.{seen_lexeme}
use Rattle.poly_text.specs.CursorView.{rest, behind}
use Rattle.poly_text.specs.Told.{Told}
use Rattle.poly_text.specs.Telling.{reading}
use Rattle.poly_text.specs.declared.lexemes.Lexeme.TheVariants as code_lexeme
use Rattle.poly_text.specs.declared.cursor.Cursor.{Cursor}
use Rattle.poly_text.proofs.KindTests.{unlike, no_sign}
use Rattle.poly_text.proofs.Paths.{reading_rule, reading_change, then_on, in_parts}
use Rattle.poly_text.proofs.CursorReads.{genuine_number, genuine_name, sign_here, fault_at, here, token_read, token_faulty, token_barred, at_left, at_right, at_more, at_none, no_first}
use Rattle.poly_text.specs.Flat.{FlatContext, FlatState, Rule, an_exponent, takes, fits, raise, with_power, sign_token, name_token, exponent_token, raising, power, factor, numerator_token, denominator_token, division, coefficient, first_part, flat_language}
use Rattle.poly_text.specs.FlatReads.{state_of, at_power, divided_by}
use Rattle.poly_text.proofs.FlatChecked.{said_if, flat_checked}

abbrev pub read : Rule → FlatState → List Placed → Told FlatContext ⊤
read g s ts = reading flat_language g s ts

pub number_kind : (v : ℕ) → v < 2 ^ 127 → has same (a_number ∷ []) (kind_of (lexemes.number v))
    ≡ true
number_kind v small = let fits : nat_lt v (2 ^ 127) ≡ true = grind (arith, nat_tests) in
    ap (λ t. has same (a_number ∷ []) (if t then a_number else no_kind)) fits

pub name_kind : (w : List ℕ) → IsTrue (is_plain_word w)
    → has same (a_name ∷ []) (kind_of (lexemes.name w)) ≡ true
name_kind w plain = ap (λ t. has same (a_name ∷ []) (if t then a_name else no_kind)) plain

-- a sign isn't the end
pub is_before_end : (k : Cursor) (b : ℕ) → is_sign_of (seen_lexeme k.token.lexeme) b ≡ true
    → k.token.lexeme ≢ code_lexeme.End
is_before_end k b sign end = let none : is_sign_of (seen_lexeme k.token.lexeme) b ≡ false =
    ap (λ l. is_sign_of (seen_lexeme l) b) end in cc

module _ (k : Cursor) where
  -- ---- tokens that can't stand there
  pub number_barred : (fault : FlatContext → Lexeme → Option Reason) (next : FlatContext → Lexeme
      → FlatContext) (s : FlatState) → ((v : _) → k.token.lexeme ≡ code_lexeme.Number v → ⊥)
      → fault_at syntax k.token.at ≡ read (takes (a_number ∷ []) fault next) s (rest k)
  number_barred fault next s other = token_barred flat_language (takes (a_number ∷ []) fault next)
      refl s k (unlike (a_number ∷ []) k.token.lexeme refl (other, tt))

  pub name_barred : (s : FlatState) → ((w : _) → k.token.lexeme ≡ code_lexeme.Name w → ⊥)
      → fault_at syntax k.token.at ≡ read name_token s (rest k)
  name_barred s other = token_barred flat_language name_token refl s k
      (unlike (a_name ∷ []) k.token.lexeme refl (other, tt))

  -- ---- a number
  module _ (v : ℕ) (is : k.token.lexeme ≡ code_lexeme.Number v) where
    kind : has same (a_number ∷ []) (kind_of (lexemes.number v)) ≡ true
    kind = number_kind v (genuine_number k v is)

    pub denominator_zero : (c : FlatContext) → v ≡ 0 → fault_at divisor k.token.at
        ≡ read denominator_token (state_of c) (rest k)
    denominator_zero c none =
        let below : nat_le 1 v ≡ false = grind (arith, nat_tests) in
        token_faulty flat_language denominator_token refl (state_of c) k (lexemes.number v)
        (ap seen_lexeme is) kind divisor (ap (λ t. unless t divisor) below)

    pub exponent_high : (c : FlatContext) (ns : List (List ℕ)) (e : List ℕ) (i : ℕ)
        → fits e i v ≡ false → fault_at limit k.token.at ≡ read exponent_token (at_power c ns e i)
        (rest k)
    exponent_high c ns e i high = token_faulty flat_language exponent_token refl (at_power c ns e i)
        k (lexemes.number v) (ap seen_lexeme is) kind limit (ap (λ t. unless t limit) high)

    module _ (d : Cursor) (next : tokens_from k.text.now k.token.end ≡ rest d) where
      pub denominator_goes : (c : FlatContext) → v ≢ 0 → Ok (divided_by c v, rest d)
          ≡ read denominator_token (state_of c) (rest k)
      denominator_goes c some =
          let above : nat_le 1 v ≡ true = grind (arith, nat_tests) in
          token_read flat_language denominator_token refl (state_of c) k (lexemes.number v)
          (ap seen_lexeme is) kind d next (ap (λ t. unless t divisor) above)

      pub exponent_goes : (c : FlatContext) (ns : List (List ℕ)) (e : List ℕ) (i : ℕ)
          → fits e i v ≡ true → Ok (at_power c ns (raise e i v) 0, rest d) ≡ read exponent_token
          (at_power c ns e i) (rest k)
      exponent_goes c ns e i fit = token_read flat_language exponent_token refl (at_power c ns e i)
          k (lexemes.number v) (ap seen_lexeme is) kind d next (ap (λ t. unless t limit) fit)

      pub first_number : (c : FlatContext) → read first_part (state_of c) (rest k) ≡ read division
          (state_of (record c { numerator = v })) (rest d)
      first_number c =
          at_left flat_language coefficient power (state_of c) k
          (ap (λ l. has same (a_number ∷ []) (kind_of (seen_lexeme l))) is ∙ kind)
          ∙ then_on flat_language numerator_token division (state_of c) (rest k)
          (state_of (record c { numerator = v })) (rest d)
          (token_read flat_language numerator_token refl (state_of c) k (lexemes.number v)
          (ap seen_lexeme is) kind d next refl)

  pub first_power : (c : FlatContext) → ((v : _) → k.token.lexeme ≡ code_lexeme.Number v → ⊥)
      → read first_part (state_of c) (rest k) ≡ read power (state_of c) (rest k)
  first_power c other = at_right flat_language coefficient power (state_of c) k
      (unlike (a_number ∷ []) k.token.lexeme refl (other, tt))

  -- ---- a name
  module _ (c : FlatContext) (ns : List (List ℕ)) (e : List ℕ) (w : _) (is : k.token.lexeme
      ≡ code_lexeme.Name w) where
    pub name_unknown : place_of ns w.now ≡ None → fault_at unknown k.token.at ≡ read name_token
        (at_power c ns e 0) (rest k)
    name_unknown none = token_faulty flat_language name_token refl (at_power c ns e 0) k
        (lexemes.name w.now) (ap seen_lexeme is) (name_kind w.now (genuine_name k w is)) unknown
        (ap (λ o. unless (is_some o) unknown) none)

    pub name_goes : (i : ℕ) → place_of ns w.now ≡ Some i → (d : Cursor)
        → tokens_from k.text.now k.token.end ≡ rest d → Ok (at_power c ns e i, rest d)
        ≡ read name_token (at_power c ns e 0) (rest k)
    name_goes i place d next =
        ap (λ o. Ok (at_power c ns e (unwrap_or o 0), rest d)) (sym place)
        ∙ token_read flat_language name_token refl (at_power c ns e 0) k (lexemes.name w.now)
        (ap seen_lexeme is) (name_kind w.now (genuine_name k w is)) d next
        (ap (λ o. unless (is_some o) unknown) place)

  -- ---- behind a sign
  module _ (b : ℕ) (is : is_sign_of (seen_lexeme k.token.lexeme) b ≡ true)
      (kind : has same (a_sign b ∷ []) (kind_of (lexemes.sign b)) ≡ true) (d : Cursor)
      (next : tokens_from k.text.now k.token.end ≡ rest d) where
    starts : has same (a_sign b ∷ []) (kind_of (seen_lexeme k.token.lexeme)) ≡ true
    starts = ap (λ l. has same (a_sign b ∷ []) (kind_of l)) (sign_here k b is) ∙ kind

    behind_sign : (h : Rule) (c : FlatContext) → read (sequence (sign_token b) h) (state_of c)
        (rest k) ≡ read h (state_of c) (rest d)
    behind_sign h c = then_on flat_language (sign_token b) h (state_of c) (rest k) (state_of c)
        (rest d) (token_read flat_language (sign_token b) refl (state_of c) k (lexemes.sign b)
        (sign_here k b is) kind d next refl)

module _ (k : Cursor) (c : FlatContext) where
  pub factor_more : is_sign_of (seen_lexeme k.token.lexeme) 42 ≡ true → (d : Cursor)
      → tokens_from k.text.now k.token.end ≡ rest d → read (many factor) (state_of c) (rest k)
      ≡ read (sequence power (many factor)) (state_of c) (rest d)
  factor_more is d next =
      at_more flat_language flat_checked factor refl (state_of c) k (starts k 42 is refl d next)
      factor refl
      ∙ in_parts flat_language (sign_token 42) power (state_of c) (rest k) (many factor)
      ∙ behind_sign k 42 is refl d next (sequence power (many factor)) c

  pub factor_none : is_sign_of (seen_lexeme k.token.lexeme) 42 ≡ false → Ok (state_of c, rest k)
      ≡ read (many factor) (state_of c) (rest k)
  factor_none other = at_none flat_language flat_checked factor refl (state_of c) k
      (no_sign 42 (seen_lexeme k.token.lexeme) other)

  pub division_some : is_sign_of (seen_lexeme k.token.lexeme) 47 ≡ true → (d : Cursor)
      → tokens_from k.text.now k.token.end ≡ rest d → read denominator_token (state_of c) (rest d)
      ≡ read division (state_of c) (rest k)
  division_some is d next = sym (at_left flat_language (sequence (sign_token 47) denominator_token)
      _ (state_of c) k (starts k 47 is refl d next)
      ∙ behind_sign k 47 is refl d next denominator_token c)

  pub division_none : is_sign_of (seen_lexeme k.token.lexeme) 47 ≡ false → Ok (state_of c, rest k)
      ≡ read division (state_of c) (rest k)
  division_none other = sym (at_right flat_language (sequence (sign_token 47) denominator_token) _
      (state_of c) k (no_sign 47 (seen_lexeme k.token.lexeme) other)
      ∙ reading_change flat_language (λ c. c) (λ c v. v) (state_of c) (here k) (behind k))

module _ (k : Cursor) (c : FlatContext) (ns : List (List ℕ)) (e : List ℕ) (i : ℕ) where
  by_rule : (b : Bool) → fits e i 1 ≡ b → read (rule an_exponent) (at_power c ns e i) (rest k)
      ≡ read (said_if b) (at_power c ns e i) (rest k)
  by_rule b is = reading_rule flat_language flat_checked an_exponent (at_power c ns e i) (rest k)
      ∙ ap (λ b. read (said_if b) (at_power c ns e i) (rest k)) is

  pub raising_some : is_sign_of (seen_lexeme k.token.lexeme) 94 ≡ true → (d : Cursor)
      → tokens_from k.text.now k.token.end ≡ rest d → read exponent_token (at_power c ns e i)
      (rest d) ≡ read (rule an_exponent) (at_power c ns e i) (rest k)
  raising_some is d next =
      let behind = behind_sign k 94 is refl d next exponent_token (at_power c ns e i).context in
      sym (by_rule (fits e i 1) refl
      ∙ elim (fits e i 1) as (λ b. read (said_if b) (at_power c ns e i) (rest k)
      ≡ read exponent_token (at_power c ns e i) (rest d)) [
        | true
            ↦ at_left flat_language raising _ (at_power c ns e i) k (starts k 94 is refl d next)
            ∙ behind
        | false ↦ behind
      ])

  module _ (other : is_sign_of (seen_lexeme k.token.lexeme) 94 ≡ false) where
    pub raising_none : fits e i 1 ≡ true → Ok (at_power c ns (raise e i 1) 0, rest k)
        ≡ read (rule an_exponent) (at_power c ns e i) (rest k)
    raising_none fit =
        sym (by_rule true fit ∙ at_right flat_language raising _ (at_power c ns e i) k
        (no_sign 94 (seen_lexeme k.token.lexeme) other)
        ∙ reading_change flat_language (λ c. with_power c 1) (λ c v. v) (at_power c ns e i) (here k)
        (behind k))

    pub raising_missing : fits e i 1 ≡ false → fault_at syntax k.token.at ≡ read (rule an_exponent)
        (at_power c ns e i) (rest k)
    raising_missing high =
        no_first flat_language (sign_token 94) exponent_token (at_power c ns e i) (rest k) _
        (token_barred flat_language (sign_token 94) refl (at_power c ns e i) k
        (no_sign 94 (seen_lexeme k.token.lexeme) other))
        ∙ sym (by_rule false high)
