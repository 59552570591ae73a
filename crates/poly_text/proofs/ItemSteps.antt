-- Reading flat polynomials item by item.
--   from_item, behind_term     the polynomial that is read where an item is due, and behind one
--   minus_some, minus_none, from_start     a leading minus sign
--   item_read, item_refused    an item
--   term_X                what follows an item: one that has its exponents was there before; an operator, the end, or neither
use Rattle.std.proofs.Common.{◌≡◌, ◌≢◌, ℕ, List, [], ◌∷◌, refl, ap, sym, subst, ◌∙◌}
use Rattle.std.specs.Prelude.{⊤, Bool, true, false, if◌then◌else◌, Option, Some, None, IfSome, option_map, Result, Ok, Err}
use Rattle.std.proofs.lemmas.Bool.{or_from}
use Rattle.std.proofs.Math.Bool.{or-false}
use Rattle.std.specs.Global.{Vec}
use Rattle.algebra.specs.Fraction.{Fraction}
use Rattle.frac128.specs.declared.fraction.Frac.{Frac}
use Rattle.poly.specs.declared.Term.{Term}
use Rattle.polynomials.specs.Terms.{Terms}
use Rattle.grammars.specs.Kinds.{has}
use Rattle.grammars.specs.Grammar.{sequence, many, optional}
use Rattle.poly_text.specs.Lexemes as lexemes
use Rattle.poly_text.specs.Lexemes.{Placed, tokens, tokens_from, is_sign_of}
use Rattle.poly_text.specs.Kinds.{Kind, an_end, a_sign, same, kind_of}
use Rattle.poly_text.specs.Reasons.{twice, Fault}
use Rattle.poly_text.specs.Faults.{fault_of}
use Rattle.poly_text.specs.NextToken.{seen_lexeme, tokens_behind}
use Rattle.poly_text.specs.CursorView.{rest, behind}
use Rattle.poly_text.specs.Told.{Told}
use Rattle.poly_text.specs.declared.error.TextError.{TextError}
use Rattle.poly_text.specs.declared.cursor.Cursor.{Cursor}
use Rattle.poly_text.specs.declared.lexemes.Lexeme.TheVariants as code_lexeme
use Rattle.poly_text.proofs.KindTests.{unlike, no_sign}
use Rattle.poly_text.proofs.Paths.{reading_change, IsFault, then_on, stopped, in_first, in_parts}
use Rattle.poly_text.proofs.WholeTexts.{whole_told, whole_reading}
use Rattle.poly_text.proofs.CursorReads.{GivesError, sign_here, here, taken, token_read, token_faulty, token_barred, at_left, at_right, at_more, at_none, no_first}
use Rattle.poly_text.specs.Flat.{FlatContext, Rule, stands, item_fault, with_item, at_item, operator_token, minus_token, item, next_item, flat, the_end, flat_language, start, terms_told, flat_of}
use Rattle.poly_text.specs.FlatReads.{state_of, polynomial_told}
use Rattle.poly_text.proofs.FlatChecked.{flat_checked}
use Rattle.poly_text.proofs.FlatSteps.{read}

abbrev pub polynomial : Told FlatContext ⊤ → Option (Terms Fraction)
polynomial r = terms_told (whole_told r)

-- the items behind one, up to the end
abbrev pub more_items : Rule
more_items = sequence (many next_item) the_end

abbrev pub from_item : List (List ℕ) → Terms Fraction → Bool → List Placed → Option (Terms Fraction)
from_item names found negative ts =
    polynomial (read (sequence item more_items) (state_of (at_item names found negative)) ts)

abbrev pub behind_term : FlatContext → List Placed → Option (Terms Fraction)
behind_term c ts = polynomial (read more_items (state_of c) ts)

-- ---- the first sign
module _ (names : List (List ℕ)) (k : Cursor) where
  pub minus_some : is_sign_of (seen_lexeme k.token.lexeme) 45 ≡ true → (d : Cursor)
      → tokens_from k.text.now k.token.end ≡ rest d → read (optional minus_token) (start names)
      (rest k) ≡ Ok (state_of (at_item names [] true), rest d)
  minus_some is d next =
      let sign = sign_here k 45 is in
      at_left flat_language minus_token _ (start names) k
      (ap (λ l. has same (a_sign 45 ∷ []) (kind_of l)) sign)
      ∙ sym (token_read flat_language minus_token refl (start names) k (lexemes.sign 45) sign
      refl d next refl)

  pub minus_none : is_sign_of (seen_lexeme k.token.lexeme) 45 ≡ false
      → read (optional minus_token) (start names) (rest k) ≡ Ok (
        state_of (at_item names [] false),
        rest k,
      )
  minus_none other = at_right flat_language minus_token _ (start names) k
      (no_sign 45 (seen_lexeme k.token.lexeme) other) ∙ reading_change flat_language (λ c. c)
      (λ c v. v) (start names) (here k) (behind k)

pub from_start : (names : List (List ℕ)) (bytes : List ℕ) (ts us : List Placed) (negative : Bool)
    → ts ≡ tokens bytes → read (optional minus_token) (start names) ts
    ≡ Ok (state_of (at_item names [] negative), us)
    → flat_of names bytes ≡ from_item names [] negative us
unfolding flat_of
from_start names bytes ts us negative are minus =
    let s = start names in
    let t = state_of (at_item names [] negative) in
    ap terms_told (whole_reading flat_language flat the_end s (tokens bytes))
    ∙ ap polynomial (ap (read (sequence flat the_end) s) (sym are)
    ∙ in_parts flat_language (optional minus_token) (sequence item (many next_item)) s ts
    the_end
    ∙ then_on flat_language (optional minus_token) (sequence (sequence item (many next_item))
    the_end) s ts t us (sym minus) ∙ in_parts flat_language item (many next_item) t us
    the_end)

-- ---- an item
module _ (names : List (List ℕ)) (found : Terms Fraction) (negative : Bool) (ts : List Placed) where
  pub item_read : (c : FlatContext) (us : List Placed)
      → Ok (state_of c, us) ≡ read item (state_of (at_item names found negative)) ts
      → from_item names found negative ts ≡ behind_term c us
  item_read c us e =
      ap polynomial (then_on flat_language item more_items (state_of (at_item names found negative))
      ts (state_of c) us e)

  pub item_refused : (e : TextError) {result : Result (Vec (Term Frac)) TextError}
      {y : Option (Terms Fraction)} → GivesError result e → y ≡ from_item names found negative ts
      → IsFault e (read item (state_of (at_item names found negative)) ts)
      → IfSome (polynomial_told result) (λ p. p ≡ y)
  item_refused e {y = y} is same h =
      subst (λ r. IfSome (polynomial_told r) (λ (p : Option (Terms Fraction)). p ≡ y))
      (sym (is.1 ∙ ap Err is.2))
      (go (fault_of e) (stopped flat_language item more_items
      (state_of (at_item names found negative)) ts e h))
    where
      go : (o : Option Fault) → IfSome (option_map Err o) (λ (r : Told FlatContext ⊤).
          r ≡ read (sequence item more_items) (state_of (at_item names found negative)) ts)
          → IfSome (option_map (λ f. None) o) (λ (p : Option (Terms Fraction)). p ≡ y)
      go None h = tt
      go (Some f) h = ap polynomial h ∙ sym same

-- ---- behind an item
abbrev operators : List Kind
operators = a_sign 43 ∷ a_sign 45 ∷ []

module _ (c : FlatContext) (k : Cursor) where
  abbrev shows : List Kind → Bool
  shows ks = has same ks (kind_of (seen_lexeme k.token.lexeme))

  no_more : shows operators ≡ false → read more_items (state_of c) (rest k) ≡ read the_end
      (state_of c) (rest k)
  no_more none = then_on flat_language (many next_item) the_end (state_of c) (rest k) (state_of c)
      (rest k) (at_none flat_language flat_checked next_item refl (state_of c) k none)

  one_more : shows operators ≡ true → read more_items (state_of c) (rest k)
      ≡ read (sequence operator_token (sequence item more_items)) (state_of c) (rest k)
  one_more more =
      in_first flat_language (many next_item) the_end (state_of c) (rest k)
      (sequence next_item (many next_item)) (state_of c) (rest k)
      (at_more flat_language flat_checked next_item refl (state_of c) k more next_item refl)
      ∙ in_parts flat_language next_item (many next_item) (state_of c) (rest k) the_end
      ∙ in_parts flat_language operator_token item (state_of c) (rest k) more_items

  pub term_repeated : stands c.found c.exponents ≡ true → None ≡ behind_term c (rest k)
  term_repeated repeated = go (shows operators) (shows (an_end ∷ [])) refl refl
    where
      fault : item_fault c ≡ Some twice
      fault = ap (λ b. if b then Some twice else None) repeated

      go : (b d : Bool) → shows operators ≡ b → shows (an_end ∷ []) ≡ d
          → None ≡ behind_term c (rest k)
      go true d more e =
          ap polynomial (no_first flat_language operator_token (sequence item more_items)
          (state_of c) (rest k) _ (token_faulty flat_language operator_token refl (state_of c)
          k (seen_lexeme k.token.lexeme) refl more twice fault) ∙ sym (one_more more))
      go false true none end = ap polynomial (token_faulty flat_language the_end refl (state_of c) k
          (seen_lexeme k.token.lexeme) refl end twice fault ∙ sym (no_more none))
      go false false none other =
          ap polynomial (token_barred flat_language the_end refl (state_of c) k other
          ∙ sym (no_more none))

  module _ (new : stands c.found c.exponents ≡ false) where
    no_fault : item_fault c ≡ None
    no_fault = ap (λ b. if b then Some twice else None) new

    pub term_operator : (b : ℕ) → is_sign_of (seen_lexeme k.token.lexeme) b ≡ true
        → has same operators (kind_of (lexemes.sign b)) ≡ true → (d : Cursor)
        → tokens_from k.text.now k.token.end ≡ rest d
        → behind_term c (rest k) ≡ from_item c.names (with_item c).found
        (is_sign_of (lexemes.sign b) 45) (rest d)
    term_operator b is kind d next =
        let sign = sign_here k b is in
        ap polynomial (one_more (ap (λ l. has same operators (kind_of l)) sign ∙ kind)
        ∙ then_on flat_language operator_token (sequence item more_items) (state_of c) (rest k)
        (state_of (at_item c.names (with_item c).found (is_sign_of (lexemes.sign b) 45)))
        (rest d)
        (token_read flat_language operator_token refl (state_of c) k (lexemes.sign b) sign kind d
        next no_fault))

    pub term_end : seen_lexeme k.token.lexeme ≡ lexemes.the_end → Some (with_item c).found
        ≡ behind_term c (rest k)
    term_end is =
        let none : behind k ≡ [] = ap (λ l. tokens_behind k.text.now l k.token.end) is in
        ap (λ ts. polynomial (Ok (state_of (with_item c), ts))) (sym none)
        ∙ ap polynomial (taken flat_language the_end (state_of c) (here k) (behind k) refl
        (ap (λ l. has same (an_end ∷ []) (kind_of l)) is) no_fault
        ∙ sym (no_more (ap (λ l. has same operators (kind_of l)) is)))

  pub term_barred : is_sign_of (seen_lexeme k.token.lexeme) 43 ≡ false
      → is_sign_of (seen_lexeme k.token.lexeme) 45 ≡ false → k.token.lexeme ≢ code_lexeme.End
      → None ≡ behind_term c (rest k)
  term_barred plus neither other =
      ap polynomial (token_barred flat_language the_end refl (state_of c) k
      (unlike (an_end ∷ []) k.token.lexeme refl (other, tt))
      ∙ sym (no_more (or_from (same (a_sign 43) (kind_of (seen_lexeme k.token.lexeme))) _
      (sym (or-false _) ∙ no_sign 43 (seen_lexeme k.token.lexeme) plus)
      (no_sign 45 (seen_lexeme k.token.lexeme) neither))))
