-- Kinds of lexemes, by cases.
--   shape x            the kind of x, if bytes spell it
--   by_shape           a set of kinds without no_kind has the kind of x only where it has its shape
--   Unlike l ks, unlike     a lexeme that is of none of the kinds ks by its variant, and by its kind
--   sign_is, no_sign, a_sign_kind     whether a lexeme is a sign is told by its kind
--   end_is, no_end     whether it is the end;  sign_no_end: a sign isn't
use Rattle.std.proofs.Common.{◌≡◌, ℕ, List, [], ◌∷◌, refl, ap, ap₂, sym, ◌∙◌, Bool, true, false, ◌||◌, ◌==◌, ◌^◌, nat_lt, if◌then◌else◌, IsTrue, ◌≢◌, true≢false}
use Rattle.std.proofs.lemmas.Bool.{eqb-true, eqb-false, ne_eqb}
use Rattle.algebra.proofs.Basics.{eqb_same}
use Rattle.std.proofs.Math.Bool.{or-false}
use Rattle.loop_model.specs.Words.{is_plain_word}
use Rattle.grammars.specs.Kinds.{has}
use Rattle.poly_text.specs.Tokens as tokens
use Rattle.poly_text.specs.Lexemes.{Lexeme, name, keyword, number, large, sign, item, bad, the_end, is_item, is_sign_of, is_end_of}
use Rattle.poly_text.specs.NextToken.{seen_lexeme}
use Rattle.poly_text.specs.declared.lexemes.Lexeme as code
use Rattle.poly_text.specs.declared.lexemes.Lexeme.TheVariants as code_lexeme
use Rattle.poly_text.specs.Kinds.{Kind, a_name, a_number, a_large, an_item, an_end, no_kind, a_sign, a_keyword, same, kind_of}

abbrev pub shape : Lexeme → Kind
shape (name w) = a_name
shape (keyword k) = a_keyword k
shape (number n) = a_number
shape large = a_large
shape (sign c) = a_sign c
shape (item c) = an_item
shape bad = no_kind
shape the_end = an_end

either_kind : (ks : List Kind) (b : Bool) (k : Kind) → has same ks no_kind ≡ false
    → has same ks k ≡ false → has same ks (if b then k else no_kind) ≡ false
either_kind ks true k none e = e
either_kind ks false k none e = none

-- what isn't of a kind by its shape isn't at all
pub by_shape : (ks : List Kind) (x : Lexeme) → has same ks no_kind ≡ false
    → has same ks (shape x) ≡ false → has same ks (kind_of x) ≡ false
by_shape ks (name w) none e = either_kind ks (is_plain_word w) a_name none e
by_shape ks (number n) none e = either_kind ks (nat_lt n (2 ^ 127)) a_number none e
by_shape ks (sign c) none e = either_kind ks (tokens.is_sign c) (a_sign c) none e
by_shape ks (item c) none e = either_kind ks (is_item c) an_item none e
by_shape ks x none e = e

-- ---- what a match leaves over
abbrev UnlikeKind : code.Lexeme → Kind → Type 0
UnlikeKind l a_name = (w : _) → l ≡ code_lexeme.Name w → ⊥
UnlikeKind l a_number = (v : _) → l ≡ code_lexeme.Number v → ⊥
UnlikeKind l a_large = l ≡ code_lexeme.Large → ⊥
UnlikeKind l an_item = (c : _) → l ≡ code_lexeme.Item c → ⊥
UnlikeKind l an_end = l ≡ code_lexeme.End → ⊥
UnlikeKind l no_kind = l ≡ code_lexeme.Bad → ⊥
UnlikeKind l (a_sign b) = l ≡ code_lexeme.Sign b → ⊥
UnlikeKind l (a_keyword k) = (j : _) → l ≡ code_lexeme.Keyword j → ⊥

abbrev pub Unlike : code.Lexeme → List Kind → Type 0
Unlike l [] = Unit {0}
Unlike l (k ∷ ks) = UnlikeKind l k × Unlike l ks

unlike_kind : (k : Kind) (l : code.Lexeme) → UnlikeKind l k → same k (shape (seen_lexeme l)) ≡ false
unlike_kind a_name (code_lexeme.Name w) h = absurd (h w refl)
unlike_kind a_number (code_lexeme.Number v) h = absurd (h v refl)
unlike_kind a_large code_lexeme.Large h = absurd (h refl)
unlike_kind an_item (code_lexeme.Item c) h = absurd (h c refl)
unlike_kind an_end code_lexeme.End h = absurd (h refl)
unlike_kind no_kind code_lexeme.Bad h = absurd (h refl)
unlike_kind (a_sign b) (code_lexeme.Sign c) h = ne_eqb b c (λ e. h (ap code_lexeme.Sign (sym e)))
unlike_kind (a_keyword k) (code_lexeme.Keyword j) h = absurd (h j refl)
unlike_kind k l h = refl

unlike_shape : (ks : List Kind) (l : code.Lexeme) → Unlike l ks
    → has same ks (shape (seen_lexeme l)) ≡ false
unlike_shape [] l h = refl
unlike_shape (k ∷ ks) l h = ap₂ (λ a b. a || b) (unlike_kind k l h.0) (unlike_shape ks l h.1)

pub unlike : (ks : List Kind) (l : code.Lexeme) → has same ks no_kind ≡ false → Unlike l ks
    → has same ks (kind_of (seen_lexeme l)) ≡ false
unlike ks l none h = by_shape ks (seen_lexeme l) none (unlike_shape ks l h)

-- ---- signs
pub sign_is : (x : Lexeme) (b : ℕ) → is_sign_of x b ≡ true → x ≡ sign b
sign_is (sign c) b e = ap sign (eqb-true c b e)
sign_is x b e = absurd (cc)

-- no sign b
pub no_sign : (b : ℕ) (x : Lexeme) → is_sign_of x b ≡ false → has same (a_sign b ∷ []) (kind_of x)
    ≡ false
no_sign b x e = by_shape (a_sign b ∷ []) x refl (go x e)
  where
    go : (x : Lexeme) → is_sign_of x b ≡ false → has same (a_sign b ∷ []) (shape x) ≡ false
    go (sign c) e = or-false (b == c) ∙ ne_eqb b c (λ same. eqb-false c b e (sym same))
    go x e = refl

-- a sign of the language
pub a_sign_kind : (b : ℕ) → IsTrue (tokens.is_sign b) → has same (a_sign b ∷ []) (kind_of (sign b))
    ≡ true
a_sign_kind b is = ap (λ t. has same (a_sign b ∷ []) (if t then a_sign b else no_kind)) is
    ∙ or-false (b == b) ∙ eqb_same b

-- ---- the end
pub end_is : (x : Lexeme) → is_end_of x ≡ true → x ≡ the_end
end_is the_end e = refl
end_is x e = absurd (cc)

pub no_end : (x : Lexeme) → is_end_of x ≡ false → has same (an_end ∷ []) (shape x) ≡ false
no_end the_end e = absurd (cc)
no_end x e = refl

pub sign_no_end : (l : code.Lexeme) (b : ℕ) → is_sign_of (seen_lexeme l) b ≡ true
    → l ≢ code_lexeme.End
sign_no_end l b e h = true≢false (sym e ∙ ap (λ l. is_sign_of (seen_lexeme l) b) h)
