-- The grammar of flat polynomials is checked: the next token tells which way to go.
--   flat_read      a text is read to a state exactly where the grammar derives it
use Rattle.std.proofs.Common.{◌≡◌, List, [], ◌∷◌, refl, true, false}
use Rattle.std.specs.Prelude.{Bool, if◌then◌else◌, ◌↔◌}
use Rattle.loop_model.specs.Words as words
use Rattle.grammars.specs.Kinds.{within}
use Rattle.grammars.specs.Grammar.{change, either, rule}
use Rattle.grammars.specs.Derivation.{derives_token, derives_sequence, derives_left, derives_rule, Text}
use Rattle.grammars.specs.Reader.{read_whole, reads}
use Rattle.grammars.specs.First.{first}
use Rattle.grammars.specs.Spelled.{IsRead}
use Rattle.grammars.specs.Checked.{is_fit, begins_closed, IsChecked, IsWhole}
use Rattle.grammars.proofs.Reading.{whole_read}
use Rattle.poly_text.specs.Lexemes.{Placed}
use Rattle.poly_text.specs.Kinds.{Kind, a_number, a_sign, same, sample}
use Rattle.poly_text.proofs.SumChecked.{kinds_exact}
use Rattle.poly_text.specs.Flat.{FlatContext, FlatState, FlatRule, Rule, an_exponent, fits, with_power, raising, rule_says, flat_language, whole_flat}

-- what the rule says in either case
abbrev pub said_if : Bool → Rule
said_if fit = if fit then either raising (change (λ c. with_power c 1) (λ c v. v)) else raising

abbrev IsSound : FlatRule → Rule → Type 0
IsSound n g = (is_fit flat_language g (flat_language.follows n) ≡ true)
    × (begins_closed flat_language g ≡ true)
    × (within same (first flat_language g) (flat_language.begins n) ≡ true)

sound : (n : FlatRule) (c : FlatContext) → IsSound n (rule_says n c)
unfolding words.keyword_of
sound an_exponent c = elim (fits c.exponents c.place 1) as (λ b. IsSound an_exponent (said_if b)) [
  | true ↦ (refl, refl, refl)
  | false ↦ (refl, refl, refl)
]

abbrev sample_of : Kind → Placed
sample_of k = record { at = 0; lexeme = sample k }

-- a ^ and a number
module _ (s : FlatState) (gs : List Rule) (later : (t : FlatState) → Text flat_language gs t) where
  raising_text : Text flat_language (raising ∷ gs) s
  raising_text = record {
    marks = _;
    end = _;
    derivation =
        derives_sequence (derives_token {x = sample_of (a_sign 94)} refl
        (derives_token {x = sample_of a_number} refl (later _).derivation));
  }

  said_text : (b : Bool) → Text flat_language (said_if b ∷ gs) s
  said_text true = record {
    marks = raising_text.marks;
    end = raising_text.end;
    derivation = derives_left raising_text.derivation;
  }
  said_text false = raising_text

text : (n : FlatRule) (s : FlatState) (gs : List Rule) → ((t : FlatState) → Text flat_language gs t)
    → Text flat_language (rule n ∷ gs) s
text an_exponent s gs later =
    let t = said_text s gs later (fits s.context.exponents s.context.place 1) in
    record { marks = t.marks; end = t.end; derivation = derives_rule t.derivation }

pub flat_checked : IsChecked flat_language
flat_checked = record {
  kinds = kinds_exact;
  fit = λ n c. (sound n c).0;
  closed = λ n c. (sound n c).1;
  begins = λ n c. (sound n c).2;
  empty = λ n c e. refl;
  text = text;
}

flat_whole : IsWhole flat_language whole_flat
unfolding words.keyword_of
flat_whole = record { fit = refl; ends = refl }

pub flat_read : (ts : List Placed) (s t : FlatState)
    → (read_whole flat_language whole_flat s ts ≡ reads t [])
    ↔ IsRead flat_language whole_flat s ts t
flat_read ts s t = whole_read flat_language flat_checked whole_flat flat_whole s t ts
