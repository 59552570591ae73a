-- What is read of a text, and what is refused.
--   texts_read, texts_refused     what is read is a text, and what is refused is refused for its first fault
--   Outcome: is_read, is_refused      a text is read, or it is refused
--   outcome                       one of them comes: the end of a text is its last token, so reading never comes to an end before
use Rattle.std.proofs.Common.{◌≡◌, ℕ, List, [], ◌∷◌, ◌++◌, refl, sym, ap, ◌∙◌, false, Option, None, ◌↔◌}
use Rattle.algebra.proofs.Basics.{same_head, same_tail}
use Rattle.grammars.specs.Grammar.{Placed, State, Grammar, Language}
use Rattle.grammars.specs.Derivation.{Mark}
use Rattle.grammars.specs.Reader.{ReadResult, reads, refused, unended, read, at_text_end, read_whole}
use Rattle.grammars.specs.Checked.{IsChecked, IsWhole}
use Rattle.grammars.specs.FirstFault.{symbols_in, lexemes_of, sounds, IsFirstFault}
use Rattle.grammars.specs.Spelled.{IsRead, AreSpelled, spelled_marks}
use Rattle.grammars.proofs.Reading.{whole_read}
use Rattle.grammars.proofs.Faults.{whole_refused, unended_begins}
use Rattle.grammars.proofs.FirstFaults.{first_faults}
use Rattle.program_text.specs.Lexemes.{Lexeme, tokens}
use Rattle.program_text.specs.Kinds.{Kind}
use Rattle.program_text.proofs.Lexing.{Ends, ends_here, ends_later, behind_ends}

longer_never : {ts us : List (Placed Lexeme)} (l : Lexeme) (ls : List Lexeme) → Ends ts → Ends us
    → lexemes_of us ≡ lexemes_of ts ++ l ∷ ls → ⊥
longer_never l ls ends_here ends_here e = absurd (cc)
longer_never l ls ends_here (ends_later h k) e = h (same_head e)
longer_never l ls (ends_later h k) ends_here e = h (sym (same_head e))
longer_never l ls (ends_later h k) (ends_later g j) e = longer_never l ls k j (same_tail e)

lexemes-sounds : {R : Type 0} (ts : List (Placed Lexeme)) (ms : List (Mark (Placed Lexeme) R))
    → lexemes_of (symbols_in (sounds ts ++ ms)) ≡ lexemes_of ts ++ lexemes_of (symbols_in ms)
lexemes-sounds [] ms = refl
lexemes-sounds (t ∷ ts) ms = ap (λ ls. t.lexeme ∷ ls) (lexemes-sounds ts ms)

module _ {N C V R : Type 0} (L : Language N Kind Lexeme C V R) (checked : IsChecked L)
    (gs : List (Grammar N Kind Lexeme C V R)) (whole : IsWhole L gs)
    (s : State C V) (spelled : AreSpelled L gs s tokens) (bytes : List ℕ) where
  pub texts_read : (t : State C V) → (read_whole L gs s (tokens bytes) ≡ reads t [])
      ↔ IsRead L gs s (tokens bytes) t
  texts_read t = whole_read L checked gs whole s t (tokens bytes)

  pub texts_refused : (x : Placed Lexeme) (why : Option R)
      → (read_whole L gs s (tokens bytes) ≡ refused x why)
      ↔ IsFirstFault (spelled_marks L gs s tokens) (tokens bytes) x why
  texts_refused x why =
      let p = whole_refused L checked gs whole.fit s (tokens bytes) x why in
      let q = first_faults L gs s tokens spelled (tokens bytes) x why in
      ((λ e. q.0 (p.0 e)), (λ f. p.1 (q.1 f)))

  never_unended : read_whole L gs s (tokens bytes) ≡ unended → ⊥
  never_unended e =
      let b = unended_begins L checked (tokens bytes) gs s whole.fit whole.ends e in
      let (other, same) = spelled b.text in
      longer_never b.next.symbol.lexeme (lexemes_of (symbols_in b.rest))
      (behind_ends false 0 0 bytes) (behind_ends false 0 0 other)
      (same ∙ ap (λ ms. lexemes_of (symbols_in ms)) b.marked
      ∙ lexemes-sounds (tokens bytes) (b.next ∷ b.rest))

  pub data Outcome : Type 0 where
    is_read : (t : State C V) → read_whole L gs s (tokens bytes) ≡ reads t [] → Outcome
    is_refused : (x : Placed Lexeme) (why : Option R) → read_whole L gs s (tokens bytes)
        ≡ refused x why → Outcome

  pub outcome : Outcome
  outcome = go (read L gs s (tokens bytes)) refl
    where
      go : (a : ReadResult Lexeme C V R) → read L gs s (tokens bytes) ≡ a → Outcome
      go (reads t []) e = is_read t (ap (at_text_end L) e)
      go (reads t (x ∷ xs)) e = is_refused x None (ap (at_text_end L) e)
      go (refused x why) e = is_refused x why (ap (at_text_end L) e)
      go unended e = absurd (never_unended (ap (at_text_end L) e))
