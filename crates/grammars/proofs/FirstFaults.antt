-- First faults over the very tokens are those over lexemes, of the texts that something spells.
--   first_faults     the two say the same
use Rattle.std.proofs.Common.{◌≡◌, List, [], ◌∷◌, ◌++◌, refl, ap, ap₂, sym, subst, ◌∙◌, append-nil, append_assoc, Option, Some, None, ◌↔◌}
use Rattle.std.proofs.lemmas.List.{map-append}
use Rattle.algebra.proofs.Basics.{same_head, same_tail}
use Rattle.grammars.specs.Grammar.{Placed, State, Grammar, Language}
use Rattle.grammars.specs.Derivation.{Mark, Text}
use Rattle.grammars.specs.FirstFault.{symbols_in, lexemes_of, bare, bare_marks, sound, sounds, Begins, BeginsSoundly, IsAtFault, IsCause, IsFirstFault}
use Rattle.grammars.specs.Spelled.{SpelledText, spelled_marks, AreSpelled}
use Rattle.grammars.proofs.Offsets.{marks_at, symbols-marks_at, bare-marks_at, moved_text}
use Rattle.grammars.proofs.Faults.{marks_of, IsFirstRefused}

module _ {Y : Type 0} where
  -- tokens in place of the first lexemes
  tokens_more : (ts ss : List (Placed Y)) (rest : List Y) → lexemes_of ss ≡ lexemes_of ts ++ rest
      → (more : List (Placed Y)) × (lexemes_of (ts ++ more) ≡ lexemes_of ss)
  tokens_more [] ss rest e = (ss, refl)
  tokens_more (t ∷ ts) [] rest e = absurd (cc)
  tokens_more (t ∷ ts) (s ∷ ss) rest e = let p = tokens_more ts ss rest (same_tail e) in
      (p.0, ap₂ (λ l ls. l ∷ ls) (sym (same_head e)) p.1)

module _ {Y R : Type 0} where
  symbols-bare : (ms : List (Mark (Placed Y) R)) → symbols_in (bare_marks ms)
      ≡ lexemes_of (symbols_in ms)
  symbols-bare [] = refl
  symbols-bare (m ∷ ms) = ap (λ ls. m.symbol.lexeme ∷ ls) (symbols-bare ms)

  bare_front : (ts : List (Placed Y)) (ms : List (Mark (Placed Y) R)) → bare_marks (sounds ts ++ ms)
      ≡ sounds (lexemes_of ts) ++ bare_marks ms
  bare_front [] ms = refl
  bare_front (t ∷ ts) ms = ap (λ ls. sound t.lexeme ∷ ls) (bare_front ts ms)

  own_marks : (ms : List (Mark (Placed Y) R)) → marks_at (symbols_in ms) ms ≡ ms
  own_marks [] = refl
  own_marks (m ∷ ms) = ap (λ ns. m ∷ ns) (own_marks ms)

  -- marks in place of the first ones
  record Fronted (qs ms : List (Mark (Placed Y) R)) : Type 0 where
    rest : List (Mark (Placed Y) R)
    lexemes : lexemes_of (symbols_in (qs ++ rest)) ≡ lexemes_of (symbols_in ms)
    marks : marks_at (symbols_in (qs ++ rest)) ms ≡ qs ++ rest

  fronted : (qs ms : List (Mark (Placed Y) R)) (rest : List (Mark Y R))
      → bare_marks ms ≡ bare_marks qs ++ rest → Fronted qs ms
  fronted [] ms rest e = record { rest = ms; lexemes = refl; marks = own_marks ms }
  fronted (q ∷ qs) [] rest e = absurd (cc)
  fronted (q ∷ qs) (m ∷ ms) rest e =
      let p = fronted qs ms rest (same_tail e) in
      let same : bare m ≡ bare q = same_head e in
      record {
        rest = p.rest;
        lexemes = ap₂ (λ l ls. l ∷ ls) (sym (ap (λ (m : Mark Y R). m.symbol) same)) p.lexemes;
        marks = ap₂ (λ f ns. record { symbol = q.symbol; fault = f } ∷ ns)
            (ap (λ (m : Mark Y R). m.fault) same) p.marks;
      }

module _ {N K Y C V R : Type 0} (L : Language N K Y C V R) (gs : List (Grammar N K Y C V R))
    (s : State C V) where
  record TextWith (qs : List (Mark (Placed Y) R)) : Type 0 where
    text : Text L gs s
    rest : List (Mark (Placed Y) R)
    marked : text.marks ≡ qs ++ rest

  text_with : (qs : List (Mark (Placed Y) R)) (text : Text L gs s) (rest : List (Mark Y R))
      → bare_marks text.marks ≡ bare_marks qs ++ rest → TextWith qs
  text_with qs text rest e = let p = fronted qs text.marks rest e in record {
    text = moved_text L gs s text (symbols_in (qs ++ p.rest)) p.lexemes;
    rest = p.rest;
    marked = p.marks;
  }

  module _ {B : Type 0} (tokens : B → List (Placed Y)) where
    abbrev spells : SpelledText L gs s tokens → List (Mark Y R)
    spells t = spelled_marks L gs s tokens t

    -- ---- from lexemes to tokens
    begins_in : (ts : List (Placed Y)) → Begins spells (lexemes_of ts) → Begins (marks_of L gs s) ts
    begins_in ts b =
        let ms = b.text.text.marks in
        let p = tokens_more ts (symbols_in ms) b.rest (sym (symbols-bare ms) ∙ b.written) in
        record {
          text = moved_text L gs s b.text.text (ts ++ p.0) p.1;
          rest = p.0;
          written = symbols-marks_at (ts ++ p.0) ms p.1;
        }

    soundly_in : (ts : List (Placed Y)) → BeginsSoundly spells (lexemes_of ts)
        → BeginsSoundly (marks_of L gs s) ts
    soundly_in ts b =
        let own : bare_marks (sounds {R = R} ts) ≡ sounds (lexemes_of ts) =
        sym (ap bare_marks (append-nil (sounds ts))) ∙ bare_front ts []
        ∙ append-nil (sounds (lexemes_of ts)) in
        let p = text_with (sounds ts) b.text.text b.rest (b.marked
        ∙ ap (λ ls. ls ++ b.rest) (sym own)) in
        record { text = p.text; rest = p.rest; marked = p.marked }

    fault_in : (ts : List (Placed Y)) (x : Placed Y) (why : R)
        → IsAtFault spells (lexemes_of ts) x.lexeme why → IsAtFault (marks_of L gs s) ts x why
    fault_in ts x why b =
        let m : Mark (Placed Y) R = record { symbol = x; fault = Some why } in
        let p = text_with (sounds ts ++ m ∷ []) b.text.text b.rest
        (b.marked ∙ sym (append_assoc (sounds (lexemes_of ts)) (bare m ∷ []) b.rest)
        ∙ ap (λ ls. ls ++ b.rest) (sym (bare_front ts (m ∷ [])))) in
        record {
          text = p.text;
          rest = p.rest;
          marked = p.marked
              ∙ append_assoc (sounds ts) (m ∷ []) p.rest;
        }

    module _ (spelled : AreSpelled L gs s tokens) where
      -- ---- from tokens to lexemes
      abbrev spelled_text : Text L gs s → SpelledText L gs s tokens
      spelled_text text = let p = spelled text in record {
        text = moved_text L gs s text (tokens p.0) p.1;
        by = p.0;
        spelled = symbols-marks_at (tokens p.0) text.marks p.1;
      }

      same_marks : (text : Text L gs s) → spells (spelled_text text) ≡ bare_marks text.marks
      same_marks text = let p = spelled text in bare-marks_at (tokens p.0) text.marks p.1

      begins_out : (ts : List (Placed Y)) → Begins (marks_of L gs s) ts
          → Begins spells (lexemes_of ts)
      begins_out ts b = record {
        text = spelled_text b.text;
        rest = lexemes_of b.rest;
        written = ap symbols_in (same_marks b.text) ∙ symbols-bare b.text.marks
            ∙ ap lexemes_of b.written ∙ map-append (λ (t : Placed Y). t.lexeme) ts b.rest;
      }

      soundly_out : (ts : List (Placed Y)) → BeginsSoundly (marks_of L gs s) ts
          → BeginsSoundly spells (lexemes_of ts)
      soundly_out ts b = record {
        text = spelled_text b.text;
        rest = bare_marks b.rest;
        marked = same_marks b.text ∙ ap bare_marks b.marked ∙ bare_front ts b.rest;
      }

      fault_out : (ts : List (Placed Y)) (x : Placed Y) (why : R)
          → IsAtFault (marks_of L gs s) ts x why → IsAtFault spells (lexemes_of ts) x.lexeme why
      fault_out ts x why b = record {
        text = spelled_text b.text;
        rest = bare_marks b.rest;
        marked = same_marks b.text ∙ ap bare_marks b.marked
            ∙ bare_front ts (record { symbol = x; fault = Some why } ∷ b.rest);
      }

      last : (ts : List (Placed Y)) (x : Placed Y) → lexemes_of (ts ++ x ∷ []) ≡ lexemes_of ts
          ++ x.lexeme ∷ []
      last ts x = map-append (λ (t : Placed Y). t.lexeme) ts (x ∷ [])

      pub cause_in : (ts : List (Placed Y)) (x : Placed Y) (why : Option R)
          → IsCause spells (lexemes_of ts) x.lexeme why → IsCause (marks_of L gs s) ts x why
      cause_in ts x None c = record {
        before = soundly_in ts c.before;
        none = λ b. c.none (subst (Begins spells) (last ts x) (begins_out (ts ++ x ∷ []) b));
      }
      cause_in ts x (Some why) c = fault_in ts x why c

      pub cause_out : (ts : List (Placed Y)) (x : Placed Y) (why : Option R)
          → IsCause (marks_of L gs s) ts x why → IsCause spells (lexemes_of ts) x.lexeme why
      cause_out ts x None c = record {
        before = soundly_out ts c.before;
        none = λ b. c.none (begins_in (ts ++ x ∷ []) (subst (Begins spells) (sym (last ts x)) b));
      }
      cause_out ts x (Some why) c = fault_out ts x why c

      pub first_faults : (ts : List (Placed Y)) (x : Placed Y) (why : Option R)
          → IsFirstRefused L gs s ts x why ↔ IsFirstFault spells ts x why
      first_faults ts x why = (
        (λ f. record {
          before = f.before;
          after = f.after;
          tokens = f.tokens;
          cause = cause_out f.before x why f.cause;
        }),
        (λ f. record {
          before = f.before;
          after = f.after;
          tokens = f.tokens;
          cause = cause_in f.before x why f.cause;
        }),
      )
