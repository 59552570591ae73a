-- Faults look at no offset.
--   marks_at xs ms     the marks ms, of the tokens xs
--   Moved              a text from another value, of tokens with the same lexemes and faults
--   moved, moved_text  there is one
--   bare-marks_at      as marks of lexemes they are the same
use Rattle.std.proofs.Common.{◌≡◌, List, [], ◌∷◌, refl, ap, ap₂, subst, true, Option}
use Rattle.algebra.proofs.Basics.{same_head, same_tail}
use Rattle.grammars.specs.Kinds.{has}
use Rattle.grammars.specs.Grammar.{Placed, State, Grammar, token, Language}
use Rattle.grammars.specs.Derivation.{Mark, Derives, derives_nothing, derives_token, derives_change, derives_sequence, derives_left, derives_right, derives_none, derives_more, derives_rule, Text}
use Rattle.grammars.specs.FirstFault.{symbols_in, lexemes_of, bare_marks}

module _ {Y R : Type 0} where
  abbrev pub marks_at : List (Placed Y) → List (Mark (Placed Y) R) → List (Mark (Placed Y) R)
  marks_at [] ms = []
  marks_at (x ∷ xs) [] = []
  marks_at (x ∷ xs) (m ∷ ms) = record { symbol = x; fault = m.fault } ∷ marks_at xs ms

  pub symbols-marks_at : (xs : List (Placed Y)) (ms : List (Mark (Placed Y) R))
      → lexemes_of xs ≡ lexemes_of (symbols_in ms) → symbols_in (marks_at xs ms) ≡ xs
  symbols-marks_at [] ms e = refl
  symbols-marks_at (x ∷ xs) [] e = absurd (cc)
  symbols-marks_at (x ∷ xs) (m ∷ ms) e = ap (λ xs. x ∷ xs) (symbols-marks_at xs ms (same_tail e))

  pub bare-marks_at : (xs : List (Placed Y)) (ms : List (Mark (Placed Y) R))
      → lexemes_of xs ≡ lexemes_of (symbols_in ms) → bare_marks (marks_at xs ms) ≡ bare_marks ms
  bare-marks_at [] [] e = refl
  bare-marks_at [] (m ∷ ms) e = absurd (cc)
  bare-marks_at (x ∷ xs) [] e = absurd (cc)
  bare-marks_at (x ∷ xs) (m ∷ ms) e = ap₂ (λ l ls. record { symbol = l; fault = m.fault } ∷ ls)
      (same_head e) (bare-marks_at xs ms (same_tail e))

module _ {N K Y C V R : Type 0} (L : Language N K Y C V R) where
  pub record Moved (gs : List (Grammar N K Y C V R)) (c d : C) (v : V)
      (ms : List (Mark (Placed Y) R)) : Type 0 where
    pub end : V
    pub derivation : Derives L gs (record { context = c; value = v }) ms
        (record { context = d; value = end })

  at_lexeme : (ks : List K) (fault : C → Y → Option R) (next : C → Y → C) (build : C → Placed Y → V
      → V) (gs : List (Grammar N K Y C V R)) (c : C) (v : V) (u : State C V)
      (y : Placed Y) (l : Y) (ns : List (Mark (Placed Y) R)) → y.lexeme ≡ l
      → has L.same ks (L.kind l) ≡ true
      → Derives L gs (record { context = next c l; value = build c y v }) ns u
      → Derives L (token ks fault next build ∷ gs) (record { context = c; value = v })
      (record { symbol = y; fault = fault c l } ∷ ns) u
  at_lexeme ks fault next build gs c v u y l ns e = subst
      (λ l. has L.same ks (L.kind l) ≡ true
      → Derives L gs (record { context = next c l; value = build c y v }) ns u
      → Derives L (token ks fault next build ∷ gs) (record { context = c; value = v })
      (record { symbol = y; fault = fault c l } ∷ ns) u)
      e (λ h w. derives_token h w)

  pub moved : {gs : List (Grammar N K Y C V R)} {s t : State C V} {ms : List (Mark (Placed Y) R)}
      → Derives L gs s ms t
      → (xs : List (Placed Y)) → lexemes_of xs ≡ lexemes_of (symbols_in ms) → (v : V)
      → Moved gs s.context t.context v (marks_at xs ms)
  moved derives_nothing [] e v = record { end = v; derivation = derives_nothing }
  moved derives_nothing (y ∷ ys) e v = absurd (cc)
  moved (derives_token h w) [] e v = absurd (cc)
  moved (derives_token {ks = ks} {fault = fault} {next = next} {build = build} {gs = gs} {s = s}
      {x = x} {ms = ms} h w) (y ∷ ys) e v =
      let r = moved w ys (same_tail e) (build s.context y v) in
      record {
        end = r.end;
        derivation = at_lexeme ks fault next build gs s.context v _ y x.lexeme
            (marks_at ys ms) (same_head e) h r.derivation;
      }
  moved (derives_change {build = build} {s = s} w) xs e v = let r =
      moved w xs e (build s.context v) in record {
        end = r.end;
        derivation = derives_change r.derivation;
      }
  moved (derives_sequence w) xs e v = let r = moved w xs e v in record {
    end = r.end;
    derivation = derives_sequence r.derivation;
  }
  moved (derives_left w) xs e v = let r = moved w xs e v in record {
    end = r.end;
    derivation = derives_left r.derivation;
  }
  moved (derives_right w) xs e v = let r = moved w xs e v in record {
    end = r.end;
    derivation = derives_right r.derivation;
  }
  moved (derives_none w) xs e v = let r = moved w xs e v in record {
    end = r.end;
    derivation = derives_none r.derivation;
  }
  moved (derives_more w) xs e v = let r = moved w xs e v in record {
    end = r.end;
    derivation = derives_more r.derivation;
  }
  moved (derives_rule w) xs e v = let r = moved w xs e v in record {
    end = r.end;
    derivation = derives_rule r.derivation;
  }

  abbrev pub moved_text : (gs : List (Grammar N K Y C V R)) (s : State C V) (text : Text L gs s)
      (xs : List (Placed Y)) → lexemes_of xs ≡ lexemes_of (symbols_in text.marks) → Text L gs s
  moved_text gs s text xs e = let r = moved text.derivation xs e s.value in
      record { marks = marks_at xs text.marks; end = _; derivation = r.derivation }
