-- What is refused is refused for its first fault, over texts with the very tokens.
--   text_of        fit grammars have a text
--   IsFirstRefused, Part, BeginsMore     the first token at fault, and why; what is read before a token; tokens that begin a text, with another token
--   Says, says     one of these is what an answer says of the tokens
--   whole_refused  a refusal names the first fault; first_halts, HaltsAt: and back
--   unended_begins     tokens behind which more is due begin a text, with another token
use Rattle.std.proofs.Common.{◌≡◌, List, [], ◌∷◌, ◌++◌, refl, ap, sym, subst, ◌∙◌, inl, inr, true, not, ◌&&◌, Option, Some, None, ◌↔◌, ◌⊎◌}
use Rattle.std.proofs.lemmas.Bool.{and_parts}
use Rattle.grammars.specs.Kinds.{has, apart}
use Rattle.grammars.specs.Grammar.{Placed, State, Grammar, token, change, sequence, either, many, rule, Language, after_token, after_change}
use Rattle.grammars.specs.Derivation.{Mark, Derives, derives_nothing, derives_token, derives_change, derives_sequence, derives_left, derives_none, Text}
use Rattle.grammars.specs.First.{may_be_empty, first, first_then, first_of}
use Rattle.grammars.specs.Checked.{is_fit, are_fit, IsChecked, ends_by_token}
use Rattle.algebra.proofs.Basics.{same_head, same_tail}
use Rattle.grammars.specs.Reader.{Move, takes, leaves, refuses, move, ReadResult, reads, refused, unended, by_move, read, at_text_end, read_whole}
use Rattle.grammars.specs.FirstFault.{symbols_in, sound, sounds, Begins, IsCause}
use Rattle.grammars.specs.Spelled.{IsRead}
use Rattle.grammars.proofs.Reading.{AreDerived, move_derived}
use Rattle.grammars.proofs.Fit.{descended, nothing_derived, ends_descends, fit_descends}
use Rattle.grammars.proofs.Taken.{taken}

module _ {N K Y C V R : Type 0} (L : Language N K Y C V R) where
  abbrev pub turned : {gs hs : List (Grammar N K Y C V R)} {s t : State C V}
      → ((ms : List (Mark (Placed Y) R)) (u : State C V) → Derives L gs s ms u
      → Derives L hs t ms u) → Text L gs s → Text L hs t
  turned by text = record {
    marks = text.marks;
    end = text.end;
    derivation = by text.marks text.end text.derivation;
  }

  with_token : (ks : List K) (fault : C → Y → Option R) (next : C → Y → C) (build : C → Placed Y → V
      → V) (gs : List (Grammar N K Y C V R)) (s : State C V) (x : Placed Y)
      → has L.same ks (L.kind x.lexeme) ≡ true → Text L gs (after_token next build s x)
      → Text L (token ks fault next build ∷ gs) s
  with_token ks fault next build gs s x h text = record {
    marks = record { symbol = x; fault = fault s.context x.lexeme } ∷ text.marks;
    end = text.end;
    derivation = derives_token h text.derivation;
  }

  module _ (checked : IsChecked L) where
    text_on : (g : Grammar N K Y C V R) (gs : List (Grammar N K Y C V R)) (s : State C V)
        (ks : List K) → is_fit L g ks ≡ true → ((t : State C V) → Text L gs t) → Text L (g ∷ gs) s
    text_on (token [] fault next build) gs s ks e later = absurd (cc)
    text_on (token (j ∷ js) fault next build) gs s ks e later = with_token (j ∷ js) fault next build
        gs s (record { at = 0; lexeme = L.sample j }) e
        (later (after_token next build s (record { at = 0; lexeme = L.sample j })))
    text_on (change next build) gs s ks e later = turned (λ ms u w. derives_change w)
        (later (after_change next build s))
    text_on (sequence g h) gs s ks e later =
        let p = and_parts (is_fit L g (first_then L h ks)) (is_fit L h ks) e in
        turned (λ ms u w. derives_sequence w) (text_on g (h ∷ gs) s (first_then L h ks) p.0
        (λ t. text_on h gs t ks p.1 later))
    text_on (either g h) gs s ks e later =
        let p = and_parts (is_fit L g ks && is_fit L h ks) (not (may_be_empty L g) && apart L.same
        (first L g) (first_then L h ks)) e in
        turned (λ ms u w. derives_left w)
        (text_on g gs s ks (and_parts (is_fit L g ks) (is_fit L h ks) p.0).0 later)
    text_on (many g) gs s ks e later = turned (λ ms u w. derives_none w) (later s)
    text_on (rule n) gs s ks e later = checked.text n s gs later

    pub text_of : (gs : List (Grammar N K Y C V R)) (s : State C V) (ks : List K)
        → are_fit L gs ks ≡ true → Text L gs s
    text_of [] s ks e = record { marks = []; end = s; derivation = derives_nothing }
    text_of (g ∷ gs) s ks e =
        let p = and_parts (is_fit L g (first_of L gs ks)) (are_fit L gs ks) e in
        text_on g gs s (first_of L gs ks) p.0 (λ t. text_of gs t ks p.1)

module _ {N K Y C V R : Type 0} (L : Language N K Y C V R) where
  abbrev pub marks_of : (gs : List (Grammar N K Y C V R)) (s : State C V) → Text L gs s
      → List (Mark (Placed Y) R)
  marks_of gs s text = text.marks

  abbrev pub Cause : List (Grammar N K Y C V R) → State C V → List (Placed Y) → Placed Y → Option R
      → Type 0
  Cause gs s ts x why = IsCause (marks_of gs s) ts x why

  module _ (gs : List (Grammar N K Y C V R)) (s : State C V) (ts : List (Placed Y)) where
    pub record IsFirstRefused (x : Placed Y) (why : Option R) : Type 0 where
      pub before : List (Placed Y)
      pub after : List (Placed Y)
      pub tokens : ts ≡ before ++ x ∷ after
      pub cause : Cause gs s before x why

    pub record Part (t : State C V) (x : Placed Y) (after : List (Placed Y)) : Type 0 where
      pub before : List (Placed Y)
      pub tokens : ts ≡ before ++ x ∷ after
      pub text : IsRead L gs s before t
      pub ends : Cause gs s before x None

    pub record BeginsMore : Type 0 where
      pub text : Text L gs s
      pub next : Mark (Placed Y) R
      pub rest : List (Mark (Placed Y) R)
      pub marked : text.marks ≡ sounds ts ++ next ∷ rest

    abbrev pub Says : ReadResult Y C V R → Type 0
    Says (reads t []) = Unit {0}
    Says (reads t (x ∷ after)) = Part t x after
    Says (refused x why) = IsFirstRefused x why
    Says unended = ends_by_token true gs ≡ true → BeginsMore

  -- ---- a token more in front
  abbrev pub text_more : (gs hs : List (Grammar N K Y C V R)) (s u : State C V) (y : Placed Y)
      (f : Option R) → AreDerived L gs s y (takes f u hs) → Text L hs u → Text L gs s
  text_more gs hs s u y f is text = record {
    marks = record { symbol = y; fault = f } ∷ text.marks;
    end = text.end;
    derivation = is text.marks text.end text.derivation;
  }

  pub begins_more : (gs hs : List (Grammar N K Y C V R)) (s u : State C V) (y : Placed Y)
      → AreDerived L gs s y (takes None u hs) → (ts : List (Placed Y)) → Begins (marks_of hs u) ts
      → Begins (marks_of gs s) (y ∷ ts)
  begins_more gs hs s u y is ts b = record {
    text = text_more gs hs s u y None is b.text;
    rest = b.rest;
    written = ap (λ xs. y ∷ xs) b.written;
  }

  module _ (checked : IsChecked L) where
    pub stays_fit : (gs hs : List (Grammar N K Y C V R)) (s u : State C V) (y : Placed Y)
        (f : Option R) → are_fit L gs [] ≡ true → move L gs s y ≡ takes f u hs
        → are_fit L hs [] ≡ true
    stays_fit gs hs s u y f fit e = descended L (λ gs. are_fit L gs [] ≡ true)
        (fit_descends L checked []) gs hs s u y f fit e

    -- the text of a beginning goes the way of its first token
    abbrev Goes : List (Grammar N K Y C V R) → State C V → Placed Y → List (Placed Y) → Type 0
    Goes gs s y ts = (f : Option R) × (u : State C V) × (hs : List (Grammar N K Y C V R))
        × (move L gs s y ≡ takes f u hs) × Begins (marks_of hs u) ts

    goes : (gs : List (Grammar N K Y C V R)) (s : State C V) (y : Placed Y) (ts : List (Placed Y))
        → are_fit L gs [] ≡ true → Begins (marks_of gs s) (y ∷ ts) → Goes gs s y ts
    goes gs s y ts fit b = go b.text.marks b.text.derivation b.written
      where
        go : (ms : List (Mark (Placed Y) R)) → Derives L gs s ms b.text.end → symbols_in ms ≡ y ∷ ts
            ++ b.rest → Goes gs s y ts
        go [] w e = absurd (cc)
        go (m ∷ ms) w e =
            let n = taken L checked w m ms refl [] fit in
            let more : Begins (marks_of n.left n.state) ts =
            record {
              text = record { marks = ms; end = b.text.end; derivation = n.rest };
              rest = b.rest;
              written = same_tail e;
            } in (
              m.fault,
              n.state,
              n.left,
              subst (λ y. move L gs s y ≡ takes m.fault n.state n.left)
                  (same_head e) n.is,
              more,
            )

    cause_more : (gs hs : List (Grammar N K Y C V R)) (s u : State C V) (y : Placed Y)
        (ts : List (Placed Y)) (x : Placed Y) (why : Option R)
        → are_fit L gs [] ≡ true → move L gs s y ≡ takes None u hs
        → AreDerived L gs s y (takes None u hs) → Cause hs u ts x why
        → Cause gs s (y ∷ ts) x why
    cause_more gs hs s u y ts x None fit e is c = record {
      before = record {
        text = text_more gs hs s u y None is c.before.text;
        rest = c.before.rest;
        marked = ap (λ ms. sound y ∷ ms) c.before.marked;
      };
      none = λ b. let (f, v, ls, way, rest) = goes gs s y (ts ++ x ∷ []) fit b in
          let state : v ≡ u = cc in
          let left : ls ≡ hs = cc in
          c.none (subst (λ u. Begins (marks_of hs u) (ts ++ x ∷ [])) state
          (subst (λ hs. Begins (marks_of hs v) (ts ++ x ∷ [])) left rest));
    }
    cause_more gs hs s u y ts x (Some why) fit e is c =
        record {
          text = text_more gs hs s u y None is c.text;
          rest = c.rest;
          marked = ap (λ ms. sound y ∷ ms) c.marked;
        }

    -- a token that isn't taken
    not_taken : (gs : List (Grammar N K Y C V R)) (s : State C V) (x : Placed Y)
        → are_fit L gs [] ≡ true → ((f : Option R) (t : State C V) (hs : List (Grammar N K Y C V R))
        → move L gs s x ≡ takes f t hs → ⊥)
        → Cause gs s [] x None
    not_taken gs s x fit never = let text = text_of L checked gs s [] fit in record {
      before = record { text = text; rest = text.marks; marked = refl };
      none = λ b. let (f, u, hs, way, rest) = goes gs s x [] fit b in never f u hs way;
    }

    -- ---- what an answer says of the tokens
    says_more : (gs hs : List (Grammar N K Y C V R)) (s u : State C V) (y : Placed Y)
        (ys : List (Placed Y)) → are_fit L gs [] ≡ true → move L gs s y ≡ takes None u hs
        → AreDerived L gs s y (takes None u hs)
        → (a : ReadResult Y C V R) → Says hs u ys a → Says gs s (y ∷ ys) a
    says_more gs hs s u y ys fit m is (reads t []) p = tt
    says_more gs hs s u y ys fit m is (reads t (x ∷ after)) p =
        record {
          before = y ∷ p.before;
          tokens = ap (λ ys. y ∷ ys) p.tokens;
          text = is (sounds p.before) t p.text;
          ends = cause_more gs hs s u y p.before x None fit m is
              p.ends;
        }
    says_more gs hs s u y ys fit m is (refused x why) p =
        record {
          before = y ∷ p.before;
          after = p.after;
          tokens = ap (λ ys. y ∷ ys) p.tokens;
          cause = cause_more gs hs s u y p.before x why fit m is p.cause;
        }
    says_more gs hs s u y ys fit m is unended p = λ ends.
        let b = p (descended L (λ gs. ends_by_token true gs ≡ true) (ends_descends L) gs hs s u y
        None ends m) in
        record {
          text = text_more gs hs s u y None is b.text;
          next = b.next;
          rest = b.rest;
          marked = ap (λ ms. sound y ∷ ms) b.marked;
        }

    pub says : (ts : List (Placed Y)) (gs : List (Grammar N K Y C V R)) (s : State C V)
        → are_fit L gs [] ≡ true → Says gs s ts (read L gs s ts)
    unfolding read
    says [] [] s fit = tt
    says [] (g ∷ gs) s fit = λ ends. let text = text_of L checked (g ∷ gs) s [] fit in
        go text.marks text.end text.derivation ends
      where
        go : (ms : List (Mark (Placed Y) R)) (t : State C V) → Derives L (g ∷ gs) s ms t
            → ends_by_token true (g ∷ gs) ≡ true → BeginsMore (g ∷ gs) s []
        go [] t w ends = absurd (nothing_derived L w refl ends)
        go (m ∷ ms) t w ends = record {
          text = record { marks = m ∷ ms; end = t; derivation = w };
          next = m;
          rest = ms;
          marked = refl;
        }
    says (y ∷ ys) gs s fit = go (move L gs s y) refl (move_derived L gs s y) (λ hs u fit.
        says ys hs u fit)
      where
        go : (d : Move N K Y C V R) → move L gs s y ≡ d → AreDerived L gs s y d
            → ((hs : List (Grammar N K Y C V R)) (u : State C V) → are_fit L hs [] ≡ true
            → Says hs u ys (read L hs u ys))
            → Says gs s (y ∷ ys) (by_move L d y ys (λ u hs. read L hs u ys))
        go (takes None u hs) m is later = says_more gs hs s u y ys fit m is (read L hs u ys)
            (later hs u (stays_fit gs hs s u y None fit m))
        go (takes (Some why) u hs) m is later =
            let text = text_of L checked hs u [] (stays_fit gs hs s u y (Some why) fit m) in
            record {
              before = [];
              after = ys;
              tokens = refl;
              cause =
                  record {
                    text = text_more gs hs s u y (Some why) is text;
                    rest = text.marks;
                    marked = refl;
                  };
            }
        go (leaves u) m is later = record {
          before = [];
          tokens = refl;
          text = is;
          ends = not_taken gs s y fit (λ f t hs n. absurd (cc));
        }
        go refuses m is later = record {
          before = [];
          after = ys;
          tokens = refl;
          cause = not_taken gs s y fit (λ f t hs n. absurd (cc));
        }

    whole_says : (ts : List (Placed Y)) (gs : List (Grammar N K Y C V R)) (s : State C V)
        → are_fit L gs [] ≡ true → (a : ReadResult Y C V R) → read_whole L gs s ts ≡ a
        → Says gs s ts a
    whole_says ts gs s fit a e = subst (Says gs s ts) e (go (read L gs s ts) (says ts gs s fit))
      where
        go : (a : ReadResult Y C V R) → Says gs s ts a → Says gs s ts (at_text_end L a)
        go (reads t (x ∷ after)) p = record {
          before = p.before;
          after = after;
          tokens = p.tokens;
          cause = p.ends;
        }
        go a p = p

    pub unended_begins : (ts : List (Placed Y)) (gs : List (Grammar N K Y C V R)) (s : State C V)
        → are_fit L gs [] ≡ true → ends_by_token true gs ≡ true → read_whole L gs s ts ≡ unended
        → BeginsMore gs s ts
    unended_begins ts gs s fit ends e = whole_says ts gs s fit unended e ends

    -- ---- and back
    -- the answer refuses x, or stops before it
    abbrev pub HaltsAt : Placed Y → List (Placed Y) → Option R → ReadResult Y C V R → Type 0
    HaltsAt x after why a = (a ≡ refused x why) ⊎ ((t : State C V) × (why ≡ None)
        × (a ≡ reads t (x ∷ after)))

    abbrev pub read_step : Placed Y → List (Placed Y) → Move N K Y C V R → ReadResult Y C V R
    read_step x xs d = by_move L d x xs (λ t hs. read L hs t xs)

    pub first_halts : (before : List (Placed Y)) (gs : List (Grammar N K Y C V R)) (s : State C V)
        (x : Placed Y) (after : List (Placed Y)) (why : Option R) → are_fit L gs [] ≡ true
        → Cause gs s before x why
        → HaltsAt x after why (read L gs s (before ++ x ∷ after))
    unfolding read
    first_halts [] gs s x after None fit c = go (move L gs s x) refl (move_derived L gs s x)
      where
        go : (d : Move N K Y C V R) → move L gs s x ≡ d → AreDerived L gs s x d
            → HaltsAt x after None (read_step x after d)
        go (takes f u hs) m is =
            let text = text_of L checked hs u [] (stays_fit gs hs s u x f fit m) in
            absurd (c.none (record {
              text = text_more gs hs s u x f is text;
              rest = symbols_in text.marks;
              written = refl;
            }))
        go (leaves u) m is = inr (u, refl, refl)
        go refuses m is = inl refl
    first_halts [] gs s x after (Some why) fit c =
        let n = taken L checked c.text.derivation (record { symbol = x; fault = Some why }) c.rest
        c.marked [] fit in
        inl (ap (read_step x after) n.is)
    first_halts (y ∷ before) gs s x after None fit c =
        let b = c.before in
        let n = taken L checked b.text.derivation (sound y) (sounds before ++ b.rest) b.marked []
        fit in
        let is = subst (AreDerived L gs s y) n.is (move_derived L gs s y) in
        subst (λ d. HaltsAt x after None (read_step y (before ++ x ∷ after) d)) (sym n.is)
        (first_halts before n.left n.state x after None (stays_fit gs n.left s n.state y None fit
        n.is) (record {
          before = record {
            text = record {
              marks = sounds before ++ b.rest;
              end = b.text.end;
              derivation = n.rest;
            };
            rest = b.rest;
            marked = refl;
          };
          none = λ more. c.none (begins_more gs n.left s n.state y is (before ++ x ∷ []) more);
        }))
    first_halts (y ∷ before) gs s x after (Some why) fit c =
        let ms = sounds before ++ record { symbol = x; fault = Some why } ∷ c.rest in
        let n = taken L checked c.text.derivation (sound y) ms c.marked [] fit in
        subst (λ d. HaltsAt x after (Some why) (read_step y (before ++ x ∷ after) d)) (sym n.is)
        (first_halts before n.left n.state x after (Some why) (stays_fit gs n.left s n.state y None
        fit n.is)
        (record {
          text = record { marks = ms; end = c.text.end; derivation = n.rest };
          rest = c.rest;
          marked = refl;
        }))

    pub whole_refused : (gs : List (Grammar N K Y C V R)) → are_fit L gs [] ≡ true
        → (s : State C V) (ts : List (Placed Y)) (x : Placed Y) (why : Option R)
        → (read_whole L gs s ts ≡ refused x why) ↔ IsFirstRefused gs s ts x why
    whole_refused gs fit s ts x why = (
      (λ e. whole_says ts gs s fit (refused x why) e),
      (λ f. ap (read_whole L gs s) f.tokens
          ∙ elim (first_halts f.before gs s x f.after why fit f.cause) [
            | inl e ↦ ap (at_text_end L) e
            | inr (t, none, e) ↦ ap (at_text_end L) e ∙ ap (refused x) (sym none)
          ]),
    )
