-- Texts in front of other tokens are read exactly, where what is to begin a rule begins it.
--   begun            what may come first where grammars are due begins a text of them
--   left_out         what derives nothing is left out before a token that can't begin it
--   part_read, part_refused     what is read up to a token, and what is refused
use Rattle.std.proofs.Common.{◌≡◌, List, [], ◌∷◌, ◌++◌, refl, ap, sym, subst, ◌∙◌, inl, inr, Bool, true, false, not, ◌&&◌, ◌||◌, ◌⊎◌, Option, None, ◌↔◌}
use Rattle.std.proofs.lemmas.Bool.{and_parts, and_from, or_left, or_right, cond-false, false_from_ne_true}
use Rattle.std.proofs.lemmas.List.{append_cancel_right}
use Rattle.grammars.specs.Kinds.{has}
use Rattle.grammars.specs.Grammar.{Placed, State, Grammar, token, change, sequence, either, many, rule, Language, after_token, after_change}
use Rattle.grammars.specs.Derivation.{Mark, Derives, derives_nothing, derives_token, derives_change, derives_sequence, derives_left, derives_right, derives_none, derives_more, derives_rule}
use Rattle.grammars.specs.First.{may_be_empty, first, first_then, first_of}
use Rattle.grammars.specs.Checked.{is_fit, are_fit, begins_closed, IsChecked}
use Rattle.grammars.specs.Reader.{leaves, move, ReadResult, reads, refused, read, at_text_end}
use Rattle.grammars.specs.FirstFault.{symbols_in, sound, sounds, Begins, IsCause}
use Rattle.grammars.specs.Spelled.{IsRead, AreSpelled}
use Rattle.grammars.specs.Parts.{BeginsExactly, IsReadBefore, IsPartFault}
use Rattle.grammars.proofs.KindSets.{has_left, has_right, has_either}
use Rattle.grammars.proofs.Begun.{kinds_then, first_full, then_sequence, then_either, then_left, then_right, then_within, Next, next_derived}
use Rattle.grammars.proofs.Steady.{needed, move_rule}
use Rattle.grammars.proofs.Fit.{fit_descends, choice_apart, repetition_apart}
use Rattle.grammars.proofs.Taken.{taken}
use Rattle.grammars.proofs.Reading.{AreDerived, move_derived, read_is_derived}
use Rattle.grammars.proofs.Faults.{turned, text_of, marks_of, Part, Says, says, begins_more, stays_fit, read_step, first_halts, whole_refused}
use Rattle.grammars.proofs.FirstFaults.{first_faults, cause_in, cause_out}

-- tests, by cases
one_way : (p q a b r : Bool) → ((p || q) || ((a || b) && r)) ≡ true → ((p || (a && r)) ≡ true)
    ⊎ ((q || (b && r)) ≡ true)
one_way true q a b r e = inl refl
one_way false true a b r e = inr refl
one_way false false true b r e = inl e
one_way false false false b r e = inr e

module _ {N K Y C V R : Type 0} (L : Language N K Y C V R) (checked : IsChecked L) where
  abbrev Starts : List (Grammar N K Y C V R) → State C V → Placed Y → Type 0
  Starts gs s x = Begins (marks_of L gs s) (x ∷ [])

  led : {gs hs : List (Grammar N K Y C V R)} {s t : State C V} {x : Placed Y}
      → ((ms : List (Mark (Placed Y) R)) (u : State C V) → Derives L gs s ms u
      → Derives L hs t ms u) → Starts gs s x → Starts hs t x
  led by b = record { text = turned L by b.text; rest = b.rest; written = b.written }

  abbrev AreFit : List (Grammar N K Y C V R) → Type 0
  AreFit gs = are_fit L gs [] ≡ true

  fit_tail : (g : Grammar N K Y C V R) (gs : List (Grammar N K Y C V R)) → AreFit (g ∷ gs)
      → AreFit gs
  fit_tail g gs e = (and_parts (is_fit L g (first_of L gs [])) (are_fit L gs []) e).1

  module _ (exact : BeginsExactly L) (x : Placed Y) where
    abbrev k : K
    k = L.kind x.lexeme

    abbrev Begun : Grammar N K Y C V R → Type 0
    Begun g = (gs : List (Grammar N K Y C V R)) (s : State C V) → AreFit (g ∷ gs) → (ks : List K)
        → has L.same (first_then L g ks) k ≡ true
        → (may_be_empty L g ≡ true → has L.same ks k ≡ true → (t : State C V) → Starts gs t x)
        → Starts (g ∷ gs) s x

    -- rules stand in front only where they may
    module _ (free : Bool) (rules : free ≡ true → (n : N) → Begun (rule n)) where
      grammar_begun : (g : Grammar N K Y C V R) → (free ≡ false → begins_closed L g ≡ true)
          → Begun g
      grammar_begun (token js fault next build) shut gs s fit ks e later =
          let text = text_of L checked gs (after_token next build s x) []
          (fit_tail (token js fault next build) gs fit) in
          record {
            text = record {
              marks = _;
              end = _;
              derivation = derives_token {x = x} e text.derivation;
            };
            rest = symbols_in text.marks;
            written = refl;
          }
      grammar_begun (change next build) shut gs s fit ks e later = led (λ ms u w. derives_change w)
          (later refl e (after_change next build s))
      grammar_begun (sequence g h) shut gs s fit ks e later =
          let apart = λ (o : free ≡ false). and_parts (begins_closed L g)
          (not (may_be_empty L g) || begins_closed L h) (shut o) in
          let fits = (fit_descends L checked []).by_sequence g h gs fit in
          led (λ ms u w. derives_sequence w)
          (grammar_begun g (λ o. (apart o).0) (h ∷ gs) s fits (first_then L h ks)
          (then_sequence L g h ks k ∙ e)
          (λ m p t. grammar_begun h (λ o. needed (may_be_empty L g) (begins_closed L h) (apart o).1
          m) gs t (fit_tail g (h ∷ gs) fits) ks p
          (λ n q. later (and_from (may_be_empty L g) (may_be_empty L h) m n) q)))
      grammar_begun (either g h) shut gs s fit ks e later =
          elim (one_way (has L.same (first L g) k) (has L.same (first L h) k) (may_be_empty L g)
          (may_be_empty L h) (has L.same ks k) (sym (then_either L g h ks k) ∙ e)) [
            | inl p ↦ led (λ ms u w. derives_left w)
                (grammar_begun g
                (λ o. (and_parts (begins_closed L g) (begins_closed L h) (shut o)).0) gs s
                ((fit_descends L checked []).by_left g h gs fit) ks (kinds_then L g ks k ∙ p)
                (λ m q. later (or_left (may_be_empty L g) (may_be_empty L h) m) q))
            | inr p ↦ led (λ ms u w. derives_right w)
                (grammar_begun h
                (λ o. (and_parts (begins_closed L g) (begins_closed L h) (shut o)).1) gs s
                ((fit_descends L checked []).by_right g h gs fit) ks (kinds_then L h ks k ∙ p)
                (λ m q. later (or_right (may_be_empty L g) (may_be_empty L h) m) q))
          ]
      grammar_begun (many g) shut gs s fit ks e later =
          elim (has_either L.same (first L g) ks k e) [
            | inl p ↦ led (λ ms u w. derives_more w)
                (grammar_begun g shut (many g ∷ gs) s ((fit_descends L checked []).by_more g gs fit)
                [] (kinds_then L g [] k
                ∙ or_left (has L.same (first L g) k) (may_be_empty L g && false) p)
                (λ m q. absurd (cc)))
            | inr p ↦ led (λ ms u w. derives_none w) (later refl p s)
          ]
      grammar_begun (rule n) shut gs s fit ks e later = go free refl
        where
          go : (b : Bool) → free ≡ b → Starts (rule n ∷ gs) s x
          go true o = rules o n gs s fit ks e later
          go false o = let p = shut o in absurd (cc)

    -- the kinds of a rule are those of what it says
    rule_begun : (n : N) → Begun (rule n)
    rule_begun n gs s fit ks e later = led (λ ms u w. derives_rule w)
        (grammar_begun false (λ o. absurd (cc)) (L.says n s.context)
        (λ o. checked.closed n s.context) gs s ((fit_descends L checked []).by_rule n
        s.context gs fit) ks
        (then_within L checked (rule n) (L.says n s.context) (exact.begins n s.context)
        (exact.empty n s.context) ks k e) (λ m q. later (checked.empty n s.context m) q))

    begun : (gs : List (Grammar N K Y C V R)) (s : State C V) → AreFit gs
        → has L.same (first_of L gs []) k ≡ true → Starts gs s x
    begun [] s fit e = absurd (cc)
    begun (g ∷ gs) s fit e = grammar_begun true (λ o n. rule_begun n) g (λ o. absurd (cc)) gs s fit
        (first_of L gs []) e (λ m p t. begun gs t (fit_tail g gs fit) p)

    -- ---- what is left out
    -- g isn't empty, so the next token would begin it
    never_empty : {g : Grammar N K Y C V R} {gs : List (Grammar N K Y C V R)} {s t : State C V}
        {ls : List (Mark (Placed Y) R)} → Derives L (g ∷ gs) s ls t → ls ≡ []
        → not (may_be_empty L g) ≡ true → (has L.same (first L g) k ≡ true → ⊥) → ⊥
    never_empty {g} {gs} w e full never =
        never (first_full L g (first_of L gs (k ∷ [])) k (next_derived L checked w (k ∷ []) k
        (subst (λ ls. Next L checked ls (k ∷ []) k) (sym e)
        (or_left (L.same k k) false (checked.kinds.reflexive k)))) full)

    left_out : {gs : List (Grammar N K Y C V R)} {s t : State C V} {ls : List (Mark (Placed Y) R)}
        → Derives L gs s ls t → ls ≡ [] → AreFit gs → (has L.same (first_of L gs []) k ≡ true → ⊥)
        → move L gs s x ≡ leaves t
    left_out derives_nothing e fit never = refl
    left_out (derives_token h w) e fit never = absurd (cc)
    left_out (derives_change w) e fit never = left_out w e fit never
    left_out (derives_sequence {g = g} {h = h} {gs = gs} w) e fit never =
        left_out w e ((fit_descends L checked []).by_sequence g h gs fit)
        (λ p. never (sym (then_sequence L g h (first_of L gs []) k) ∙ p))
    left_out (derives_left {g = g} {h = h} {gs = gs} w) e fit never =
        absurd (never_empty w e (choice_apart L g h gs [] fit).0
        (λ p. never (then_left L g h (first_of L gs []) k (kinds_then L g (first_of L gs []) k
        ∙ or_left (has L.same (first L g) k) (may_be_empty L g && has L.same
        (first_of L gs []) k) p))))
    left_out (derives_right {g = g} {h = h} {gs = gs} w) e fit never =
        cond-false (has L.same (first L g) k) _ _ (false_from_ne_true (has L.same (first L g) k)
        (λ p. never (then_left L g h (first_of L gs []) k (kinds_then L g (first_of L gs []) k
        ∙ or_left (has L.same (first L g) k) (may_be_empty L g && has L.same
        (first_of L gs []) k) p))))
        ∙ left_out w e ((fit_descends L checked []).by_right g h gs fit)
        (λ p. never (then_right L g h (first_of L gs []) k p))
    left_out (derives_none {g = g} {gs = gs} w) e fit never =
        cond-false (has L.same (first L g) k) _ _ (false_from_ne_true (has L.same (first L g) k)
        (λ p. never (has_left L.same (first L g) (first_of L gs []) k p)))
        ∙ left_out w e ((fit_descends L checked []).by_none g gs fit)
        (λ p. never (has_right L.same (first L g) (first_of L gs []) k p))
    left_out (derives_more {g = g} {gs = gs} w) e fit never =
        absurd (never_empty w e (repetition_apart L g gs [] fit).0
        (λ p. never (has_left L.same (first L g) (first_of L gs []) k p)))
    left_out (derives_rule {n = n} {gs = gs} {s = s} w) e fit never =
        move_rule L checked n gs s x
        ∙ left_out w e ((fit_descends L checked []).by_rule n s.context gs fit)
        (λ p. never (then_within L checked (L.says n s.context) (rule n)
        (checked.begins n s.context) (checked.empty n s.context) (first_of L gs []) k p))

    part_is_read : (before : List (Placed Y)) (gs : List (Grammar N K Y C V R)) (s t : State C V)
        (after : List (Placed Y)) → AreFit gs → IsRead L gs s before t
        → (Begins (marks_of L gs s) (before ++ x ∷ []) → ⊥)
        → read L gs s (before ++ x ∷ after) ≡ reads t (x ∷ after)
    unfolding read
    part_is_read [] gs s t after fit w none = ap (read_step L checked x after)
        (left_out w refl fit (λ p. none (begun gs s fit p)))
    part_is_read (y ∷ before) gs s t after fit w none =
        let n = taken L checked w (sound y) (sounds before) refl [] fit in
        let is = subst (AreDerived L gs s y) n.is (move_derived L gs s y) in
        ap (read_step L checked y (before ++ x ∷ after)) n.is
        ∙ part_is_read before n.left n.state t after (stays_fit L checked gs n.left s n.state y None
        fit n.is) n.rest (λ b. none (begins_more L gs n.left s n.state y is (before ++ x ∷ [])
        b))

  module _ (exact : BeginsExactly L) (gs : List (Grammar N K Y C V R)) (fit : are_fit L gs []
      ≡ true) (s : State C V) {B : Type 0} (tokens : B → List (Placed Y))
      (spelled : AreSpelled L gs s tokens) (ts : List (Placed Y)) (x : Placed Y) where
    pub part_read : (t : State C V) (after : List (Placed Y))
        → (read L gs s ts ≡ reads t (x ∷ after)) ↔ IsReadBefore L gs s tokens ts t x after
    part_read t after = (
      (λ e. let p : Part L gs s ts t x after =
          subst (Says L gs s ts) e (says L checked ts gs s fit) in
          record {
            before = p.before;
            parts = p.tokens;
            text = p.text;
            ends = cause_out L gs s tokens spelled p.before x None p.ends;
          }),
      (λ p. ap (read L gs s) p.parts ∙ part_is_read exact x p.before gs s t after fit p.text
          (cause_in L gs s tokens spelled p.before x None p.ends).none),
    )

    -- it is refused, or its beginning is a text
    halted : (why : Option R) (f : IsPartFault L gs s tokens ts x why)
        → read L gs s ts ≡ refused x why
    halted why f = let first = f.first in
        ap (read L gs s) first.tokens
        ∙ elim (first_halts L checked first.before gs s x first.after why fit
        (cause_in L gs s tokens spelled first.before x why first.cause)) [
          | inl e ↦ e
          | inr (t, none, e) ↦
              let p = read_is_derived L (first.before ++ x ∷ first.after) gs s t (x ∷ first.after)
              e in
              absurd (f.no_text none t (subst (λ ts. IsRead L gs s ts t)
              (sym (append_cancel_right first.before p.front (x ∷ first.after) p.tokens))
              p.derivation))
        ]

    fault_of : (why : Option R) → read L gs s ts ≡ refused x why
        → IsPartFault L gs s tokens ts x why
    fault_of why e =
        let f = (first_faults L gs s tokens spelled ts x why).0
        ((whole_refused L checked gs fit s ts x why).0 (ap (at_text_end L) e)) in
        record {
          first = f;
          no_text = λ none t w.
              let c = subst (IsCause (marks_of L gs s) f.before x) none
              (cause_in L gs s tokens spelled f.before x why f.cause) in
              let r = ap (read L gs s) f.tokens ∙ part_is_read exact x f.before gs s t f.after fit w
              c.none in
              let both : ◌≡◌ {A = ReadResult Y C V R} (reads t (x ∷ f.after)) (refused x why) =
              sym r
              ∙ e in
              absurd (cc);
        }

    pub part_refused : (why : Option R) → (read L gs s ts ≡ refused x why)
        ↔ IsPartFault L gs s tokens ts x why
    part_refused why = (fault_of why, halted why)
