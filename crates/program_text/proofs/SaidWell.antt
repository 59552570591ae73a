-- What guards say uses the names of variables alone.
--   all_nth         what waits below others, or the default;  comparison_well: the two sums that wait last
--   said_well       what a part says;  guard_well: what a guard says
use Rattle.std.proofs.Common.{◌≡◌, ℕ, ◌+◌, ◌≤◌, ◌<◌, pos, List, [], ◌∷◌, length, drop, take, filter_map, refl, ap, subst, ◌∙◌, arith, Bool, false, Option, Some, None, All}
use Rattle.std.specs.List.{cons_option}
use Rattle.std.proofs.lemmas.List.Elements.{All-nil, All-cons, All-head, All-drop}
use Rattle.loops.specs.Program.{Expr, number}
use Rattle.loops.specs.WellFormed.{Uses}
use Rattle.loops.proofs.Starts.{uses_weaker}
use Rattle.grammars.specs.Reader as answer
use Rattle.grammars.specs.Reader.{ReadResult, read, at_text_end}
use Rattle.grammars.proofs.Reading.{read_is_derived}
use Rattle.grammars.proofs.Kept.{Leads, Opens, places_kept}
use Rattle.poly_text.specs.Reasons.{Reason}
use Rattle.program_model.specs.Program.{Comparison, Divisor}
use Rattle.program_model.specs.WellFormed.{IsComparison}
use Rattle.program_text.specs.Lexemes.{Lexeme, Placed, tokens_from}
use Rattle.program_text.specs.Sums.{SumContext, SumValue, SumState, SumRule, sum_language, whole_comparison, comparison, all_signs, start, comparison_in, nth, first_or}
use Rattle.program_text.specs.Told.{told}
use Rattle.program_text.specs.Guards.{said, said_by, parts_of, guard_of}
use Rattle.program_text.proofs.SumKept.{Stacked, Counts, SumCalled, sum_on, Over, Fit, sum_rules, all_stacked}

pub all_nth : {A : Type 0} (P : A → Type 0) (d : A) → P d → (k : ℕ) (xs : List A) → All P xs
    → P (nth d k xs)
all_nth P d base k xs all = first (drop k xs) (All-drop P k xs all)
  where
    first : (ys : List _) → All P ys → P (first_or d ys)
    first [] all = base
    first (y ∷ ys) all = All-head P y ys all

-- the two sums that wait last
pub comparison_well : (n : ℕ) (v : SumValue) → All (Uses (λ i. i < n)) v.values
    → IsComparison n (comparison_in v)
unfolding Uses
comparison_well n v all = record {
  left = all_nth (Uses (λ i. i < n)) (number (pos 0)) tt 1 v.values all;
  right = all_nth (Uses (λ i. i < n)) (number (pos 0)) tt 0 v.values all;
}

module _ (names : List (List ℕ)) where
  abbrev Any : List Bool → Type 0
  Any signs = Unit {0}

  abbrev Waits : Counts → SumState → Type 0
  Waits a s = Fit names false Any [] 0 a s

  -- the divisors, of which there are none, are put away
  put_away : (j q r : ℕ) (s : SumState) (c : SumContext) (ps : List ℕ) (signs : List Bool)
      → c.names ≡ s.context.names → c.free ≡ s.context.free → r ≤ length ps → Waits (j, q) s
      → Waits (j, r) (record {
        context = c;
        value = record s.value { places = ps; signs = signs; divisors = [] };
      })
  put_away j q r s c ps signs e f l p = record {
    names_are = e ∙ p.names_are;
    free_is = f ∙ p.free_is;
    signs_are = tt;
    each = subst (λ (ds : List (Divisor (Expr ℕ))). Stacked []
        (Over names false Any [] 0 (length ds)) j s.value.values) (p.bare refl) p.each;
    places = l;
    divisors = λ i d l. absurd (omega (arith, l));
    bare = λ e. refl;
    most = omega arith;
  }

  comparison_leads : Leads sum_language Waits SumCalled (0, 0) (comparison all_signs) (2, 0)
  comparison_leads = (
    (1, 0),
    (
      sum_on,
      (
        (1, 0),
        (
          (λ s x p k e. put_away 1 0 0 s _ _ _ refl refl (omega arith) p),
          ((2, 0), (sum_on, (λ s p. put_away 2 0 0 s _ _ _ refl refl (omega arith) p))),
        ),
      ),
    ),
  )

  begins : Waits (0, 0) (start names)
  begins = record {
    names_are = refl;
    free_is = refl;
    signs_are = tt;
    each = refl;
    places = omega arith;
    divisors = λ i d l. absurd (omega (arith, l));
    bare = λ e. refl;
    most = omega arith;
  }

  plain_uses : (t : SumState) (w : Waits (2, 0) t) → (e : Expr ℕ)
      → Over names false Any [] 0 (length t.value.divisors) e → Uses (λ i. i < length names) e
  plain_uses t w e u =
      let none : length t.value.divisors ≡ 0 = ap length (w.bare refl) in
      uses_weaker (λ i. i < length names + length t.value.divisors) (λ i. i < length names)
      (λ i l. omega (arith, l, none)) e u

  opens : (n : SumRule) (a b : Counts) → SumCalled n a b → (s : SumState) → Waits a s
      → Opens sum_language Waits SumCalled n s b
  opens n a b h s p = record {
    place = a;
    there = p;
    leads = sum_rules names false Any [] 0 h s.context p.free_is;
  }

  pub said_well : (text : List ℕ) (p : ℕ × ℕ) (k : Comparison (Expr ℕ))
      → said names text p ≡ Some k → IsComparison (length names) k
  unfolding said
  said_well text p k e = go (read sum_language whole_comparison (start names) tokens) refl e
    where
      tokens : List Placed
      tokens = tokens_from (take p.1 text) p.0

      read_so : (t : SumState) → read sum_language whole_comparison (start names) tokens
          ≡ answer.reads t [] → IsComparison (length names) (comparison_in t.value)
      read_so t e =
          let r = read_is_derived sum_language tokens whole_comparison (start names) t [] e in
          let w = places_kept sum_language Waits SumCalled opens whole_comparison (start names) t
          r.front r.derivation (0, 0) (2, 0) (
            (2, 0),
            (comparison_leads, ((2, 0), ((λ s x p k e. p), (λ s p. p)))),
          ) begins in
          comparison_well (length names) t.value
          (all_stacked [] (Over names false Any [] 0 (length t.value.divisors))
          (Uses (λ i. i < length names)) (plain_uses t w) 2 t.value.values (All-nil _) w.each)

      go : (a : ReadResult Lexeme SumContext SumValue Reason)
          → read sum_language whole_comparison (start names) tokens ≡ a
          → said_by (told (at_text_end sum_language a)) ≡ Some k → IsComparison (length names) k
      go (answer.reads t []) h e = let same : comparison_in t.value ≡ k = cc in
          subst (IsComparison (length names)) same (read_so t h)
      go (answer.reads t (x ∷ xs)) h e = absurd (cc)
      go (answer.refused x why) h e = absurd (cc)
      go answer.unended h e = absurd (cc)

  module _ (P : Comparison (Expr ℕ) → Type 0) (f : ℕ × ℕ → Option (Comparison (Expr ℕ)))
      (each : (p : ℕ × ℕ) (k : Comparison (Expr ℕ)) → f p ≡ Some k → P k) where
    all_given : (ps : List (ℕ × ℕ)) → All P (filter_map f ps)
    all_given [] = All-nil P
    all_given (p ∷ ps) = go (all_given ps) (f p) refl
      where
        go : All P (filter_map f ps) → (o : Option (Comparison (Expr ℕ))) → f p ≡ o
            → All P (cons_option o (filter_map f ps))
        go all None e = all
        go all (Some k) e = All-cons P k (filter_map f ps) (each p k e) all

  pub guard_well : (text : List ℕ) → All (IsComparison (length names)) (guard_of names text).says
  unfolding guard_of
  guard_well text = all_given (IsComparison (length names)) (said names text) (said_well text)
      (parts_of text)
