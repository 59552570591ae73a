-- Composed words, with a letter in front and with their images.
--   empty_composed, letter_composed    the empty word, and one letter more
--   letter_limit, letter_wide     where this stops
--   image_stands, image_free_word the image of a word, and that it is within the limits
--   image_limit, image_wide       where it stops
--   image_cost                    what it costs
--   image_zero, image_found       whether it is 0
use Rattle.std.proofs.Common.{◌≡◌, ℕ, List, [], ◌∷◌, length, refl, sym, ap, subst, ◌∙◌, min, All, Bool, true, false, IsTrue, ◌↔◌, Result, Ok, Err}
use Rattle.std.proofs.lemmas.List.Elements.{All-nil, All-cons}
use Rattle.algebra.specs.Fraction.{Fraction, ℚ}
use Rattle.algebra.proofs.Fractions.{fractions_ring}
use Rattle.polynomials.specs.Terms.{Terms, Same}
use Rattle.polynomials.specs.Polynomial.{Arity}
use Rattle.polynomials.proofs.Orders.{grevlex_order}
use Rattle.loops.specs.Program.{Expr, Program}
use Rattle.loops.specs.Map.{start_map, branch_map}
use Rattle.loops.proofs.Maps.{arity-start_map, arity-branch_map}
use Rattle.rounds.specs.Word.{IsLetter, branch_of, after_word}
use Rattle.poly.specs.Seen.{terms_in, terms_each}
use Rattle.poly.specs.Standing.{IsInVariables, StandsFor, AllStandFor}
use Rattle.poly.proofs.Standing.{zero_tells, stands_over}
use Rattle.loop_model.specs.FracPoly.{FracPoly}
use Rattle.loop_model.specs.Operations.{IsFree, PassesLimit}
use Rattle.loop_model.specs.Stops.{Stops, Forms}
use Rattle.loop_model.specs.declared.map_error.MapError.{MapError}
use Rattle.loop_model.specs.declared.map_error.MapError.TheVariants as map_error
use Rattle.corollaries.specs.Image.{image}
use Rattle.counter_run.specs.Composition.{composition_onto, composition_operations}
use Rattle.counter_run.specs.Combination.{IsComposed, IsComposition}
use Rattle.counter_run.specs.Costs.{most_count, composition_cost, letter_cost, start_cost}
use Rattle.counter_run.specs.Causes.{IsLimitWord, IsWideWord}
use Rattle.counter_run.specs.Images.{collected_after, word_operations, image_operations, IsFreeWord}
use Rattle.counter_run.specs.Search.{IsComposedWord, HasZeroImage, HasNonzeroImage}
use Rattle.counter_run.specs.declared.composition.Composition.{Composition}
use Rattle.counter_run.specs.declared.search.ComposedWord.{ComposedWord}
use Rattle.counter_run.proofs.Costs.{cost_of_composition}
use Rattle.counter_run.proofs.WordImages.{limit_word, wide_word, composition_of_word, letter_stands, letter_free, letter_stops, image_free, image_stops}

module _ (program : Program (Expr ℕ)) (p : Terms Fraction) where
  pub empty_composed : (t : ComposedWord) → t.word.items ≡ []
      → StandsFor (length program.names) t.polynomial p → t.cost ≡ 0 → IsComposedWord program p t
  unfolding after_word word_operations letter_cost
  empty_composed t e s z = record {
    letters = subst (All (IsLetter program)) (sym e) (All-nil _);
    stands =
        subst (λ w. StandsFor (length program.names) t.polynomial (after_word program w p))
        (sym e) s;
    free =
        subst (λ w. IsFree (length program.names) (word_operations program p w)) (sym e)
        (All-nil (λ o. ¬ (PassesLimit (length program.names) o)));
    counted = subst (λ w. t.cost ≡ min (letter_cost program p w) most_count) (sym e) z;
  }

module _ (program : Program (Expr ℕ)) (p : Terms Fraction)
    (arity : Arity (length program.names) p) (t : ComposedWord)
    (composed : IsComposedWord program p t) where
  abbrev m : ℕ
  m = length program.names

  abbrev word : List ℕ
  word = t.word.items

  abbrev IsMade : List (Terms Fraction) → Composition → Type 0
  IsMade qs c = IsComposed t.polynomial.arity qs (terms_in t.polynomial) c

  abbrev Answered : List (Terms Fraction) → Result Composition MapError → Type 0
  Answered qs r = IsComposition t.polynomial.arity qs (terms_in t.polynomial) r

  abbrev StopsMade : List (Terms Fraction) → MapError → Type 0
  StopsMade qs x =
      Stops t.polynomial.arity
      (composition_operations t.polynomial.arity qs [] (terms_in t.polynomial)) x

  pub images_over : (images : List FracPoly) (maps : List (Terms Fraction))
      → AllStandFor m images maps → All (IsInVariables t.polynomial.arity) images
  images_over images maps all =
      subst (λ n. All (IsInVariables n) images) (sym composed.stands.arity)
      (stands_over m images maps all)

  module _ (b : ℕ) (letter : IsLetter program b) (images : List FracPoly)
      (all : AllStandFor m images (branch_map program (branch_of program b))) where
    abbrev map_of : List (Terms Fraction)
    map_of = branch_map program (branch_of program b)

    letter_cost_is : letter_cost program p (b ∷ t.word.items)
        ≡ composition_cost m map_of (collected_after program p word)
    unfolding letter_cost
    letter_cost_is = refl

    pub letter_composed : (next : ComposedWord) → next.word.items ≡ b ∷ t.word.items
        → IsMade (terms_each images)
        (record { polynomial = next.polynomial; cost = next.cost })
        → IsComposedWord program p next
    letter_composed next e h =
        let d = composition_of_word program p arity t.polynomial word composed.stands images map_of
        all (arity-branch_map program (branch_of program b)) (Ok next.polynomial) h.0 in
        let same = cost_of_composition program p arity t.polynomial word composed.stands images
        map_of all (arity-branch_map program (branch_of program b)) in
        record {
          letters =
              subst (All (IsLetter program)) (sym e)
              (All-cons (IsLetter program) b word letter composed.letters);
          stands =
              subst (λ w. StandsFor m next.polynomial (after_word program w p)) (sym e)
              (letter_stands program p arity next.polynomial b word d.0);
          free =
              subst (λ w. IsFree m (word_operations program p w)) (sym e)
              (letter_free program p arity b word composed.free d.1);
          counted =
              subst (λ w. next.cost ≡ min (letter_cost program p w) most_count) (sym e)
              (h.1 ∙ ap (λ k. min k most_count) (same ∙ sym letter_cost_is));
        }

    letter_stop : (x : MapError) → StopsMade (terms_each images) x
        → Stops m (image_operations program p (b ∷ t.word.items)) x
    letter_stop x h =
        letter_stops program p arity b word x composed.free
        (composition_of_word program p arity t.polynomial word composed.stands images map_of all
        (arity-branch_map program (branch_of program b)) (Err x) h)

    pub letter_limit : (r : Result Composition MapError) (x : MapError) (at : ℕ) → r ≡ Err x
        → x ≡ map_error.Limit at → Answered (terms_each images) r
        → IsLimitWord program p (b ∷ t.word.items)
    letter_limit r x at e is h =
        limit_word program p (b ∷ word) at
        (letter_stop (map_error.Limit at)
        (subst (Answered (terms_each images)) (e ∙ ap Err is) h))

    pub letter_wide : (r : Result Composition MapError) (x : MapError) (at : ℕ) → r ≡ Err x
        → x ≡ map_error.Wide at → Answered (terms_each images) r
        → IsWideWord program p (b ∷ t.word.items)
    letter_wide r x at e is h =
        wide_word program p (b ∷ word) at
        (letter_stop (map_error.Wide at)
        (subst (Answered (terms_each images)) (e ∙ ap Err is) h))

  module _ (images : List FracPoly) (all : AllStandFor m images (start_map program)) where
    in_image : (r : Result FracPoly MapError)
        → Forms t.polynomial.arity
        (composition_operations t.polynomial.arity (terms_each images) [] (terms_in t.polynomial))
        (composition_onto t.polynomial.arity (terms_each images) [] (terms_in t.polynomial)) r
        → Forms m
        (composition_operations m (start_map program) [] (collected_after program p word))
        (image program p word) r
    in_image r h =
        composition_of_word program p arity t.polynomial word composed.stands images
        (start_map program) all (arity-start_map program) r h

    image_stop : (x : MapError) → StopsMade (terms_each images) x
        → Stops m (image_operations program p t.word.items) x
    image_stop x h = image_stops program p arity word x composed.free (in_image (Err x) h)

    pub image_limit : (r : Result Composition MapError) (x : MapError) (at : ℕ) → r ≡ Err x
        → x ≡ map_error.Limit at → Answered (terms_each images) r
        → IsLimitWord program p t.word.items
    image_limit r x at e is h =
        limit_word program p word at
        (image_stop (map_error.Limit at) (subst (Answered (terms_each images)) (e ∙ ap Err is) h))

    pub image_wide : (r : Result Composition MapError) (x : MapError) (at : ℕ) → r ≡ Err x
        → x ≡ map_error.Wide at → Answered (terms_each images) r
        → IsWideWord program p t.word.items
    image_wide r x at e is h =
        wide_word program p word at
        (image_stop (map_error.Wide at) (subst (Answered (terms_each images)) (e ∙ ap Err is) h))

    module _ (c : Composition) (g : IsMade (terms_each images) c) where
      pub image_free_word : IsFreeWord program p t.word.items
      image_free_word =
          image_free program p arity word composed.free (in_image (Ok c.polynomial) g.0).1

      pub image_cost : c.cost ≡ min (start_cost program p t.word.items) most_count
      unfolding start_cost
      image_cost =
          g.1 ∙ ap (λ k. min k most_count)
          (cost_of_composition program p arity t.polynomial word composed.stands images
          (start_map program) all (arity-start_map program))

      module _ (z : Bool) (is : IsTrue z ↔ (terms_in c.polynomial ≡ [])) where
        tells : IsTrue z ↔ Same ℚ (image program p word) []
        tells =
            zero_tells fractions_ring m c.polynomial grevlex_order (image program p word) z
            (in_image (Ok c.polynomial) g.0).0 is

        pub image_zero : z ≡ true → HasZeroImage program p t.word.items
        image_zero y =
            record { letters = composed.letters; free = image_free_word; zero = tells.0 y }

        pub image_found : z ≡ false → HasNonzeroImage program p t.word.items c.polynomial
        image_found y =
            record {
              free = image_free_word;
              nonzero =
                  record {
                    stands = (in_image (Ok c.polynomial) g.0).0;
                    not_zero = λ s. let k : z ≡ true = tells.1 s in
                        let f : true ≡ false = sym k ∙ y in cc;
                  };
            }
