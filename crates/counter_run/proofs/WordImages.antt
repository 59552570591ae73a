-- Words with a letter in front, and their images.
--   terms_are                 what stands for a list of terms has its terms, collected
--   composed_forms            what is composed with images, within the limits, in terms of what they stand for
--   composing_none, first_none     operations of a composition have the offset 0
--   composition_of_word       what is composed with a letter's map, within the limits
--   image_stands, image_stops the image, and where its operations stop
--   limit_word, wide_word     the stops as those of the word
--   letter_stands, letter_free, letter_stops      with one letter more
--   image_free, image_stops   its image
use Rattle.std.proofs.Common.{◌≡◌, ℕ, List, [], ◌∷◌, ◌++◌, length, refl, sym, subst, ◌∙◌, All, Result}
use Rattle.std.proofs.lemmas.List.Elements.{All-nil, All-cons, All-head, All-tail, All-append}
use Rattle.algebra.specs.Fraction.{Fraction, ℚ, rationals}
use Rattle.algebra.proofs.Fractions.{ℚ_ring, ℚ_field}
use Rattle.polynomials.specs.Terms.{Terms, Same, AllSame, constant, times, compose}
use Rattle.polynomials.specs.Polynomial.{Arity, AllArity}
use Rattle.polynomials.specs.Order.{grevlex}
use Rattle.polynomials.proofs.Same.{Same-refl, Same-trans}
use Rattle.polynomials.proofs.Orders.{grevlex_order}
use Rattle.polynomials.proofs.Composition.{same_compose}
use Rattle.machines.specs.Collect.{collect}
use Rattle.machines.proofs.Collecting.{collect-is}
use Rattle.loops.specs.Program.{Expr, Program}
use Rattle.loops.specs.Map.{start_map, branch_map}
use Rattle.rounds.specs.Word.{branch_of, after_word}
use Rattle.rounds.proofs.Word.{arity-after_word}
use Rattle.poly.specs.Seen.{terms_in, terms_each}
use Rattle.poly.specs.Standing.{StandsFor, AllStandFor}
use Rattle.poly.proofs.Standing.{polynomial_over, arity_over, stands_same, stands_over, arities_over}
use Rattle.loop_model.specs.FracPoly.{FracPoly}
use Rattle.loop_model.specs.Operations.{Operation, IsFree, PassesLimit, IsFirst}
use Rattle.loop_model.specs.Stops.{Stops, Forms}
use Rattle.loop_model.specs.declared.map_error.MapError.{MapError}
use Rattle.loop_model.specs.declared.map_error.MapError.TheVariants as map_error
use Rattle.loop_model.proofs.OperationLaws.{same_forms, stops_behind, stops_front}
use Rattle.counter_run.specs.Composition.{factors, product_operations, term_product, composition_onto, composition_operations}
use Rattle.counter_run.specs.Causes.{IsLimitWord, IsWideWord}
use Rattle.counter_run.specs.Images.{collected_after, word_operations, image_operations}
use Rattle.counter_run.proofs.Compositions.{same_composing}
use Rattle.counter_run.proofs.Composed.{composition_onto_is}

pub terms_are : (m : ℕ) (q : FracPoly) (p : Terms Fraction) → Arity m p → StandsFor m q p
    → terms_in q ≡ collect rationals grevlex p
terms_are m q p a s =
    collect-is ℚ_field grevlex grevlex_order m p (terms_in q) a (polynomial_over m q s.arity) s.same

-- ---- a composition, in terms of what the images stand for
module _ (m : ℕ) (q : FracPoly) (over : q.arity ≡ m) (p : Terms Fraction) (arity : Arity m p)
    (same : Same ℚ (terms_in q) p) (images : List FracPoly) (maps : List (Terms Fraction))
    (all : AllStandFor m images maps) (maps_arity : AllArity m maps) where
  same_images : AllSame ℚ (terms_each images) maps
  same_images = stands_same m images maps all

  composed_is : Same ℚ (composition_onto m (terms_each images) [] (terms_in q))
      (compose ℚ m p maps)
  composed_is =
      let many : AllArity m (terms_each images) =
      arities_over m images (stands_over m images maps all) in
      Same-trans ℚ (composition_onto_is m (terms_each images) (terms_in q) many)
      (same_compose ℚ_ring m m (terms_in q) p (terms_each images) maps
      (arity_over m q over) arity many maps_arity same same_images)

  pub composed_forms : (r : Result FracPoly MapError)
      → Forms q.arity (composition_operations q.arity (terms_each images) [] (terms_in q))
      (composition_onto q.arity (terms_each images) [] (terms_in q)) r
      → Forms m (composition_operations m maps [] (terms_in q)) (compose ℚ m p maps) r
  composed_forms r h =
      let here : Forms m (composition_operations m (terms_each images) [] (terms_in q))
      (composition_onto m (terms_each images) [] (terms_in q)) r =
      subst (λ n. Forms n (composition_operations n (terms_each images) [] (terms_in q))
      (composition_onto n (terms_each images) [] (terms_in q)) r) over h in
      same_forms m (composition_operations m (terms_each images) [] (terms_in q))
      (composition_operations m maps [] (terms_in q))
      (composition_onto m (terms_each images) [] (terms_in q)) (compose ℚ m p maps) r
      (same_composing m (terms_each images) maps [] [] (terms_in q) same_images
      (Same-refl ℚ [])) composed_is here

-- ---- operations without a place in a text
abbrev pub AtNone : List Operation → Type 0
AtNone os = All (λ o. o.at ≡ 0) os

products_none : (q : Terms Fraction) (fs : List (Terms Fraction)) → AtNone (product_operations q fs)
unfolding product_operations
products_none q [] = All-nil _
products_none q (f ∷ fs) = All-cons (λ o. o.at ≡ 0) _ _ refl (products_none (times ℚ q f) fs)

pub composing_none : (m : ℕ) (images : List (Terms Fraction)) (s p : Terms Fraction)
    → AtNone (composition_operations m images s p)
unfolding composition_operations
composing_none m images s [] = All-nil _
composing_none m images s (t ∷ p) =
    All-append (λ o. o.at ≡ 0) _ _ (products_none (constant m t.1) (factors images t.0))
    (All-cons (λ o. o.at ≡ 0) _ _ refl (composing_none m images (s ++ term_product m images t) p))

all_behind : (P : Operation → Type 0) (xs : List Operation) (y : Operation) (ys : List Operation)
    → All P (xs ++ y ∷ ys) → P y
all_behind P [] y ys a = All-head P y ys a
all_behind P (x ∷ xs) y ys a = all_behind P xs y ys (All-tail P x (xs ++ y ∷ ys) a)

pub first_none : (m : ℕ) (P : Operation → Type 0) (os : List Operation) (at : ℕ) → AtNone os
    → IsFirst m P os at → at ≡ 0
first_none m P os at a f =
    sym f.offset ∙ all_behind (λ o. o.at ≡ 0) f.before f.operation f.behind (subst AtNone f.order a)

module _ (program : Program (Expr ℕ)) (p : Terms Fraction) where
  word_none : (w : List ℕ) → AtNone (word_operations program p w)
  unfolding word_operations
  word_none [] = All-nil _
  word_none (b ∷ w) =
      All-append (λ o. o.at ≡ 0) _ _ (word_none w)
      (composing_none (length program.names) (branch_map program (branch_of program b)) []
      (collected_after program p w))

  image_none : (w : List ℕ) → AtNone (image_operations program p w)
  image_none w =
      All-append (λ o. o.at ≡ 0) _ _ (word_none w)
      (composing_none (length program.names) (start_map program) [] (collected_after program p w))

  pub limit_word : (w : List ℕ) (at : ℕ)
      → Stops (length program.names) (image_operations program p w) (map_error.Limit at)
      → IsLimitWord program p w
  limit_word w at h =
      subst (λ k. Stops (length program.names) (image_operations program p w) (map_error.Limit k))
      (first_none (length program.names) _ (image_operations program p w) at (image_none w) h) h

  pub wide_word : (w : List ℕ) (at : ℕ)
      → Stops (length program.names) (image_operations program p w) (map_error.Wide at)
      → IsWideWord program p w
  wide_word w at h =
      subst (λ k. Stops (length program.names) (image_operations program p w) (map_error.Wide k))
      (first_none (length program.names) _ (image_operations program p w) at (image_none w) h) h

module _ (program : Program (Expr ℕ)) (p : Terms Fraction)
    (arity : Arity (length program.names) p) where
  abbrev m : ℕ
  m = length program.names

  module _ (q : FracPoly) (w : List ℕ) (stands : StandsFor m q (after_word program w p))
      (images : List FracPoly) (maps : List (Terms Fraction)) (all : AllStandFor m images maps)
      (maps_arity : AllArity m maps) where
    collected : terms_in q ≡ collected_after program p w
    collected = terms_are m q (after_word program w p) (arity-after_word program w p arity) stands

    -- what is composed, in terms of the word
    pub composition_of_word : (r : Result FracPoly MapError)
        → Forms q.arity (composition_operations q.arity (terms_each images) [] (terms_in q))
        (composition_onto q.arity (terms_each images) [] (terms_in q)) r
        → Forms m (composition_operations m maps [] (collected_after program p w))
        (compose ℚ m (after_word program w p) maps) r
    composition_of_word r h =
        subst (λ x. Forms m (composition_operations m maps [] x)
        (compose ℚ m (after_word program w p) maps) r) collected
        (composed_forms m q stands.arity (after_word program w p)
        (arity-after_word program w p arity) stands.same images maps all maps_arity r h)

  -- ---- a letter
  pub letter_operations : (b : ℕ) (w : List ℕ)
      → word_operations program p (b ∷ w) ≡ word_operations program p w ++ composition_operations m
      (branch_map program (branch_of program b)) [] (collected_after program p w)
  unfolding word_operations
  letter_operations b w = refl

  letter_after : (b : ℕ) (w : List ℕ)
      → after_word program (b ∷ w) p ≡ compose ℚ m (after_word program w p)
      (branch_map program (branch_of program b))
  unfolding after_word
  letter_after b w = refl

  pub letter_stands : (q : FracPoly) (b : ℕ) (w : List ℕ)
      → StandsFor m q
      (compose ℚ m (after_word program w p) (branch_map program (branch_of program b)))
      → StandsFor m q (after_word program (b ∷ w) p)
  letter_stands q b w s = subst (StandsFor m q) (sym (letter_after b w)) s

  pub letter_free : (b : ℕ) (w : List ℕ) → IsFree m (word_operations program p w)
      → IsFree m
      (composition_operations m (branch_map program (branch_of program b)) []
      (collected_after program p w)) → IsFree m (word_operations program p (b ∷ w))
  letter_free b w f g =
      subst (IsFree m) (sym (letter_operations b w))
      (All-append (λ o. ¬ (PassesLimit m o)) _ _ f g)

  pub letter_stops : (b : ℕ) (w : List ℕ) (e : MapError)
      → IsFree m (word_operations program p w)
      → Stops m
      (composition_operations m (branch_map program (branch_of program b)) []
      (collected_after program p w)) e → Stops m (image_operations program p (b ∷ w)) e
  letter_stops b w e f s =
      stops_front m (word_operations program p (b ∷ w))
      (composition_operations m (start_map program) [] (collected_after program p (b ∷ w))) e
      (subst (λ os. Stops m os e) (sym (letter_operations b w))
      (stops_behind m (word_operations program p w)
      (composition_operations m (branch_map program (branch_of program b)) []
      (collected_after program p w)) e f s))

  -- ---- the start
  pub image_free : (w : List ℕ) → IsFree m (word_operations program p w)
      → IsFree m (composition_operations m (start_map program) [] (collected_after program p w))
      → IsFree m (image_operations program p w)
  image_free w f g = All-append (λ o. ¬ (PassesLimit m o)) _ _ f g

  pub image_stops : (w : List ℕ) (e : MapError) → IsFree m (word_operations program p w)
      → Stops m (composition_operations m (start_map program) [] (collected_after program p w)) e
      → Stops m (image_operations program p w) e
  image_stops w e f s =
      stops_behind m (word_operations program p w)
      (composition_operations m (start_map program) [] (collected_after program p w)) e f s
