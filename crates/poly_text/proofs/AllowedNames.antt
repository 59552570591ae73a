-- Names that may stand in a sum.
--   Allowed names refused i     the variable i has one of the names, and isn't refused
--   look_allows                 a name in which nothing is wrong is allowed
--   uses_apart                  what doesn't use the variable i uses others
--   has_push                    a variable that isn't among some, and isn't one more, isn't among them all
use Rattle.std.proofs.Common.{◌≡◌, ℕ, List, [], ◌∷◌, ◌++◌, refl, ◌∙◌, ◌≢◌, ◌<◌, Some, None, length, Bool, true, false, ◌||◌, ◌==◌, Option, unwrap_or, if◌then◌else◌}
use Rattle.std.proofs.lemmas.List.Folds.{list_any-append}
use Rattle.poly_text.specs.NameFaults.{has, look}
use Rattle.std.specs.Option.{option_map_or}
use Rattle.std.proofs.lemmas.Bool.{eq-eqb, or_parts, or_from}
use Rattle.loops.specs.WellFormed.{Uses}
use Rattle.loops.specs.Program.{Expr, number, variable, neg, add, sub, mul, divide, power}
use Rattle.loop_model.specs.Uses.{uses}
use Rattle.loop_model.specs.Names.{place_of}
use Rattle.loop_model.proofs.Places.{place_within}
use Rattle.poly_text.specs.Reasons.{Reason, unknown}

pub has_push : (is : List ℕ) (v i : ℕ) → has is i ≡ false → (v == i) ≡ false
    → has (is ++ v ∷ []) i ≡ false
has_push is v i e f = list_any-append (λ j. j == i) is (v ∷ [])
    ∙ or_from (has is i) (v == i || false) e (or_from (v == i) false f refl)

pub record Allowed (names : List (List ℕ)) (refused : List ℕ) (i : ℕ) : Type 0 where
  pub within : i < length names
  pub free : has refused i ≡ false

module _ (names : List (List ℕ)) (refused : List ℕ) (why : Reason) where
  pub look_allows : (w : List ℕ) → look names refused why w ≡ None
      → Allowed names refused (unwrap_or (place_of names w) 0)
  look_allows w e = go (place_of names w) refl e
    where
      free : (i : ℕ) (b : Bool) → has refused i ≡ b → (if b then Some why else None) ≡ None
          → has refused i ≡ false
      free i true h e = absurd (cc)
      free i false h e = h

      go : (o : Option ℕ) → place_of names w ≡ o → option_map_or (λ i. if has refused i
          then Some why else None) o (Some unknown) ≡ None → Allowed names refused (unwrap_or o 0)
      go None h e = absurd (cc)
      go (Some i) h e = record {
        within = place_within names w i h;
        free = free i (has refused i) refl e;
      }

module _ (P : ℕ → Type 0) (i : ℕ) where
  pub uses_apart : (e : Expr ℕ) → uses e i ≡ false → Uses P e → Uses (λ j. P j × (j ≢ i)) e
  unfolding uses Uses
  uses_apart (number n) h u = tt
  uses_apart (variable j) h u = (u, λ e. let k : (j == i) ≡ true = eq-eqb j i e in absurd (cc))
  uses_apart (neg at e) h u = uses_apart e h u
  uses_apart (add at e f) h u = (
    uses_apart e (or_parts (uses e i) (uses f i) h).0 u.0,
    uses_apart f (or_parts (uses e i) (uses f i) h).1 u.1,
  )
  uses_apart (sub at e f) h u = (
    uses_apart e (or_parts (uses e i) (uses f i) h).0 u.0,
    uses_apart f (or_parts (uses e i) (uses f i) h).1 u.1,
  )
  uses_apart (mul at e f) h u = (
    uses_apart e (or_parts (uses e i) (uses f i) h).0 u.0,
    uses_apart f (or_parts (uses e i) (uses f i) h).1 u.1,
  )
  uses_apart (divide at e n) h u = (uses_apart e h u.0, u.1)
  uses_apart (power at e n) h u = uses_apart e h u
