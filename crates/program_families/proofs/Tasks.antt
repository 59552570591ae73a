-- The tasks of images and of monomials, as the code goes through them.
--   next_item                                 the next item of a list that is gone through
--   image_begins, image_ends, image_stops     of one element
--   images_none                               of all elements
--   images_along, rests_along                 of the same ones
--   rest_begins, rest_ends, rest_stops        of one monomial
--   rests_none                                of all monomials
--   target_none, target_some, begins_kept, begins_none, begins_some     by whether there is a list where the transition leads to
use Rattle.std.proofs.Common.{◌≡◌, ◌≢◌, inr, ℕ, suc, ◌+◌, ◌<◌, length, get_or, drop, List, [], ◌∷◌, refl, sym, ap, ap₂, ◌∙◌, Some, None, Err, arith}
use Rattle.std.proofs.lemmas.List.{drop_more}
use Rattle.algebra.specs.Fraction.{Fraction}
use Rattle.polynomials.specs.Terms.{Terms}
use Rattle.machines.specs.Division as division
use Rattle.machines.specs.Journal as journal
use Rattle.divide.specs.declared.EngineError.{EngineError}
use Rattle.divide.specs.declared.EngineError.TheVariants as engine
use Rattle.loop_model.proofs.Items.{in_list, item_of}
use Rattle.flows.specs.Entries.{Begin, Image, Rest}
use Rattle.flows.specs.Tasks.{Rests, fresh, imaging, resting, goes, kept, rested, Job, image_of, product, by_rest, by_target, from_images, from_rests, from_fresh, begin_ideal, next}
use Rattle.program_families.specs.Following.{ComesNext}
use Rattle.program_families.specs.Causes.{IfStops}
use Rattle.program_families.specs.Refusals.{in_image, in_rest}
use Rattle.program_families.specs.Ends.{HasRest, Divides}
use Rattle.program_families.proofs.Divided.{image_over, rest_over}
use Rattle.program_families.proofs.Following.{follows_begun, next_comes}

-- the next item of a list that is gone through
pub next_item : {X : Type 0} (xs items : List X) → items ≡ xs → (i : ℕ) (x : X)
    → i < length items → x ≡ get_or items i x → drop i xs ≡ x ∷ drop (i + 1) xs
next_item xs items value i x l is =
    drop_more xs i x (in_list xs items value i l)
    ∙ ap (λ y. y ∷ drop (i + 1) xs) (sym (item_of xs items value i x is))

module _ (n : ℕ) (j : Job) (basis : List (Terms Fraction)) (start es : List journal.Entry) where
  module _ (e : ℕ) (waiting : List (Terms Fraction)) where
    pub image_begins : (p q : Terms Fraction) → q ≡ image_of n j p
        → ComesNext n j start es (from_images n j basis e (p ∷ waiting))
        → ComesNext n j start es (goes (Begin (Image j.place e))
        (imaging basis e waiting (division.initial_state basis q)))
    unfolding from_images
    image_begins p q is c =
        next_comes n j start _ _
        (ap (λ x. goes (Begin (Image j.place e))
        (imaging basis e waiting (division.initial_state basis x))) (sym is)) c

    pub image_ends : (rest : Terms Fraction)
        → HasRest n j basis (imaging basis e waiting) start es rest
        → ComesNext n j start es (by_rest n j basis e waiting rest)
    image_ends rest h = record {
      state = imaging basis e waiting h.last;
      follows = h.follows;
      is =
          image_over n j basis e waiting h.last h.ended
          ∙ ap (by_rest n j basis e waiting) (sym h.is);
    }

    pub image_stops : (limit : ℕ) (x : EngineError)
        → Divides n j basis (imaging basis e waiting) start limit es (Err x)
        → IfStops n j start es limit (in_image e x)
    image_stops limit engine.Wide h = inr (record {
      basis = basis;
      waiting = waiting;
      state = h.last;
      follows = h.follows;
      past = h.past;
    })
    image_stops limit engine.Budget h = h
    image_stops limit engine.Memory h = tt

    pub rest_none : (rest : Terms Fraction) → rest ≡ []
        → ComesNext n j start es (by_rest n j basis e waiting rest)
        → ComesNext n j start es (from_images n j basis (e + 1) waiting)
    unfolding by_rest
    rest_none rest z c =
        let a : suc e ≡ e + 1 = omega arith in
        next_comes n j start _ _
        (ap (by_rest n j basis e waiting) z ∙ ap (λ k. from_images n j basis k waiting) a) c

    pub rest_some : (rest : Terms Fraction) → rest ≢ []
        → ComesNext n j start es (by_rest n j basis e waiting rest)
        → ComesNext n j start es (from_rests n j basis [] j.monomials)
    unfolding by_rest
    rest_some [] z c = absurd (z refl)
    rest_some (t ∷ rest) z c = next_comes n j start _ _ refl c

  pub images_none : (e : ℕ) (waiting : List (Terms Fraction)) → waiting ≡ []
      → ComesNext n j start es (from_images n j basis e waiting) → ComesNext n j start es kept
  unfolding from_images
  images_none e waiting z c = next_comes n j start _ _ (ap (from_images n j basis e) z) c

  module _ (rs : Rests) (m : List ℕ) (waiting : List (List ℕ)) where
    pub rest_begins : (q : Terms Fraction) → q ≡ product n j rs m
        → ComesNext n j start es (from_rests n j basis rs (m ∷ waiting))
        → ComesNext n j start es (goes (Begin (Rest j.place m))
        (resting basis rs m waiting (division.initial_state basis q)))
    unfolding from_rests
    rest_begins q is c =
        next_comes n j start _ _
        (ap (λ x. goes (Begin (Rest j.place m))
        (resting basis rs m waiting (division.initial_state basis x))) (sym is)) c

    pub rest_ends : (rest : Terms Fraction)
        → HasRest n j basis (resting basis rs m waiting) start es rest
        → ComesNext n j start es (from_rests n j basis ((m, rest) ∷ rs) waiting)
    rest_ends rest h = record {
      state = resting basis rs m waiting h.last;
      follows = h.follows;
      is =
          rest_over n j basis rs m waiting h.last h.ended
          ∙ ap (λ r. from_rests n j basis ((m, r) ∷ rs) waiting) (sym h.is);
    }

    pub rest_stops : (limit : ℕ) (x : EngineError)
        → Divides n j basis (resting basis rs m waiting) start limit es (Err x)
        → IfStops n j start es limit (in_rest m x)
    rest_stops limit engine.Wide h = inr (record {
      basis = basis;
      rests = rs;
      waiting = waiting;
      state = h.last;
      follows = h.follows;
      past = h.past;
    })
    rest_stops limit engine.Budget h = h
    rest_stops limit engine.Memory h = tt

  pub rests_none : (rs : Rests) (waiting : List (List ℕ)) → waiting ≡ []
      → ComesNext n j start es (from_rests n j basis rs waiting)
      → ComesNext n j start es (rested basis rs)
  unfolding from_rests
  rests_none rs waiting z c = next_comes n j start _ _ (ap (from_rests n j basis rs) z) c

  pub images_along : (e : ℕ) (xs ys : List (Terms Fraction)) → xs ≡ ys
      → ComesNext n j start es (from_images n j basis e xs)
      → ComesNext n j start es (from_images n j basis e ys)
  images_along e xs ys is c = next_comes n j start _ _ (ap (from_images n j basis e) is) c

  pub rests_along : (rs ss : Rests) (xs ys : List (List ℕ)) → rs ≡ ss → xs ≡ ys
      → ComesNext n j start es (from_rests n j basis rs xs)
      → ComesNext n j start es (from_rests n j basis ss ys)
  rests_along rs ss xs ys e is c = next_comes n j start _ _ (ap₂ (from_rests n j basis) e is) c

  -- ---- the list where the transition leads to
  pub target_none : j.target ≡ None → ComesNext n j start es (by_target n j basis j.target)
      → ComesNext n j start es (from_rests n j basis [] j.monomials)
  unfolding by_target
  target_none e c = next_comes n j start _ _ (ap (by_target n j basis) e) c

  pub target_some : (hs : List (Terms Fraction)) → j.target ≡ Some hs
      → ComesNext n j start es (by_target n j basis j.target)
      → ComesNext n j start es (from_images n j basis 0 hs)
  unfolding by_target
  target_some hs e c = next_comes n j start _ _ (ap (by_target n j basis) e) c

-- ---- the beginning
module _ (n : ℕ) (j : Job) (es : List journal.Entry) where
  fresh_comes : ComesNext n j es es (from_fresh n j j.target)
  unfolding next
  fresh_comes = record { state = fresh; follows = follows_begun n j es; is = refl }

  pub begins_kept : j.target ≡ Some [] → ComesNext n j es es kept
  unfolding from_fresh
  begins_kept e = next_comes n j es _ _ (ap (from_fresh n j) e) fresh_comes

  pub begins_none : j.target ≡ None → ComesNext n j es es (begin_ideal n j)
  unfolding from_fresh
  begins_none e = next_comes n j es _ _ (ap (from_fresh n j) e) fresh_comes

  pub begins_some : (hs : List (Terms Fraction)) → j.target ≡ Some hs → hs ≢ []
      → ComesNext n j es es (begin_ideal n j)
  unfolding from_fresh
  begins_some [] e z = absurd (z refl)
  begins_some (h ∷ hs) e z = next_comes n j es _ _ (ap (from_fresh n j) e) fresh_comes
