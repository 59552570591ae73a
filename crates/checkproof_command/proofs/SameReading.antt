-- A certificate is read alike for graphs with the same polynomials.
--   itself             a transition is the same as itself
--   same_reading
use Rattle.std.proofs.Common.{◌≡◌, ℕ, zero, suc, ◌+◌, ◌-◌, List, [], ◌∷◌, ◌++◌, map, length, get_or, Ok, Err, refl, ap, ◌∙◌}
use Rattle.std.specs.Prelude.{codes, is_some, option_and_then}
use Rattle.std.specs.Option.{ok_or}
use Rattle.serde_json.specs.Data.{Data, Items, no_items, item}
use Rattle.serde_json.specs.Find.{get, as_object}
use Rattle.algebra.specs.Fraction.{Fraction, ℚ}
use Rattle.polynomials.specs.Terms.{Terms}
use Rattle.polynomials.proofs.Same.{AllSame-refl, AllSame-length}
use Rattle.flows.specs.Graph.{Transition, Graph}
use Rattle.flows.specs.Certificate.{no_transition, transition_at}
use Rattle.flows.specs.Same.{IsSameTransition, AreSameTransitions, IsSameGraph}
use Rattle.cert_form.specs.Form.{Reading, document, not_json, shape, on, after, part, expect, parts, list_with, has_version, has_names}
use Rattle.program_model.specs.Names.{unknown_names}
use Rattle.program_checker.specs.Form.{RawRow, RawCertificate, count_at, each_by, row_at, step_at, steps_from, lists_from, has_kind, cert_of, cert_in}

along : {A B : Type 0} (f g : A → Reading B) → ((a : A) → f a ≡ g a) → (r : Reading A)
    → on f r ≡ on g r
along f g e (Ok a) = e a
along f g e (Err x) = refl

module _ {A : Type 0} (f g : ℕ → List ℕ → Data → Reading A)
    (e : (j : ℕ) (path : List ℕ) (d : Data) → f j path d ≡ g j path d) where
  each_along : (path : List ℕ) (n : ℕ) (ds : Items) → each_by f path n ds ≡ each_by g path n ds
  each_along path n no_items = refl
  each_along path n (item d ds) =
      along (λ a. after (a ∷ []) (each_by f path (suc n) ds))
      (λ a. after (a ∷ []) (each_by g path (suc n) ds))
      (λ a. ap (after (a ∷ [])) (each_along path (suc n) ds)) (f n (part path n) d)
      ∙ ap (on (λ a. after (a ∷ []) (each_by g path (suc n) ds))) (e n (part path n) d)

-- ---- transitions
pub itself : (t : Transition) → IsSameTransition t t
itself t = record {
  from = refl;
  to = refl;
  unknowns = refl;
  zeros = AllSame-refl ℚ t.zeros;
  images = AllSame-refl ℚ t.images;
}

alike_at : (ts us : List Transition) → AreSameTransitions ts us → (j : ℕ)
    → IsSameTransition (get_or ts j no_transition) (get_or us j no_transition)
unfolding AreSameTransitions
alike_at [] [] h j = itself no_transition
alike_at [] (u ∷ us) h j = absurd h
alike_at (t ∷ ts) [] h j = absurd h
alike_at (t ∷ ts) (u ∷ us) h zero = h.0
alike_at (t ∷ ts) (u ∷ us) h (suc j) = alike_at ts us h.1 j

as_many : (ts us : List Transition) → AreSameTransitions ts us → length ts ≡ length us
unfolding AreSameTransitions
as_many [] [] h = refl
as_many [] (u ∷ us) h = absurd h
as_many (t ∷ ts) [] h = absurd h
as_many (t ∷ ts) (u ∷ us) h = ap suc (as_many ts us h.1)

module _ (names : List (List ℕ)) (counts : List ℕ) where
  -- by how many unknowns, the source, how many zeros, and the target
  abbrev step_of : ℕ → ℕ → ℕ → ℕ → List ℕ → Data → Reading (List RawRow)
  step_of a v z w path d =
      parts (row_at (unknown_names a ++ names) (count_at counts v + z)) path
      (list_with (count_at counts w) d)

  step_along : (t u : Transition) → IsSameTransition t u → (path : List ℕ) (d : Data)
      → step_at names counts t path d ≡ step_at names counts u path d
  step_along t u s path d =
      ap (λ a. step_of a t.from (length t.zeros) t.to path d) s.unknowns
      ∙ ap (λ v. step_of u.unknowns v (length t.zeros) t.to path d) s.from
      ∙ ap (λ z. step_of u.unknowns u.from z t.to path d)
      (AllSame-length ℚ t.zeros u.zeros s.zeros)
      ∙ ap (λ w. step_of u.unknowns u.from (length u.zeros) w path d) s.to

module _ (names : List (List ℕ)) (G H : Graph) (s : IsSameGraph G H) where
  steps_along : (counts : List ℕ) (d : Data)
      → steps_from names counts G d ≡ steps_from names counts H d
  steps_along counts d =
      along (each_by (λ j. step_at names counts (transition_at G j)) (codes "/steps") 0)
      (each_by (λ j. step_at names counts (transition_at H j)) (codes "/steps") 0)
      (each_along (λ j. step_at names counts (transition_at G j))
      (λ j. step_at names counts (transition_at H j))
      (λ j. step_along names counts (transition_at G j) (transition_at H j)
      (alike_at G.transitions H.transitions s.transitions j)) (codes "/steps") 0)
      (ok_or (option_and_then (list_with (length G.transitions)) (get (codes "steps") d))
      (shape (codes "/steps")))
      ∙ ap (λ n. on (each_by (λ j. step_at names counts (transition_at H j)) (codes "/steps") 0)
      (ok_or (option_and_then (list_with n) (get (codes "steps") d)) (shape (codes "/steps"))))
      (as_many G.transitions H.transitions s.transitions)

  abbrev certified : List (List (Terms Fraction)) → List (List RawRow) → Reading RawCertificate
  certified lists steps = Ok (record { lists = lists; steps = steps })

  parts_along : (d : Data)
      → on (λ lists. on (certified lists) (steps_from names (0 ∷ map length lists) G d))
      (lists_from names (G.nodes - 1) d)
      ≡ on (λ lists. on (certified lists) (steps_from names (0 ∷ map length lists) H d))
      (lists_from names (H.nodes - 1) d)
  parts_along d =
      along _ (λ lists. on (certified lists) (steps_from names (0 ∷ map length lists) H d))
      (λ lists. ap (on (certified lists)) (steps_along (0 ∷ map length lists) d))
      (lists_from names (G.nodes - 1) d)
      ∙ ap (λ k. on (λ lists. on (certified lists) (steps_from names (0 ∷ map length lists) H d))
      (lists_from names (k - 1) d)) s.nodes

  cert_along : (d : Data) → cert_of names G d ≡ cert_of names H d
  cert_along d =
      ap (λ r. expect (is_some (as_object d)) (codes "/")
      (expect (has_version 1 d) (codes "/version")
      (expect (has_kind d) (codes "/kind")
      (expect (has_names names d) (codes "/vars") r)))) (parts_along d)

  pub same_reading : (bytes : List ℕ) → cert_in names G bytes ≡ cert_in names H bytes
  unfolding cert_in
  same_reading bytes = along (cert_of names G) (cert_of names H) cert_along
      (ok_or (document bytes) not_json)
