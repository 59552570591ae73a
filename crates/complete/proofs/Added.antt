-- An element put into a completion, over plain variables.
--   leads_more, element_is     its leads and its state after it
use Rattle.std.proofs.Common.{◌≡◌, ℕ, List, [], ◌∷◌, ◌++◌, map, length, Option, None, refl, sym, ap, ap₂, ◌∙◌}
use Rattle.std.proofs.lemmas.List.{length-map, map-append}
use Rattle.algebra.specs.FieldArithmetic.{FieldArithmetic}
use Rattle.polynomials.specs.Order.{Rank}
use Rattle.polynomials.specs.Terms.{Terms}
use Rattle.machines.specs.Completion.{State, with_element}
use Rattle.machines.specs.Cut.{lead_of}
use Rattle.machines.specs.Pairs.{with_new}

module _ {A : Type 0} (F : FieldArithmetic A) (O : Rank) where
  pub leads_more : (bs cs : List (Terms A)) (g : Terms A) (ls ms : List (List ℕ)) (d : List ℕ)
      → ls ≡ map lead_of bs → d ≡ lead_of g → ms ≡ ls ++ d ∷ [] → cs ≡ bs ++ g ∷ []
      → ms ≡ map lead_of cs
  leads_more bs cs g ls ms d e f i j = i ∙ ap₂ (λ (xs : List (List ℕ)) (x : List ℕ). xs ++ x ∷ []) e
      f ∙ sym (map-append lead_of bs (g ∷ [])) ∙ ap (map lead_of) (sym j)

  pub element_is : (bs cs : List (Terms A)) (ss ts : List ℕ) (w v : List (ℕ × ℕ))
      (c : Option (Terms A)) (g : Terms A) (n x : ℕ) (ls : List (List ℕ)) (d : List ℕ)
      → ls ≡ map lead_of bs → d ≡ lead_of g → cs ≡ bs ++ g ∷ [] → ts ≡ ss ++ n ∷ []
      → v ≡ with_new O (ls ++ d ∷ []) (ss ++ n ∷ []) (length ls) d ls 0 w
      → ◌≡◌ {A = State A} (record {
        basis = cs;
        sugars = ts;
        waiting = v;
        current = None;
        pair_sugar = x;
      }) (with_element F O (record {
        basis = bs;
        sugars = ss;
        waiting = w;
        current = c;
        pair_sugar = x;
      }) g n)
  unfolding with_element
  element_is bs cs ss ts w v c g n x ls d e f i t j =
      let all = leads_more bs (bs ++ g ∷ []) g ls (ls ++ d ∷ []) d e f refl refl in
      let count : length ls ≡ length bs = ap length e ∙ length-map bs lead_of in
      let waits = j ∙ ap (λ (ms : List (List ℕ)). with_new O ms (ss ++ n ∷ []) (length ls) d ls 0 w)
      all ∙ ap (λ k. with_new O (map lead_of (bs ++ g ∷ [])) (ss ++ n ∷ []) k d ls 0 w) count
      ∙ ap₂ (λ (y : List ℕ) (ys : List (List ℕ)). with_new O (map lead_of (bs ++ g ∷ []))
      (ss ++ n ∷ []) (length bs) y ys 0 w) f e in
      λ k. record { basis = i k; sugars = t k; waiting = waits k; current = None; pair_sugar = x }
