-- Operations on points n, s, u, v and variables, for numbers and for polynomials in place of numbers.
--   over N bs k f l       the entries of the base bs each times its k, and then f of the others
--   keep bs f l           the entries of the base as they are, and then f of the others
--   later N bs u v l      n + 1, -s, u(b) u, v(b) v, and the variables as they are
--   on_variables bs f l         as they are, with f of the variables for the variables
use Rattle.std.specs.Prelude.{ℕ, List, [], ◌∷◌}
use Rattle.algebra.specs.Arithmetic.{Arithmetic}

module _ {A : Type 0} (N : Arithmetic A) where
  abbrev pub over : List ℕ → (ℕ → A) → (List A → List A) → List A → List A
  over [] k f l = f l
  over (b ∷ bs) k f [] = []
  over (b ∷ bs) k f (x ∷ l) = N.mul (k b) x ∷ over bs k f l

  abbrev pub later : List ℕ → (ℕ → A) → (ℕ → A) → List A → List A
  later bs u v [] = []
  later bs u v (a ∷ []) = []
  later bs u v (a ∷ e ∷ l) = N.add N.one a ∷ N.neg e ∷ over bs u (over bs v (λ l. l)) l

abbrev pub keep : {A : Type 0} → List ℕ → (List A → List A) → List A → List A
keep [] f l = f l
keep (b ∷ bs) f [] = []
keep (b ∷ bs) f (x ∷ l) = x ∷ keep bs f l

abbrev pub on_variables : {A : Type 0} → List ℕ → (List A → List A) → List A → List A
on_variables bs f [] = []
on_variables bs f (a ∷ []) = []
on_variables bs f (a ∷ e ∷ l) = a ∷ e ∷ keep bs (keep bs f) l
