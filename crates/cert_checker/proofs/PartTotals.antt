-- Parts counted one after another.
--   total_none, total_then       none, and some behind others
--   beyond_in                    where the count goes beyond the limit within some of the parts, behind those that were counted, it goes so
--   beyond_first                 so within the first of them;  not_beyond: all are few
--   total_map, beyond_map        images of the parts
--   total_free                   parts that multiply out to nothing
--   number_next, number_beyond   the number that comes next, by what is told of it
--   several_next, several_beyond     lists of parts that are numbered, one more
use Rattle.std.proofs.Common.{◌≡◌, ℕ, suc, ◌+◌, ◌-◌, ◌<◌, ◌≤◌, List, [], ◌∷◌, ◌++◌, map, flat_map, Option, Some, refl, sym, ap, subst, ◌∙◌, arith, append_assoc}
use native.Mathlib.Nat as N
use Rattle.std.specs.List.{sum_by}
use Rattle.std.proofs.lemmas.Grind.{flat_map-append}
use Rattle.std.proofs.lemmas.List.{map-append, append-nil}
use Rattle.std.proofs.lemmas.List.Sums.{sum_by-append, sum_by-cons}
use Rattle.exponentials.specs.Table.{numbers}
use Rattle.expansion.specs.Counts.{most_terms, IsCount}
use Rattle.expansion.proofs.Counting.{none_above, some_is}
use Rattle.cert_checker.specs.LongParts.{IsTotal, IsFirstBeyond}
use Rattle.cert_checker.proofs.Stopping.{from_zero, one_more}

module _ {A : Type 0} (f : A → ℕ) where
  pub total_none : (t : ℕ) → t ≤ most_terms → IsTotal f t [] t
  total_none t few = (sym (N.add-zero t), few)

  pub total_then : (t s u : ℕ) (ps qs : List A) → IsTotal f t ps s → IsTotal f s qs u
      → IsTotal f t (ps ++ qs) u
  total_then t s u ps qs a b =
      let both = sum_by-append f ps qs in
      let first = a.0 in
      let last = b.0 in
      (omega (arith, both, first, last), b.1)

  pub beyond_in : (t s : ℕ) {ps : List A} (done : List A) {here : List A} (rest : List A) {a : A}
      → ps ≡ done ++ (here ++ rest) → IsTotal f t done s → IsFirstBeyond f s here a
      → IsFirstBeyond f t ps a
  beyond_in t s done rest {a = a} is d b =
      let both = sum_by-append f done b.earlier in
      let so_far = d.0 in
      let few = b.few in
      let many = b.many in
      record {
        earlier = done ++ b.earlier;
        later = b.later ++ rest;
        is = is ∙ ap (λ h. done ++ (h ++ rest)) b.is
            ∙ ap (λ h. done ++ h) (append_assoc b.earlier (a ∷ b.later) rest)
            ∙ sym (append_assoc done b.earlier (a ∷ (b.later ++ rest)));
        few = omega (arith, both, so_far, few);
        many = omega (arith, both, so_far, many);
      }

  pub beyond_first : (t : ℕ) {here : List A} (rest : List A) (a : A) → IsFirstBeyond f t here a
      → IsFirstBeyond f t (here ++ rest) a
  beyond_first t rest a b = record {
    earlier = b.earlier;
    later = b.later ++ rest;
    is = ap (λ h. h ++ rest) b.is ∙ append_assoc b.earlier (a ∷ b.later) rest;
    few = b.few;
    many = b.many;
  }

  pub not_beyond : (ps : List A) (a : A) → sum_by f ps ≤ most_terms → IsFirstBeyond f 0 ps a → ⊥
  not_beyond ps a few b =
      let is = ap (sum_by f) b.is in
      let both = sum_by-append f b.earlier (a ∷ b.later) in
      let own = sum_by-cons f a b.later in
      let many = b.many in
      absurd (omega (arith, is, both, own, many, few))

  pub total_free : (t : ℕ) (ps : List A) → t ≤ most_terms → ((a : A) → f a ≡ 0) → IsTotal f t ps t
  total_free t ps few h = (let none = free ps in omega (arith, none), few)
    where
      free : (ps : List A) → sum_by f ps ≡ 0
      free [] = refl
      free (p ∷ ps) =
          let more = sum_by-cons f p ps in
          let own = h p in
          let rest = free ps in
          omega (arith, more, own, rest)

-- ---- images
module _ {A B : Type 0} (f : B → ℕ) (g : A → B) where
  sum_map : (ps : List A) → sum_by f (map g ps) ≡ sum_by (λ a. f (g a)) ps
  sum_map [] = refl
  sum_map (p ∷ ps) = sum_by-cons f (g p) (map g ps) ∙ ap (λ n. f (g p) + n) (sum_map ps)
      ∙ sym (sum_by-cons (λ a. f (g a)) p ps)

  pub total_map : (t : ℕ) {s : ℕ} (ps : List A) → IsTotal (λ a. f (g a)) t ps s
      → IsTotal f t (map g ps) s
  total_map t ps h = (h.0 ∙ ap (λ n. t + n) (sym (sum_map ps)), h.1)

  pub beyond_map : {t : ℕ} {ps : List A} (a : A) → IsFirstBeyond (λ a. f (g a)) t ps a
      → IsFirstBeyond f t (map g ps) (g a)
  beyond_map a h =
      let same = sum_map h.earlier in
      let few = h.few in
      let many = h.many in
      record {
        earlier = map g h.earlier;
        later = map g h.later;
        is = ap (map g) h.is ∙ map-append g h.earlier (a ∷ h.later);
        few = omega (arith, same, few);
        many = omega (arith, same, many);
      }

-- ---- the next number
module _ (f : ℕ → ℕ) (t : ℕ) {s : ℕ} (i : ℕ) (counted : IsTotal f t (numbers 0 i) s) {o : Option ℕ}
    (told : IsCount (s + f i) o) where
  pub number_next : (u : ℕ) → o ≡ Some u → IsTotal f t (numbers 0 (i + 1)) u
  number_next u is =
      let found = some_is (s + f i) u o told is in
      subst (λ ns. IsTotal f t ns u) (sym (one_more i))
      (total_then f t s u (numbers 0 i) (i ∷ []) counted (
        found.0 ∙ ap (λ n. s + n) (sym (sum_by-cons f i [] ∙ N.add-zero (f i))),
        (let same = found.0 in let few = found.1 in omega (arith, same, few)),
      ))

  pub number_beyond : (n : ℕ) → i < n → ((k : ℕ) → o ≡ Some k → ⊥)
      → IsFirstBeyond f t (numbers 0 n) i
  number_beyond n l none =
      let past = none_above (s + f i) o told none in
      let so_far = counted.0 in
      let few = counted.1 in
      record {
        earlier = numbers 0 i;
        later = numbers (suc i) (n - suc i);
        is = from_zero i n l;
        few = omega (arith, so_far, few);
        many = omega (arith, so_far, past);
      }

-- ---- lists of parts that are numbered
module _ {A : Type 0} (f : A → ℕ) (parts : ℕ → List A) (t : ℕ) {s : ℕ} (i : ℕ)
    (counted : IsTotal f t (flat_map parts (numbers 0 i)) s) where
  pub several_next : (u : ℕ) → IsTotal f s (parts i) u
      → IsTotal f t (flat_map parts (numbers 0 (i + 1))) u
  several_next u h =
      subst (λ ps. IsTotal f t ps u) (sym (ap (flat_map parts) (one_more i)
      ∙ flat_map-append parts (numbers 0 i) (i ∷ [])
      ∙ ap (λ ps. flat_map parts (numbers 0 i) ++ ps) (append-nil (parts i))))
      (total_then f t s u (flat_map parts (numbers 0 i)) (parts i) counted h)

  pub several_beyond : (n : ℕ) {a : A} → i < n → IsFirstBeyond f s (parts i) a
      → IsFirstBeyond f t (flat_map parts (numbers 0 n)) a
  several_beyond n {a = a} l b = beyond_in f t s
      (flat_map parts (numbers 0 i)) _ (ap (flat_map parts) (from_zero i n l) ∙ flat_map-append
      parts (numbers 0 i) (i ∷ numbers (suc i) (n - suc i))) counted b
