-- What is written has no float, and nests less deep than what is read.
--   IsFlat n float deep     there is no float, and the depth is at most n
--   IsPlain n d      so it is of the value d;  ArePlain n ds: of items
--   none             no items or members, and numbers and texts;  more: one more item or member;  whole: the array or object of them
--   each_plain       a list of what is plain
--   plain            a certificate's document
use Rattle.std.proofs.Common.{◌≡◌, ℕ, suc, max, ◌≤◌, List, [], ◌∷◌, map, refl, arith}
use Rattle.std.specs.Prelude.{Bool, false, ◌||◌}
use Rattle.std.proofs.Math.Nat.{le_refl, le_trans, max-le}
use Rattle.std.proofs.lemmas.Bool.{or_from}
use Rattle.serde_json.specs.Data.{Data, string, Items, depth, items_depth}
use Rattle.serde_json.specs.View.{items_of}
use Rattle.serde_json.specs.Read.{max_depth}
use Rattle.serde_json.specs.Written.{has_float, items_have_float}
use Rattle.algebra.specs.Fraction.{Fraction}
use Rattle.polynomials.specs.Terms.{Terms}
use Rattle.loops.specs.Certificate.{Certificate}
use Rattle.cert_form.specs.Written.{poly_data, list_data, pair_data, pairs, row_data, block_data, document_of}

pub record IsFlat (n : ℕ) (float : Bool) (deep : ℕ) : Type 0 where
  pub no_float : float ≡ false
  pub within : deep ≤ n

abbrev pub IsPlain : ℕ → Data → Type 0
IsPlain n d = IsFlat n (has_float d) (depth d)

abbrev pub ArePlain : ℕ → Items → Type 0
ArePlain n ds = IsFlat n (items_have_float ds) (items_depth ds)

-- no item and no member, a number and a text
pub none : (n : ℕ) → IsFlat n false 0
none n = record { no_float = refl; within = (let z : 0 ≤ n = omega arith in z) }

-- one more of them
pub more : (n : ℕ) {k : ℕ} {b c : Bool} {i j : ℕ} → IsFlat k b i → k ≤ n → IsFlat n c j
    → IsFlat n (b || c) (max i j)
more n one deep rest = record {
  no_float = or_from _ _ one.no_float rest.no_float;
  within = max-le (le_trans one.within deep) rest.within;
}

-- an array and an object
pub whole : {n : ℕ} {b : Bool} {i : ℕ} → IsFlat n b i → IsFlat (suc n) b (suc i)
whole h = record { no_float = h.no_float; within = (let w = h.within in omega (arith, w)) }

pub each_plain : {A : Type 0} (f : A → Data) (n : ℕ) → ((a : A) → IsPlain n (f a)) → (us : List A)
    → IsPlain (suc n) (list_data f us)
each_plain f n one us = whole (go us)
  where
    go : (xs : List _) → ArePlain n (items_of (map f xs))
    go [] = none n
    go (a ∷ xs) = more n (one a) (le_refl n) (go xs)

-- ---- a certificate
pair_plain : (names : List (List ℕ)) (k : ℕ) (p : Terms Fraction) → IsPlain 1 (pair_data names k p)
pair_plain names k p = whole (more 0 (none 0) (le_refl 0)
    (more 0 (none 0) (le_refl 0) (none 0)))

pairs_plain : (names : List (List ℕ)) (k : ℕ) (row : List (Terms Fraction))
    → ArePlain 1 (items_of (pairs names k row))
pairs_plain names k [] = none 1
pairs_plain names k ([] ∷ row) = pairs_plain names (suc k) row
pairs_plain names k ((t ∷ p) ∷ row) = more 1 (pair_plain names k (t ∷ p)) (le_refl 1)
    (pairs_plain names (suc k) row)

block_plain : (names : List (List ℕ)) (rows : List (List (Terms Fraction)))
    → IsPlain 3 (block_data names rows)
block_plain names rows = each_plain (row_data names) 2 (λ row. whole
    (pairs_plain names 0 row)) rows

pub plain : (names : List (List ℕ)) (c : Certificate) → IsPlain max_depth (document_of names c)
plain names c = whole
    (more 126 (each_plain (poly_data names) 0 (λ p. none 0) c.basis) (omega arith)
    (more 126 (each_plain (block_data names) 3 (block_plain names) c.steps) (omega arith)
    (more 126 (each_plain string 0 (λ x. none 0) names) (omega arith)
    (more 126 (none 0) (omega arith) (none 126)))))
