-- How a certificate is written: an object with version 2 and its members in the order of their names, in which each cofactor but 0 stands behind its position.
--   poly_data names p          the text of a polynomial
--   list_data f us             the list of what f makes of each
--   pair_data names k p        the pair of a position and a cofactor
--   pair_of names k p          this pair alone, or none where the cofactor is 0
--   pairs names k row          those of each cofactor, the first of row at position k
--   row_data, block_data       the cofactors of a polynomial, and those of a branch
--   document basis steps vars  the object of these members
--   document_of names c        the value of a certificate;  text_of: its compact text
--   AreBlanks bytes            spaces and line feeds
--   IsReadBack names p         the text of p is read as p
--   IsReadable names c         each polynomial of c is, and its lists of cofactors are square
--   IsWritten data P a v       the value v is the data of a, and P of a
use Rattle.std.specs.Prelude.{◌≡◌, ◌⊎◌, ⊤, ℕ, suc, List, [], ◌∷◌, ◌++◌, All, map, length, codes, IsSomeAnd}
use Rattle.serde_json.specs.Data.{Data, number, string, array, object, unsigned, item, no_items, member, no_members}
use Rattle.serde_json.specs.View.{view, items_of}
use Rattle.serde_json.specs.Written.{compact_text}
use Rattle.serde_json.specs.declared.value.Value.{Value}
use Rattle.algebra.specs.Fraction.{Fraction, ℚ}
use Rattle.polynomials.specs.Terms.{Terms, Same}
use Rattle.loops.specs.Certificate.{Certificate}
use Rattle.poly_text.specs.Flat.{flat_of}
use Rattle.poly_text.specs.Printed.{polynomial_text}
use Rattle.loop_model.specs.Ascii.{line_feed, blank}

abbrev pub poly_data : List (List ℕ) → Terms Fraction → Data
poly_data names p = string (polynomial_text names p)

abbrev pub list_data : {A : Type 0} → (A → Data) → List A → Data
list_data f us = array (items_of (map f us))

abbrev pub pair_data : List (List ℕ) → ℕ → Terms Fraction → Data
pair_data names k p = array (item (number (unsigned k)) (item (poly_data names p) no_items))

abbrev pub pair_of : List (List ℕ) → ℕ → Terms Fraction → List Data
pair_of names k [] = []
pair_of names k (t ∷ p) = pair_data names k (t ∷ p) ∷ []

abbrev pub pairs : List (List ℕ) → ℕ → List (Terms Fraction) → List Data
pairs names k [] = []
pairs names k (p ∷ row) = pair_of names k p ++ pairs names (suc k) row

abbrev pub row_data : List (List ℕ) → List (Terms Fraction) → Data
row_data names row = array (items_of (pairs names 0 row))

abbrev pub block_data : List (List ℕ) → List (List (Terms Fraction)) → Data
block_data names rows = list_data (row_data names) rows

abbrev pub document : Data → Data → Data → Data
document basis steps vars =
    object (member (codes "basis") basis (member (codes "steps") steps
    (member (codes "vars") vars (member (codes "version") (number (unsigned 2)) no_members))))

abbrev pub document_of : List (List ℕ) → Certificate → Data
document_of names c =
    document (list_data (poly_data names) c.basis) (list_data (block_data names) c.steps)
    (list_data string names)

unfoldable pub text_of : List (List ℕ) → Certificate → List ℕ
text_of names c = compact_text (document_of names c)

abbrev pub AreBlanks : List ℕ → Type 0
AreBlanks [] = ⊤
AreBlanks (x ∷ xs) = ((x ≡ blank) ⊎ (x ≡ line_feed)) × AreBlanks xs

pub record IsReadBack (names : List (List ℕ)) (p : Terms Fraction) : Type 0 where
  pub read : IsSomeAnd (flat_of names (polynomial_text names p)) (λ q. Same ℚ q p)

pub record IsReadable (names : List (List ℕ)) (c : Certificate) : Type 0 where
  pub elements : All (IsReadBack names) c.basis
  pub cofactors : All (All (All (IsReadBack names))) c.steps
  pub heights : All (λ rows. length rows ≡ length c.basis) c.steps
  pub widths : All (All (λ row. length row ≡ length c.basis)) c.steps

pub record IsWritten {A : Type 0} (data_of : A → Data) (P : A → Type 0) (a : A) (v : Value) : Type
    0 where
  pub value : view v ≡ data_of a
  pub holds : P a
